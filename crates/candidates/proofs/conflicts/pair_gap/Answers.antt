-- `candidates::conflicts::pair_gap` meets its contract. Assumes nothing.
use Rattle.job.specs.View.{gap_of}
use mathlib.Core.Path.{ap, ◌∙◌}
use native.Mathlib.Omega.{arith}
use Rattle.candidates.specs.Conflicts.{gap_between}
use Rattle.candidates.proofs.conflicts.pair_gap.Goals as goal

pub share_cut-requires : goal.share_cut-requires
share_cut-requires c = (omega (arith, c.requires.0.kinds, c.requires.1.0), omega (arith, c.requires.0.kinds, c.requires.1.1))

pub gap_between-requires : goal.gap_between-requires
gap_between-requires c = (c.requires.0.gaps c.args.kind c.requires.1.0, c.requires.0.gaps c.args.other c.requires.1.1)

pub returns : goal.returns
returns c = c.gap_between.ensures ∙ ap (gap_between (gap_of c.args.view.now c.args.kind) (gap_of c.args.view.now c.args.other)) c.share_cut.ensures
