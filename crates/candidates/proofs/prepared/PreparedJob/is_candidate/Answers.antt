use mathlib.Core.Path.{◌∙◌}
use Rattle.candidates.proofs.PreparedLaws.{bounded, offered-is}
use Rattle.candidates.proofs.prepared.PreparedJob.is_candidate.Goals as goal

pub is_candidate-requires : goal.is_candidate-requires
is_candidate-requires c = let j = c.args.self.now in (bounded j.job.now j.view j.prepared.viewed, c.requires)

pub returns : goal.returns
returns c =
    let j = c.args.self.now in
    let x = j.prepared.viewed in
    c.is_candidate.ensures ∙ offered-is j.job.now j.view j.boxes x j.prepared.boxes c.args.kind (rw x.view.kinds at
    c.requires) c.args.number
