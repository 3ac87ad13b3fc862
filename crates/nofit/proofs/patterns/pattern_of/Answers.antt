-- `nofit::patterns::pattern_of` meets its contract. Assumes nothing.
use Prim.Native.Nat.{◌*◌}
use Rattle.job.specs.View.{rotations_of}
use Rattle.nofit.proofs.patterns.pattern_of.Goals as goal

pub returns : goal.returns
returns c =
    let v = c.args.view.now in
    let w = c.args.nofit in
    let x = c.args.x in
    λ j. record {
      step = v.step;
      rows = w.rows;
      reach = w.reach;
      lift = c.from.ensures j * w.rows;
      below = c.bound_of.ensures j;
      mask = rotations_of v x.other;
      gap = c.pair_gap.ensures j;
    }
