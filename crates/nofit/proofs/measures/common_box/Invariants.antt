-- `nofit::measures::common_box` meets its contract. Assumes nothing.
use Rattle.job.specs.View.{rotations_of}
use Rattle.nofit.specs.Measures.{Around}
use Rattle.nofit.proofs.measures.common_box.Given as goal

abbrev pub invariant-loop-i : goal.invariant-loop-i
invariant-loop-i l = Around (rotations_of l.view) l.boxes.of l.i l.e
