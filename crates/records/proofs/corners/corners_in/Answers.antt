use native.Mathlib.Omega.{arith}
use Rattle.records.proofs.CornerLaws.{corners-all}
use Rattle.records.proofs.corners.corners_in.Goals as goal

pub returns : goal.returns
returns c = corners-all c.args.bytes.now c.loop-k.corners c.loop-k.k (omega arith)
    (omega (arith, c.loop-k.invariant.0)) c.loop-k.invariant.1
