use native.Mathlib.Omega.{arith}
use Rattle.nofit.proofs.PairLaws.{some-rows}
use Rattle.nofit.proofs.patterns.make_nofit.Goals as goal

pub fill_parities-requires : goal.fill_parities-requires
fill_parities-requires c =
    let m = c.requires.measures_of.0 in
    ((some-rows c.args.job.now c.args.nofit m, m.small.0), omega (arith, c.requires.measures_of.1))
