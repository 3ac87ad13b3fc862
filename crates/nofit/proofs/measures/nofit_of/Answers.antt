-- `nofit::measures::nofit_of` meets its contract. Assumes nothing.
use native.Mathlib.Nat.{le_trans, mul-le-mul_right}
use native.Mathlib.Omega.{arith}
use Rattle.candidates.proofs.PreparedLaws.{bounded}
use Rattle.nofit.proofs.MeasureLaws.{step_range, dots-most, measures-of}
use Rattle.nofit.proofs.measures.nofit_of.Goals as goal

pub parity_words-first-requires : goal.parity_words-first-requires
parity_words-first-requires c =
    let s = c.args.job.now in
    ((step_range s c.args.view c.requires.0).1.1, dots-most s c.args.view c.requires.0)

pub string_words-size-requires : goal.string_words-size-requires
string_words-size-requires c =
    let s = c.args.job.now in
    let v = c.args.view in
    let x = c.requires.0 in
    ((c.reach_of-reach.ensures.1.0, (bounded s v x).rows.0), le_trans (mul-le-mul_right v.rows c.reach_of-reach.ensures.1.1) (dots-most s v x))

pub strings_held-requires : goal.strings_held-requires
strings_held-requires c = ((bounded c.args.job.now c.args.view c.requires.0).kinds, omega (arith, c.string_words-size.ensures.0))

pub returns : goal.returns
returns c = (
  measures-of c.args.job.now c.args.view c.requires.0 _ _ _ _ c.reach_of-reach.ensures c.parity_words-first.ensures c.string_words-size.ensures c.strings_held.ensures.0,
  c.strings_held.ensures.1,
)
