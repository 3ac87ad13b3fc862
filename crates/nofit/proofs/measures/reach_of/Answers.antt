-- `nofit::measures::reach_of` meets its contract. Assumes nothing.
use mathlib.Core.Path.{subst}
use lib.IntN.{pos, ◌+ℤ◌, ◌-ℤ◌}
use lib.Signed.{◌≤ℤ◌}
use mir.Syntax.{w16}
use borrow.Author.Rules.{rules}
use Rattle.integers.proofs.Machine.{read₂}
use Rattle.candidates.proofs.PreparedLaws.{bounded}
use Rattle.nofit.proofs.MeasureLaws.{reaching, step_range}
use Rattle.nofit.proofs.measures.reach_of.Goals as goal

pub common_box-all-requires : goal.common_box-all-requires
common_box-all-requires c = bounded c.args.job.now c.args.view c.requires.0

pub largest_gap-requires : goal.largest_gap-requires
largest_gap-requires c = bounded c.args.job.now c.args.view c.requires.0

pub columns_over-requires : goal.columns_over-requires
columns_over-requires c =
    let s = c.args.job.now in
    (c.span_of-span.ensures.1, step_range s c.args.view c.requires.0)

pub returns : goal.returns
returns c =
    let s = c.args.job.now in
    let all = c.common_box-all.result in
    let gap = c.largest_gap.result in
    let span = c.span_of-span.result in
    let wide : ((all.max_x -ℤ all.min_x) +ℤ pos gap) ≤ℤ pos span =
    subst (λ z. z ≤ℤ pos span) (read₂ w16 all.min_x all.max_x (search rules) (search rules) (λ low high. (high -ℤ low) +ℤ pos gap)) c.span_of-span.ensures.0 in (
      reaching s c.args.view c.args.boxes c.requires.0 c.requires.1 all gap span _ c.common_box-all.ensures c.largest_gap.ensures.1 wide c.columns_over.ensures,
      (c.columns_over.ensures.some, c.columns_over.ensures.most),
    )
