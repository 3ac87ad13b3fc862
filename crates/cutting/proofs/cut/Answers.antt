use mathlib.Core.Bool.{Bool, false}
use mathlib.Core.List.{List}
use mathlib.Core.Path.{◌≡◌, ◌∙◌, sym, ap}
use Prim.Native.Nat.{ℕ, ◌/◌, ◌≤◌}
use native.Mathlib.Omega.{arith}
use lib.ListN.{length}
use Rattle.outlines.specs.Outline.{cause14}
use Rattle.simplicity.proofs.CornerLaws.{outline-is, outline_length}
use Rattle.cutting.proofs.ServiceLaws.{unfit_told, short-told, few_bytes, few-corners, is_cut, cut-told}
use Rattle.cutting.proofs.cut.Goals as goal

-- An outline that is not refused has no cause for 14, and three to eight corners.
fit_corners : (s : List ℕ) (r : Bool) → r ≡ cause14 s → r ≡ false
    → (cause14 s ≡ false) × ((3 ≤ length s / 2) × (length s / 2 ≤ 8))
fit_corners s r e f = let fit = sym e ∙ f in (fit, few-corners s fit)

pub returns-then-unfit : goal.returns-then-unfit
returns-then-unfit c =
    let r = unfit_told c.args.outline.now c.args.answer.now (sym c.unfit.ensures ∙ c.if-unfit.true) in
    record { value = r.0; answer_after = r.1 }

pub returns-then-answer-lt36 : goal.returns-then-answer-lt36
returns-then-answer-lt36 c =
    let f = fit_corners c.args.outline.now _ c.unfit.ensures c.if-unfit.false in
    let r = short-told c.args.outline.now c.args.answer.now f.0 (omega (arith, c.if-answer-lt36.true)) in
    record { value = r.0; answer_after = r.1 }

pub corners_in-corners-requires : goal.corners_in-corners-requires
corners_in-corners-requires c =
    omega (arith, few_bytes c.args.outline.now (fit_corners c.args.outline.now _ c.unfit.ensures c.if-unfit.false).0)

pub shared_whole_as_front-cut_off : goal.shared_whole_as_front-cut_off
shared_whole_as_front-cut_off c = (
  (few-corners c.args.outline.now (fit_corners c.args.outline.now _ c.unfit.ensures c.if-unfit.false).0).1,
  omega
      arith,
)

pub cut_off-count-requires : goal.cut_off-count-requires
cut_off-count-requires c =
    let f = fit_corners c.args.outline.now _ c.unfit.ensures c.if-unfit.false in
    let size = ap length c.corners_in-corners.ensures ∙ outline_length c.args.outline.now in
    record {
      in_bounds = (omega (arith, f.1), omega (arith, f.1, c.if-answer-lt36.false));
      cut_to_the_end = is_cut c.args.outline.now c.args.answer.now f.0 _ (c.corners_in-corners.ensures ∙ outline-is
          c.args.outline.now);
    }

pub returns : goal.returns
returns c =
    let size = ap length c.corners_in-corners.ensures ∙ outline_length c.args.outline.now in
    let f = fit_corners c.args.outline.now _ c.unfit.ensures c.if-unfit.false in
    let r =
    cut-told c.args.outline.now c.args.answer.now f.0 _ (c.corners_in-corners.ensures ∙ outline-is c.args.outline.now)
    (omega (arith, c.if-answer-lt36.false)) _ _ c.cut_off-count.ensures.value.0
    (omega (arith, c.cut_off-count.ensures.value.1, f.1)) c.cut_off-count.ensures.answer_after in
    record { value = r.0; answer_after = r.1 }
