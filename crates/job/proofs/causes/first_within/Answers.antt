use mathlib.Core.Path.{refl, sym, ◌∙◌}
use native.Mathlib.Omega.{arith}
use Rattle.model.proofs.Causes.{size-least, sections}
use Rattle.job.proofs.CauseLaws.{board-cause, classes-cause, kinds-cause, stopped, passed}
use Rattle.job.proofs.causes.first_within.Goals as goal

pub read_trailer-t-requires : goal.read_trailer-t-requires
read_trailer-t-requires c = size-least _ c.requires.0

pub unfit-requires : goal.unfit-requires
unfit-requires c = omega (arith, sections c.args.job.now c.requires.0 c.requires.1)

pub returns-then-unfit : goal.returns-then-unfit
returns-then-unfit c = stopped _ _ _ (sym (board-cause _ _ c.read_trailer-t.ensures.board) ∙ sym c.unfit.ensures ∙ c.if-unfit.true)

pub unfit-requires-2 : goal.unfit-requires-2
unfit-requires-2 c = omega (arith, sections c.args.job.now c.requires.0 c.requires.1)

pub returns-then-unfit-2 : goal.returns-then-unfit-2
returns-then-unfit-2 c =
    passed _ _ _ _ (sym (board-cause _ _ c.read_trailer-t.ensures.board) ∙ sym c.unfit.ensures ∙ c.if-unfit.false)
    (stopped _ _ _ (sym (classes-cause _ _ _ c.read_trailer-t.ensures.classes c.read_trailer-t.ensures.class_count) ∙ sym c.unfit-2.ensures ∙ c.if-unfit-2.true))

pub slice_bounds-unfit-end : goal.slice_bounds-unfit-end
slice_bounds-unfit-end c = omega (arith, sections c.args.job.now c.requires.0 c.requires.1)

pub unfit-requires-3 : goal.unfit-requires-3
unfit-requires-3 c = omega (arith, sections c.args.job.now c.requires.0 c.requires.1)

pub returns-then-in_range-unfit : goal.returns-then-in_range-unfit
returns-then-in_range-unfit c =
    let t = c.read_trailer-t.ensures in
    passed _ _ _ _ (sym (board-cause _ _ c.read_trailer-t.ensures.board) ∙ sym c.unfit.ensures ∙ c.if-unfit.false)
    (passed _ _ _ _ (sym (classes-cause _ _ _ c.read_trailer-t.ensures.classes c.read_trailer-t.ensures.class_count) ∙ sym c.unfit-2.ensures ∙ c.if-unfit-2.false)
    (stopped _ _ _ (sym (kinds-cause c.args.job.now _ _ t.kinds t.kinds_length _ _ _ _ _ (sections c.args.job.now c.requires.0 c.requires.1).kinds t.classes t.class_count t.kind_count c.in_range.ensures c.unfit-3.ensures) ∙ c.if-in_range-unfit.true)))

pub returns : goal.returns
returns c =
    let t = c.read_trailer-t.ensures in
    passed _ _ _ _ (sym (board-cause _ _ c.read_trailer-t.ensures.board) ∙ sym c.unfit.ensures ∙ c.if-unfit.false)
    (passed _ _ _ _ (sym (classes-cause _ _ _ c.read_trailer-t.ensures.classes c.read_trailer-t.ensures.class_count) ∙ sym c.unfit-2.ensures ∙ c.if-unfit-2.false)
    (passed _ _ _ _ (sym (kinds-cause c.args.job.now _ _ t.kinds t.kinds_length _ _ _ _ _ (sections c.args.job.now c.requires.0 c.requires.1).kinds t.classes t.class_count t.kind_count c.in_range.ensures c.unfit-3.ensures) ∙ c.if-in_range-unfit.false) refl))
