use mathlib.Core.Path.{◌≡◌, refl, sym, ap, subst, ◌∙◌}
use Prim.Native.Nat.{◌+◌, ◌%◌}
use native.Mathlib.Omega.{arith}
use borrow.Author.Rules.{rules}
use Rattle.words.specs.Bits.{test_bit}
use Rattle.nofit.proofs.FillingLaws.{TurnsSet, first-set, turned-set, turns_none, turns_next, turns_skipped, turns_all}
use Rattle.nofit.proofs.patterns.Source.word.Goals as goal
use Rattle.nofit.proofs.patterns.Source.word.Goals.{then-test_bit, else-test_bit}

pub returns-then-word-eq0 : goal.returns-then-word-eq0
returns-then-word-eq0 c =
    let f = c.args.self.now in
    first-set f.turned.now f.pattern f.placed.piece f.other c.args.word c.first_word.result c.if-word-eq0.true f.ready.0.bound c.first_word.ensures

pub loop-k-init : goal.loop-k-init
loop-k-init c = (omega arith, turns_none c.args.self.now.pattern.mask _ _)

pub turn_word-v-requires : goal.turn_word-v-requires
turn_word-v-requires c = record { rotation = omega arith; word_bounds = omega arith }

pub loop-k-preserved : goal.loop-k-preserved
loop-k-preserved c =
    let f = c.args.self.now in
    let mask = f.pattern.mask in
    let k = c.loop-k.k in
    let m : k % 64 ≡ k = omega arith in
    elim c.if-test_bit.branch [
      | then-test_bit w ↦ (
        search rules,
        subst (TurnsSet mask (k + 1) _) (sym w.v-is)
            (turns_next mask k _ c.loop-k.v w.turn_word-v.result c.loop-k.invariant.1
            (turned-set f.turned.now f.pattern f.placed.piece f.other c.args.word k c.loop-k.v w.turn_word-v.result _ _ f.placed _ _
            w.facing.ensures.at.0 w.facing.ensures.at.1.0 w.facing.ensures.at.1.1 refl w.facing.ensures.other w.turn_word-v.ensures)),
      )
      | else-test_bit w ↦ (
        search rules,
        subst (TurnsSet mask (k + 1) _) (sym w.v-is)
            (turns_skipped mask k _ c.loop-k.v c.loop-k.invariant.1
            (ap (test_bit mask) (sym m) ∙ sym c.test_bit.ensures ∙ w.if-test_bit.false)),
      )
    ]

pub returns : goal.returns
returns c = turns_all c.args.self.now.pattern.mask _ c.loop-k.v c.loop-k.k (omega arith) c.loop-k.invariant.1
