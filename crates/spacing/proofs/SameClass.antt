-- Two types whose best-ranked classes have one id have the same best-ranked class: it stays the best of every choice of classes that it belongs to, and so of those that both
-- types name.
use mathlib.Core.Bool.{Bool, true, false, cond, true≢false}
use mathlib.Core.List.{List, [], ◌∷◌}
use mathlib.Core.Logic.{⊎_elim}
use mathlib.Core.Option.{Option, none, some, some-injective, some-ne-none}
use mathlib.Core.Path.{◌≡◌, refl, sym, ap, subst, ◌∙◌}
use Prim.Native.Nat.{◌≤◌, ◌<◌}
use native.Mathlib.Omega.{arith}
use borrow.Author.Tests.{lt-ltb, le-ltb}
use Rattle.words.specs.Bits.{test_bit}
use Rattle.words.proofs.Cases.{le_or_lt}
use Rattle.model.specs.Content.{SpacingClass, Kind}
use Rattle.model.specs.Gap.{names, outranks, better, best_from, best_ranked, best_class}
use Rattle.model.specs.Lists.{keep}
use Rattle.model.proofs.Ranks.{best-named}

-- ---- The best of a choice

better-yes : (a x : SpacingClass) → x.rank < a.rank → better a x ≡ x
unfolding better outranks
better-yes a x h = rw (lt-ltb x.rank a.rank h)

better-no : (a x : SpacingClass) → a.rank ≤ x.rank → better a x ≡ a
unfolding better outranks
better-no a x h = rw (le-ltb x.rank a.rank h)

-- The best of the classes before, if there is one, and the classes.
folded : Option SpacingClass → List SpacingClass → Option SpacingClass
folded none cs = best_ranked cs
folded (some c) cs = some (best_from c cs)

-- The best of the classes before and one more.
with_one : Option SpacingClass → SpacingClass → SpacingClass
with_one none c = c
with_one (some b) c = better b c

module _ (h : SpacingClass → Bool) where
  -- The best so far of all classes, and of those that are chosen: the same if it is chosen, and otherwise none or no better one.
  data Beside : SpacingClass → Option SpacingClass → Type 0 where
    same : {a : SpacingClass} → Beside a (some a)
    without : {a : SpacingClass} → h a ≡ false → Beside a none
    behind : {a b : SpacingClass} → h a ≡ false → a.rank ≤ b.rank → Beside a (some b)

  -- The best of the chosen classes and one more, if that is chosen.
  abbrev with_chosen : Option SpacingClass → SpacingClass → Option SpacingClass
  with_chosen o x = cond (h x) (some (with_one o x)) o

  -- One more class, which is better than all before it.
  ahead : (a x : SpacingClass) (o : Option SpacingClass) (t : Bool) → h x ≡ t → x.rank < a.rank → Beside a o → Beside x (cond t (some (with_one o x)) o)
  unfolding with_one
  ahead a x _ true e l same = subst (λ y. Beside x (some y)) (sym (better-yes a x l)) same
  ahead a x _ true e l (without n) = same
  ahead a x (some b) true e l (behind n r) = subst (λ y. Beside x (some y)) (sym (better-yes b x (omega arith))) same
  ahead a x _ false e l same = behind {b = a} e (omega arith)
  ahead a x _ false e l (without n) = without e
  ahead a x (some b) false e l (behind n r) = behind {b = b} e (omega arith)

  -- One more class, which is not.
  after : (a x : SpacingClass) (o : Option SpacingClass) (t : Bool) → a.rank ≤ x.rank → Beside a o → Beside a (cond t (some (with_one o x)) o)
  unfolding with_one
  after a x _ true l same = subst (λ y. Beside a (some y)) (sym (better-no a x l)) same
  after a x _ true l (without n) = behind n l
  after a x (some b) true l (behind n r) =
      behind n (⊎_elim (λ q. subst (λ (y : SpacingClass). a.rank ≤ y.rank) (sym (better-no b x q)) r) (λ q. subst (λ (y : SpacingClass). a.rank ≤ y.rank) (sym (better-yes b x q)) l) (le_or_lt b.rank x.rank))
  after a x o false l r = r

  stays : (a x : SpacingClass) (o : Option SpacingClass) → Beside a o → Beside (better a x) (with_chosen o x)
  stays a x o r =
      ⊎_elim (λ l. subst (λ y. Beside y (with_chosen o x)) (sym (better-no a x l)) (after a x o (h x) l r))
      (λ l. subst (λ y. Beside y (with_chosen o x)) (sym (better-yes a x l)) (ahead a x o (h x) refl l r))
      (le_or_lt a.rank x.rank)

  one_more : (x : SpacingClass) (cs : List SpacingClass) (o : Option SpacingClass) → folded o (keep h (x ∷ cs)) ≡ folded (with_chosen o x) (keep h cs)
  unfolding keep folded with_one best_ranked best_from
  one_more x cs o = go (h x) o
    where
      go : (t : Bool) (o : Option SpacingClass) → folded o (cond t (x ∷ keep h cs) (keep h cs)) ≡ folded (cond t (some (with_one o x)) o) (keep h cs)
      go true none = refl
      go true (some b) = refl
      go false o = refl

  chosen : (cs : List SpacingClass) (a : SpacingClass) (o : Option SpacingClass) → Beside a o → h (best_from a cs) ≡ true → folded o (keep h cs) ≡ some (best_from a cs)
  unfolding keep folded best_ranked best_from
  chosen [] a _ same e = refl
  chosen [] a _ (without n) e = absurd (true≢false (sym e ∙ n))
  chosen [] a _ (behind n r) e = absurd (true≢false (sym e ∙ n))
  chosen (x ∷ cs) a o r e = one_more x cs o ∙ chosen cs (better a x) (with_chosen o x) (stays a x o r) e

  -- The best-ranked class is the best-ranked of every choice that it belongs to.
  best-chosen : (cs : List SpacingClass) (c : SpacingClass) → best_ranked cs ≡ some c → h c ≡ true → best_ranked (keep h cs) ≡ some c
  unfolding keep folded best_ranked
  best-chosen [] c e q = absurd (some-ne-none c (sym e))
  best-chosen (a ∷ cs) c e q = go (h a) refl ∙ e
    where
      q' : h (best_from a cs) ≡ true
      q' = subst (λ x. h x ≡ true) (sym (some-injective _ c e)) q

      go : (t : Bool) → h a ≡ t → best_ranked (cond t (a ∷ keep h cs) (keep h cs)) ≡ some (best_from a cs)
      go true n = chosen cs a (some a) same q'
      go false n = chosen cs a none (without n) q'

-- ---- Two types

-- Two choices may be made in either order.
keeps-commute : (f g : SpacingClass → Bool) (cs : List SpacingClass) → keep f (keep g cs) ≡ keep g (keep f cs)
unfolding keep
keeps-commute f g [] = refl
keeps-commute f g (c ∷ cs) = go (f c) (g c) refl refl (keeps-commute f g cs)
  where
    go : (a b : Bool) → f c ≡ a → g c ≡ b → keep f (keep g cs) ≡ keep g (keep f cs) → keep f (cond b (c ∷ keep g cs) (keep g cs)) ≡ keep g (cond a (c ∷ keep f cs) (keep f cs))
    go true true e q ih = rw (e, q) (ap (λ l. c ∷ l) ih)
    go true false e q ih = ih ∙ rw q
    go false true e q ih = rw e ih
    go false false e q ih = ih

-- Best-ranked classes of one id are one class, also where an id should occur twice.
pub best-same : (cs : List SpacingClass) (k m : Kind) (c d : SpacingClass) → best_class cs k ≡ some c → best_class cs m ≡ some d → c.id ≡ d.id → c ≡ d
unfolding best_class names
best-same cs k m c d ec ed e =
    let mc : names m c ≡ true = ap (test_bit m.classes) e ∙ best-named cs m d ed in
    let kd : names k d ≡ true = ap (test_bit k.classes) (sym e) ∙ best-named cs k c ec in
    some-injective c d
    (sym (best-chosen (names m) (keep (names k) cs) c ec mc)
    ∙ ap best_ranked (keeps-commute (names m) (names k) cs)
    ∙ best-chosen (names k) (keep (names m) cs) d ed kd)
