-- The test of a placement, step by step as the code makes it. Assumes nothing.
use mathlib.Core.Bool.{Bool, cond, true, false, not, ◌&&◌, ◌||◌}
use mathlib.Core.List.{[], ◌∷◌}
use mathlib.Core.Logic.{⊎_elim}
use mathlib.Core.Path.{◌≡◌, refl, sym, ap, ap₂, subst, ◌∙◌}
use Prim.Native.Nat.{ℕ, zero, suc, ◌%◌, ◌^◌, ◌≤◌, ◌<◌}
use native.Mathlib.Nat.{le_trans, lt_of_le_of_lt}
use native.Mathlib.Omega.{arith}
use borrow.Author.Tests.{lt-ltb, le-ltb, le-leb, lt-leb, leb-false, not-true, not-false}
use lib.Dec.{leb, ltb, lit≤, lit<}
use lib.IntN.{ℤ, pos, negsuc, nat_abs, ◌+ℤ◌, ◌-ℤ◌}
use mir.Syntax.{w16, w64}
use mir.Val.{Fits, SFits, to_z, of_z}
use mir.ValLaws.{to_z-of_z, to_z_pos}
use Rattle.std.specs.Int.{int_max}
use Rattle.integers.proofs.Products.{widened}
use Rattle.integers.proofs.Sizes.{bounded, size_of, fits-64}
use Rattle.integers.proofs.Solver.{◌⊞◌, ◌⊟◌}
use Rattle.words.specs.Bits.{test_bit}
use Rattle.words.proofs.Bit.{test_bit-above}
use Rattle.words.proofs.Cases.{le_or_lt}
use Rattle.model.specs.Candidate.{natural}
use Rattle.model.proofs.Lists.{not_both, or_left, or_right}

-- ---- a coordinate moved

-- of 16 bits, read in 64
pub wide_fits : (z : ℤ) → SFits w16 z → SFits w64 (to_z w16 (of_z w16 z))
wide_fits z f = rw (to_z-of_z w16 z f) (widened w16 w64 z f tt)

module _ (z : ℤ) (n : ℕ) (f : SFits w16 z) (h : n ≤ 1000) where
  sum_fits : SFits w64 (z +ℤ pos n)
  sum_fits = fits-64 (z +ℤ pos n) (le_trans (bounded (2 ^ 15 ∷ 1000 ∷ []) 2 (λ z n. z ⊞ n) z (pos n) (size_of w16 z f) h) (lit≤ tt))

  sum-read : to_z w64 (of_z w64 (to_z w16 (of_z w16 z))) +ℤ to_z w64 n ≡ z +ℤ pos n
  sum-read =
      ap (λ s. s +ℤ to_z w64 n) (to_z-of_z w64 (to_z w16 (of_z w16 z)) (wide_fits z f) ∙ to_z-of_z w16 z f)
      ∙ ap (λ s. z +ℤ s) (to_z_pos w64 n (lt_of_le_of_lt h (lit< tt)))

  pub moved-fits : SFits w64 (to_z w64 (of_z w64 (to_z w16 (of_z w16 z))) +ℤ to_z w64 n)
  moved-fits = subst (SFits w64) (sym sum-read) sum_fits

  pub moved_value : to_z w64 (of_z w64 (to_z w64 (of_z w64 (to_z w16 (of_z w16 z))) +ℤ to_z w64 n)) ≡ z +ℤ pos n
  moved_value = to_z-of_z w64 (to_z w64 (of_z w64 (to_z w16 (of_z w16 z))) +ℤ to_z w64 n) moved-fits ∙ sum-read

pub limit_value : (n : ℕ) → n ≤ 1000 → to_z w64 n ≡ pos n
limit_value n h = to_z_pos w64 n (lt_of_le_of_lt h (lit< tt))

-- a limit less a margin, of either sign
module _ (l m : ℕ) (hl : l ≤ 1000) (hm : m ≤ 1000) where
  room-read : to_z w64 l -ℤ to_z w64 m ≡ pos l -ℤ pos m
  room-read = ap₂ ◌-ℤ◌ (limit_value l hl) (limit_value m hm)

  pub room_fits : SFits w64 (to_z w64 l -ℤ to_z w64 m)
  room_fits = subst (SFits w64) (sym room-read) (fits-64 (pos l -ℤ pos m) (le_trans (bounded (1000 ∷ 1000 ∷ []) 2 (λ l m. l ⊟ m) (pos l) (pos m) hl hm) (lit≤ tt)))

  pub room-value : to_z w64 (of_z w64 (to_z w64 l -ℤ to_z w64 m)) ≡ pos l -ℤ pos m
  room-value = to_z-of_z w64 (to_z w64 l -ℤ to_z w64 m) room_fits ∙ room-read

-- ---- an end

-- the larger of a number and 0
end-at : (z : ℤ) → int_max z (pos 0) ≡ pos (natural z)
unfolding natural
end-at (pos zero) = refl
end-at (pos (suc n)) = ap (λ b. cond b (pos (suc n)) (pos 0)) (lt-ltb 0 (suc n) (omega arith))
end-at (negsuc n) = refl

pub end_is : {y : ℤ} (r v : ℤ) → SFits w64 r → r ≡ int_max v (pos 0) → v ≡ y → to_z w64 (of_z w64 r) ≡ pos (natural y)
end_is r v f e g = to_z-of_z w64 r f ∙ e ∙ ap (λ z. int_max z (pos 0)) g ∙ end-at _

natural-most : (z : ℤ) → natural z ≤ nat_abs z
unfolding natural
natural-most (pos n) = omega arith
natural-most (negsuc n) = omega arith

-- ---- a placement refused early

below-not : (c n : ℕ) → ltb c n ≡ not (leb n c)
below-not c n = ⊎_elim (λ h. le-ltb c n h ∙ sym (ap not (le-leb n c h))) (λ h. lt-ltb c n h ∙ sym (ap not (lt-leb n c h))) (le_or_lt n c)

pub past_board : (c C r R : ℕ) (x y : Bool) → (leb C c || leb R r) ≡ true → false ≡ (ltb c C && ltb r R && x && y)
past_board c C r R x y e =
    go (leb C c) (leb R r) e ∙ ap (λ t. t && not (leb R r) && x && y) (sym (below-not c C)) ∙ ap (λ t. ltb c C && t && x && y) (sym (below-not r R))
  where
    go : (a b : Bool) → (a || b) ≡ true → false ≡ (not a && not b && x && y)
    go true b e = refl
    go false true e = refl
    go false false e = absurd (not_both e refl)

pub on_dots : (c C r R : ℕ) → (leb C c || leb R r) ≡ false → (c < C) × (r < R)
on_dots c C r R e = (leb-false C c (or_left _ _ e), leb-false R r (or_right (leb C c) _ e))

module _ (mask k : ℕ) (t : Bool) (small : mask < 16) (is : t ≡ test_bit mask (k % 64)) where
  pub turn-refused : (leb 4 k || not t) ≡ true → test_bit mask k ≡ false
  turn-refused e = ⊎_elim (λ h. test_bit-above mask 4 k small h) (λ h. one h) (le_or_lt 4 k)
    where
      one : k < 4 → test_bit mask k ≡ false
      one h = ap (test_bit mask) (omega arith) ∙ sym is ∙ not-true t (sym (ap (λ b. b || not t) (lt-leb 4 k h)) ∙ e)

  pub turn-allowed : (leb 4 k || not t) ≡ false → (k < 4) × (test_bit mask k ≡ true)
  turn-allowed e =
      let h : k < 4 = leb-false 4 k (or_left _ _ e) in
      (h, ap (test_bit mask) (omega arith) ∙ sym is ∙ not-false t (or_right (leb 4 k) _ e))

pub refused-turn : (a b t y : Bool) → t ≡ false → false ≡ (a && b && t && y)
refused-turn true true t y e = sym (ap (λ u. u && y) e)
refused-turn true false t y e = refl
refused-turn false b t y e = refl

pub allowed : (a b t y r : Bool) → a ≡ true → b ≡ true → t ≡ true → r ≡ y → r ≡ (a && b && t && y)
allowed a b t y r ea eb et e = rw (ea, eb, et) e

pub both : {a b c d : Bool} → a ≡ b → c ≡ d → (a && c) ≡ (b && d)
both p q = ap₂ ◌&&◌ p q

pub end_fits : (z : ℤ) (n : ℕ) → SFits w16 z → n ≤ 1000 → Fits w64 (natural (z +ℤ pos n))
end_fits z n f h = record { fits = lt_of_le_of_lt (le_trans (natural-most (z +ℤ pos n)) (bounded (2 ^ 15 ∷ 1000 ∷ []) 2 (λ z n. z ⊞ n) z (pos n) (size_of w16 z f) h)) (lit< tt) }
