-- The way from one dot to another, and the gap of a pair. Assumes nothing.
use mathlib.Core.Bool.{Bool, true, false, cond}
use mathlib.Core.List.{[], ◌∷◌}
use mathlib.Core.Path.{◌≡◌, sym, ap, ◌∙◌}
use Prim.Native.Nat.{ℕ, ◌≤◌, max}
use native.Mathlib.Nat.{lt_of_le_of_lt}
use lib.Dec.{lit<}
use lib.IntN.{pos, ◌-ℤ◌}
use mir.Syntax.{w16}
use mir.Val.{SFits, to_z}
use mir.ValLaws.{to_z_pos}
use Rattle.integers.proofs.Sizes.{bounded, fits_nat_abs}
use Rattle.integers.proofs.Solver.{◌⊟◌}
use Rattle.candidates.specs.Conflicts.{gap_between}

-- ---- the way from one dot to another

pub way_fits : (a b : ℕ) → a ≤ 1000 → b ≤ 1000 → SFits w16 (pos b -ℤ pos a)
way_fits a b ha hb = fits_nat_abs w16 (pos b -ℤ pos a) (lt_of_le_of_lt (bounded (1000 ∷ 1000 ∷ []) 2 (λ b a. b ⊟ a) (pos b) (pos a) hb ha) (lit< tt))

pub way_value : (a b : ℕ) → a ≤ 1000 → b ≤ 1000 → to_z w16 b -ℤ to_z w16 a ≡ pos b -ℤ pos a
way_value a b ha hb =
    ap (λ z. z -ℤ to_z w16 a) (to_z_pos w16 b (lt_of_le_of_lt hb (lit< tt))) ∙ ap (λ z. pos b -ℤ z) (to_z_pos w16 a (lt_of_le_of_lt ha (lit< tt)))

-- ---- the gap of a pair

pub gap_shared : (g h : ℕ) (shared : Bool) → shared ≡ true → 0 ≡ gap_between g h shared
unfolding gap_between
gap_shared g h shared e = sym (ap (λ t. cond t 0 (max g h)) e)

pub gap-apart : (g h r : ℕ) (shared : Bool) → shared ≡ false → r ≡ max g h → r ≡ gap_between g h shared
unfolding gap_between
gap-apart g h r shared e f = f ∙ sym (ap (λ t. cond t 0 (max g h)) e)
