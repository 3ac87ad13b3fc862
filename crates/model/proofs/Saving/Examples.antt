-- Why the theorems of Theorems ask for bytes: the definitions read any list of numbers, and numbers that are no bytes are not kept.
use mathlib.Core.List.{List, [], ◌∷◌}
use mathlib.Core.Path.{◌≡◌, refl, ap}
use Prim.Native.Nat.{ℕ}
use native.Mathlib.Omega.{arith}
use lib.IntN.{nat_abs}
use lib.ListN.{get_or}
use Rattle.model.specs.Content.{Job, no_kind, origin}
use Rattle.model.specs.Format.{content, refusal}
use Rattle.model.specs.Opened.{opened}
use Rattle.model.specs.Saving.{written}

-- A "corner" of 1000 would be read as 744, and 744 written as such is read as 488.
unfoldable pub numbers : List ℕ
numbers =
    2 ∷ 0 ∷ 4 ∷ 0 ∷ 1 ∷ 0
    ∷ 2 ∷ 1 ∷ 0 ∷ 1 ∷ 3 ∷ 0 ∷ 0 ∷ 1000 ∷ 0 ∷ 0 ∷ 2
    ∷ 0 ∷ 0 ∷ 6 ∷ 0 ∷ 6 ∷ 0 ∷ 11 ∷ 0 ∷ 0 ∷ 1 ∷ 31 ∷ 0 ∷ 0x44 ∷ 0x42 ∷ []

pub numbers_accepted : refusal numbers ≡ 0
unfolding opened numbers
numbers_accepted = refl

-- x of the second corner of the first part of the first type.
abbrev second_x : Job → ℕ
second_x j = nat_abs (get_or (get_or (get_or j.kinds 0 no_kind).parts 0 []) 1 origin).x

pub numbers_lost : content (written (content numbers)) ≡ content numbers → ⊥
unfolding opened numbers
numbers_lost e =
    let before : second_x (content numbers) ≡ 744 = refl in
    let after : second_x (content (written (content numbers))) ≡ 488 = refl in
    omega (arith, ap second_x e)
