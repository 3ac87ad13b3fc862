-- A refusal and its number tell the same.
use mathlib.Core.Bool.{Bool, true, ◌||◌}
use mathlib.Core.List.{List}
use mathlib.Core.Path.{◌≡◌, refl}
use Prim.Native.Nat.{ℕ, ◌≤◌}
use native.Mathlib.Omega.{arith}
use borrow.Author.Tests.{eqb-true, ne_eqb}
use lib.Dec.{eqb}
use Rattle.model.specs.Format.{refusal}
use Rattle.model.specs.Lists.{all, rising, below}
use Rattle.model.proofs.Lists.{all-below}
use Rattle.model.proofs.Refusals.{refusal-most}
use Rattle.model.specs.Refusal.{number, numbered}
use Rattle.model.specs.declared.Refusal.{Refusal}
use Rattle.model.specs.declared.Refusal.TheVariants as R

pub numbered_number : (r : Refusal) → numbered (number r) ≡ r
unfolding numbered
numbered_number R.Size = refl
numbered_number R.Mark = refl
numbered_number R.Sections = refl
numbered_number R.Board = refl
numbered_number R.Classes = refl
numbered_number R.Kinds = refl
numbered_number R.Parts = refl
numbered_number R.Work = refl
numbered_number R.Answer = refl
numbered_number R.Layout = refl
numbered_number R.Candidate = refl
numbered_number R.Margin = refl
numbered_number R.Outline = refl

-- A number that a refusal has is that of its refusal: so the number that a service is refused by comes back.
has_number : ℕ → Bool
has_number n = eqb n 0 || eqb n 10 || eqb (number (numbered n)) n

pub number_numbered : (n : ℕ) → 1 ≤ n → n ≤ 14 → (n ≡ 10 → ⊥) → number (numbered n) ≡ n
unfolding has_number numbered all below rising
number_numbered n l h f =
    let e : has_number n ≡ true = all-below has_number 15 refl n (omega arith) in
    eqb-true _ n (rw (ne_eqb n 0 (λ z. omega (arith, z)), ne_eqb n 10 f, has_number) at e)

-- So does that of a job.
pub refusal-number : (s : List ℕ) → (refusal s ≡ 0 → ⊥) → number (numbered (refusal s)) ≡ refusal s
refusal-number s f =
    let most = refusal-most s in
    number_numbered (refusal s) (omega (arith, f)) (omega (arith, most)) (λ e. omega (arith, e, most))
