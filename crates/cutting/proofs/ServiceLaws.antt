-- What the cut service answers and leaves, from what its parts do.
use mathlib.Core.Bool.{true, false}
use mathlib.Core.List.{List}
use mathlib.Core.Option.{some}
use mathlib.Core.Path.{◌≡◌, sym, ap, ◌∙◌}
use Prim.Native.Nat.{ℕ, ◌/◌, ◌<◌, ◌≤◌}
use native.Mathlib.Omega.{arith}
use borrow.Author.Tests.{lt-ltb, le-ltb}
use lib.ListN.{length}
use Rattle.std.specs.Prelude.{Result, Ok, Err}
use Rattle.words.specs.Number.{count}
use Rattle.model.specs.Content.{Vertex}
use Rattle.model.specs.Services.{write_outcome, numbers_in, with_numbers}
use Rattle.model.specs.declared.Refusal.{Refusal}
use Rattle.model.specs.declared.Refusal.TheVariants as R
use Rattle.outlines.specs.Outline.{Triangle, triangles, outline_in, cause14}
use Rattle.outlines.specs.Service.{listed, triangles_of, triangles_numbers, cut}
use Rattle.outlines.proofs.Theorems.{refused-14, refused-9, told, listed-some, six_each}
use Rattle.outlines.proofs.Theorems as Theorems
use Rattle.simplicity.proofs.RefusalLaws.{counted, at_least, at_most, room}
use Rattle.writing.specs.Numbers.{with_numbers_at}
use Rattle.writing.proofs.NumberLaws.{numbers_all}

-- The answer, and the bytes that are left.
abbrev pub Answered : List ℕ → List ℕ → Result ℕ Refusal → List ℕ → Type 0
Answered s out a u = (a ≡ (cut s out).answer) × (u ≡ (cut s out).buffer)

both : (s out : List ℕ) (a : Result ℕ Refusal) (u : List ℕ) → cut s out ≡ write_outcome a u → Answered s out a u
both s out a u e = (sym (ap (λ o. o.answer) e), sym (ap (λ o. o.buffer) e))

-- Bytes without cause for 14 are three to eight corners, and there is room for them.
pub few-corners : (s : List ℕ) → cause14 s ≡ false → (3 ≤ length s / 2) × (length s / 2 ≤ 8)
few-corners s e = (at_least s (counted s e), at_most s (counted s e))

pub few_bytes : (s : List ℕ) → cause14 s ≡ false → length s ≤ 16
few_bytes s e = room s (counted s e)

module _ (s out : List ℕ) where
  pub unfit_told : cause14 s ≡ true → Answered s out (Err R.Outline) out
  unfit_told e = both s out (Err R.Outline) out (refused-14 s out e)

  module _ (e : cause14 s ≡ false) where
    pub short-told : length out / 2 < 36 → Answered s out (Err R.Answer) out
    unfolding numbers_in count
    short-told l = both s out (Err R.Answer) out (refused-9 s out e (lt-ltb (length out / 2) 36 l))

    -- "Every outline without cause for 14 is cut", in whatever form its corners are handed on.
    pub is_cut : (P : List Vertex) → P ≡ outline_in s → triangles P ≡ some (triangles_of P)
    is_cut P q = let c = Theorems.cut s e in let t : triangles P ≡ some c.0 = ap triangles q ∙ c.1 in t ∙ ap some
        (sym (ap listed t ∙ listed-some c.0))

    pub cut-told : (P : List Vertex) → P ≡ outline_in s → 36 ≤ length out / 2 → (r : ℕ) (u : List ℕ) → r ≡ length
        (triangles_of P) → r ≤ 6
        → u ≡ with_numbers_at 0 (triangles_numbers (triangles_of P)) out → Answered s out (Ok r) u
    unfolding numbers_in count with_numbers
    cut-told P q l r u er lr eu = (
      ap (λ k. Ok k) a ∙ t.0,
      b ∙ numbers_all (triangles_numbers ts) out
          (omega (arith, six_each ts, a)) ∙ t.1,
    )
      where
        ts : List Triangle
        ts = triangles_of (outline_in s)

        a : r ≡ length ts
        a = er ∙ ap (λ Q. length (triangles_of Q)) q

        b : u ≡ with_numbers_at 0 (triangles_numbers ts) out
        b = eu ∙ ap (λ Q. with_numbers_at 0 (triangles_numbers (triangles_of Q)) out) q

        t : Answered s out (Ok (length ts)) (with_numbers (triangles_numbers ts) out)
        t = both s out _ _ (told s out e (le-ltb (length out / 2) 36 l))
