-- A word of 64 bits from which the bits that fail a test are dropped, taken as a whole.
use mathlib.Core.Bool.{Bool, true, false, not, ◌&&◌, not-not}
use mathlib.Core.Path.{◌≡◌, refl, sym, ap, ◌∙◌}
use Prim.Native.Nat.{ℕ, ◌-◌, ◌^◌, ◌<◌}
use lib.Bits.{bit_and}
use Rattle.words.specs.Bits.{test_bit}
use Rattle.words.proofs.Bit.{test_bit-and_not, test_bit-none}
use Rattle.words.proofs.Tested.{bit_below}

module _ (keep : ℕ → Bool) (w : ℕ) where
  -- All that is set stays.
  pub keeps-all : ((i : ℕ) → test_bit w i ≡ true → keep i ≡ true) → (i : ℕ) → test_bit w i ≡ (test_bit w i && keep i)
  keeps-all h i = go (test_bit w i) refl
    where
      go : (b : Bool) → test_bit w i ≡ b → b ≡ (b && keep i)
      go true e = sym (h i e)
      go false e = refl

  -- Nothing of it does.
  pub keeps-none : ((i : ℕ) → test_bit w i ≡ true → keep i ≡ false) → (i : ℕ) → test_bit 0 i ≡ (test_bit w i && keep i)
  keeps-none h i = test_bit-none i ∙ go (test_bit w i) refl
    where
      go : (b : Bool) → test_bit w i ≡ b → false ≡ (b && keep i)
      go true e = sym (h i e)
      go false e = refl

  -- Nothing is set.
  pub keeps-nothing : w ≡ 0 → (i : ℕ) → test_bit 0 i ≡ (test_bit w i && keep i)
  keeps-nothing e i = test_bit-none i ∙ sym (ap (λ (b : Bool). b && keep i) (ap (λ (x : ℕ). test_bit x i) e ∙ test_bit-none i))

  -- What another word has goes (`w & !v` in code).
  pub keeps-others : (v : ℕ) → w < 2 ^ 64 → v < 2 ^ 64 → ((i : ℕ) → i < 64 → test_bit w i ≡ true → test_bit v i ≡ not (keep i))
      → (i : ℕ) → test_bit (bit_and w (2 ^ 64 - 1 - v)) i ≡ (test_bit w i && keep i)
  keeps-others v hw hv h i = test_bit-and_not 64 w v i hw hv ∙ go (test_bit w i) refl
    where
      go : (b : Bool) → test_bit w i ≡ b → (b && not (test_bit v i)) ≡ (b && keep i)
      go true e = ap not (h i (bit_below w i hw e) e) ∙ not-not (keep i)
      go false e = refl
