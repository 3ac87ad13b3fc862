-- The sets of the first level: filled with all candidates, and trimmed where the bound leaves some of them out.
use mathlib.Core.Bool.{Bool, true, false, ◌&&◌}
use mathlib.Core.List.{List, []}
use mathlib.Core.Path.{◌≡◌, refl, sym, ap, ◌∙◌}
use Prim.Native.Nat.{ℕ, ◌+◌, ◌*◌, ◌≤◌, ◌<◌}
use native.Mathlib.Omega.{arith}
use borrow.Author.Tests.{lt-ltb}
use lib.Dec.{ltb}
use lib.ListN.{length}
use Rattle.words.specs.Sets.{member}
use Rattle.model.specs.Candidate.{is_candidate}
use Rattle.model.specs.Layout.{entry_of, entry_extent}
use Rattle.model.specs.Problem.{Problem}
use Rattle.stepping.specs.LiveSets.{set_of}
use Rattle.stepping.proofs.Extents.{candidate-extent}
use Rattle.stepping.proofs.LiveSets.{set_first}
use Rattle.live_sets.specs.Narrowing.{Filled}
use Rattle.bounding.specs.Trimmed.{ends_below, Trimmable}

module _ (j : Problem) (bound u to words : ℕ) (work work₁ : List ℕ) (f : Filled to words (is_candidate j u) work work₁) where
  -- A bound above L leaves every candidate in.
  pub filled-all : j.sheet.L < bound → Filled to words (set_of j [] bound u) work work₁
  filled-all h = record { inside = λ m l. f.inside m l ∙ sym (set_first j bound u m ∙ go m (is_candidate j u m) refl); outside = f.outside; behind = f.behind }
    where
      go : (m : ℕ) (c : Bool) → is_candidate j u m ≡ c → (c && ltb (entry_extent j (entry_of j u m)) bound) ≡ c
      go m true e = lt-ltb (entry_extent j (entry_of j u m)) bound (omega (arith, candidate-extent j u m e))
      go m false e = refl

  -- The set can be trimmed: its members are candidates.
  pub trimmable : words ≤ 64 → (to + words) * 8 ≤ length work₁ → Trimmable j u to words work₁
  trimmable few fits = record { few = few; fits = fits; admitted = λ m l e. sym (f.inside m l) ∙ e }

  -- Trimmed, it has those that end below the bound.
  pub filled-trimmed : (work₂ : List ℕ) → Filled to words (λ m. member work₁ (to * 64 + m) && ends_below j bound u m) work₁ work₂ → Filled to words (set_of j [] bound u) work work₂
  filled-trimmed work₂ g =
      record {
        inside = λ m l. g.inside m l ∙ ap (λ (c : Bool). c && ends_below j bound u m) (f.inside m l) ∙ sym (set_first j bound u m);
        outside = λ m o. g.outside m o ∙ f.outside m o;
        behind = g.behind ∙ f.behind;
      }
