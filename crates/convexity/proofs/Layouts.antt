-- Document 02, request 6/13: layouts that pass by document 01's measure pass by the round one; from parts (`square-separated`, Theorems) to pieces, to entries, to layouts.
-- The other way round it does not hold (`layouts_both`, Examples). Assumes nothing.
use mathlib.Core.Path.{◌≡◌, refl, ap, ap₂}
use mathlib.Core.Bool.{Bool, true, false, not, ◌&&◌, ◌||◌}
use mathlib.Core.List.{List, [], ◌∷◌}
use Prim.Native.Nat.{ℕ}
use borrow.Author.Tests.{not-true, not-false}
use Rattle.model.specs.Candidate.{placed_parts}
use Rattle.model.specs.Content.{Part}
use Rattle.model.specs.Format.{refusal, content}
use Rattle.model.specs.Gap.{pair_gap}
use Rattle.model.specs.Geometry.{pieces_conflict}
use Rattle.model.specs.Layout.{Entry, Layout, entry_kind, is_entry, conflict, ordered, demand_met, apart, passes}
use Rattle.model.specs.Lists.{all, any}
use Rattle.model.specs.Problem.{Problem, under}
use Rattle.model.proofs.Lists.{and_left, and_right, and_both, or_left, or_right}
use Rattle.model.proofs.Search.Pieces.{entry-kind}
use Rattle.convexity.specs.Layouts.{square_conflict, square_entries_conflict, square_apart, square_passes}
use Rattle.convexity.specs.Parts.{SoundPart, SoundParts}
use Rattle.convexity.proofs.Members.{all_in, in_all}
use Rattle.convexity.proofs.Soundness.{placed-parts, accepted-parts}
use Rattle.convexity.proofs.Theorems.{square-separated}

-- ---- Pieces

-- If the first test holds of no part, and the second of no sound part of which the first does not, then the second holds of no part.
none-sound : (t u : Part → Bool) (Ps : List Part) → SoundParts Ps → ((P : Part) → SoundPart P → t P ≡ false → u P ≡ false) → any t Ps ≡ false → any u Ps ≡ false
unfolding any
none-sound t u [] s f e = refl
none-sound t u (P ∷ Ps) s f e =
    ap₂ ◌||◌ (f P s.0 (or_left (t P) (any t Ps) e)) (none-sound t u Ps s.1 f (or_right (t P) (any t Ps) e))

-- Pieces of sound parts that are not in conflict by the square measure are not by the round one.
pub square-pieces : (gap : ℕ) (Ps Qs : List Part) → SoundParts Ps → SoundParts Qs → square_conflict gap Ps Qs ≡ false → pieces_conflict gap Ps Qs ≡ false
unfolding square_conflict pieces_conflict
square-pieces gap Ps Qs sound_ps sound_qs =
    none-sound _ _ Ps sound_ps (λ P sound_p. none-sound _ _ Qs sound_qs (λ Q sound_q e. ap not (square-separated P Q sound_p sound_q gap (not-false _ e))))

module _ (s : List ℕ) (m : ℕ) (accepted : refusal s ≡ 0) where
  -- The accepted job under the margin.
  abbrev j : Problem
  j = under m (content s)

  -- ---- Entries

  -- A candidate's piece has sound parts, where it is placed.
  entry-sound : (e : Entry) → is_entry j e ≡ true → SoundParts (placed_parts j.sheet (entry_kind j e) e.place)
  unfolding placed_parts entry_kind
  entry-sound e h = placed-parts j.sheet e.place (entry_kind j e).parts (accepted-parts s accepted e.kind (entry-kind j e h))

  -- Two candidates that are not in conflict by the square measure are not by the round one, at the same gap of the pair.
  pub square-entries : (e f : Entry) → is_entry j e ≡ true → is_entry j f ≡ true → square_entries_conflict j e f ≡ false → conflict j e f ≡ false
  unfolding square_entries_conflict conflict
  square-entries e f h k =
      square-pieces (pair_gap j.classes (entry_kind j e) (entry_kind j f)) (placed_parts j.sheet (entry_kind j e) e.place)
      (placed_parts j.sheet (entry_kind j f) f.place) (entry-sound e h) (entry-sound f k)

  -- ---- Layouts

  -- Of candidates no two of which are in conflict by the square measure, no two are by the round one.
  pub square-apart : (es : Layout) → all (is_entry j) es ≡ true → square_apart j es ≡ true → apart j es ≡ true
  unfolding square_apart apart all
  square-apart [] h c = refl
  square-apart (e ∷ es) h c =
      let candidate : is_entry j e ≡ true = and_left (is_entry j e) (all (is_entry j) es) h in
      let others : all (is_entry j) es ≡ true = and_right (is_entry j e) (all (is_entry j) es) h in
      let clear : all (λ f. not (square_entries_conflict j e f)) es ≡ true = and_left _ (square_apart j es) c in
      and_both (all (λ f. not (conflict j e f)) es) (apart j es)
      (in_all (λ f. not (conflict j e f)) es (λ f i.
      ap not (square-entries e f candidate (all_in (is_entry j) es others f i) (not-true _ (all_in (λ f. not (square_entries_conflict j e f)) es clear f i)))))
      (square-apart es others (and_right (all (λ f. not (square_entries_conflict j e f)) es) (square_apart j es) c))

-- "It is also proved that a layout which passes under the square gap passes under the round one, with the same margin and the same gap for every pair." (Its length is
-- the same: `layout_length` does not ask for conflict.)
pub square-passes : (s : List ℕ) (m : ℕ) → refusal s ≡ 0 → (es : Layout) → square_passes (under m (content s)) es ≡ true → passes (under m (content s)) es ≡ true
unfolding square_passes passes
square-passes s m accepted es h =
    let j : Problem = under m (content s) in
    let first : Bool = ordered j es && demand_met j es in
    let candidates : (first && all (is_entry j) es) ≡ true = and_left (first && all (is_entry j) es) (square_apart j es) h in
    and_both (first && all (is_entry j) es) (apart j es) candidates
    (square-apart s m accepted es (and_right first (all (is_entry j) es) candidates) (and_right (first && all (is_entry j) es) (square_apart j es) h))
