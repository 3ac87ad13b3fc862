-- Document 02, "9/13 Pieces in no class": its sentences as propositions, and the gap that a type in no class had before it, by which no service is defined any more.
use Rattle.std.specs.Prelude.{cond, ◌⊎◌, ◌≡◌, ℕ, ◌≤◌, ◌<◌, max}
use mathlib.Core.List.{List, [], Memᴰ}
use Rattle.std.proofs.Math.Option.{Option, none, some}
use Rattle.model.specs.Content.{SpacingClass, Kind, kind_at, kind_count}
use Rattle.model.specs.Format.{content}
use Rattle.model.specs.Gap.{gap_or, best_class, share_cut}
use Rattle.spacing.specs.SameGaps.{SameButClasses, gap_in, NestAlike}

-- "the largest gap in the job's class list, or 0 if that list is empty": no class has a larger one, and some class has it, or there is none.
pub record LargestOf (cs : List SpacingClass) (gap : ℕ) : Type 0 where
  pub most : (c : SpacingClass) → Memᴰ c cs → c.gap ≤ gap
  pub taken : ((cs ≡ []) × (gap ≡ 0)) ⊎ ((c : SpacingClass) × Memᴰ c cs × (c.gap ≡ gap))

-- The gap of a type as it was: ".. and 0 if it has no class."
unfoldable pub former_gap : List SpacingClass → Kind → ℕ
former_gap cs k = gap_or 0 (best_class cs k)

-- The gap of a pair as it was.
unfoldable pub former_pair_gap : List SpacingClass → Kind → Kind → ℕ
former_pair_gap cs k m = cond (share_cut cs k m) 0 (max (former_gap cs k) (former_gap cs m))

-- Each two types of t have now the gap that they had in s before the request. (They are the same types, but for the classes.)
abbrev pub GapsAsBefore : List ℕ → List ℕ → Type 0
GapsAsBefore s t =
    (a b : ℕ) → a < kind_count (content s).kinds → b < kind_count (content s).kinds
    → gap_in t a b ≡ former_pair_gap (content s).classes (kind_at (content s).kinds a) (kind_at (content s).kinds b)

-- t nests as s did before: its gaps are those that s had, and it nests as every job of its board and types does that has these gaps now. "A job .. nests as before" if t is s.
pub record NestsAsBefore (s t : List ℕ) : Type 0 where
  pub gaps : GapsAsBefore s t
  pub alike : (u : List ℕ) → SameButClasses t u → GapsAsBefore s u → NestAlike t u

-- "Their jobs must put fillers in a class of gap 0": a type that had a class keeps its best-ranked one, and a type in no class has been put in one of gap 0.
pub data FillerPut : Option SpacingClass → Option SpacingClass → Type 0 where
  keeps : {c : SpacingClass} → FillerPut (some c) (some c)
  put : {c : SpacingClass} → c.gap ≡ 0 → FillerPut none (some c)

-- The same of all types of a job.
abbrev pub FillersPut : List ℕ → List ℕ → Type 0
FillersPut s t =
    (a : ℕ) → a < kind_count (content s).kinds
    → FillerPut (best_class (content s).classes (kind_at (content s).kinds a)) (best_class (content t).classes (kind_at (content t).kinds a))
