-- Document 01, "Gap and conflict": layouts, the ones that pass, their length and their order; document 02, "Clamp margin": the length.
use Rattle.std.specs.Prelude.{Bool, true, false, not, cond, ◌&&◌, List, [], ◌∷◌, map, ◌⊎◌, ◌≡◌, ℕ, suc, ◌+◌, ◌≤◌, ◌<◌, ltb, eqb, length, get_or}
use Rattle.model.specs.Candidate.{placed_parts, admitted, extent}
use Rattle.model.specs.Content.{Kind, kind_at, kind_count}
use Rattle.model.specs.Gap.{pair_gap}
use Rattle.model.specs.Geometry.{pieces_conflict}
use Rattle.model.specs.Grid.{Placement, placement, number_of, placement_of}
use Rattle.model.specs.Lists.{all, count_of, below, largest}
use Rattle.model.specs.Problem.{Problem}

-- "each four 16-bit numbers: type (from 0), column, row, turn"
pub record Entry : Type 0 where
  pub kind : ℕ
  pub place : Placement

abbrev pub entry : ℕ → Placement → Entry
entry t p = record { kind = t; place = p }

-- "A layout lists N entries."
abbrev pub Layout : Type 0
Layout = List Entry

-- The entry of this type and candidate number.
unfoldable pub entry_of : Problem → ℕ → ℕ → Entry
entry_of j t n = entry t (placement_of j.sheet n)

-- The candidate number of an entry.
unfoldable pub entry_number : Problem → Entry → ℕ
entry_number j e = number_of j.sheet e.place

-- The kind of an entry's piece.
unfoldable pub entry_kind : Problem → Entry → Kind
entry_kind j e = kind_at j.kinds e.kind

-- "each entry is a candidate"
unfoldable pub is_entry : Problem → Entry → Bool
is_entry j e = admitted j (entry_kind j e) e.place

-- The entry's end.
unfoldable pub entry_extent : Problem → Entry → ℕ
entry_extent j e = extent j.sheet (entry_kind j e) e.place

-- Two entries are in conflict, at the pair's gap.
unfoldable pub conflict : Problem → Entry → Entry → Bool
conflict j e f =
    pieces_conflict (pair_gap j.classes (entry_kind j e) (entry_kind j f)) (placed_parts j.sheet (entry_kind j e) e.place)
    (placed_parts j.sheet (entry_kind j f) f.place)

-- ---- Passing, as the engine tests it

-- "ordered by type, and within a type by strictly rising candidate number"
unfoldable pub in_order : Problem → Entry → Entry → Bool
in_order j e f = cond (eqb e.kind f.kind) (ltb (entry_number j e) (entry_number j f)) (ltb e.kind f.kind)

-- Each entry stands in order before the next.
unfoldable pub ordered : Problem → Layout → Bool
ordered j [] = true
ordered j (e ∷ []) = true
ordered j (e ∷ f ∷ es) = in_order j e f && ordered j (f ∷ es)

-- How many entries are of this type.
unfoldable pub copies : ℕ → Layout → ℕ
copies t es = count_of (λ e. eqb e.kind t) es

-- "it has the demanded copies"
unfoldable pub demand_met : Problem → Layout → Bool
demand_met j es = all (λ t. eqb (copies t es) (kind_at j.kinds t).demand) (below (kind_count j.kinds))

-- "no two are in conflict"
unfoldable pub apart : Problem → Layout → Bool
apart j [] = true
apart j (e ∷ es) = all (λ f. not (conflict j e f)) es && apart j es

-- "It passes if it has the demanded copies, each entry is a candidate, and no two are in conflict", being "ordered by type ..".
unfoldable pub passes : Problem → Layout → Bool
passes j es = ordered j es && demand_met j es && all (is_entry j) es && apart j es

-- "the largest end"
unfoldable pub largest_end : Problem → Layout → ℕ
largest_end j es = largest (map (entry_extent j) es)

-- Document 02: "A layout's length becomes its largest end plus m."
unfoldable pub layout_length : Problem → Layout → ℕ
layout_length j es = largest_end j es + j.margin

-- ---- Passing and the order of layouts, as plain propositions

-- Where no entry stands.
abbrev pub no_entry : Entry
no_entry = entry 0 (placement 0 0 0)

-- Entry i of a layout.
abbrev pub entry_at : Layout → ℕ → Entry
entry_at es i = get_or es i no_entry

-- Entry e comes before entry f: its type is smaller, or it is the same and the candidate number is smaller.
abbrev pub Precedes : Problem → Entry → Entry → Type 0
Precedes j e f = (e.kind < f.kind) ⊎ ((e.kind ≡ f.kind) × (entry_number j e < entry_number j f))

-- "It is ordered by type, and within a type by strictly rising candidate number. It passes if it has the demanded copies, each entry
-- is a candidate, and no two are in conflict."
pub record Passes (j : Problem) (es : Layout) : Type 0 where
  pub rising : (i : ℕ) → suc i < length es → Precedes j (entry_at es i) (entry_at es (suc i))
  pub demanded : (t : ℕ) → t < kind_count j.kinds → copies t es ≡ (kind_at j.kinds t).demand
  pub offered : (i : ℕ) → i < length es → is_entry j (entry_at es i) ≡ true
  pub clear : (i k : ℕ) → i < k → k < length es → conflict j (entry_at es i) (entry_at es k) ≡ false

-- "Layouts are compared entry by entry by candidate number: at the first entry that differs, the smaller number comes first."
pub record Before (j : Problem) (es fs : Layout) : Type 0 where
  pub place : ℕ
  pub within : (place < length es) × (place < length fs)
  pub alike : (i : ℕ) → i < place → entry_number j (entry_at es i) ≡ entry_number j (entry_at fs i)
  pub smaller : entry_number j (entry_at es place) < entry_number j (entry_at fs place)

-- "The first of the shortest is the passing layout than which no passing layout is shorter and which comes before every other passing
-- layout of its length."
pub record FirstOfShortest (j : Problem) (es : Layout) : Type 0 where
  pub passing : Passes j es
  pub shortest : (fs : Layout) → Passes j fs → layout_length j es ≤ layout_length j fs
  pub first : (fs : Layout) → Passes j fs → layout_length j fs ≡ layout_length j es → (fs ≡ es → ⊥) → Before j es fs
