-- What row, check and run see of a job's classes: two jobs that differ in their classes alone, and what it is for them to nest alike.
use Rattle.std.specs.Prelude.{List, map, ◌≡◌, ℕ, ◌<◌}
use Rattle.model.specs.Content.{Kind, kind, kind_at, kind_count}
use Rattle.model.specs.Format.{content, refusal}
use Rattle.model.specs.Gap.{pair_gap}
use Rattle.model.specs.Services.{conflict_row, check, run}

-- The type, if it named no class.
abbrev pub bare : Kind → Kind
bare k = kind k.demand k.rotations 0 k.parts

-- Two accepted jobs of one board and of the same types, but for the classes and for which of them each type names.
pub record SameButClasses (s t : List ℕ) : Type 0 where
  pub first-accepted : refusal s ≡ 0
  pub second-accepted : refusal t ≡ 0
  pub sheets : (content s).sheet ≡ (content t).sheet
  pub kinds : map bare (content s).kinds ≡ map bare (content t).kinds

-- The gap of two types of a job.
abbrev pub gap_in : List ℕ → ℕ → ℕ → ℕ
gap_in s a b = pair_gap (content s).classes (kind_at (content s).kinds a) (kind_at (content s).kinds b)

-- Each two types have the same gap in both.
abbrev pub SameGaps : List ℕ → List ℕ → Type 0
SameGaps s t = (a b : ℕ) → a < kind_count (content s).kinds → b < kind_count (content s).kinds → gap_in s a b ≡ gap_in t a b

-- Whatever is handed in beside them, row, check and run say the same of both jobs and leave the same in every buffer.
pub record NestAlike (s t : List ℕ) : Type 0 where
  pub rows : (m k n u : ℕ) (out : List ℕ) → conflict_row s m k n u out ≡ conflict_row t m k n u out
  pub checking : (m : ℕ) (layout : List ℕ) → check s m layout ≡ check t m layout
  pub running : (m budget : ℕ) (given work out : List ℕ) → run s m budget given work out ≡ run t m budget given work out
