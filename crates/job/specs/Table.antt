-- What the type records of an accepted job say, kind by kind.
use Rattle.std.specs.Prelude.{List, [], ◌≡◌, ℕ, ◌+◌, ◌<◌, ◌≤◌, length, get_or}
use Rattle.model.specs.Content.{SpacingClass, Kind, no_kind}
use Rattle.model.specs.Format.{byte_at, many, read_kind, by_rising_id}
use Rattle.model.specs.Gap.{best_class, kind_gap}
use Rattle.job.specs.Gaps.{class_cut}
use Rattle.job.specs.Places.{FoundAt}
use Rattle.job.specs.View.{blank}
use Rattle.job.specs.declared.Kind as J
use Rattle.job.specs.declared.table.Head.{Head}
use Rattle.records.specs.Records.{Reads, values_of}

-- The fields that were read are those at byte o of the list.
pub record HeadIn (list : List ℕ) (o : ℕ) (h : Head) : Type 0 where
  pub demand : h.demand ≡ byte_at list o
  pub rotations : h.rotations ≡ byte_at list (o + 1)
  pub classes : h.classes ≡ byte_at list (o + 2)
  pub parts : h.parts ≡ byte_at list (o + 3)
  pub demand_fits : h.demand < 256

-- What is kept of a kind is that of kind k; cs are the classes in the order of the file.
pub record Stored (cs : List SpacingClass) (list : List ℕ) (base : ℕ) (e : J.Kind) (k : Kind) : Type 0 where
  pub demand : e.demand ≡ k.demand
  pub rotations : e.rotations ≡ k.rotations
  pub gap : e.gap ≡ kind_gap (by_rising_id cs) k
  pub cut : e.cut ≡ class_cut (best_class (by_rising_id cs) k)
  pub parts : e.parts ≡ length k.parts
  pub few_parts : length k.parts ≤ 6
  pub part : (i : ℕ) → i < length k.parts → FoundAt list base (get_or e.part_at i 0) (get_or k.parts i [])

-- The table holds the first t kinds of the list, which take this many bytes.
pub record Built (cs : List SpacingClass) (list : List ℕ) (base t here : ℕ) (table : List J.Kind) : Type 0 where
  pub size : length table ≡ 8
  pub reads : Reads (many read_kind t list) here
  pub stored : (j : ℕ) → j < t → Stored cs list base (get_or table j blank)
      (get_or (values_of (many read_kind t list)) j no_kind)
