-- Where the parts of a type record begin.
use Rattle.std.specs.Prelude.{List, [], ◌≡◌, ℕ, ◌+◌, ◌<◌, get_or, drop}
use Rattle.model.specs.Content.{Part}
use Rattle.model.specs.Format.{got, many, read_part}
use Rattle.records.specs.Records.{size_of, values_of}

-- The part P stands o bytes behind a place at which the bytes s begin, base bytes from the front.
pub record FoundAt (s : List ℕ) (base o : ℕ) (P : Part) : Type 0 where
  pub behind : ℕ
  pub place : o ≡ base + behind
  pub reads : read_part (drop behind s) ≡ got P (size_of (read_part (drop behind s)))

-- These are the places of the n parts from byte `from` of the list on.
pub record Placed (list : List ℕ) (from n base : ℕ) (places : List ℕ) : Type 0 where
  pub found : (i : ℕ) → i < n → FoundAt list base (get_or places i 0)
      (get_or (values_of (many read_part n (drop from list))) i [])
