-- Laws of the loops that write a type list, a number for each byte.
use mathlib.Core.Bool.{true, false}
use mathlib.Core.List.{List, [], ◌∷◌, ◌++◌, map}
use mathlib.Core.Path.{◌≡◌, refl, sym, ap, ap₂, ◌∙◌}
use Prim.Native.Nat.{ℕ, ◌+◌, ◌*◌, ◌-◌, ◌<◌, ◌≤◌}
use native.Mathlib.Nat.{add_assoc}
use native.Mathlib.Omega.{arith}
use lib.ListN.{length, length-map, drop}
use Rattle.model.specs.Content.{Part, Kind}
use Rattle.model.specs.Format.{byte_at, got, many, read_part, read_kind}
use Rattle.model.specs.Lists.{concat, below, rising}
use Rattle.model.specs.Services.{vertex_numbers, part_numbers, kind_numbers}
use Rattle.model.proofs.Folds.{map_same}
use Rattle.model.proofs.Lists.{length-below}
use Rattle.model.proofs.Readers.{many-sum}
use Rattle.model.proofs.Records.{byte_first, byte_behind, length-vertices, part-read, kind-read}
use Rattle.records.specs.Parts.{vertex_from, part_from}
use Rattle.records.specs.Records.{Reads}
use Rattle.records.proofs.NextLaws.{PartNext, next_kind, kind-next, kind-values, kind-parts}
use Rattle.records.proofs.PartLaws.{part-corners}
use Rattle.records.proofs.RecordLaws.{values_from}
use Rattle.reading.specs.Write.{parts_numbers, kinds_numbers}
use Rattle.writing.specs.Numbers.{with_numbers_at, as_number, bytes_from}
use Rattle.reading.proofs.WriteLaws.{corner-numbers, records_more}
use Rattle.writing.proofs.NumberLaws.{numbers_then, length-vertex, length-row, numbers_length}

-- ---- Parts

-- A part has a number for each of its bytes.
pub part-each : (s : List ℕ) (P : Part) (k : ℕ) → read_part s ≡ got P k → length (part_numbers P) ≡ k
unfolding part_numbers
part-each s P k e =
    let r = part-read s P k e in
    let l : length P ≡ byte_at s 0 = ap length r.value ∙ length-vertices (byte_at s 0) (drop 1 s) in
    let c : length (concat (map vertex_numbers P)) ≡ length P * 2 = numbers_length vertex_numbers 2 (λ p. length-vertex p) P in
    let z = r.size in
    omega arith

-- The numbers of the part at byte `here`, of c corners.
part-numbers : (list : List ℕ) (here c k : ℕ) (P : Part) → read_part (drop here list) ≡ got P k → c ≡ byte_at list here
    → part_numbers P ≡ c ∷ bytes_from true (here + 1) (c * 2) list
unfolding part_numbers
part-numbers list here c k P e ec =
    let s = drop here list in
    let b : byte_at s 0 ≡ c = byte_first list here ∙ sym ec in
    let v : P ≡ part_from s c = (part-read s P k e).value ∙ part-corners s (byte_at s 0) ∙ ap (part_from s) b in
    let l : length (part_from s c) ≡ c = length-map (below c) (vertex_from s) ∙ length-below c in
    let same : bytes_from true 1 (c * 2) s ≡ bytes_from true (here + 1) (c * 2) list =
    map_same (λ i. as_number true (byte_at s (1 + i))) (λ i. as_number true (byte_at list (here + 1 + i))) (below (c * 2))
    (λ i. ap (as_number true) (byte_behind list here (1 + i) ∙ ap (byte_at list) (sym (add_assoc here 1 i)))) in
    ap part_numbers v ∙ ap₂ ◌∷◌ l (corner-numbers s c ∙ same)

-- One part more: its number of corners, and its coordinates.
pub parts_more : (list : List ℕ) (from i here c at : ℕ) (a u v w : List ℕ) → from ≤ here → Reads (many read_part i (drop from list)) (here - from)
    → PartNext list from i here c → c ≡ byte_at list here
    → u ≡ with_numbers_at (at + from) (parts_numbers i (drop from list)) a → v ≡ with_numbers_at (at + here) (c ∷ []) u
    → w ≡ with_numbers_at (at + here + 1) (bytes_from true (here + 1) (c * 2) list) v → w ≡ with_numbers_at (at + from) (parts_numbers (i + 1) (drop from list)) a
parts_more list from i here c at a u v w l r p ec eu ev ew =
    records_more read_part part_numbers part-each (at + from) (at + here) i (here - from) (drop from list) (c ∷ bytes_from true (here + 1) (c * 2) list) a u w _
    (omega arith) r p.values (part-numbers list here c _ _ p.reads ec) eu
    (numbers_then (at + here) (at + here + 1) (c ∷ []) (bytes_from true (here + 1) (c * 2) list) u v w refl ev ew)

-- ---- Kinds

pub kind-each : (s : List ℕ) (k : Kind) (m : ℕ) → read_kind s ≡ got k m → length (kind_numbers k) ≡ m
unfolding kind_numbers
kind-each s k m e =
    let r = kind-read s k m e in
    let l = many-sum read_part part_numbers part-each (byte_at s 3) (drop 4 s) k.parts (m - 4) r.parts in
    let h = r.head in
    omega arith

-- The type at byte `here`, behind t types.
module _ (list : List ℕ) (kinds size t here : ℕ) (w : Reads (many read_kind kinds list) size) (h : t < kinds) (r : Reads (many read_kind t list) here) where
  -- Its four fields, then its n parts.
  kind-numbers : (n : ℕ) → n ≡ byte_at list (here + 3)
      → kind_numbers (next_kind list kinds size t here w h r) ≡ bytes_from false here 4 list ++ parts_numbers n (drop (here + 4) list)
  unfolding kind_numbers as_number below rising
  kind-numbers n e =
      let k = kind-next list kinds size t here w h r in
      rw (
        k.demand,
        k.rotations,
        k.classes,
        k.part_count,
        byte_behind list here 0,
        byte_behind list here 1,
        byte_behind list here 2,
        byte_behind list here 3,
        values_from _ _ _ (kind-parts list kinds size t here w h r n e),
      )

  pub kinds-more : (n at : ℕ) (a u v x : List ℕ) → n ≡ byte_at list (here + 3)
      → u ≡ with_numbers_at at (kinds_numbers t list) a → v ≡ with_numbers_at (at + here) (bytes_from false here 4 list) u
      → x ≡ with_numbers_at (at + (here + 4)) (parts_numbers n (drop (here + 4) list)) v → x ≡ with_numbers_at at (kinds_numbers (t + 1) list) a
  kinds-more n at a u v x e eu ev ex =
      let l = length-row (λ i. as_number false (byte_at list (here + i))) 4 in
      records_more read_kind kind_numbers kind-each at (at + here) t here list (bytes_from false here 4 list ++ parts_numbers n (drop (here + 4) list)) a u x _
      refl r (kind-values list kinds size t here w h r) (kind-numbers n e) eu
      (numbers_then (at + here) (at + (here + 4)) (bytes_from false here 4 list) (parts_numbers n (drop (here + 4) list)) u v x (omega arith) ev ex)
