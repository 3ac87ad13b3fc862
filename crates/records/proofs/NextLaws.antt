-- Records one after the other, in bytes of which it is known that they hold so many: the next one.
use mathlib.Core.List.{List, [], ◌∷◌, ◌++◌}
use mathlib.Core.Path.{◌≡◌, refl, sym, ap, ap₂, subst, ◌∙◌}
use Prim.Native.Nat.{ℕ, ◌+◌, ◌-◌, ◌*◌, ◌<◌, ◌≤◌}
use native.Mathlib.Omega.{arith}
use lib.ListN.{length, drop, length-drop}
use lib.Seq.{drop-drop}
use Rattle.model.specs.Content.{Kind, no_kind}
use Rattle.model.specs.Format.{byte_at, Got, bad, got, many, read_part, read_kind}
use Rattle.model.proofs.Records.{byte_first, byte_behind, part-read, KindRead, kind-read}
use Rattle.records.specs.Records.{size_of, value_of, values_of, Reads}
use Rattle.records.proofs.RecordLaws.{size_is, reads_none, reads_more, values_more, reads-bad, reads-from}

-- Where n records can be read, the one behind fewer of them can.
pub got-next : {A : Type 0} (f : List ℕ → Got A) (d : A) (s : List ℕ) (n k i m : ℕ) → Reads (many f n s) k → i < n → Reads (many f i s) m
    → f (drop m s) ≡ got (value_of d (f (drop m s))) (size_of (f (drop m s)))
unfolding value_of size_of
got-next f d s n k i m w h r = go (f (drop m s)) refl
  where
    go : (g : Got _) → f (drop m s) ≡ g → g ≡ got (value_of d g) (size_of g)
    go bad q = let z : bad ≡ got (values_of (many f n s)) k = sym (reads-bad f s i n m h r q) ∙ w in let y : ◌≡◌ {A = ℕ} 0 1 = cc in absurd (omega arith)
    go (got x j) q = refl

-- ---- Parts one after the other, from byte `from` of a list on

-- The part at byte `here`, of c corners, behind i parts.
pub record PartNext (list : List ℕ) (from i here c : ℕ) : Type 0 where
  pub few : c ≤ 8
  pub inside : here + (c * 2 + 1) ≤ length list
  pub reads : read_part (drop here list) ≡ got (value_of [] (read_part (drop here list))) (c * 2 + 1)
  pub values : values_of (many read_part (i + 1) (drop from list)) ≡ values_of (many read_part i (drop from list)) ++ (value_of [] (read_part (drop here list)) ∷ [])
  pub more : Reads (many read_part (i + 1) (drop from list)) (here + (c * 2 + 1) - from)

module _ (list : List ℕ) (from n : ℕ) where
  pub parts-start : Reads (many read_part 0 (drop from list)) (from - from)
  parts-start = subst (Reads (many read_part 0 (drop from list))) (omega arith) (reads_none read_part (drop from list))

  pub parts-end : (i here : ℕ) → i ≡ n → from ≤ here → Reads (many read_part i (drop from list)) (here - from)
      → here ≡ from + size_of (many read_part n (drop from list))
  parts-end i here e l r =
      let z : size_of (many read_part n (drop from list)) ≡ here - from = ap (λ j. size_of (many read_part j (drop from list))) (sym e) ∙ size_is _ _ _ r in
      omega arith

  module _ (k i here : ℕ) (w : Reads (many read_part n (drop from list)) k) (h : i < n) (l : from ≤ here) (r : Reads (many read_part i (drop from list)) (here - from)) where
    place : drop (here - from) (drop from list) ≡ drop here list
    place = let e : from + (here - from) ≡ here = omega arith in drop-drop (here - from) from list ∙ ap (λ m. drop m list) e

    there : read_part (drop here list) ≡ got (value_of [] (read_part (drop here list))) (size_of (read_part (drop here list)))
    there =
        subst (λ x. read_part x ≡ got (value_of [] (read_part x)) (size_of (read_part x))) place
        (got-next read_part [] (drop from list) n k i (here - from) w h r)

    pub part-begins : here < length list
    part-begins = let p = (part-read _ _ _ there).inside in omega (arith, length-drop here list)

    pub part-next : (c : ℕ) → c ≡ byte_at list here → PartNext list from i here c
    part-next c e =
        let p = part-read _ _ _ there in
        let b : byte_at (drop here list) 0 ≡ c = byte_first list here ∙ sym e in
        let y : size_of (read_part (drop here list)) ≡ c * 2 + 1 = p.size ∙ (omega arith) in
        let g : read_part (drop here list) ≡ got (value_of [] (read_part (drop here list))) (c * 2 + 1) = there ∙ ap (got (value_of [] (read_part (drop here list)))) y in
        let f = p.most in
        let j = p.inside in
        record {
          few = omega arith;
          inside = omega (arith, length-drop here list);
          reads = g;
          values = values_more read_part (drop from list) i (here - from) _ _ r (ap read_part place ∙ g);
          more =
              subst (Reads (many read_part (i + 1) (drop from list))) (omega arith)
              (reads_more read_part (drop from list) i (here - from) _ _ r (ap read_part place ∙ g));
        }

-- ---- Types one after the other, from the front of a list on

-- The type at byte `here`, behind t types.
module _ (list : List ℕ) (kinds size t here : ℕ) (w : Reads (many read_kind kinds list) size) (h : t < kinds) (r : Reads (many read_kind t list) here) where
  pub next_kind : Kind
  next_kind = value_of no_kind (read_kind (drop here list))

  got-kind : read_kind (drop here list) ≡ got next_kind (size_of (read_kind (drop here list)))
  unfolding next_kind
  got-kind = got-next read_kind no_kind list kinds size t here w h r

  pub kind-next : KindRead (drop here list) next_kind (size_of (read_kind (drop here list)))
  kind-next = kind-read (drop here list) _ _ got-kind

  -- Its four fields lie within the list.
  pub kind-begins : here + 4 ≤ length list
  kind-begins = let k = kind-next.head_there in omega (arith, length-drop here list)

  pub kind-values : values_of (many read_kind (t + 1) list) ≡ values_of (many read_kind t list) ++ (next_kind ∷ [])
  kind-values = values_more read_kind list t here _ _ r got-kind

  -- Its n parts can be read behind the fields, and it ends where they do.
  module _ (n : ℕ) (e : n ≡ byte_at list (here + 3)) where
    count : n ≡ byte_at (drop here list) 3
    count = e ∙ sym (byte_behind list here 3)

    pub kind-parts : many read_part n (drop (here + 4) list) ≡ got next_kind.parts (size_of (read_kind (drop here list)) - 4)
    kind-parts = ap₂ (many read_part) count (sym (drop-drop 4 here list)) ∙ kind-next.parts

    pub parts-few : n ≤ 6
    parts-few = let q = count in let m = kind-next.parts_most in omega arith

    pub parts-read : Reads (many read_part n (drop (here + 4) list)) (size_of (many read_part n (drop (here + 4) list)))
    parts-read = subst (Reads (many read_part n (drop (here + 4) list))) (sym (size_is _ _ _ kind-parts)) (reads-from _ _ _ kind-parts)

    pub kind-ends : (end : ℕ) → end ≡ here + 4 + size_of (many read_part n (drop (here + 4) list)) → Reads (many read_kind (t + 1) list) end
    kind-ends end q =
        let z = size_is _ _ _ kind-parts in
        let l = kind-next.head in
        subst (Reads (many read_kind (t + 1) list)) (omega arith) (reads_more read_kind list t here _ _ r got-kind)
