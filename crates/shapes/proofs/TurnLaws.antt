-- Turned parts: the bytes of a vertex, and the table of turned parts as it is written. Assumes nothing.
use mathlib.Core.List.{List, [], ◌∷◌, ◌++◌, map, map-append}
use mathlib.Core.Logic.{◌⊎◌, inl, inr, ⊎_elim}
use mathlib.Core.Path.{◌≡◌, refl, sym, ap, ap₂, subst, ◌∙◌}
use Prim.Native.Nat.{ℕ, zero, suc, ◌+◌, ◌-◌, ◌*◌, ◌≤◌, ◌<◌}
use native.Mathlib.Nat.{lt_of_le_of_lt, add-zero, add-suc, suc-add}
use native.Mathlib.Numerals.{add-one}
use native.Mathlib.Omega.{arith}
use borrow.Author.Count.{below_none, below_more}
use borrow.Rule.Slice.PartMut.{put_mid}
use lib.Dec.{lit<}
use lib.IntN.{ℤ, pos, nat_abs}
use lib.ListN.{length, get_or, take, drop, set, length-append, length-map, get_or-append}
use lib.Seq.{sets, sets-eq, set_comm, take_at, take-nil, drop_at, drop-append-le, drop-drop, length-take-le, drop-set-lt, drop-set-add, take-set-le, take-take, get_or-take, get_or-drop}
use Rattle.std.proofs.lemmas.Slice.{put_mid-paste}
use mir.Syntax.{w8, w16}
use mir.Val.{Fits, SFits, to_z, of_z}
use mir.ValLaws.{to_z-of_z}
use Rattle.integers.specs.Byte.{signed}
use Rattle.integers.proofs.Bytes.{signed-fits}
use Rattle.integers.proofs.Absolute.{nat_abs-between}
use Rattle.integers.proofs.Order.{<ℤ-≤ℤ}
use Rattle.integers.proofs.Sizes.{fits-lower, fits-upper}
use Rattle.model.specs.Content.{Vertex, vertex, Part, kind_at, kind_count}
use Rattle.model.specs.ContentFit.{ContentFit}
use Rattle.model.specs.Format.{byte_at, vertices, content}
use Rattle.model.specs.Geometry.{rotated}
use Rattle.model.proofs.Records.{length-vertices, byte_behind}
use Rattle.words.proofs.Cases.{le_or_lt, eq_or_ne}
use Rattle.polygons.specs.Boxes.{extents_of}
use Rattle.polygons.specs.Flat.{part_of}
use Rattle.polygons.specs.declared.extents.Extents.{Extents}
use Rattle.shapes.specs.Turned.{numbers_of, vertex_in, with_part, sides_of, with_box, slot_of, with_slot, slot, Holds, Kept, PartTurned, KindTurned, TurnedOf, with_vertex}

-- ---- coordinates

-- a number read from the bits of a local
pub as_is : {z w : ℤ} → SFits w16 z → z ≡ w → to_z w16 (of_z w16 z) ≡ w
as_is {z} f e = to_z-of_z w16 z f ∙ e

-- ---- a part written vertex by vertex

pub length-numbers : (P : Part) → length (numbers_of P) ≡ length P * 2
unfolding numbers_of
length-numbers [] = refl
length-numbers (v ∷ P) = let h = length-numbers P in omega arith

numbers_append : (P Q : Part) → numbers_of (P ++ Q) ≡ numbers_of P ++ numbers_of Q
unfolding numbers_of
numbers_append [] Q = refl
numbers_append (v ∷ P) Q = ap (λ (ns : List ℤ). v.x ∷ v.y ∷ ns) (numbers_append P Q)

pub part-of_numbers : (P : Part) → part_of (numbers_of P) ≡ P
unfolding numbers_of part_of
part-of_numbers [] = refl
part-of_numbers (v ∷ P) = ap (λ (Q : Part). v ∷ Q) (part-of_numbers P)

sets-append : (l : List ℤ) (i : ℕ) (xs ys : List ℤ) → sets l i (xs ++ ys) ≡ sets (sets l i xs) (i + length xs) ys
sets-append l i [] ys = ap (λ n. sets l n ys) (sym (add-zero i))
sets-append l i (x ∷ xs) ys =
    sets-append (set l i x) (suc i) xs ys ∙ ap (λ n. sets (sets (set l i x) (suc i) xs) n ys) (suc-add i (length xs) ∙ sym (add-suc i (length xs)))

-- one vertex more behind the others
pub part-more : (l : List ℤ) (to : ℕ) (P : Part) (v : Vertex) → with_part l to (P ++ v ∷ []) ≡ with_vertex (with_part l to P) (to + length P * 2) v
unfolding numbers_of with_vertex
part-more l to P v =
    ap (λ (ns : List ℤ). sets l to ns) (numbers_append P (v ∷ []))
    ∙ sets-append l to (numbers_of P) (v.x ∷ v.y ∷ [])
    ∙ ap (λ n. set (set (with_part l to P) n v.x) (suc n) v.y) (ap (λ n. to + n) (length-numbers P))
    ∙ ap (λ n. set (set (with_part l to P) (to + length P * 2) v.x) n v.y) (sym (add-one (to + length P * 2)))

vertices-more : (m : ℕ) (s : List ℕ) → vertices (suc m) s ≡ vertices m s ++ vertex_in s (m * 2) ∷ []
unfolding vertices
vertices-more zero s = refl
vertices-more (suc m) s =
    ap (λ (P : Part). vertex (signed (byte_at s 0)) (signed (byte_at s 1)) ∷ P)
    (vertices-more m (drop 2 s) ∙ ap (λ v. vertices m (drop 2 s) ++ v ∷ []) (in_tail s 2 (m * 2) (suc m * 2) (omega arith)))
  where
    in_tail : (s : List ℕ) (o i n : ℕ) → o + i ≡ n → vertex_in (drop o s) i ≡ vertex_in s n
    in_tail s o i n e =
        ap (λ b. vertex (signed b) (signed (byte_at (drop o s) (i + 1)))) (byte_behind s o i ∙ ap (byte_at s) e)
        ∙ ap (λ b. vertex (signed (byte_at s n)) (signed b)) (byte_behind s o (i + 1) ∙ ap (byte_at s) (omega arith))

-- a vertex of the bytes behind the first o
pub vertex-behind : (s : List ℕ) (o i : ℕ) → vertex_in (drop o s) i ≡ vertex_in s (o + i)
vertex-behind s o i =
    ap (λ b. vertex (signed b) (signed (byte_at (drop o s) (i + 1)))) (byte_behind s o i)
    ∙ ap (λ b. vertex (signed (byte_at s (o + i))) (signed b)) (byte_behind s o (i + 1) ∙ ap (byte_at s) (omega arith))

pub written_none : (f : Vertex → Vertex) (l : List ℤ) (to : ℕ) (s : List ℕ) → l ≡ with_part l to (map f (vertices 0 s))
unfolding vertices numbers_of
written_none f l to s = refl

pub written-more : (f : Vertex → Vertex) (l : List ℤ) (to m : ℕ) (s : List ℕ) (from : ℕ)
    → with_part l to (map f (vertices (m + 1) (drop from s))) ≡ with_vertex (with_part l to (map f (vertices m (drop from s)))) (to + m * 2) (f (vertex_in s (from + m * 2)))
written-more f l to m s from =
    ap (λ n. with_part l to (map f (vertices n (drop from s)))) (add-one m)
    ∙ ap (λ (P : Part). with_part l to (map f P)) (vertices-more m (drop from s))
    ∙ ap (with_part l to) (map-append f (vertices m (drop from s)) (vertex_in (drop from s) (m * 2) ∷ []))
    ∙ part-more l to (map f (vertices m (drop from s))) (f (vertex_in (drop from s) (m * 2)))
    ∙ ap (λ n. with_vertex (with_part l to (map f (vertices m (drop from s)))) (to + n * 2) (f (vertex_in (drop from s) (m * 2))))
    (length-map (vertices m (drop from s)) f ∙ length-vertices m (drop from s))
    ∙ ap (λ v. with_vertex (with_part l to (map f (vertices m (drop from s)))) (to + m * 2) (f v)) (vertex-behind s from (m * 2))

-- ---- a vertex read, turned and written

-- a byte read as a signed number is small
pub byte_small : (b : ℕ) (r : ℤ) → Fits w8 b → SFits w16 r → r ≡ signed b → nat_abs (to_z w16 (of_z w16 r)) < 32768
byte_small b r f g e =
    let h = signed-fits b f in
    rw (as_is g e) (lt_of_le_of_lt (nat_abs-between (signed b) 128 (fits-lower w8 (signed b) h) (<ℤ-≤ℤ (fits-upper w8 (signed b) h))) (lit< tt))

-- the vertex of two such bytes
pub vertex-as_is : (b c : ℕ) (x y : ℤ) → SFits w16 x → x ≡ signed b → SFits w16 y → y ≡ signed c
    → vertex (to_z w16 (of_z w16 x)) (to_z w16 (of_z w16 y)) ≡ vertex (signed b) (signed c)
vertex-as_is b c x y fx ex fy ey = ap₂ vertex (as_is fx ex) (as_is fy ey)

-- ---- slots of the table

-- what stands outside the place that is written
one_kept : (l : List ℤ) (i : ℕ) (a : ℤ) (b m : ℕ) → (i < b) ⊎ (b + m ≤ i) → take m (drop b (set l i a)) ≡ take m (drop b l)
one_kept l i a b m (inl h) = ap (take m) (drop-set-lt b l i a h)
one_kept l i a b m (inr h) =
    let e : i ≡ b + (i - b) = omega arith in
    ap (λ n. take m (drop b (set l n a))) e ∙ ap (take m) (drop-set-add b l (i - b) a) ∙ take-set-le m (drop b l) (i - b) a (omega arith)

run-kept : (l : List ℤ) (i : ℕ) (vs : List ℤ) (b m : ℕ) → (i + length vs ≤ b) ⊎ (b + m ≤ i) → take m (drop b (sets l i vs)) ≡ take m (drop b l)
run-kept l i [] b m h = refl
run-kept l i (v ∷ vs) b m (inl h) = run-kept (set l i v) (suc i) vs b m (inl (omega arith)) ∙ one_kept l i v b m (inl (omega arith))
run-kept l i (v ∷ vs) b m (inr h) = run-kept (set l i v) (suc i) vs b m (inr (omega arith)) ∙ one_kept l i v b m (inr (omega arith))

-- what stands where it is written
run-written : (l : List ℤ) (i : ℕ) (vs : List ℤ) → i + length vs ≤ length l → take (length vs) (drop i (sets l i vs)) ≡ vs
run-written l i vs h =
    let n : length (take i l) ≡ i = length-take-le i l (omega arith) in
    ap (λ (r : List ℤ). take (length vs) (drop i r)) (sets-eq vs l i h)
    ∙ ap (take (length vs)) (drop-append-le i (take i l ++ vs) (drop (i + length vs) l) (rw (length-append (take i l) vs, n) (omega arith)))
    ∙ ap (λ (r : List ℤ). take (length vs) (r ++ drop (i + length vs) l)) (drop_at (take i l) vs i n)
    ∙ take_at vs (drop (i + length vs) l) (length vs) refl

-- a number written before a run is written
set_before : (l : List ℤ) (i j : ℕ) (a : ℤ) (vs : List ℤ) → i < j → set (sets l j vs) i a ≡ sets (set l i a) j vs
set_before l i j a [] h = refl
set_before l i j a (v ∷ vs) h =
    set_before (set l j v) i (suc j) a vs (omega arith) ∙ ap (λ (w : List ℤ). sets w (suc j) vs) (set_comm l j i v a (λ e. omega arith))

-- a box as a run of four numbers
box-run : (l : List ℤ) (to : ℕ) (e : Extents) → with_box l to e ≡ sets l to (sides_of e)
unfolding with_box
box-run l to e =
    let b : to + 1 ≡ suc to = omega arith in
    let c : to + 2 ≡ suc (suc to) = omega arith in
    let d : to + 3 ≡ suc (suc (suc to)) = omega arith in
    rw (b, c, d)

-- a box copied into a part of the table
pub box-copied : (l : List ℤ) (to k : ℕ) (e : Extents) (ns : List ℤ) → k ≡ 4 → ns ≡ sides_of e → to + 4 ≤ length l → put_mid to k l ns ≡ with_box l to e
box-copied l to k e ns q p h =
    put_mid-paste to k l ns (sides_of e) 4 p (sym q) refl ∙ sym (sets-eq (sides_of e) l to h) ∙ sym (box-run l to e)

-- a box written before a run
box-before : (l : List ℤ) (to : ℕ) (e : Extents) (ns : List ℤ) → sets (sets l (to + 4) ns) to (sides_of e) ≡ sets l to (sides_of e ++ ns)
box-before l to e ns =
    let f : to + 4 ≡ suc (suc (suc (suc to))) = omega arith in
    let m : ℕ = suc (suc (suc (suc to))) in
    ap (λ n. sets (sets l n ns) to (sides_of e)) f
    ∙ ap (λ (w : List ℤ). set (set (set w (suc to) e.max_x) (suc (suc to)) e.min_y) (suc (suc (suc to))) e.max_y) (set_before l to m e.min_x ns (omega arith))
    ∙ ap (λ (w : List ℤ). set (set w (suc (suc to)) e.min_y) (suc (suc (suc to))) e.max_y) (set_before (set l to e.min_x) (suc to) m e.max_x ns (omega arith))
    ∙ ap (λ (w : List ℤ). set w (suc (suc (suc to))) e.max_y) (set_before (set (set l to e.min_x) (suc to) e.max_x) (suc (suc to)) m e.min_y ns (omega arith))
    ∙ set_before (set (set (set l to e.min_x) (suc to) e.max_x) (suc (suc to)) e.min_y) (suc (suc (suc to))) m e.max_y ns (omega arith)

-- A part's vertices written, and then the box that they have before them: the part's slot is written.
pub slot-written : (l : List ℤ) (to n : ℕ) (P : Part) → n ≡ length P → to + 4 + n * 2 ≤ length l
    → with_box (with_part l (to + 4) P) to (extents_of (part_of (take (n * 2) (drop (to + 4) (with_part l (to + 4) P))))) ≡ with_slot l to P
unfolding slot_of
slot-written l to n P e h =
    let m : length (numbers_of P) ≡ n * 2 = omega (arith, length-numbers P) in
    ap (λ (Q : Part). with_box (with_part l (to + 4) P) to (extents_of Q))
    (ap (λ k. part_of (take k (drop (to + 4) (with_part l (to + 4) P)))) (sym m)
    ∙ ap part_of (run-written l (to + 4) (numbers_of P) (omega (arith, m)))
    ∙ part-of_numbers P)
    ∙ box-run (with_part l (to + 4) P) to (extents_of P)
    ∙ box-before l to (extents_of P) (numbers_of P)

length-slot : (P : Part) → length (slot_of P) ≡ 4 + length P * 2
unfolding slot_of
length-slot P = let h = length-numbers P in omega arith

pub held-written : (l : List ℤ) (k q : ℕ) (P : Part) → slot k q + (4 + length P * 2) ≤ length l → Holds (with_slot l (slot k q) P) k q P
held-written l k q P h =
    ap (λ n. take n (drop (slot k q) (with_slot l (slot k q) P))) (sym (length-slot P))
    ∙ run-written l (slot k q) (slot_of P) (rw (length-slot P) h)

-- two slots share no number, unless they are the same one
slots_apart : (k q i r : ℕ) → q < 48 → r < 48 → ((k ≡ i) → (q ≡ r) → ⊥) → (slot k q + 20 ≤ slot i r) ⊎ (slot i r + 20 ≤ slot k q)
slots_apart k q i r hq hr ne = ⊎_elim (λ h. side (eq_or_ne k i) h) (λ h. inr (omega arith)) (le_or_lt k i)
  where
    side : (k ≡ i) ⊎ (k ≡ i → ⊥) → k ≤ i → (slot k q + 20 ≤ slot i r) ⊎ (slot i r + 20 ≤ slot k q)
    side (inr d) h = inl (omega arith)
    side (inl e) h = ⊎_elim (λ g. below (eq_or_ne q r) g) (λ g. inr (omega arith)) (le_or_lt q r)
      where
        below : (q ≡ r) ⊎ (q ≡ r → ⊥) → q ≤ r → (slot k q + 20 ≤ slot i r) ⊎ (slot i r + 20 ≤ slot k q)
        below (inl f) g = absurd (ne e f)
        below (inr d) g = inl (omega arith)

-- a part written into one slot leaves the others as they were
pub slot_kept : (l : List ℤ) (k q i r m : ℕ) (P : Part) → q < 48 → r < 48 → ((k ≡ i) → (q ≡ r) → ⊥) → length P ≤ 8 → m ≤ 20
    → take m (drop (slot k q) (with_slot l (slot i r) P)) ≡ take m (drop (slot k q) l)
slot_kept l k q i r m P hq hr ne hp hm = run-kept l (slot i r) (slot_of P) (slot k q) m (side (slots_apart k q i r hq hr ne))
  where
    side : (slot k q + 20 ≤ slot i r) ⊎ (slot i r + 20 ≤ slot k q) → (slot i r + length (slot_of P) ≤ slot k q) ⊎ (slot k q + m ≤ slot i r)
    side (inl h) = inr (omega arith)
    side (inr h) = inl (omega (arith, length-slot P))

-- ---- what a slot holds

module _ (table : List ℤ) (k q : ℕ) (P : Part) (h : Holds table k q P) where
  -- the part
  pub held-part : (at : ℕ) → at ≡ slot k q + 4 → part_of (take (length P * 2) (drop at table)) ≡ P
  unfolding slot_of
  held-part at e =
      ap (λ n. part_of (take (length P * 2) (drop n table))) e
      ∙ ap (λ (w : List ℤ). part_of (take (length P * 2) w)) (sym (drop-drop 4 (slot k q) table))
      ∙ ap part_of (behind (length P * 2) (drop (slot k q) table))
      ∙ ap (λ (w : List ℤ). part_of (drop 4 w)) h
      ∙ part-of_numbers P
    where
      four : (n : ℕ) (w : List ℤ) → take n (drop 4 w) ≡ drop 4 (take (suc (suc (suc (suc n)))) w)
      four n [] = take-nil n
      four n (a ∷ []) = take-nil n
      four n (a ∷ b ∷ []) = take-nil n
      four n (a ∷ b ∷ c ∷ []) = take-nil n
      four n (a ∷ b ∷ c ∷ d ∷ w) = refl

      behind : (n : ℕ) (w : List ℤ) → take n (drop 4 w) ≡ drop 4 (take (4 + n) w)
      behind n w = let e : suc (suc (suc (suc n))) ≡ 4 + n = omega arith in four n w ∙ ap (λ m. drop 4 (take m w)) e

  -- number j of its box
  pub held-side : (at j : ℕ) → at ≡ slot k q + j → j < 4 → get_or table at (pos 0) ≡ get_or (sides_of (extents_of P)) j (pos 0)
  unfolding slot_of
  held-side at j e l =
      ap (λ n. get_or table n (pos 0)) e
      ∙ sym (get_or-drop (slot k q) table j (pos 0))
      ∙ sym (get_or-take (4 + length P * 2) (drop (slot k q) table) j (pos 0) (omega arith))
      ∙ ap (λ (w : List ℤ). get_or w j (pos 0)) h
      ∙ get_or-append (sides_of (extents_of P)) (numbers_of P) (pos 0) j l

-- ---- a part turned into its slots, one plane after the other

pub record PlanesTurned (P : Part) (q : ℕ) (old new : List ℤ) (k : ℕ) : Type 0 where
  pub held : (i : ℕ) → i < k → Holds new i q (map (rotated i) P)
  pub kept : (r : ℕ) → r < 48 → (r ≡ q → ⊥) → Kept old new r

pub turned_none : (P : Part) (q : ℕ) (old : List ℤ) → PlanesTurned P q old old 0
turned_none P q old = record { held = below_none _; kept = λ r h d k l. refl }

module _ (P : Part) (q : ℕ) (few : length P ≤ 8) (small : q < 48) where
  rotated-length : (i : ℕ) → length (map (rotated i) P) ≡ length P
  rotated-length i = length-map P (rotated i)

  pub turned_more : (old mid new : List ℤ) (k : ℕ) → length mid ≡ 4096 → k < 4 → PlanesTurned P q old mid k → new ≡ with_slot mid (slot k q) (map (rotated k) P)
      → PlanesTurned P q old new (k + 1)
  turned_more old mid new k size h t e =
      let few-k : length (map (rotated k) P) ≤ 8 = rw (rotated-length k) few in
      record {
        held =
            below_more _ k
            (λ i l.
            ap (λ (w : List ℤ). take (4 + length (map (rotated i) P) * 2) (drop (slot i q) w)) e
            ∙ slot_kept mid i q k q (4 + length (map (rotated i) P) * 2) (map (rotated k) P) small small (λ p _. omega arith) few-k
            (omega (arith, rotated-length i))
            ∙ t.held i l)
            (ap (λ (w : List ℤ). take (4 + length (map (rotated k) P) * 2) (drop (slot k q) w)) e
            ∙ held-written mid k q (map (rotated k) P) (omega (arith, rotated-length k)));
        kept =
            λ r l d i g.
            ap (λ (w : List ℤ). take 20 (drop (slot i r) w)) e
            ∙ slot_kept mid i r k q 20 (map (rotated k) P) l small (λ _ p. d p) few-k (omega arith)
            ∙ t.kept r l d i g;
      }

-- ---- all parts of a kind, one after the other

-- what a slot holds it holds as long as it is kept
pub holds_kept : (old new : List ℤ) (k q : ℕ) (P : Part) → length P ≤ 8 → k < 4 → Kept old new q → Holds old k q P → Holds new k q P
holds_kept old new k q P few h e held =
    let narrow : (w : List ℤ) → take (4 + length P * 2) (drop (slot k q) w) ≡ take (4 + length P * 2) (take 20 (drop (slot k q) w)) =
    λ w. sym (take-take (4 + length P * 2) 20 (drop (slot k q) w) (omega arith)) in
    narrow new ∙ ap (take (4 + length P * 2)) (e k h) ∙ sym (narrow old) ∙ held

module _ (s : List ℕ) (t : ℕ) where
  -- part i of the kind
  abbrev pub part_at : ℕ → Part
  part_at i = get_or (kind_at (content s).kinds t).parts i []

  pub record KindTurnedTo (old new : List ℤ) (n : ℕ) : Type 0 where
    pub held : (i : ℕ) → i < n → (k : ℕ) → k < 4 → Holds new k (t * 6 + i) (map (rotated k) (part_at i))
    pub kept : (r : ℕ) → r < t * 6 → Kept old new r

  pub kind-none : (old : List ℤ) → KindTurnedTo old old 0
  kind-none old = record { held = below_none _; kept = λ r h k l. refl }

  pub kind-more : (old mid new : List ℤ) (n : ℕ) (P : Part) → t < 8 → n < 6 → ((i : ℕ) → i < n → length (part_at i) ≤ 8) → P ≡ part_at n → KindTurnedTo old mid n
      → PartTurned P (t * 6 + n) mid new → KindTurnedTo old new (n + 1)
  kind-more old mid new n P ht hn few e b p =
      record {
        held =
            below_more _ n
            (λ i h k l.
            holds_kept mid new k (t * 6 + i) (map (rotated k) (part_at i)) (rw (length-map (part_at i) (rotated k)) (few i h)) l
            (p.kept (t * 6 + i) (omega arith) (λ d. omega arith)) (b.held i h k l))
            (λ k l. subst (λ (Q : Part). Holds new k (t * 6 + n) (map (rotated k) Q)) e (p.held k l));
        kept = λ r h k l. p.kept r (omega arith) (λ d. omega arith) k l ∙ b.kept r h k l;
      }

-- ---- all kinds, one after the other

module _ (s : List ℕ) where
  pub record KindsTurned (table : List ℤ) (n : ℕ) : Type 0 where
    pub held : (t : ℕ) → t < n → (i k : ℕ) → i < length (kind_at (content s).kinds t).parts → k < 4 → Holds table k (t * 6 + i) (map (rotated k) (part_at s t i))

  pub kinds-none : (table : List ℤ) → KindsTurned table 0
  kinds-none table = record { held = below_none _ }

  -- every part of the kinds before n is short, and so few that they end before the slots of the next kind
  pub kinds-more : (old new : List ℤ) (n : ℕ)
      → ((t : ℕ) → t < n → length (kind_at (content s).kinds t).parts ≤ 6) → ((t : ℕ) → t < n → (i : ℕ) → i < length (kind_at (content s).kinds t).parts → length (part_at s t i) ≤ 8)
      → KindsTurned old n → KindTurned s n old new → KindsTurned new (n + 1)
  kinds-more old new n few short b p =
      record {
        held =
            below_more _ n
            (λ t h i k l g.
            holds_kept old new k (t * 6 + i) (map (rotated k) (part_at s t i)) (rw (length-map (part_at s t i) (rotated k)) (short t h i l)) g
            (p.kept (t * 6 + i) (omega (arith, few t h))) (b.held t h i k l g))
            p.held;
      }

  pub kinds-all : (table : List ℤ) (n : ℕ) → ContentFit (content s) → kind_count (content s).kinds ≤ n → length table ≡ 4096 → KindsTurned table n → TurnedOf s table
  kinds-all table n fit h size b = record { fit = fit; size = size; held = λ t i k l g. b.held t (omega arith) i k g }
