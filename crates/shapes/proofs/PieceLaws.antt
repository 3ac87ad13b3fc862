-- Pieces in the table of turned parts. Assumes nothing.
use mathlib.Core.List.{List, [], ◌∷◌, map}
use mathlib.Core.Path.{◌≡◌, refl, sym, ap, subst, ◌∙◌}
use Prim.Native.Nat.{ℕ, zero, suc, ◌+◌, ◌*◌, ◌<◌}
use native.Mathlib.Nat.{le_trans}
use native.Mathlib.Omega.{arith}
use borrow.Author.Count.{below_more}
use lib.Dec.{lit≤}
use lib.IntN.{ℤ, pos}
use lib.ListN.{length, get_or, take, drop, set, length-map}
use lib.Seq.{get_or-set_same, get_or-set_other}
use Rattle.integers.proofs.Absolute.{nat_abs-negℤ}
use Rattle.model.specs.Content.{Vertex, Part, origin, no_kind, kind_at, kind_count}
use Rattle.model.specs.ContentFit.{VertexFit, PartFit, KindFit}
use Rattle.model.specs.Format.{content}
use Rattle.model.specs.Geometry.{quarter_turn, rotated, vertex_at}
use Rattle.model.specs.Lists.{rising, below}
use Rattle.model.proofs.Moves.{vertex_at-map}
use Rattle.model.proofs.Saving.Each.{each_at}
use Rattle.convexity.specs.Parts.{SoundPart}
use Rattle.convexity.proofs.Soundness.{rotated-sound}
use Rattle.polygons.specs.Boxes.{extents_of}
use Rattle.polygons.specs.Flat.{part_of}
use Rattle.polygons.proofs.BoxLaws.{same-box}
use Rattle.distances.specs.Compact.{Short, Compact}
use Rattle.geometry.specs.Pieces.{Standing, part_in, parts_in, box_in}
use Rattle.geometry.specs.declared.pieces.Piece.{Piece}
use Rattle.job.specs.View.{Viewed}
use Rattle.job.specs.declared.View.{View}
use Rattle.shapes.specs.Pieces.{PieceOf, turned_to, Turnable}
use Rattle.shapes.specs.Turned.{TurnedOf, sides_of}
use Rattle.shapes.proofs.TurnLaws.{held-part, held-side}
use Rattle.shapes.proofs.ViewLaws.{few-kinds, kind-in, some-part, part_in_lem, part-short}

-- ---- a list written from the front

module _ {A : Type 0} (d : A) (l : List A) (i : ℕ) (r : A) (f : ℕ → A) where
  pub written-more : i < length l → ((j : ℕ) → j < i → get_or l j d ≡ f j) → r ≡ f i → (j : ℕ) → j < i + 1 → get_or (set l i r) j d ≡ f j
  written-more h before e = below_more _ i (λ j g. get_or-set_other l i j r d (λ q. omega arith) ∙ before j g) (get_or-set_same l i r d h ∙ e)

-- ---- the piece of a kind

module _ {A B : Type 0} (g : A → B) (d : A) where
  rising-index : (f : ℕ → B) (a : ℕ) (xs : List A) → ((i : ℕ) → i < length xs → f (a + i) ≡ g (get_or xs i d)) → map f (rising a (length xs)) ≡ map g xs
  unfolding rising
  rising-index f a [] h = refl
  rising-index f a (x ∷ xs) h =
      ap (λ (y : B). y ∷ map f (rising (suc a) (length xs))) (ap f (omega arith) ∙ h 0 (omega arith))
      ∙ ap (λ (ys : List B). g x ∷ ys) (rising-index f (suc a) xs (λ i l. ap f (omega arith) ∙ h (suc i) (omega arith)))

  -- a function of the places is a function of the elements
  map-index : (f : ℕ → B) (xs : List A) → ((i : ℕ) → i < length xs → f i ≡ g (get_or xs i d)) → map f (below (length xs)) ≡ map g xs
  unfolding below
  map-index f xs h = rising-index f 0 xs (λ i l. ap f (omega arith) ∙ h i l)

-- ---- turned parts of a fit content

-- they are sound,
turned-sound : (k : ℕ) (P : Part) → PartFit P → SoundPart (map (rotated k) P)
turned-sound k P f = rotated-sound k P (record { is_sound = f.is_sound; corners = f.corners_least })

-- and their numbers are as small as they were
turned-short : (n k : ℕ) (v : Vertex) → Short n v.x v.y → Short n (rotated k v).x (rotated k v).y
unfolding rotated quarter_turn
turned-short n zero v h = h
turned-short n (suc k) v h = let r = turned-short n k v h in (rw (nat_abs-negℤ (rotated k v).y) r.1, r.0)

corner-short : (P : Part) → PartFit P → (i : ℕ) → i < length P → Short 127 (vertex_at P i).x (vertex_at P i).y
unfolding vertex_at
corner-short P f i h = let c = each_at VertexFit P origin f.corners i h in (c.x_small, c.y_small)

turned-compact : (k : ℕ) (P : Part) → PartFit P → Compact (map (rotated k) P)
turned-compact k P f i l =
    let h : i < length P = rw (length-map P (rotated k)) at l in
    let r = turned-short 127 k (vertex_at P i) (corner-short P f i h) in
    rw (vertex_at-map (rotated k) P i h) (le_trans r.0 (lit≤ tt), le_trans r.1 (lit≤ tt))

-- ---- the piece in the table

-- what the table has for the piece of kind t, turned k quarter turns
module _ (s : List ℕ) (table : List ℤ) (t : ℕ) (p : Piece) (x : TurnedOf s table) (y : PieceOf s t p) (ht : t < kind_count (content s).kinds) where
  part-fit : (i : ℕ) → i < length (kind_at (content s).kinds t).parts → PartFit (get_or (kind_at (content s).kinds t).parts i [])
  unfolding kind_at kind_count
  part-fit i l = each_at PartFit (kind_at (content s).kinds t).parts [] (each_at (KindFit (content s).classes) (content s).kinds no_kind x.fit.kinds t ht).parts i l

  module _ (k : ℕ) (hk : k < 4) where
    -- part i of the kind, turned
    abbrev turned_part : ℕ → Part
    turned_part i = map (rotated k) (get_or (kind_at (content s).kinds t).parts i [])

    part_turned : (i : ℕ) → i < length (kind_at (content s).kinds t).parts → part_in table (turned_to p k) i ≡ turned_part i
    unfolding part_in
    part_turned i l =
        let n : get_or p.sizes i 0 ≡ length (turned_part i) = y.size i (rw y.count l) ∙ sym (length-map (get_or (kind_at (content s).kinds t).parts i []) (rotated k)) in
        ap (λ m. part_of (take (m * 2) (drop (k * 1024 + p.first + i * 20 + 4) table))) n
        ∙ held-part table k (t * 6 + i) (turned_part i) (x.held t i k ht l hk) (k * 1024 + p.first + i * 20 + 4) (omega (arith, y.first))

    box-turned : (i : ℕ) → i < length (kind_at (content s).kinds t).parts → box_in table (turned_to p k) i ≡ extents_of (turned_part i)
    unfolding box_in extents_of
    box-turned i l =
        let side : (at j : ℕ) → at ≡ k * 1024 + p.first + i * 20 + j → j < 4 → get_or table at (pos 0) ≡ get_or (sides_of (extents_of (turned_part i))) j (pos 0) =
        λ at j e g. held-side table k (t * 6 + i) (turned_part i) (x.held t i k ht l hk) at j (omega (arith, y.first)) g in
        same-box (side _ 0 (omega arith) (omega arith)) (side _ 1 refl (omega arith)) (side _ 2 refl (omega arith)) (side _ 3 refl (omega arith))

    -- The parts of the turned piece are the kind's parts turned k quarter turns.
    pub parts-turned : parts_in table (turned_to p k) ≡ map (map (rotated k)) (kind_at (content s).kinds t).parts
    unfolding parts_in
    parts-turned =
        ap (λ n. map (part_in table (turned_to p k)) (below n)) y.count
        ∙ map-index (map (rotated k)) [] (part_in table (turned_to p k)) (kind_at (content s).kinds t).parts part_turned

    -- Each stands under its box.
    piece_stands : Standing table (turned_to p k)
    piece_stands =
        record {
          size = x.size;
          fitting = record {
            some = y.fitting.some;
            few = y.fitting.few;
            within = omega (arith, y.plane);
            least = y.fitting.least;
            short = y.fitting.short;
          };
          boxed = λ i l. let g : i < length (kind_at (content s).kinds t).parts = rw y.count at l in box-turned i g ∙ ap extents_of (sym (part_turned i g));
          sound = λ i l. let g : i < length (kind_at (content s).kinds t).parts = rw y.count at l in subst SoundPart (sym (part_turned i g)) (turned-sound k _ (part-fit i g));
          compact = λ i l. let g : i < length (kind_at (content s).kinds t).parts = rw y.count at l in subst Compact (sym (part_turned i g)) (turned-compact k _ (part-fit i g));
        }

  -- So it stands at every rotation.
  pub piece_turnable : Turnable table p
  piece_turnable = record { plane = y.plane; stands = piece_stands }

-- The piece of kind t, from the sizes of its parts.
pub piece_is : (s : List ℕ) (v : View) (x : Viewed s v) (t : ℕ) → t < kind_count (content s).kinds → (n : ℕ) (sizes : List ℕ) → n ≡ length (kind_at (content s).kinds t).parts
    → ((i : ℕ) → i < n → get_or sizes i 0 ≡ length (get_or (kind_at (content s).kinds t).parts i [])) → PieceOf s t (record { first = t * 120; count = n; sizes = sizes })
piece_is s v x t h n sizes e sized =
    record {
      fitting = record {
        some = omega (arith, some-part s v x t h);
        few = omega (arith, (kind-in s v x t h).parts, (kind-in s v x t h).few_parts);
        within = omega (arith, few-kinds s v x);
        least = λ i l. rw (sized i l) (omega (arith, (part_in_lem s v x t h i (omega arith)).least));
        short = λ i l. rw (sized i l) (part-short s v x t h i (omega arith));
      };
      first = refl;
      plane = omega (arith, few-kinds s v x);
      count = e;
      size = sized;
    }
