-- The content of an accepted job is fit.
use mathlib.Core.Bool.{Bool, true, false, not, ◌&&◌, ◌||◌}
use mathlib.Core.List.{List, [], ◌∷◌, map}
use mathlib.Core.Path.{◌≡◌, sym, ap, subst, ◌∙◌}
use Prim.Native.Nat.{ℕ, zero, suc, ◌+◌, ◌*◌, ◌-◌, ◌≤◌}
use native.Mathlib.Omega.{arith}
use borrow.Author.Tests.{leb-true, not-false}
use lib.Dec.{leb, ltb}
use lib.ListN.{length, drop, length-map, length-drop}
use lib.Seq.{length-take-le}
use lib.Signed.{le_z}
use Rattle.integers.specs.Byte.{signed}
use Rattle.words.proofs.Lists.{bytes_take, bytes_drop}
use Rattle.words.specs.Bytes.{AreBytes}
use Rattle.model.proofs.AcceptedKinds.{kinds-least, kinds-most, pieces-most}
use Rattle.model.proofs.Causes.{no_cause, no_cause7, sections, board-fits, classes-distinct, classes-in_range, kinds-fit}
use Rattle.model.proofs.ClassOrder.{names-permuted}
use Rattle.model.proofs.Lists.{and_left, and_right, or_left, or_right, length-below}
use Rattle.model.proofs.Permuted.{all-permuted, map-permuted, distinct-permuted}
use Rattle.model.proofs.Readers.{many-holds}
use Rattle.model.proofs.Records.{length-vertices, part-read, kind-read}
use Rattle.model.specs.ClassOrder.{Permuted}
use Rattle.model.specs.Content.{Part, Kind, SpacingClass}
use Rattle.model.specs.Format.{byte_at, kinds_at, kinds_length, classes_stated, kinds_stated, board_section, classes_section, kinds_section, in_place, share_byte, class_at, classes_of, by_rising_id, kind_bytes, kinds_got, Got, got, many, vertices, read_part, read_kind, content, cause3, cause5, cause7, class_in_range, distinct, names_present, vertex_in_range, refusal}
use Rattle.model.specs.Geometry.{sound}
use Rattle.model.specs.Lists.{all, any, sum, below}
use Rattle.model.specs.ContentFit.{Each, RisingFrom, ClassFit, VertexFit, PartFit, KindFit, ContentFit}
use Rattle.model.specs.Saving.{kind_list, written}
use Rattle.model.proofs.Saving.Copied.{kinds-copied}
use Rattle.model.proofs.Saving.Fields.{written-size}
use Rattle.model.proofs.Saving.Order.{by_id-permuted, by_id-rises, length-permuted}
use Rattle.model.proofs.Saving.Sections.{sizes-fit}
use Rattle.model.proofs.Saving.Signed.{signed-small}
use Rattle.model.proofs.Saving.Each.{each_map, each_both, all-each, any-each}

-- ---- Values read from bytes

-- What Q says of a value, with what it was read from, gives P: so it does of values read one after the other.
many-gives : {A : Type 0} (f : List ℕ → Got A) (P Q : A → Type 0) → ((s : List ℕ) (a : A) (k : ℕ) → AreBytes s → f s ≡ got a k → Q a → P a)
    → (n : ℕ) (s : List ℕ) (xs : List A) (m : ℕ) → many f n s ≡ got xs m → AreBytes s → Each Q xs → Each P xs
many-gives f P Q each =
    many-holds f (λ n s xs m. AreBytes s → Each Q xs → Each P xs) (λ s b h. tt)
    (λ n s a k xs m e r b h. (each s a k b e h.0, r (bytes_drop k s b) h.1))

-- ---- Parts

-- Neither a part that is not sound nor a corner at -128.
abbrev PartPasses : Part → Type 0
PartPasses P = (not (sound P) || not (all vertex_in_range P)) ≡ false

vertices-fit : (n : ℕ) (s : List ℕ) → AreBytes s → Each (λ v. vertex_in_range v ≡ true) (vertices n s) → Each VertexFit (vertices n s)
unfolding vertices vertex_in_range byte_at
vertices-fit zero s b h = tt
vertices-fit (suc n) s b h = (
  record {
    x_small = signed-small (byte_at s 0) (b 0) (and_left (le_z (lib.IntN.negsuc 126) (signed (byte_at s 0))) _ h.0);
    y_small = signed-small (byte_at s 1) (b 1) (and_right (le_z (lib.IntN.negsuc 126) (signed (byte_at s 0))) _ h.0);
  },
  vertices-fit n (drop 2 s) (bytes_drop 2 s b) h.1,
)

part-fits : (s : List ℕ) (P : Part) (k : ℕ) → AreBytes s → read_part s ≡ got P k → PartPasses P → PartFit P
part-fits s P k b e h =
    let r = part-read s P k e in
    let l : length P ≡ byte_at s 0 = ap length r.value ∙ length-vertices (byte_at s 0) (drop 1 s) in
    let range : all vertex_in_range P ≡ true = not-false _ (or_right (not (sound P)) _ h) in
    let corners : all vertex_in_range (vertices (byte_at s 0) (drop 1 s)) ≡ true = rw r.value at range in
    record {
      corners_least = rw l r.least;
      corners_most = rw l r.most;
      corners = subst (Each VertexFit) (sym r.value) (vertices-fit (byte_at s 0) (drop 1 s) (bytes_drop 1 s b) (all-each vertex_in_range _ corners));
      is_sound = not-false _ (or_left _ _ h);
    }

-- ---- Types

abbrev KindPasses : List SpacingClass → Kind → Type 0
KindPasses cs k = (names_present cs k ≡ true) × Each PartPasses k.parts

kind_fits : (cs : List SpacingClass) (s : List ℕ) (k : Kind) (m : ℕ) → AreBytes s → read_kind s ≡ got k m → KindPasses cs k → KindFit cs k
unfolding byte_at
kind_fits cs s k m b e h =
    let r = kind-read s k m e in
    record {
      demand_least = rw r.demand r.demand_least;
      demand_most = rw r.demand r.demand_most;
      rotations_least = rw r.rotations r.rotations_least;
      rotations_most = rw r.rotations r.rotations_most;
      mask_most = rw r.classes (b 2);
      present = h.0;
      parts_least = rw r.part_count r.parts_least;
      parts_most = rw r.part_count r.parts_most;
      parts = many-gives read_part PartFit PartPasses part-fits _ _ _ _ r.parts (bytes_drop 4 s b) h.1;
    }

-- ---- Classes

class-fits : (c : SpacingClass) → class_in_range c ≡ true → ClassFit c
unfolding class_in_range
class-fits c e =
    let ab = and_left (leb c.id 7 && leb c.rank 255) _ e in
    record {
      id_most = leb-true _ _ (and_left (leb c.id 7) _ ab);
      rank_most = leb-true _ _ (and_right (leb c.id 7) _ ab);
      gap_most = leb-true _ _ (and_right (leb c.id 7 && leb c.rank 255) _ e);
    }

-- Classes in range, by rising id, are these classes in another order.
pub risen_permuted : (cs : List SpacingClass) → all class_in_range cs ≡ true → Permuted cs (by_rising_id cs)
risen_permuted cs e = by_id-permuted cs (each_map (λ c h. (class-fits c h).id_most) cs (all-each class_in_range cs e))

module _ (s : List ℕ) (e : refusal s ≡ 0) where
  -- The sections share no byte, so that they and the trailer have room one after the other.
  sections_apart : 6 + classes_stated s * 3 + kinds_length s + 14 ≤ length s
  unfolding cause3 board_section classes_section kinds_section sum
  sections_apart =
      let no3 = (no_cause s e).no3 in
      let w = sections s (no_cause s e).no1 no3 in
      let p1 : Bool = not (in_place s (board_section s)) || not (in_place s (classes_section s)) || not (in_place s (kinds_section s)) in
      let q1 : Bool = share_byte (board_section s) (classes_section s) in
      let q2 : Bool = share_byte (board_section s) (kinds_section s) in
      let e4 = or_left (p1 || q1 || q2) _ no3 in
      let e3 = or_left (p1 || q1) _ e4 in
      let r = sizes-fit (length s - 14) (board_section s ∷ classes_section s ∷ kinds_section s ∷ []) (omega arith, (omega arith, (omega arith, tt)))
      ((or_right p1 q1 e3, (or_right (p1 || q1) q2 e4, tt)), ((or_right (p1 || q1 || q2) (share_byte (classes_section s) (kinds_section s)) no3, tt), (tt, tt))) in
      let l = w.least in
      omega arith

  classes-permuted : Permuted (classes_of s) (content s).classes
  unfolding content
  classes-permuted = risen_permuted (classes_of s) (classes-in_range s (no_cause s e).no5)

  pub classes-count : length (content s).classes ≡ classes_stated s
  unfolding classes_of
  classes-count = sym (length-permuted classes-permuted) ∙ length-map (below (classes_stated s)) (class_at s) ∙ length-below (classes_stated s)

  kinds-read : many read_kind (kinds_stated s) (kind_bytes s) ≡ got (content s).kinds (kinds_length s)
  unfolding kinds_got
  kinds-read = (kinds-fit s (no_cause s e).no6).reads

  pub kinds-size : AreBytes s → length (kind_list (content s).kinds) ≡ kinds_length s
  unfolding kind_bytes
  kinds-size b =
      let inside = (sections s (no_cause s e).no1 (no_cause s e).no3).kinds in
      ap length (kinds-copied s b e) ∙ length-take-le (kinds_length s) (drop (kinds_at s) s) (omega (arith, length-drop (kinds_at s) s))

  -- The saved job is never longer than the original.
  pub saved_length : AreBytes s → length (written (content s)) ≤ length s
  saved_length b = omega (arith, written-size (content s), classes-count, kinds-size b, sections_apart)

  kinds-pass : Each (KindPasses (content s).classes) (content s).kinds
  unfolding cause7 content
  kinds-pass =
      let ks : List Kind = (content s).kinds in
      let present : all (names_present (content s).classes) ks ≡ true
      = ap (λ p. all p ks) (sym (names-permuted classes-permuted)) ∙ (kinds-fit s (no_cause s e).no6).present in
      each_both (λ k. names_present (content s).classes k ≡ true) (λ k. Each PartPasses k.parts) ks
      (all-each (names_present (content s).classes) ks present)
      (each_map (λ k h. any-each (λ P. not (sound P) || not (all vertex_in_range P)) k.parts h) ks
      (any-each (λ k. any (λ P. not (sound P) || not (all vertex_in_range P)) k.parts) ks (no_cause7 s e)))

  classes-rise : RisingFrom 0 (map (λ c. c.id) (content s).classes)
  unfolding content
  classes-rise = by_id-rises (classes_of s) (classes-distinct s (no_cause s e).no5)

  ranks-distinct : distinct (map (λ c. c.rank) (classes_of s)) ≡ true
  unfolding cause5
  ranks-distinct = not-false _ (or_right (ltb 8 (classes_stated s) || not (all class_in_range (classes_of s)) || not (distinct (map (λ c. c.id) (classes_of s)))) _ (no_cause s e).no5)

  -- The content of an accepted job is fit.
  pub content-fit : AreBytes s → ContentFit (content s)
  unfolding kind_bytes content
  content-fit b =
      record {
        sheet = board-fits s (no_cause s e).no4;
        classes =
            each_map class-fits (content s).classes
            (all-each class_in_range (content s).classes
            (sym (all-permuted class_in_range classes-permuted) ∙ classes-in_range s (no_cause s e).no5));
        by_id = classes-rise;
        ranks = sym (distinct-permuted (map-permuted (λ c. c.rank) classes-permuted)) ∙ ranks-distinct;
        kinds_least = kinds-least s e;
        kinds_most = kinds-most s e;
        pieces = pieces-most s e;
        kinds =
            many-gives read_kind (KindFit (content s).classes) (KindPasses (content s).classes) (kind_fits (content s).classes)
            (kinds_stated s) (kind_bytes s) _ _ kinds-read (bytes_take (kinds_length s) (drop (kinds_at s) s) (bytes_drop (kinds_at s) s b)) kinds-pass;
      }
