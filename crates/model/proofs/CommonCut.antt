-- Document 02, "3/13 Common cut": which gap bytes are refused; the gap of a pair, as "8/13" has it; that without a marked class it is the larger of its types' two, as document 01 says.
use mathlib.Core.Bool.{Bool, true, false, not, cond, ◌&&◌, and_assoc, and_comm, and-false}
use mathlib.Core.List.{List, [], ◌∷◌, map}
use mathlib.Core.Logic.{◌⊎◌, inl, inr, ⊎_elim, ◌↔◌}
use mathlib.Core.Option.{Option, none, some}
use mathlib.Core.Path.{◌≡◌, refl, sym, ap, ap₂, ◌∙◌}
use Prim.Native.Nat.{ℕ, ◌+◌, ◌*◌, ◌-◌, ◌≤◌, ◌<◌, max}
use native.Mathlib.Nat.{max_comm}
use native.Mathlib.Omega.{arith}
use borrow.Author.Tests.{leb-false, le-leb, lt-leb, not-true}
use lib.Dec.{leb, eqb}
use Rattle.words.proofs.Cases.{le_or_lt}
use Rattle.model.specs.Candidate.{placed_parts}
use Rattle.model.specs.Content.{SpacingClass, spacing_class, Kind}
use Rattle.model.specs.Format.{byte_at, classes_at, classes_stated, marks_cut, gap_meant, class_at, classes_of, by_rising_id, content, class_in_range}
use Rattle.model.specs.Gap.{best_class, kind_gap, same_marked, share_cut, pair_gap}
use Rattle.model.specs.Geometry.{pieces_conflict}
use Rattle.model.specs.Layout.{Entry, entry_kind, conflict}
use Rattle.model.specs.Lists.{all, concat, below, between}
use Rattle.model.specs.Problem.{under}
use Rattle.model.specs.Services.{class_numbers}
use Rattle.model.proofs.Gaps.{all-risen}
use Rattle.model.proofs.Ranks.{best-holds}
use Rattle.model.proofs.Lists.{and_left, and_right, all-below}
use Rattle.model.proofs.Records.{between-both}
use Rattle.model.proofs.Sorted.{eqb_comm}
use Rattle.model.proofs.Tests.{all_map}

-- ---- Gap bytes

-- What a byte means, by whether it marks: never more than the byte itself. A byte that marks lies from 128 to 191.
module _ (b : ℕ) where
  pub meant : (t : Bool) → marks_cut b ≡ t → gap_meant b ≡ cond t (b - 128) b
  unfolding gap_meant
  meant t e = ap (λ t. cond t (b - 128) b) e

  pub meant_most : gap_meant b ≤ b
  meant_most = go (marks_cut b) refl
    where
      go : (t : Bool) → marks_cut b ≡ t → gap_meant b ≤ b
      go true e = let m = meant true e in omega arith
      go false e = let m = meant false e in omega arith

  pub marks : marks_cut b ≡ true → (128 ≤ b) × (b ≤ 191)
  unfolding marks_cut
  marks e = let r = between-both _ _ b e in (omega arith, omega arith)

  marks_not : marks_cut b ≡ false → (b < 128) ⊎ (191 < b)
  unfolding marks_cut between
  marks_not e = ⊎_elim (λ l. inr (leb-false b 191 (sym (ap (λ t. t && leb b 191) (le-leb 128 b l)) ∙ e))) inl (le_or_lt 128 b)

  -- The bytes that mean a gap above 63.
  above-63 : (63 < gap_meant b) ↔ (((64 ≤ b) × (b ≤ 127)) ⊎ (191 < b))
  above-63 = (λ h. go (marks_cut b) refl h, λ h. back (marks_cut b) refl h)
    where
      go : (t : Bool) → marks_cut b ≡ t → 63 < gap_meant b → ((64 ≤ b) × (b ≤ 127)) ⊎ (191 < b)
      go true e h = let m = meant true e in let r = marks e in absurd (omega arith)
      go false e h = let m = meant false e in ⊎_elim (λ l. inl (omega arith, omega arith)) inr (marks_not e)

      back : (t : Bool) → marks_cut b ≡ t → ((64 ≤ b) × (b ≤ 127)) ⊎ (191 < b) → 63 < gap_meant b
      back true e h = let r = marks e in absurd (⊎_elim (λ l. omega arith) (λ l. omega arith) h)
      back false e h = let m = meant false e in ⊎_elim (λ l. omega arith) (λ l. omega arith) h

  -- "Refusal 5 now covers gap bytes 64 to 127 and above 191": a class of an id and a rank that are allowed is out of range exactly if its gap byte is one of these.
  pub refused-bytes : (i r : ℕ) → i ≤ 7 → r ≤ 255 → (class_in_range (spacing_class i r (gap_meant b) (marks_cut b)) ≡ false) ↔ (((64 ≤ b) × (b ≤ 127)) ⊎ (191 < b))
  unfolding class_in_range
  refused-bytes i r hi hr =
      let e : (leb i 7 && leb r 255 && leb (gap_meant b) 63) ≡ leb (gap_meant b) 63 = rw (le-leb i 7 hi, le-leb r 255 hr) in
      (λ h. above-63.0 (leb-false (gap_meant b) 63 (sym e ∙ h)), λ h. e ∙ lt-leb (gap_meant b) 63 (above-63.1 h))

-- ---- The gap of a pair

last_two : (a b c : Bool) → (a && b && c) ≡ (a && c && b)
last_two a b c = and_assoc a b c ∙ ap (λ t. a && t) (and_comm b c) ∙ sym (and_assoc a c b)

same_marked-symmetric : (a b : Option SpacingClass) → same_marked a b ≡ same_marked b a
unfolding same_marked
same_marked-symmetric none none = refl
same_marked-symmetric none (some d) = refl
same_marked-symmetric (some c) none = refl
same_marked-symmetric (some c) (some d) =
    ap (λ t. t && c.common_cut && d.common_cut) (eqb_comm c.id d.id) ∙ last_two (eqb d.id c.id) c.common_cut d.common_cut

pub pair_gap-symmetric : (cs : List SpacingClass) (k m : Kind) → pair_gap cs k m ≡ pair_gap cs m k
unfolding pair_gap share_cut
pair_gap-symmetric cs k m = ap₂ (λ t g. cond t 0 g) (same_marked-symmetric (best_class cs k) (best_class cs m)) (max_comm (kind_gap cs k) (kind_gap cs m))

-- It is never larger than the larger of the two.
pub pair_gap-most : (cs : List SpacingClass) (k m : Kind) → pair_gap cs k m ≤ max (kind_gap cs k) (kind_gap cs m)
unfolding pair_gap
pair_gap-most cs k m = go (share_cut cs k m)
  where
    go : (t : Bool) → cond t 0 (max (kind_gap cs k) (kind_gap cs m)) ≤ max (kind_gap cs k) (kind_gap cs m)
    go true = omega arith
    go false = omega arith

-- ---- Without a marked class

-- No class of the list is marked.
abbrev pub NoneMarked : List SpacingClass → Type 0
NoneMarked cs = all (λ c. not c.common_cut) cs ≡ true

none-shared : (cs : List SpacingClass) (k m : Kind) → NoneMarked cs → share_cut cs k m ≡ false
unfolding share_cut same_marked
none-shared cs k m e = go (best_class cs k) (best_class cs m) refl
  where
    go : (a b : Option SpacingClass) → best_class cs k ≡ a → same_marked a b ≡ false
    go none b q = refl
    go (some c) none q = refl
    go (some c) (some d) q = rw (not-true c.common_cut (best-holds (λ c. not c.common_cut) cs k c q e), and-false (eqb c.id d.id))

larger_gap : (cs : List SpacingClass) (k m : Kind) → NoneMarked cs → pair_gap cs k m ≡ max (kind_gap cs k) (kind_gap cs m)
unfolding pair_gap
larger_gap cs k m e = ap (λ t. cond t 0 (max (kind_gap cs k) (kind_gap cs m))) (none-shared cs k m e)

numbers_unmarked : (cs : List SpacingClass) → NoneMarked cs → concat (map class_numbers cs) ≡ concat (map (λ c. c.id ∷ c.rank ∷ c.gap ∷ 0 ∷ []) cs)
unfolding all concat class_numbers
numbers_unmarked [] e = refl
numbers_unmarked (c ∷ cs) e =
    ap₂ (λ t r. c.id ∷ c.rank ∷ c.gap ∷ cond t 1 0 ∷ r) (not-true c.common_cut (and_left _ _ e)) (numbers_unmarked cs (and_right (not c.common_cut) _ e))

-- What the marks enter is as document 01 says where no class is marked: the class records and what is refused of them, and the gap of a pair, at which every conflict is. Read tells
-- document 01's numbers of each class and the mark 0. Nothing else in the definitions of read, row, check and run speaks of marks.
pub record AsBefore (s : List ℕ) : Type 0 where
  -- "Class, 3 bytes: id .., rank .., gap .."
  pub class : (i : ℕ) → i < classes_stated s
      → class_at s i ≡ spacing_class (byte_at s (classes_at s + i * 3)) (byte_at s (classes_at s + i * 3 + 1)) (byte_at s (classes_at s + i * 3 + 2)) false
  -- "id 0 to 7, rank 0 to 255, gap 0 to 63"
  pub in_range : (i : ℕ) → i < classes_stated s
      → class_in_range (class_at s i) ≡ (leb (byte_at s (classes_at s + i * 3)) 7 && leb (byte_at s (classes_at s + i * 3 + 1)) 255 && leb (byte_at s (classes_at s + i * 3 + 2)) 63)
  -- "A pair's gap is the larger of the two."
  pub pair : (k m : Kind) → pair_gap (content s).classes k m ≡ max (kind_gap (content s).classes k) (kind_gap (content s).classes m)
  pub conflicts : (m : ℕ) (e f : Entry) → let j = under m (content s) in conflict j e f
      ≡ pieces_conflict (max (kind_gap j.classes (entry_kind j e)) (kind_gap j.classes (entry_kind j f))) (placed_parts j.sheet (entry_kind j e) e.place)
      (placed_parts j.sheet (entry_kind j f) f.place)
  pub told : concat (map class_numbers (content s).classes) ≡ concat (map (λ c. c.id ∷ c.rank ∷ c.gap ∷ 0 ∷ []) (content s).classes)

module _ (s : List ℕ) (unmarked : NoneMarked (classes_of s)) where
  record_unmarked : (i : ℕ) → i < classes_stated s
      → class_at s i ≡ spacing_class (byte_at s (classes_at s + i * 3)) (byte_at s (classes_at s + i * 3 + 1)) (byte_at s (classes_at s + i * 3 + 2)) false
  unfolding classes_of class_at
  record_unmarked i h =
      let e : marks_cut (byte_at s (classes_at s + i * 3 + 2)) ≡ false =
      not-true _ (all-below (λ i. not (class_at s i).common_cut) (classes_stated s) (sym (all_map (λ c. not c.common_cut) (class_at s) (below (classes_stated s))) ∙ unmarked) i h) in
      ap₂ (λ g c. spacing_class (byte_at s (classes_at s + i * 3)) (byte_at s (classes_at s + i * 3 + 1)) g c) (meant (byte_at s (classes_at s + i * 3 + 2)) false e) e

  content-unmarked : NoneMarked (content s).classes
  unfolding content by_rising_id
  content-unmarked = all-risen (λ c. not c.common_cut) (classes_of s) (below 8) unmarked

  pub none-marked : AsBefore s
  unfolding conflict class_in_range
  none-marked =
      record {
        class = record_unmarked;
        in_range = λ i h. ap class_in_range (record_unmarked i h);
        pair = λ k m. larger_gap (content s).classes k m content-unmarked;
        conflicts = λ m e f.
            let j = under m (content s) in
            ap (λ g. pieces_conflict g (placed_parts j.sheet (entry_kind j e) e.place) (placed_parts j.sheet (entry_kind j f) f.place))
            (larger_gap (content s).classes (entry_kind j e) (entry_kind j f) content-unmarked);
        told = numbers_unmarked (content s).classes content-unmarked;
      }
