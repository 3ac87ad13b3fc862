-- Laws of the loop that fills the table of an accepted job's kinds.
use mathlib.Core.Bool.{false}
use mathlib.Core.List.{List, [], ◌∷◌, ◌++◌}
use mathlib.Core.Path.{◌≡◌, sym, ap, ap₂, subst, ◌∙◌}
use Prim.Native.Nat.{ℕ, ◌+◌, ◌<◌}
use native.Mathlib.Omega.{arith}
use lib.ListN.{length, get_or, drop, set, length-set}
use lib.Seq.{get_or-set_same, get_or-set_other}
use Rattle.model.specs.Content.{SpacingClass, Kind, no_kind}
use Rattle.model.specs.Format.{byte_at, many, read_part, read_kind, by_rising_id}
use Rattle.model.specs.Gap.{best_class, largest_gap, kind_gap}
use Rattle.model.proofs.Readers.{many-length}
use Rattle.model.proofs.Records.{byte_first, byte_behind}
use Rattle.records.specs.Classes.{classes_from, classes_unfit}
use Rattle.records.specs.Records.{size_of, values_of, Reads}
use Rattle.job.specs.Gaps.{class_cut, best_below}
use Rattle.job.specs.Places.{FoundAt, Placed}
use Rattle.job.specs.Table.{HeadIn, Stored, Built}
use Rattle.job.specs.View.{blank}
use Rattle.job.specs.declared.Kind as J
use Rattle.job.specs.declared.gaps.Best.{Best}
use Rattle.job.specs.declared.table.Head.{Head}
use Rattle.job.proofs.GapLaws.{kept, best-is, kept-gap, kept-cut, largest-risen}
use Rattle.job.proofs.PlaceLaws.{at_more}
use Rattle.records.proofs.NextLaws.{next_kind, kind-next, kind-values, kind-parts, kind-ends}
use Rattle.records.proofs.RecordLaws.{reads_none, values_from}
use Rattle.records.proofs.RisingLaws.{ranged, ids_distinct}

module _ (cs : List SpacingClass) (list : List ℕ) (base kinds size : ℕ) (w : Reads (many read_kind kinds list) size) where
  pub built_none : (table : List J.Kind) → length table ≡ 8 → Built cs list base 0 0 table
  built_none table e = record { size = e; reads = reads_none read_kind list; stored = λ j h. absurd (omega arith) }

  -- One kind more.
  pub built_more : (t here : ℕ) (table : List J.Kind) (e : J.Kind) (head : Head) (end : ℕ) → t < kinds → t < 8
      → Built cs list base t here table
      → HeadIn list here head
      → (e.demand ≡ head.demand) × (e.rotations ≡ head.rotations) × (e.parts ≡ head.parts)
      → ((k : Kind) → k.classes ≡ byte_at list (here + 2)
      → (e.gap ≡ kind_gap (by_rising_id cs) k) × (e.cut ≡ class_cut (best_class (by_rising_id cs) k)))
      → Placed list (here + 4) head.parts base e.part_at
      → end ≡ here + 4 + size_of (many read_part head.parts (drop (here + 4) list))
      → Built cs list base (t + 1) end (set table t e)
  built_more t here table e head end h l b hi same eb pl ee =
      let k = next_kind list kinds size t here w h b.reads in
      let f = kind-next list kinds size t here w h b.reads in
      let more : values_of (many read_kind (t + 1) list) ≡ values_of (many read_kind t list) ++ (k ∷ []) = kind-values list kinds size t here w h b.reads in
      let kb = eb k (f.classes ∙ byte_behind list here 2) in
      let kp : length k.parts ≡ head.parts = f.part_count ∙ byte_behind list here 3 ∙ sym hi.parts in
      let vs : values_of (many read_part head.parts (drop (here + 4) list)) ≡ k.parts = values_from _ _ _ (kind-parts list kinds size t here w h b.reads head.parts hi.parts) in
      let stored : Stored cs list base e k =
      record {
        demand = same.0 ∙ hi.demand ∙ sym (f.demand ∙ byte_first list here);
        rotations = same.1 ∙ hi.rotations ∙ sym (f.rotations ∙ byte_behind list here 1);
        gap = kb.0;
        cut = kb.1;
        parts = same.2 ∙ sym kp;
        few_parts = let z = f.parts_most in let y = f.part_count in omega arith;
        part = λ i q. subst (λ ps. FoundAt list base (get_or e.part_at i 0) (get_or ps i [])) vs
            (pl.found i (omega arith));
      } in
      record {
        size = length-set table t e ∙ b.size;
        reads = kind-ends list kinds size t here w h b.reads head.parts hi.parts end ee;
        stored =
            at_more (λ j k. Stored cs list base (get_or (set table t e) j blank) k) no_kind
            (values_of (many read_kind t list)) (values_of (many read_kind (t + 1) list)) k t more (many-length read_kind t list _ here b.reads)
            (λ j q. subst (λ x. Stored cs list base x (get_or (values_of (many read_kind t list)) j no_kind))
            (sym (get_or-set_other table t j e blank (λ z. omega arith))) (b.stored j q))
            (subst (λ x. Stored cs list base x k)
            (sym (get_or-set_same table t e blank (let z = b.size in omega arith))) stored);
      }

-- What is kept of the best-ranked class that was found for a mask, from the largest gap of the classes on, is that of
-- each kind with this mask.
module _ (s list : List ℕ) (o n here default mask : ℕ) (best : Best) (fit : classes_unfit s o n ≡ false)
    (l : default ≡ largest_gap (classes_from s o n)) (e : best ≡ best_below s o n default mask 8)
    (m : mask ≡ byte_at list (here + 2)) (k : Kind) (q : k.classes ≡ byte_at list (here + 2)) where
  abbrev largest : ℕ
  largest = largest_gap (by_rising_id (classes_from s o n))

  pub best_kept : best ≡ kept largest (best_class (by_rising_id (classes_from s o n)) k)
  best_kept =
      e ∙ ap₂ (λ d x. best_below s o n d x 8) (l ∙ largest-risen s o n (ranged s o n fit)) (m ∙ sym q)
      ∙ best-is s o n k (ids_distinct s o n fit) largest

  pub best_of_lem : (best.gap ≡ kind_gap (by_rising_id (classes_from s o n)) k)
      × (best.cut ≡ class_cut (best_class (by_rising_id (classes_from s o n)) k))
  unfolding kind_gap
  best_of_lem = (ap (λ b. b.gap) best_kept ∙ kept-gap largest _, ap (λ b. b.cut) best_kept ∙ kept-cut largest _)
