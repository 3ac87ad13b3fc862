-- Laws of the loop over the type list.
use mathlib.Core.Bool.{Bool, true, false, not, cond, ◌&&◌, ◌||◌}
use mathlib.Core.List.{List, [], ◌∷◌, ◌++◌, map}
use mathlib.Core.Path.{◌≡◌, refl, sym, ap, ap₂, ◌∙◌}
use Prim.Native.Nat.{ℕ, zero, suc, ◌+◌, ◌*◌, ◌-◌, ◌≤◌}
use native.Mathlib.Omega.{arith}
use borrow.Author.Tests.{lt-ltb, le-ltb}
use lib.Dec.{eqb, ltb}
use lib.ListN.{length, drop}
use Rattle.std.specs.Prelude.{Option, Some}
use Rattle.words.specs.Bits.{test_bit}
use Rattle.model.specs.Content.{SpacingClass, Kind, no_kind}
use Rattle.model.specs.Format.{byte_at, class_from, bad, got, many, read_kind, names_present, kinds_unfit}
use Rattle.model.specs.Lists.{all, any, sum, rising, below}
use Rattle.model.proofs.Folds.{all_same, all_more, sum_more, map-append}
use Rattle.model.proofs.Records.{byte_first, byte_behind, kind-read}
use Rattle.records.specs.Classes.{classes_from, entry_at, first_from, has_id, index_of}
use Rattle.records.specs.Kinds.{present, not_absent, absent_none, list_unfit}
use Rattle.records.specs.Records.{taken, value_of, values_of, Reads}
use Rattle.records.proofs.RecordLaws.{next_got, values_none, values_more}

-- ---- The classes that a mask names

module _ (s : List ℕ) (o id : ℕ) where
  -- There is a class of the id exactly if the search for it ends before the classes do.
  present-from : (j k : ℕ) → any (λ c. eqb c.id id) (map (λ i. class_from s (o + i * 3)) (rising j k)) ≡ ltb
      (first_from (has_id s o id) j k) (j + k)
  unfolding any rising first_from has_id
  present-from j zero = sym (le-ltb j (j + 0) (omega arith))
  present-from j (suc k) = go (present-from (suc j) k) (eqb (entry_at s o j) id)
    where
      go : any (λ c. eqb c.id id) (map (λ i. class_from s (o + i * 3)) (rising (suc j) k)) ≡ ltb
          (first_from (has_id s o id) (suc j) k) (suc j + k)
          → (b : Bool)
          → (b || any (λ c. eqb c.id id) (map (λ i. class_from s (o + i * 3)) (rising (suc j) k)))
          ≡ ltb (cond b j (first_from (has_id s o id) (suc j) k)) (j + suc k)
      go ih true = sym (lt-ltb j (j + suc k) (omega arith))
      go ih false = ih ∙ ap (ltb (first_from (has_id s o id) (suc j) k)) (omega arith)

  pub present-found : (n : ℕ) → present (classes_from s o n) id ≡ ltb (index_of s o n id) n
  unfolding present index_of below
  present-found n = present-from 0 n ∙ ap (ltb (first_from (has_id s o id) 0 n)) (omega arith)

-- The mask does not name this id, or it is found.
abbrev pub found_or_unnamed : List ℕ → ℕ → ℕ → ℕ → ℕ → Bool
found_or_unnamed s o n mask id = not (test_bit mask id) || ltb (index_of s o n id) n

pub none_absent-found : (s : List ℕ) (o n mask : ℕ) → all (found_or_unnamed s o n mask) (below 8) ≡ absent_none
    (classes_from s o n) mask
unfolding absent_none not_absent
none_absent-found s o n mask =
    all_same (found_or_unnamed s o n mask) (not_absent (classes_from s o n) mask) 8
    (λ id h. ap (λ b. not (test_bit mask id) || b) (sym (present-found s o id n)))

-- ---- The records

-- The test of a kind is that of its mask.
names-mask : (cs : List SpacingClass) (k : Kind) → names_present cs k ≡ absent_none cs k.classes
unfolding names_present absent_none not_absent present
names-mask cs k = refl

-- What the loop has seen of t records.
pub record Seen (cs : List SpacingClass) (list : List ℕ) (t here demand : ℕ) (named : Bool) : Type 0 where
  pub reads : Reads (many read_kind t list) here
  pub demands : demand ≡ sum (map (λ k. k.demand) (values_of (many read_kind t list)))
  pub present : named ≡ all (names_present cs) (values_of (many read_kind t list))

module _ (cs : List SpacingClass) (list : List ℕ) where
  pub seen_none : Seen cs list 0 0 0 true
  unfolding sum all
  seen_none =
      record {
        reads = Rattle.records.proofs.RecordLaws.reads_none read_kind list;
        demands = rw (values_none read_kind list);
        present = rw (values_none read_kind list);
      }

  -- The next record takes r bytes.
  pub seen_more : (t here demand r d m : ℕ) (named fit : Bool) (o : Option ℕ) → Seen cs list t here demand named
      → o ≡ taken (read_kind (lib.ListN.take (length list - here) (drop here list))) → o ≡ Some r
      → d ≡ byte_at list here → m ≡ byte_at list (here + 2) → fit ≡ absent_none cs m
      → Seen cs list (t + 1) (here + r) (demand + d) (named && fit)
  seen_more t here demand r d m named fit o w e h p q a =
      let k = value_of no_kind (read_kind (drop here list)) in
      let g : read_kind (drop here list) ≡ got k r = next_got read_kind list here o e no_kind r h in
      let f = kind-read (drop here list) k r g in
      let more : values_of (many read_kind (t + 1) list) ≡ values_of (many read_kind t list) ++ (k ∷ []) = values_more
      read_kind list t here k r w.reads g in
      let kd : k.demand ≡ d = f.demand ∙ byte_first list here ∙ sym p in
      let km : k.classes ≡ m = f.classes ∙ byte_behind list here 2 ∙ sym q in
      record {
        reads = Rattle.records.proofs.RecordLaws.reads_more read_kind list t here k r w.reads g;
        demands =
            ap₂ (λ a b. a + b) w.demands (sym kd)
            ∙ sym (ap (λ l. sum (map (λ k. k.demand) l)) more
            ∙ ap sum (map-append (λ k. k.demand) (values_of (many read_kind t list)) (k ∷ []))
            ∙ sum_more (map (λ k. k.demand) (values_of (many read_kind t list))) k.demand);
        present =
            ap₂ ◌&&◌ w.present (a ∙ ap (absent_none cs) (sym km) ∙ sym (names-mask cs k))
            ∙ sym (ap (all (names_present cs)) more ∙ all_more (names_present cs) (values_of (many read_kind t list))
            k);
      }

  pub list_bad : (n : ℕ) → many read_kind n list ≡ bad → true ≡ list_unfit cs list n
  unfolding list_unfit kinds_unfit
  list_bad n e = sym (ap (kinds_unfit cs (length list)) e)

  pub list_read : (t n here demand : ℕ) (named : Bool) → t ≡ n → Seen cs list t here demand named
      → (not (eqb here (length list)) || ltb 12 demand || not named) ≡ list_unfit cs list n
  unfolding list_unfit kinds_unfit
  list_read t n here demand named q w =
      rw (w.demands, w.present)
      (sym (ap (λ i. kinds_unfit cs (length list) (many read_kind i list)) (sym q) ∙ ap (kinds_unfit cs (length list))
      w.reads))

-- A kind that can be read takes at least the bytes of its four fields.
pub kind-room : (list : List ℕ) (here r : ℕ) (o : Option ℕ) → o ≡ taken (read_kind (lib.ListN.take (length list - here)
    (drop here list))) → o ≡ Some r → 4 ≤ r
kind-room list here r o e h = (kind-read (drop here list) _ r (next_got read_kind list here o e no_kind r h)).head
