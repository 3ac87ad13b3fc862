-- Laws of the loop that records where parts begin.
use mathlib.Core.List.{List, [], ◌∷◌, ◌++◌}
use mathlib.Core.Logic.{◌⊎◌, inl, inr}
use mathlib.Core.Path.{◌≡◌, sym, ap, subst, ◌∙◌}
use Prim.Native.Nat.{ℕ, ◌+◌, ◌-◌, ◌<◌}
use native.Mathlib.Nat.{eq-or-lt_of_le}
use native.Mathlib.Omega.{arith}
use lib.ListN.{length, get_or, drop, set, get_or-append}
use lib.Seq.{get_or-set_same, get_or-set_other, get_or-append_seam}
use Rattle.model.specs.Format.{got, many, read_part}
use Rattle.model.proofs.Readers.{many-length}
use Rattle.job.specs.Places.{FoundAt, Placed}
use Rattle.records.specs.Records.{value_of, values_of, Reads}
use Rattle.records.proofs.NextLaws.{PartNext}
use Rattle.records.proofs.RecordLaws.{size_is}

-- One more at the end, seen from each index.
pub at_more : {A : Type 0} (P : ℕ → A → Type 0) (d : A) (xs ys : List A) (x : A) (n : ℕ) → ys ≡ xs ++ (x ∷ []) → length xs ≡ n
    → ((i : ℕ) → i < n → P i (get_or xs i d)) → P n x → (i : ℕ) → i < n + 1 → P i (get_or ys i d)
at_more {A} P d xs ys x n e l h z i k = go (eq-or-lt_of_le {n = i} {m = n} (omega arith))
  where
    go : (i ≡ n) ⊎ (i < n) → P i (get_or ys i d)
    go (inr q) = subst (P i) (sym (ap (λ r. get_or r i d) e ∙ get_or-append xs (x ∷ []) d i (rw l q))) (h i q)
    go (inl q) =
        let v : get_or ys i d ≡ x = ap (λ r. get_or r i d) e ∙ ap (λ m. get_or (xs ++ (x ∷ [])) m d) (q ∙ sym l) ∙ get_or-append_seam xs x [] d in
        subst (P i) (sym v) (subst (λ m. P m x) (sym q) z)

module _ (list : List ℕ) (from n base : ℕ) where
  pub placed-none : (places : List ℕ) → Placed list from 0 base places
  placed-none places = record { found = λ i h. absurd (omega arith) }

  -- The place of the next part.
  pub placed-more : (i here c : ℕ) (places : List ℕ) → Reads (many read_part i (drop from list)) (here - from)
      → PartNext list from i here c
      → i < length places → Placed list from i base places → Placed list from (i + 1) base (set places i (base + here))
  placed-more i here c places r p l q =
      record {
        found =
            at_more (λ j P. FoundAt list base (get_or (set places i (base + here)) j 0) P) []
            (values_of (many read_part i (drop from list)))
            (values_of (many read_part (i + 1) (drop from list))) _ i p.values (many-length read_part i (drop from list) _ (here - from) r)
            (λ j h. subst (λ o. FoundAt list base o (get_or (values_of (many read_part i (drop from list))) j []))
            (sym (get_or-set_other places i j (base + here) 0 (λ e. omega arith))) (q.found j h))
            (record {
              behind = here;
              place = get_or-set_same places i (base + here) 0 l;
              reads = p.reads
                  ∙ ap (got (value_of [] (read_part (drop here list)))) (sym (size_is _ _ _ p.reads));
            });
      }
