-- What the code tests of a layout is what the model says: order, copies, and the service's answers. Assumes nothing.
use Rattle.job.specs.View.{demand_of}
use mathlib.Core.Bool.{Bool, true, false, not, ◌&&◌}
use mathlib.Core.List.{List, map}
use mathlib.Core.Path.{◌≡◌, refl, sym, ap, ap₂, ◌∙◌}
use Prim.Native.Nat.{ℕ, zero, suc, ◌+◌, ◌*◌, ◌-◌, ◌/◌, ◌≤◌, ◌<◌}
use native.Mathlib.Omega.{arith}
use borrow.Author.Tests.{ltb-false, eq-eqb, ne_eqb}
use lib.Dec.{eqb}
use lib.ListN.{length}
use Rattle.std.specs.List.{list_all, range_with_len}
use Rattle.words.specs.Number.{count}
use Rattle.model.specs.Content.{Kind, kind_count, piece_count}
use Rattle.model.specs.Format.{Got, bad, got, refusal, content, cause6, kinds_unfit, classes_of, kinds_length, kinds_got, kinds_in, kinds_stated}
use Rattle.model.specs.Grid.{number_of, rows}
use Rattle.model.specs.Layout.{Entry, Layout, entry_number, in_order, is_entry, ordered, copies, demand_met, passes, layout_length}
use Rattle.model.specs.Lists.{all, sum, rising, below, between}
use Rattle.model.specs.Problem.{Problem, under}
use Rattle.model.specs.Refusal.{numbered}
use Rattle.model.specs.Services.{entry_in, layout_in, numbers_in, refusal_under, cause11, check_content, check}
use Rattle.std.specs.Prelude.{Ok, Err}
use Rattle.model.specs.declared.Refusal.TheVariants as R
use Rattle.model.proofs.Causes.{no_cause}
use Rattle.model.proofs.Lists.{and_left, and_right, or_left, or_right, not_both, below_all, all-below}
use Rattle.job.specs.View.{problem_of, Viewed}
use Rattle.job.specs.declared.View.{View}
use Rattle.shapes.proofs.ViewLaws.{kind-in}
use Rattle.layouts.specs.Entries.{entries_in}
use Rattle.layouts.specs.Passing.{in_order_by, ordered_at}
use Rattle.layouts.proofs.AdmissionLaws.{layout_is}

-- ---- tests that agree

-- they have only to agree below n
all-below-same : (p q : ℕ → Bool) (n : ℕ) → ((i : ℕ) → i < n → p i ≡ q i) → all p (below n) ≡ all q (below n)
all-below-same p q n h = go (all p (below n)) (all q (below n)) refl refl
  where
    go : (a b : Bool) → all p (below n) ≡ a → all q (below n) ≡ b → a ≡ b
    go true true d e = refl
    go false false d e = refl
    go true false d e = absurd (not_both (below_all q n (λ i l. sym (h i l) ∙ all-below p n d i l)) e)
    go false true d e = absurd (not_both (below_all p n (λ i l. h i l ∙ all-below q n e i l)) d)

-- ---- order

module _ (j : Problem) where
  -- each entry before the next, entry by entry
  ordered-rising : (f : ℕ → Entry) (i k : ℕ) → ordered j (map f (rising i (suc k)))
      ≡ list_all (λ m. in_order j (f (m - 1)) (f (m - 1 + 1))) (range_with_len (suc i) k)
  unfolding ordered rising
  ordered-rising f i zero = refl
  ordered-rising f i (suc k) =
      let a : i ≡ suc i - 1 = omega arith in
      let b : suc i ≡ suc i - 1 + 1 = omega arith in
      let c : suc (suc i) ≡ suc i + 1 = omega arith in
      ap₂ ◌&&◌ (ap₂ (λ m n. in_order j (f m) (f n)) a b)
      (ordered-rising f (suc i) k ∙ ap (λ n. list_all (λ m. in_order j (f (m - 1)) (f (m - 1 + 1))) (range_with_len n
      k)) c)

  ordered-entries : (s : List ℕ) (n : ℕ) → list_all (λ m. in_order j (entry_in s (m - 1)) (entry_in s (m - 1 + 1)))
      (range_with_len 1 (n - 1)) ≡ ordered j (entries_in s n)
  unfolding ordered entries_in below rising
  ordered-entries s zero = refl
  ordered-entries s (suc n) =
      let k : suc n - 1 ≡ n = omega arith in
      ap (λ m. list_all (λ m. in_order j (entry_in s (m - 1)) (entry_in s (m - 1 + 1))) (range_with_len 1 m)) k
      ∙ sym (ordered-rising (entry_in s) 0 n)

  -- The tests of the entries before the last, each with the next.
  pub order_is : (r : ℕ) (s : List ℕ) (n : ℕ) → r ≡ rows j.sheet → n ≡ piece_count j.kinds
      → list_all (λ m. ordered_at r s (m - 1)) (range_with_len 1 (n - 1)) ≡ ordered j (layout_in j s)
  unfolding in_order_by in_order entry_number number_of
  order_is r s n e p =
      ap (λ k. list_all (λ m. in_order_by k (entry_in s (m - 1)) (entry_in s (m - 1 + 1))) (range_with_len 1 (n - 1))) e
      ∙ ordered-entries s n
      ∙ ap (ordered j) (layout_is j s n p)

-- ---- the pieces

-- "the demands sum to N, at most 12"
pub few-pieces : (s : List ℕ) → refusal s ≡ 0 → piece_count (content s).kinds ≤ 12
unfolding piece_count content cause6 kinds_unfit kinds_in
few-pieces s e = go (kinds_got s) (or_right (not (between 1 8 (kinds_stated s))) _ (no_cause s e).no6)
  where
    go : (g : Got (List Kind)) → kinds_unfit (classes_of s) (kinds_length s) g ≡ false
        → sum (map (λ k. k.demand) (kinds_in g)) ≤ 12
    go bad u = absurd (not_both refl u)
    go (got ks m) u = ltb-false _ _ (or_right (not (eqb m (kinds_length s))) _ (or_left _ _ u))

-- The copies of each kind of the view are those that the job demands.
pub demand-is : (s : List ℕ) (v : View) → Viewed s v → (es : Layout)
    → all (λ t. eqb (copies t es) (demand_of v t)) (below v.kinds) ≡ demand_met (problem_of s v) es
unfolding demand_met
demand-is s v x es =
    ap (λ m. all (λ t. eqb (copies t es) (demand_of v t)) (below m)) x.view.kinds
    ∙ all-below-same _ _ (kind_count (content s).kinds) (λ t l. ap (eqb (copies t es)) (kind-in s v x t l).demand)

-- a test that is made only if the one before it holds
pub both_tests : (a b p q r : Bool) → a ≡ p → a ≡ true → b ≡ q → r ≡ b → r ≡ (p && q)
both_tests a b p q r e t f g = g ∙ f ∙ ap (λ w. w && q) (sym t ∙ e)

pub first_test : (a p q r : Bool) → a ≡ p → a ≡ false → r ≡ a → r ≡ (p && q)
first_test a p q r e t g = g ∙ t ∙ ap (λ w. w && q) (sym t ∙ e)

-- the entries of a layout that passes
pub passed-entries : (j : Problem) (es : Layout) → passes j es ≡ true → all (is_entry j) es ≡ true
unfolding passes
passed-entries j es e = and_right (ordered j es && demand_met j es) _ (and_left _ _ e)

-- ---- the answers on an accepted job

module _ (j : Problem) (s : List ℕ) where
  pub wrong_count : (n : ℕ) → n ≡ piece_count j.kinds → (length s / 2 ≡ 4 * n → ⊥) → Err R.Layout ≡ check_content j s
  unfolding check_content cause11 numbers_in count
  wrong_count n e h = rw (ne_eqb (length s / 2) (4 * piece_count j.kinds) (λ q. h (q ∙ ap (λ m. 4 * m) (sym e))))

  module _ (n : ℕ) (e : n ≡ piece_count j.kinds) (h : length s / 2 ≡ 4 * n) where
    right-count : eqb (numbers_in s) (4 * piece_count j.kinds) ≡ true
    unfolding numbers_in count
    right-count = eq-eqb (length s / 2) (4 * piece_count j.kinds) (h ∙ ap (λ m. 4 * m) e)

    pub not_passed : passes j (layout_in j s) ≡ false → Err R.Layout ≡ check_content j s
    unfolding check_content cause11
    not_passed p = rw (right-count, p)

    pub passed : (r : ℕ) → passes j (layout_in j s) ≡ true → r ≡ layout_length j (layout_in j s) → Ok r
        ≡ check_content j s
    unfolding check_content cause11
    passed r p q = rw (right-count, p) (ap Ok q)

-- ---- the refusals of the job and of the margin

module _ (s : List ℕ) (m : ℕ) (layout : List ℕ) where
  pub check-refused : (refusal_under m s ≡ 0 → ⊥) → check s m layout ≡ Err (numbered (refusal_under m s))
  unfolding check
  check-refused h = rw (ne_eqb (refusal_under m s) 0 h, check)

  pub check-accepted : refusal_under m s ≡ 0 → check s m layout ≡ check_content (under m (content s)) layout
  unfolding check
  check-accepted h = rw (eq-eqb (refusal_under m s) 0 h, check)
