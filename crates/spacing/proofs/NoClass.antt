-- Document 02, "9/13 Pieces in no class": the gap of a type in no class is as the request says, the others' stay; a job without classes nests as before, and one whose fillers are put in a
-- class of gap 0 nests as it did before that.
use mathlib.Core.Bool.{Bool, true, false, not, cond, ◌&&◌, ◌||◌, true≢false}
use mathlib.Core.List.Memᴰ
use mathlib.Core.List.{List, [], ◌∷◌}
use mathlib.Core.Logic.{◌⊎◌, inl, inr, ⊎_elim}
use mathlib.Core.Option.{Option, none, some}
use mathlib.Core.Path.{◌≡◌, refl, sym, ap, ap₂, subst, ◌∙◌}
use Prim.Native.Nat.{ℕ, ◌≤◌, ◌<◌, max}
use native.Mathlib.Omega.{arith}
use borrow.Author.Tests.{eqb-true}
use lib.Dec.{eqb}
use Rattle.words.specs.Bits.{test_bit}
use Rattle.words.proofs.Bit.{test_bit-none}
use Rattle.words.proofs.Cases.{le_or_lt}
use Rattle.words.proofs.First.{lowest}
use Rattle.model.specs.Content.{SpacingClass, Kind, no_kind, kind_at, kind_count}
use Rattle.model.specs.Format.{classes_of, content, names_present, refusal}
use Rattle.model.specs.Gap.{names, best_from, best_ranked, best_class, largest_gap, gap_or, kind_gap, same_marked, share_cut, pair_gap}
use Rattle.model.specs.Lists.{any, keep, largest}
use Rattle.model.proofs.Causes.{no_cause, kinds-fit, classes-in_range}
use Rattle.model.proofs.Lists.{and_left, all-at, all-below}
use Rattle.model.proofs.Permuted.{any-permuted}
use Rattle.model.proofs.Saving.Kept.{risen_permuted}
use Rattle.spacing.specs.NoClass.{LargestOf, former_gap, former_pair_gap, GapsAsBefore, NestsAsBefore, FillerPut, keeps, put, FillersPut}
use Rattle.spacing.specs.SameGaps.{SameButClasses, gap_in}
use Rattle.spacing.proofs.SameClass.{best-same}
use Rattle.spacing.proofs.SameGaps.{kind-count-same, gaps-decide}

-- ---- The gap of a type

-- What is the largest gap by the definition is so.
largest-is : (cs : List SpacingClass) → LargestOf cs (largest_gap cs)
unfolding largest_gap largest
largest-is [] = record { most = λ c h. absurd (Memᴰ.not-nil h); taken = inl (refl, refl) }
largest-is (c ∷ cs) = go (largest-is cs) (le_or_lt (largest_gap cs) c.gap)
  where
    go : LargestOf cs (largest_gap cs) → (largest_gap cs ≤ c.gap) ⊎ (c.gap < largest_gap cs) → LargestOf (c ∷ cs) (max c.gap (largest_gap cs))
    go r l =
        record {
          most = λ d h. ⊎_elim (λ e. let q : d.gap ≡ c.gap = ap (λ c. c.gap) e in omega arith) (λ h. let m = r.most d h in omega arith) (Memᴰ.cases_cons h);
          taken = inr
              (⊎_elim (λ a. (c, Memᴰ.head refl, omega arith))
              (λ b. ⊎_elim (λ empty. absurd (let z = empty.1 in omega arith)) (λ d. (d.0, Memᴰ.tail d.1, let q = d.2 in omega arith)) r.taken)
              l);
        }

-- A mask of 0 names nothing.
names-none : (k : Kind) (cs : List SpacingClass) → k.classes ≡ 0 → keep (names k) cs ≡ []
unfolding keep names
names-none k [] e = refl
names-none k (c ∷ cs) e = ap (λ t. cond t (c ∷ keep (names k) cs) (keep (names k) cs)) (ap (λ m. test_bit m c.id) e ∙ test_bit-none c.id) ∙ names-none k cs e

no_best_lem : (cs : List SpacingClass) (k : Kind) → k.classes ≡ 0 → best_class cs k ≡ none
unfolding best_class best_ranked
no_best_lem cs k e = ap best_ranked (names-none k cs e)

-- "A type with no class now takes the largest gap in the job's class list, or 0 if that list is empty." ("class mask (.. zero means no class)")
pub no_class : (cs : List SpacingClass) (k : Kind) → k.classes ≡ 0 → LargestOf cs (kind_gap cs k)
unfolding kind_gap gap_or
no_class cs k e = subst (LargestOf cs) (sym (ap (gap_or (largest_gap cs)) (no_best_lem cs k e))) (largest-is cs)

-- A type that has a class has its best-ranked class's gap, as it had.
pub in_a-class : (cs : List SpacingClass) (k : Kind) (c : SpacingClass) → best_class cs k ≡ some c → (kind_gap cs k ≡ c.gap) × (former_gap cs k ≡ c.gap)
unfolding kind_gap former_gap gap_or
in_a-class cs k c e = (ap (gap_or (largest_gap cs)) e, ap (gap_or 0) e)

-- A type that names the id of a class has a best-ranked one.
has_best : (cs : List SpacingClass) (k : Kind) (i : ℕ) → any (λ c. eqb c.id i) cs ≡ true → test_bit k.classes i ≡ true → (c : SpacingClass) × (best_class cs k ≡ some c)
unfolding any keep names best_class best_ranked
has_best [] k i e h = absurd (true≢false (sym e))
has_best (c ∷ cs) k i e h = go (names k c) (eqb c.id i) refl refl (has_best cs k i)
  where
    go : (named same : Bool) → names k c ≡ named → eqb c.id i ≡ same
        → (any (λ c. eqb c.id i) cs ≡ true → test_bit k.classes i ≡ true → (c : SpacingClass) × (best_ranked (keep (names k) cs) ≡ some c))
        → (d : SpacingClass) × (best_ranked (cond (names k c) (c ∷ keep (names k) cs) (keep (names k) cs)) ≡ some d)
    go true same n q ih = (best_from c (keep (names k) cs), ap (λ t. best_ranked (cond t (c ∷ keep (names k) cs) (keep (names k) cs))) n)
    go false true n q ih = absurd (true≢false (sym (ap (test_bit k.classes) (eqb-true c.id i q) ∙ h) ∙ n))
    go false false n q ih = let r = ih (or_rest q) h in (r.0, ap (λ t. best_ranked (cond t (c ∷ keep (names k) cs) (keep (names k) cs))) n ∙ r.1)
      where
        or_rest : eqb c.id i ≡ false → any (λ c. eqb c.id i) cs ≡ true
        or_rest q = sym (ap (λ t. t || any (λ c. eqb c.id i) cs) q) ∙ e

-- In an accepted job each type with a mask other than 0 has one. (The mask is a byte.)
pub mask_has_best : (s : List ℕ) → refusal s ≡ 0 → (a : ℕ) → a < kind_count (content s).kinds
    → (kind_at (content s).kinds a).classes < 256 → ((kind_at (content s).kinds a).classes ≡ 0 → ⊥)
    → (c : SpacingClass) × (best_class (content s).classes (kind_at (content s).kinds a) ≡ some c)
unfolding kind_count kind_at names_present content
mask_has_best s e a h byte some-bit =
    let bit = lowest 8 (kind_at (content s).kinds a).classes byte some-bit in
    let k = kind_at (content s).kinds a in
    let present : names_present (classes_of s) k ≡ true = all-at (names_present (classes_of s)) (content s).kinds no_kind (kinds-fit s (no_cause s e).no6).present a h in
    let there : any (λ c. eqb c.id bit.0) (classes_of s) ≡ true =
    sym (ap (λ t. not t || any (λ c. eqb c.id bit.0) (classes_of s)) bit.4) ∙ all-below (λ i. not (test_bit k.classes i) || any (λ c. eqb c.id i) (classes_of s)) 8 present bit.0 bit.2 in
    has_best (content s).classes k bit.0 (sym (any-permuted (λ c. eqb c.id bit.0) (risen_permuted (classes_of s) (classes-in_range s (no_cause s e).no5))) ∙ there) bit.4

-- A type whose best-ranked class has gap 0 has gap 0: so has a filler that is put in such a class.
pub filler : (cs : List SpacingClass) (k : Kind) (c : SpacingClass) → best_class cs k ≡ some c → c.gap ≡ 0 → kind_gap cs k ≡ 0
filler cs k c e z = (in_a-class cs k c e).0 ∙ z

-- ---- Jobs

-- The gaps say how a job nests. (s and t have as many types.)
by_gaps : (s t : List ℕ) → kind_count (content t).kinds ≡ kind_count (content s).kinds → GapsAsBefore s t → NestsAsBefore s t
by_gaps s t n g =
    record {
      gaps = g;
      alike = λ u same h. gaps-decide t u same (λ a b ha hb. g a b (omega (arith, n)) (omega (arith, n)) ∙ sym (h a b (omega (arith, n)) (omega (arith, n))));
    }

-- A job of which no type's gap has changed nests as before.
pub unchanged : (s : List ℕ)
    → ((a : ℕ) → a < kind_count (content s).kinds → kind_gap (content s).classes (kind_at (content s).kinds a) ≡ former_gap (content s).classes (kind_at (content s).kinds a))
    → NestsAsBefore s s
unfolding pair_gap former_pair_gap
unchanged s e =
    by_gaps s s refl
    (λ a b ha hb. ap₂ (λ x y. cond (share_cut (content s).classes (kind_at (content s).kinds a) (kind_at (content s).kinds b)) 0 (max x y)) (e a ha) (e b hb))

-- Without classes the gap of each two types is 0.
pub without_gaps : (s : List ℕ) → (content s).classes ≡ [] → (a b : ℕ) → gap_in s a b ≡ 0
unfolding pair_gap share_cut best_class best_ranked keep same_marked kind_gap gap_or largest_gap largest
without_gaps s e a b = ap (λ cs. pair_gap cs (kind_at (content s).kinds a) (kind_at (content s).kinds b)) e

-- "A job without classes nests as before".
pub without_classes : (s : List ℕ) → (content s).classes ≡ [] → NestsAsBefore s s
unfolding kind_gap former_gap largest_gap largest
without_classes s e = unchanged s (λ a h. ap (λ cs. gap_or (largest_gap cs) (best_class (content s).classes (kind_at (content s).kinds a))) e)

-- And so does one of which each type has a class.
pub all-in_classes : (s : List ℕ)
    → ((a : ℕ) → a < kind_count (content s).kinds → (c : SpacingClass) × (best_class (content s).classes (kind_at (content s).kinds a) ≡ some c)) → NestsAsBefore s s
all-in_classes s f = unchanged s (λ a h. let same = in_a-class (content s).classes (kind_at (content s).kinds a) (f a h).0 (f a h).1 in same.0 ∙ sym same.1)

-- A gap of 0 or another one, where both are this one.
either : (t : Bool) (g r : ℕ) → (t ≡ true → 0 ≡ r) → g ≡ r → cond t 0 g ≡ r
either true g r zero other = zero refl
either false g r zero other = other

-- With the fillers in a class of gap 0 a job's gaps are those that it had with them in no class.
fillers_gaps : (s t : List ℕ) → FillersPut s t → GapsAsBefore s t
unfolding pair_gap former_pair_gap kind_gap former_gap gap_or share_cut same_marked
fillers_gaps s t f a b ha hb = go _ _ _ _ refl refl (f a ha) (f b hb)
  where
    cs : List SpacingClass
    cs = (content t).classes

    k : Kind
    k = kind_at (content t).kinds a

    m : Kind
    m = kind_at (content t).kinds b

    one : (c d : SpacingClass) → best_class cs k ≡ some c → best_class cs m ≡ some d → same_marked (some c) (some d) ≡ true → c.gap ≡ d.gap
    one c d ec ed e = ap (λ c. c.gap) (best-same cs k m c d ec ed (eqb-true _ _ (and_left (eqb c.id d.id) c.common_cut (and_left (eqb c.id d.id && c.common_cut) d.common_cut e))))

    go : (x y x' y' : Option SpacingClass) → best_class cs k ≡ x' → best_class cs m ≡ y' → FillerPut x x' → FillerPut y y'
        → cond (same_marked x' y') 0 (max (gap_or (largest_gap cs) x') (gap_or (largest_gap cs) y')) ≡ cond (same_marked x y) 0 (max (gap_or 0 x) (gap_or 0 y))
    go _ y none _ ec ed x6 _ = elim x6 [ ]
    go _ y (some c) none ec ed _ x12 = elim x12 [ ]
    go _ _ (some c) (some d) ec ed keeps keeps = refl
    go _ _ (some c) (some d) ec ed keeps (put z) = either (same_marked (some c) (some d)) _ _ (λ e. let same = one c d ec ed e in omega arith) (omega arith)
    go _ _ (some c) (some d) ec ed (put z) keeps = either (same_marked (some c) (some d)) _ _ (λ e. let same = one c d ec ed e in omega arith) (omega arith)
    go _ _ (some c) (some d) ec ed (put y) (put z) = either (same_marked (some c) (some d)) _ _ (λ e. refl) (omega arith)

-- "Their jobs must put fillers in a class of gap 0": then the job nests as it did with them in no class.
pub fillers_put : (s t : List ℕ) → SameButClasses s t → FillersPut s t → NestsAsBefore s t
fillers_put s t same f = by_gaps s t (sym (kind-count-same s t same)) (fillers_gaps s t f)
