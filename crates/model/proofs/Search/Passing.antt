-- The completions of the empty board are exactly the layouts that pass, and their order is the order of layouts.
use mathlib.Core.Bool.{Bool, true, false, not, cond}
use mathlib.Core.List.Memᴰ
use mathlib.Core.List.{List, [], ◌∷◌, map, reverse, reverse_aux, reverse-reverse, Memᴰ}
use mathlib.Core.Logic.{◌⊎◌, inl, inr, ⊎_elim}
use mathlib.Core.Path.{◌≡◌, refl, sym, ap, ap₂, ◌∙◌, subst}
use Prim.Native.Nat.{ℕ, zero, suc, ◌≤◌, ◌<◌}
use native.Mathlib.Nat.{not-suc-le-zero, le_of_suc-le-suc}
use native.Mathlib.Omega.{arith}
use borrow.Author.Tests.{ltb-true, ltb-false, eqb-true, eqb-false, eq-eqb, ne_eqb, lt-ltb, not-true}
use lib.Dec.{ltb, eqb}
use lib.ListN.{length, length-map}
use Rattle.model.specs.Content.{kind_at, kind_count, piece_count}
use Rattle.model.specs.Layout.{Entry, Layout, entry_at, entry_of, entry_number, is_entry, conflict, in_order, ordered, copies, demand_met, apart, passes, Precedes, Passes, Before}
use Rattle.model.specs.Lists.{all, any, count_of}
use Rattle.model.specs.Problem.{Problem}
use Rattle.model.specs.Search.{pieces, candidate_table, free, above_previous}
use Rattle.words.proofs.Cases.{true_or_false}
use Rattle.model.proofs.Lists.{and_left, and_right, and_both, and_four, below_all, all-mem, mem_map}
use Rattle.model.proofs.Numbers.{number-of_placement}
use Rattle.model.proofs.Passing.{passes-sound, passes-complete, precedes}
use Rattle.model.proofs.Search.Completions.{free-cons, free-head, free-tail, Completes, laid}
use Rattle.model.proofs.Search.Optimal.{NotAfter}
use Rattle.model.proofs.Accepted.{Sensible}
use Rattle.model.proofs.Search.Pieces.{length-pieces, pieces-ascend, mem_pieces, count-pieces, mem_table, entry-kind, entry-of_number, table-mem}
use Rattle.model.proofs.Sorted.{Ascending, ascending_same, eqb_comm, count_of-none}

module _ (j : Problem) where
  -- The entries of these pieces and candidate numbers, in their order.
  abbrev pub entries : List ℕ → List ℕ → Layout
  entries [] ns = []
  entries (t ∷ ts) [] = []
  entries (t ∷ ts) (n ∷ ns) = entry_of j t n ∷ entries ts ns

  -- Laying places them one after the other, the latest first.
  pub laid_entries : (ts ns : List ℕ) (es : Layout) → laid j ts ns es ≡ reverse_aux (entries ts ns) es
  laid_entries [] ns es = refl
  laid_entries (t ∷ ts) [] es = refl
  laid_entries (t ∷ ts) (n ∷ ns) es = laid_entries ts ns (entry_of j t n ∷ es)

  -- What the walk records as complete is these entries.
  pub laid_layout : (ts ns : List ℕ) → reverse (laid j ts ns []) ≡ entries ts ns
  laid_layout ts ns = ap reverse (laid_entries ts ns []) ∙ reverse-reverse (entries ts ns)

  -- ---- A completion passes

  module _ (cs : List (List ℕ)) where
    -- A completion has an entry for each piece.
    pub length-entries : (ts : List ℕ) (es : Layout) (ns : List ℕ) → Completes j cs ts es ns → length (entries ts ns) ≡ length ts
    length-entries [] es ns c = refl
    length-entries (t ∷ ts) es (n ∷ ns) c = ap suc (length-entries ts (entry_of j t n ∷ es) ns c.1.2)
    length-entries (t ∷ ts) es [] c = elim c [ ]

    -- Its entries have the pieces' types.
    copies-entries : (ts : List ℕ) (es : Layout) (ns : List ℕ) → Completes j cs ts es ns → (t : ℕ) → copies t (entries ts ns) ≡ count_of (eqb t) ts
    unfolding copies count_of entry_of
    copies-entries [] es ns c t = refl
    copies-entries (u ∷ ts) es (n ∷ ns) c t = rw (eqb_comm u t, copies-entries ts (entry_of j u n ∷ es) ns c.1.2 t)
    copies-entries (u ∷ ts) es [] c t = elim c [ ]

    -- What is in conflict with nothing placed is not in conflict with one of what is placed.
    free-at : (es : Layout) (e f : Entry) → free j es e ≡ true → Memᴰ f es → conflict j f e ≡ false
    free-at (g ∷ es) e f h (Memᴰ.head d) = subst (λ (x : Entry). conflict j x e ≡ false) (sym d) (free-head j g es e h)
    free-at (g ∷ es) e f h (Memᴰ.tail d) = free-at es e f (free-tail j g es e h) d
    free-at [] e f h x'' = elim x'' [ ]

    -- No entry of a completion is in conflict with what was placed before it.
    clear-entries : (ts : List ℕ) (es : Layout) (ns : List ℕ) → Completes j cs ts es ns → (f : Entry) → Memᴰ f es
        → all (λ e. not (conflict j f e)) (entries ts ns) ≡ true
    unfolding all
    clear-entries [] es ns c f d = refl
    clear-entries (t ∷ ts) es (n ∷ ns) c f d =
        and_both (not (conflict j f (entry_of j t n))) _ (ap not (free-at es (entry_of j t n) f c.1.1 d))
        (clear-entries ts (entry_of j t n ∷ es) ns c.1.2 f (Memᴰ.tail d))
    clear-entries (t ∷ ts) es [] c f d = elim c [ ]

    -- No two of its entries are in conflict.
    apart-entries : (ts : List ℕ) (es : Layout) (ns : List ℕ) → Completes j cs ts es ns → apart j (entries ts ns) ≡ true
    unfolding apart
    apart-entries [] es ns c = refl
    apart-entries (t ∷ ts) es (n ∷ ns) c =
        and_both (all (λ f. not (conflict j (entry_of j t n) f)) (entries ts ns)) _
        (clear-entries ts (entry_of j t n ∷ es) ns c.1.2 (entry_of j t n) (Memᴰ.head refl))
        (apart-entries ts (entry_of j t n ∷ es) ns c.1.2)
    apart-entries (t ∷ ts) es [] c = elim c [ ]

    -- An entry placed after one of no larger type, and above the previous copy, comes after it.
    above-order : (es : Layout) (e f : Entry) → e.kind ≤ f.kind → above_previous j (e ∷ es) f ≡ true → in_order j e f ≡ true
    unfolding above_previous in_order
    above-order es e f l h = go (eqb e.kind f.kind) refl
      where
        go : (b : Bool) → eqb e.kind f.kind ≡ b → in_order j e f ≡ true
        go true q = rw q (rw q at h)
        go false q = let d : e.kind ≡ f.kind → ⊥ = eqb-false _ _ q in rw q (lt-ltb e.kind f.kind (omega arith))

    -- Its entries are in order.
    ordered-entries : (ts : List ℕ) (es : Layout) (ns : List ℕ) → Ascending ts → Completes j cs ts es ns → ordered j (entries ts ns) ≡ true
    unfolding ordered entry_of
    ordered-entries [] es ns a c = refl
    ordered-entries (t ∷ []) es (n ∷ ns) a c = refl
    ordered-entries (t ∷ u ∷ ts) es (n ∷ []) a c = absurd c.1.2
    ordered-entries (t ∷ u ∷ ts) es (n ∷ m ∷ ns) a c =
        and_both (in_order j (entry_of j t n) (entry_of j u m)) _
        (above-order es (entry_of j t n) (entry_of j u m) (a.0 u (Memᴰ.head refl)) c.1.2.1.0)
        (ordered-entries (u ∷ ts) (entry_of j t n ∷ es) (m ∷ ns) a.1 c.1.2)
    ordered-entries (t ∷ []) es [] a c = elim c [ ]
    ordered-entries (t ∷ (u ∷ ts)) es [] a c = elim c [ ]

  -- Each entry is a candidate.
  offered-entries : (ts : List ℕ) (es : Layout) (ns : List ℕ) → Completes j (candidate_table j) ts es ns → all (is_entry j) (entries ts ns) ≡ true
  unfolding all
  offered-entries [] es ns c = refl
  offered-entries (t ∷ ts) es (n ∷ ns) c =
      and_both (is_entry j (entry_of j t n)) _ (mem_table j t n c.0) (offered-entries ts (entry_of j t n ∷ es) ns c.1.2)
  offered-entries (t ∷ ts) es [] c = elim c [ ]

  -- A completion of the empty board passes.
  pub completion_passes : (ns : List ℕ) → Completes j (candidate_table j) (pieces j.kinds) [] ns → Passes j (reverse (laid j (pieces j.kinds) ns []))
  unfolding passes demand_met
  completion_passes ns c =
      let cs : List (List ℕ) = candidate_table j in
      rw (laid_layout (pieces j.kinds) ns)
      (passes-sound j (entries (pieces j.kinds) ns)
      (and_both _ _
      (and_both _ _
      (and_both _ _ (ordered-entries cs (pieces j.kinds) [] ns (pieces-ascend j.kinds) c)
      (below_all _ (kind_count j.kinds) (λ t h. eq-eqb _ _ (copies-entries cs (pieces j.kinds) [] ns c t ∙ count-pieces j.kinds t h))))
      (offered-entries (pieces j.kinds) [] ns c))
      (apart-entries cs (pieces j.kinds) [] ns c)))

  -- It has N entries.
  pub completion_length : (ns : List ℕ) → Completes j (candidate_table j) (pieces j.kinds) [] ns → length (reverse (laid j (pieces j.kinds) ns [])) ≡ piece_count j.kinds
  completion_length ns c = rw (laid_layout (pieces j.kinds) ns) (length-entries (candidate_table j) (pieces j.kinds) [] ns c ∙ length-pieces j.kinds)

  -- ---- What passes is a completion

  -- The order of entries is passed on.
  precedes_trans : (e f g : Entry) → Precedes j e f → Precedes j f g → Precedes j e g
  precedes_trans e f g (inl a) (inl b) = inl (omega arith)
  precedes_trans e f g (inl a) (inr b) = inl (omega arith)
  precedes_trans e f g (inr a) (inl b) = inl (omega arith)
  precedes_trans e f g (inr a) (inr b) = inr (omega arith)

  -- An entry comes before each of these, and is in conflict with none.
  abbrev pub Leads : Entry → Layout → Type 0
  Leads e es = (f : Entry) → Memᴰ f es → Precedes j e f × (conflict j e f ≡ false)

  -- So does each entry with all after it.
  abbrev pub Leading : Layout → Type 0
  Leading [] = Unit {0}
  Leading (e ∷ es) = Leads e es × Leading es

  -- All but the first of ordered entries are ordered.
  ordered-tail : (e : Entry) (es : Layout) → ordered j (e ∷ es) ≡ true → ordered j es ≡ true
  unfolding ordered
  ordered-tail e [] h = refl
  ordered-tail e (f ∷ es) h = and_right (in_order j e f) _ h

  -- The first of ordered entries comes before all others.
  ordered-first : (e : Entry) (es : Layout) → ordered j (e ∷ es) ≡ true → (f : Entry) → Memᴰ f es → Precedes j e f
  unfolding ordered
  ordered-first e [] h f d = absurd (Memᴰ.not-nil d)
  ordered-first e (g ∷ es) h f d = go (Memᴰ.cases_cons d) (ordered-first g es (and_right (in_order j e g) _ h) f)
    where
      first : Precedes j e g
      first = precedes j e g (and_left _ _ h)

      go : (f ≡ g) ⊎ Memᴰ f es → (Memᴰ f es → Precedes j g f) → Precedes j e f
      go (inl q) r = subst (Precedes j e) (sym q) first
      go (inr m) r = precedes_trans e g f first (r m)

  -- Ordered entries of which no two are in conflict lead all after them.
  leading : (es : Layout) → ordered j es ≡ true → apart j es ≡ true → Leading es
  unfolding apart
  leading [] o a = tt
  leading (e ∷ es) o a = (
    (λ f d. (ordered-first e es o f d, not-true _ (all-mem (λ f. not (conflict j e f)) es f (and_left _ _ a) d))),
    leading es (ordered-tail e es o) (and_right (all (λ f. not (conflict j e f)) es) _ a),
  )

  -- A layout that passes consists of candidates, each of which leads all after it.
  pub passing-leads : (es : Layout) → Passes j es → Leading es × (all (is_entry j) es ≡ true)
  unfolding passes
  passing-leads es p =
      let parts = and_four (ordered j es) (demand_met j es) (all (is_entry j) es) (apart j es) (passes-complete j es p) in
      (leading es parts.0 parts.3, parts.2)

  -- What comes after all that is placed is above the previous copy, and in conflict with nothing placed.
  above_of : (placed : Layout) (e : Entry) → ((f : Entry) → Memᴰ f placed → Precedes j f e) → above_previous j placed e ≡ true
  unfolding above_previous
  above_of [] e p = refl
  above_of (f ∷ placed) e p = go (eqb f.kind e.kind) refl (p f (Memᴰ.head refl)) (above_of placed e (λ g d. p g (Memᴰ.tail d)))
    where
      go : (b : Bool) → eqb f.kind e.kind ≡ b → Precedes j f e → above_previous j placed e ≡ true
          → cond (eqb f.kind e.kind) (ltb (entry_number j f) (entry_number j e)) (above_previous j placed e) ≡ true
      go true q (inl l) r = let same : f.kind ≡ e.kind = eqb-true _ _ q in absurd (omega arith)
      go true q (inr l) r = rw q (lt-ltb (entry_number j f) (entry_number j e) l.1)
      go false q l r = rw q r

  -- What is in conflict with none of what is placed is free.
  free_of : (placed : Layout) (e : Entry) → ((f : Entry) → Memᴰ f placed → conflict j f e ≡ false) → free j placed e ≡ true
  unfolding free any
  free_of [] e p = refl
  free_of (f ∷ placed) e p = free-cons j f placed e (p f (Memᴰ.head refl)) (free_of placed e (λ g d. p g (Memᴰ.tail d)))

  module _ (turned : (t : ℕ) → (kind_at j.kinds t).rotations < 16) where
    -- Candidates that lead all after them complete what leads them all.
    pub completes-of : (es placed : Layout) → all (is_entry j) es ≡ true → Leading es → ((f : Entry) → Memᴰ f placed → Leads f es)
        → Completes j (candidate_table j) (map (λ e. e.kind) es) placed (map (entry_number j) es)
    unfolding all
    completes-of [] placed a l p = tt
    completes-of (e ∷ es) placed a l p =
        let h : is_entry j e ≡ true = and_left _ _ a in
        let q : e ≡ entry_of j e.kind (entry_number j e) = sym (entry-of_number j turned e h) in (
          table-mem j turned e h,
          (
            subst (λ (x : Entry). above_previous j placed x ≡ true) q (above_of placed e (λ f d. (p f d e (Memᴰ.head refl)).0)),
            subst (λ (x : Entry). free j placed x ≡ true) q (free_of placed e (λ f d. (p f d e (Memᴰ.head refl)).1)),
            subst (λ (x : Entry). Completes j (candidate_table j) (map (λ e. e.kind) es) (x ∷ placed) (map (entry_number j) es)) q
                (completes-of es (e ∷ placed) (and_right (is_entry j e) _ a) l.1
                (λ f d. ⊎_elim (λ i. subst (λ (x : Entry). Leads x es) (sym i) l.0) (λ i g k. p f i g (Memᴰ.tail k)) (Memᴰ.cases_cons d))),
          ),
        )

    -- The entries are those of their types and numbers.
    pub entries_of : (es : Layout) → all (is_entry j) es ≡ true → entries (map (λ e. e.kind) es) (map (entry_number j) es) ≡ es
    unfolding all
    entries_of [] a = refl
    entries_of (e ∷ es) a =
        ap₂ {C = Layout} (λ (x : Entry) (xs : Layout). x ∷ xs) (entry-of_number j turned e (and_left _ _ a)) (entries_of es (and_right (is_entry j e) _ a))

  -- The types of entries that lead all after them ascend.
  kinds-ascend : (es : Layout) → Leading es → Ascending (map (λ e. e.kind) es)
  kinds-ascend [] l = tt
  kinds-ascend (e ∷ es) l = ((λ m d. let x = mem_map (λ e. e.kind) es m d in below m x.0 x.2 (l.0 x.0 x.1).0), kinds-ascend es l.1)
    where
      below : (m : ℕ) (f : Entry) → m ≡ f.kind → Precedes j e f → e.kind ≤ m
      below m f q (inl h) = omega arith
      below m f q (inr h) = omega (arith, h.0)

  -- They are counted as the copies are.
  count-kinds : (es : Layout) (t : ℕ) → count_of (eqb t) (map (λ e. e.kind) es) ≡ copies t es
  unfolding count_of copies
  count-kinds [] t = refl
  count-kinds (e ∷ es) t = rw (eqb_comm e.kind t, count-kinds es t)

  -- The types of a layout that passes are those of the pieces.
  kinds-pieces : (es : Layout) → all (is_entry j) es ≡ true → Leading es → ((t : ℕ) → t < kind_count j.kinds → copies t es ≡ (kind_at j.kinds t).demand)
      → map (λ e. e.kind) es ≡ pieces j.kinds
  kinds-pieces es a l d = ascending_same (map (λ e. e.kind) es) (pieces j.kinds) (kinds-ascend es l) (pieces-ascend j.kinds) (λ t. go t (true_or_false (ltb t (kind_count j.kinds))))
    where
      none : (t : ℕ) (ns : List ℕ) → kind_count j.kinds ≤ t → ((m : ℕ) → Memᴰ m ns → m < kind_count j.kinds) → count_of (eqb t) ns ≡ 0
      none t ns h f = count_of-none (eqb t) ns (λ m i. ne_eqb t m (λ q. let k : m < kind_count j.kinds = f m i in omega arith))

      go : (t : ℕ) → (ltb t (kind_count j.kinds) ≡ true) ⊎ (ltb t (kind_count j.kinds) ≡ false) → count_of (eqb t) (map (λ e. e.kind) es) ≡ count_of (eqb t) (pieces j.kinds)
      go t (inl h) = let k : t < kind_count j.kinds = ltb-true _ _ h in count-kinds es t ∙ d t k ∙ sym (count-pieces j.kinds t k)
      go t (inr h) =
          let k : kind_count j.kinds ≤ t = ltb-false _ _ h in
          none t (map (λ e. e.kind) es) k (λ m i. let x = mem_map (λ e. e.kind) es m i in rw x.2 (entry-kind j x.0 (all-mem (is_entry j) es x.0 a x.1)))
          ∙ sym (none t (pieces j.kinds) k (mem_pieces j.kinds))

  -- A layout that passes has N entries.
  pub passing-length : (es : Layout) → Passes j es → length es ≡ piece_count j.kinds
  passing-length es p =
      let l = passing-leads es p in
      sym (length-map es (λ e. e.kind)) ∙ ap length (kinds-pieces es l.1 l.0 p.demanded) ∙ length-pieces j.kinds

  -- A layout that passes is laid by the completion of its numbers.
  pub passing-completes : Sensible j → (es : Layout) → Passes j es
      → Completes j (candidate_table j) (pieces j.kinds) [] (map (entry_number j) es) × (reverse (laid j (pieces j.kinds) (map (entry_number j) es) []) ≡ es)
  passing-completes ok es p =
      let l = passing-leads es p in
      let q : map (λ e. e.kind) es ≡ pieces j.kinds = kinds-pieces es l.1 l.0 p.demanded in (
        subst (λ (ts : List ℕ). Completes j (candidate_table j) ts [] (map (entry_number j) es)) q
            (completes-of ok.turned es [] l.1 l.0 (λ f d. absurd (Memᴰ.not-nil d))),
        laid_layout (pieces j.kinds) (map (entry_number j) es)
            ∙ subst (λ (ts : List ℕ). entries ts (map (entry_number j) es) ≡ es) q (entries_of ok.turned es l.1),
      )

  -- ---- Order

  -- The entry of a number has that number.
  number-of_entry : (t n : ℕ) → entry_number j (entry_of j t n) ≡ n
  unfolding entry_number entry_of
  number-of_entry t n = number-of_placement j.sheet n

  -- A layout comes before another with the same number in front of both.
  before-cons : (e f : Entry) (es fs : Layout) → entry_number j e ≡ entry_number j f → Before j es fs → Before j (e ∷ es) (f ∷ fs)
  before-cons e f es fs q b =
      record {
        place = suc b.place;
        within = (omega (arith, b.within.0), omega (arith, b.within.1));
        alike = alike;
        smaller = b.smaller;
      }
    where
      alike : (i : ℕ) → i < suc b.place → entry_number j (entry_at (e ∷ es) i) ≡ entry_number j (entry_at (f ∷ fs) i)
      alike zero h = q
      alike (suc i) h = b.alike i (le_of_suc-le-suc h)

  -- Of two completions, the layout of one that is not after the other is the same layout or comes before it.
  pub not_after-before : (ts ks ns : List ℕ) → NotAfter ks ns → (entries ts ks ≡ entries ts ns) ⊎ Before j (entries ts ks) (entries ts ns)
  not_after-before [] ks ns a = inl refl
  not_after-before (t ∷ ts) [] [] a = inl refl
  not_after-before (t ∷ ts) [] (n ∷ ns) a = absurd a
  not_after-before (t ∷ ts) (k ∷ ks) [] a = absurd a
  not_after-before (t ∷ ts) (k ∷ ks) (n ∷ ns) (inl l) =
      inr (record { place = 0; within = (omega arith, omega arith); alike = λ i h. absurd (not-suc-le-zero h); smaller = rw (number-of_entry t k, number-of_entry t n) l })
  not_after-before (t ∷ ts) (k ∷ ks) (n ∷ ns) (inr r) =
      let q : entry_of j t k ≡ entry_of j t n = ap (entry_of j t) r.0 in
      ⊎_elim (λ same. inl (ap₂ {C = Layout} (λ (x : Entry) (xs : Layout). x ∷ xs) q same))
      (λ b. inr (before-cons (entry_of j t k) (entry_of j t n) (entries ts ks) (entries ts ns) (ap (entry_number j) q) b))
      (not_after-before ts ks ns r.1)
