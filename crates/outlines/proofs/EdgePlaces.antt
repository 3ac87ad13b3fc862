-- The refusal by the numbers of the corners, for code: which pairs of edges a walk over 0, 1, .. has to test.
use mathlib.Core.Bool.{Bool, true, false, not, ◌&&◌, ◌||◌, true≢false}
use mathlib.Core.List.{List, [], ◌∷◌, ◌++◌}
use mathlib.Core.Logic.{inl, inr, ⊎_elim}
use mathlib.Core.Option.{Option, none, some}
use mathlib.Core.Path.{◌≡◌, refl, sym, ◌∙◌, ap, ap₂, subst}
use Prim.Native.Nat.{ℕ, zero, suc, ◌+◌, ◌-◌, ◌≤◌, ◌<◌}
use native.Mathlib.Omega.{arith}
use borrow.Author.Tests.{eqb-true, eqb-false, eq-eqb}
use lib.Dec.{eqb}
use lib.ListN.{length, get_or, take, drop, length-append, length-drop}
use lib.Seq.{take-append_seam, get_or-append_seam, get_or-drop, split_at, drop-append-add}
use Rattle.model.specs.Content.{Vertex, origin}
use Rattle.model.specs.Geometry.{vertex_at, following}
use Rattle.model.specs.Lists.{any, rising, below}
use Rattle.model.proofs.Lists.{and_left, and_right, and_both}
use Rattle.outlines.specs.Numbered.{others, previous}
use Rattle.outlines.specs.Outline.{Place, last_of, first_or, first_where, meet, doubles_back, meets_path, edge_meets, edges_meet}
use Rattle.outlines.proofs.Tools.{or_l, or_r, or_case}
use Rattle.outlines.proofs.Rule.{found, missed}
use Rattle.outlines.proofs.SimpleTest.{meets-none}
use Rattle.outlines.proofs.ExactTest.{meets-false}
use Rattle.outlines.proofs.Places.{predecessor-at, successor-at, others-length, others-low, others-high, other_at, at_other, same_bool, following-is, Round}

-- ---- some number below n
module _ (p : ℕ → Bool) where
  rising-some : (i n : ℕ) → any p (rising i n) ≡ true → (k : ℕ) × (i ≤ k) × (k < i + n) × (p k ≡ true)
  unfolding any rising
  rising-some i zero e = absurd (true≢false (sym e))
  rising-some i (suc n) e = ⊎_elim (λ h. (i, omega arith, omega arith, h)) (λ h. let r = rising-some (suc i) n h in (r.0, omega (arith, r.1), omega (arith, r.2), r.3)) (or_case (p i) (any p (rising (suc i) n)) e)

  some-rising : (i n k : ℕ) → i ≤ k → k < i + n → p k ≡ true → any p (rising i n) ≡ true
  unfolding any rising
  some-rising i zero k l m e = absurd (omega arith)
  some-rising i (suc n) k l m e = go (eqb k i) refl (λ q. some-rising (suc i) n k q (omega arith) e)
    where
      go : (b : Bool) → eqb k i ≡ b → (suc i ≤ k → any p (rising (suc i) n) ≡ true) → (p i || any p (rising (suc i) n)) ≡ true
      go true h ih = or_l (p i) (any p (rising (suc i) n)) (ap p (sym (eqb-true k i h)) ∙ e)
      go false h ih = or_r (p i) (any p (rising (suc i) n)) (ih (omega (arith, eqb-false k i h)))

  -- Of the numbers below n one passes.
  pub below-some : (n : ℕ) → any p (below n) ≡ true → (k : ℕ) × (k < n) × (p k ≡ true)
  unfolding below
  below-some n e = let r = rising-some 0 n e in (r.0, omega (arith, r.2), r.3)

  -- A number below n that passes.
  pub some_below : (n k : ℕ) → k < n → p k ≡ true → any p (below n) ≡ true
  unfolding below
  some_below n k l e = some-rising 0 n k (omega arith) (omega arith) e

-- ---- a path

-- Where the path is met, a pair of its corners whose edge is met.
path_some : (c s : Vertex) (L : List Vertex) → meets_path c s L ≡ true → (k : ℕ) × (suc k < length L) × (meet c s (get_or L k origin) (get_or L (suc k) origin) ≡ true)
unfolding meets_path
path_some c s [] e = absurd (true≢false (sym e))
path_some c s (u ∷ []) e = absurd (true≢false (sym e))
path_some c s (u ∷ t ∷ L) e = ⊎_elim (λ h. (0, omega arith, h)) (λ h. let r = path_some c s (t ∷ L) h in (suc r.0, omega (arith, r.1), r.2)) (or_case (meet c s u t) (meets_path c s (t ∷ L)) e)

-- A pair of corners of the path whose edge is met.
-- The other way.
some-path : (c s : Vertex) (L : List Vertex) (k : ℕ) → suc k < length L → meet c s (get_or L k origin) (get_or L (suc k) origin) ≡ true → meets_path c s L ≡ true
unfolding meets_path
some-path c s [] k l e = absurd (omega arith)
some-path c s (u ∷ []) k l e = absurd (omega arith)
some-path c s (u ∷ t ∷ L) zero l e = or_l (meet c s u t) (meets_path c s (t ∷ L)) e
some-path c s (u ∷ t ∷ L) (suc k) l e = or_r (meet c s u t) (meets_path c s (t ∷ L)) (some-path c s (t ∷ L) k (omega arith) e)

-- Places round corner i, in numbers.
ix0 : (i k j n : ℕ) → i < n → j ≡ suc (i + suc k) → suc j ≡ n → suc (suc k) ≡ n - suc i + 0
ix0 i k j n h a e = omega arith

ipos : (i k j n o : ℕ) → suc (suc k) < o → o ≡ n - 1 → j ≡ suc (i + suc k) → suc j ≡ n → 0 < i
ipos i k j n o l e a f = omega arith

ilt : (i k j n : ℕ) → j ≡ suc (i + suc k) → j < n → (suc j ≡ n → ⊥) → suc (i + suc (suc k)) < n
ilt i k j n a l f = omega arith

inx : (i k j : ℕ) → j ≡ suc (i + suc k) → suc (i + suc (suc k)) ≡ suc j
inx i k j a = omega arith

no_end : (i j n : ℕ) → i < n → suc j < i → suc j ≡ n → ⊥
no_end i j n h l e = omega arith

ixh : (i k j n : ℕ) → i < n → suc (i + suc k) ≡ n + j → suc (suc k) ≡ n - suc i + suc j
ixh i k j n h a = omega arith

-- The corner after one that is neither i nor its neighbour.
module _ (P : List Vertex) (i : ℕ) (h : i < length P) (three : 3 ≤ length P) where
  after-at : (k j : ℕ) → suc (suc k) < length (others P i) → get_or (others P i) (suc k) origin ≡ get_or P j origin → Round i (length P) k j →
      get_or (others P i) (suc (suc k)) origin ≡ get_or P (following P j) origin
  after-at k j l e (inl a) = ⊎_elim
      (λ r. ap (λ n. get_or (others P i) n origin) (ix0 i k j (length P) h a.0 r.0) ∙ others-high P i h 0 (ipos i k j (length P) (length (others P i)) l (others-length P i h) a.0 r.0) ∙ ap (λ n. get_or P n origin) (sym r.1))
      (λ r. others-low P i h (suc (suc k)) (ilt i k j (length P) a.0 a.1 r.0) ∙ ap (λ n. get_or P n origin) (inx i k j a.0 ∙ sym r.1)) (following-is P j)
  after-at k j l e (inr a) = ⊎_elim (λ r. absurd (no_end i j (length P) h a.1 r.0))
      (λ r. ap (λ n. get_or (others P i) n origin) (ixh i k j (length P) h a.0) ∙ others-high P i h (suc j) a.1 ∙ ap (λ n. get_or P n origin) (sym r.1)) (following-is P j)

-- ---- the edge from corner i
form : (c : Vertex) (L : List Vertex) → 1 ≤ length L → edge_meets c L ≡ (doubles_back (last_of c L) c (first_or c L) || meets_path c (first_or c L) (drop 1 L))
unfolding edge_meets
form c [] l = absurd (omega arith)
form c (s ∷ M) l = refl

-- Edge j, from corner j to the next, has no corner in common with edge i, and meets it.
abbrev pub strikes : List Vertex → ℕ → ℕ → Bool
strikes P i j =
    not (eqb j i || eqb j (previous P i) || eqb j (following P i))
    && meet (vertex_at P i) (vertex_at P (following P i)) (vertex_at P j) (vertex_at P (following P j))

-- Three tests fail.
none-of_three : (a b c : Bool) → (a ≡ true → ⊥) → (b ≡ true → ⊥) → (c ≡ true → ⊥) → not (a || b || c) ≡ true
none-of_three true b c f g h = absurd (f refl)
none-of_three false true c f g h = absurd (g refl)
none-of_three false false true f g h = absurd (h refl)
none-of_three false false false f g h = refl

-- Each of them fails.
three_false : (a b c : Bool) → not (a || b || c) ≡ true → (a ≡ true → ⊥) × (b ≡ true → ⊥) × (c ≡ true → ⊥)
three_false true b c e = absurd (true≢false (sym e))
three_false false true c e = absurd (true≢false (sym e))
three_false false false true e = absurd (true≢false (sym e))
three_false false false false e = ((λ q. true≢false (sym q)), (λ q. true≢false (sym q)), (λ q. true≢false (sym q)))

-- Corner k behind the first.
past_first : (L : List Vertex) (k : ℕ) → get_or (drop 1 L) k origin ≡ get_or L (suc k) origin
past_first L k = let e : 1 + k ≡ suc k = omega arith in get_or-drop 1 L k origin ∙ ap (λ n. get_or L n origin) e

-- Edge i meets another edge elsewhere than in a shared corner.
pub edge_at : (P : List Vertex) (i : ℕ) → i < length P → 3 ≤ length P →
    edge_meets (vertex_at P i) (others P i) ≡ (doubles_back (vertex_at P (previous P i)) (vertex_at P i) (vertex_at P (following P i)) || any (strikes P i) (below (length P)))
unfolding vertex_at
edge_at P i h three = form c L (omega (arith, others-length P i h)) ∙ ap₂ (λ a b. doubles_back a c b || meets_path c b (drop 1 L)) (predecessor-at P i h (omega arith) c) (successor-at P i h (omega arith) c)
    ∙ ap (λ q. doubles_back (vertex_at P (previous P i)) c s || q) (same_bool (meets_path c s (drop 1 L)) (any (strikes P i) (below (length P))) there back)
  where
    c : Vertex
    c = vertex_at P i

    s : Vertex
    s = vertex_at P (following P i)

    L : List Vertex
    L = others P i

    there : meets_path c s (drop 1 L) ≡ true → any (strikes P i) (below (length P)) ≡ true
    there e = let q = path_some c s (drop 1 L) e in let k = q.0 in
        let l : suc (suc k) < length L = omega (arith, length-drop 1 L, q.1) in
        let r = other_at P i h three k l in
        some_below (strikes P i) (length P) r.0 r.1 (and_both _ _ (none-of_three (eqb r.0 i) (eqb r.0 (previous P i)) (eqb r.0 (following P i)) (λ z. r.3 (eqb-true r.0 i z)) (λ z. r.4 (eqb-true r.0 (previous P i) z)) (λ z. r.5 (eqb-true r.0 (following P i) z)))
        (ap₂ (λ a b. meet c s a b) (sym (past_first L k ∙ r.2)) (sym (past_first L (suc k) ∙ after-at P i h three k r.0 l r.2 r.6)) ∙ q.2))

    back : any (strikes P i) (below (length P)) ≡ true → meets_path c s (drop 1 L) ≡ true
    back e = let q = below-some (strikes P i) (length P) e in let j = q.0 in
        let a = not (eqb j i || eqb j (previous P i) || eqb j (following P i)) in
        let b = meet c s (vertex_at P j) (vertex_at P (following P j)) in
        let n = three_false (eqb j i) (eqb j (previous P i)) (eqb j (following P i)) (and_left a b q.2) in
        let r = at_other P i h three j q.1 (λ z. n.0 (eq-eqb j i z)) (λ z. n.1 (eq-eqb j (previous P i) z)) (λ z. n.2 (eq-eqb j (following P i) z)) in
        some-path c s (drop 1 L) r.0 (omega (arith, length-drop 1 L, r.1))
        (ap₂ (λ a b. meet c s a b) (past_first L r.0 ∙ r.2) (past_first L (suc r.0) ∙ after-at P i h three r.0 j r.1 r.2 r.3) ∙ and_right a b q.2)

-- ---- all edges
-- What stands behind the corner after the first list.
behind : (xs : List Vertex) (c : Vertex) (ys : List Vertex) → drop (suc (length xs)) (xs ++ c ∷ ys) ≡ ys
behind xs c ys = let e : suc (length xs) ≡ length xs + 1 = omega arith in ap (λ n. drop n (xs ++ c ∷ ys)) e ∙ drop-append-add xs (c ∷ ys) 1

-- Two edges of the outline meet elsewhere than in a shared corner.
pub edges_at : (P : List Vertex) → edges_meet P ≡ any (λ i. edge_meets (vertex_at P i) (others P i)) (below (length P))
unfolding vertex_at
edges_at P = same_bool (edges_meet P) (any (λ i. edge_meets (vertex_at P i) (others P i)) (below (length P))) there back
  where
    there : edges_meet P ≡ true → any (λ i. edge_meets (vertex_at P i) (others P i)) (below (length P)) ≡ true
    there e = go (first_where edge_meets [] P) refl
      where
        go : (o : Option Place) → first_where edge_meets [] P ≡ o → any (λ i. edge_meets (vertex_at P i) (others P i)) (below (length P)) ≡ true
        go none i = absurd (true≢false (sym e ∙ meets-false P i))
        go (some f) i = let r = found edge_meets [] P f i in
            some_below (λ i. edge_meets (vertex_at P i) (others P i)) (length P) (length f.before) (omega (arith, ap length r.is, length-append f.before (f.corner ∷ f.after)))
            (subst (λ Q. edge_meets (get_or Q (length f.before) origin) (drop (suc (length f.before)) Q ++ take (length f.before) Q) ≡ true) (sym r.is)
            (ap₂ (λ a b. edge_meets a b) (get_or-append_seam f.before f.corner f.after origin) (ap₂ (λ a b. a ++ b) (behind f.before f.corner f.after) (take-append_seam f.before (f.corner ∷ f.after))) ∙ r.passes))

    back : any (λ i. edge_meets (vertex_at P i) (others P i)) (below (length P)) ≡ true → edges_meet P ≡ true
    back e = go (edges_meet P) refl
      where
        go : (b : Bool) → edges_meet P ≡ b → edges_meet P ≡ true
        go true i = i
        go false i = let q = below-some (λ i. edge_meets (vertex_at P i) (others P i)) (length P) e in
            absurd (true≢false (sym q.2 ∙ missed edge_meets [] (take q.0 P) (get_or P q.0 origin) (drop (suc q.0) P) (ap (λ Q. first_where edge_meets [] Q) (sym (split_at P q.0 origin q.1)) ∙ meets-none P i)))
