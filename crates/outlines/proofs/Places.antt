-- The rule by the numbers of the corners, for code: what a walk over 0, 1, .. finds.
use mathlib.Core.Bool.{Bool, true, false, not, cond, ◌&&◌, ◌||◌, true≢false}
use mathlib.Core.List.{List, [], ◌∷◌, ◌++◌, append-nil}
use mathlib.Core.Logic.{◌⊎◌, inl, inr, ⊎_elim}
use mathlib.Core.Option.{none, some}
use mathlib.Core.Path.{◌≡◌, refl, sym, ◌∙◌, ap, ap₂, subst}
use Prim.Native.Nat.{ℕ, zero, suc, ◌+◌, ◌-◌, ◌≤◌, ◌<◌}
use native.Mathlib.Omega.{arith}
use borrow.Author.Tests.{eqb-true, eqb-false, eq-eqb}
use lib.Dec.{eqb}
use lib.ListN.{length, get_or, take, drop, length-append, length-take, length-drop, get_or-append}
use lib.Seq.{get_or-append-add, get_or-drop, get_or-take, append_snoc}
use Rattle.words.proofs.Cases.{le_or_lt}
use Rattle.model.specs.Content.{Vertex, origin}
use Rattle.model.specs.Geometry.{cross, strictly_left, vertex_at, following}
use Rattle.model.specs.Lists.{all, below}
use Rattle.model.proofs.Lists.{and_left, and_right, and_both, all-below, below_all}
use Rattle.outlines.specs.Numbered.{others, place_at, previous}
use Rattle.outlines.specs.Outline.{place, last_of, but_last, first_or, first_where, is_zero, in_line, holds, is_ear, triangle, triangle_at, rest}
use Rattle.outlines.proofs.Ears.Turned.{Mem}
use Rattle.outlines.proofs.Rule.{hit, miss, end, is_ear_lem, ear_left, ear_empty, left_is, is_left}

-- ---- the first that passes
module _ (test : Vertex → List Vertex → Bool) where
  first-from : (xs ys : List Vertex) (i : ℕ) → i < length ys → ((j : ℕ) → j < i → test (get_or ys j origin) (drop (suc j) ys ++ (xs ++ take j ys)) ≡ false) →
      test (get_or ys i origin) (drop (suc i) ys ++ (xs ++ take i ys)) ≡ true → first_where test xs ys ≡ some (place (xs ++ take i ys) (get_or ys i origin) (drop (suc i) ys))
  first-from xs [] i h f e = absurd (omega arith)
  first-from xs (c ∷ ys) zero h f e = hit test xs c ys (subst (λ q. test c (ys ++ q) ≡ true) (append-nil xs) e) ∙ ap (λ q. some (place q c ys)) (sym (append-nil xs))
  first-from xs (c ∷ ys) (suc i) h f e =
      miss test xs c ys (subst (λ q. test c (ys ++ q) ≡ false) (append-nil xs) (f 0 (omega arith)))
      ∙ first-from (xs ++ c ∷ []) ys i (omega arith) (λ j l. subst (λ q. test (get_or ys j origin) (drop (suc j) ys ++ q) ≡ false) (sym (append_snoc xs c (take j ys))) (f (suc j) (omega arith)))
      (subst (λ q. test (get_or ys i origin) (drop (suc i) ys ++ q) ≡ true) (sym (append_snoc xs c (take i ys))) e)
      ∙ ap (λ q. some (place q (get_or ys i origin) (drop (suc i) ys))) (append_snoc xs c (take i ys))

  none_from : (xs ys : List Vertex) → ((j : ℕ) → j < length ys → test (get_or ys j origin) (drop (suc j) ys ++ (xs ++ take j ys)) ≡ false) → first_where test xs ys ≡ none
  none_from xs [] f = end test xs
  none_from xs (c ∷ ys) f =
      miss test xs c ys (subst (λ q. test c (ys ++ q) ≡ false) (append-nil xs) (f 0 (omega arith)))
      ∙ none_from (xs ++ c ∷ []) ys (λ j l. subst (λ q. test (get_or ys j origin) (drop (suc j) ys ++ q) ≡ false) (sym (append_snoc xs c (take j ys))) (f (suc j) (omega arith)))

  -- Corner i passes and none of a lower number does.
  pub first-at : (P : List Vertex) (i : ℕ) → i < length P → ((j : ℕ) → j < i → test (vertex_at P j) (others P j) ≡ false) → test (vertex_at P i) (others P i) ≡ true →
      first_where test [] P ≡ some (place_at P i)
  unfolding vertex_at
  first-at P i h f e = first-from [] P i h f e

  -- No corner passes.
  pub first-none : (P : List Vertex) → ((j : ℕ) → j < length P → test (vertex_at P j) (others P j) ≡ false) → first_where test [] P ≡ none
  unfolding vertex_at
  first-none P f = none_from [] P f

-- ---- neighbours

module _ (P : List Vertex) (i : ℕ) (h : i < length P) where
  -- All corners but one.
  pub others-length : length (others P i) ≡ length P - 1
  others-length = omega (arith, length-append (drop (suc i) P) (take i P), length-drop (suc i) P, length-take i P)

  -- Those after corner i come first.
  pub others-low : (k : ℕ) → suc (i + k) < length P → get_or (others P i) k origin ≡ get_or P (suc (i + k)) origin
  others-low k l = get_or-append (drop (suc i) P) (take i P) origin k (omega (arith, length-drop (suc i) P)) ∙ get_or-drop (suc i) P k origin ∙ ap (λ n. get_or P n origin) (omega arith)

  -- Those before it come behind them.
  pub others-high : (j : ℕ) → j < i → get_or (others P i) (length P - suc i + j) origin ≡ get_or P j origin
  others-high j l = ap (λ n. get_or (others P i) (n + j) origin) (sym (length-drop (suc i) P)) ∙ get_or-append-add (drop (suc i) P) (take i P) j origin ∙ get_or-take i P j origin l

-- The first of a list by its number.
first-get_or : (c : Vertex) (L : List Vertex) → 1 ≤ length L → first_or c L ≡ get_or L 0 origin
first-get_or c [] l = absurd (omega arith)
first-get_or c (a ∷ L) l = refl

-- The last of a list by its number.
pub last_get_or : (c : Vertex) (L : List Vertex) (n : ℕ) → length L ≡ suc n → last_of c L ≡ get_or L n origin
last_get_or c [] n l = absurd (omega arith)
last_get_or c (a ∷ []) zero l = refl
last_get_or c (a ∷ []) (suc n) l = absurd (omega arith)
last_get_or c (a ∷ b ∷ L) zero l = absurd (omega arith)
last_get_or c (a ∷ b ∷ L) (suc n) l = last_get_or a (b ∷ L) n (omega arith)

module _ (P : List Vertex) (i : ℕ) (h : i < length P) (two : 2 ≤ length P) where
  -- The first of the others is the corner after corner i.
  pub successor-at : (c : Vertex) → first_or c (others P i) ≡ vertex_at P (following P i)
  unfolding vertex_at following
  successor-at c = first-get_or c (others P i) (omega (arith, others-length P i h)) ∙ go (eqb (suc i) (length P)) refl
    where
      go : (b : Bool) → eqb (suc i) (length P) ≡ b → get_or (others P i) 0 origin ≡ get_or P (cond b 0 (suc i)) origin
      go true e = ap (λ n. get_or (others P i) n origin) (omega (arith, eqb-true (suc i) (length P) e)) ∙ others-high P i h 0 (omega (arith, eqb-true (suc i) (length P) e))
      go false e = others-low P i h 0 (ne (eqb-false (suc i) (length P) e)) ∙ ap (λ n. get_or P n origin) (omega arith)
        where
          ne : (suc i ≡ length P → ⊥) → suc (i + 0) < length P
          ne f = omega (arith, f)

  -- The last of them is the corner before it.
  pub predecessor-at : (c : Vertex) → last_of c (others P i) ≡ vertex_at P (previous P i)
  unfolding vertex_at previous
  predecessor-at c = last_get_or c (others P i) (length P - 2) (omega (arith, others-length P i h)) ∙ go (eqb i 0) refl
    where
      go : (b : Bool) → eqb i 0 ≡ b → get_or (others P i) (length P - 2) origin ≡ get_or P (cond b (length P - 1) (i - 1)) origin
      go true e = others-low P i h (length P - 2) (omega (arith, eqb-true i 0 e)) ∙ ap (λ n. get_or P n origin) (omega (arith, eqb-true i 0 e))
      go false e = ap (λ n. get_or (others P i) n origin) (omega (arith, eqb-false i 0 e)) ∙ others-high P i h (i - 1) (omega (arith, eqb-false i 0 e))

-- The triangle at corner i.
pub triangle-at : (P : List Vertex) (i : ℕ) → i < length P → 2 ≤ length P → triangle_at (place_at P i) ≡ triangle (vertex_at P i) (vertex_at P (following P i)) (vertex_at P (previous P i))
unfolding triangle_at
triangle-at P i h two = ap₂ (λ s p. triangle (vertex_at P i) s p) (successor-at P i h two (vertex_at P i)) (predecessor-at P i h two (vertex_at P i))

-- The corners that remain.
pub rest_at : (P : List Vertex) (i : ℕ) → rest (place_at P i) ≡ take i P ++ drop (suc i) P
unfolding rest
rest_at P i = refl

-- ---- the tests
line-form : (c : Vertex) (L : List Vertex) → 1 ≤ length L → in_line c L ≡ is_zero (cross (last_of c L) c (first_or c L))
unfolding in_line
line-form c [] l = absurd (omega arith)
line-form c (s ∷ M) l = refl

-- Corner i is in line with its neighbours.
pub line_at : (P : List Vertex) (i : ℕ) → i < length P → 2 ≤ length P →
    in_line (vertex_at P i) (others P i) ≡ is_zero (cross (vertex_at P (previous P i)) (vertex_at P i) (vertex_at P (following P i)))
line_at P i h two = line-form (vertex_at P i) (others P i) (omega (arith, others-length P i h))
    ∙ ap₂ (λ p s. is_zero (cross p (vertex_at P i) s)) (predecessor-at P i h two (vertex_at P i)) (successor-at P i h two (vertex_at P i))

-- All but the last, by numbers.
but_at : (a : Vertex) (M : List Vertex) (v : Vertex) → Mem v (but_last a M) → (k : ℕ) × (k < length M) × (v ≡ get_or (a ∷ M) k origin)
but_at a [] v m = absurd m
but_at a (b ∷ M) v (inl i) = (0, omega arith, i)
but_at a (b ∷ M) v (inr i) = let r = but_at b M v i in (suc r.0, omega (arith, r.1), r.2)

-- The other way.
at_but : (a : Vertex) (M : List Vertex) (k : ℕ) → k < length M → Mem (get_or (a ∷ M) k origin) (but_last a M)
at_but a [] k l = absurd (omega arith)
at_but a (b ∷ M) zero l = inl refl
at_but a (b ∷ M) (suc k) l = inr (at_but b M k (omega arith))

-- An ear, by the places of the others.
ear_from : (c : Vertex) (L : List Vertex) → is_ear c L ≡ true → (k : ℕ) → suc (suc k) < length L → not (holds (last_of c L) c (first_or c L) (get_or L (suc k) origin)) ≡ true
unfolding is_ear
ear_from c [] e k l = absurd (omega arith)
ear_from c (s ∷ []) e k l = absurd (omega arith)
ear_from c (s ∷ m ∷ M) e k l = ear_empty c s m M (get_or (m ∷ M) k origin) e (at_but m M k (omega arith))

-- The other way.
ear_to : (c : Vertex) (L : List Vertex) → 2 ≤ length L → strictly_left (last_of c L) c (first_or c L) ≡ true → ((k : ℕ) → suc (suc k) < length L → not (holds (last_of c L) c (first_or c L) (get_or L (suc k) origin)) ≡ true) → is_ear c L ≡ true
ear_to c [] l e f = absurd (omega arith)
ear_to c (s ∷ []) l e f = absurd (omega arith)
ear_to c (s ∷ m ∷ M) l e f = is_ear_lem c s m M (left_is (last_of m M) c s e)
    (λ v i. let r = but_at m M v i in subst (λ q. not (holds (last_of m M) c s q) ≡ true) (sym r.2) (f r.0 (omega (arith, r.1))))

-- Tests that follow from each other are equal.
pub same_bool : (a b : Bool) → (a ≡ true → b ≡ true) → (b ≡ true → a ≡ true) → a ≡ b
same_bool true b f g = sym (f refl)
same_bool false true f g = g refl
same_bool false false f g = refl

-- Corner i, or its neighbour, or a corner outside the triangle.
abbrev pub spared : List Vertex → ℕ → ℕ → Bool
spared P i k = eqb k i || eqb k (previous P i) || eqb k (following P i) || not (holds (vertex_at P (previous P i)) (vertex_at P i) (vertex_at P (following P i)) (vertex_at P k))

-- Three of four tests fail, so the last one holds.
or_four : (a b c d : Bool) → (a ≡ true → ⊥) → (b ≡ true → ⊥) → (c ≡ true → ⊥) → (a || b || c || d) ≡ true → d ≡ true
or_four true b c d f g h e = absurd (f refl)
or_four false true c d f g h e = absurd (g refl)
or_four false false true d f g h e = absurd (h refl)
or_four false false false d f g h e = e

-- If the last of four tests holds where the others fail, one holds.
four_or : (a b c d : Bool) → ((a ≡ true → ⊥) → (b ≡ true → ⊥) → (c ≡ true → ⊥) → d ≡ true) → (a || b || c || d) ≡ true
four_or true b c d f = refl
four_or false true c d f = refl
four_or false false true d f = refl
four_or false false false d f = f (λ e. true≢false (sym e)) (λ e. true≢false (sym e)) (λ e. true≢false (sym e))

-- The corner after corner i, by cases.
pub following-is : (P : List Vertex) (i : ℕ) → ((suc i ≡ length P) × (following P i ≡ 0)) ⊎ ((suc i ≡ length P → ⊥) × (following P i ≡ suc i))
unfolding following
following-is P i = go (eqb (suc i) (length P)) refl
  where
    go : (b : Bool) → eqb (suc i) (length P) ≡ b → ((suc i ≡ length P) × (cond b 0 (suc i) ≡ 0)) ⊎ ((suc i ≡ length P → ⊥) × (cond b 0 (suc i) ≡ suc i))
    go true e = inl (eqb-true (suc i) (length P) e, refl)
    go false e = inr (eqb-false (suc i) (length P) e, refl)

-- The corner before corner i, by cases.
pub previous-is : (P : List Vertex) (i : ℕ) → ((i ≡ 0) × (previous P i ≡ length P - 1)) ⊎ ((i ≡ 0 → ⊥) × (previous P i ≡ i - 1))
unfolding previous
previous-is P i = go (eqb i 0) refl
  where
    go : (b : Bool) → eqb i 0 ≡ b → ((i ≡ 0) × (cond b (length P - 1) (i - 1) ≡ length P - 1)) ⊎ ((i ≡ 0 → ⊥) × (cond b (length P - 1) (i - 1) ≡ i - 1))
    go true e = inl (eqb-true i 0 e, refl)
    go false e = inr (eqb-false i 0 e, refl)

-- Places round corner i, in numbers.
far-0 : (i j n : ℕ) → i ≡ 0 → j < n → (j ≡ n - 1 → ⊥) → j - i < n - 1
far-0 i j n e l f = omega arith

far-suc : (i j n : ℕ) → (i ≡ 0 → ⊥) → i < j → j < n → j - i < n - 1
far-suc i j n f l m = omega arith

some-0 : (j m : ℕ) → (j ≡ 0 → ⊥) → 1 ≤ m + j
some-0 j m f = omega arith

some-suc : (i j n : ℕ) → i < n → (suc i ≡ n → ⊥) → 1 ≤ n - suc i + j
some-suc i j n h f = omega arith

none-0 : (i j : ℕ) → j < i → i ≡ 0 → suc j < i
none-0 i j h e = omega arith

near-suc : (i j : ℕ) → j < i → (j ≡ i - 1 → ⊥) → suc j < i
near-suc i j h f = omega arith

up_one : (m : ℕ) → 1 ≤ m → suc (m - 1) ≡ m
up_one m h = omega arith

turn_up : (i j n : ℕ) → i < n → 1 ≤ n - suc i + j → suc (i + suc (n - suc i + j - 1)) ≡ n + j
turn_up i j n h f = omega arith

fits : (i j n o : ℕ) → i < n → suc j < i → 1 ≤ n - suc i + j → o ≡ n - 1 → suc (suc (n - suc i + j - 1)) < o
fits i j n o h g f e = omega arith

-- Corner j stands at place suc k of the others: how far round from corner i, of n, that is.
abbrev pub Round : ℕ → ℕ → ℕ → ℕ → Type 0
Round i n k j = ((j ≡ suc (i + suc k)) × (j < n)) ⊎ ((suc (i + suc k) ≡ n + j) × (suc j < i))

module _ (P : List Vertex) (i : ℕ) (h : i < length P) (three : 3 ≤ length P) where
  -- Place suc k of the others has a corner j that is neither i nor its neighbour.
  abbrev pub Another : ℕ → Type 0
  Another k = (j : ℕ) × (j < length P) × (get_or (others P i) (suc k) origin ≡ get_or P j origin) × (j ≡ i → ⊥) × (j ≡ previous P i → ⊥) × (j ≡ following P i → ⊥) × Round i (length P) k j

  -- Each place of the others but the first and the last has such a corner.
  pub other_at : (k : ℕ) → suc (suc k) < length (others P i) → Another k
  other_at k l = ⊎_elim high low (le_or_lt (length P) (suc (i + suc k)))
    where
      m : suc (suc k) < length P - 1
      m = omega (arith, l, others-length P i h)

      low : suc (i + suc k) < length P → Another k
      low a = (
        suc (i + suc k),
        a,
        others-low P i h (suc k) a,
        (λ e. omega (arith, e)),
        (λ e. ⊎_elim (λ r. omega (arith, e, m, r.0, r.1)) (λ r. omega (arith, e, r.0, r.1)) (previous-is P i)),
        (λ e. ⊎_elim (λ r. omega (arith, e, a, r.0, r.1)) (λ r. omega (arith, e, r.1)) (following-is P i)),
        inl (refl, a),
      )

      high : length P ≤ suc (i + suc k) → Another k
      high a = let j = suc (i + suc k) - length P in (
        j,
        omega (arith, m),
        ap (λ n. get_or (others P i) n origin) (omega arith) ∙ others-high P i h j (omega (arith, m)),
        (λ e. omega (arith, e, m)),
        (λ e. ⊎_elim (λ r. omega (arith, e, m, r.0, r.1)) (λ r. omega (arith, e, m, r.0, r.1)) (previous-is P i)),
        (λ e. ⊎_elim (λ r. omega (arith, e, a, r.0, r.1)) (λ r. omega (arith, e, m, r.1)) (following-is P i)),
        inr (omega arith, omega (arith, m)),
      )

  -- Each such corner has its place.
  pub at_other : (j : ℕ) → j < length P → (j ≡ i → ⊥) → (j ≡ previous P i → ⊥) → (j ≡ following P i → ⊥) →
      (k : ℕ) × (suc (suc k) < length (others P i)) × (get_or (others P i) (suc k) origin ≡ get_or P j origin) × Round i (length P) k j
  at_other j l n1 n2 n3 = ⊎_elim below' above (le_or_lt j i)
    where
      above : i < j → (k : ℕ) × (suc (suc k) < length (others P i)) × (get_or (others P i) (suc k) origin ≡ get_or P j origin) × Round i (length P) k j
      above a = let k = j - i - 2 in
          let f : suc (suc i) ≤ j = ⊎_elim (λ r. omega (arith, r.0)) (λ r. let q : j ≡ suc i → ⊥ = (λ e. n3 (e ∙ sym r.1)) in omega (arith, q)) (following-is P i) in
          let g : j - i < length P - 1 = ⊎_elim (λ r. far-0 i j (length P) r.0 l (λ e. n2 (e ∙ sym r.1))) (λ r. far-suc i j (length P) r.0 a l) (previous-is P i) in
          (k, omega (arith, others-length P i h), others-low P i h (suc k) (omega arith) ∙ ap (λ n. get_or P n origin) (omega arith), inl (omega arith, l))

      below' : j ≤ i → (k : ℕ) × (suc (suc k) < length (others P i)) × (get_or (others P i) (suc k) origin ≡ get_or P j origin) × Round i (length P) k j
      below' a = let k = length P - suc i + j - 1 in
          let b : j < i = omega (arith, n1) in
          let f : 1 ≤ length P - suc i + j = ⊎_elim (λ r. some-0 j (length P - suc i) (λ e. n3 (e ∙ sym r.1))) (λ r. some-suc i j (length P) h r.0) (following-is P i) in
          let g : suc j < i = ⊎_elim (λ r. none-0 i j b r.0) (λ r. near-suc i j b (λ e. n2 (e ∙ sym r.1))) (previous-is P i) in
          (k, fits i j (length P) (length (others P i)) h g f (others-length P i h), ap (λ n. get_or (others P i) n origin) (up_one (length P - suc i + j) f) ∙ others-high P i h j b, inr (turn_up i j (length P) h f, g))

-- Corner i can be cut off: its turn is left, and every corner is spared.
pub ear_at : (P : List Vertex) (i : ℕ) → i < length P → 3 ≤ length P →
    is_ear (vertex_at P i) (others P i) ≡ (strictly_left (vertex_at P (previous P i)) (vertex_at P i) (vertex_at P (following P i)) && all (spared P i) (below (length P)))
unfolding vertex_at
ear_at P i h three = same_bool (is_ear c L) (strictly_left p c s && all (spared P i) (below (length P))) there back
  where
    c : Vertex
    c = vertex_at P i

    p : Vertex
    p = vertex_at P (previous P i)

    s : Vertex
    s = vertex_at P (following P i)

    L : List Vertex
    L = others P i

    ip : last_of c L ≡ p
    ip = predecessor-at P i h (omega arith) c

    is : first_or c L ≡ s
    is = successor-at P i h (omega arith) c

    there : is_ear c L ≡ true → (strictly_left p c s && all (spared P i) (below (length P))) ≡ true
    there e = and_both (strictly_left p c s) (all (spared P i) (below (length P))) (ap₂ (λ a b. strictly_left a c b) (sym ip) (sym is) ∙ is_left (last_of c L) c (first_or c L) (ear_left c L e))
        (below_all (spared P i) (length P) (λ k l. four_or (eqb k i) (eqb k (previous P i)) (eqb k (following P i)) _
        (λ n1 n2 n3. let r = at_other P i h three k l (λ q. n1 (eq-eqb k i q)) (λ q. n2 (eq-eqb k (previous P i) q)) (λ q. n3 (eq-eqb k (following P i) q)) in
        ap₂ (λ a b. not (holds a c b (get_or P k origin))) (sym ip) (sym is) ∙ subst (λ q. not (holds (last_of c L) c (first_or c L) q) ≡ true) r.2 (ear_from c L e r.0 r.1))))

    back : (strictly_left p c s && all (spared P i) (below (length P))) ≡ true → is_ear c L ≡ true
    back e = ear_to c L (omega (arith, others-length P i h)) (ap₂ (λ a b. strictly_left a c b) ip is ∙ and_left (strictly_left p c s) (all (spared P i) (below (length P))) e)
        (λ k l. let r = other_at P i h three k l in
        subst (λ q. not (holds (last_of c L) c (first_or c L) q) ≡ true) (sym r.2) (ap₂ (λ a b. not (holds a c b (get_or P r.0 origin))) ip is
        ∙ or_four (eqb r.0 i) (eqb r.0 (previous P i)) (eqb r.0 (following P i)) _ (λ q. r.3 (eqb-true r.0 i q)) (λ q. r.4 (eqb-true r.0 (previous P i) q)) (λ q. r.5 (eqb-true r.0 (following P i) q))
        (all-below (spared P i) (length P) (and_right (strictly_left p c s) (all (spared P i) (below (length P))) e) r.0 r.1)))
