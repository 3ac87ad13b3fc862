-- An outline turned so that it begins at another corner has the same corners, edges, sums and κ; and every corner has one before it and one after it.
use mathlib.Core.List.{List, [], ◌∷◌, ◌++◌, append_assoc, append-nil}
use mathlib.Core.Logic.{◌⊎◌, inl, inr, ⊎_elim}
use mathlib.Core.Path.{◌≡◌, refl, sym, ◌∙◌, ap, ap₂, subst}
use native.Mathlib.Omega.{arith}
use lib.IntN.{ℤ, pos}
use lib.ListN.{length, length-append}
use Rattle.model.specs.Content.{Vertex}
use Rattle.outlines.specs.Outline.{last_of, edge_sum}
use Rattle.outlines.specs.Simple.{PathEdge, Edge, Distinct, IsSimple, NotIn}
use Rattle.outlines.proofs.Tools.{minus_zero}
use Rattle.outlines.proofs.Crossing.{crossed}
use Rattle.outlines.proofs.EdgeSums.{last_of-append}
use Rattle.outlines.proofs.Winding.Cone.{cone}
use Rattle.outlines.proofs.Winding.CornerRule.{winding}
use Rattle.outlines.proofs.Winding.Turning.{κ, Three, not_on_path, edge_turned, turn1, edge_sum-turned, path_into, not_last}

-- a is in the list. (By recursion on the list, so that it goes along with `NotIn` and `Edge`.)
abbrev pub Mem : Vertex → List Vertex → Type 0
Mem a [] = ⊥
Mem a (b ∷ bs) = (a ≡ b) ⊎ Mem a bs

-- An element differs from what is not in the list.
pub not_mem : (a : Vertex) (R : List Vertex) (x : Vertex) → NotIn a R → Mem x R → a ≡ x → ⊥
not_mem a [] x n m e = m
not_mem a (r ∷ R) x n (inl i) e = n.0 (e ∙ i)
not_mem a (r ∷ R) x n (inr i) e = not_mem a R x n.1 i e

-- What differs from all elements is not in the list.
pub mem_not : (a : Vertex) (R : List Vertex) → ((x : Vertex) → Mem x R → a ≡ x → ⊥) → NotIn a R
mem_not a [] f = tt
mem_not a (r ∷ R) f = (f r (inl refl), mem_not a R (λ x m. f x (inr m)))

-- An element of the first of two lists.
pub mem_l : (u : Vertex) (xs ys : List Vertex) → Mem u xs → Mem u (xs ++ ys)
mem_l u [] ys m = absurd m
mem_l u (x ∷ xs) ys (inl e) = inl e
mem_l u (x ∷ xs) ys (inr m) = inr (mem_l u xs ys m)

-- An element of the second of two lists.
pub mem_r : (u : Vertex) (xs ys : List Vertex) → Mem u ys → Mem u (xs ++ ys)
mem_r u [] ys m = m
mem_r u (x ∷ xs) ys m = inr (mem_r u xs ys m)

-- An element of two lists is in one of them.
pub mem_or : (u : Vertex) (xs ys : List Vertex) → Mem u (xs ++ ys) → Mem u xs ⊎ Mem u ys
mem_or u [] ys m = inr m
mem_or u (x ∷ xs) ys (inl e) = inl (inl e)
mem_or u (x ∷ xs) ys (inr m) = ⊎_elim (λ i. inl (inr i)) (λ i. inr i) (mem_or u xs ys m)

-- The last is in the list.
pub mem_last : (a : Vertex) (zs : List Vertex) → Mem (last_of a zs) (a ∷ zs)
mem_last a [] = inl refl
mem_last a (b ∷ zs) = inr (mem_last b zs)

-- The ends of an edge of a path are on it.
pub path_mem : (a : Vertex) (zs : List Vertex) (u t : Vertex) → PathEdge a zs u t → Mem u (a ∷ zs) × Mem t (a ∷ zs)
path_mem a [] u t o = absurd o
path_mem a (b ∷ zs) u t (inl i) = (inl i.0, inr (inl i.1))
path_mem a (b ∷ zs) u t (inr i) = (inr (path_mem b zs u t i).0, inr (path_mem b zs u t i).1)

-- The ends of an edge of an outline are corners of it.
pub edge_mem : (P : List Vertex) (u t : Vertex) → Edge P u t → Mem u P × Mem t P
edge_mem [] u t e = absurd e
edge_mem (a ∷ zs) u t (inl o) = path_mem a zs u t o
edge_mem (a ∷ zs) u t (inr i) = (subst (λ z. Mem z (a ∷ zs)) (sym i.0) (mem_last a zs), inl i.1)

-- An element is the last, or has one after it.
pub mem_next : (a : Vertex) (zs : List Vertex) (x : Vertex) → Mem x (a ∷ zs) → (x ≡ last_of a zs) ⊎ ((y : Vertex) × PathEdge a zs x y)
mem_next a [] x (inl i) = inl i
mem_next a [] x (inr i) = absurd i
mem_next a (b ∷ zs) x (inl i) = inr (b, inl (i, refl))
mem_next a (b ∷ zs) x (inr i) = ⊎_elim (λ j. inl j) (λ j. inr (j.0, inr j.1)) (mem_next b zs x i)

-- Every corner has one after it.
pub next : (P : List Vertex) (x : Vertex) → Mem x P → (y : Vertex) × Edge P x y
next [] x m = absurd m
next (a ∷ zs) x m = ⊎_elim (λ j. (a, inr (j, refl))) (λ j. (j.0, inl j.1)) (mem_next a zs x m)

-- An element is the first, or has one before it.
mem_prev : (a : Vertex) (zs : List Vertex) (x : Vertex) → Mem x (a ∷ zs) → (x ≡ a) ⊎ ((y : Vertex) × PathEdge a zs y x)
mem_prev a [] x (inl i) = inl i
mem_prev a [] x (inr i) = absurd i
mem_prev a (b ∷ zs) x (inl i) = inl i
mem_prev a (b ∷ zs) x (inr i) = inr (⊎_elim (λ j. (a, inl (refl, j))) (λ j. (j.0, inr j.1)) (mem_prev b zs x i))

-- Every corner has one before it.
pub prev : (P : List Vertex) (x : Vertex) → Mem x P → (y : Vertex) × Edge P y x
prev [] x m = absurd m
prev (a ∷ zs) x m = ⊎_elim (λ j. (last_of a zs, inr (refl, j))) (λ j. (j.0, inl j.1)) (mem_prev a zs x m)

-- ---- turned

-- Q is P turned: they have the same edges and corners, sums and number of corners, and where P is simple so is Q, with the same κ.
pub record Turned (P Q : List Vertex) : Type 0 where
  pub to : (u t : Vertex) → Edge P u t → Edge Q u t
  pub back : (u t : Vertex) → Edge Q u t → Edge P u t
  pub mem : (u : Vertex) → Mem u P → Mem u Q
  pub mem' : (u : Vertex) → Mem u Q → Mem u P
  pub sum : (F : Vertex → Vertex → ℤ) → edge_sum F Q ≡ edge_sum F P
  pub size : length Q ≡ length P
  pub three : Three P → Three Q
  pub sim : Three P → IsSimple P → IsSimple Q
  pub kap : Three P → IsSimple P → κ Q ≡ κ P

-- An outline that is not turned.
pub same : (P : List Vertex) → Turned P P
same P = record { to = λ u t e. e; back = λ u t e. e; mem = λ u m. m; mem' = λ u m. m; sum = λ F. refl; size = refl; three = λ t. t; sim = λ t s. s; kap = λ t s. refl }

-- An outline that is turned twice.
pub then : {P Q R : List Vertex} → Turned P Q → Turned Q R → Turned P R
then f g = record {
  to = λ u t e. g.to u t (f.to u t e);
  back = λ u t e. f.back u t (g.back u t e);
  mem = λ u m. g.mem u (f.mem u m);
  mem' = λ u m. f.mem' u (g.mem' u m);
  sum = λ F. g.sum F ∙ f.sum F;
  size = g.size ∙ f.size;
  three = λ t. g.three (f.three t);
  sim = λ t s. g.sim (f.three t) (f.sim t s);
  kap = λ t s. g.kap (f.three t) (f.sim t s) ∙ f.kap t s;
}

-- An edge of the first part of a path.
pub path_l : (a : Vertex) (zs ys : List Vertex) (u t : Vertex) → PathEdge a zs u t → PathEdge a (zs ++ ys) u t
path_l a [] ys u t o = absurd o
path_l a (b ∷ zs) ys u t (inl i) = inl i
path_l a (b ∷ zs) ys u t (inr o) = inr (path_l b zs ys u t o)

-- The edge between two parts of a path.
pub path_end : (a : Vertex) (zs : List Vertex) (x : Vertex) (ys : List Vertex) (u t : Vertex) → u ≡ last_of a zs → t ≡ x → PathEdge a (zs ++ x ∷ ys) u t
path_end a [] x ys u t i j = inl (i, j)
path_end a (b ∷ zs) x ys u t i j = inr (path_end b zs x ys u t i j)

-- An outline turned by one corner.
one : (x : Vertex) (R : List Vertex) → Turned (x ∷ R) (R ++ x ∷ [])
one x [] = same (x ∷ [])
one x (y ∷ ys) = record {
  to = to;
  back = λ u t e. edge_turned x y ys u t e;
  mem = mem;
  mem' = mem';
  sum = λ F. edge_sum-turned F x y ys;
  size = omega (arith, length-append ys (x ∷ []));
  three = three ys;
  sim = λ t s. (turn1 x (y ∷ ys) t s).0;
  kap = λ t s. (turn1 x (y ∷ ys) t s).1;
}
  where
    to : (u t : Vertex) → Edge (x ∷ y ∷ ys) u t → Edge (y ∷ (ys ++ x ∷ [])) u t
    to u t (inl (inl i)) = inr (i.0 ∙ sym (last_of-append y ys x []), i.1)
    to u t (inl (inr o)) = inl (path_l y ys (x ∷ []) u t o)
    to u t (inr i) = inl (path_end y ys x [] u t i.0 i.1)

    mem : (u : Vertex) → Mem u (x ∷ y ∷ ys) → Mem u (y ∷ (ys ++ x ∷ []))
    mem u (inl i) = mem_r u (y ∷ ys) (x ∷ []) (inl i)
    mem u (inr i) = mem_l u (y ∷ ys) (x ∷ []) i

    mem' : (u : Vertex) → Mem u (y ∷ (ys ++ x ∷ [])) → Mem u (x ∷ y ∷ ys)
    mem' u m = ⊎_elim (λ i. inr i) (λ i. ⊎_elim (λ j. inl j) (λ j. absurd j) i) (mem_or u (y ∷ ys) (x ∷ []) m)

    three : (ys : List Vertex) → Three (x ∷ y ∷ ys) → Three (y ∷ (ys ++ x ∷ []))
    three [] t = absurd t
    three (a ∷ []) t = tt
    three (a ∷ b ∷ zs) t = tt

-- An outline turned by any number of corners.
pub round : (xs R : List Vertex) → Turned (xs ++ R) (R ++ xs)
round [] R = subst (λ q. Turned R q) (sym (append-nil R)) (same R)
round (x ∷ xs) R =
    then (one x (xs ++ R)) (subst (λ q. Turned q (R ++ x ∷ xs)) (sym (append_assoc xs R (x ∷ []))) (subst (λ q. Turned (xs ++ (R ++ x ∷ [])) q) (append_assoc R (x ∷ []) xs) (round xs (R ++ x ∷ []))))

-- ---- an edge brought to the front

-- A path, split at an edge of it.
pub path_split : (a : Vertex) (zs : List Vertex) (u t : Vertex) → PathEdge a zs u t → (xs : List Vertex) × (ys : List Vertex) × (a ∷ zs ≡ xs ++ u ∷ t ∷ ys)
path_split a [] u t o = absurd o
path_split a (b ∷ zs) u t (inl i) = ([], zs, ap₂ (λ p q. p ∷ q ∷ zs) (sym i.0) (sym i.1))
path_split a (b ∷ zs) u t (inr o) = let r = path_split b zs u t o in (a ∷ r.0, r.1, ap (λ q. a ∷ q) r.2)

-- A list, split at its last.
pub last_split : (a : Vertex) (zs : List Vertex) → (C : List Vertex) × (a ∷ zs ≡ C ++ last_of a zs ∷ [])
last_split a [] = ([], refl)
last_split a (b ∷ zs) = let r = last_split b zs in (a ∷ r.0, ap (λ q. a ∷ q) r.1)

-- An outline turned so that an edge of it comes first.
pub front : (P : List Vertex) (u t : Vertex) → Three P → Edge P u t → (M : List Vertex) × Turned P (u ∷ t ∷ M)
front [] u t h e = absurd h
front (a ∷ zs) u t h (inl o) = let r = path_split a zs u t o in (r.1 ++ r.0, subst (λ q. Turned q (u ∷ t ∷ (r.1 ++ r.0))) (sym r.2) (round r.0 (u ∷ t ∷ r.1)))
front (a ∷ []) u t h (inr i) = absurd h
front (a ∷ b ∷ zs) u t h (inr i) = let r = last_split b zs in
    (r.0, subst (λ q. Turned (a ∷ b ∷ zs) (q ∷ t ∷ r.0)) (sym i.0) (subst (λ q. Turned (a ∷ b ∷ zs) (last_of b zs ∷ q ∷ r.0)) (sym i.1) (subst (λ q. Turned (a ∷ q) (last_of b zs ∷ a ∷ r.0)) (sym r.1) (round (a ∷ r.0) (last_of b zs ∷ [])))))

-- ---- one before and one after

-- The ends of an edge differ.
pub edge_ne : (P : List Vertex) (u t : Vertex) → Three P → IsSimple P → Edge P u t → u ≡ t → ⊥
edge_ne P u t h g e i = let r = front P u t h e in (r.1.sim h g).dist.0.0 i

-- There is one corner after a corner.
pub succ_one : (P : List Vertex) (x s t : Vertex) → Three P → IsSimple P → Edge P x s → Edge P x t → t ≡ s
succ_one P x s t h g e f = let r = front P x s h e in at r.0 (r.1.sim h g).dist (r.1.to x t f)
  where
    at : (M : List Vertex) → Distinct (x ∷ s ∷ M) → Edge (x ∷ s ∷ M) x t → t ≡ s
    at M d (inl (inl i)) = i.1
    at M d (inl (inr o)) = absurd ((not_on_path x s M x t d.0 o).0 refl)
    at M d (inr i) = absurd (not_last x s M d.0 i.0)

-- There is one corner before a corner.
pub pred_one : (P : List Vertex) (p q x : Vertex) → Three P → IsSimple P → Edge P p x → Edge P q x → q ≡ p
pred_one P p q x h g e f = let r = front P p x h e in at r.0 (r.1.sim h g).dist (r.1.to q x f)
  where
    at : (M : List Vertex) → Distinct (p ∷ x ∷ M) → Edge (p ∷ x ∷ M) q x → q ≡ p
    at M d (inl (inl i)) = i.0
    at M d (inl (inr o)) = absurd (path_into x x M q x d.1.0 o refl)
    at M d (inr i) = absurd (d.0.0 (sym i.1))

-- With κ = 0 the winding number of a corner is its cone.
pub winding_at : (P : List Vertex) (p x s : Vertex) → Three P → IsSimple P → κ P ≡ pos 0 → Edge P p x → Edge P x s → winding P x ≡ cone p x s
winding_at P p x s h g k e f = let r = front P x s h f in
    let l : last_of s r.0 ≡ p = pred_one P p (last_of s r.0) x h g e (r.1.back (last_of s r.0) x (inr (refl, refl))) in
    sym (r.1.sum (λ a b. crossed a b x)) ∙ minus_zero (winding (x ∷ s ∷ r.0) x) (cone (last_of s r.0) x s) (r.1.kap h g ∙ k) ∙ ap (λ q. cone q x s) l
