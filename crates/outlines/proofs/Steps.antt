-- What the rule cuts is a cutting, and the areas of a cutting are positive.
use mathlib.Core.Bool.{true}
use mathlib.Core.List.{List, [], ◌∷◌, ◌++◌}
use mathlib.Core.Option.{Option, none, some}
use mathlib.Core.Path.{◌≡◌, refl, sym, ◌∙◌, ap, ap₂, subst}
use Prim.Native.Nat.{ℕ, zero, suc, ◌≤◌}
use native.Mathlib.Omega.{arith}
use lib.IntN.{ℤ, pos, ◌+ℤ◌}
use lib.ListN.{length}
use lib.Signed.{lt_z, ≤ℤ_refl}
use Rattle.integers.proofs.Order.{lt_lt_z}
use Rattle.model.specs.Content.{Vertex}
use Rattle.model.specs.Geometry.{cross}
use Rattle.model.specs.Lists.{all}
use Rattle.model.proofs.Lists.{and_both}
use Rattle.outlines.specs.Outline.{Place, first_where, in_line, is_ear, Triangle, triangle, triangle_at, rest, onto, cutting, triangle_area, area_sum, last_of, first_or}
use Rattle.outlines.proofs.Tools.{◌≼◌, ◌≺◌, #, ◌⊞◌, ◌≲◌, ◌⋖◌, hyp, num, ◌⊕◌, ◌⊢◌by◌, order}
use Rattle.outlines.proofs.Crossing.{cross-rot}
use Rattle.outlines.proofs.EdgeSums.{before, after, More}
use Rattle.outlines.proofs.Cutting.{Cuts, done, flat, cut}
use Rattle.outlines.proofs.Rule.{found, line-is, ear_left, cut-flat, cut-ear, cut-none, cut-zero, rest-size, some-none}

-- The last of two lists.
last_app : (c : Vertex) (ys xs : List Vertex) → last_of c (ys ++ xs) ≡ last_of (last_of c ys) xs
last_app c [] xs = refl
last_app c (y ∷ ys) xs = last_app y ys xs

-- The first of two lists.
head_app : (c : Vertex) (ys xs : List Vertex) → first_or c (ys ++ xs) ≡ first_or (first_or c xs) ys
head_app c [] xs = refl
head_app c (y ∷ ys) xs = refl

-- There is a corner besides.
more_of : (xs : List Vertex) (c : Vertex) (ys : List Vertex) → 2 ≤ length (xs ++ c ∷ ys) → More xs ys
more_of [] c [] l = absurd (omega arith)
more_of [] c (y ∷ ys) l = tt
more_of (x ∷ xs) c ys l = tt

-- Two corners remain.
two_of : (P : List Vertex) (ts : List Triangle) → length P ≡ 2 → cutting zero P ≡ some ts → Cuts P ts
two_of [] ts l e = absurd (omega arith)
two_of (a ∷ []) ts l e = absurd (omega arith)
two_of (a ∷ b ∷ []) ts l e = let q : ◌≡◌ {A = Option (List Triangle)} (some []) (some ts) = sym (cut-zero (a ∷ b ∷ [])) ∙ e in let j : ◌≡◌ {A = List Triangle} [] ts = cc in subst (λ us. Cuts (a ∷ b ∷ []) us) j (done a b)
two_of (a ∷ b ∷ c ∷ P) ts l e = absurd (omega arith)

-- The triangle by the neighbours.
triangle-is : (f : Place) → triangle_at f ≡ triangle f.corner (after f.before f.corner f.after) (before f.before f.corner f.after)
unfolding triangle_at
triangle-is f = ap₂ (λ s p. triangle f.corner s p) (head_app f.corner f.after f.before) (last_app f.corner f.after f.before)

-- A triangle and those of the rest.
onto-is : (t : Triangle) (o : Option (List Triangle)) (ts : List Triangle) → onto t o ≡ some ts → (us : List Triangle) × (o ≡ some us) × (t ∷ us ≡ ts)
unfolding onto
onto-is t none ts e = some-none e
onto-is t (some us) ts e = (us, refl, inj)
  where
    inj : t ∷ us ≡ ts
    inj = cc

-- What the rule cuts is a cutting.
pub cuts : (n : ℕ) (P : List Vertex) (ts : List Triangle) → length P ≡ suc (suc n) → cutting n P ≡ some ts → Cuts P ts
unfolding rest
cuts zero P ts l e = two_of P ts l e
cuts (suc n) P ts l e = go (first_where in_line [] P) refl (first_where is_ear [] P) refl (λ f us. cuts n (rest f) us)
  where
    turn : (c : Vertex) (xs ys : List Vertex) → cross (before xs c ys) c (after xs c ys) ≡ cross (last_of c (ys ++ xs)) c (first_or c (ys ++ xs))
    turn c xs ys = sym (ap₂ (λ p s. cross p c s) (last_app c ys xs) (head_app c ys xs))

    go : (o : Option Place) → first_where in_line [] P ≡ o → (q : Option Place) → first_where is_ear [] P ≡ q → ((f : Place) (us : List Triangle) → length (rest f) ≡ suc (suc n) → cutting n (rest f) ≡ some us → Cuts (rest f) us) → Cuts P ts
    go (some f) i q j ih = let r = found in_line [] P f i in
        subst (λ Q. Cuts Q ts) (sym r.is) (flat f.before f.corner f.after (more_of f.before f.corner f.after (omega (arith, ap length r.is)))
        (turn f.corner f.before f.after ∙ line-is f.corner (f.after ++ f.before) r.passes) (ih f ts (rest-size (suc (suc n)) P f r.is l) (sym (cut-flat n P f i) ∙ e)))
    go none i (some f) j ih = let r = found is_ear [] P f j in let u = onto-is (triangle_at f) (cutting n (rest f)) ts (sym (cut-ear n P f i j) ∙ e) in
        subst (λ Q. Cuts Q ts) (sym r.is) (subst (λ us. Cuts (f.before ++ f.corner ∷ f.after) us) (ap (λ t. t ∷ u.0) (sym (triangle-is f)) ∙ u.2)
        (cut f.before f.corner f.after (more_of f.before f.corner f.after (omega (arith, ap length r.is)))
        (subst (λ t. pos 0 ≺ t) (sym (turn f.corner f.before f.after)) (ear_left f.corner (f.after ++ f.before) r.passes)) (ih f u.0 (rest-size (suc (suc n)) P f r.is l) u.1)))
    go none i none j ih = some-none (sym (cut-none n P i j) ∙ e)

-- The areas of a cutting do not sum to less than 0.
pub areas_nonneg : {P : List Vertex} {ts : List Triangle} → Cuts P ts → pos 0 ≼ area_sum ts
unfolding area_sum triangle_area
areas_nonneg (done a b) = ≤ℤ_refl (pos 0)
areas_nonneg (flat xs c ys m h r) = areas_nonneg r
areas_nonneg (cut xs c ys {ts = us} m h r) = add (cross c (after xs c ys) (before xs c ys)) (area_sum us) (subst (λ t. pos 0 ≺ t) (cross-rot (before xs c ys) c (after xs c ys)) h) (areas_nonneg r)
  where
    add : (a b : ℤ) → pos 0 ≺ a → pos 0 ≼ b → pos 0 ≼ a +ℤ b
    add = order 2 (λ a b. (# (pos 0) ⋖ a) ∷ (# (pos 0) ≲ b) ∷ [] ⊢ # (pos 0) ≲ a ⊞ b by hyp 0 ⊕ hyp 1 ⊕ num 1) tt

-- Every triangle of a cutting goes round anticlockwise.
pub areas_positive : {P : List Vertex} {ts : List Triangle} → Cuts P ts → all (λ t. lt_z (pos 0) (triangle_area t)) ts ≡ true
unfolding all triangle_area
areas_positive (done a b) = refl
areas_positive (flat xs c ys m h r) = areas_positive r
areas_positive (cut xs c ys {ts = us} m h r) =
    and_both (lt_z (pos 0) (cross c (after xs c ys) (before xs c ys))) (all (λ t. lt_z (pos 0) (cross t.corner t.successor t.predecessor)) us)
    (lt_lt_z (pos 0) (cross c (after xs c ys) (before xs c ys)) (subst (λ t. pos 0 ≺ t) (cross-rot (before xs c ys) c (after xs c ys)) h)) (areas_positive r)
