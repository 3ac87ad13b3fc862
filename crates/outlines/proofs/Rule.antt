-- The rule, step by step: what it finds, what a step leaves, and that it never gets stuck on a simple outline of κ = 0.
use mathlib.Core.Bool.{Bool, true, false, not, ◌&&◌, true≢false}
use mathlib.Core.List.{List, [], ◌∷◌, ◌++◌, append-nil}
use mathlib.Core.Logic.{◌⊎◌, inl, inr, ⊎_elim}
use mathlib.Core.Option.{Option, none, some}
use mathlib.Core.Path.{◌≡◌, refl, sym, ◌∙◌, ap, ap₂, subst}
use Prim.Native.Nat.{ℕ, zero, suc, ◌≤◌}
use native.Mathlib.Omega.{arith}
use borrow.Author.Tests.{not-true}
use lib.IntN.{ℤ, pos, negsuc, ◌+ℤ◌}
use lib.ListN.{length, length-append}
use lib.Seq.{append_snoc}
use lib.Signed.{le_z}
use Rattle.integers.proofs.Order.{lt_z_true, lt_lt_z, le_le_z, lt_le_z, le_or_lt}
use Rattle.model.specs.Content.{Vertex}
use Rattle.model.specs.Geometry.{cross, strictly_left}
use Rattle.model.specs.Lists as Lists
use Rattle.model.proofs.Lists.{and_left, and_right, and_both, not_both}
use Rattle.outlines.specs.Outline.{Place, place, first_where, is_zero, in_line, holds, is_ear, Triangle, triangle_at, rest, onto, cutting, but_last, last_of, first_or}
use Rattle.outlines.specs.Simple.{Edge, Distinct, IsSimple}
use Rattle.outlines.proofs.Tools.{◌≼◌, ◌≺◌, #, ◌⊞◌, ◌≲◌, ◌≈◌, hyp, ◌⊕◌, ◌⊢◌by◌, order, third_lt, times}
use Rattle.outlines.proofs.Crossing.{sum-cross}
use Rattle.outlines.proofs.Winding.Turning.{κ, Three, not_last}
use Rattle.outlines.proofs.Kept.Reach.{Outside, depth}
use Rattle.outlines.proofs.Kept.EarClipped.{Ear, simple_clip, κ_clip}
use Rattle.outlines.proofs.Kept.FlatDropped.{simple_flat, κ_flat}
use Rattle.outlines.proofs.Ears.Turned.{Mem, edge_mem, Turned, round, succ_one, pred_one, not_mem}
use Rattle.outlines.proofs.Ears.Parts.{Takeable}
use Rattle.outlines.proofs.Ears.Block.{mem_split}
use Rattle.outlines.proofs.Ears.TwoEars.{ears}

-- ---- the first corner that passes
module _ (test : Vertex → List Vertex → Bool) where
  pub hit : (xs : List Vertex) (c : Vertex) (ys : List Vertex) → test c (ys ++ xs) ≡ true → first_where test xs (c ∷ ys) ≡ some (place xs c ys)
  unfolding first_where
  hit xs c ys e = rw (e, first_where)

  pub miss : (xs : List Vertex) (c : Vertex) (ys : List Vertex) → test c (ys ++ xs) ≡ false → first_where test xs (c ∷ ys) ≡ first_where test (xs ++ c ∷ []) ys
  unfolding first_where
  miss xs c ys e = rw (e, first_where)

  pub end : (xs : List Vertex) → first_where test xs [] ≡ none
  unfolding first_where
  end xs = refl

-- Something is not nothing.
pub some-none : {A : Type 0} {X : Type 0} {a : A} → ◌≡◌ {A = Option A} none (some a) → X
some-none e = let z : ◌≡◌ {A = ℕ} 0 1 = cc in absurd (omega arith)

-- f is a corner of P that passes the test, in its place.
pub record Found (test : Vertex → List Vertex → Bool) (P : List Vertex) (f : Place) : Type 0 where
  pub is : P ≡ f.before ++ f.corner ∷ f.after
  pub passes : test f.corner (f.after ++ f.before) ≡ true

-- The corner that is found passes.
pub found : (test : Vertex → List Vertex → Bool) (xs ys : List Vertex) (f : Place) → first_where test xs ys ≡ some f → Found test (xs ++ ys) f
found test xs [] f e = some-none (sym (end test xs) ∙ e)
found test xs (c ∷ ys) f e = go (test c (ys ++ xs)) refl (found test (xs ++ c ∷ []) ys f)
  where
    go : (b : Bool) → test c (ys ++ xs) ≡ b → (first_where test (xs ++ c ∷ []) ys ≡ some f → Found test ((xs ++ c ∷ []) ++ ys) f) → Found test (xs ++ c ∷ ys) f
    go true i ih = let q : ◌≡◌ {A = Option Place} (some (place xs c ys)) (some f) = sym (hit test xs c ys i) ∙ e in
        let j : place xs c ys ≡ f = cc in subst (λ g. Found test (xs ++ c ∷ ys) g) j (record { is = refl; passes = i })
    go false i ih = subst (λ q. Found test q f) (append_snoc xs c ys) (ih (sym (miss test xs c ys i) ∙ e))

-- Where none is found, no corner passes.
pub missed : (test : Vertex → List Vertex → Bool) (xs ds : List Vertex) (c : Vertex) (bs : List Vertex) → first_where test xs (ds ++ c ∷ bs) ≡ none → test c (bs ++ (xs ++ ds)) ≡ false
missed test xs [] c bs e = subst (λ q. test c (bs ++ q) ≡ false) (sym (append-nil xs)) (go (test c (bs ++ xs)) refl)
  where
    go : (b : Bool) → test c (bs ++ xs) ≡ b → test c (bs ++ xs) ≡ false
    go true i = some-none (sym e ∙ hit test xs c bs i)
    go false i = i
missed test xs (a ∷ ds) c bs e = go (test a ((ds ++ c ∷ bs) ++ xs)) refl (missed test (xs ++ a ∷ []) ds c bs)
  where
    go : (b : Bool) → test a ((ds ++ c ∷ bs) ++ xs) ≡ b → (first_where test (xs ++ a ∷ []) (ds ++ c ∷ bs) ≡ none → test c (bs ++ ((xs ++ a ∷ []) ++ ds)) ≡ false) → test c (bs ++ (xs ++ a ∷ ds)) ≡ false
    go true i ih = some-none (sym e ∙ hit test xs a (ds ++ c ∷ bs) i)
    go false i ih = subst (λ q. test c (bs ++ q) ≡ false) (append_snoc xs a ds) (ih (sym (miss test xs a (ds ++ c ∷ bs) i) ∙ e))

-- ---- the tests

-- What passes the test of 0 is 0.
pub zero_is : (z : ℤ) → is_zero z ≡ true → z ≡ pos 0
unfolding is_zero
zero_is (pos zero) e = refl
zero_is (pos (suc n)) e = absurd (true≢false (sym e))
zero_is (negsuc n) e = absurd (true≢false (sym e))

-- 0 passes it.
pub is_zero_lem : (z : ℤ) → z ≡ pos 0 → is_zero z ≡ true
unfolding is_zero
is_zero_lem z e = ap is_zero e

-- A corner that passes is in line with its neighbours.
pub line-is : (c : Vertex) (R : List Vertex) → in_line c R ≡ true → cross (last_of c R) c (first_or c R) ≡ pos 0
unfolding in_line
line-is c [] e = absurd (true≢false (sym e))
line-is c (s ∷ M) e = zero_is (cross (last_of s M) c s) e

-- A corner in line passes.
is_line : (c s : Vertex) (M : List Vertex) → cross (last_of s M) c s ≡ pos 0 → in_line c (s ∷ M) ≡ true
unfolding in_line
is_line c s M e = is_zero_lem (cross (last_of s M) c s) e

-- What passes the test of a left turn is one.
pub left_is : (p c s : Vertex) → strictly_left p c s ≡ true → pos 0 ≺ cross p c s
unfolding strictly_left
left_is p c s e = lt_z_true (pos 0) (cross p c s) e

-- A left turn passes it.
pub is_left : (p c s : Vertex) → pos 0 ≺ cross p c s → strictly_left p c s ≡ true
unfolding strictly_left
is_left p c s d = lt_lt_z (pos 0) (cross p c s) d

-- A corner that passes the test of an ear turns left.
pub ear_left : (c : Vertex) (R : List Vertex) → is_ear c R ≡ true → pos 0 ≺ cross (last_of c R) c (first_or c R)
unfolding is_ear
ear_left c [] e = absurd (true≢false (sym e))
ear_left c (s ∷ []) e = absurd (true≢false (sym e))
ear_left c (s ∷ m ∷ M) e = left_is (last_of m M) c s (and_left (strictly_left (last_of m M) c s) _ e)

-- A test of all, of one.
all-mem : (t : Vertex → Bool) (L : List Vertex) (v : Vertex) → Lists.all t L ≡ true → Mem v L → t v ≡ true
unfolding Lists.all
all-mem t [] v e m = absurd m
all-mem t (a ∷ L) v e (inl i) = ap t i ∙ and_left (t a) (Lists.all t L) e
all-mem t (a ∷ L) v e (inr i) = all-mem t L v (and_right (t a) (Lists.all t L) e) i

-- A test of each is one of all.
mem_all : (t : Vertex → Bool) (L : List Vertex) → ((v : Vertex) → Mem v L → t v ≡ true) → Lists.all t L ≡ true
unfolding Lists.all
mem_all t [] f = refl
mem_all t (a ∷ L) f = and_both (t a) (Lists.all t L) (f a (inl refl)) (mem_all t L (λ v m. f v (inr m)))

-- Its triangle holds none of the other corners.
pub ear_empty : (c s m : Vertex) (M : List Vertex) (v : Vertex) → is_ear c (s ∷ m ∷ M) ≡ true → Mem v (but_last m M) → not (holds (last_of m M) c s v) ≡ true
unfolding is_ear
ear_empty c s m M v e i = all-mem (λ v. not (holds (last_of m M) c s v)) (but_last m M) v (and_right (strictly_left (last_of m M) c s) _ e) i

-- A left turn whose triangle holds none of the others passes.
pub is_ear_lem : (c s m : Vertex) (M : List Vertex) → pos 0 ≺ cross (last_of m M) c s → ((v : Vertex) → Mem v (but_last m M) → not (holds (last_of m M) c s v) ≡ true) → is_ear c (s ∷ m ∷ M) ≡ true
unfolding is_ear
is_ear_lem c s m M d f = and_both (strictly_left (last_of m M) c s) _ (is_left (last_of m M) c s d) (mem_all (λ v. not (holds (last_of m M) c s v)) (but_last m M) f)

-- The third cross is the area less the other two.
third : (P Q R d : ℤ) → P +ℤ Q +ℤ R ≡ d → Q +ℤ P ≼ d → pos 0 ≼ R
third = order 4 (λ P Q R d. (P ⊞ Q ⊞ R ≈ d) ∷ (Q ⊞ P ≲ d) ∷ [] ⊢ # (pos 0) ≲ R by hyp 1 ⊕ times 0 (# (negsuc 0))) tt

-- What the triangle does not hold is outside.
outside_of : (p c s v : Vertex) → not (holds p c s v) ≡ true → Outside p c s v
unfolding holds
outside_of p c s v e = ⊎_elim (λ i. ⊎_elim (λ j. ⊎_elim (λ k. absurd (not_both (and_both _ _ (and_both _ _ (le_le_z (pos 0) (cross p c v) j) (le_le_z (pos 0) (cross c s v) i)) (le_le_z (pos 0) (cross s p v) (third (cross p c v) (cross c s v) (cross s p v) (cross p c s) (sum-cross p c s v) k))) (not-true _ e)))
    (λ k. inr k) (le_or_lt (depth p c s v) (cross p c s))) (λ j. inl (inr j)) (le_or_lt (pos 0) (cross p c v))) (λ i. inl (inl i)) (le_or_lt (pos 0) (cross c s v))

-- One of three tests fails.
and3 : (a b c : Bool) → (a ≡ false) ⊎ ((b ≡ false) ⊎ (c ≡ false)) → not (a && b && c) ≡ true
and3 false b c o = refl
and3 true false c o = refl
and3 true true false o = refl
and3 true true true o = absurd (⊎_elim true≢false (λ i. ⊎_elim true≢false true≢false i) o)

-- What is outside the triangle does not hold.
not_held : (p c s v : Vertex) → Outside p c s v → not (holds p c s v) ≡ true
unfolding holds
not_held p c s v o = and3 (le_z (pos 0) (cross p c v)) (le_z (pos 0) (cross c s v)) (le_z (pos 0) (cross s p v))
    (⊎_elim (λ i. ⊎_elim (λ j. inr (inl (lt_le_z (pos 0) (cross c s v) j))) (λ j. inl (lt_le_z (pos 0) (cross p c v) j)) i)
    (λ i. inr (inr (lt_le_z (pos 0) (cross s p v) (third_lt (cross p c v) (cross c s v) (cross s p v) (cross p c s) (sum-cross p c s v) i)))) o)

-- ---- all but the last
but_mem : (a : Vertex) (M : List Vertex) (v : Vertex) → Mem v (but_last a M) → Mem v (a ∷ M)
but_mem a [] v m = absurd m
but_mem a (b ∷ M) v (inl i) = inl i
but_mem a (b ∷ M) v (inr i) = inr (but_mem b M v i)

-- All but the last are not the last.
but_ne : (a : Vertex) (M : List Vertex) (v : Vertex) → Distinct (a ∷ M) → Mem v (but_last a M) → v ≡ last_of a M → ⊥
but_ne a [] v d m e = m
but_ne a (b ∷ M) v d (inl i) e = not_last a b M d.0 (sym i ∙ e)
but_ne a (b ∷ M) v d (inr i) e = but_ne b M v d.1 i e

-- What is not the last is among the others.
mem_but : (a : Vertex) (M : List Vertex) (v : Vertex) → Mem v (a ∷ M) → (v ≡ last_of a M → ⊥) → Mem v (but_last a M)
mem_but a [] v (inl i) n = absurd (n i)
mem_but a [] v (inr i) n = absurd i
mem_but a (b ∷ M) v (inl i) n = inl i
mem_but a (b ∷ M) v (inr i) n = inr (mem_but b M v i n)

-- ---- what a step leaves

-- With three corners or more, the outline is simple and its κ is 0.
abbrev pub Good : List Vertex → Type 0
Good P = Three P → IsSimple P × (κ P ≡ pos 0)

-- Dropping a first corner in line keeps simple and κ.
keep-flat : (c : Vertex) (R : List Vertex) → Three R → IsSimple (c ∷ R) → κ (c ∷ R) ≡ pos 0 → in_line c R ≡ true → IsSimple R × (κ R ≡ pos 0)
keep-flat c [] t g k e = absurd t
keep-flat c (s ∷ []) t g k e = absurd t
keep-flat c (s ∷ m ∷ []) t g k e = absurd t
keep-flat c (s ∷ m ∷ m' ∷ M) t g k e = let l = line-is c (s ∷ m ∷ m' ∷ M) e in (simple_flat c s m m' M g l, κ_flat c s m m' M g l ∙ k)

-- Cutting off a first corner that is an ear keeps simple and κ.
keep-ear : (c : Vertex) (R : List Vertex) → Three R → IsSimple (c ∷ R) → κ (c ∷ R) ≡ pos 0 → is_ear c R ≡ true → IsSimple R × (κ R ≡ pos 0)
keep-ear c [] t g k e = absurd t
keep-ear c (s ∷ []) t g k e = absurd t
keep-ear c (s ∷ m ∷ []) t g k e = absurd t
keep-ear c (s ∷ m ∷ m' ∷ M) t g k e = (simple_clip c s m m' M g ear, κ_clip c s m m' M g ear ∙ k)
  where
    Q : List Vertex
    Q = c ∷ s ∷ m ∷ m' ∷ M

    p : Vertex
    p = last_of m' M

    late : (x : Vertex) → (x ≡ c → ⊥) → (x ≡ s → ⊥) → Mem x Q → Mem x (m ∷ m' ∷ M)
    late x n2 n3 (inl a) = absurd (n2 a)
    late x n2 n3 (inr (inl a)) = absurd (n3 a)
    late x n2 n3 (inr (inr a)) = a

    ear : Ear p c s Q
    ear = record {
      left = ear_left c (s ∷ m ∷ m' ∷ M) e;
      empty = λ x n1 n2 n3 y i. outside_of p c s x (ear_empty c s m (m' ∷ M) x e (mem_but m (m' ∷ M) x (late x n2 n3 (⊎_elim (λ j. (edge_mem Q x y j).0) (λ j. (edge_mem Q y x j).1) i)) n1));
    }

-- One corner more.
three_tail : (c : Vertex) (R : List Vertex) → Three R → Three (c ∷ R)
three_tail c [] t = absurd t
three_tail c (s ∷ []) t = absurd t
three_tail c (s ∷ m ∷ M) t = tt

-- What a step at the first corner keeps, a step at any corner keeps.
kept : (P : List Vertex) (f : Place) → P ≡ f.before ++ f.corner ∷ f.after → Good P →
    ((R : List Vertex) → Three R → IsSimple (f.corner ∷ R) → κ (f.corner ∷ R) ≡ pos 0 → R ≡ f.after ++ f.before → IsSimple R × (κ R ≡ pos 0)) → Good (f.before ++ f.after)
kept P f e g step t =
    let r = round f.before (f.corner ∷ f.after) in
    let b = round f.after f.before in
    let t_r : Three (f.after ++ f.before) = (round f.before f.after).three t in
    let t_q : Three (f.corner ∷ (f.after ++ f.before)) = three_tail f.corner (f.after ++ f.before) t_r in
    let t_p : Three (f.before ++ f.corner ∷ f.after) = (round (f.corner ∷ f.after) f.before).three t_q in
    let s = g (subst Three (sym e) t_p) in
    let s_p : IsSimple (f.before ++ f.corner ∷ f.after) = subst IsSimple e s.0 in
    let q = step (f.after ++ f.before) t_r (r.sim t_p s_p) (r.kap t_p s_p ∙ ap κ (sym e) ∙ s.1) refl in
    (b.sim t_r q.0, b.kap t_r q.0 ∙ q.1)

-- ---- the rule finds a corner
tests : (c : Vertex) (R : List Vertex) (p s : Vertex) → Three (c ∷ R) → IsSimple (c ∷ R) → Takeable (c ∷ R) p c s → (in_line c R ≡ true) ⊎ (is_ear c R ≡ true)
tests c [] p s t g e = absurd t
tests c (s' ∷ []) p s t g e = absurd t
tests c (s' ∷ m ∷ M) p s t g e = ⊎_elim (λ i. inl (is_line c s' (m ∷ M) (ap₂ (λ a b. cross a c b) ip is ∙ i)))
    (λ i. inr (is_ear_lem c s' m M (subst (λ q. pos 0 ≺ q) (sym (ap₂ (λ a b. cross a c b) ip is)) i.0)
    (λ v j. not_held (last_of m M) c s' v (subst (λ q. Outside (last_of m M) c q v) (sym is) (subst (λ q. Outside q c s v) (sym ip)
    (i.1 v (inr (inr (but_mem m M v j))) (λ k. but_ne m M v g.dist.1.1 j (k ∙ sym ip)) (λ k. not_mem c (s' ∷ m ∷ M) v g.dist.0 (inr (but_mem m M v j)) (sym k)) (λ k. not_mem s' (m ∷ M) v g.dist.1.0 (but_mem m M v j) (is ∙ sym k))))))))
    e.turn
  where
    Q : List Vertex
    Q = c ∷ s' ∷ m ∷ M

    ip : last_of m M ≡ p
    ip = pred_one Q p (last_of m M) c t g e.into (inr (refl, refl))

    is : s' ≡ s
    is = succ_one Q c s s' t g e.onto (inl (inl (refl, refl)))

-- An outline has an edge.
some-edge : (P : List Vertex) → Three P → (a : Vertex) × (b : Vertex) × Edge P a b
some-edge [] t = absurd t
some-edge (a ∷ []) t = absurd t
some-edge (a ∷ b ∷ P) t = (a, b, inl (inl (refl, refl)))

-- A simple outline of κ = 0 has a corner that the rule can take.
never_stuck : (P : List Vertex) → Three P → IsSimple P → κ P ≡ pos 0 → first_where in_line [] P ≡ none → first_where is_ear [] P ≡ none → ⊥
never_stuck P t g k e1 e2 = let a = some-edge P t in let q = ears P t g k a.0 a.1 a.2 in let m = mem_split q.c P (edge_mem P q.p q.c q.ear.into).1 in
    at q.p q.c q.s q.ear m.0 m.1 m.2
  where
    at : (p c s : Vertex) → Takeable P p c s → (ds bs : List Vertex) → P ≡ ds ++ c ∷ bs → ⊥
    at p c s e ds bs i = let r : Turned P (c ∷ (bs ++ ds)) = subst (λ q. Turned q (c ∷ (bs ++ ds))) (sym i) (round ds (c ∷ bs)) in
        ⊎_elim (λ j. true≢false (sym j ∙ missed in_line [] ds c bs (ap (λ q. first_where in_line [] q) (sym i) ∙ e1))) (λ j. true≢false (sym j ∙ missed is_ear [] ds c bs (ap (λ q. first_where is_ear [] q) (sym i) ∙ e2)))
        (tests c (bs ++ ds) p s (r.three t) (r.sim t g) (record { into = r.to p c e.into; onto = r.to c s e.onto; turn = ⊎_elim (λ j. inl j) (λ j. inr (j.0, (λ x m. j.1 x (r.mem' x m)))) e.turn }))

-- ---- the steps of the cutting

-- A step that drops a corner in line.
pub cut-flat : (n : ℕ) (P : List Vertex) (f : Place) → first_where in_line [] P ≡ some f → cutting (suc n) P ≡ cutting n (rest f)
unfolding cutting
cut-flat n P f e = rw (e, cutting)

-- A step that cuts off an ear.
pub cut-ear : (n : ℕ) (P : List Vertex) (f : Place) → first_where in_line [] P ≡ none → first_where is_ear [] P ≡ some f → cutting (suc n) P ≡ onto (triangle_at f) (cutting n (rest f))
unfolding cutting
cut-ear n P f e i = rw (e, i, cutting)

-- A step that cannot be made.
pub cut-none : (n : ℕ) (P : List Vertex) → first_where in_line [] P ≡ none → first_where is_ear [] P ≡ none → cutting (suc n) P ≡ none
unfolding cutting
cut-none n P e i = rw (e, i, cutting)

-- No step.
pub cut-zero : (P : List Vertex) → cutting zero P ≡ some []
unfolding cutting
cut-zero P = refl

-- n steps are made, and give at most n triangles.
pub record Done (n : ℕ) (P : List Vertex) : Type 0 where
  pub ts : List Triangle
  pub is : cutting n P ≡ some ts
  pub few : length ts ≤ n

-- One triangle more.
pub onto-some : (t : Triangle) (ts : List Triangle) → onto t (some ts) ≡ some (t ∷ ts)
unfolding onto
onto-some t ts = refl

-- A list of three or more.
pub three_of : (n : ℕ) (P : List Vertex) → length P ≡ suc (suc (suc n)) → Three P
three_of n [] e = absurd (omega arith)
three_of n (a ∷ []) e = absurd (omega arith)
three_of n (a ∷ b ∷ []) e = absurd (omega arith)
three_of n (a ∷ b ∷ c ∷ P) e = tt

-- The rest has one corner fewer.
pub rest-size : (n : ℕ) (P : List Vertex) (f : Place) → P ≡ f.before ++ f.corner ∷ f.after → length P ≡ suc n → length (rest f) ≡ n
unfolding rest
rest-size n P f e l = omega (arith, ap length e, length-append f.before (f.corner ∷ f.after), length-append f.before f.after)

-- What a step leaves is good.
good_rest : (test : Vertex → List Vertex → Bool) (P : List Vertex) (f : Place) → first_where test [] P ≡ some f → Good P →
    ((c : Vertex) (R : List Vertex) → Three R → IsSimple (c ∷ R) → κ (c ∷ R) ≡ pos 0 → test c R ≡ true → IsSimple R × (κ R ≡ pos 0)) → Good (rest f)
unfolding rest
good_rest test P f e g step = let r = found test [] P f e in kept P f r.is g (λ R t s k i. step f.corner R t s k (subst (λ q. test f.corner q ≡ true) (sym i) r.passes))

-- All steps can be made.
pub cut_all : (n : ℕ) (P : List Vertex) → length P ≡ suc (suc n) → Good P → Done n P
cut_all zero P l g = record { ts = []; is = cut-zero P; few = omega arith }
cut_all (suc n) P l g = go (first_where in_line [] P) refl (first_where is_ear [] P) refl (λ f. cut_all n (rest f))
  where
    t : Three P
    t = three_of n P l

    go : (o : Option Place) → first_where in_line [] P ≡ o → (q : Option Place) → first_where is_ear [] P ≡ q → ((f : Place) → length (rest f) ≡ suc (suc n) → Good (rest f) → Done n (rest f)) → Done (suc n) P
    go (some f) e q i ih = let d = ih f (rest-size (suc (suc n)) P f (found in_line [] P f e).is l) (good_rest in_line P f e g keep-flat) in
        record { ts = d.ts; is = cut-flat n P f e ∙ d.is; few = omega (arith, d.few) }
    go none e (some f) i ih = let d = ih f (rest-size (suc (suc n)) P f (found is_ear [] P f i).is l) (good_rest is_ear P f i g keep-ear) in
        record { ts = triangle_at f ∷ d.ts; is = cut-ear n P f e i ∙ ap (λ o. onto (triangle_at f) o) d.is ∙ onto-some (triangle_at f) d.ts; few = omega (arith, d.few) }
    go none e none i ih = absurd (never_stuck P t (g t).0 (g t).1 e i)
