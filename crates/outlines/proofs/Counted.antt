-- The crossings and the triangles around a point, as the definitions count them, are those that the proofs count: `crossed` and `inside` of Crossing.
use mathlib.Core.Bool.{Bool, true, false, not, cond, ◌&&◌, true≢false}
use mathlib.Core.List.{List, [], ◌∷◌}
use mathlib.Core.Logic.{⊎_elim}
use mathlib.Core.Path.{◌≡◌, refl, sym, ◌∙◌, ap, ap₂}
use Prim.Native.Nat.{zero, suc}
use borrow.Author.Tests.{not-true}
use lib.IntN.{ℤ, pos, negsuc, neg_ℤ, ◌+ℤ◌, ◌*ℤ◌}
use lib.Signed.{le_z, lt_z}
use Rattle.integers.proofs.Order as Order
use Rattle.integers.proofs.Order.{le_or_lt}
use Rattle.model.specs.Content.{Vertex}
use Rattle.model.specs.Geometry.{cross, strictly_left}
use Rattle.model.specs.Lists.{all, count_of}
use Rattle.model.proofs.Lists.{and_left, and_right}
use Rattle.outlines.specs.Outline.{edge_sum, path_sum, is_zero, Triangle, times, crossing, crossings, is_around, on_line, off_lines, last_of}
use Rattle.outlines.proofs.Crossing.{crossed, cross-anti, edge_crossing, one_positive, minus_negative, inside, NotZero, suc_positive}
use Rattle.outlines.proofs.Cutting.{around, OffLines}
use Rattle.outlines.proofs.Rule.{is_zero_lem}

-- At most is not more.
le_not : (a b : ℤ) → le_z a b ≡ not (lt_z b a)
le_not a b = ⊎_elim (λ i. Order.le_le_z a b i ∙ ap not (sym (Order.le_lt_z b a i))) (λ i. Order.lt_le_z a b i ∙ ap not (sym (Order.lt_lt_z b a i))) (le_or_lt a b)

-- A rising edge.
up_is : (t : ℤ) → cond (lt_z (pos 0) t) (pos 1) (pos 0) ≡ one_positive t
up_is (pos zero) = refl
up_is (pos (suc n)) = ap (λ b. cond b (pos 1) (pos 0)) (Order.lt_lt_z (pos 0) (pos (suc n)) suc_positive)
up_is (negsuc n) = refl

-- A falling edge.
down_is : (t : ℤ) → cond (lt_z (pos 0) (neg_ℤ t)) (negsuc 0) (pos 0) ≡ minus_negative t
down_is (pos zero) = refl
down_is (pos (suc n)) = refl
down_is (negsuc n) = ap (λ b. cond b (negsuc 0) (pos 0)) (Order.lt_lt_z (pos 0) (pos (suc n)) suc_positive)

-- The two tests of `crossing` are the cases of `edge_crossing`.
both : (u w : Bool) (t : ℤ) → cond (not u && w && lt_z (pos 0) t) (pos 1) (cond (not w && u && lt_z (pos 0) (neg_ℤ t)) (negsuc 0) (pos 0)) ≡ edge_crossing u w t
both false false t = refl
both false true t = up_is t
both true false t = down_is t
both true true t = refl

-- One crossing.
crossing_is : (q a b : Vertex) → crossing q a b ≡ crossed a b q
unfolding crossing crossed strictly_left
crossing_is q a b =
    ap₂ (λ l m. cond (l && lt_z q.y b.y && lt_z (pos 0) (cross a b q)) (pos 1) (cond (m && lt_z q.y a.y && lt_z (pos 0) (cross b a q)) (negsuc 0) (pos 0))) (le_not a.y q.y) (le_not b.y q.y)
    ∙ ap (λ t. cond (not (lt_z q.y a.y) && lt_z q.y b.y && lt_z (pos 0) (cross a b q)) (pos 1) (cond (not (lt_z q.y b.y) && lt_z q.y a.y && lt_z (pos 0) t) (negsuc 0) (pos 0))) (cross-anti a b q)
    ∙ both (lt_z q.y a.y) (lt_z q.y b.y) (cross a b q)

-- Sums of functions that agree.
path_same : (F G : Vertex → Vertex → ℤ) → ((a b : Vertex) → F a b ≡ G a b) → (a : Vertex) (bs : List Vertex) → path_sum F a bs ≡ path_sum G a bs
path_same F G h a [] = refl
path_same F G h a (b ∷ bs) = ap₂ ◌+ℤ◌ (h a b) (path_same F G h b bs)

-- The same of an outline.
edge_same : (F G : Vertex → Vertex → ℤ) → ((a b : Vertex) → F a b ≡ G a b) → (P : List Vertex) → edge_sum F P ≡ edge_sum G P
edge_same F G h [] = refl
edge_same F G h (a ∷ bs) = ap₂ ◌+ℤ◌ (path_same F G h a bs) (h (last_of a bs) a)

-- The crossings of an outline.
pub crossings-are : (d : ℤ) (q : Vertex) (P : List Vertex) → crossings d q P ≡ edge_sum (λ a b. crossed (times d a) (times d b) q) P
unfolding crossings
crossings-are d q P = edge_same (λ a b. crossing q (times d a) (times d b)) (λ a b. crossed (times d a) (times d b) q) (λ a b. crossing_is q (times d a) (times d b)) P

-- A sign as a test.
up_one : (t : ℤ) → one_positive t ≡ pos (cond (lt_z (pos 0) t) 1 0)
up_one (pos zero) = refl
up_one (pos (suc n)) = ap (λ b. pos (cond b 1 0)) (sym (Order.lt_lt_z (pos 0) (pos (suc n)) suc_positive))
up_one (negsuc n) = refl

-- Three tests as a product.
three_is : (a b c : Bool) → pos (cond a 1 0) *ℤ pos (cond b 1 0) *ℤ pos (cond c 1 0) ≡ pos (cond (b && c && a) 1 0)
three_is false false false = refl
three_is false false true = refl
three_is false true false = refl
three_is false true true = refl
three_is true false false = refl
three_is true false true = refl
three_is true true false = refl
three_is true true true = refl

-- One triangle.
inside_is : (d : ℤ) (q : Vertex) (t : Triangle) → inside (times d t.predecessor) (times d t.corner) (times d t.successor) q ≡ pos (cond (is_around d q t) 1 0)
unfolding inside is_around strictly_left
inside_is d q t = ap₂ (λ a b. a *ℤ b *ℤ one_positive (cross s p q)) (up_one (cross p c q)) (up_one (cross c s q)) ∙ ap (λ z. pos (cond (lt_z (pos 0) (cross p c q)) 1 0) *ℤ pos (cond (lt_z (pos 0) (cross c s q)) 1 0) *ℤ z) (up_one (cross s p q))
    ∙ three_is (lt_z (pos 0) (cross p c q)) (lt_z (pos 0) (cross c s q)) (lt_z (pos 0) (cross s p q))
  where
    p : Vertex
    p = times d t.predecessor

    c : Vertex
    c = times d t.corner

    s : Vertex
    s = times d t.successor

-- The triangles around a point.
pub count-is : (d : ℤ) (q : Vertex) (ts : List Triangle) → pos (count_of (is_around d q) ts) ≡ around d q ts
unfolding count_of
count-is d q [] = refl
count-is d q (t ∷ ts) = ap₂ ◌+ℤ◌ (sym (inside_is d q t)) (count-is d q ts)

-- Off one line.
off_is : (d : ℤ) (q a b : Vertex) → not (on_line d q a b) ≡ true → NotZero (cross (times d a) (times d b) q)
unfolding on_line
off_is d q a b e z = true≢false (sym (is_zero_lem (cross (times d a) (times d b) q) z) ∙ not-true (is_zero (cross (times d a) (times d b) q)) e)

-- On none of the lines.
pub off_lines_lem : (d : ℤ) (q : Vertex) (ts : List Triangle) → all (off_lines d q) ts ≡ true → OffLines d q ts
unfolding all off_lines
off_lines_lem d q [] e = tt
off_lines_lem d q (t ∷ ts) e =
    let h = and_left (off_lines d q t) (all (off_lines d q) ts) e in
    let a = not (on_line d q t.corner t.successor) in
    let b = not (on_line d q t.successor t.predecessor) in
    let c = not (on_line d q t.predecessor t.corner) in
    let one : a ≡ true = and_left a b (and_left (a && b) c h) in
    let two : b ≡ true = and_right a b (and_left (a && b) c h) in
    let thr : c ≡ true = and_right (a && b) c h in
    (off_is d q t.predecessor t.corner thr, off_is d q t.corner t.successor one, off_is d q t.successor t.predecessor two, off_lines_lem d q ts (and_right (off_lines d q t) (all (off_lines d q) ts) e))
