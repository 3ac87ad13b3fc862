-- What request 7/13 states of the cutting, sentence by sentence, and what the service tells. Nothing is assumed. How the argument goes is told in Lib.
use mathlib.Core.Bool.{Bool, true, false, not, ◌&&◌, ◌||◌}
use mathlib.Core.List.{List, [], ◌∷◌}
use mathlib.Core.Option.{some}
use mathlib.Core.Path.{◌≡◌, refl, sym, ◌∙◌, ap, subst}
use Prim.Native.Nat.{ℕ, ◌-◌, ◌*◌, ◌/◌, ◌%◌, ◌≤◌}
use native.Mathlib.Omega.{arith}
use borrow.Author.Tests.{not-false, leb-true}
use lib.Dec.{eqb, leb, ltb}
use lib.IntN.{ℤ, pos}
use lib.ListN.{length}
use lib.Signed.{le_z, lt_z, ◌<ℤ◌, <ℤ_irrefl}
use Rattle.std.specs.Prelude.{Ok, Err}
use Rattle.integers.proofs.Order as Order
use Rattle.model.specs.Content.{Vertex}
use Rattle.model.specs.Format.{vertices, vertex_in_range}
use Rattle.model.specs.Lists.{all, between, concat, count_of}
use Rattle.model.specs.Services.{numbers_in, vertex_numbers, with_numbers, write_outcome}
use Rattle.model.specs.declared.Refusal.{Refusal}
use Rattle.model.specs.declared.Refusal.TheVariants as R
use Rattle.model.proofs.Lists.{and_left, and_right, or_left, or_right}
use Rattle.model.proofs.Records.{length-vertices}
use Rattle.outlines.specs.Outline.{doubled_area, Triangle, triangles, triangle_area, area_sum, crossings, is_around, off_lines, meet, edges_meet, outline_in, count_unfit, odd_byte, out_of_range, area_unfit, cause14}
use Rattle.outlines.specs.Service as Service
use Rattle.outlines.specs.Service.{listed, triangle_numbers, triangles_numbers, triangles_of}
use Rattle.outlines.specs.Simple.{Meet, IsSimple}
use Rattle.outlines.proofs.Cutting.{Cuts, area_sum_lem, around_is}
use Rattle.outlines.proofs.Winding.Turning.{Three}
use Rattle.outlines.proofs.Rule.{Good, cut_all, three_of}
use Rattle.outlines.proofs.Steps.{cuts, areas_positive}
use Rattle.outlines.proofs.Orientation.{orient}
use Rattle.outlines.proofs.SimpleTest.{simple, clear}
use Rattle.outlines.proofs.ExactTest.{met, simple_clear}
use Rattle.outlines.proofs.Counted.{crossings-are, count-is, off_lines_lem}

-- ---- What is cut

-- The triangles of an outline come from a cutting, one corner at a time.
cuts-of : (P : List Vertex) (ts : List Triangle) → 2 ≤ length P → triangles P ≡ some ts → Cuts P ts
unfolding triangles
cuts-of P ts l e = cuts (length P - 2) P ts (omega arith) e

-- "The triangles' doubled areas sum to the outline's."
pub areas_sum : (P : List Vertex) (ts : List Triangle) → 2 ≤ length P → triangles P ≡ some ts → area_sum ts ≡ doubled_area P
areas_sum P ts l e = sym (area_sum_lem (cuts-of P ts l e))

-- Every triangle goes round anticlockwise, as the outline does.
pub anticlockwise : (P : List Vertex) (ts : List Triangle) → 2 ≤ length P → triangles P ≡ some ts → all (λ t. lt_z (pos 0) (triangle_area t)) ts ≡ true
anticlockwise P ts l e = areas_positive (cuts-of P ts l e)

-- "For every point with fractional coordinates on none of the lines through triangle edges or outline edges, the number of triangles
-- around it equals the crossings of a ray towards larger x with the outline": the point is (q.x / d, q.y / d), d a positive whole number. It
-- has to be on no line through a triangle edge; the lines through outline edges need not be avoided besides.
pub around_sum : (P : List Vertex) (ts : List Triangle) → 2 ≤ length P → triangles P ≡ some ts →
    (d : ℤ) (q : Vertex) → pos 0 <ℤ d → all (off_lines d q) ts ≡ true → pos (count_of (is_around d q) ts) ≡ crossings d q P
around_sum P ts l e d q h o = count-is d q ts ∙ sym (crossings-are d q P ∙ around_is d q h (cuts-of P ts l e) (off_lines_lem d q ts o))

-- ---- That it is cut

-- Every outline of positive area whose edges do not meet is cut, into at most as many triangles as it has corners, less 2.
pub outline_cut : (P : List Vertex) → 3 ≤ length P → pos 0 <ℤ doubled_area P → edges_meet P ≡ false → (ts : List Triangle) × (triangles P ≡ some ts) × (length ts ≤ length P - 2)
unfolding triangles
outline_cut P l a e = let d = cut_all (length P - 2) P (omega arith) good in (d.ts, d.is, d.few)
  where
    t : Three P
    t = three_of (length P - 3) P (omega arith)

    good : Good P
    good u = let g = simple P t e in (g, orient P t g a)

-- What bytes that give no cause for 14 hold.
pub record Accepted (s : List ℕ) : Type 0 where
  pub least : 3 ≤ length (outline_in s)
  pub most : length (outline_in s) ≤ 8
  pub area : pos 0 <ℤ doubled_area (outline_in s)
  pub apart : edges_meet (outline_in s) ≡ false

-- They hold it.
pub accepted : (s : List ℕ) → cause14 s ≡ false → Accepted s
unfolding cause14 count_unfit odd_byte out_of_range area_unfit outline_in between
accepted s e =
    let n = length s / 2 in
    let P = vertices n s in
    let a = not (leb 3 n && leb n 8) in
    let b = not (eqb (length s % 2) 0) in
    let c = not (all vertex_in_range P) in
    let d = le_z (doubled_area P) (pos 0) in
    let f = edges_meet P in
    let e4 : (a || b || c || d) ≡ false = or_left (a || b || c || d) f e in
    let e3 : (a || b || c) ≡ false = or_left (a || b || c) d e4 in
    let r : (leb 3 n && leb n 8) ≡ true = not-false (leb 3 n && leb n 8) (or_left a b (or_left (a || b) c e3)) in
    let size : length P ≡ n = length-vertices n s in
    let lo : 3 ≤ n = leb-true 3 n (and_left (leb 3 n) (leb n 8) r) in
    let hi : n ≤ 8 = leb-true n 8 (and_right (leb 3 n) (leb n 8) r) in
    record { least = omega arith; most = omega arith; area = Order.le_z_false (doubled_area P) (pos 0) (or_right (a || b || c) d e4); apart = or_right (a || b || c || d) f e }

-- "Every outline without cause for 14 is cut", and "gives at most 6 triangles".
pub cut : (s : List ℕ) → cause14 s ≡ false → (ts : List Triangle) × (triangles (outline_in s) ≡ some ts) × (length ts ≤ 6)
cut s e = let a = accepted s e in let r = outline_cut (outline_in s) a.least a.area a.apart in (r.0, r.1, omega (arith, a.most, r.2))

-- All of it, of bytes that give no cause for 14.
pub record WellCut (s : List ℕ) : Type 0 where
  pub ts : List Triangle
  pub is : triangles (outline_in s) ≡ some ts
  pub least : 1 ≤ length ts
  pub few : length ts ≤ 6
  pub turns : all (λ t. lt_z (pos 0) (triangle_area t)) ts ≡ true
  pub areas : area_sum ts ≡ doubled_area (outline_in s)
  pub around : (d : ℤ) (q : Vertex) → pos 0 <ℤ d → all (off_lines d q) ts ≡ true → pos (count_of (is_around d q) ts) ≡ crossings d q (outline_in s)

-- What has a positive area is at least one triangle.
one_least : (ts : List Triangle) → pos 0 <ℤ area_sum ts → 1 ≤ length ts
unfolding area_sum
one_least [] l = absurd (<ℤ_irrefl l)
one_least (t ∷ ts) l = omega arith

-- Such bytes are well cut.
pub well_cut : (s : List ℕ) → cause14 s ≡ false → WellCut s
well_cut s e = let r = cut s e in let two : 2 ≤ length (outline_in s) = omega (arith, (accepted s e).least) in
    let areas = areas_sum (outline_in s) r.0 two r.1 in
    record {
      ts = r.0;
      is = r.1;
      least = one_least r.0 (subst (λ z. pos 0 <ℤ z) (sym areas) (accepted s e).area);
      few = r.2;
      turns = anticlockwise (outline_in s) r.0 two r.1;
      areas = areas;
      around = around_sum (outline_in s) r.0 two r.1;
    }

-- ---- What the service tells

-- "Checks: 14, before 9 ..".
pub refused-14 : (s out : List ℕ) → cause14 s ≡ true → Service.cut s out ≡ write_outcome (Err R.Outline) out
unfolding Service.cut
refused-14 s out e = rw (e, Service.cut)

-- "The service needs 36 answer numbers .., else 9".
pub refused-9 : (s out : List ℕ) → cause14 s ≡ false → ltb (numbers_in out) 36 ≡ true → Service.cut s out ≡ write_outcome (Err R.Answer) out
unfolding Service.cut
refused-9 s out e f = rw (e, f, Service.cut)

-- Otherwise it tells the number of triangles and writes their numbers.
pub told : (s out : List ℕ) → cause14 s ≡ false → ltb (numbers_in out) 36 ≡ false →
    Service.cut s out ≡ write_outcome (Ok (length (triangles_of (outline_in s)))) (with_numbers (triangles_numbers (triangles_of (outline_in s))) out)
unfolding Service.cut
told s out e f = rw (e, f, Service.cut)

-- The triangles of a cutting that did not get stuck.
pub listed-some : (ts : List Triangle) → listed (some ts) ≡ ts
unfolding listed
listed-some ts = refl

-- Document 01: "A refusal .. changes no buffer".
pub cut_keeps : (s out : List ℕ) (n : Refusal) → (Service.cut s out).answer ≡ Err n → (Service.cut s out).buffer ≡ out
cut_keeps s out n e = by_14 (cause14 s) refl
  where
    by_9 : cause14 s ≡ false → (b : Bool) → ltb (numbers_in out) 36 ≡ b → (Service.cut s out).buffer ≡ out
    by_9 f true g = ap (λ o. o.buffer) (refused-9 s out f g)
    by_9 f false g = counted (length (triangles_of (outline_in s))) (sym (ap (λ o. o.answer) (told s out f g)) ∙ e)
      where
        counted : (k : ℕ) → Ok k ≡ Err n → (Service.cut s out).buffer ≡ out
        counted k q = let z : ◌≡◌ {A = ℕ} 0 1 = cc in absurd (omega arith)

    by_14 : (b : Bool) → cause14 s ≡ b → (Service.cut s out).buffer ≡ out
    by_14 true f = ap (λ o. o.buffer) (refused-14 s out f)
    by_14 false f = by_9 f (ltb (numbers_in out) 36) refl

-- "six for each triangle"
pub six_each : (ts : List Triangle) → length (triangles_numbers ts) ≡ length ts * 6
unfolding triangles_numbers triangle_numbers vertex_numbers concat
six_each [] = refl
six_each (t ∷ ts) = omega (arith, six_each ts)

-- What the service answers and leaves where it does not refuse: the triangles of a well cut outline.
pub record Served (s out : List ℕ) : Type 0 where
  pub well : WellCut s
  pub says : Service.cut s out ≡ write_outcome (Ok (length well.ts)) (with_numbers (triangles_numbers well.ts) out)

-- Without cause for 14, and with 36 numbers or more, it answers so.
pub served : (s out : List ℕ) → cause14 s ≡ false → ltb (numbers_in out) 36 ≡ false → Served s out
served s out e f = let w = well_cut s e in record {
  well = w;
  says = told s out e f ∙ ap (λ ts. write_outcome (Ok (length ts)) (with_numbers (triangles_numbers ts) out)) (ap listed w.is ∙ listed-some w.ts);
}

-- ---- That the refusal is exact

-- Two edges are found to meet exactly if they have a point in common.
pub meet-exact : (a b u t : Vertex) → (meet a b u t ≡ true → Meet a b u t) × (Meet a b u t → meet a b u t ≡ true)
meet-exact a b u t = (met a b u t, λ M. go M (meet a b u t) refl)
  where
    go : Meet a b u t → (c : Bool) → meet a b u t ≡ c → meet a b u t ≡ true
    go M true e = e
    go M false e = absurd (clear a b u t e M)

-- An outline is found to have no edges that meet exactly if it is simple: no corner twice, edges that share no corner have no point
-- in common, and neighbours share their corner alone.
pub simple_exact : (P : List Vertex) → 3 ≤ length P → (edges_meet P ≡ false → IsSimple P) × (IsSimple P → edges_meet P ≡ false)
simple_exact P l = (simple P t, simple_clear P t)
  where
    t : Three P
    t = three_of (length P - 3) P (omega arith)
