-- "the same content, which is all that read gives": fit contents of which read gives the same numbers are the same.
use mathlib.Core.Bool.{Bool, true, false, cond}
use mathlib.Core.List.{List, [], ◌∷◌, ◌++◌, map, append_assoc}
use mathlib.Core.Logic.{◌↔◌}
use mathlib.Core.Path.{◌≡◌, refl, sym, ap, ap₂, ◌∙◌}
use Prim.Native.Nat.{ℕ, ◌≤◌}
use native.Mathlib.Omega.{arith}
use lib.IntN.{ℤ, pos, negsuc, nat_abs}
use lib.ListN.{length, get_or, drop}
use Rattle.model.specs.Content.{vertex, Kind, kind, SpacingClass, spacing_class, board, Job, job, piece_count, kind_count}
use Rattle.model.specs.ContentFit.{Each, VertexFit, PartFit, ContentFit}
use Rattle.model.specs.Lists.{concat}
use Rattle.model.specs.Services.{coordinate, vertex_numbers, part_numbers, kind_numbers, class_numbers, content_numbers}
use Rattle.model.proofs.Saving.Each.{each_map}

-- ---- Numbers with anything behind them

-- The numbers of a value tell it, if P holds of it: where the numbers of two, each with anything behind it, are equal, so are the values and what is behind.
abbrev Tells : {A : Type 0} → (A → List ℕ) → (A → Type 0) → Type 0
Tells {A = A} numbers P = (a b : A) → P a → P b → (r s : List ℕ) → numbers a ++ r ≡ numbers b ++ s → (a ≡ b) × (r ≡ s)

first : (m n : ℕ) (r s : List ℕ) → m ∷ r ≡ n ∷ s → m ≡ n
first m n r s q = ap (λ l. get_or l 0 0) q

rest : (m n : ℕ) (r s : List ℕ) → m ∷ r ≡ n ∷ s → r ≡ s
rest m n r s q = ap (drop 1) q

-- Values one after the other, as many of them.
module _ {A : Type 0} (numbers : A → List ℕ) (P : A → Type 0) (tells : Tells numbers P) where
  all_told : (xs ys : List A) → Each P xs → Each P ys → length xs ≡ length ys → (r s : List ℕ) → concat (map numbers xs) ++ r ≡ concat (map numbers ys) ++ s → (xs ≡ ys) × (r ≡ s)
  unfolding concat
  all_told [] [] h k e r s q = (refl, q)
  all_told [] (y ∷ ys) h k e r s q = absurd (omega arith)
  all_told (x ∷ xs) [] h k e r s q = absurd (omega arith)
  all_told (x ∷ xs) (y ∷ ys) h k e r s q =
      let one = tells x y h.0 k.0 (concat (map numbers xs) ++ r) (concat (map numbers ys) ++ s)
      (sym (append_assoc (numbers x) (concat (map numbers xs)) r) ∙ q ∙ append_assoc (numbers y) (concat (map numbers ys)) s) in
      let more = all_told xs ys h.1 k.1 (omega arith) r s one.1 in
      (ap₂ (λ a l. a ∷ l) one.0 more.0, more.1)

  -- Behind their count.
  counted : Tells (λ xs. length xs ∷ concat (map numbers xs)) (Each P)
  counted xs ys h k r s q = all_told xs ys h k (first _ _ _ _ q) r s (rest _ _ _ _ q)

-- ---- Corners, parts, types and classes

coordinate-tells : (y z : ℤ) → nat_abs y ≤ 127 → nat_abs z ≤ 127 → coordinate y ≡ coordinate z → y ≡ z
unfolding coordinate
coordinate-tells (pos m) (pos n) h k q = ap pos q
coordinate-tells (pos m) (negsuc n) h k q = absurd (omega arith)
coordinate-tells (negsuc m) (pos n) h k q = absurd (omega arith)
coordinate-tells (negsuc m) (negsuc n) h k q = let e : m ≡ n = omega arith in ap negsuc e

vertex-tells : Tells vertex_numbers VertexFit
unfolding vertex_numbers
vertex-tells v w h k r s q =
    let q1 = rest _ _ _ _ q in
    let x = coordinate-tells v.x w.x h.x_small k.x_small (first _ _ _ _ q) in
    let y = coordinate-tells v.y w.y h.y_small k.y_small (first _ _ _ _ q1) in
    (ap₂ vertex x y, rest _ _ _ _ q1)

part-tells : Tells part_numbers PartFit
unfolding part_numbers
part-tells P Q h k r s q = counted vertex_numbers VertexFit vertex-tells P Q h.corners k.corners r s q

-- Each part of the type is fit.
abbrev PartsFit : Kind → Type 0
PartsFit k = Each PartFit k.parts

kind-tells : Tells kind_numbers PartsFit
unfolding kind_numbers
kind-tells a b h k r s q =
    let q1 = rest _ _ _ _ q in
    let q2 = rest _ _ _ _ q1 in
    let parts = counted part_numbers PartFit part-tells a.parts b.parts h k r s (rest _ _ _ _ q2) in
    let d = first _ _ _ _ q in
    let t = first _ _ _ _ q1 in
    let c = first _ _ _ _ q2 in
    (λ i. kind (d i) (t i) (c i) (parts.0 i), parts.1)

mark_tells : (a b : Bool) → ◌≡◌ {A = ℕ} (cond a 1 0) (cond b 1 0) → a ≡ b
mark_tells true true q = refl
mark_tells true false q = absurd (omega arith)
mark_tells false true q = absurd (omega arith)
mark_tells false false q = refl

class-tells : Tells class_numbers (λ c. Unit {0})
unfolding class_numbers
class-tells a b h k r s q =
    let q1 = rest _ _ _ _ q in
    let q2 = rest _ _ _ _ q1 in
    let q3 = rest _ _ _ _ q2 in
    let d = first _ _ _ _ q in
    let n = first _ _ _ _ q1 in
    let g = first _ _ _ _ q2 in
    let m = mark_tells a.common_cut b.common_cut (first _ _ _ _ q3) in
    (λ i. spacing_class (d i) (n i) (g i) (m i), rest _ _ _ _ q3)

any-class : (cs : List SpacingClass) → Each (λ c. Unit {0}) cs
any-class [] = tt
any-class (c ∷ cs) = (tt, any-class cs)

-- ---- Contents

pub numbers_equal : (j k : Job) → ContentFit j → ContentFit k → (content_numbers j ≡ content_numbers k) ↔ (j ≡ k)
unfolding content_numbers kind_count
numbers_equal j k f h = (told, λ e. ap content_numbers e)
  where
    -- The types and the number of pieces.
    behind : Job → List ℕ
    behind i = (kind_count i.kinds ∷ concat (map kind_numbers i.kinds)) ++ (piece_count i.kinds ∷ [])

    -- In front of them the board and the classes.
    in_two : (i : Job) → content_numbers i ≡ i.sheet.W ∷ i.sheet.L ∷ i.sheet.g ∷ ((length i.classes ∷ concat (map class_numbers i.classes)) ++ behind i)
    in_two i =
        append_assoc (i.sheet.W ∷ i.sheet.L ∷ i.sheet.g ∷ length i.classes ∷ concat (map class_numbers i.classes))
        (kind_count i.kinds ∷ concat (map kind_numbers i.kinds)) (piece_count i.kinds ∷ [])

    told : content_numbers j ≡ content_numbers k → j ≡ k
    told q =
        let q0 = sym (in_two j) ∙ q ∙ in_two k in
        let q1 = rest _ _ _ _ q0 in
        let q2 = rest _ _ _ _ q1 in
        let classes = counted class_numbers (λ c. Unit {0}) class-tells j.classes k.classes (any-class j.classes) (any-class k.classes) (behind j) (behind k) (rest _ _ _ _ q2) in
        let kinds = counted kind_numbers PartsFit kind-tells j.kinds k.kinds (each_map (λ m h. h.parts) j.kinds f.kinds) (each_map (λ m h. h.parts) k.kinds h.kinds)
        (piece_count j.kinds ∷ []) (piece_count k.kinds ∷ []) classes.1 in
        let w = first _ _ _ _ q0 in
        let l = first _ _ _ _ q1 in
        let g = first _ _ _ _ q2 in
        λ i. job (board (w i) (l i) (g i)) (classes.0 i) (kinds.0 i)
