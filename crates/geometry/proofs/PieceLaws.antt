-- Pieces in a table of parts, and the test of two pieces part by part. Assumes nothing.
use mathlib.Core.Bool.{Bool, true, false, not}
use mathlib.Core.List.{List, map}
use mathlib.Core.Path.{◌≡◌, sym, ap, ◌∙◌}
use Prim.Native.Nat.{ℕ, zero, suc, ◌+◌, ◌-◌, ◌*◌, ◌<◌}
use native.Mathlib.Omega.{arith}
use lib.IntN.{ℤ, pos}
use lib.ListN.{length, get_or, take, drop, length-take, length-drop}
use Rattle.model.specs.Content.{Part}
use Rattle.model.specs.Geometry.{separated, pieces_conflict}
use Rattle.model.specs.Lists.{any, rising, below}
use Rattle.model.proofs.Tests.{any-map}
use Rattle.convexity.specs.Parts.{SoundPart, SoundParts}
use Rattle.polygons.specs.Boxes.{box}
use Rattle.polygons.specs.Flat.{part_of, shifted}
use Rattle.polygons.proofs.Flat.{part_length}
use Rattle.geometry.specs.Apart.{boxes_apart}
use Rattle.geometry.specs.Pieces.{Fitting, Standing, part_in, parts_in, box_in, part_conflicts}
use Rattle.geometry.specs.declared.pieces.Piece.{Piece}
use Rattle.geometry.proofs.BoxesApart.{separated-boxes}

-- ---- the parts of a piece

-- The numbers behind the box of part i, which begins at a, n of them, are the part.
pub part-window : (table : List ℤ) (p : Piece) (i a n : ℕ) → a ≡ p.first + i * 20 → n ≡ get_or p.sizes i 0 * 2
    → part_of (take (a + 4 + n - (a + 4)) (drop (a + 4) table)) ≡ part_in table p i
unfolding part_in
part-window table p i a n e f =
    let g : a + 4 + n - (a + 4) ≡ n = omega arith in
    ap (λ m. part_of (take m (drop (a + 4) table))) (g ∙ f) ∙ ap (λ b. part_of (take (get_or p.sizes i 0 * 2) (drop (b + 4) table))) e

-- The four numbers from a on, where part i begins, are its box.
pub box-window : (table : List ℤ) (p : Piece) (i a : ℕ) → a ≡ p.first + i * 20
    → box (get_or table a (pos 0)) (get_or table (a + 1) (pos 0)) (get_or table (a + 2) (pos 0)) (get_or table (a + 3) (pos 0)) ≡ box_in table p i
unfolding box_in
box-window table p i a e = ap (λ b. box (get_or table b (pos 0)) (get_or table (b + 1) (pos 0)) (get_or table (b + 2) (pos 0)) (get_or table (b + 3) (pos 0))) e

-- P is not separated from part m of q, moved by (dx, dy).
abbrev pub conflict_at : ℕ → Part → List ℤ → Piece → ℤ → ℤ → ℕ → Bool
conflict_at gap P table q dx dy m = not (separated gap P (map (shifted dx dy) (part_in table q m)))

pub part-conflicts-below : (gap : ℕ) (P : Part) (table : List ℤ) (q : Piece) (dx dy : ℤ)
    → any (conflict_at gap P table q dx dy) (below q.count) ≡ part_conflicts gap P (map (map (shifted dx dy)) (parts_in table q))
unfolding part_conflicts parts_in
part-conflicts-below gap P table q dx dy =
    sym
    (any-map (λ Q. not (separated gap P Q)) (map (shifted dx dy)) (parts_in table q)
    ∙ any-map (λ Q. not (separated gap P (map (shifted dx dy) Q))) (part_in table q) (below q.count))

pub pieces-conflict-below : (gap : ℕ) (table : List ℤ) (p : Piece) (Qs : List Part)
    → any (λ i. part_conflicts gap (part_in table p i) Qs) (below p.count) ≡ pieces_conflict gap (parts_in table p) Qs
unfolding pieces_conflict part_conflicts parts_in
pieces-conflict-below gap table p Qs = sym (any-map (λ P. any (λ Q. not (separated gap P Q)) Qs) (part_in table p) (below p.count))

-- every part of a piece in the table has a vertex
pub part-some : (table : List ℤ) (p : Piece) → Fitting p → length table ≡ 4096 → (i : ℕ) → i < p.count → 0 < length (part_in table p i)
unfolding part_in
part-some table p f size i l =
    let a : ℕ = p.first + i * 20 + 4 in
    omega (arith, f.least i l, f.short i l, f.few, f.within, part_length (take (get_or p.sizes i 0 * 2) (drop a table)), length-take (get_or p.sizes i 0 * 2) (drop a table), length-drop a table)

-- the parts before n, from part a on, are sound
sound-rising : (f : ℕ → Part) (a n : ℕ) → ((i : ℕ) → i < a + n → SoundPart (f i)) → SoundParts (map f (rising a n))
unfolding rising
sound-rising f a zero h = tt
sound-rising f a (suc n) h = (h a (omega arith), sound-rising f (suc a) n (λ i l. h i (omega arith)))

pub standing_sound : (table : List ℤ) (p : Piece) → Standing table p → SoundParts (parts_in table p)
unfolding parts_in below
standing_sound table p s = sound-rising (part_in table p) 0 p.count (λ i l. s.sound i (omega arith))

-- Parts whose boxes in their tables are apart are not in conflict.
pub boxed-apart : (gap : ℕ) (s t : List ℤ) (p q : Piece) (i m : ℕ) (dx dy : ℤ) → Standing s p → Standing t q → i < p.count → m < q.count
    → boxes_apart gap (box_in s p i) (box_in t q m) dx dy ≡ true → false ≡ not (separated gap (part_in s p i) (map (shifted dx dy) (part_in t q m)))
boxed-apart gap s t p q i m dx dy sp sq hi hm e =
    sym
    (ap not
    (separated-boxes gap (part_in s p i) (part_in t q m) dx dy (sp.sound i hi) (sq.sound m hm)
    ((λ j. boxes_apart gap (sym (sp.boxed i hi) j) (sym (sq.boxed m hm) j) dx dy) ∙ e)))
