-- A fit job is written to bytes.
use mathlib.Core.Bool.{Bool, true, false, cond}
use mathlib.Core.List.{List, [], ◌∷◌, ◌++◌, map}
use Prim.Native.Nat.{ℕ, zero, suc, ◌+◌, ◌≤◌, ◌<◌}
use native.Mathlib.Omega.{arith}
use lib.ListN.{length}
use Rattle.words.specs.Bytes.{AreBytes}
use Rattle.words.specs.Number.{bytes}
use Rattle.model.specs.Content.{Vertex, Part, Kind, SpacingClass, Board, Job, kind_count}
use Rattle.model.specs.Lists.{concat}
use Rattle.model.specs.ContentFit.{Each, ClassFit, VertexFit, PartFit, KindFit, ContentFit}
use Rattle.model.specs.Saving.{vertex_bytes, part_bytes, kind_record, kind_list, gap_byte, class_record, class_list, board_record, section_bytes, pointer_bytes, trailer_bytes, written}
use Rattle.model.proofs.Saving.Signed.{signed-byte}
use Rattle.model.proofs.Saving.Sizes.{few-classes}

-- Every element is below 256, one after the other.
abbrev Small : List ℕ → Type 0
Small = Each (λ b. b < 256)

small_bytes : (s : List ℕ) → Small s → AreBytes s
small_bytes [] h i = omega arith
small_bytes (b ∷ s) h zero = h.0
small_bytes (b ∷ s) h (suc i) = small_bytes s h.1 i

small-both : (s t : List ℕ) → Small s → Small t → Small (s ++ t)
small-both [] t h k = k
small-both (b ∷ s) t h k = (h.0, small-both s t h.1 k)

-- Values written one after the other are bytes if each is.
one_by_one : {A : Type 0} (enc : A → List ℕ) (P : A → Type 0) → ((a : A) → P a → Small (enc a)) → (xs : List A) → Each P xs → Small (concat (map enc xs))
unfolding concat
one_by_one enc P f [] h = tt
one_by_one enc P f (x ∷ xs) h = small-both (enc x) (concat (map enc xs)) (f x h.0) (one_by_one enc P f xs h.1)

vertex-small : (v : Vertex) → VertexFit v → Small (vertex_bytes v)
unfolding vertex_bytes
vertex-small v h = (signed-byte v.x h.x_small, (signed-byte v.y h.y_small, tt))

part_small : (P : Part) → PartFit P → Small (part_bytes P)
unfolding part_bytes
part_small P h = (omega (arith, h.corners_most), one_by_one vertex_bytes VertexFit vertex-small P h.corners)

kind-small : (cs : List SpacingClass) (k : Kind) → KindFit cs k → Small (kind_record k)
unfolding kind_record
kind-small cs k h = (
  omega (arith, h.demand_most),
  (omega (arith, h.rotations_most), (h.mask_most, (omega (arith, h.parts_most), one_by_one part_bytes PartFit part_small k.parts h.parts))),
)

gap-small : (c : SpacingClass) → ClassFit c → gap_byte c < 256
unfolding gap_byte
gap-small c h = go c.common_cut
  where
    go : (t : Bool) → cond t (128 + c.gap) c.gap < 256
    go true = omega (arith, h.gap_most)
    go false = omega (arith, h.gap_most)

class-small : (c : SpacingClass) → ClassFit c → Small (class_record c)
unfolding class_record
class-small c h = (omega (arith, h.id_most), (omega (arith, h.rank_most), (gap-small c h, tt)))

trailer_small : (c n m : ℕ) → c ≤ 8 → n ≤ 8 → Small (trailer_bytes c n m)
unfolding trailer_bytes pointer_bytes bytes
trailer_small c n m h l = omega arith

board-small : (b : Board) → Small (board_record b)
unfolding board_record bytes
board-small b = omega arith

pub fit-bytes : (j : Job) → ContentFit j → AreBytes (written j)
unfolding written section_bytes class_list kind_list kind_count
fit-bytes j fit =
    let c = one_by_one class_record ClassFit class-small j.classes fit.classes in
    let t = one_by_one kind_record (KindFit j.classes) (kind-small j.classes) j.kinds fit.kinds in
    small_bytes (written j)
    (small-both (section_bytes j) (trailer_bytes (length j.classes) (length j.kinds) (length (kind_list j.kinds)))
    (small-both (board_record j.sheet) (class_list j.classes ++ kind_list j.kinds) (board-small j.sheet)
    (small-both (class_list j.classes) (kind_list j.kinds) c t))
    (trailer_small (length j.classes) (length j.kinds) (length (kind_list j.kinds)) (few-classes j fit) fit.kinds_most))
