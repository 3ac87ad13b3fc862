-- What the content of an accepted job satisfies: document 01's ranges and rules, said of the content and not of its bytes. Document 02's "4/13 Saving a job" holds of
-- every content that is fit.
use Rattle.std.specs.Prelude.{true, List, [], ◌∷◌, map, ◌≡◌, ℕ, suc, ◌≤◌, ◌<◌, nat_abs, length}
use Rattle.model.specs.Content.{Vertex, Part, Kind, SpacingClass, Board, Job, piece_count, kind_count}
use Rattle.model.specs.Format.{distinct, names_present}
use Rattle.model.specs.Geometry.{sound}
use Rattle.model.specs.Grid.{dots}

-- It holds of every element.
abbrev pub Each : {A : Type 0} → (A → Type 0) → List A → Type 0
Each P [] = Unit {0}
Each P (x ∷ xs) = P x × Each P xs

-- The first number is at least lo, and each other is above the one before it.
abbrev pub RisingFrom : ℕ → List ℕ → Type 0
RisingFrom lo [] = Unit {0}
RisingFrom lo (n ∷ ns) = (lo ≤ n) × RisingFrom (suc n) ns

-- "width W, length L, step g, .. all 1 to 1000"; "D, the number of dots, is at most 1024."
pub record BoardFit (b : Board) : Type 0 where
  pub width_least : 1 ≤ b.W
  pub width_most : b.W ≤ 1000
  pub length_least : 1 ≤ b.L
  pub length_most : b.L ≤ 1000
  pub step_least : 1 ≤ b.g
  pub step_most : b.g ≤ 1000
  pub dots_most : dots b ≤ 1024

-- "id 0 to 7, rank 0 to 255, gap 0 to 63"
pub record ClassFit (c : SpacingClass) : Type 0 where
  pub id_most : c.id ≤ 7
  pub rank_most : c.rank ≤ 255
  pub gap_most : c.gap ≤ 63

-- "x and y .., -127 to 127"
pub record VertexFit (v : Vertex) : Type 0 where
  pub x_small : nat_abs v.x ≤ 127
  pub y_small : nat_abs v.y ≤ 127

-- "number of corners (3 to 8)"; "A part is sound if .."
pub record PartFit (P : Part) : Type 0 where
  pub corners_least : 3 ≤ length P
  pub corners_most : length P ≤ 8
  pub corners : Each VertexFit P
  pub is_sound : sound P ≡ true

-- "demand (1 to 12), turn mask (1 to 15 ..), class mask (bit i names class id i ..), number of parts (1 to 6)"; the mask is a byte, and no "class id
-- named that is absent" among these classes.
pub record KindFit (cs : List SpacingClass) (k : Kind) : Type 0 where
  pub demand_least : 1 ≤ k.demand
  pub demand_most : k.demand ≤ 12
  pub rotations_least : 1 ≤ k.rotations
  pub rotations_most : k.rotations ≤ 15
  pub mask_most : k.classes < 256
  pub present : names_present cs k ≡ true
  pub parts_least : 1 ≤ length k.parts
  pub parts_most : length k.parts ≤ 6
  pub parts : Each PartFit k.parts

-- The classes by rising id; "No id and no rank occurs twice"; "There are 1 to 8 types, and the demands sum to N, at most 12".
pub record ContentFit (j : Job) : Type 0 where
  pub sheet : BoardFit j.sheet
  pub classes : Each ClassFit j.classes
  pub by_id : RisingFrom 0 (map (λ c. c.id) j.classes)
  pub ranks : distinct (map (λ c. c.rank) j.classes) ≡ true
  pub kinds_least : 1 ≤ kind_count j.kinds
  pub kinds_most : kind_count j.kinds ≤ 8
  pub pieces : piece_count j.kinds ≤ 12
  pub kinds : Each (KindFit j.classes) j.kinds
