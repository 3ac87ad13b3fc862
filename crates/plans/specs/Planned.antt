-- What the plan of a job says of it.
use Rattle.std.specs.Prelude.{List, [], ◌≡◌, ℕ, ◌+◌, ◌*◌, ◌<◌, pos, length, get_or}
use Rattle.words.specs.Bits.{test_bit}
use Rattle.model.specs.Content.{Kind, kind_at, kind_count, piece_count}
use Rattle.model.specs.Format.{content, refusal}
use Rattle.model.specs.Gap.{kind_gap, share_cut}
use Rattle.model.specs.Grid.{set_words}
use Rattle.model.specs.Problem.{Problem, under}
use Rattle.model.specs.Search.{copies_left}
use Rattle.job.specs.View.{ViewOf}
use Rattle.job.specs.declared.View.{View}
use Rattle.shapes.specs.Boxes.{BoxesOf, box_at}
use Rattle.shapes.specs.declared.boxes.Boxes.{Boxes}
use Rattle.stepping.specs.Levels.{piece_kind, pieces_from}
use Rattle.plans.specs.declared.plan.Plan.{Plan}
use Rattle.plans.specs.declared.plan.PlannedKind.{PlannedKind}

-- The problem that a plan is of: the job's content under the plan's margin.
abbrev pub planned : List ℕ → Plan → Problem
planned s p = under p.margin (content s)

-- These are the kinds of the pieces.
abbrev pub KindsOf : List Kind → List ℕ → Type 0
KindsOf ks kinds = (l : ℕ) → l < piece_count ks → get_or kinds l 0 ≡ piece_kind ks l

-- These are the copies left of each kind at each level.
abbrev pub CopiesOf : List Kind → List (List ℕ) → Type 0
CopiesOf ks copies = (l u : ℕ) → l < piece_count ks → u < 8 → get_or (get_or copies l []) u 0 ≡ copies_left u (pieces_from ks l)

-- The bits of this number say which kinds share a common cut.
abbrev pub SharedOf : List ℕ → ℕ → Type 0
SharedOf s shared = (t u : ℕ) → t < kind_count (content s).kinds → u < kind_count (content s).kinds
    → test_bit shared (t * 8 + u) ≡ share_cut (content s).classes (kind_at (content s).kinds t) (kind_at (content s).kinds u)

-- Where no kind stands.
abbrev pub no_kind : PlannedKind
no_kind = record { gap = 0; parts = 0; sizes = []; ends = [] }

-- This is what is looked up of kind t: its gap, the number of its parts and of the vertices of each, and the largest x of its boxes.
pub record PlannedAs (s : List ℕ) (b : Boxes) (t : ℕ) (k : PlannedKind) : Type 0 where
  pub gap : k.gap ≡ kind_gap (content s).classes (kind_at (content s).kinds t)
  pub parts : k.parts ≡ length (kind_at (content s).kinds t).parts
  pub sizes : (i : ℕ) → i < length (kind_at (content s).kinds t).parts
      → get_or k.sizes i 0 ≡ length (get_or (kind_at (content s).kinds t).parts i [])
  pub ends : (r : ℕ) → r < 4 → get_or k.ends r (pos 0) ≡ (box_at b t r).max_x

-- The plan is that of the job; its margin is its own, and `make_plan` promises whose. The view and the boxes are those that it was taken from.
pub record PlanOf (s : List ℕ) (p : Plan) : Type 0 where
  pub accepted : refusal s ≡ 0
  pub view : View
  pub viewed : ViewOf s view
  pub boxes : Boxes
  pub boxed : BoxesOf s boxes
  pub rows : p.rows ≡ view.rows
  pub step : p.step ≡ view.step
  pub types : p.types ≡ kind_count (content s).kinds
  pub pieces : p.pieces ≡ piece_count (content s).kinds
  pub words : p.words ≡ set_words (content s).sheet
  pub kinds : KindsOf (content s).kinds p.kinds
  pub copies : CopiesOf (content s).kinds p.copies
  pub shared : SharedOf s p.shared
  pub kind : (t : ℕ) → t < kind_count (content s).kinds → PlannedAs s boxes t (get_or p.kind t no_kind)
