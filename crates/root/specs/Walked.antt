-- What the whole walk asks and leaves, and what is computed before it.
use Rattle.std.specs.Prelude.{Bool, List, ◌≡◌, ℕ, ◌+◌, ◌*◌, ◌≤◌, ℤ, length, drop}
use Rattle.std.proofs.Math.Option.{Option}
use Rattle.model.specs.Content.{piece_count}
use Rattle.model.specs.Layout.{Layout}
use Rattle.model.specs.Problem.{Problem}
use Rattle.model.specs.Services.{work_words, numbers_in, with_layout}
use Rattle.stepping.specs.Levels.{walk_spent}
use Rattle.stepping.specs.LiveSets.{bound_of}
use Rattle.walks.specs.Walk.{held_of}
use Rattle.runs.specs.declared.progress.Progress.{Progress}
use Rattle.job.specs.View.{Viewed}
use Rattle.job.specs.declared.View.{View}
use Rattle.shapes.specs.Boxes.{BoxesOf}
use Rattle.shapes.specs.Turned.{TurnedOf}
use Rattle.shapes.specs.declared.boxes.Boxes.{Boxes}
use Rattle.plans.specs.Planned.{PlanOf}
use Rattle.plans.specs.declared.plan.Plan.{Plan}
use Rattle.nofit.specs.Patterns.{MeasuresOf}
use Rattle.nofit.specs.declared.places.Nofit.{Nofit}

-- The buffers are large enough.
pub record RoomFor (j : Problem) (work out : List ℕ) : Type 0 where
  pub work-fits : work_words j * 8 ≤ length work
  pub out-fits : 4 * piece_count j.kinds ≤ numbers_in out

-- What the walk begins with: the answer numbers hold a layout and the bound is its end, or none is held and the bound bounds nothing.
pub record Begun (j : Problem) (bound : ℕ) (found : Bool) (out : List ℕ) : Type 0 where
  pub bound-is : bound ≡ bound_of j (held_of j found out)
  pub within : bound ≤ j.sheet.L + 1
  pub written : with_layout (held_of j found out) out ≡ out

-- What the whole walk leaves.
pub record Walked (j : Problem) (begin : Option Layout) (budget : ℕ) (work out work' out' : List ℕ) (st : Progress) : Type 0 where
  pub left : st.left ≡ (walk_spent j begin budget).left
  pub stopped : st.stopped ≡ (walk_spent j begin budget).stopped
  pub held : held_of j st.found out' ≡ (walk_spent j begin budget).held
  pub bound-is : st.bound ≡ bound_of j (walk_spent j begin budget).held
  pub lowered : st.bound ≤ j.sheet.L + 1
  pub written : out' ≡ with_layout (walk_spent j begin budget).held out
  pub behind : drop (work_words j * 8) work' ≡ drop (work_words j * 8) work

-- What a run computes once is the job's own: its view, turned parts, boxes and plan, and the measures of its table of no-fit strings.
pub record Computed (s : List ℕ) (v : View) (turned : List ℤ) (b : Boxes) (p : Plan) (w : Nofit) : Type 0 where
  pub viewed : Viewed s v
  pub table : TurnedOf s turned
  pub boxed : BoxesOf s b
  pub plan : PlanOf s p
  pub measures : MeasuresOf s w
