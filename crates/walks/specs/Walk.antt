-- What the walk in code asks and promises at each level.
use Rattle.std.specs.Prelude.{Bool, true, false, List, ◌≡◌, ℕ, ◌*◌, ◌-◌, ◌≤◌, ◌<◌, length, drop}
use Rattle.std.proofs.Math.Option.{Option, none, some}
use Rattle.model.specs.Content.{piece_count}
use Rattle.model.specs.Layout.{Layout, is_entry, largest_end}
use Rattle.model.specs.Lists.{all}
use Rattle.model.specs.Problem.{Problem}
use Rattle.model.specs.Services.{layout_in, with_layout, numbers_in, work_words}
use Rattle.stepping.specs.LiveSets.{set_of, bound_of, Spans}
use Rattle.stepping.specs.Levels.{piece_kind, numbers_at, placed_of}
use Rattle.lookahead.specs.Settled.{SetsKept}
use Rattle.stepping.specs.Spending.{Spent}
use Rattle.runs.specs.declared.progress.Progress.{Progress}

-- The layout held: what the answer numbers say, if one is found.
abbrev pub held_of : Problem → Bool → List ℕ → Option Layout
held_of j true out = some (layout_in j out)
held_of j false out = none

-- What stands when the walk comes to a level: `depth` levels have their sets.
pub record Ready (j : Problem) (work out ns : List ℕ) (level depth end : ℕ) (st : Progress) : Type 0 where
  pub work-fits : work_words j * 8 ≤ length work
  pub out-fits : 4 * piece_count j.kinds ≤ numbers_in out
  pub room : length ns ≡ 12
  pub admitted : all (is_entry j) (placed_of j ns level) ≡ true
  pub end_is : end ≡ largest_end j (placed_of j ns level)
  pub bound-is : st.bound ≡ bound_of j (held_of j st.found out)
  pub written : with_layout (held_of j st.found out) out ≡ out
  pub running : st.stopped ≡ false
  pub spans : Spans j st.bound st.span
  pub sets : SetsKept j ns depth st.bound st.span work

-- A piece was just placed: what is placed ends below the bound, and the piece was a member.
pub record Taken (j : Problem) (ns : List ℕ) (level end : ℕ) (st : Progress) : Type 0 where
  pub some : 0 < level
  pub within : level ≤ piece_count j.kinds
  pub below : end < st.bound
  pub latest : set_of j (placed_of j ns (level - 1)) st.bound (piece_kind j.kinds (level - 1)) (numbers_at ns (level - 1)) ≡ true

-- What the walk leaves: what the definition says, the layout held in the answer numbers, and the sets of the levels below `depth` at the bound that it came to.
pub record Left (j : Problem) (ns work out work' out' : List ℕ) (depth : ℕ) (st st' : Progress) (w : Spent) : Type 0 where
  pub left : st'.left ≡ w.left
  pub stopped : st'.stopped ≡ w.stopped
  pub held : held_of j st'.found out' ≡ w.held
  pub bound-is : st'.bound ≡ bound_of j w.held
  pub lowered : st'.bound ≤ st.bound
  pub written : out' ≡ with_layout w.held out
  pub spans : Spans j st'.bound st'.span
  pub sets : SetsKept j ns depth st'.bound st'.span work'
  pub behind : drop (work_words j * 8) work' ≡ drop (work_words j * 8) work
