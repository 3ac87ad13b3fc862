-- `search::run::run_from` meets its contract: it answers and leaves what the model says of a run from this layout, or from none.
use mathlib.Core.Bool.{Bool, false}
use mathlib.Core.Option as Math
use mathlib.Core.List.{List}
use mathlib.Core.Path.{◌≡◌, sym, ap, ◌∙◌, subst}
use Prim.Native.Nat.{ℕ, ◌*◌, ◌/◌, ◌≤◌}
use native.Mathlib.Omega.{arith}
use borrow.Author.Tests.{ltb-false}
use lib.Dec.{ltb}
use lib.ListN.{length}
use Rattle.std.specs.Prelude.{is_some}
use Rattle.model.specs.Content.{piece_count}
use Rattle.model.specs.Format.{content}
use Rattle.model.specs.Layout.{Layout}
use Rattle.model.specs.Problem.{Problem}
use Rattle.model.specs.Services.{with_layout, given_layout}
use Rattle.model.proofs.Accepted.{accepted-sensible}
use Rattle.job.specs.View.{Viewed}
use Rattle.job.specs.declared.View.{View}
use Rattle.candidates.specs.Prepared.{problem_in}
use Rattle.stepping.proofs.Limits.{short-board}
use Rattle.walks.specs.Walk.{held_of}
use Rattle.root.specs.Walked.{Walked}
use Rattle.search.proofs.Beginning.{begin_laid, begin_entries, given_whole, held-again, begins}
use Rattle.search.proofs.Running.{from-few-words, from-few-numbers, from-room, from-done, left-within}
use Rattle.search.proofs.run.run_from.Goals as goal
use Rattle.search.proofs.run.run_from.Goals.{After-walk-st}

-- Four numbers for each piece.
pieces-are : (s : List ℕ) (v : View) → Viewed s v → 4 * v.pieces ≡ 4 * piece_count (content s).kinds
pieces-are s v x = ap (λ (n : ℕ). 4 * n) x.view.pieces

-- What the run begins with.
abbrev begin : (j : Problem) (layout : List ℕ) → Math.Option Layout
begin j layout = given_layout j layout

-- The answer numbers hold it.
holds : (j : Problem) (f : Bool) (layout out out' : List ℕ) (h : Math.Option Layout) → out' ≡ with_layout (held_of j f layout) out → held_of j f layout ≡ h
    → out' ≡ with_layout h out
holds j f layout out out' h e q = e ∙ ap (λ (h : Math.Option Layout). with_layout h out) q

-- The walk begins with it.
walked : (c : After-walk-st) → Walked (problem_in c.args.prepared.now) (begin (problem_in c.args.prepared.now) c.args.layout.now) c.args.budget
    c.args.work.now c.hold.new.answer c.walk-st.new.work c.walk-st.new.answer c.walk-st.result
walked c =
    subst (λ (h : Math.Option Layout). Walked (problem_in c.args.prepared.now) h c.args.budget c.args.work.now c.hold.new.answer c.walk-st.new.work
    c.walk-st.new.answer c.walk-st.result)
    (ap (held_of (problem_in c.args.prepared.now) (is_some c.args.best)) (holds _ _ _ _ _ _ c.hold.ensures c.requires.begins.held)
    ∙ held-again _ _ c.args.prepared.now.prepared.viewed.accepted c.args.layout.now c.args.answer.now c.args.best c.requires.begins)
    c.walk-st.ensures

pub returns-then-lacks : goal.returns-then-lacks
returns-then-lacks c =
    let m = from-few-words _ (begin (problem_in c.args.prepared.now) c.args.layout.now) c.args.budget c.args.work.now c.args.answer.now _
    c.work_words-words.ensures.0 (sym c.lacks.ensures ∙ c.if-lacks.true) in
    record { told = m.0; cleared = m.1.0; held = m.1.1 }

pub returns-then-lacks-2 : goal.returns-then-lacks-2
returns-then-lacks-2 c =
    let m = from-few-numbers _ (begin (problem_in c.args.prepared.now) c.args.layout.now) c.args.budget c.args.work.now c.args.answer.now _
    c.work_words-words.ensures.0 _ (pieces-are _ _ c.args.prepared.now.prepared.viewed) (sym c.lacks.ensures ∙ c.if-lacks.false)
    (sym c.lacks-2.ensures ∙ c.if-lacks-2.true) in
    record { told = m.0; cleared = m.1.0; held = m.1.1 }

pub hold-requires : goal.hold-requires
hold-requires c =
    let v = c.args.prepared.now.prepared.viewed in record {
      viewed = (v, omega (arith, ltb-false _ _ (sym c.lacks-2.ensures ∙ c.if-lacks-2.false)));
      pieces_in_bounds = λ f. subst (λ (n : ℕ). n * 8 ≤ length c.args.layout.now) (sym v.view.pieces)
          (given_whole (problem_in c.args.prepared.now) c.args.layout.now c.args.best c.requires.begins f);
    }

pub walk-st-requires : goal.walk-st-requires
walk-st-requires c =
    let v = c.args.prepared.now.prepared.viewed in
    let e = holds _ _ _ _ _ _ c.hold.ensures c.requires.begins.held in record {
      room_for = (
        from-room _ _ _ _ _ c.work_words-words.ensures.0 (pieces-are _ _ v) (sym c.lacks.ensures ∙ c.if-lacks.false)
            (subst (λ (n : ℕ). ltb (n / 2) (4 * c.args.prepared.now.view.pieces) ≡ false) (sym c.hold.auto.answer)
            (sym c.lacks-2.ensures ∙ c.if-lacks-2.false)),
        rw (v.view.len, e) (begins _ _ v.accepted c.args.layout.now c.args.answer.now c.args.best c.requires.begins),
      );
    }

pub tell-requires : goal.tell-requires
tell-requires c =
    let v = c.args.prepared.now.prepared.viewed in
    let w = walked (goal.at.tell-requires c).After-walk-st in
    (left-within _ _ _ _ _ _ _ _ w, (v.view.margin, omega (arith, w.lowered, short-board _ v.accepted)))

pub returns : goal.returns
returns c =
    let v = c.args.prepared.now.prepared.viewed in
    let m = from-done (problem_in c.args.prepared.now) (begin (problem_in c.args.prepared.now) c.args.layout.now) c.args.budget c.args.work.now
    c.args.answer.now _ c.work_words-words.ensures.0 _ (pieces-are _ _ v)
    (sym c.lacks.ensures ∙ c.if-lacks.false) (sym c.lacks-2.ensures ∙ c.if-lacks-2.false)
    (accepted-sensible _ c.args.prepared.now.view.margin v.accepted).pieced
    (begin_entries _ _ (begin_laid _ c.args.layout.now c.args.best c.requires.begins))
    c.tell.result c.hold.new.answer c.walk-st.new.work c.clear.new.s c.walk-st.new.answer c.walk-st.result
    (holds _ _ _ _ _ _ c.hold.ensures c.requires.begins.held) (walked (goal.at.returns c).After-walk-st) c.tell.ensures c.clear.ensures in
    record { told = m.0; cleared = m.1.0; held = m.1.1 }
