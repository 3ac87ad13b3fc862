-- Where the search meets the geometry: what the plan and the turned parts say of the model's conflicts, and which candidates stay.
use mathlib.Core.Bool.{Bool, true, false, not, ◌&&◌, ◌||◌, not-not}
use mathlib.Core.List.{List}
use mathlib.Core.Path.{◌≡◌, refl, sym, ap, ◌∙◌}
use Prim.Native.Nat.{ℕ, ◌<◌}
use borrow.Author.Tests.{le-ltb, lt-ltb, leb-true, leb-false}
use lib.Dec.{leb, ltb, eqb}
use lib.IntN.{ℤ}
use Rattle.model.specs.Content.{kind_at, kind_count, Job}
use Rattle.model.specs.Format.{content}
use Rattle.model.specs.Gap.{pair_gap}
use Rattle.model.specs.Layout.{entry_of, conflict, entry_kind}
use Rattle.model.specs.Problem.{Problem, under}
use Rattle.geometry.specs.declared.pieces.Piece.{Piece}
use Rattle.shapes.specs.Pieces.{PieceOf}
use Rattle.shapes.specs.Turned.{TurnedOf}
use Rattle.candidates.specs.Conflicts.{placed_of, conflict_between}
use Rattle.candidates.proofs.PreparedLaws.{numbers_conflict}
use Rattle.plans.specs.Planned.{PlanOf, planned}
use Rattle.plans.proofs.PlanLaws.{plan-viewed}
use Rattle.live_sets.specs.Narrowing.{stays}
use Rattle.plans.specs.declared.plan.Plan.{Plan}

-- The conflict of two candidates, by the corners of their kinds.
pub corners-conflict : (s : List ℕ) (p : Plan) (table : List ℤ) → PlanOf s p → TurnedOf s table
    → (t n u m : ℕ) (first second : Piece) (gap : ℕ) → t < kind_count (content s).kinds → u < kind_count (content s).kinds
    → PieceOf s t first → PieceOf s u second → gap ≡ pair_gap (content s).classes (kind_at (content s).kinds t) (kind_at (content s).kinds u)
    → conflict_between table p.step first (placed_of p.rows n) second (placed_of p.rows m) gap ≡ conflict (planned s p) (entry_of (planned s p) t n) (entry_of (planned s p) u m)
corners-conflict s p table o z t n u m first second gap ht hu f g e =
    rw (o.step, o.rows, e) (numbers_conflict s o.view table (plan-viewed s p o) z t u ht hu first second f g p.margin n m)

-- Which candidates stay does not turn on the margin.
pub stays-any-margin : (m k : ℕ) (j : Job) (t n u i : ℕ) → stays (under m j) t n u i ≡ stays (under k j) t n u i
unfolding stays conflict entry_kind entry_of
stays-any-margin m k j t n u i = refl

-- ---- The two tests

module _ (j : Problem) (t n u m : ℕ) where
  -- A candidate goes if it is of the same kind and its number is not above that of the placed one, or if they are in conflict.
  pub goes : ((eqb t u && leb m n) || conflict j (entry_of j t n) (entry_of j u m)) ≡ not (stays j t n u m)
  unfolding stays
  goes = go (eqb t u) (leb m n) refl
    where
      rest : Bool
      rest = conflict j (entry_of j t n) (entry_of j u m)

      last : (a b : Bool) → (a || b) ≡ not (not b && not a)
      last true true = refl
      last true false = refl
      last false true = refl
      last false false = refl

      other : (b : Bool) → leb m n ≡ b → ltb n m ≡ not b
      other true q = le-ltb n m (leb-true m n q)
      other false q = lt-ltb n m (leb-false m n q)

      go : (a b : Bool) → leb m n ≡ b → ((a && b) || rest) ≡ not (not rest && (not a || ltb n m))
      go true b q = last b rest ∙ ap (λ (c : Bool). not (not rest && c)) (sym (other b q))
      go false b q = last false rest

  -- A number up to that of the placed candidate, of the same kind.
  pub stays-not_above : (eqb t u && leb m n) ≡ true → false ≡ stays j t n u m
  stays-not_above e = not_equal false (stays j t n u m) (sym (ap (λ (b : Bool). b || conflict j (entry_of j t n) (entry_of j u m)) e) ∙ goes)
    where
      not_equal : (a b : Bool) → not a ≡ not b → a ≡ b
      not_equal a b h = sym (not-not a) ∙ ap not h ∙ not-not b

  -- Any other: the conflict decides.
  pub stays-conflict : (eqb t u && leb m n) ≡ false → not (conflict j (entry_of j t n) (entry_of j u m)) ≡ stays j t n u m
  stays-conflict e = ap not (sym (ap (λ (b : Bool). b || conflict j (entry_of j t n) (entry_of j u m)) e) ∙ goes) ∙ not-not (stays j t n u m)

  -- Where nothing speaks against it, it stays.
  pub stays-free : (eqb t u && leb m n) ≡ false → conflict j (entry_of j t n) (entry_of j u m) ≡ false → stays j t n u m ≡ true
  stays-free e f = sym (stays-conflict e) ∙ ap not f
