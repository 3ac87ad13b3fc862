-- Document 02, "2/13 Turning moved out of the pair test": "corners shall be turned before the pairs are compared: the test of a pair of parts takes turned
-- corners and no turn. It is proved to answer for those corners exactly as document 01 separates them." The contract of that test is `separated` of the corners
-- it is given (crate `geometry`, pairs); here is what it is given at two candidates, and that row, check and run ask for this and nothing else. Assumes nothing.
use mathlib.Core.Bool.{Bool, true, false, not, cond, ◌&&◌, ◌||◌}
use mathlib.Core.List.{List, [], ◌∷◌, map}
use mathlib.Core.Logic.{⊎_elim}
use mathlib.Core.Path.{◌≡◌, refl, sym, ap, ap₂, subst, ◌∙◌, fun_ext}
use Prim.Native.Nat.{ℕ, zero, suc, ◌*◌, ◌≤◌, ◌<◌}
use native.Mathlib.Omega.{arith}
use lib.IntN.{ℤ, pos, ◌-ℤ◌}
use lib.ListN.{length, get_or}
use Rattle.words.proofs.Cases.{le_or_lt}
use Rattle.model.specs.Candidate.{placed_part, placed_parts, is_candidate}
use Rattle.model.specs.Content.{Part, Board, Kind, kind_at, kind_count}
use Rattle.model.specs.Format.{refusal, content}
use Rattle.model.specs.Gap.{pair_gap}
use Rattle.model.specs.Geometry.{rotated, moved, shifted, separated, pieces_conflict}
use Rattle.model.specs.Grid.{Placement}
use Rattle.model.specs.Layout.{Entry, Layout, entry_of, entry_kind, conflict, apart}
use Rattle.model.specs.Lists.{all, any}
use Rattle.model.specs.Problem.{Problem, under}
use Rattle.model.specs.Search.{free}
use Rattle.model.specs.Services.{row_bit}
use Rattle.model.proofs.AcceptedKinds.{kind-ranges}
use Rattle.model.proofs.Moves.{Vertexed, placed-moved, separated-placed}
use Rattle.model.proofs.Tests.{any-map, any_same}

-- ---- What the pair test is given

-- A part's corners, turned as often as the placement says.
abbrev pub turned_part : Placement → Part → Part
turned_part p P = map (rotated p.rotation) P

-- How far it is from the dot of one placement to the dot of another.
abbrev pub offset_x : Board → Placement → Placement → ℤ
offset_x b p q = pos (q.column * b.g) -ℤ pos (p.column * b.g)

abbrev pub offset_y : Board → Placement → Placement → ℤ
offset_y b p q = pos (q.row * b.g) -ℤ pos (p.row * b.g)

-- The answer of the pair test at two placements: it is given turned corners, those of the second part moved from the one dot to the other.
abbrev pub pair_test : ℕ → Board → Placement → Placement → Part → Part → Bool
pair_test gap b p q P Q = separated gap (turned_part p P) (map (shifted (offset_x b p q) (offset_y b p q)) (turned_part q Q))

-- Conflict by the pair test: it does not separate some part of the one entry's piece from some part of the other's.
abbrev pub turned_conflict : Problem → Entry → Entry → Bool
turned_conflict j e f =
    any
    (λ P. any (λ Q. not (pair_test (pair_gap j.classes (entry_kind j e) (entry_kind j f)) j.sheet e.place f.place P Q)) (entry_kind j f).parts)
    (entry_kind j e).parts

-- ---- Turning first and testing then

module _ (gap : ℕ) (b : Board) (p q : Placement) where
  against : (P : Part) → 0 < length P → (Qs : List Part) → Vertexed Qs
      → any (λ Q. not (separated gap (turned_part p P) Q)) (map (map (shifted (offset_x b p q) (offset_y b p q))) (map (map (rotated q.rotation)) Qs))
      ≡ any (λ Q. not (separated gap (placed_part b p P) Q)) (map (placed_part b q) Qs)
  unfolding any
  against P h [] k = refl
  against P h (Q ∷ Qs) k = ap₂ ◌||◌ (ap not (sym (separated-placed gap b p q P Q h k.0))) (against P h Qs k.1)

  -- Turned pieces, the second moved by the offset from dot to dot, are in conflict exactly if the placed pieces are.
  pub conflict-placed : (Ps Qs : List Part) → Vertexed Ps → Vertexed Qs
      → pieces_conflict gap (map (map (rotated p.rotation)) Ps) (map (map (shifted (offset_x b p q) (offset_y b p q))) (map (map (rotated q.rotation)) Qs))
      ≡ pieces_conflict gap (map (placed_part b p) Ps) (map (placed_part b q) Qs)
  unfolding pieces_conflict any
  conflict-placed [] Qs h k = refl
  conflict-placed (P ∷ Ps) Qs h k = ap₂ ◌||◌ (against P h.0 Qs k) (conflict-placed Ps Qs h.1 k)

  -- the same, part by part
  by_parts : (Ps Qs : List Part) → Vertexed Ps → Vertexed Qs
      → pieces_conflict gap (map (placed_part b p) Ps) (map (placed_part b q) Qs) ≡ any (λ P. any (λ Q. not (pair_test gap b p q P Q)) Qs) Ps
  unfolding pieces_conflict
  by_parts Ps Qs h k =
      sym (conflict-placed Ps Qs h k)
      ∙ any-map _ (turned_part p) Ps
      ∙ any_same _ _ (λ P. any-map (λ Q. not (separated gap (turned_part p P) Q)) (map (shifted (offset_x b p q) (offset_y b p q))) (map (turned_part q) Qs) ∙ any-map _ (turned_part q) Qs) Ps

-- ---- What the services ask

-- Of the problem j: which corners the pair test is given, and who asks it.
pub record TurnedFirst (j : Problem) : Type 0 where
  -- The corners of a placed part are the job's, each turned as often as the candidate says and then moved to the dot.
  pub corners : (p : Placement) (P : Part) → placed_part j.sheet p P ≡ map (moved (p.column * j.sheet.g) (p.row * j.sheet.g)) (turned_part p P)
  -- Two placed parts are separated exactly if the pair test says so of their turned corners.
  pub pair : (gap : ℕ) (p q : Placement) (P Q : Part) → 0 < length P → 0 < length Q
      → separated gap (placed_part j.sheet p P) (placed_part j.sheet q Q) ≡ pair_test gap j.sheet p q P Q
  -- So conflict is asked of the pair test,
  pub conflicts : (e f : Entry) → conflict j e f ≡ turned_conflict j e f
  -- by row: "a bit is set where that type's candidate of that number exists and is in conflict";
  pub row : (t n u k : ℕ) → row_bit j t n u k ≡ cond (is_candidate j u k) (turned_conflict j (entry_of j t n) (entry_of j u k)) false
  -- by check: "no two are in conflict";
  pub check : (e : Entry) (es : Layout) → apart j (e ∷ es) ≡ (all (λ f. not (turned_conflict j e f)) es && apart j es)
  -- and by run: "in conflict with nothing placed".
  pub run : (placed : Layout) (e : Entry) → free j placed e ≡ not (any (λ f. turned_conflict j f e) placed)

-- parts of at least three corners each have one
vertexed_all : (Ps : List Part) → ((i : ℕ) → i < length Ps → 3 ≤ length (get_or Ps i [])) → Vertexed Ps
vertexed_all [] h = tt
vertexed_all (P ∷ Ps) h = (omega (arith, h 0 (omega arith)), vertexed_all Ps (λ i l. h (suc i) (omega arith)))

-- A type that does not exist has no part.
pub no_parts : (ks : List Kind) (t : ℕ) → kind_count ks ≤ t → (kind_at ks t).parts ≡ []
unfolding kind_at kind_count
no_parts [] t h = refl
no_parts (k ∷ ks) zero h = absurd (omega arith)
no_parts (k ∷ ks) (suc t) h = no_parts ks t (omega arith)

-- Every part of an accepted job has a corner.
pub vertexed : (s : List ℕ) → refusal s ≡ 0 → (t : ℕ) → Vertexed (kind_at (content s).kinds t).parts
vertexed s accepted t =
    ⊎_elim (λ h. subst Vertexed (sym (no_parts (content s).kinds t h)) tt) (λ h. vertexed_all (kind_at (content s).kinds t).parts (λ i l. ((kind-ranges s accepted t h).corners i l).0))
    (le_or_lt (kind_count (content s).kinds) t)

module _ (s : List ℕ) (m : ℕ) (accepted : refusal s ≡ 0) where
  abbrev j : Problem
  j = under m (content s)

  conflict-is : (e f : Entry) → conflict j e f ≡ turned_conflict j e f
  unfolding conflict placed_parts entry_kind
  conflict-is e f =
      by_parts (pair_gap j.classes (entry_kind j e) (entry_kind j f)) j.sheet e.place f.place (entry_kind j e).parts (entry_kind j f).parts (vertexed s accepted e.kind)
      (vertexed s accepted f.kind)

  row_is : (t n u k : ℕ) → row_bit j t n u k ≡ cond (is_candidate j u k) (turned_conflict j (entry_of j t n) (entry_of j u k)) false
  unfolding row_bit
  row_is t n u k = go (is_candidate j u k)
    where
      go : (b : Bool) → elim b [ false ↦ false | true ↦ conflict j (entry_of j t n) (entry_of j u k) ] ≡ cond b (turned_conflict j (entry_of j t n) (entry_of j u k)) false
      go false = refl
      go true = conflict-is (entry_of j t n) (entry_of j u k)

  check-is : (e : Entry) (es : Layout) → apart j (e ∷ es) ≡ (all (λ f. not (turned_conflict j e f)) es && apart j es)
  unfolding apart
  check-is e es = ap (λ (t : Entry → Bool). all t es && apart j es) (fun_ext (λ f. ap not (conflict-is e f)))

  run_is : (placed : Layout) (e : Entry) → free j placed e ≡ not (any (λ f. turned_conflict j f e) placed)
  unfolding free
  run_is placed e = ap not (any_same _ _ (λ f. conflict-is f e) placed)

  -- It is so for every accepted job, under every margin.
  pub turned-first : TurnedFirst (under m (content s))
  turned-first =
      record {
        corners = placed-moved j.sheet;
        pair = λ gap p q P Q h k. separated-placed gap j.sheet p q P Q h k;
        conflicts = conflict-is;
        row = row_is;
        check = check-is;
        run = run_is;
      }
