-- The layout held: once one is held there is always one, and each has an entry for each piece.
use mathlib.Core.Bool.{Bool, true, false}
use mathlib.Core.List.{List, [], ◌∷◌, ◌++◌}
use mathlib.Core.Option.{Option, none, some}
use mathlib.Core.Path.{◌≡◌, refl, ◌∙◌}
use Prim.Native.Nat.{ℕ, zero, suc, ◌+◌}
use native.Mathlib.Omega.{arith}
use lib.ListN.{length, get_or, length-reverse}
use Rattle.model.specs.Layout.{Layout, entry_of}
use Rattle.model.specs.Problem.{Problem}
use Rattle.model.specs.Search.{Step, Searched, then, candidate_table, live, forward_check, completed, try_candidates, search_pieces, length_of, latest}
use Rattle.model.proofs.Search.Equations.{tries_end, tries_dead}
use Rattle.stepping.specs.Spending.{spend}
use Rattle.stepping.specs.Steps.{go_on, go_on_spent, Entries}
use Rattle.stepping.proofs.Steps.{goes_back, goes-deep, tries_live}

-- ---- None held at the end is none held at the start

-- Of two, of one step, of steps.
latest-none : (h g : Option Layout) → latest h g ≡ none → h ≡ none
unfolding latest
latest-none h none e = e
latest-none h (some es) e = cc

pub spend-none : (k : ℕ) (h : Option Layout) (ss : List Step) → (spend k h ss).held ≡ none → h ≡ none
unfolding spend
spend-none k h [] e = e
spend-none zero h (s ∷ ss) e = e
spend-none (suc k) h (s ∷ ss) e = latest-none h s.completes (spend-none k (latest h s.completes) ss e)

-- Of what follows a candidate taken.
pub go_on-none : (j : Problem) (left : List ℕ) (placed : Layout) (k : ℕ) (h : Option Layout) → (go_on_spent j left placed k h).held ≡ none → h ≡ none
unfolding go_on_spent
go_on-none j left placed k h e = latest-none h (completed left placed) (spend-none k (latest h (completed left placed)) _ e)

-- ---- Entries

-- The later of two layouts with n entries, if there is one, has n entries.
latest-entries : (n : ℕ) (h g : Option Layout) → Entries n h → Entries n g → Entries n (latest h g)
unfolding latest
latest-entries n h none p q = p
latest-entries n h (some es) p q = q

-- Every layout that one of the steps completes has n entries.
abbrev AllEntries : ℕ → List Step → Type 0
AllEntries n [] = Unit {0}
AllEntries n (s ∷ ss) = Entries n s.completes × AllEntries n ss

entries_append : (n : ℕ) (ss ts : List Step) → AllEntries n ss → AllEntries n ts → AllEntries n (ss ++ ts)
entries_append n [] ts p q = q
entries_append n (s ∷ ss) ts p q = (p.0, entries_append n ss ts p.1 q)

spend-entries : (n k : ℕ) (h : Option Layout) (ss : List Step) → Entries n h → AllEntries n ss → Entries n (spend k h ss).held
unfolding spend
spend-entries n k h [] p q = p
spend-entries n zero h (s ∷ ss) p q = p
spend-entries n (suc k) h (s ∷ ss) p q = spend-entries n k (latest h s.completes) ss (latest-entries n h s.completes p q.0) q.1

-- A layout completed has an entry for each piece placed.
completed-entries : (n : ℕ) (left : List ℕ) (placed : Layout) → length left + length placed ≡ n → Entries n (completed left placed)
unfolding completed
completed-entries n [] placed e = length-reverse placed ∙ omega arith
completed-entries n (t ∷ left) placed e = tt

module _ (j : Problem) (cs : List (List ℕ)) (n : ℕ) where
  -- So has each that the walk completes, if the pieces left and the pieces placed are n.
  go_on-steps-entries : (left : List ℕ) (placed : Layout) (best : Option ℕ) → AllEntries n (search_pieces j cs left placed best).steps
      → AllEntries n (go_on j cs left placed best).steps
  go_on-steps-entries left placed best f = go (forward_check j cs left placed best) refl
    where
      go : (c : Bool) → forward_check j cs left placed best ≡ c → AllEntries n (go_on j cs left placed best).steps
      go true d = rw (goes-deep j cs left placed best d) f
      go false d = rw (goes_back j cs left placed best d) tt

  tries_entries : (t : ℕ) (left : List ℕ)
      → ((placed : Layout) (best : Option ℕ) → length left + length placed ≡ n → AllEntries n (search_pieces j cs left placed best).steps)
      → (ns : List ℕ) (placed : Layout) (best : Option ℕ) → suc (length left) + length placed ≡ n
      → AllEntries n (try_candidates j cs (search_pieces j cs left) t left ns placed best).steps
  unfolding then
  tries_entries t left f [] placed best e = rw (tries_end j cs (search_pieces j cs left) t left placed best) tt
  tries_entries t left f (m ∷ ns) placed best e = go (live j placed best t m) refl (λ b. tries_entries t left f ns placed b e)
    where
      tries : List ℕ → Option ℕ → Searched
      tries ns best = try_candidates j cs (search_pieces j cs left) t left ns placed best

      go : (c : Bool) → live j placed best t m ≡ c → ((b : Option ℕ) → AllEntries n (tries ns b).steps) → AllEntries n (tries (m ∷ ns) best).steps
      go false d ih = rw (tries_dead j cs (search_pieces j cs left) t left m ns placed best d) (ih best)
      go true d ih =
          rw (tries_live j cs t left m ns placed best d) (
            completed-entries n left (entry_of j t m ∷ placed) (omega arith),
            entries_append n (go_on j cs left (entry_of j t m ∷ placed) best).steps (tries ns (go_on j cs left (entry_of j t m ∷ placed) best).best).steps
                (go_on-steps-entries left (entry_of j t m ∷ placed) best (f (entry_of j t m ∷ placed) best (omega arith)))
                (ih (go_on j cs left (entry_of j t m ∷ placed) best).best),
          )

  pieces-entries : (left : List ℕ) (placed : Layout) (best : Option ℕ) → length left + length placed ≡ n
      → AllEntries n (search_pieces j cs left placed best).steps
  unfolding search_pieces
  pieces-entries [] placed best e = tt
  pieces-entries (t ∷ left) placed best e = tries_entries t left (pieces-entries left) (get_or cs t []) placed best e

-- The layout held at the end has an entry for each piece, if the one at the start has.
pub go_on-entries : (j : Problem) (left : List ℕ) (placed : Layout) (k : ℕ) (h : Option Layout) (n : ℕ) → length left + length placed ≡ n
    → Entries n h → Entries n (go_on_spent j left placed k h).held
unfolding go_on_spent
go_on-entries j left placed k h n e p =
    spend-entries n k (latest h (completed left placed)) _ (latest-entries n h (completed left placed) p (completed-entries n left placed e))
    (go_on-steps-entries j (candidate_table j) n left placed (length_of j h) (pieces-entries j (candidate_table j) n left placed (length_of j h) e))
