-- What the walk does at a candidate, by case: equations of the definitions, through which everything else about them is proved.
use mathlib.Core.Bool.{true, false}
use mathlib.Core.List.{List, [], ◌∷◌}
use mathlib.Core.Option.{Option, none, some}
use mathlib.Core.Path.{◌≡◌, refl}
use Prim.Native.Nat.{ℕ}
use Rattle.model.specs.Layout.{Entry, Layout, entry_of}
use Rattle.model.specs.Problem.{Problem}
use Rattle.model.specs.Search.{Searched, step, latest, best_after, searched, then, live, forward_check, completed, try_candidates, search_pieces, search_from, pieces}

module _ (j : Problem) (cs : List (List ℕ)) (next : Layout → Option ℕ → Searched) (t : ℕ) (left : List ℕ) where
  -- No candidate left: nothing is done.
  pub tries_end : (placed : Layout) (best : Option ℕ) → try_candidates j cs next t left [] placed best ≡ searched [] best
  unfolding try_candidates
  tries_end placed best = refl

  -- A candidate that is not live is passed over.
  pub tries_dead : (n : ℕ) (ns : List ℕ) (placed : Layout) (best : Option ℕ) → live j placed best t n ≡ false
      → try_candidates j cs next t left (n ∷ ns) placed best ≡ try_candidates j cs next t left ns placed best
  unfolding try_candidates
  tries_dead n ns placed best e = rw (e, try_candidates)

  -- A live candidate that look-ahead gives back is a step.
  pub tries_back : (n : ℕ) (ns : List ℕ) (placed : Layout) (best : Option ℕ) → live j placed best t n ≡ true
      → forward_check j cs left (entry_of j t n ∷ placed) best ≡ false
      → try_candidates j cs next t left (n ∷ ns) placed best
      ≡ then (step (entry_of j t n) none ∷ []) (try_candidates j cs next t left ns placed best)
  unfolding try_candidates
  tries_back n ns placed best e f = rw (e, f, try_candidates)

  -- A live candidate that look-ahead keeps is a step, then comes the walk over the pieces left, then the next candidate.
  pub tries_deep : (n : ℕ) (ns : List ℕ) (placed : Layout) (best : Option ℕ) → live j placed best t n ≡ true
      → forward_check j cs left (entry_of j t n ∷ placed) best ≡ true
      → try_candidates j cs next t left (n ∷ ns) placed best
      ≡ then (step (entry_of j t n) (completed left (entry_of j t n ∷ placed)) ∷ (next (entry_of j t n ∷ placed) best).steps)
      (try_candidates j cs next t left ns placed (next (entry_of j t n ∷ placed) best).best)
  unfolding try_candidates
  tries_deep n ns placed best e f = rw (e, f, try_candidates)

-- Look-ahead before the first step: where it fails, the walk takes no step.
pub search_back : (j : Problem) (cs : List (List ℕ)) (best : Option ℕ) → forward_check j cs (pieces j.kinds) [] best ≡ false → search_from j cs best ≡ searched [] best
unfolding search_from
search_back j cs best e = rw (e, search_from)

-- Where it does not fail, the walk goes over all pieces.
pub search_walks : (j : Problem) (cs : List (List ℕ)) (best : Option ℕ) → forward_check j cs (pieces j.kinds) [] best ≡ true
    → search_from j cs best ≡ search_pieces j cs (pieces j.kinds) [] best
unfolding search_from
search_walks j cs best e = rw (e, search_from)

-- "A complete layout becomes the best": whatever was held before.
pub completed-becomes_best : (h : Option Layout) (e : Entry) (es : Layout) → best_after h (step e (some es) ∷ []) ≡ some es
unfolding best_after latest
completed-becomes_best h e es = refl

-- A step that completes nothing leaves it as it was.
pub best-stays : (h : Option Layout) (e : Entry) → best_after h (step e none ∷ []) ≡ h
unfolding best_after latest
best-stays h e = refl
