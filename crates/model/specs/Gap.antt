-- Document 01, "Gap and conflict": the gap of a type and of a pair; document 02, "3/13 Common cut" and "8/13 Common cut against ranks": the pairs that have none; "9/13 Pieces in
-- no class": the gap of a type in no class.
use Rattle.std.specs.Prelude.{Bool, false, cond, ◌&&◌, List, [], ◌∷◌, map, ℕ, max, ltb, eqb}
use Rattle.std.proofs.Math.Option.{Option, none, some}
use Rattle.words.specs.Bits.{test_bit}
use Rattle.model.specs.Content.{SpacingClass, Kind}
use Rattle.model.specs.Lists.{keep, largest}

-- "class mask (bit i names class id i; zero means no class)"
unfoldable pub names : Kind → SpacingClass → Bool
names k c = test_bit k.classes c.id

-- Class c has the smaller rank number.
unfoldable pub outranks : SpacingClass → SpacingClass → Bool
outranks c d = ltb c.rank d.rank

-- The class of smaller rank number.
unfoldable pub better : SpacingClass → SpacingClass → SpacingClass
better c d = cond (outranks d c) d c

-- The best-ranked of c and the classes.
unfoldable pub best_from : SpacingClass → List SpacingClass → SpacingClass
best_from c [] = c
best_from c (d ∷ ds) = best_from (better c d) ds

-- The class with the smallest rank number, if there is a class.
unfoldable pub best_ranked : List SpacingClass → Option SpacingClass
best_ranked [] = none
best_ranked (c ∷ cs) = some (best_from c cs)

-- A type's "class with the smallest rank number", if it has a class: its best-ranked class.
unfoldable pub best_class : List SpacingClass → Kind → Option SpacingClass
best_class cs k = best_ranked (keep (names k) cs)

-- Document 02, "9/13": "the largest gap in the job's class list, or 0 if that list is empty". All of the list counts, whether a type names the class or not, and of a marked class its gap without the mark.
unfoldable pub largest_gap : List SpacingClass → ℕ
largest_gap cs = largest (map (λ c. c.gap) cs)

-- The gap of the class, and this other one where there is no class.
unfoldable pub gap_or : ℕ → Option SpacingClass → ℕ
gap_or g none = g
gap_or g (some c) = c.gap

-- "A type's gap is the gap of its class with the smallest rank number". Document 02, "9/13": "A type with no class now takes the largest gap in the job's class list".
unfoldable pub kind_gap : List SpacingClass → Kind → ℕ
kind_gap cs k = gap_or (largest_gap cs) (best_class cs k)

-- Both are "the same .. class and it is marked". "No id .. occurs twice", so that classes of one id are one class.
unfoldable pub same_marked : Option SpacingClass → Option SpacingClass → Bool
same_marked none d = false
same_marked (some c) none = false
same_marked (some c) (some d) = eqb c.id d.id && c.common_cut && d.common_cut

-- Document 02, "8/13": "both pieces have the same best-ranked class and it is marked". Then they share a common cut.
unfoldable pub share_cut : List SpacingClass → Kind → Kind → Bool
share_cut cs k m = same_marked (best_class cs k) (best_class cs m)

-- "A pair's gap is the larger of the two." Document 02, "8/13": "the pair gap 0 of common cut holds if and only if both pieces have the same best-ranked class and it is marked."
unfoldable pub pair_gap : List SpacingClass → Kind → Kind → ℕ
pair_gap cs k m = cond (share_cut cs k m) 0 (max (kind_gap cs k) (kind_gap cs m))
