-- The box of a piece, part by part. Assumes nothing.
use mathlib.Core.List.{List, map}
use mathlib.Core.Path.{◌≡◌, sym, ap, ◌∙◌}
use Prim.Native.Nat.{ℕ, zero, suc, ◌+◌, ◌≤◌, ◌<◌}
use native.Mathlib.Omega.{arith}
use lib.ListN.{length, length-append}
use Rattle.model.specs.Content.{Part}
use Rattle.model.specs.Lists.{concat, rising, below}
use Rattle.model.proofs.Box.{concat-one}
use Rattle.model.proofs.Folds.{concat-more, map-below-more}
use Rattle.polygons.specs.Boxes.{extents_of, joined}
use Rattle.polygons.proofs.BoxLaws.{extents_append}

-- of parts that each have a vertex
module _ (f : ℕ → Part) (n : ℕ) (some : (i : ℕ) → i < n → 0 < length (f i)) where
  concat-some : (i : ℕ) → 0 < i → i ≤ n → 0 < length (concat (map f (below i)))
  unfolding concat below rising
  concat-some zero h g = absurd (omega arith)
  concat-some (suc i) h g = rw (length-append (f 0) (concat (map f (rising 1 i)))) (omega (arith, some 0 (omega arith)))

  pub box-first : extents_of (f 0) ≡ extents_of (concat (map f (below 1)))
  unfolding below rising
  box-first = ap extents_of (sym (concat-one (f 0)))

  pub box-more : (i : ℕ) → 0 < i → i < n → extents_of (concat (map f (below (i + 1)))) ≡ joined (extents_of (concat (map f (below i)))) (extents_of (f i))
  box-more i h g =
      ap (λ (Ps : List Part). extents_of (concat Ps)) (map-below-more f i)
      ∙ ap extents_of (concat-more (map f (below i)) (f i))
      ∙ extents_append (concat (map f (below i))) (f i) (concat-some i h (omega arith)) (some i g)
