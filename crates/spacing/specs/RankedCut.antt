-- Document 02, "8/13 Common cut against ranks": its rule as a proposition, and the gap of a pair that "3/13 Common cut" had before it, by which no service is defined any more.
use Rattle.std.specs.Prelude.{Bool, true, false, cond, ◌&&◌, List, ◌≡◌, ℕ, max}
use Rattle.std.proofs.Math.Option.{some}
use Rattle.model.specs.Content.{SpacingClass, Kind}
use Rattle.model.specs.Gap.{names, best_class, kind_gap, pair_gap}
use Rattle.model.specs.Lists.{any}

-- "both pieces have the same best-ranked class and it is marked"
pub record SameBest (cs : List SpacingClass) (k m : Kind) : Type 0 where
  pub class : SpacingClass
  pub of_first : best_class cs k ≡ some class
  pub of_second : best_class cs m ≡ some class
  pub marked : class.common_cut ≡ true

-- They "share a marked class": both of their masks name it.
unfoldable pub share_marked : List SpacingClass → Kind → Kind → Bool
share_marked cs k m = any (λ c. c.common_cut && names k c && names m c) cs

-- The gap of a pair as it was, by the gaps that the types have now: "Two pieces that share a marked class have pair gap 0, and everything else about gaps holds."
unfoldable pub earlier_gap : List SpacingClass → Kind → Kind → ℕ
earlier_gap cs k m = cond (share_marked cs k m) 0 (max (kind_gap cs k) (kind_gap cs m))

-- What the request says of the gap of a pair, whatever the classes and the types.
pub record RanksFirst (cs : List SpacingClass) (k m : Kind) : Type 0 where
  -- "the pair gap 0 of common cut holds if and only if both pieces have the same best-ranked class and it is marked."
  pub cut : SameBest cs k m → pair_gap cs k m ≡ 0
  pub uncut : (SameBest cs k m → ⊥) → pair_gap cs k m ≡ max (kind_gap cs k) (kind_gap cs m)
  -- "All other pairs that share a marked class get the larger of their best-ranked gaps": they had 0.
  pub others : share_marked cs k m ≡ true → (SameBest cs k m → ⊥) → (earlier_gap cs k m ≡ 0) × (pair_gap cs k m ≡ max (kind_gap cs k) (kind_gap cs m))
  -- "No other pair changes": neither those that share no marked class, nor those whose best-ranked class is the same and marked.
  pub unshared : share_marked cs k m ≡ false → pair_gap cs k m ≡ earlier_gap cs k m
  pub still_cut : SameBest cs k m → pair_gap cs k m ≡ earlier_gap cs k m
