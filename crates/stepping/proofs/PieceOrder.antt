-- The pieces in their order, kind by kind, and the copies of a kind among those left.
use mathlib.Core.List.{List, [], ◌++◌}
use mathlib.Core.Path.{◌≡◌, refl, sym}
use Prim.Native.Nat.{ℕ, suc, ◌+◌, ◌-◌, ◌≤◌, ◌<◌}
use native.Mathlib.Nat.{sub-zero}
use native.Mathlib.Numerals.{add-one}
use native.Mathlib.Omega.{arith}
use borrow.Author.Tests.{eq-eqb}
use lib.ListN.{replicate}
use Rattle.model.specs.Content.{Kind, kind_at, kind_count, piece_count}
use Rattle.model.specs.Lists.{concat, rising, below}
use Rattle.model.specs.Search.{pieces, copies_left}
use Rattle.model.proofs.Search.Pieces.{count-pieces}
use Rattle.model.proofs.Sorted.{blocks}
use Rattle.stepping.specs.Levels.{piece_kind, pieces_from}
use Rattle.stepping.proofs.Levels.{copies-next}

-- The pieces of the kinds from t on.
unfoldable pub rest_from : List Kind → ℕ → List ℕ
rest_from ks t = blocks (λ t. (kind_at ks t).demand) t (kind_count ks - t)

module _ (ks : List Kind) where
  -- All pieces are those of the kinds from 0 on.
  pub rest_all : pieces ks ≡ rest_from ks 0
  unfolding pieces below rest_from
  rest_all = rw (sub-zero (kind_count ks))

  -- The pieces of a kind, and those of the later kinds.
  pub rest-next : (t : ℕ) → t < kind_count ks → rest_from ks t ≡ replicate (kind_at ks t).demand t ++ rest_from ks (t + 1)
  unfolding rest_from rising concat
  rest-next t h =
      let e : kind_count ks - t ≡ suc (kind_count ks - suc t) = omega arith in
      rw (add-one t, e)

  -- Behind the last kind there are none.
  pub rest-none : (t : ℕ) → kind_count ks ≤ t → rest_from ks t ≡ []
  unfolding rest_from rising concat
  rest-none t h =
      let e : kind_count ks - t ≡ 0 = omega arith in
      rw e

  -- The copies of a kind left: one more before a piece of that kind.
  pub copies-hit : (u l : ℕ) → l < piece_count ks → piece_kind ks l ≡ u → copies_left u (pieces_from ks l) ≡ copies_left u (pieces_from ks (l + 1)) + 1
  copies-hit u l h e = rw (copies-next ks u l h, eq-eqb u (piece_kind ks l) (sym e), add-one l) (omega arith)

  -- Before the first piece all demanded copies are left.
  pub copies-first : (u : ℕ) → u < kind_count ks → copies_left u (pieces_from ks 0) ≡ (kind_at ks u).demand
  unfolding copies_left pieces_from
  copies-first u h = count-pieces ks u h

  -- A copy of a piece's kind is left before the piece.
  pub copies-here : (l : ℕ) → l < piece_count ks → 0 < copies_left (piece_kind ks l) (pieces_from ks l)
  copies-here l h = omega (arith, copies-hit (piece_kind ks l) l h refl)
