-- What bounds the numbers of an accepted job.
use mathlib.Core.Bool.{false, not}
use mathlib.Core.List.{List, [], ◌∷◌, map, Memᴰ}
use mathlib.Core.Path.{◌≡◌, refl}
use Prim.Native.Nat.{ℕ, zero, suc, ◌≤◌, ◌<◌}
use native.Mathlib.Nat.{mul-le-mul}
use native.Mathlib.Omega.{arith}
use borrow.Author.Tests.{ltb-false, leb-true, not-false}
use lib.Dec.{leb, eqb}
use lib.ListN.{length, get_or}
use Rattle.model.specs.Content.{Kind, SpacingClass, kind_at, kind_count, piece_count, no_kind}
use Rattle.model.specs.Format.{Got, bad, got, content, refusal, cause4, cause6, board_of, kinds_unfit, kinds_in, kinds_got, kinds_stated, kinds_length, classes_of}
use Rattle.model.specs.Grid.{set_words}
use Rattle.model.specs.Lists.{between, sum}
use Rattle.model.specs.Problem.{under}
use Rattle.model.specs.Services.{work_words}
use Rattle.model.proofs.Accepted.{accepted-kinds, accepted-dots, KindInRange}
use Rattle.model.proofs.Causes.{no_cause}
use Rattle.model.proofs.Lists.{and_right, or_left, or_right, not_both}

-- The demands of types with nothing wrong sum to 12 at most.
fit-sum : (cs : List SpacingClass) (size : ℕ) (g : Got (List Kind)) → kinds_unfit cs size g ≡ false → sum (map (λ k. k.demand) (kinds_in g)) ≤ 12
unfolding kinds_unfit kinds_in
fit-sum cs size bad e = absurd (not_both refl e)
fit-sum cs size (got ks m) e = ltb-false _ _ (or_right (not (eqb m size)) _ (or_left _ _ e))

module _ (s : List ℕ) (accepted : refusal s ≡ 0) where
  -- "the demands sum to N, at most 12"
  pub few-pieces : piece_count (content s).kinds ≤ 12
  unfolding cause6 content piece_count
  few-pieces = fit-sum (classes_of s) (kinds_length s) (kinds_got s) (or_right (not (between 1 8 (kinds_stated s))) _ (no_cause s accepted).no6)

  -- A set has 64 words at most.
  pub few_words : set_words (content s).sheet ≤ 64
  unfolding set_words
  few_words = omega (arith, accepted-dots s accepted)

  -- "length L .. 1 to 1000"
  pub short-board : (content s).sheet.L ≤ 1000
  unfolding cause4 content between
  short-board =
      let e = (no_cause s accepted).no4 in
      leb-true _ 1000 (and_right (leb 1 (board_of s).L) _ (not-false _ (or_right (not (between 1 1000 (board_of s).W)) _ (or_left _ _ (or_left _ _ e)))))

  -- Each kind is demanded.
  pub demanded : (t : ℕ) → t < kind_count (content s).kinds → 0 < (kind_at (content s).kinds t).demand
  unfolding kind_at kind_count
  demanded t h = go (content s).kinds t h (accepted-kinds s accepted).each-kind
    where
      go : (ks : List Kind) (t : ℕ) → t < length ks → ((k : Kind) → Memᴰ k ks → KindInRange k) → 0 < (get_or ks t no_kind).demand
      go [] t h f = absurd (omega arith)
      go (k ∷ ks) zero h f = (f k (Memᴰ.head refl)).demanded
      go (k ∷ ks) (suc t) h f = go ks t (omega arith) (λ l d. f l (Memᴰ.tail d))

  -- The work words of a run are few.
  pub few-work : (m : ℕ) → work_words (under m (content s)) ≤ 6144
  unfolding work_words
  few-work m = mul-le-mul (mul-le-mul (accepted-kinds s accepted).few-kinds few-pieces) few_words
