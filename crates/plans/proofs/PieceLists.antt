-- The kinds of the pieces in an array: where it begins with the list of them, and the copies of a kind among those from a piece on.
use mathlib.Core.Bool.{Bool, true, false, cond}
use mathlib.Core.List.{List, ◌++◌, append-nil, append_assoc}
use mathlib.Core.Path.{◌≡◌, refl, sym, ap, ◌∙◌}
use Prim.Native.Nat.{ℕ, ◌+◌, ◌-◌, ◌≤◌, ◌<◌}
use native.Mathlib.Omega.{arith}
use lib.Dec.{eqb}
use lib.ListN.{length, get_or, take, drop, replicate, length-append, length-drop, length-replicate}
use Rattle.std.specs.List.{count_by}
use Rattle.std.proofs.lemmas.Slice.{take-put_mid}
use borrow.Rule.Slice.PartMut.{put_mid}
use Rattle.std.proofs.lemmas.List.{get_or-take, drop-take, length-take-le}
use Rattle.std.proofs.lemmas.List.Recursion.{is_count_by}
use Rattle.std.proofs.lemmas.Grind.{same_number_lists}
use Rattle.model.specs.Content.{Kind, kind_at, kind_count, piece_count}
use Rattle.model.specs.Lists.{count_of}
use Rattle.model.specs.Search.{pieces, copies_left}
use Rattle.model.proofs.Permuted.{eqb_comm}
use Rattle.model.proofs.Search.Pieces.{length-pieces}
use Rattle.stepping.specs.Levels.{piece_kind, pieces_from}
use Rattle.stepping.proofs.PieceOrder.{rest_from, rest-next, rest-none, rest_all}
use Rattle.plans.specs.Planned.{KindsOf}

-- The two ways of counting the elements that are u.
one_more : (b : Bool) (n : ℕ) → cond b 1 0 + n ≡ cond b (1 + n) n
one_more true n = refl
one_more false n = omega arith

counted : (u : ℕ) (xs : List ℕ) → count_by (λ k. eqb k u) xs ≡ count_of (eqb u) xs
unfolding count_of
counted u xs =
    sym (is_count_by (count_of (eqb u)) (λ k. eqb k u) refl
    (λ x ys. one_more (eqb u x) (count_of (eqb u) ys) ∙ ap (λ b. cond b (1 + count_of (eqb u) ys) (count_of (eqb u) ys)) (eqb_comm u x)) xs)

module _ (ks : List Kind) (kinds : List ℕ) where
  -- The first l of them are the pieces before those of kind t and later ones.
  abbrev pub Before : ℕ → ℕ → Type 0
  Before l t = take l kinds ++ rest_from ks t ≡ pieces ks

  -- So many pieces there are, and there is room for those of kind t.
  pub room : (l t : ℕ) → l ≤ length kinds → t < kind_count ks → Before l t → l + (kind_at ks t).demand ≤ piece_count ks
  room l t h k b =
      omega (
        arith,
        length-pieces ks,
        ap length b,
        length-append (take l kinds) (rest_from ks t),
        length-take-le l kinds h,
        ap length (rest-next ks t k),
        length-append (replicate (kind_at ks t).demand t) (rest_from ks (t + 1)),
        length-replicate (kind_at ks t).demand t,
      )

  -- Behind the last kind the array has the kinds of all pieces.
  pub all_told : (l t : ℕ) → l ≤ length kinds → kind_count ks ≤ t → Before l t → KindsOf ks kinds
  unfolding piece_kind
  all_told l t h k b i n =
      let e : take l kinds ≡ pieces ks = sym (append-nil (take l kinds)) ∙ ap (λ (xs : List ℕ). take l kinds ++ xs) (sym (rest-none ks t k)) ∙ b in
      let c : l ≡ piece_count ks = sym (length-take-le l kinds h) ∙ ap length e ∙ length-pieces ks in
      sym (get_or-take l kinds i 0 (omega arith)) ∙ ap (λ (xs : List ℕ). get_or xs i 0) e

  -- The copies of kind u from piece l on.
  pub copies-counted : (u l : ℕ) → piece_count ks ≤ length kinds → KindsOf ks kinds → l ≤ piece_count ks
      → count_by (λ k. eqb k u) (take (piece_count ks - l) (drop l kinds)) ≡ copies_left u (pieces_from ks l)
  unfolding copies_left pieces_from piece_kind
  copies-counted u l h k b =
      let n = length-take-le (piece_count ks) kinds h in
      let e : take (piece_count ks) kinds ≡ pieces ks =
      same_number_lists _ _ (n ∙ sym (length-pieces ks)) (λ i q. get_or-take (piece_count ks) kinds i 0 (omega (arith, n)) ∙ k i (omega (arith, n))) in
      let m : l + (piece_count ks - l) ≡ piece_count ks = omega arith in
      counted u (take (piece_count ks - l) (drop l kinds))
      ∙ ap (count_of (eqb u)) (sym (drop-take l (piece_count ks - l) kinds) ∙ ap (λ n. drop l (take n kinds)) m ∙ ap (drop l) e)

-- Filled in behind the first l are the pieces of kind t.
pub before-next : (ks : List Kind) (kinds ys : List ℕ) (l t demand k : ℕ) → l ≤ length kinds → t < kind_count ks → demand ≡ (kind_at ks t).demand → ys ≡ replicate (kind_at ks t).demand t
    → Before ks kinds l t → Before ks (put_mid l k kinds ys) (l + demand) (t + 1)
before-next ks kinds ys l t demand k h i d e b =
    let n : l + demand ≡ l + length ys = omega (arith, d, ap length e, length-replicate (kind_at ks t).demand t) in
    ap (λ (xs : List ℕ). xs ++ rest_from ks (t + 1)) (take-put_mid l k kinds ys (l + demand) n h ∙ ap (λ (xs : List ℕ). take l kinds ++ xs) e)
    ∙ append_assoc (take l kinds) (replicate (kind_at ks t).demand t) (rest_from ks (t + 1))
    ∙ ap (λ (xs : List ℕ). take l kinds ++ xs) (sym (rest-next ks t i))
    ∙ b

pub before-none : (ks : List Kind) (kinds : List ℕ) → Before ks kinds 0 0
before-none ks kinds = sym (rest_all ks)

-- An array that is filled in keeps its length.
pub filled-length : (kinds ys : List ℕ) (l demand k : ℕ) → l + demand ≤ length kinds → k ≡ demand → length ys ≡ demand → length (put_mid l k kinds ys) ≡ length kinds
filled-length kinds ys l demand k h e q =
    rw (length-append, length-append, length-take-le l kinds (omega arith)) (omega (arith, length-drop k (drop l kinds), length-drop l kinds))
