-- What an accepted job's content is sure to have: its refusals 1 to 7 are not given.
use mathlib.Core.Bool.{Bool, true, false, not, ◌||◌}
use mathlib.Core.List.Memᴰ
use mathlib.Core.List.{List, [], ◌∷◌, map, Memᴰ}
use mathlib.Core.Logic.{⊎_elim}
use mathlib.Core.Path.{◌≡◌, refl, sym, ap, subst}
use Prim.Native.Nat.{ℕ, zero, suc, ◌≤◌, ◌<◌}
use native.Mathlib.Nat.{not-suc-le-zero}
use native.Mathlib.Omega.{arith}
use borrow.Author.Tests.{ltb-false, leb-true, not-false}
use lib.Dec.{leb, ltb}
use lib.ListN.{length, get_or, drop}
use Rattle.model.specs.Content.{Part, Kind, Board, Job, kind_at, kind_count, piece_count, no_kind}
use Rattle.model.specs.Format.{Got, bad, got, joined, followed, many, byte_at, read_part, head_in_range, with_parts, read_kind, kinds_stated, kind_bytes, kinds_got, kinds_in, board_of, content, cause4, cause6, kinds_unfit, classes_of, kinds_length, refusal}
use Rattle.model.specs.Grid.{dots}
use Rattle.model.specs.Lists.{between, sum}
use Rattle.model.specs.Problem.{Problem, under}
use Rattle.model.proofs.Causes.{no_cause}
use Rattle.model.proofs.Lists.{and_left, and_right, and_four, or_left, or_right, not_both}

-- The number lies between the bounds.
between-true : (lo hi n : ℕ) → between lo hi n ≡ true → (lo ≤ n) × (n ≤ hi)
unfolding between
between-true lo hi n e = (leb-true lo n (and_left _ _ e), leb-true n hi (and_right (leb lo n) _ e))

-- ---- The types

module _ {A : Type 0} (P : A → Type 0) where
  -- What was read, if anything, has the property P.
  abbrev Reads : Got A → Type 0
  Reads bad = Unit {0}
  Reads (got a k) = P a

  -- The n values that were read, if they were, have it.
  abbrev ReadsAll : ℕ → Got (List A) → Type 0
  ReadsAll n bad = Unit {0}
  ReadsAll n (got xs k) = (length xs ≡ n) × ((a : A) → Memᴰ a xs → P a)

  -- One value more, in front of others.
  joined-reads : (n k : ℕ) (a : A) → P a → (g : Got (List A)) → ReadsAll n g → ReadsAll (suc n) (joined a k g)
  unfolding joined
  joined-reads n k a p bad r = tt
  joined-reads n k a p (got xs m) r =
      (ap suc r.0, λ b h. ⊎_elim (λ q. subst P (sym q) p) (λ d. r.1 b d) (Memᴰ.cases_cons h))

  -- What one reading gives has P, so what several give has it.
  many-reads : (f : List ℕ → Got A) → ((s : List ℕ) → Reads (f s)) → (n : ℕ) (s : List ℕ) → ReadsAll n (many f n s)
  unfolding many followed
  many-reads f each zero s = (refl, λ a h. absurd (Memᴰ.not-nil h))
  many-reads f each (suc n) s = go (f s) (each s) (λ k. many-reads f each n (drop k s))
    where
      go : (g : Got A) → Reads g → ((k : ℕ) → ReadsAll n (many f n (drop k s))) → ReadsAll (suc n) (followed g (many f n) s)
      go bad r more = tt
      go (got a k) r more = joined-reads n k a r (many f n (drop k s)) (more k)

-- A type's demand is at least 1 and its turn mask has four bits.
pub record KindInRange (k : Kind) : Type 0 where
  pub demanded : 0 < k.demand
  pub turned : k.rotations < 16

-- So is every type that is read.
parts-read : (s : List ℕ) → head_in_range s ≡ true → (g : Got (List Part)) → Reads KindInRange (with_parts s g)
unfolding head_in_range with_parts
parts-read s e bad = tt
parts-read s e (got ps m) =
    let parts = and_four (leb 4 (length s)) (between 1 12 (byte_at s 0)) (between 1 15 (byte_at s 1)) (between 1 6 (byte_at s 3)) e in
    record {
      demanded = (between-true 1 12 (byte_at s 0) parts.1).0;
      turned = omega (arith, (between-true 1 15 (byte_at s 1) parts.2).1);
    }

-- A type that is read is in range.
kind-reads : (s : List ℕ) → Reads KindInRange (read_kind s)
unfolding read_kind
kind-reads s = go (head_in_range s) refl
  where
    go : (b : Bool) → head_in_range s ≡ b → Reads KindInRange (read_kind s)
    go true e =
        let q : read_kind s ≡ with_parts s (many read_part (byte_at s 3) (drop 4 s)) = rw (e, read_kind) in
        subst (Reads KindInRange) (sym q) (parts-read s e (many read_part (byte_at s 3) (drop 4 s)))
    go false e = let q : read_kind s ≡ bad = rw (e, read_kind) in subst (Reads KindInRange) (sym q) tt

-- "There are 1 to 8 types", each in range.
pub record KindsInRange (j : Job) : Type 0 where
  pub some-kind : 0 < kind_count j.kinds
  pub few-kinds : kind_count j.kinds ≤ 8
  pub each-kind : (k : Kind) → Memᴰ k j.kinds → KindInRange k

-- Types that were read, as many as stated, with nothing wrong.
fit-kinds : (s : List ℕ) (n : ℕ) (g : Got (List Kind)) → kinds_unfit (classes_of s) (kinds_length s) g ≡ false → ReadsAll KindInRange n g
    → (length (kinds_in g) ≡ n) × ((k : Kind) → Memᴰ k (kinds_in g) → KindInRange k)
unfolding kinds_unfit kinds_in
fit-kinds s n bad u r = absurd (not_both refl u)
fit-kinds s n (got ks m) u r = r

-- The types of an accepted job are such types.
pub accepted-kinds : (s : List ℕ) → refusal s ≡ 0 → KindsInRange (content s)
unfolding cause6 content kinds_got kind_count
accepted-kinds s e =
    let c : cause6 s ≡ false = (no_cause s e).no6 in
    let b = between-true 1 8 (kinds_stated s) (not-false _ (or_left _ _ c)) in
    let f = fit-kinds s (kinds_stated s) (kinds_got s) (or_right (not (between 1 8 (kinds_stated s))) _ c)
    (many-reads KindInRange read_kind kind-reads (kinds_stated s) (kind_bytes s)) in
    record { some-kind = rw f.0 b.0; few-kinds = rw f.0 b.1; each-kind = f.1 }

-- The kind of an index is one of the kinds, or none is there.
kind-turned : (ks : List Kind) → ((k : Kind) → Memᴰ k ks → KindInRange k) → (t : ℕ) → (get_or ks t no_kind).rotations < 16
kind-turned [] f t = omega arith
kind-turned (k ∷ ks) f zero = (f k (Memᴰ.head refl)).turned
kind-turned (k ∷ ks) f (suc t) = kind-turned ks (λ l h. f l (Memᴰ.tail h)) t

-- Where there is a type, something is demanded.
some-demand : (ks : List Kind) → 0 < length ks → ((k : Kind) → Memᴰ k ks → KindInRange k) → 0 < sum (map (λ k. k.demand) ks)
unfolding sum
some-demand [] h f = absurd (not-suc-le-zero h)
some-demand (k ∷ ks) h f = omega (arith, (f k (Memᴰ.head refl)).demanded)

-- What the theorems about the walk ask of a problem, and an accepted job under any margin has: a piece, and turn masks of four bits.
pub record Sensible (j : Problem) : Type 0 where
  pub pieced : 0 < piece_count j.kinds
  pub turned : (t : ℕ) → (kind_at j.kinds t).rotations < 16

-- An accepted job has both.
pub accepted-sensible : (s : List ℕ) (m : ℕ) → refusal s ≡ 0 → Sensible (under m (content s))
unfolding kind_at kind_count piece_count
accepted-sensible s m e =
    let k = accepted-kinds s e in
    record { pieced = some-demand (content s).kinds k.some-kind k.each-kind; turned = kind-turned (content s).kinds k.each-kind }

-- "D, the number of dots, is at most 1024."
pub accepted-dots : (s : List ℕ) → refusal s ≡ 0 → dots (content s).sheet ≤ 1024
unfolding cause4 content
accepted-dots s e =
    let b : Board = board_of s in
    let fields : Bool = not (between 1 1000 b.W) || not (between 1 1000 b.L) || not (between 1 1000 b.g) in
    ltb-false _ _ (or_right fields (ltb 1024 (dots b)) (no_cause s e).no4)
