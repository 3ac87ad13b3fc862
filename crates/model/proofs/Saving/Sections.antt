-- Sections that share no byte are together no longer than the room that they stand in.
use mathlib.Core.Bool.{Bool, true, false, cond, ◌&&◌, and-false}
use mathlib.Core.List.{List, [], ◌∷◌, ◌++◌, map, Memᴰ}
use mathlib.Core.Path.{◌≡◌, refl, ap, ap₂, ◌∙◌}
use Prim.Native.Nat.{ℕ, ◌+◌, ◌-◌, ◌≤◌, ◌<◌, min, max}
use native.Mathlib.Nat.{zero-add}
use native.Mathlib.Omega.{arith}
use borrow.Author.Tests.{leb-true, ltb-true, ltb-false, le-leb, lt-ltb, le-ltb, lt-leb}
use lib.Dec.{leb, ltb}
use lib.ListN.{length}
use Rattle.model.proofs.Folds.{rising-append}
use Rattle.model.proofs.Lists.{and_left, and_right, and_both, length-rising}
use Rattle.model.proofs.Sorted.{mem_rising, count_of-append, count_of-none}
use Rattle.model.specs.Format.{Section, share_byte}
use Rattle.model.specs.Lists.{count_of, sum, rising}
use Rattle.model.specs.ContentFit.{Each}

-- No two of the sections share a byte.
abbrev pub Apart : List Section → Type 0
Apart [] = Unit {0}
Apart (a ∷ bs) = Each (λ b. share_byte a b ≡ false) bs × Apart bs

-- Byte i is one of the section's.
inside : ℕ → Section → Bool
inside i a = leb a.offset i && ltb i (a.offset + a.size)

-- ---- How many bytes a section has

count-every : (p : ℕ → Bool) (ns : List ℕ) → ((n : ℕ) → Memᴰ n ns → p n ≡ true) → count_of p ns ≡ length ns
unfolding count_of
count-every p [] f = refl
count-every p (n ∷ ns) f = rw (f n (Memᴰ.head refl), count-every p ns (λ m d. f m (Memᴰ.tail d))) (omega arith)

-- The numbers below t, cut where the section begins and where it ends.
cut : (o n t : ℕ) → o + n ≤ t → rising 0 t ≡ rising 0 o ++ (rising o n ++ rising (o + n) (t - (o + n)))
cut o n t h =
    let q : t ≡ o + (n + (t - (o + n))) = omega arith in
    ap (rising 0) q ∙ rising-append 0 o (n + (t - (o + n)))
    ∙ ap (λ r. rising 0 o ++ r) (ap (λ i. rising i (n + (t - (o + n)))) (zero-add o) ∙ rising-append o n (t - (o + n)))

count-inside : (t : ℕ) (a : Section) → a.offset + a.size ≤ t → count_of (λ i. inside i a) (rising 0 t) ≡ a.size
unfolding inside
count-inside t a h =
    let o : ℕ = a.offset in
    let n : ℕ = a.size in
    let p : ℕ → Bool = λ i. inside i a in
    let before : count_of p (rising 0 o) ≡ 0 =
    count_of-none p (rising 0 o) (λ i d. ap (λ b. b && ltb i (o + n)) (lt-leb o i (omega (arith, (mem_rising 0 o i d).1)))) in
    let within : count_of p (rising o n) ≡ n =
    count-every p (rising o n) (λ i d. and_both _ _ (le-leb o i (mem_rising o n i d).0) (lt-ltb i (o + n) (mem_rising o n i d).1))
    ∙ length-rising o n in
    let behind : count_of p (rising (o + n) (t - (o + n))) ≡ 0 =
    count_of-none p (rising (o + n) (t - (o + n)))
    (λ i d. ap (λ b. leb o i && b) (le-ltb i (o + n) (mem_rising (o + n) (t - (o + n)) i d).0) ∙ and-false (leb o i)) in
    ap (count_of p) (cut o n t h) ∙ count_of-append p (rising 0 o) (rising o n ++ rising (o + n) (t - (o + n)))
    ∙ ap₂ (λ x y. x + y) before (count_of-append p (rising o n) (rising (o + n) (t - (o + n))) ∙ ap₂ (λ x y. x + y) within behind)
    ∙ omega arith

-- ---- Each byte is in one section at most

apart-at : (i : ℕ) (a b : Section) → share_byte a b ≡ false → inside i a ≡ true → inside i b ≡ false
unfolding inside share_byte
apart-at i a b h e = go (inside i b) refl
  where
    go : (c : Bool) → inside i b ≡ c → c ≡ false
    go true f =
        let l : min (a.offset + a.size) (b.offset + b.size) ≤ max a.offset b.offset = ltb-false _ _ h in
        let a0 : a.offset ≤ i = leb-true _ _ (and_left (leb a.offset i) _ e) in
        let a1 : i < a.offset + a.size = ltb-true _ _ (and_right (leb a.offset i) _ e) in
        let b0 : b.offset ≤ i = leb-true _ _ (and_left (leb b.offset i) _ f) in
        let b1 : i < b.offset + b.size = ltb-true _ _ (and_right (leb b.offset i) _ f) in
        absurd (omega arith)
    go false f = refl

none_inside : (i : ℕ) (a : Section) (bs : List Section) → Each (λ b. share_byte a b ≡ false) bs → inside i a ≡ true → count_of (inside i) bs ≡ 0
unfolding count_of
none_inside i a [] h e = refl
none_inside i a (b ∷ bs) h e = rw (apart-at i a b h.0 e, none_inside i a bs h.1 e)

one_inside : (i : ℕ) (bs : List Section) → Apart bs → count_of (inside i) bs ≤ 1
unfolding count_of
one_inside i [] h = omega arith
one_inside i (a ∷ bs) h = go (inside i a) refl (one_inside i bs h.1)
  where
    go : (c : Bool) → inside i a ≡ c → count_of (inside i) bs ≤ 1 → cond (inside i a) 1 0 + count_of (inside i) bs ≤ 1
    go true e r = rw (e, none_inside i a bs h.0 e) (omega arith)
    go false e r = rw e (omega arith)

-- ---- Together

-- The bytes of each section among these, added up.
added : List Section → List ℕ → ℕ
added bs ns = sum (map (λ b. count_of (λ i. inside i b) ns) bs)

added_none : (bs : List Section) → added bs [] ≡ 0
unfolding added sum count_of
added_none [] = refl
added_none (b ∷ bs) = omega (arith, added_none bs)

added_more : (bs : List Section) (n : ℕ) (ns : List ℕ) → added bs (n ∷ ns) ≡ count_of (inside n) bs + added bs ns
unfolding added sum count_of
added_more [] n ns = refl
added_more (b ∷ bs) n ns = omega (arith, added_more bs n ns)

added_most : (bs : List Section) → Apart bs → (ns : List ℕ) → added bs ns ≤ length ns
added_most bs h [] = omega (arith, added_none bs)
added_most bs h (n ∷ ns) = omega (arith, added_more bs n ns, one_inside n bs h, added_most bs h ns)

added_all : (t : ℕ) (bs : List Section) → Each (λ b. b.offset + b.size ≤ t) bs → added bs (rising 0 t) ≡ sum (map (λ b. b.size) bs)
unfolding added sum
added_all t [] h = refl
added_all t (b ∷ bs) h = ap₂ (λ x y. x + y) (count-inside t b h.0) (added_all t bs h.1)

-- Sections that end at t at the latest and share no byte have no more than t bytes in all.
pub sizes-fit : (t : ℕ) (bs : List Section) → Each (λ b. b.offset + b.size ≤ t) bs → Apart bs → sum (map (λ b. b.size) bs) ≤ t
sizes-fit t bs h a = omega (arith, added_all t bs h, added_most bs a (rising 0 t), length-rising 0 t)
