-- Completions: the candidate numbers that complete what is placed, whatever the best; and what makes a candidate live.
use mathlib.Core.Bool.{Bool, true, false, not, ◌&&◌, ◌||◌}
use mathlib.Core.List.{List, [], ◌∷◌, ◌++◌, reverse, reverse_aux, Memᴰ}
use mathlib.Core.Logic.{◌⊎◌, inl, inr, ⊎_elim}
use mathlib.Core.Option.{Option, none, some}
use mathlib.Core.Path.{◌≡◌, refl, ◌∙◌}
use Prim.Native.Nat.{ℕ, ◌+◌, max, ◌≤◌, ◌<◌}
use native.Mathlib.Omega.{arith}
use borrow.Author.Tests.{ltb-true, lt-ltb}
use lib.ListN.{get_or}
use Rattle.words.proofs.Cases.{le_or_lt}
use Rattle.model.specs.Layout.{Entry, Layout, entry_of, entry_extent, conflict, largest_end, layout_length}
use Rattle.model.specs.Lists.{any, largest}
use Rattle.model.specs.Problem.{Problem}
use Rattle.model.specs.Search.{free, above_previous, beats, stays_below, live, length_of}
use Rattle.model.proofs.Lists.{and_left, and_right, and_both, not_both}

-- ---- Lengths, and the best so far

-- The largest end with one entry more.
pub end-cons : (j : Problem) (e : Entry) (es : Layout) → largest_end j (e ∷ es) ≡ max (entry_extent j e) (largest_end j es)
unfolding largest_end largest
end-cons j e es = refl

-- The length with one entry more.
pub length-cons : (j : Problem) (e : Entry) (es : Layout) → layout_length j (e ∷ es) ≡ max (entry_extent j e + j.margin) (layout_length j es)
unfolding layout_length largest_end largest
length-cons j e es = omega arith

-- The length of a layout laid the other way round in front of another.
pub length_reverse_aux : (j : Problem) (es fs : Layout) → layout_length j (reverse_aux es fs) ≡ max (layout_length j es) (layout_length j fs)
unfolding layout_length largest_end largest
length_reverse_aux j [] fs = omega arith
length_reverse_aux j (e ∷ es) fs = length_reverse_aux j es (e ∷ fs) ∙ omega arith

-- So a layout and its reverse have one length.
pub length-reverse : (j : Problem) (es : Layout) → layout_length j (reverse es) ≡ layout_length j es
unfolding layout_length largest_end largest
length-reverse j es = length_reverse_aux j es [] ∙ omega arith

-- The length of two layouts, one after the other.
pub length-append : (j : Problem) (es fs : Layout) → layout_length j (es ++ fs) ≡ max (layout_length j es) (layout_length j fs)
unfolding layout_length largest_end largest
length-append j [] fs = omega arith
length-append j (e ∷ es) fs = let ih : layout_length j (es ++ fs) ≡ max (layout_length j es) (layout_length j fs) = length-append j es fs in omega arith

-- This length is below that of the layout held. (Any is, while none is held.)
abbrev pub Shorter : Problem → ℕ → Option Layout → Type 0
Shorter j n none = Unit {0}
Shorter j n (some es) = n < layout_length j es

-- A layout is held, and this length is not below its length.
abbrev pub NoShorter : Problem → ℕ → Option Layout → Type 0
NoShorter j n none = ⊥
NoShorter j n (some es) = layout_length j es ≤ n

-- One of the two is the case.
pub shorter_or_not : (j : Problem) (n : ℕ) (h : Option Layout) → Shorter j n h ⊎ NoShorter j n h
shorter_or_not j n none = inl tt
shorter_or_not j n (some es) = ⊎_elim (λ l. inr l) (λ l. inl l) (le_or_lt (layout_length j es) n)

-- A length below that of the layout held is below one that is not.
pub shorter_lt : (j : Problem) (a b : ℕ) (h : Option Layout) → Shorter j a h → NoShorter j b h → a < b
shorter_lt j a b none s f = absurd f
shorter_lt j a b (some es) s f = omega arith

-- And it is not both.
pub shorter_not : (j : Problem) (n : ℕ) (h : Option Layout) → Shorter j n h → NoShorter j n h → ⊥
shorter_not j n h s f = let l : n < n = shorter_lt j n n h s f in omega arith

-- What is no longer than something shorter is shorter.
pub shorter_le : (j : Problem) (n m : ℕ) (h : Option Layout) → n ≤ m → Shorter j m h → Shorter j n h
shorter_le j n m none l s = tt
shorter_le j n m (some es) l s = omega arith

-- The test of the walk against the best is this comparison with the layout held.
pub beats-shorter : (j : Problem) (n : ℕ) (h : Option Layout) → beats n (length_of j h) ≡ true → Shorter j n h
unfolding beats length_of
beats-shorter j n none e = tt
beats-shorter j n (some es) e = ltb-true _ _ e

-- And the other way round.
pub shorter_beats : (j : Problem) (n : ℕ) (h : Option Layout) → Shorter j n h → beats n (length_of j h) ≡ true
unfolding beats length_of
shorter_beats j n none s = refl
shorter_beats j n (some es) s = lt-ltb _ _ s

-- What is no longer than something below the best is below it.
pub beats-le : {n m : ℕ} (b : Option ℕ) → n ≤ m → beats m b ≡ true → beats n b ≡ true
unfolding beats
beats-le none l e = refl
beats-le {n} {m} (some k) l e = lt-ltb n k (omega (arith, ltb-true m k e))

-- ---- Live candidates

-- What a live candidate is: three tests.
pub live-parts : (j : Problem) (es : Layout) (b : Option ℕ) (t n : ℕ) → live j es b t n ≡ true
    → (beats (layout_length j (entry_of j t n ∷ es)) b ≡ true) × (above_previous j es (entry_of j t n) ≡ true) × (free j es (entry_of j t n) ≡ true)
unfolding live stays_below
live-parts j es b t n e =
    let x : Bool = beats (layout_length j (entry_of j t n ∷ es)) b in
    let y : Bool = above_previous j es (entry_of j t n) in
    let xy : (x && y) ≡ true = and_left (x && y) (free j es (entry_of j t n)) e in
    (and_left x y xy, and_right x y xy, and_right (x && y) (free j es (entry_of j t n)) e)

-- And the other way round.
pub live_of : (j : Problem) (es : Layout) (b : Option ℕ) (t n : ℕ) → beats (layout_length j (entry_of j t n ∷ es)) b ≡ true
    → above_previous j es (entry_of j t n) ≡ true → free j es (entry_of j t n) ≡ true → live j es b t n ≡ true
unfolding live stays_below
live_of j es b t n p q r = and_both _ _ (and_both _ _ p q) r

-- An entry is in conflict with nothing placed if it is not with the latest and not with those before.
pub free-cons : (j : Problem) (f : Entry) (es : Layout) (e : Entry) → conflict j f e ≡ false → free j es e ≡ true → free j (f ∷ es) e ≡ true
unfolding free any
free-cons j f es e p q = rw p q

-- It is not in conflict with the latest piece placed.
pub free-head : (j : Problem) (f : Entry) (es : Layout) (e : Entry) → free j (f ∷ es) e ≡ true → conflict j f e ≡ false
unfolding free any
free-head j f es e p = go (conflict j f e) refl p
  where
    go : (c : Bool) → conflict j f e ≡ c → not (c || any (λ f. conflict j f e) es) ≡ true → conflict j f e ≡ false
    go true d q = absurd (not_both q refl)
    go false d q = d

-- Nor with those before.
pub free-tail : (j : Problem) (f : Entry) (es : Layout) (e : Entry) → free j (f ∷ es) e ≡ true → free j es e ≡ true
unfolding free any
free-tail j f es e p = rw (free-head j f es e p) at p

-- ---- Completions

-- The numbers complete what is placed over the pieces left: there is one for each piece, each is one of its piece's candidates, above the
-- previous copy, and in conflict with nothing placed. The best has no part in it.
abbrev pub Completes : Problem → List (List ℕ) → List ℕ → Layout → List ℕ → Type 0
Completes j cs [] es [] = Unit {0}
Completes j cs [] es (n ∷ ns) = ⊥
Completes j cs (t ∷ ts) es [] = ⊥
Completes j cs (t ∷ ts) es (n ∷ ns) =
    Memᴰ n (get_or cs t [])
    × ((above_previous j es (entry_of j t n) ≡ true)
    × (free j es (entry_of j t n) ≡ true)
    × Completes j cs ts (entry_of j t n ∷ es) ns)

-- Candidate n of type t may follow what is placed, and the numbers complete it then.
abbrev pub CompletesWith : Problem → List (List ℕ) → ℕ → List ℕ → Layout → ℕ → List ℕ → Type 0
CompletesWith j cs t ts es n ns =
    (above_previous j es (entry_of j t n) ≡ true)
    × (free j es (entry_of j t n) ≡ true)
    × Completes j cs ts (entry_of j t n ∷ es) ns

-- A completion over the pieces t and ts that begins with one of these candidates of t.
abbrev pub CompletesFrom : Problem → List (List ℕ) → ℕ → List ℕ → List ℕ → Layout → List ℕ → Type 0
CompletesFrom j cs t ts ms es [] = ⊥
CompletesFrom j cs t ts ms es (n ∷ ns) = Memᴰ n ms × CompletesWith j cs t ts es n ns

-- The pieces placed, the latest first, after candidates of these numbers were placed for these pieces.
abbrev pub laid : Problem → List ℕ → List ℕ → Layout → Layout
laid j [] ns es = es
laid j (t ∷ ts) [] es = es
laid j (t ∷ ts) (n ∷ ns) es = laid j ts ns (entry_of j t n ∷ es)

-- Placing makes nothing shorter.
pub laid_longer : (j : Problem) (ts ns : List ℕ) (es : Layout) → layout_length j es ≤ layout_length j (laid j ts ns es)
laid_longer j [] ns es = omega arith
laid_longer j (t ∷ ts) [] es = omega arith
laid_longer j (t ∷ ts) (n ∷ ns) es =
    let l : layout_length j (entry_of j t n ∷ es) ≤ layout_length j (laid j ts ns (entry_of j t n ∷ es)) = laid_longer j ts ns (entry_of j t n ∷ es) in
    omega (arith, length-cons j (entry_of j t n) es)

-- "The bound cuts off only what holds no passing layout shorter than the best": the first candidate of a shorter completion is live.
pub live-first : (j : Problem) (cs : List (List ℕ)) (t : ℕ) (ts : List ℕ) (es : Layout) (n : ℕ) (ns : List ℕ) (b : Option ℕ)
    → CompletesWith j cs t ts es n ns → beats (layout_length j (laid j ts ns (entry_of j t n ∷ es))) b ≡ true → live j es b t n ≡ true
live-first j cs t ts es n ns b c l = live_of j es b t n (beats-le b (laid_longer j ts ns (entry_of j t n ∷ es)) l) c.0 c.1
