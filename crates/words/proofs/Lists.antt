-- Elements of two lists, one after the other, and lists of bytes.
use mathlib.Core.Path.{◌≡◌, ap, ap₂, subst, ◌∙◌}
use mathlib.Core.List.{List, [], ◌∷◌, ◌++◌}
use Prim.Native.Nat.{ℕ, zero, suc, ◌+◌, ◌≤◌, ◌<◌}
use native.Mathlib.Nat.{add-zero, zero-add}
use native.Mathlib.Omega.{arith}
use lib.ListN.{length, get_or, set, take, drop, get_or-append}
use lib.Seq.{get_or-append-add, get_or-drop, sets, sets-eq}
use Rattle.words.specs.Bytes.{AreBytes}

-- What stands m places behind a first list of n elements.
pub get_or-behind : (p q : List ℕ) (n m : ℕ) → length p ≡ n → get_or (p ++ q) (n + m) 0 ≡ get_or q m 0
get_or-behind p q n m e = subst (λ (k : ℕ). get_or (p ++ q) (k + m) 0 ≡ get_or q m 0) e (get_or-append-add p q m 0)

-- What stands within a first list of n elements.
pub get_or-within : (p q : List ℕ) (n m : ℕ) → length p ≡ n → m < n → get_or (p ++ q) m 0 ≡ get_or p m 0
get_or-within p q n m e h = get_or-append p q 0 m (rw e h)

-- Elements stored from index i on, and others behind them, are all of them stored from there on.
pub sets-append : (l : List ℕ) (i : ℕ) (vs ws : List ℕ) → sets (sets l i vs) (i + length vs) ws ≡ sets l i (vs ++ ws)
sets-append l i [] ws = ap (λ k. sets l k ws) (add-zero i)
sets-append l i (v ∷ vs) ws =
    let next : i + suc (length vs) ≡ suc i + length vs = omega arith in
    ap (λ k. sets (sets (set l i v) (suc i) vs) k ws) next ∙ sets-append (set l i v) (suc i) vs ws

pub sets_then : (i j : ℕ) (vs ws l u v : List ℕ) → j ≡ i + length vs → u ≡ sets l i vs → v ≡ sets u j ws → v ≡ sets l i (vs ++ ws)
sets_then i j vs ws l u v e eu ev = ev ∙ ap₂ (λ k m. sets k m ws) eu e ∙ sets-append l i vs ws

-- Stored at the front of a list that has room, they are its first elements, and what is behind stays.
pub sets-front : (vs l : List ℕ) → length vs ≤ length l → sets l 0 vs ≡ vs ++ drop (length vs) l
sets-front vs l h = sets-eq vs l 0 (omega arith) ∙ ap (λ n. vs ++ drop n l) (zero-add (length vs))

-- Two lists of bytes, one after the other, the first k of one and what is behind them are lists of bytes.
pub bytes-append : (p q : List ℕ) → AreBytes p → AreBytes q → AreBytes (p ++ q)
bytes-append [] q hp hq i = hq i
bytes-append (b ∷ p) q hp hq zero = hp 0
bytes-append (b ∷ p) q hp hq (suc i) = bytes-append p q (λ j. hp (suc j)) hq i

pub bytes_drop : (k : ℕ) (s : List ℕ) → AreBytes s → AreBytes (drop k s)
bytes_drop k s h i = rw get_or-drop (h (k + i))

pub bytes_take : (k : ℕ) (s : List ℕ) → AreBytes s → AreBytes (take k s)
bytes_take zero s h i = omega arith
bytes_take (suc k) [] h i = omega arith
bytes_take (suc k) (b ∷ s) h zero = h 0
bytes_take (suc k) (b ∷ s) h (suc i) = bytes_take k s (λ j. h (suc j)) i
