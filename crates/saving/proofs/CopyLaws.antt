-- The law of a copy, byte by byte.
use mathlib.Core.List.{List, [], ◌∷◌, ◌++◌}
use mathlib.Core.Path.{◌≡◌, refl, sym, ap, ◌∙◌}
use Prim.Native.Nat.{ℕ, ◌+◌, ◌<◌}
use native.Mathlib.Numerals.{add-one}
use native.Mathlib.Omega.{arith}
use lib.ListN.{length, get_or, set, take, drop, length-drop}
use lib.Seq.{sets, take-suc, get_or-drop, length-take-le}
use Rattle.words.proofs.Lists.{sets_then}

module _ (s : List ℕ) (from at : ℕ) where
  -- The first k bytes from byte `from` on.
  abbrev first : ℕ → List ℕ
  first k = take k (drop from s)

  pub copy_more : (k : ℕ) (a u : List ℕ) → from + k < length s → u ≡ sets a at (first k) → set u (at + k) (get_or s (from + k) 0) ≡ sets a at (first (k + 1))
  copy_more k a u h eu =
      let long : length (first k) ≡ k = length-take-le k (drop from s) (omega (arith, length-drop from s)) in
      sets_then at (at + k) (first k) (get_or s (from + k) 0 ∷ []) a u _ (omega arith) eu refl
      ∙ ap (λ b. sets a at (first k ++ (b ∷ []))) (sym (get_or-drop from s k 0))
      ∙ ap (sets a at) (sym (take-suc (drop from s) k 0 (omega (arith, length-drop from s))) ∙ ap first (sym (add-one k)))
