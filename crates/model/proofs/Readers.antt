-- Records read one after the other: one more at the end, and what holds of what was read.
use mathlib.Core.List.{List, [], ◌∷◌, ◌++◌, map}
use mathlib.Core.Path.{◌≡◌, refl, sym, ap, ap₂, subst, ◌∙◌}
use Prim.Native.Nat.{ℕ, zero, suc, ◌+◌, ◌-◌, ◌*◌, ◌<◌, ◌≤◌}
use native.Mathlib.Nat.{add-zero, zero-add, add_assoc, not-suc-le-zero, le_of_suc-le-suc}
use native.Mathlib.Numerals.{add-one}
use native.Mathlib.Omega.{arith}
use lib.ListN.{length, get_or, drop, length-append}
use lib.Seq.{drop-drop}
use Rattle.model.specs.Content.{Kind}
use Rattle.model.specs.Lists.{concat}
use Rattle.model.specs.Format.{Got, bad, got, joined, followed, many, kinds_in}

module _ {A : Type 0} where
  -- A record behind those that were read.
  unfoldable pub appended : List A → ℕ → Got A → Got (List A)
  appended xs m bad = bad
  appended xs m (got x k) = got (xs ++ (x ∷ [])) (m + k)

  unfoldable pub extended : Got (List A) → (ℕ → Got A) → Got (List A)
  extended bad g = bad
  extended (got xs m) g = appended xs m (g m)

  joined-appended : (a : A) (k : ℕ) (ys : List A) (j : ℕ) (g : Got A) → joined a k (appended ys j g) ≡ appended (a ∷ ys) (k + j) g
  unfolding joined appended
  joined-appended a k ys j bad = refl
  joined-appended a k ys j (got x i) = ap (got (a ∷ (ys ++ (x ∷ [])))) (sym (add_assoc k j i))

  module _ (f : List ℕ → Got A) where
    joined-extended : (a : A) (k : ℕ) (s : List ℕ) (g : Got (List A))
        → joined a k (extended g (λ m. f (drop m (drop k s)))) ≡ extended (joined a k g) (λ m. f (drop m s))
    unfolding joined extended
    joined-extended a k s bad = refl
    joined-extended a k s (got ys j) =
        ap (λ r. joined a k (appended ys j (f r))) (drop-drop j k s) ∙ joined-appended a k ys j (f (drop (k + j) s))

    one_extended : (s : List ℕ) (g : Got A) → followed g (many f zero) s ≡ appended [] 0 g
    unfolding followed many joined appended
    one_extended s bad = refl
    one_extended s (got a k) = ap (got (a ∷ [])) (add-zero k ∙ sym (zero-add k))

    followed-extended : (n : ℕ) → ((s : List ℕ) → many f (suc n) s ≡ extended (many f n s) (λ m. f (drop m s))) → (s : List ℕ) (g : Got A)
        → followed g (many f (suc n)) s ≡ extended (followed g (many f n) s) (λ m. f (drop m s))
    unfolding followed extended
    followed-extended n ih s bad = refl
    followed-extended n ih s (got a k) = ap (joined a k) (ih (drop k s)) ∙ joined-extended a k s (many f n (drop k s))

    many-suc : (n : ℕ) (s : List ℕ) → many f (suc n) s ≡ followed (f s) (many f n) s
    unfolding many
    many-suc n s = refl

    -- n + 1 records are n records and one more, read where those end.
    pub many-extended : (n : ℕ) (s : List ℕ) → many f (suc n) s ≡ extended (many f n s) (λ m. f (drop m s))
    unfolding many extended
    many-extended zero s = one_extended s (f s)
    many-extended (suc n) s = followed-extended n (many-extended n) s (f s)

    pub many-none : (s : List ℕ) → many f 0 s ≡ got [] 0
    unfolding many
    many-none s = refl

    pub many_more : (n : ℕ) (s : List ℕ) (xs : List A) (m : ℕ) (x : A) (k : ℕ) → many f n s ≡ got xs m → f (drop m s) ≡ got x k
        → many f (n + 1) s ≡ got (xs ++ (x ∷ [])) (m + k)
    unfolding extended appended
    many_more n s xs m x k e h =
        ap (λ i. many f i s) (add-one n) ∙ many-extended n s ∙ ap (λ g. extended g (λ m. f (drop m s))) e ∙ ap (appended xs m) h

    pub many-bad-next : (n : ℕ) (s : List ℕ) (xs : List A) (m : ℕ) → many f n s ≡ got xs m → f (drop m s) ≡ bad → many f (suc n) s ≡ bad
    unfolding extended appended
    many-bad-next n s xs m e h = many-extended n s ∙ ap (λ g. extended g (λ m. f (drop m s))) e ∙ ap (appended xs m) h

    -- What cannot be read stays so, however many more are asked for.
    pub many-stays-bad : (n l : ℕ) (s : List ℕ) → many f n s ≡ bad → many f (n + l) s ≡ bad
    unfolding extended
    many-stays-bad n zero s e = ap (λ i. many f i s) (add-zero n) ∙ e
    many-stays-bad n (suc l) s e =
        ap (λ i. many f i s) (native.Mathlib.Nat.add-suc n l) ∙ many-extended (n + l) s
        ∙ ap (λ g. extended g (λ m. f (drop m s))) (many-stays-bad n l s e)

    -- Where the record at which n are read cannot be read, more than n cannot be.
    pub many-bad : (n l : ℕ) (s : List ℕ) (xs : List A) (m : ℕ) → n < l → many f n s ≡ got xs m → f (drop m s) ≡ bad → many f l s ≡ bad
    many-bad n l s xs m h e b =
        let q : suc n + (l - suc n) ≡ l = omega arith in
        ap (λ i. many f i s) (sym q) ∙ many-stays-bad (suc n) (l - suc n) s (many-bad-next n s xs m e b)

    -- What holds of no record, and of one in front of others where it holds of those, holds of all that were read. It may speak of the bytes.
    module _ (Q : ℕ → List ℕ → List A → ℕ → Type 0) (none : (s : List ℕ) → Q 0 s [] 0)
        (more : (n : ℕ) (s : List ℕ) (a : A) (k : ℕ) (xs : List A) (m : ℕ) → f s ≡ got a k → Q n (drop k s) xs m → Q (suc n) s (a ∷ xs) (k + m)) where
      abbrev Holds : ℕ → List ℕ → Got (List A) → Type 0
      Holds n s bad = Unit {0}
      Holds n s (got xs m) = Q n s xs m

      holds-joined : (n : ℕ) (s : List ℕ) (a : A) (k : ℕ) (g : Got (List A)) → f s ≡ got a k → Holds n (drop k s) g → Holds (suc n) s (joined a k g)
      unfolding joined
      holds-joined n s a k bad e h = tt
      holds-joined n s a k (got xs m) e h = more n s a k xs m e h

      holds-followed : (n : ℕ) → ((s : List ℕ) → Holds n s (many f n s)) → (s : List ℕ) (g : Got A) → f s ≡ g → Holds (suc n) s (followed g (many f n) s)
      unfolding followed
      holds-followed n ih s bad e = tt
      holds-followed n ih s (got a k) e = holds-joined n s a k (many f n (drop k s)) e (ih (drop k s))

      holds : (n : ℕ) (s : List ℕ) → Holds n s (many f n s)
      unfolding many
      holds zero s = none s
      holds (suc n) s = holds-followed n (holds n) s (f s) refl

      pub many-holds : (n : ℕ) (s : List ℕ) (xs : List A) (m : ℕ) → many f n s ≡ got xs m → Q n s xs m
      many-holds n s xs m e = subst (Holds n s) e (holds n s)

    -- As many were read as were asked for.
    pub many-length : (n : ℕ) (s : List ℕ) (xs : List A) (m : ℕ) → many f n s ≡ got xs m → length xs ≡ n
    many-length = many-holds (λ n s xs m. length xs ≡ n) (λ s. refl) (λ n s a k xs m e h. ap suc h)

    -- Records of at least c bytes each take at least c bytes each together.
    pub many-least : (c : ℕ) → ((s : List ℕ) (a : A) (k : ℕ) → f s ≡ got a k → c ≤ k)
        → (n : ℕ) (s : List ℕ) (xs : List A) (m : ℕ) → many f n s ≡ got xs m → n * c ≤ m
    many-least c each = many-holds (λ n s xs m. n * c ≤ m) (λ s. omega arith) (λ n s a k xs m e h. omega (arith, each s a k e))

    -- What holds of each record that can be read holds of all that were.
    module _ (d : A) (P : A → Type 0) (each : (s : List ℕ) (a : A) (k : ℕ) → f s ≡ got a k → P a) where
      in_front : (a : A) (xs : List A) → P a → ((i : ℕ) → i < length xs → P (get_or xs i d)) → (i : ℕ) → i < length (a ∷ xs) → P (get_or (a ∷ xs) i d)
      in_front a xs p h zero l = p
      in_front a xs p h (suc i) l = h i (le_of_suc-le-suc l)

      pub many-each : (n : ℕ) (s : List ℕ) (xs : List A) (m : ℕ) → many f n s ≡ got xs m → (i : ℕ) → i < length xs → P (get_or xs i d)
      many-each =
          many-holds (λ n s xs m. (i : ℕ) → i < length xs → P (get_or xs i d)) (λ s i h. absurd (not-suc-le-zero h))
          (λ n s a k xs m e h. in_front a xs (each s a k e) h)

    -- Lists that are as long as the bytes of each record are together as long as the bytes of all.
    pub many-sum : (g : A → List ℕ) → ((s : List ℕ) (a : A) (k : ℕ) → f s ≡ got a k → length (g a) ≡ k)
        → (n : ℕ) (s : List ℕ) (xs : List A) (m : ℕ) → many f n s ≡ got xs m → length (concat (map g xs)) ≡ m
    unfolding concat
    many-sum g each =
        many-holds (λ n s xs m. length (concat (map g xs)) ≡ m) (λ s. refl)
        (λ n s a k xs m e h. length-append (g a) (concat (map g xs)) ∙ ap₂ (λ x y. x + y) (each s a k e) h)

-- The kinds that were read.
pub kinds-got : (g : Got (List Kind)) (ks : List Kind) (m : ℕ) → g ≡ got ks m → kinds_in g ≡ ks
unfolding kinds_in
kinds-got g ks m e = ap kinds_in e
