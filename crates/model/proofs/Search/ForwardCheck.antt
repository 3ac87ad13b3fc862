-- Look-ahead cuts off only what holds no completion shorter than the best: where there is one, every type has live candidates for all
-- of its copies left.
use mathlib.Core.Bool.{Bool, true, false, cond}
use mathlib.Core.List.{List, [], ◌∷◌}
use mathlib.Core.Logic.{◌⊎◌, inl, inr}
use mathlib.Core.Option.{Option}
use mathlib.Core.Path.{◌≡◌, refl, sym, subst}
use Prim.Native.Nat.{ℕ, suc, ◌≤◌, ◌<◌}
use native.Mathlib.Omega.{arith}
use borrow.Author.Tests.{ltb-true, eqb-true, eq-eqb, lt-ltb, le-ltb, le-leb}
use lib.Dec.{ltb, eqb}
use lib.ListN.{get_or}
use Rattle.model.specs.Content.{kind_count}
use Rattle.model.specs.Layout.{Entry, Layout, entry_of, entry_number, layout_length}
use Rattle.model.specs.Lists.{count_of}
use Rattle.model.specs.Problem.{Problem}
use Rattle.model.specs.Search.{above_previous, beats, live, copies_left, forward_check}
use Rattle.words.proofs.Cases.{true_or_false}
use Rattle.model.proofs.Lists.{count_of-mono, count_of-more, below_all, not_both}
use Rattle.model.proofs.Search.Completions.{length-cons, beats-le, live-parts, live_of, free-tail, live-first, Completes, laid}

module _ (j : Problem) where
  -- A number above a copy that is above the previous one is above that one too.
  pub above-through : (es : Layout) (e f : Entry) → e.kind ≡ f.kind → entry_number j e < entry_number j f
      → above_previous j es e ≡ true → above_previous j es f ≡ true
  unfolding above_previous
  above-through [] e f k l h = refl
  above-through (g ∷ es) e f k l h =
      go (eqb g.kind f.kind) refl
      (subst (λ (m : ℕ). cond (eqb g.kind m) (ltb (entry_number j g) (entry_number j e)) (above_previous j es e) ≡ true) k h)
      (above-through es e f k l)
    where
      go : (c : Bool) → eqb g.kind f.kind ≡ c
          → cond (eqb g.kind f.kind) (ltb (entry_number j g) (entry_number j e)) (above_previous j es e) ≡ true
          → (above_previous j es e ≡ true → above_previous j es f ≡ true)
          → cond (eqb g.kind f.kind) (ltb (entry_number j g) (entry_number j f)) (above_previous j es f) ≡ true
      go true q h ih =
          let x : ltb (entry_number j g) (entry_number j e) ≡ true = rw q at h in
          rw q (lt-ltb (entry_number j g) (entry_number j f) (omega (arith, ltb-true (entry_number j g) (entry_number j e) x)))
      go false q h ih = rw q (ih (rw q at h))

  -- What is above the previous copy after e was placed was so before.
  above_before : (es : Layout) (e f : Entry) → above_previous j es e ≡ true → above_previous j (e ∷ es) f ≡ true → above_previous j es f ≡ true
  unfolding above_previous
  above_before es e f p h = go (eqb e.kind f.kind) refl
    where
      go : (c : Bool) → eqb e.kind f.kind ≡ c → above_previous j es f ≡ true
      go true q = above-through es e f (eqb-true _ _ q) (ltb-true _ _ (rw q at h)) p
      go false q = rw q at h

  -- What is live after e was placed was live before.
  live-before : (es : Layout) (e : Entry) (b : Option ℕ) (t n : ℕ) → above_previous j es e ≡ true → live j (e ∷ es) b t n ≡ true → live j es b t n ≡ true
  live-before es e b t n p h =
      let parts = live-parts j (e ∷ es) b t n h in
      let x : Entry = entry_of j t n in
      live_of j es b t n
      (beats-le b (omega (arith, length-cons j x es, length-cons j x (e ∷ es), length-cons j e es)) parts.0)
      (above_before es e x p parts.1)
      (free-tail j e es x parts.2)

  -- A candidate just placed is not live for its own type.
  placed-not_live : (es : Layout) (b : Option ℕ) (t n : ℕ) → live j (entry_of j t n ∷ es) b t n ≡ false
  unfolding above_previous
  placed-not_live es b t n = go (true_or_false (live j (entry_of j t n ∷ es) b t n))
    where
      x : Entry
      x = entry_of j t n

      go : (live j (x ∷ es) b t n ≡ true) ⊎ (live j (x ∷ es) b t n ≡ false) → live j (x ∷ es) b t n ≡ false
      go (inr e) = e
      go (inl e) =
          let h : above_previous j (x ∷ es) x ≡ true = (live-parts j (x ∷ es) b t n e).1 in
          absurd (not_both (rw (eq-eqb x.kind x.kind refl) at h) (le-ltb (entry_number j x) (entry_number j x) (omega arith)))

  module _ (cs : List (List ℕ)) (b : Option ℕ) where
    -- A completion shorter than the best has, for every type, at least as many live candidates as copies left.
    copies-live : (ts : List ℕ) (es : Layout) (ns : List ℕ) → Completes j cs ts es ns → beats (layout_length j (laid j ts ns es)) b ≡ true
        → (t : ℕ) → copies_left t ts ≤ count_of (live j es b t) (get_or cs t [])
    unfolding copies_left count_of
    copies-live [] es ns c l t = omega arith
    copies-live (u ∷ ts) es [] c l t = elim c [ ]
    copies-live (u ∷ ts) es (n ∷ ns) c l t = go (eqb t u) refl (copies-live ts (entry_of j u n ∷ es) ns c.1.2 l t)
      where
        x : Entry
        x = entry_of j u n

        before : (t m : ℕ) → live j (x ∷ es) b t m ≡ true → live j es b t m ≡ true
        before t m h = live-before es x b t m c.1.0 h

        fewer : suc (count_of (live j (x ∷ es) b u) (get_or cs u [])) ≤ count_of (live j es b u) (get_or cs u [])
        fewer =
            count_of-more (live j (x ∷ es) b u) (live j es b u) (before u) (get_or cs u []) n c.0 (placed-not_live es b u n)
            (live-first j cs u ts es n ns b c.1 l)

        go : (e : Bool) → eqb t u ≡ e → copies_left t ts ≤ count_of (live j (x ∷ es) b t) (get_or cs t [])
            → copies_left t (u ∷ ts) ≤ count_of (live j es b t) (get_or cs t [])
        go true q ih =
            let f : suc (count_of (live j (x ∷ es) b t) (get_or cs t [])) ≤ count_of (live j es b t) (get_or cs t []) =
            subst (λ (v : ℕ). suc (count_of (live j (x ∷ es) b v) (get_or cs v [])) ≤ count_of (live j es b v) (get_or cs v [])) (sym (eqb-true t u q)) fewer in
            rw q (omega arith)
        go false q ih = rw q (omega (arith, count_of-mono (live j (x ∷ es) b t) (live j es b t) (before t) (get_or cs t [])))

    -- "Look-ahead": where a completion is shorter than the best, the walk goes deeper.
    pub forward_keeps : (ts : List ℕ) (es : Layout) (ns : List ℕ) → Completes j cs ts es ns → beats (layout_length j (laid j ts ns es)) b ≡ true
        → forward_check j cs ts es b ≡ true
    unfolding forward_check
    forward_keeps ts es ns c l = below_all _ (kind_count j.kinds) (λ t h. le-leb _ _ (copies-live ts es ns c l t))
