-- "Look-ahead and the bound" cut off only what holds no passing layout shorter than the best.
use mathlib.Core.Bool.{true}
use mathlib.Core.List.Memᴰ
use mathlib.Core.List.{[], ◌∷◌, ◌++◌, map, reverse, reverse_aux, Memᴰ}
use mathlib.Core.Logic.{⊎_elim}
use mathlib.Core.Option.{Option}
use mathlib.Core.Path.{◌≡◌, sym, ap, ◌∙◌, subst}
use Prim.Native.Nat.{ℕ}
use native.Mathlib.Omega.{arith}
use Rattle.model.specs.Layout.{Entry, Layout, entry_of, entry_number, is_entry, layout_length, Passes}
use Rattle.model.specs.Lists.{all}
use Rattle.model.specs.Problem.{Problem}
use Rattle.model.specs.Search.{candidate_table, beats, live, forward_check, length_of}
use Rattle.model.proofs.Lists.{and_left, mem_reverse, all_back}
use Rattle.model.proofs.Search.Completions.{length-append, length_reverse_aux, length-reverse, Shorter, shorter_beats, live-first, Completes, laid}
use Rattle.model.proofs.Search.ForwardCheck.{forward_keeps}
use Rattle.model.proofs.Search.Passing.{laid_entries, Leads, Leading, passing-leads, completes-of, entries_of}
use Rattle.model.proofs.Accepted.{Sensible}
use Rattle.model.proofs.Search.Pieces.{entry-of_number}

module _ (j : Problem) (ok : Sensible j) where
  -- In a layout whose entries lead all after them, each of the first lead the others, and these lead all after them.
  leading_back : (front es : Layout) → Leading j (front ++ es) → Leading j es
  leading_back [] es l = l
  leading_back (f ∷ front) es l = leading_back front es l.1

  -- And each of the first leads the others.
  leads_back : (front es : Layout) → Leading j (front ++ es) → (f : Entry) → Memᴰ f front → Leads j f es
  leads_back [] es l f d = absurd (Memᴰ.not-nil d)
  leads_back (g ∷ front) es l f d =
      ⊎_elim (λ q. subst (λ (x : Entry). Leads j x es) (sym q) (λ e m. l.0 e (Memᴰ.append_right front m))) (leads_back front es l.1 f) (Memᴰ.cases_cons d)

  module _ (front : Layout) (e : Entry) (rest : Layout) (p : Passes j (front ++ e ∷ rest)) where
    -- The layout.
    abbrev whole : Layout
    whole = front ++ e ∷ rest

    -- Its entries from e on are candidates.
    offered : all (is_entry j) (e ∷ rest) ≡ true
    offered = all_back (is_entry j) front (e ∷ rest) (passing-leads j whole p).1

    -- What is left of the layout completes what is placed of it.
    rest-completes : Completes j (candidate_table j) (map (λ f. f.kind) (e ∷ rest)) (reverse front) (map (entry_number j) (e ∷ rest))
    rest-completes =
        completes-of j ok.turned (e ∷ rest) (reverse front) offered (leading_back front (e ∷ rest) (passing-leads j whole p).0)
        (λ f d. leads_back front (e ∷ rest) (passing-leads j whole p).0 f (mem_reverse front f d))

    -- And lays out a layout of the same length.
    rest-length : layout_length j (laid j (map (λ f. f.kind) (e ∷ rest)) (map (entry_number j) (e ∷ rest)) (reverse front)) ≡ layout_length j (front ++ e ∷ rest)
    rest-length =
        ap (layout_length j)
        (laid_entries j (map (λ f. f.kind) (e ∷ rest)) (map (entry_number j) (e ∷ rest)) (reverse front)
        ∙ ap (λ (es : Layout). reverse_aux es (reverse front)) (entries_of j ok.turned (e ∷ rest) offered))
        ∙ omega (arith, length_reverse_aux j (e ∷ rest) (reverse front), length-reverse j front, length-append j front (e ∷ rest))

    -- Where a layout that passes is shorter than the best, the walk that has placed the entries before one of its entries finds that
    -- entry's candidate live, and look-ahead lets it go deeper once it has taken it.
    pub never_cut-off : (h : Option Layout) → Shorter j (layout_length j (front ++ e ∷ rest)) h
        → (live j (reverse front) (length_of j h) e.kind (entry_number j e) ≡ true)
        × (forward_check j (candidate_table j) (map (λ f. f.kind) rest) (e ∷ reverse front) (length_of j h) ≡ true)
    unfolding all
    never_cut-off h s =
        let b : Option ℕ = length_of j h in
        let below : beats (layout_length j (laid j (map (λ f. f.kind) (e ∷ rest)) (map (entry_number j) (e ∷ rest)) (reverse front))) b ≡ true =
        shorter_beats j _ h (subst (λ (n : ℕ). Shorter j n h) (sym rest-length) s) in (
          live-first j (candidate_table j) e.kind (map (λ f. f.kind) rest) (reverse front) (entry_number j e) (map (entry_number j) rest) b rest-completes.1 below,
          subst (λ (x : Entry). forward_check j (candidate_table j) (map (λ f. f.kind) rest) (x ∷ reverse front) b ≡ true)
              (entry-of_number j ok.turned e (and_left _ _ offered))
              (forward_keeps j (candidate_table j) b (map (λ f. f.kind) rest) (entry_of j e.kind (entry_number j e) ∷ reverse front) (map (entry_number j) rest) rest-completes.1.2 below),
        )
