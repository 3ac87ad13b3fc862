-- What the buffer of the given layout gives, by what check says of it; and the walk's beginning once the given layout stands in the answer numbers.
use mathlib.Core.Bool.{Bool, true, false, not, cond}
use mathlib.Core.List.{List, [], ◌∷◌}
use mathlib.Core.Option.{none, some, some-ne-none}
use mathlib.Core.Option as Math
use mathlib.Core.Path.{◌≡◌, refl, sym, ap, ◌∙◌}
use Prim.Native.Nat.{ℕ, ◌+◌, ◌*◌, ◌-◌, ◌/◌, ◌≤◌}
use native.Mathlib.Omega.{arith}
use borrow.Author.Tests.{eqb-true, eq-eqb, not-false}
use lib.Dec.{eqb}
use lib.ListN.{length}
use Rattle.words.specs.Number.{count}
use Rattle.model.specs.Content.{piece_count}
use Rattle.model.specs.Format.{refusal, content}
use Rattle.model.specs.Layout.{Layout, is_entry, ordered, demand_met, apart, passes, layout_length}
use Rattle.model.specs.Lists.{all}
use Rattle.model.specs.Problem.{Problem, under}
use Rattle.model.specs.Services.{numbers_in, layout_in, with_layout, cause11, check_content, given_layout, given_unfit}
use Rattle.std.specs.Prelude.{Option, Some, None, Ok, Err, is_some, unwrap_or}
use Rattle.model.specs.declared.Refusal.{Refusal}
use Rattle.model.specs.declared.Refusal.TheVariants as R
use Rattle.model.proofs.Lists.{and_four, not_both, or_left, or_right}
use Rattle.model.proofs.Search.Demand3.{given_laid, read_held}
use Rattle.model.proofs.Search.Walk.{BeginLaid}
use Rattle.stepping.specs.LiveSets.{bound_of}
use Rattle.stepping.specs.Steps.{Entries}
use Rattle.stepping.proofs.Answer.{layout_after}
use Rattle.stepping.proofs.Extents.{placed_end}
use Rattle.walks.specs.Walk.{held_of}
use Rattle.root.specs.Walked.{Begun}
use Rattle.search.specs.Begin.{BeginsWith}

-- ---- What the buffer gives

-- It has bytes.
pub some_bytes : (layout : List ℕ) → eqb (length layout) 0 ≡ false → length layout ≡ 0 → ⊥
some_bytes layout e z = not_both (eq-eqb (length layout) 0 z) e

module _ (j : Problem) where
  -- No bytes: no layout, and L + 1 bounds nothing.
  pub gives_none : (layout : List ℕ) → length layout ≡ 0 → BeginsWith j layout None
  unfolding given_unfit given_layout bound_of
  gives_none [] e = record { fit = refl; held = refl; bound-is = refl; within = omega arith }
  gives_none (b ∷ bs) e = absurd (omega arith)

  -- What check does not refuse has 4 × N numbers and passes, and what check tells is its length.
  passed : (layout : List ℕ) (len : ℕ) → check_content j layout ≡ Ok len
      → (cause11 j layout ≡ false) × (len ≡ layout_length j (layout_in j layout))
  unfolding check_content
  passed layout len = go (cause11 j layout) refl
    where
      go : (b : Bool) → cause11 j layout ≡ b → cond b (Err R.Layout) (Ok (layout_length j (layout_in j layout))) ≡ Ok len
          → (cause11 j layout ≡ false) × (len ≡ layout_length j (layout_in j layout))
      go true q e = let z : ◌≡◌ {A = ℕ} 0 1 = cc in absurd (omega arith)
      go false q e = (q, cc)

  -- The margin is part of it.
  pub passed-margin : (layout : List ℕ) (len : ℕ) → check_content j layout ≡ Ok len → j.margin ≤ len
  unfolding layout_length
  passed-margin layout len e = omega (arith, (passed layout len e).1)

  refused : (layout : List ℕ) (r : Refusal) → check_content j layout ≡ Err r → (cause11 j layout ≡ true) × (r ≡ R.Layout)
  unfolding check_content
  refused layout r = go (cause11 j layout) refl
    where
      go : (b : Bool) → cause11 j layout ≡ b → cond b (Err R.Layout) (Ok (layout_length j (layout_in j layout))) ≡ Err r
          → (cause11 j layout ≡ true) × (r ≡ R.Layout)
      go true q e = (q, cc)
      go false q e = let z : ◌≡◌ {A = ℕ} 0 1 = cc in absurd (omega arith)

  -- Other bytes: what check refuses is refused;
  pub gives_refusal : (layout : List ℕ) → (length layout ≡ 0 → ⊥) → (r : Refusal) → check_content j layout ≡ Err r
      → (given_unfit j layout ≡ true) × (r ≡ R.Layout)
  unfolding given_unfit
  gives_refusal [] h r e = absurd (h refl)
  gives_refusal (b ∷ bs) h r e = refused (b ∷ bs) r e

  -- what passes is the layout, and its end is its length less the margin.
  pub gives_layout : (layout : List ℕ) → (length layout ≡ 0 → ⊥) → (len : ℕ) → check_content j layout ≡ Ok len
      → BeginsWith j layout (Some (len - j.margin))
  unfolding given_unfit given_layout bound_of layout_length cause11 passes
  gives_layout [] h len e = absurd (h refl)
  gives_layout (b ∷ bs) h len e =
      let es : Layout = layout_in j (b ∷ bs) in
      let r = passed (b ∷ bs) len e in
      let parts = and_four (ordered j es) (demand_met j es) (all (is_entry j) es) (apart j es) (not-false _ (or_right (not (eqb (numbers_in (b ∷ bs)) (4 * piece_count j.kinds))) _ r.0)) in
      record {
        fit = r.0;
        held = refl;
        bound-is = omega (arith, r.1);
        within = omega (arith, r.1, placed_end j es parts.2);
      }

  -- ---- Where it is not refused

  module _ (layout : List ℕ) (best : Option ℕ) (by : BeginsWith j layout best) where
    -- It passes, and has N entries.
    pub begin_laid : BeginLaid j (given_layout j layout)
    begin_laid = given_laid j layout by.fit

    -- A layout that is given stands in its buffer whole.
    pub given_whole : is_some best ≡ true → piece_count j.kinds * 8 ≤ length layout
    unfolding given_unfit given_layout cause11 numbers_in count
    given_whole f = go layout by.fit (sym by.held ∙ ap (λ b. held_of j b layout) f)
      where
        go : (s : List ℕ) → given_unfit j s ≡ false → {es : Layout} → given_layout j s ≡ some es → piece_count j.kinds * 8 ≤ length s
        go [] u {es} e = absurd (some-ne-none es (sym e))
        go (b ∷ bs) u e = let n : length (b ∷ bs) / 2 ≡ 4 * piece_count j.kinds = eqb-true _ _ (not-false _ (or_left (not (eqb (length (b ∷ bs) / 2) (4 * piece_count j.kinds))) (not (passes j (layout_in j (b ∷ bs)))) u)) in omega (arith, n)

-- ---- The answer numbers, once the given layout stands in them

-- It has N entries.
pub begin_entries : (j : Problem) (begin : Math.Option Layout) → BeginLaid j begin → Entries (piece_count j.kinds) begin
begin_entries j none l = tt
begin_entries j (some es) l = l.1

module _ (s : List ℕ) (m : ℕ) (accepted : refusal s ≡ 0) (layout out : List ℕ) (best : Option ℕ) (by : BeginsWith (under m (content s)) layout best) where
  abbrev j : Problem
  j = under m (content s)

  abbrev begin : Math.Option Layout
  begin = given_layout j layout

  -- It is read back from them.
  pub held-again : held_of j (is_some best) (with_layout begin out) ≡ begin
  held-again = go (is_some best) begin by.held (begin_laid j layout best by)
    where
      go : (f : Bool) (h : Math.Option Layout) → held_of j f layout ≡ h → BeginLaid j h → held_of j f (with_layout h out) ≡ h
      go false none e l = refl
      go false (some es) e l = absurd (some-ne-none es (sym e))
      go true none e l = absurd (some-ne-none (layout_in j layout) e)
      go true (some es) e l = ap some (read_held s m accepted es out l)

  -- So the walk begins with it.
  pub begins : Begun j (unwrap_or best (j.sheet.L + 1)) (is_some best) (with_layout begin out)
  begins =
      let n : Entries (piece_count j.kinds) begin = begin_entries j begin (begin_laid j layout best by) in
      record {
        bound-is = by.bound-is ∙ ap (bound_of j) (sym held-again);
        within = by.within;
        written = ap (λ (h : Math.Option Layout). with_layout h (with_layout begin out)) held-again ∙ layout_after (piece_count j.kinds) begin begin out n n (λ e. e);
      }
