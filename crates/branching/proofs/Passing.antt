-- The next live candidate: the next member of a set, and what it says of the candidates.
use mathlib.Core.Bool.{true, false}
use mathlib.Core.List.{List}
use mathlib.Core.Logic.{◌⊎◌, inl, inr}
use Rattle.std.specs.Prelude.{Option, Some, None}
use mathlib.Core.Path.{◌≡◌, sym, ◌∙◌, subst}
use Prim.Native.Nat.{ℕ, ◌+◌, ◌-◌, ◌*◌, max, ◌≤◌, ◌<◌}
use native.Mathlib.Omega.{arith}
use Rattle.words.specs.Sets.{member, next_member}
use Rattle.words.proofs.Cases.{le_or_lt}
use Rattle.words.proofs.First.{Found, found}
use Rattle.model.specs.Layout.{Layout, entry_of, entry_extent}
use Rattle.model.specs.Problem.{Problem}
use Rattle.stepping.specs.LiveSets.{set_of, Spans, Keeps}
use Rattle.stepping.proofs.Kept.{past_span}
use Rattle.branching.specs.Choosing.{FirstMember, NextMember, NextLive}
use Rattle.branching.specs.declared.choosing.Next.{Next}

-- ---- The next member

-- What the next member is.
next_found : (s : List ℕ) (limit from : ℕ)
    → (from ≤ next_member limit s from)
    × ((i : ℕ) → from ≤ i → i < next_member limit s from → (i < limit) × (member s i ≡ false))
    × (next_member limit s from < limit → member s (next_member limit s from) ≡ true)
unfolding next_member
next_found s limit from =
    let m : ℕ = (found (member s) (limit - from) from).0 in
    let f : Found (member s) (limit - from) from m = (found (member s) (limit - from) from).1 in (
      omega (arith, f.place),
      λ i l h.
          let e : from + (i - from) ≡ i = omega arith in
          let k : i - from < m = omega (arith, f.place) in
          (omega (arith, f.within), subst (λ (n : ℕ). member s n ≡ false) e (f.before (i - from) k)),
      λ h. subst (λ (n : ℕ). member s n ≡ true) (sym f.place) (f.met (omega (arith, f.place))),
    )

-- Below the limit it is a member.
pub next_is_member : (s : List ℕ) (limit from n : ℕ) → n ≡ next_member limit s from → n < limit → member s n ≡ true
next_is_member s limit from n e l = rw e ((next_found s limit from).2 (rw (← e) l))

module _ (s : List ℕ) (limit from n : ℕ) (e : n ≡ next_member limit s from) where
  passed_over : (i : ℕ) → from ≤ i → i < n → (i < limit) × (member s i ≡ false)
  passed_over i p q = (next_found s limit from).1 i p (rw (← e) q)

  -- There is a member.
  pub member-found : (j : Problem) (u end own end' : ℕ) → n < limit → own ≡ entry_extent j (entry_of j u n) → end' ≡ max own end
      → FirstMember j u end s limit from (record { number = n; extent = end' })
  member-found j u end own end' l g m =
      record {
        above = rw e (next_found s limit from).0;
        passed = λ i p q. (passed_over i p q).1;
        small = l;
        member = next_is_member s limit from n e l;
        reaches = rw (← g) m;
      }

  -- There is none.
  pub member-none : limit ≤ n → (i : ℕ) → from ≤ i → i < limit → member s i ≡ false
  member-none l i p q = (passed_over i p (omega arith)).1

-- ---- What it says of the candidates

module _ (j : Problem) (placed : Layout) (bound u end from span : ℕ) (s : List ℕ) (c : Spans j bound span) (k : Keeps j placed bound span u s) where
  -- The first member is the first live candidate, and behind the span there is none.
  pub live-member : (r : Option Next) → end < bound → NextMember j u end s (span * 64) from r → NextLive j placed bound u end from r
  live-member (Some r) o b =
      record {
        above = b.above;
        passed = λ i p q. sym (k i (omega (arith, b.small))) ∙ b.passed i p q;
        live = record { small = omega (arith, b.small, c.within); below = o; member = sym (k r.number b.small) ∙ b.member; reaches = b.reaches };
      }
  live-member None o b = inr (λ i p. go i p (le_or_lt (span * 64) i))
    where
      go : (i : ℕ) → from ≤ i → (span * 64 ≤ i) ⊎ (i < span * 64) → set_of j placed bound u i ≡ false
      go i p (inl l) = past_span j placed bound span u c i l
      go i p (inr l) = sym (k i l) ∙ b i p l
