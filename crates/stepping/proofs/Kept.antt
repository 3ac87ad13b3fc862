-- Sets kept in words: how many members they have, and that these are candidates.
use mathlib.Core.Bool.{Bool, true, false}
use mathlib.Core.List.{List}
use mathlib.Core.Path.{◌≡◌, refl, sym, ◌∙◌}
use Prim.Native.Nat.{ℕ, ◌*◌, ◌≤◌, ◌<◌}
use native.Mathlib.Nat.{mul-le-mul_right}
use native.Mathlib.Omega.{arith}
use borrow.Author.Tests.{ltb-true}
use Rattle.words.specs.Sets.{member, count_members}
use Rattle.model.specs.Candidate.{is_candidate}
use Rattle.model.specs.Grid.{set_words}
use Rattle.model.specs.Layout.{Layout}
use Rattle.model.specs.Problem.{Problem}
use Rattle.stepping.specs.LiveSets.{set_of, members_of, Spans, Keeps}
use Rattle.stepping.proofs.Counting.{how_many-count_of, count_of-below}
use Rattle.stepping.proofs.Extents.{candidate-below, limit_words}
use Rattle.stepping.proofs.LiveSets.{member-parts}

-- All words of a set have all candidates.
pub spans_all : (j : Problem) (bound : ℕ) → Spans j bound (set_words j.sheet)
spans_all j bound = record { within = omega arith; covers = λ u m c e. omega (arith, candidate-below j u m c, limit_words j.sheet) }

-- No number behind the span is a member.
pub past_span : (j : Problem) (placed : Layout) (bound span u : ℕ) → Spans j bound span → (m : ℕ) → span * 64 ≤ m → set_of j placed bound u m ≡ false
past_span j placed bound span u c m h = go (set_of j placed bound u m) refl
  where
    go : (b : Bool) → set_of j placed bound u m ≡ b → b ≡ false
    go true e =
        let p = member-parts j placed bound u m e in
        absurd (omega (arith, c.covers u m p.0 (ltb-true _ _ p.3)))
    go false e = refl

-- The members of the bytes that keep a set are as many as those of the set.
pub keeps-count : (j : Problem) (placed : Layout) (bound span u : ℕ) (s : List ℕ) → Spans j bound span → Keeps j placed bound span u s
    → count_members (span * 64) s ≡ members_of j placed bound u
unfolding count_members members_of
keeps-count j placed bound span u s c f =
    how_many-count_of (member s) (set_of j placed bound u) (span * 64) f
    ∙ sym (count_of-below (set_of j placed bound u) (span * 64) (set_words j.sheet * 64) (mul-le-mul_right 64 c.within) (past_span j placed bound span u c))

-- Its members are candidates.
pub kept-candidate : (j : Problem) (placed : Layout) (bound span u : ℕ) (s : List ℕ) → Keeps j placed bound span u s → (m : ℕ) → m < span * 64
    → member s m ≡ true → is_candidate j u m ≡ true
kept-candidate j placed bound span u s k m h e = (member-parts j placed bound u m (sym (k m h) ∙ e)).0
