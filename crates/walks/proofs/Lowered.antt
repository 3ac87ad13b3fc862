-- A new best: the live sets that were trimmed are those at the new bound, and the words left have all their members.
use mathlib.Core.Bool.{Bool, true, false, ◌&&◌}
use mathlib.Core.List.{List, []}
use mathlib.Core.Logic.{◌⊎◌, inl, inr}
use mathlib.Core.Path.{◌≡◌, sym, ap, ◌∙◌}
use Prim.Native.Nat.{ℕ, suc, ◌+◌, ◌*◌, ◌/◌, ◌%◌, ◌≤◌, ◌<◌}
use native.Mathlib.Nat.{suc-mul, mul-le-mul_right}
use native.Mathlib.Omega.{arith}
use borrow.Author.Tests.{lt-ltb}
use Rattle.words.specs.Bits.{test_bit}
use Rattle.words.specs.Sets.{member}
use Rattle.words.proofs.Bit.{test_bit-none}
use Rattle.words.proofs.Cases.{le_or_lt}
use Rattle.words.proofs.Member.{member-word}
use Rattle.model.specs.Candidate.{is_candidate}
use Rattle.model.specs.Content.{kind_at, kind_count, piece_count}
use Rattle.model.specs.Grid.{set_words}
use Rattle.model.specs.Layout.{entry_of, entry_extent}
use Rattle.model.specs.Problem.{Problem}
use Rattle.model.specs.Search.{copies_left}
use Rattle.model.proofs.Lists.{not_both}
use Rattle.bounding.specs.Trimmed.{ends_below, Shrunk, Lowered}
use Rattle.lookahead.specs.Settled.{SetsKept}
use Rattle.plans.proofs.PlanLaws.{candidate-kind}
use Rattle.stepping.specs.LiveSets.{set_of, Spans}
use Rattle.stepping.specs.Levels.{pieces_from, placed_below, placed_of}
use Rattle.stepping.specs.Slots.{set_start}
use Rattle.stepping.proofs.LiveSets.{set_first, set-prune}
use Rattle.stepping.proofs.PieceOrder.{copies-first}
use Rattle.stepping.proofs.Slots.{slot-member}

-- Where the first level's sets are kept and their words behind `left` are zero, all candidates that end below the bound lie in the words left: each is a member of its
-- set.
pub shrunk-spans : (j : Problem) (bound span left : ℕ) (work : List ℕ) → Spans j bound span
    → ((u m : ℕ) → u < kind_count j.kinds → m < span * 64 → member work (set_start j 0 u * 64 + m) ≡ set_of j [] bound u m)
    → Shrunk (kind_count j.kinds) (set_words j.sheet) span work left → Spans j bound left
unfolding set_start
shrunk-spans j bound span left work s k r = record { within = omega (arith, r.within, s.within); covers = λ u m c e. covers u m c e (le_or_lt (left * 64) m) }
  where
    zero_word : (u m : ℕ) → u < kind_count j.kinds → left * 64 ≤ m → m < span * 64 → member work (set_start j 0 u * 64 + m) ≡ false
    zero_word u m hu h l =
        let e : set_start j 0 u * 64 + m ≡ (u * set_words j.sheet + m / 64) * 64 + m % 64 = omega arith in
        ap (member work) e
        ∙ member-word work (u * set_words j.sheet + m / 64) (m % 64) (omega arith)
        ∙ ap (λ (w : ℕ). test_bit w (m % 64)) (r.clear u (m / 64) hu (omega arith) (omega arith))
        ∙ test_bit-none (m % 64)

    covers : (u m : ℕ) → is_candidate j u m ≡ true → entry_extent j (entry_of j u m) < bound → (left * 64 ≤ m) ⊎ (m < left * 64) → m < left * 64
    covers u m c e (inr h) = h
    covers u m c e (inl h) =
        let hu : u < kind_count j.kinds = candidate-kind j u m c in
        let l : m < span * 64 = s.covers u m c e in
        let live : set_of j [] bound u m ≡ true = set_first j bound u m ∙ rw (c, lt-ltb (entry_extent j (entry_of j u m)) bound e) in
        absurd (not_both (k u m hu l ∙ live) (zero_word u m hu h l))

module _ (j : Problem) (ns : List ℕ) (bound span bound' left : ℕ) (work work' : List ℕ) (s : Spans j bound span) (k : SetsKept j ns (piece_count j.kinds) bound span work)
    (b : bound' ≤ bound) (r : Lowered j bound' span work work' left) where
  -- A number of a set that was trimmed.
  trimmed-member : (l u m : ℕ) → l < piece_count j.kinds → u < kind_count j.kinds → 0 < copies_left u (pieces_from j.kinds l) → m < span * 64
      → member work' (set_start j l u * 64 + m) ≡ set_of j (placed_of j ns l) bound' u m
  trimmed-member l u m hl hu c h =
      let e : suc l * kind_count j.kinds ≤ piece_count j.kinds * kind_count j.kinds = mul-le-mul_right (kind_count j.kinds) hl in
      r.trimmed.inside l u m hl hu c h (omega (arith, e, suc-mul l (kind_count j.kinds)))
      ∙ ap (λ (x : Bool). x && ends_below j bound' u m) (sym (slot-member j work l u m) ∙ k l u hl hu c m h)
      ∙ sym (set-prune j (placed_of j ns l) bound bound' u m b)

  -- The sets are kept at the new bound, in the words left.
  pub lowered-sets : SetsKept j ns (piece_count j.kinds) bound' left work'
  lowered-sets l u hl hu c m h = slot-member j work' l u m ∙ trimmed-member l u m hl hu c (omega (arith, r.shrunk.within))

  -- All candidates that end below the new bound lie in the words left.
  pub lowered-spans : 0 < piece_count j.kinds → ((u : ℕ) → u < kind_count j.kinds → 0 < (kind_at j.kinds u).demand) → Spans j bound' left
  unfolding placed_below
  lowered-spans pieced demanded =
      shrunk-spans j bound' span left work' (record { within = s.within; covers = λ u m c e. s.covers u m c (omega arith) })
      (λ u m hu l. trimmed-member 0 u m pieced hu (rw (copies-first j.kinds u hu) (demanded u hu)) l) r.shrunk
