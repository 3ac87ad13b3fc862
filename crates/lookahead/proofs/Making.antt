-- The sets of a level from those of the level before, and one more kind settled.
use mathlib.Core.Bool.{Bool, true, false, not, ◌&&◌, ◌||◌}
use mathlib.Core.List.{List, [], ◌∷◌}
use mathlib.Core.Logic.{◌⊎◌, inl, inr}
use mathlib.Core.Path.{◌≡◌, refl, sym, ap, ◌∙◌, subst}
use Prim.Native.Nat.{ℕ, suc, ◌+◌, ◌*◌, ◌-◌, ◌≤◌, ◌<◌}
use native.Mathlib.Omega.{arith}
use borrow.Author.Tests.{eq-eqb, ne_eqb, le-leb, leb-true, leb-false}
use lib.Dec.{leb, ltb, eqb}
use lib.ListN.{length, drop}
use Rattle.words.specs.Sets.{member, count_members}
use Rattle.words.proofs.Cases.{eq_or_ne}
use Rattle.model.specs.Candidate.{is_candidate}
use Rattle.model.specs.Content.{kind_count, piece_count}
use Rattle.model.specs.Grid.{set_words}
use Rattle.model.specs.Layout.{Layout, entry_of, conflict}
use Rattle.model.specs.Problem.{Problem}
use Rattle.model.specs.Search.{copies_left}
use Rattle.model.specs.Services.{work_words}
use Rattle.model.proofs.Lists.{or_right}
use Rattle.stepping.specs.LiveSets.{set_of, members_of, Spans, Keeps}
use Rattle.stepping.specs.Levels.{piece_kind, pieces_from, placed_below, numbers_at, placed_of}
use Rattle.live_sets.specs.Narrowing.{stays, Filled, Narrowable}
use Rattle.stepping.specs.Slots.{set_start, slot_of, Frame, SetPlace}
use Rattle.lookahead.specs.Settled.{Placeable, Made, enough_of, KindSettled, Settled}
use Rattle.live_sets.proofs.Filling.{drop-later}
use Rattle.stepping.proofs.Kept.{keeps-count, kept-candidate}
use Rattle.stepping.proofs.Levels.{copies-next, placed-next}
use Rattle.stepping.proofs.LiveSets.{member-parts, set-placed, enough-holds, enough-fails}
use Rattle.stepping.proofs.Slots.{start_next, start_kinds, start_lower, start_fits, slot-member, keeps_same, keeps-frame, frame_same, frame_then}

module _ (j : Problem) where
  -- A member that stays is one of the set after the piece was placed, and no other is.
  pub stays-member : (placed : Layout) (bound t n u m : ℕ) → set_of j placed bound t n ≡ true
      → (set_of j placed bound u m && stays j t n u m) ≡ set_of j (entry_of j t n ∷ placed) bound u m
  unfolding stays
  stays-member placed bound t n u m e =
      regroup (set_of j placed bound u m) (not (conflict j (entry_of j t n) (entry_of j u m))) (not (eqb t u) || ltb n m)
      ∙ sym (set-placed j placed bound t n u m e)
    where
      regroup : (a b c : Bool) → (a && (b && c)) ≡ (a && b && c)
      regroup true b c = refl
      regroup false b c = refl

  -- The copies left do not grow from one level to the next.
  pub copies-before : (u l : ℕ) → suc l < piece_count j.kinds → 0 < copies_left u (pieces_from j.kinds (suc l)) → 0 < copies_left u (pieces_from j.kinds l)
  copies-before u l h p = omega (arith, copies-next j.kinds u l (omega arith))

  -- ---- The set of one kind made

  -- A set that was written keeps what it is to keep, if it was written by the right test.
  made_of : (ns : List ℕ) (level bound span u at words : ℕ) (test : ℕ → Bool) (work work' : List ℕ) → at ≡ set_start j level u → words ≡ span → span ≤ set_words j.sheet
      → level < piece_count j.kinds → u < kind_count j.kinds → Filled at words test work work'
      → ((m : ℕ) → m < span * 64 → test m ≡ set_of j (placed_of j ns level) bound u m) → Made j ns level bound span u work work'
  made_of ns level bound span u at words test work work' q w few h g f e =
      record {
        kept = λ m l. slot-member j work' level u m ∙ ap (λ (a : ℕ). member work' (a * 64 + m)) (sym q) ∙ f.inside m (rw w l) ∙ e m l;
        outside = λ m o. f.outside m (turn m o);
        behind = drop-later ((at + words) * 8) (work_words j * 8) work' work (omega (arith, start_fits j level u h g)) f.behind;
      }
    where
      turn : (m : ℕ) → (m < set_start j level u * 64) ⊎ (set_start j level (u + 1) * 64 ≤ m) → (m < at * 64) ⊎ ((at + words) * 64 ≤ m)
      turn m (inl o) = inl (omega arith)
      turn m (inr o) = inr (omega (arith, start_next j level u))

  -- At the first level nothing is placed.
  pub made_first : (ns : List ℕ) (bound u at words : ℕ) (work work' : List ℕ) → at ≡ set_start j 0 u → words ≡ set_words j.sheet → 0 < piece_count j.kinds → u < kind_count j.kinds
      → Filled at words (set_of j [] bound u) work work' → Made j ns 0 bound (set_words j.sheet) u work work'
  unfolding placed_below
  made_first ns bound u at words work work' q w h g f =
      made_of ns 0 bound (set_words j.sheet) u at words (set_of j [] bound u) work work' q w (omega arith) h g f (λ m l. refl)

  -- At a later one, being a member before and staying.
  module _ (ns : List ℕ) (level bound span u to from words t : ℕ) (work : List ℕ) (p : Placeable j ns level bound span work) (g : u < kind_count j.kinds)
      (copies : 0 < copies_left u (pieces_from j.kinds level)) (w : words ≡ span) (to-place : SetPlace j level u to) (from_place : SetPlace j (level - 1) u from)
      (kind : t ≡ piece_kind j.kinds (level - 1)) where
    -- The set of the level before is kept.
    kept-before : Keeps j (placed_of j ns (level - 1)) bound span u (slot_of j work (level - 1) u)
    kept-before =
        let e : suc (level - 1) ≡ level = omega (arith, p.later) in
        p.sets (level - 1) u (omega (arith, p.later)) g (copies-before u (level - 1) (rw e p.within) (rw e copies))

    -- The latest piece is a candidate.
    latest-is : is_candidate j t (numbers_at ns (level - 1)) ≡ true
    latest-is = rw kind (member-parts j (placed_of j ns (level - 1)) bound (piece_kind j.kinds (level - 1)) (numbers_at ns (level - 1)) p.latest).0

    -- The set can be made from it.
    pub set-narrowable : set_words j.sheet ≤ 64 → Narrowable j t (numbers_at ns (level - 1)) u from to words work
    set-narrowable few =
        record {
          placed = latest-is;
          few = omega (arith, w, p.spans.within);
          within = omega (arith, w, p.spans.within);
          behind = omega (arith, w, p.spans.within, to-place.place, from_place.place, start_lower j (level - 1) level u (omega (arith, p.later)) g, start_kinds j level 0 u (omega arith));
          fits = omega (arith, w, to-place.within, p.fits, p.spans.within);
          admitted = λ m h e. kept-candidate j (placed_of j ns (level - 1)) bound span u (slot_of j work (level - 1) u) kept-before m (rw (← w) h) (slot-member j work (level - 1) u m ∙ ap (λ (a : ℕ). member work (a * 64 + m)) (sym from_place.place) ∙ e);
        }

    -- What is left of it is the set of this level.
    test_next : (m : ℕ) → m < span * 64
        → (member work (from * 64 + m) && stays j t (numbers_at ns (level - 1)) u m) ≡ set_of j (placed_of j ns level) bound u m
    test_next m h =
        let s : suc (level - 1) ≡ level = omega (arith, p.later) in
        let member_is : member work (from * 64 + m) ≡ set_of j (placed_of j ns (level - 1)) bound u m =
        ap (λ (a : ℕ). member work (a * 64 + m)) from_place.place ∙ sym (slot-member j work (level - 1) u m) ∙ kept-before m h in
        ap (λ (b : Bool). b && stays j t (numbers_at ns (level - 1)) u m) member_is
        ∙ ap (λ (t : ℕ). set_of j (placed_of j ns (level - 1)) bound u m && stays j t (numbers_at ns (level - 1)) u m) kind
        ∙ stays-member (placed_of j ns (level - 1)) bound (piece_kind j.kinds (level - 1)) (numbers_at ns (level - 1)) u m p.latest
        ∙ ap (λ (es : Layout). set_of j es bound u m) (sym (placed-next j (numbers_at ns) (level - 1)))
        ∙ ap (λ (i : ℕ). set_of j (placed_of j ns i) bound u m) s

    pub made_next : (work' : List ℕ) → Filled to words (λ m. member work (from * 64 + m) && stays j t (numbers_at ns (level - 1)) u m) work work'
        → Made j ns level bound span u work work'
    made_next work' f =
        made_of ns level bound span u to words (λ m. member work (from * 64 + m) && stays j t (numbers_at ns (level - 1)) u m) work work' to-place.place w p.spans.within p.within g f test_next

  -- ---- One kind settled

  -- No copies are left: nothing is to be done.
  pub kind-none : (ns : List ℕ) (level bound span u : ℕ) (work : List ℕ) → copies_left u (pieces_from j.kinds level) ≡ 0 → KindSettled j ns level bound span u work work true
  kind-none ns level bound span u work e =
      record {
        answer = sym (rw (eq-eqb (copies_left u (pieces_from j.kinds level)) 0 e));
        kept = λ p. absurd (omega arith);
        outside = λ m o. refl;
        behind = refl;
      }

  -- The set is made, and its members are counted. (No copies are never too many.)
  pub kind-made : (ns : List ℕ) (level bound span u at words copies : ℕ) (work work' : List ℕ) (told : Bool) → at ≡ set_start j level u → words ≡ span → Spans j bound span
      → copies ≡ copies_left u (pieces_from j.kinds level) → Made j ns level bound span u work work' → told ≡ leb copies (count_members (words * 64) (drop (at * 8) work'))
      → KindSettled j ns level bound span u work work' told
  unfolding slot_of
  kind-made ns level bound span u at words copies work work' told q w c r m e =
      record {
        answer =
            e
            ∙ ap (λ (n : ℕ). leb n (count_members (words * 64) (drop (at * 8) work'))) r
            ∙ ap (λ (n : ℕ). leb (copies_left u (pieces_from j.kinds level)) (count_members (n * 64) (drop (at * 8) work'))) w
            ∙ ap (λ (a : ℕ). leb (copies_left u (pieces_from j.kinds level)) (count_members (span * 64) (drop (a * 8) work'))) q
            ∙ ap (leb (copies_left u (pieces_from j.kinds level))) (keeps-count j (placed_of j ns level) bound span u (slot_of j work' level u) c m.kept)
            ∙ sym (none_or (copies_left u (pieces_from j.kinds level)) (members_of j (placed_of j ns level) bound u));
        kept = λ g. m.kept;
        outside = m.outside;
        behind = m.behind;
      }
    where
      none_or : (n k : ℕ) → (eqb n 0 || leb n k) ≡ leb n k
      none_or n k = go (eq_or_ne n 0)
        where
          go : (n ≡ 0) ⊎ (n ≡ 0 → ⊥) → (eqb n 0 || leb n k) ≡ leb n k
          go (inl c) = rw (eq-eqb n 0 c) (sym (le-leb n k (omega arith)))
          go (inr c) = rw (ne_eqb n 0 c)

  -- ---- Kind after kind

  -- The kinds below `done` are settled and have enough members.
  pub record Settling (ns : List ℕ) (level bound span done : ℕ) (work work' : List ℕ) : Type 0 where
    pub answer : (u : ℕ) → u < done → enough_of j ns level bound u ≡ true
    pub kept : (u : ℕ) → u < done → 0 < copies_left u (pieces_from j.kinds level) → Keeps j (placed_of j ns level) bound span u (slot_of j work' level u)
    pub frame : Frame j level work work'

  pub settling_begin : (ns : List ℕ) (level bound span : ℕ) (work : List ℕ) → Settling ns level bound span 0 work work
  settling_begin ns level bound span work = record { answer = λ u h. absurd (omega arith); kept = λ u h. absurd (omega arith); frame = frame_same j level work }

  -- One kind leaves the sets below this level.
  pub kind-frame : (ns : List ℕ) (level bound span u : ℕ) (work work' : List ℕ) (told : Bool) → KindSettled j ns level bound span u work work' told → Frame j level work work'
  kind-frame ns level bound span u work work' told s =
      record { lower = λ m h. s.outside m (inl (omega (arith, start_kinds j level 0 u (omega arith)))); behind = s.behind }

  pub settling_next : (ns : List ℕ) (level bound span done : ℕ) (a b c : List ℕ) (told : Bool) → told ≡ true → span ≤ set_words j.sheet → Settling ns level bound span done a b
      → KindSettled j ns level bound span done b c told → Settling ns level bound span (done + 1) a c
  settling_next ns level bound span done a b c told e few s k =
      record { answer = λ u h. answer u h (eq_or_ne u done); kept = λ u h. kept u h (eq_or_ne u done); frame = frame_then j level a b c s.frame (kind-frame ns level bound span done b c told k) }
    where
      answer : (u : ℕ) → u < done + 1 → (u ≡ done) ⊎ (u ≡ done → ⊥) → enough_of j ns level bound u ≡ true
      answer u h (inl q) = rw q (sym k.answer ∙ e)
      answer u h (inr q) = s.answer u (omega arith)

      kept : (u : ℕ) → u < done + 1 → (u ≡ done) ⊎ (u ≡ done → ⊥) → 0 < copies_left u (pieces_from j.kinds level) → Keeps j (placed_of j ns level) bound span u (slot_of j c level u)
      kept u h (inl q) p = subst (λ (u : ℕ). Keeps j (placed_of j ns level) bound span u (slot_of j c level u)) (sym q) (k.kept (subst (λ (u : ℕ). 0 < copies_left u (pieces_from j.kinds level)) q p))
      kept u h (inr q) p =
          keeps_same j (placed_of j ns level) bound span level u b c
          (λ m l. k.outside (set_start j level u * 64 + m) (inl (omega (arith, start_next j level u, start_kinds j level (u + 1) done (omega arith)))))
          (s.kept u (omega arith) p)

  -- A test that holds, and one that fails, as facts of the numbers.
  enough-of : (ns : List ℕ) (level bound u : ℕ) → enough_of j ns level bound u ≡ true → 0 < copies_left u (pieces_from j.kinds level)
      → copies_left u (pieces_from j.kinds level) ≤ members_of j (placed_of j ns level) bound u
  enough-of ns level bound u e p = leb-true _ _ (rw (ne_eqb (copies_left u (pieces_from j.kinds level)) 0 (λ q. omega arith)) at e)

  few-of : (ns : List ℕ) (level bound u : ℕ) → enough_of j ns level bound u ≡ false → members_of j (placed_of j ns level) bound u < copies_left u (pieces_from j.kinds level)
  few-of ns level bound u e = leb-false _ _ (or_right (eqb (copies_left u (pieces_from j.kinds level)) 0) _ e)

  -- All kinds have enough members, or one has too few.
  pub settled_all : (ns : List ℕ) (level bound span : ℕ) (work work' : List ℕ) → Settling ns level bound span (kind_count j.kinds) work work' → Settled j ns level bound span work work' true
  settled_all ns level bound span work work' s =
      record {
        answer = sym (enough-holds j (pieces_from j.kinds level) (placed_of j ns level) bound (λ u h p. enough-of ns level bound u (s.answer u h) p));
        kept = λ e. s.kept;
        frame = s.frame;
      }

  pub settled_few : (ns : List ℕ) (level bound span u : ℕ) (a b c : List ℕ) (told : Bool) → told ≡ false → u < kind_count j.kinds → Settling ns level bound span u a b
      → KindSettled j ns level bound span u b c told → Settled j ns level bound span a c false
  settled_few ns level bound span u a b c told e h s k =
      record {
        answer = sym (enough-fails j (pieces_from j.kinds level) (placed_of j ns level) bound u h (few-of ns level bound u (sym k.answer ∙ e)));
        kept = λ q. let z : ◌≡◌ {A = ℕ} 0 1 = cc in absurd (omega arith);
        frame = frame_then j level a b c s.frame (kind-frame ns level bound span u b c told k);
      }

  -- The sets of this level can still be made after some of them are.
  pub placeable-still : (ns : List ℕ) (level bound span : ℕ) (work work' : List ℕ) → Placeable j ns level bound span work → Frame j level work work' → length work' ≡ length work
      → Placeable j ns level bound span work'
  placeable-still ns level bound span work work' p f e =
      record {
        within = p.within;
        fits = rw e p.fits;
        later = p.later;
        latest = p.latest;
        spans = p.spans;
        sets = λ l u h g k. keeps-frame j (placed_of j ns l) bound span l level u work work' p.spans.within h g f (p.sets l u h g k);
      }
