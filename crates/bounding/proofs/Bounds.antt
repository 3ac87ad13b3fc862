-- The live sets once the bound falls: word by word, set by set, and what that leaves of them.
use mathlib.Core.Bool.{Bool, ◌&&◌}
use mathlib.Core.List.{List}
use mathlib.Core.Logic.{◌⊎◌, inl, inr}
use mathlib.Core.Path.{◌≡◌, refl, sym, ap, ap₂, ◌∙◌}
use Prim.Native.Nat.{ℕ, suc, ◌+◌, ◌*◌, ◌-◌, ◌/◌, ◌%◌, ◌^◌, ◌≤◌, ◌<◌}
use native.Mathlib.Nat.{suc-mul, mul-le-mul, mul-le-mul_right, div-lt_iff_lt-mul, mod-lt, mod-eq_of_lt, div-eq_of_lt, div-add-mod', mul-add-div_right, mul-add-mod_self_right}
use native.Mathlib.Omega.{arith}
use lib.ListN.{length}
use Rattle.words.specs.Bits.{test_bit}
use Rattle.words.specs.Bytes.{AreBytes}
use Rattle.words.specs.Number.{number_at, with_number}
use Rattle.words.specs.Sets.{member}
use Rattle.words.proofs.Cases.{eq_or_ne, le_or_lt}
use Rattle.words.proofs.Member.{member-word}
use Rattle.model.specs.Content.{kind_count, piece_count}
use Rattle.model.specs.Format.{content}
use Rattle.model.specs.Grid.{set_words}
use Rattle.model.specs.Problem.{Problem}
use Rattle.model.specs.Search.{copies_left}
use Rattle.model.specs.Services.{work_words}
use Rattle.model.proofs.Accepted.{accepted-sensible}
use Rattle.stepping.specs.Levels.{pieces_from}
use Rattle.stepping.specs.Slots.{set_start}
use Rattle.stepping.proofs.Limits.{few-work}
use Rattle.stepping.proofs.Slots.{start_fits}
use Rattle.plans.specs.Planned.{PlanOf, planned}
use Rattle.plans.specs.declared.plan.Plan.{Plan}
use Rattle.live_sets.specs.Narrowing.{BitsAdmitted, Filled}
use Rattle.live_sets.proofs.Filling.{filled_next, bit_member, drop-later}
use Rattle.bounding.specs.Trimmed.{ends_below, Trimmable, SetTrimmed, Admitted, Trimmed, Shrunk}

-- ---- Places

module _ (s : List ℕ) (p : Plan) (o : PlanOf s p) (work : List ℕ) (fits : work_words (planned s p) * 8 ≤ length work) where
  -- A word of a set of the first level.
  pub word_fits : (u k : ℕ) → u < p.types → k < set_words (content s).sheet → ((u * p.words + k) * 8 + 8 ≤ length work) × (u * p.words + k ≤ 6144)
  unfolding set_start
  word_fits u k h l = (omega (arith, within), omega (arith, within, few-work s o.accepted p.margin))
    where
      within : u * p.words + k < work_words (planned s p)
      within =
          let pieced = (accepted-sensible s p.margin o.accepted).pieced in
          let e : u * p.words ≡ u * set_words (content s).sheet = ap (λ (w : ℕ). u * w) o.words in
          omega (arith, e, start_fits (planned s p) 0 u pieced (rw (← o.types) h))

-- ---- One set, word by word

module _ (j : Problem) (bound u at words : ℕ) (work₀ work : List ℕ) (r : Trimmable j u at words work₀) (k : ℕ) (h : k < words)
    (f : Filled at k (λ m. member work₀ (at * 64 + m) && ends_below j bound u m) work₀ work) where
  -- A word that is still to be trimmed has the members that it had at the beginning.
  word_same : (i : ℕ) → i < 64 → member work ((at + k) * 64 + i) ≡ member work₀ (at * 64 + (k * 64 + i))
  word_same i l =
      let e : (at + k) * 64 + i ≡ at * 64 + (k * 64 + i) = omega arith in
      f.outside ((at + k) * 64 + i) (inr (omega arith)) ∙ ap (member work₀) e

  module _ (w : ℕ) (e : w ≡ number_at 8 work ((at + k) * 8)) where
    -- Its bits are those of candidates.
    pub word_admitted : AreBytes work → BitsAdmitted j u (k * 64) w
    word_admitted a i q =
        let b = bit_member work (at + k) i a (ap (λ (x : ℕ). test_bit x i) (sym e) ∙ q) in
        r.admitted (k * 64 + i) (omega (arith, b.0)) (sym (word_same i b.0) ∙ b.1)

    -- Trimmed, it is the next of the set.
    pub word_trimmed : (v : ℕ) → ((i : ℕ) → test_bit v i ≡ (test_bit w i && ends_below j bound u (k * 64 + i))) → v < 2 ^ 64 → length work ≡ length work₀
        → Filled at (k + 1) (λ m. member work₀ (at * 64 + m) && ends_below j bound u m) work₀ (with_number 8 work ((at + k) * 8) v)
    word_trimmed v bits small l =
        filled_next at k (λ m. member work₀ (at * 64 + m) && ends_below j bound u m) work₀ work v f (omega (arith, r.fits, l)) small
        (λ i q. bits i
        ∙ ap (λ (b : Bool). b && ends_below j bound u (k * 64 + i)) (ap (λ (x : ℕ). test_bit x i) e ∙ sym (member-word work (at + k) i q) ∙ word_same i q))

-- ---- The words left

-- At the beginning all are.
pub shrunk-none : (kinds words span : ℕ) (work : List ℕ) → Shrunk kinds words span work span
shrunk-none kinds words span work = record { within = omega arith; clear = λ u k h l m. absurd (omega arith) }

-- A word that is zero for every kind is left no more.
pub shrunk-more : (kinds words span left : ℕ) (work : List ℕ) → Shrunk kinds words span work left → 0 < left
    → ((u : ℕ) → u < kinds → number_at 8 work ((u * words + (left - 1)) * 8) ≡ 0) → Shrunk kinds words span work (left - 1)
shrunk-more kinds words span left work r p z =
    record { within = omega (arith, r.within); clear = λ u k h l m. clear u k h l m (eq_or_ne k (left - 1)) }
  where
    clear : (u k : ℕ) → u < kinds → left - 1 ≤ k → k < span → (k ≡ left - 1) ⊎ (k ≡ left - 1 → ⊥) → number_at 8 work ((u * words + k) * 8) ≡ 0
    clear u k h l m (inl e) = ap (λ (k : ℕ). number_at 8 work ((u * words + k) * 8)) e ∙ z u h
    clear u k h l m (inr e) = r.clear u k h (omega arith) m

-- ---- Set after set

-- The digits of a number.
pub digits : (l u n i : ℕ) → u < n → l * n + u ≡ i → (i / n ≡ l) × (i % n ≡ u)
digits l u n i h e = (
  ap (λ (x : ℕ). x / n) (sym e) ∙ mul-add-div_right {m = n} (omega arith) l u ∙ ap (λ (x : ℕ). l + x) (div-eq_of_lt h) ∙ omega arith,
  ap (λ (x : ℕ). x % n) (sym e) ∙ mul-add-mod_self_right l n u ∙ mod-eq_of_lt h,
)

module _ (j : Problem) (i : ℕ) (h : i < piece_count j.kinds * kind_count j.kinds) where
  -- There is a kind, as there is a set.
  pub some-kind : 0 < kind_count j.kinds
  some-kind = go (le_or_lt (kind_count j.kinds) 0)
    where
      go : (kind_count j.kinds ≤ 0) ⊎ (0 < kind_count j.kinds) → 0 < kind_count j.kinds
      go (inl z) = let e : piece_count j.kinds * kind_count j.kinds ≤ piece_count j.kinds * 0 = mul-le-mul {n₁ = piece_count j.kinds} {m₁ = kind_count j.kinds} {n₂ = piece_count j.kinds} {m₂ = 0} (omega arith) z in absurd (omega arith)
      go (inr z) = z

  -- Set i is that of a level and a kind.
  pub set-level : i / kind_count j.kinds < piece_count j.kinds
  set-level = (div-lt_iff_lt-mul some-kind).1 h

  pub set-kind : i % kind_count j.kinds < kind_count j.kinds
  set-kind = mod-lt i some-kind

  pub set-place : i * set_words j.sheet ≡ set_start j (i / kind_count j.kinds) (i % kind_count j.kinds)
  unfolding set_start
  set-place = ap (λ (x : ℕ). x * set_words j.sheet) (sym (div-add-mod' i (kind_count j.kinds)))

  pub set-fits : i * set_words j.sheet + set_words j.sheet ≤ work_words j
  set-fits = rw set-place (start_fits j (i / kind_count j.kinds) (i % kind_count j.kinds) set-level set-kind)

  module _ (bound span : ℕ) (few : span ≤ set_words j.sheet) (work work' : List ℕ) where
    -- It is trimmed.
    pub set-trimmed : (kinds words : ℕ) → kinds ≡ kind_count j.kinds → words ≡ set_words j.sheet
        → Filled (i * words) span (λ m. member work (i * words * 64 + m) && ends_below j bound (i % kinds) m) work work' → SetTrimmed j bound span i work work'
    set-trimmed kinds words k w f =
        let g : Filled (i * set_words j.sheet) span (λ m. member work (i * set_words j.sheet * 64 + m) && ends_below j bound (i % kind_count j.kinds) m) work work' = rw (k, w) at f in
        record {
          inside = λ p m l. g.inside m l;
          outside = λ m o. g.outside m (turn m o);
          behind = drop-later ((i * set_words j.sheet + span) * 8) (work_words j * 8) work' work (omega (arith, set-fits)) g.behind;
        }
      where
        turn : (m : ℕ) → (m < i * set_words j.sheet * 64) ⊎ ((i + 1) * set_words j.sheet * 64 ≤ m)
            → (m < i * set_words j.sheet * 64) ⊎ ((i * set_words j.sheet + span) * 64 ≤ m)
        turn m (inl o) = inl o
        turn m (inr o) = inr (omega (arith, suc-mul i (set_words j.sheet)))

  -- No copies of its kind are left: nothing is to be done.
  pub set-skipped : (bound span : ℕ) (work : List ℕ) → copies_left (i % kind_count j.kinds) (pieces_from j.kinds (i / kind_count j.kinds)) ≤ 0 → SetTrimmed j bound span i work work
  set-skipped bound span work z = record { inside = λ p. absurd (omega arith); outside = λ m o. refl; behind = refl }

  module _ (bound span : ℕ) (few : span ≤ set_words j.sheet) (work₀ work : List ℕ) (t : Trimmed j bound span i work₀ work) where
    -- The next set can be trimmed.
    pub next_trimmable : set_words j.sheet ≤ 64 → work_words j * 8 ≤ length work → Admitted j span work₀
        → 0 < copies_left (i % kind_count j.kinds) (pieces_from j.kinds (i / kind_count j.kinds)) → Trimmable j (i % kind_count j.kinds) (i * set_words j.sheet) span work
    next_trimmable w fits a p =
        record {
          few = omega arith;
          fits = omega (arith, set-fits);
          admitted = λ m l e. a (i / kind_count j.kinds) (i % kind_count j.kinds) m set-level set-kind p l
              (ap (λ (x : ℕ). member work₀ (x * 64 + m)) (sym set-place) ∙ sym (t.later (i * set_words j.sheet * 64 + m) (omega arith)) ∙ e);
        }

    -- One set more.
    pub trimmed-more : (work' : List ℕ) → SetTrimmed j bound span i work work' → Trimmed j bound span (i + 1) work₀ work'
    unfolding set_start
    trimmed-more work' s =
        record {
          inside = λ l u m hl hu c hm b. inside l u m hl hu c hm (eq_or_ne (l * kind_count j.kinds + u) i) b;
          later = λ m b. s.outside m (inr b) ∙ t.later m (omega (arith, suc-mul i (set_words j.sheet)));
          behind = s.behind ∙ t.behind;
        }
      where
        inside : (l u m : ℕ) → l < piece_count j.kinds → u < kind_count j.kinds → 0 < copies_left u (pieces_from j.kinds l) → m < span * 64
            → (l * kind_count j.kinds + u ≡ i) ⊎ (l * kind_count j.kinds + u ≡ i → ⊥) → l * kind_count j.kinds + u < i + 1
            → member work' (set_start j l u * 64 + m) ≡ (member work₀ (set_start j l u * 64 + m) && ends_below j bound u m)
        inside l u m hl hu c hm (inl e) b =
            let d = digits l u (kind_count j.kinds) i hu e in
            let p : 0 < copies_left (i % kind_count j.kinds) (pieces_from j.kinds (i / kind_count j.kinds)) = rw (d.0, d.1) c in
            let at : set_start j l u ≡ i * set_words j.sheet = ap (λ (x : ℕ). x * set_words j.sheet) e in
            ap (λ (a : ℕ). member work' (a * 64 + m)) at
            ∙ s.inside p m hm
            ∙ ap₂ (λ (x : Bool) (v : ℕ). x && ends_below j bound v m) (t.later (i * set_words j.sheet * 64 + m) (omega arith)) d.1
            ∙ ap (λ (a : ℕ). member work₀ (a * 64 + m) && ends_below j bound u m) (sym at)
        inside l u m hl hu c hm (inr e) b =
            let before : suc (l * kind_count j.kinds + u) * set_words j.sheet ≤ i * set_words j.sheet = mul-le-mul_right (set_words j.sheet) (omega arith) in
            s.outside (set_start j l u * 64 + m) (inl (omega (arith, before, suc-mul (l * kind_count j.kinds + u) (set_words j.sheet))))
            ∙ t.inside l u m hl hu c hm (omega arith)

-- At the beginning no set is trimmed.
pub trimmed-none : (j : Problem) (bound span : ℕ) (work : List ℕ) → Trimmed j bound span 0 work work
trimmed-none j bound span work = record { inside = λ l u m hl hu c hm b. absurd (omega arith); later = λ m b. refl; behind = refl }
