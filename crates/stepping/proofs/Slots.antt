-- Where the sets lie: none reaches into another, all lie within the needed words, and what is written in one leaves the others.
use mathlib.Core.List.{List}
use mathlib.Core.Path.{◌≡◌, refl, sym, ◌∙◌}
use Prim.Native.Nat.{ℕ, ◌+◌, ◌*◌, ◌-◌, ◌≤◌, ◌<◌}
use native.Mathlib.Nat.{mul-le-mul_right}
use native.Mathlib.Omega.{arith}
use lib.ListN.{length, take, drop, length-drop}
use lib.Seq.{take_all}
use Rattle.words.specs.Sets.{member}
use Rattle.words.proofs.Member.{member-drop}
use Rattle.model.specs.Content.{kind_count, piece_count}
use Rattle.model.specs.Grid.{set_words}
use Rattle.model.specs.Layout.{Layout}
use Rattle.model.specs.Problem.{Problem}
use Rattle.model.specs.Services.{work_words}
use Rattle.stepping.specs.LiveSets.{Keeps}
use Rattle.stepping.specs.Slots.{set_start, slot_of, Frame}

module _ (j : Problem) where
  -- ---- Places

  -- One set behind the other.
  pub start_next : (l u : ℕ) → set_start j l (u + 1) ≡ set_start j l u + set_words j.sheet
  unfolding set_start
  start_next l u = omega arith

  pub start_kinds : (l u v : ℕ) → u ≤ v → set_start j l u ≤ set_start j l v
  unfolding set_start
  start_kinds l u v h = mul-le-mul_right (set_words j.sheet) (omega arith)

  -- One level behind the other.
  pub start_level : (l : ℕ) → set_start j l (kind_count j.kinds) ≡ set_start j (l + 1) 0
  unfolding set_start
  start_level l = omega arith

  pub start_levels : (l k : ℕ) → l ≤ k → set_start j l 0 ≤ set_start j k 0
  unfolding set_start
  start_levels l k h = mul-le-mul_right (set_words j.sheet) (omega (arith, mul-le-mul_right (kind_count j.kinds) h))

  -- A set of a lower level ends before a level begins.
  pub start_lower : (l k u : ℕ) → l < k → u < kind_count j.kinds → set_start j l u + set_words j.sheet ≤ set_start j k 0
  start_lower l k u h g =
      omega (arith, start_next l u, start_kinds l (u + 1) (kind_count j.kinds) (omega arith), start_level l, start_levels (l + 1) k (omega arith))

  -- All lie within the needed words.
  pub start_all : set_start j (piece_count j.kinds) 0 ≡ work_words j
  unfolding set_start work_words
  start_all = omega arith

  pub start_fits : (l u : ℕ) → l < piece_count j.kinds → u < kind_count j.kinds → set_start j l u + set_words j.sheet ≤ work_words j
  start_fits l u h g = omega (arith, start_lower l (piece_count j.kinds) u h g, start_all)

  -- ---- Members

  -- A number of a set, at its place.
  pub slot-member : (work : List ℕ) (l u m : ℕ) → member (slot_of j work l u) m ≡ member work (set_start j l u * 64 + m)
  unfolding slot_of
  slot-member work l u m = member-drop (set_start j l u) work m

  -- A set whose members did not change is kept.
  pub keeps_same : (placed : Layout) (bound span l u : ℕ) (work work' : List ℕ)
      → ((m : ℕ) → m < span * 64 → member work' (set_start j l u * 64 + m) ≡ member work (set_start j l u * 64 + m))
      → Keeps j placed bound span u (slot_of j work l u) → Keeps j placed bound span u (slot_of j work' l u)
  keeps_same placed bound span l u work work' f k m h = slot-member work' l u m ∙ f m h ∙ sym (slot-member work l u m) ∙ k m h

  -- So is one below a level, where only that level and those above it changed.
  pub keeps-frame : (placed : Layout) (bound span l k u : ℕ) (work work' : List ℕ) → span ≤ set_words j.sheet → l < k → u < kind_count j.kinds → Frame j k work work'
      → Keeps j placed bound span u (slot_of j work l u) → Keeps j placed bound span u (slot_of j work' l u)
  keeps-frame placed bound span l k u work work' few h g f s =
      keeps_same placed bound span l u work work' (λ m q. f.lower (set_start j l u * 64 + m) (omega (arith, start_lower l k u h g))) s

  -- ---- Frames

  pub frame_same : (l : ℕ) (work : List ℕ) → Frame j l work work
  frame_same l work = record { lower = λ m h. refl; behind = refl }

  pub frame_then : (l : ℕ) (a b c : List ℕ) → Frame j l a b → Frame j l b c → Frame j l a c
  frame_then l a b c f g = record { lower = λ m h. g.lower m h ∙ f.lower m h; behind = g.behind ∙ f.behind }

-- A part of a list to its end.
pub part-rest : (a : ℕ) (s : List ℕ) → take (length s - a) (drop a s) ≡ drop a s
part-rest a s = take_all (length s - a) (drop a s) (omega (arith, length-drop a s))
