-- What it says that a cause of refusal does not hold.
use mathlib.Core.Bool.{Bool, true, false, not, cond, ◌||◌, true≢false}
use mathlib.Core.List.{List, map}
use mathlib.Core.Path.{◌≡◌, refl, sym, ap, ◌∙◌}
use Prim.Native.Nat.{ℕ, suc, ◌+◌, ◌*◌, ◌-◌, ◌≤◌}
use native.Mathlib.Omega.{arith}
use borrow.Author.Tests.{ltb-false, leb-true, eqb-true, not-false}
use lib.Dec.{ltb, eqb}
use lib.ListN.{length}
use Rattle.model.specs.Content.{Kind, SpacingClass, piece_count}
use Rattle.model.specs.ContentFit.{BoardFit}
use Rattle.model.specs.Format.{trailer_at, board_at, classes_at, kinds_at, kinds_length, classes_stated, kinds_stated, in_place, board_section, classes_section, kinds_section, board_of, classes_of, kinds_got, kinds_unfit, kinds_in, content, names_present, Got, bad, got, cause1, cause2, cause3, cause4, cause5, cause6, cause7, refusal, distinct, class_in_range}
use Rattle.model.specs.Grid.{dots}
use Rattle.model.specs.Lists.{between, all, sum}
use Rattle.model.proofs.Lists.{or_left, or_right}
use Rattle.model.proofs.Records.{between-both}

-- None of the first six causes holds.
pub record NoCause (s : List ℕ) : Type 0 where
  pub no1 : cause1 s ≡ false
  pub no2 : cause2 s ≡ false
  pub no3 : cause3 s ≡ false
  pub no4 : cause4 s ≡ false
  pub no5 : cause5 s ≡ false
  pub no6 : cause6 s ≡ false

cond_none : (b : Bool) (n m : ℕ) → cond b (suc n) m ≡ 0 → b ≡ false
cond_none true n m e = absurd (omega arith)
cond_none false n m e = refl

cond_rest : (b : Bool) (n m : ℕ) → cond b (suc n) m ≡ 0 → m ≡ 0
cond_rest true n m e = absurd (omega arith)
cond_rest false n m e = e

-- The refusal, cause by cause, with r behind the sixth.
abbrev from6 : List ℕ → ℕ → ℕ
from6 s r = cond (cause6 s) 6 r

abbrev from5 : List ℕ → ℕ → ℕ
from5 s r = cond (cause5 s) 5 (from6 s r)

abbrev from4 : List ℕ → ℕ → ℕ
from4 s r = cond (cause4 s) 4 (from5 s r)

abbrev from3 : List ℕ → ℕ → ℕ
from3 s r = cond (cause3 s) 3 (from4 s r)

abbrev from2 : List ℕ → ℕ → ℕ
from2 s r = cond (cause2 s) 2 (from3 s r)

abbrev pub from1 : List ℕ → ℕ → ℕ
from1 s r = cond (cause1 s) 1 (from2 s r)

module _ (s : List ℕ) (r : ℕ) (e : from1 s r ≡ 0) where
  rest2 : from2 s r ≡ 0
  rest2 = cond_rest (cause1 s) 0 (from2 s r) e

  rest3 : from3 s r ≡ 0
  rest3 = cond_rest (cause2 s) 1 (from3 s r) rest2

  rest4 : from4 s r ≡ 0
  rest4 = cond_rest (cause3 s) 2 (from4 s r) rest3

  rest5 : from5 s r ≡ 0
  rest5 = cond_rest (cause4 s) 3 (from5 s r) rest4

  rest6 : from6 s r ≡ 0
  rest6 = cond_rest (cause5 s) 4 (from6 s r) rest5

  pub rest7 : r ≡ 0
  rest7 = cond_rest (cause6 s) 5 r rest6

  pub none_before : NoCause s
  none_before =
      record {
        no1 = cond_none (cause1 s) 0 (from2 s r) e;
        no2 = cond_none (cause2 s) 1 (from3 s r) rest2;
        no3 = cond_none (cause3 s) 2 (from4 s r) rest3;
        no4 = cond_none (cause4 s) 3 (from5 s r) rest4;
        no5 = cond_none (cause5 s) 4 (from6 s r) rest5;
        no6 = cond_none (cause6 s) 5 r rest6;
      }

pub refusal_is : (s : List ℕ) → refusal s ≡ from1 s (cond (cause7 s) 7 0)
unfolding refusal
refusal_is s = refl

pub no_cause : (s : List ℕ) → refusal s ≡ 0 → NoCause s
no_cause s e = none_before s (cond (cause7 s) 7 0) (sym (refusal_is s) ∙ e)

pub no_cause7 : (s : List ℕ) → refusal s ≡ 0 → cause7 s ≡ false
no_cause7 s e = cond_none (cause7 s) 6 0 (rest7 s (cond (cause7 s) 7 0) (sym (refusal_is s) ∙ e))

-- ---- Sections

-- The sections lie within the job, in front of the trailer.
pub record Sections (s : List ℕ) : Type 0 where
  pub least : 14 ≤ length s
  pub most : length s ≤ 1024
  pub board : board_at s + 6 + 14 ≤ length s
  pub classes : classes_at s + classes_stated s * 3 + 14 ≤ length s
  pub kinds : kinds_at s + kinds_length s + 14 ≤ length s

pub size-least : (s : List ℕ) → cause1 s ≡ false → 14 ≤ length s
unfolding cause1
size-least s e = ltb-false (length s) 14 (or_left _ _ e)

pub size-most : (s : List ℕ) → cause1 s ≡ false → length s ≤ 1024
unfolding cause1
size-most s e = ltb-false 1024 (length s) (or_right (ltb (length s) 14) _ e)

pub sections : (s : List ℕ) → cause1 s ≡ false → cause3 s ≡ false → Sections s
unfolding cause3 in_place board_section classes_section kinds_section trailer_at
sections s no1 no3 =
    let least = size-least s no1 in
    let e5 = or_left _ _ no3 in
    let e4 = or_left _ _ e5 in
    let e3 = or_left _ _ e4 in
    let e2 = or_left _ _ e3 in
    let b : board_at s + 6 ≤ length s - 14 = leb-true _ _ (not-false _ (or_left _ _ e2)) in
    let c : classes_at s + classes_stated s * 3 ≤ length s - 14 = leb-true _ _ (not-false _ (or_right (not (in_place s (board_section s))) _ e2)) in
    let k : kinds_at s + kinds_length s ≤ length s - 14 =
    leb-true _ _ (not-false _ (or_right (not (in_place s (board_section s)) || not (in_place s (classes_section s))) _ e3)) in
    record {
      least = least;
      most = size-most s no1;
      board = omega arith;
      classes = omega arith;
      kinds = omega arith;
    }

-- ---- Board

pub board-fits : (s : List ℕ) → cause4 s ≡ false → BoardFit (board_of s)
unfolding cause4
board-fits s e =
    let e3 = or_left _ _ e in
    let e2 = or_left _ _ e3 in
    let w = between-both 1 1000 (board_of s).W (not-false _ (or_left _ _ e2)) in
    let l = between-both 1 1000 (board_of s).L (not-false _ (or_right (not (between 1 1000 (board_of s).W)) _ e2)) in
    let g = between-both 1 1000 (board_of s).g (not-false _ (or_right (not (between 1 1000 (board_of s).W) || not (between 1 1000 (board_of s).L)) _ e3)) in
    record {
      width_least = w.0;
      width_most = w.1;
      length_least = l.0;
      length_most = l.1;
      step_least = g.0;
      step_most = g.1;
      dots_most =
          ltb-false 1024 (dots (board_of s))
          (or_right (not (between 1 1000 (board_of s).W) || not (between 1 1000 (board_of s).L) || not (between 1 1000 (board_of s).g)) _ e);
    }

-- ---- Classes

pub classes-distinct : (s : List ℕ) → cause5 s ≡ false → distinct (map (λ c. c.id) (classes_of s)) ≡ true
unfolding cause5
classes-distinct s e = not-false _ (or_right (ltb 8 (classes_stated s) || not (all class_in_range (classes_of s))) _ (or_left _ _ e))

pub classes-in_range : (s : List ℕ) → cause5 s ≡ false → all class_in_range (classes_of s) ≡ true
unfolding cause5
classes-in_range s e = not-false _ (or_right (ltb 8 (classes_stated s)) _ (or_left _ _ (or_left _ _ e)))

pub classes-few : (s : List ℕ) → cause5 s ≡ false → classes_stated s ≤ 8
unfolding cause5
classes-few s e = ltb-false 8 (classes_stated s) (or_left _ _ (or_left _ _ (or_left _ _ e)))

-- ---- Kinds

-- What was read fills this many bytes and demands 12 pieces at most, of classes that are there.
record GotFits (cs : List SpacingClass) (size : ℕ) (g : Got (List Kind)) : Type 0 where
  pub reads : g ≡ got (kinds_in g) size
  pub pieces : sum (map (λ k. k.demand) (kinds_in g)) ≤ 12
  pub present : all (names_present cs) (kinds_in g) ≡ true

got-fits : (cs : List SpacingClass) (size : ℕ) (g : Got (List Kind)) → kinds_unfit cs size g ≡ false → GotFits cs size g
unfolding kinds_unfit kinds_in
got-fits cs size bad e = let z : true ≡ false = e in absurd (true≢false z)
got-fits cs size (got ks m) e =
    let e1 = or_left _ _ e in
    record {
      reads = ap (got ks) (eqb-true m size (not-false _ (or_left _ _ e1)));
      pieces = ltb-false 12 _ (or_right (not (eqb m size)) _ e1);
      present = not-false _ (or_right (not (eqb m size) || ltb 12 (sum (map (λ k. k.demand) ks))) _ e);
    }

-- The kinds that were read fill the type list.
pub record KindsFit (s : List ℕ) : Type 0 where
  pub least : 1 ≤ kinds_stated s
  pub most : kinds_stated s ≤ 8
  pub reads : kinds_got s ≡ got (content s).kinds (kinds_length s)
  pub pieces : piece_count (content s).kinds ≤ 12
  pub present : all (names_present (classes_of s)) (content s).kinds ≡ true

pub kinds-fit : (s : List ℕ) → cause6 s ≡ false → KindsFit s
unfolding cause6 content piece_count
kinds-fit s e =
    let n = between-both 1 8 (kinds_stated s) (not-false _ (or_left _ _ e)) in
    let f = got-fits (classes_of s) (kinds_length s) (kinds_got s) (or_right (not (between 1 8 (kinds_stated s))) _ e) in
    record { least = n.0; most = n.1; reads = f.reads; pieces = f.pieces; present = f.present }
