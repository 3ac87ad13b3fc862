-- What holds of the kinds of an accepted job: numbers in range, and parts that are sound.
use mathlib.Core.Bool.{true, not, ◌||◌}
use mathlib.Core.List.{List, []}
use mathlib.Core.Path.{◌≡◌, ap, ◌∙◌}
use Prim.Native.Nat.{ℕ, ◌<◌, ◌≤◌}
use native.Mathlib.Omega.{arith}
use borrow.Author.Tests.{not-false}
use lib.ListN.{length, get_or}
use Rattle.model.specs.Content.{Part, Kind, no_kind, kind_at, kind_count, piece_count}
use Rattle.model.specs.Format.{byte_at, got, read_part, read_kind, kinds_got, kind_bytes, kinds_stated, content, vertex_in_range, refusal, cause7}
use Rattle.model.specs.Geometry.{sound}
use Rattle.model.specs.Lists.{all, any}
use Rattle.model.proofs.Causes.{no_cause, no_cause7, KindsFit, kinds-fit}
use Rattle.model.proofs.Folds.{any_at}
use Rattle.model.proofs.Lists.{or_left, or_right}
use Rattle.model.proofs.Readers.{many-length, many-each}
use Rattle.model.proofs.Records.{length-vertices, part-read, kind-read}

-- ---- Numbers

pub record KindInRange (k : Kind) : Type 0 where
  pub demand_least : 1 ≤ k.demand
  pub demand_most : k.demand ≤ 12
  pub rotations_least : 1 ≤ k.rotations
  pub rotations_most : k.rotations ≤ 15
  pub parts_least : 1 ≤ length k.parts
  pub parts_most : length k.parts ≤ 6
  pub corners : (i : ℕ) → i < length k.parts → (3 ≤ length (get_or k.parts i [])) × (length (get_or k.parts i []) ≤ 8)

part-corners : (s : List ℕ) (P : Part) (k : ℕ) → read_part s ≡ got P k → (3 ≤ length P) × (length P ≤ 8)
part-corners s P k e =
    let r = part-read s P k e in
    let l : length P ≡ byte_at s 0 = ap length r.value ∙ length-vertices (byte_at s 0) _ in
    let a = r.least in
    let b = r.most in
    (omega arith, omega arith)

kind-in_range : (s : List ℕ) (k : Kind) (m : ℕ) → read_kind s ≡ got k m → KindInRange k
kind-in_range s k m e =
    let r = kind-read s k m e in
    record {
      demand_least = rw r.demand r.demand_least;
      demand_most = rw r.demand r.demand_most;
      rotations_least = rw r.rotations r.rotations_least;
      rotations_most = rw r.rotations r.rotations_most;
      parts_least = rw r.part_count r.parts_least;
      parts_most = rw r.part_count r.parts_most;
      corners = many-each read_part [] (λ P. (3 ≤ length P) × (length P ≤ 8)) part-corners _ _ _ _ r.parts;
    }

-- A part that gives no cause 7.
pub record PartSound (P : Part) : Type 0 where
  pub is_sound : sound P ≡ true
  pub in_range : all vertex_in_range P ≡ true

module _ (s : List ℕ) (e : refusal s ≡ 0) where
  fits : KindsFit s
  fits = kinds-fit s (no_cause s e).no6

  pub kind-count : kind_count (content s).kinds ≡ kinds_stated s
  unfolding kind_count kinds_got
  kind-count = many-length read_kind (kinds_stated s) (kind_bytes s) _ _ fits.reads

  pub kinds-least : 1 ≤ kind_count (content s).kinds
  kinds-least = rw kind-count fits.least

  pub kinds-most : kind_count (content s).kinds ≤ 8
  kinds-most = rw kind-count fits.most

  pub pieces-most : piece_count (content s).kinds ≤ 12
  pieces-most = fits.pieces

  pub kind-ranges : (t : ℕ) → t < kind_count (content s).kinds → KindInRange (kind_at (content s).kinds t)
  unfolding kind_count kind_at kinds_got
  kind-ranges t h = many-each read_kind no_kind KindInRange kind-in_range (kinds_stated s) (kind_bytes s) _ _ fits.reads t h

  -- ---- Parts

  pub parts-sound : (t i : ℕ) → t < kind_count (content s).kinds → i < length (kind_at (content s).kinds t).parts → PartSound (get_or (kind_at (content s).kinds t).parts i [])
  unfolding kind_count kind_at cause7 content
  parts-sound t i h l =
      let k = any_at (λ k. any (λ P. not (sound P) || not (all vertex_in_range P)) k.parts) (content s).kinds no_kind (no_cause7 s e) t h in
      let p = any_at (λ P. not (sound P) || not (all vertex_in_range P)) (kind_at (content s).kinds t).parts [] k i l in
      record {
        is_sound = not-false _ (or_left _ _ p);
        in_range = not-false _ (or_right (not (sound (get_or (kind_at (content s).kinds t).parts i []))) _ p);
      }
