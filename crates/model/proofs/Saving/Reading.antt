-- A reader applied to the bytes of a value, with anything behind them, gives the value and how many bytes it has.
use mathlib.Core.Bool.{true, cond}
use mathlib.Core.List.{List, [], ◌∷◌, ◌++◌, map, append_assoc}
use mathlib.Core.Path.{◌≡◌, refl, sym, ap, ap₂, ◌∙◌}
use Prim.Native.Nat.{ℕ, suc, ◌+◌, ◌*◌, ◌≤◌}
use native.Mathlib.Omega.{arith}
use borrow.Author.Tests.{le-leb}
use lib.ListN.{length, drop, length-append}
use lib.Seq.{drop-append_seam}
use Rattle.model.proofs.Lists.{and_both}
use Rattle.model.specs.Content.{Part, Kind, SpacingClass}
use Rattle.model.specs.Format.{byte_at, Got, bad, got, joined, followed, many, vertices, read_part, head_in_range, with_parts, read_kind}
use Rattle.model.specs.Lists.{concat}
use Rattle.model.specs.ContentFit.{Each, VertexFit, PartFit, KindFit}
use Rattle.model.specs.Saving.{vertex_bytes, part_bytes, kind_record}
use Rattle.model.proofs.Records.{between-of}
use Rattle.model.proofs.Saving.Signed.{signed-written}

module _ {A : Type 0} where
  -- The reader f takes the bytes that enc gives a value for that value, if P holds of it.
  abbrev pub ReadsBack : (List ℕ → Got A) → (A → List ℕ) → (A → Type 0) → Type 0
  ReadsBack f enc P = (a : A) → P a → (rest : List ℕ) → f (enc a ++ rest) ≡ got a (length (enc a))

  module _ (f : List ℕ → Got A) (enc : A → List ℕ) (P : A → Type 0) (reads : ReadsBack f enc P) where
    many-step : (n : ℕ) (a : A) (xs : List A) (s t : List ℕ) (k m : ℕ) → f s ≡ got a k → drop k s ≡ t → many f n t ≡ got xs m
        → many f (suc n) s ≡ got (a ∷ xs) (k + m)
    unfolding many followed joined
    many-step n a xs s t k m e d r = ap (λ g. followed g (many f n) s) e ∙ ap (λ u. joined a k (many f n u)) d ∙ ap (joined a k) r

    -- So it reads one value after the other.
    pub many-written : (xs : List A) → Each P xs → (rest : List ℕ)
        → many f (length xs) (concat (map enc xs) ++ rest) ≡ got xs (length (concat (map enc xs)))
    unfolding many concat
    many-written [] h rest = refl
    many-written (a ∷ xs) h rest =
        let q : concat (map enc (a ∷ xs)) ++ rest ≡ enc a ++ (concat (map enc xs) ++ rest) = append_assoc (enc a) (concat (map enc xs)) rest in
        many-step (length xs) a xs (concat (map enc (a ∷ xs)) ++ rest) (concat (map enc xs) ++ rest) (length (enc a)) (length (concat (map enc xs)))
        (ap f q ∙ reads a h.0 (concat (map enc xs) ++ rest))
        (ap (drop (length (enc a))) q ∙ drop-append_seam (enc a) (concat (map enc xs) ++ rest))
        (many-written xs h.1 rest)
        ∙ ap (got (a ∷ xs)) (sym (length-append (enc a) (concat (map enc xs))))

-- ---- Corners

corner-bytes : (P : Part) → length (concat (map vertex_bytes P)) ≡ length P * 2
unfolding concat vertex_bytes
corner-bytes [] = refl
corner-bytes (v ∷ P) = omega (arith, corner-bytes P)

vertices-written : (P : Part) → Each VertexFit P → (rest : List ℕ) → vertices (length P) (concat (map vertex_bytes P) ++ rest) ≡ P
unfolding vertices concat vertex_bytes byte_at
vertices-written [] h rest = refl
vertices-written (v ∷ P) h rest =
    rw (signed-written v.x h.0.x_small, signed-written v.y h.0.y_small, vertices-written P h.1 rest)

-- ---- Parts

pub part-size : (P : Part) → length (part_bytes P) ≡ 1 + length P * 2
unfolding part_bytes
part-size P = omega (arith, corner-bytes P)

part-takes : (P : Part) → PartFit P → (rest : List ℕ) → read_part (part_bytes P ++ rest) ≡ got (vertices (length P) (concat (map vertex_bytes P) ++ rest)) (1 + length P * 2)
unfolding read_part part_bytes byte_at
part-takes P h rest =
    let l : 1 + length P * 2 ≤ length (part_bytes P ++ rest) = omega (arith, length-append (part_bytes P) rest, part-size P) in
    ap (λ t. cond t (got (vertices (length P) (concat (map vertex_bytes P) ++ rest)) (1 + length P * 2)) bad)
    (and_both _ _ (between-of 3 8 (length P) h.corners_least h.corners_most) (le-leb _ _ l))

part-written : ReadsBack read_part part_bytes PartFit
part-written P h rest = part-takes P h rest ∙ ap₂ got (vertices-written P h.corners rest) (sym (part-size P))

-- ---- Types

head_written : (cs : List SpacingClass) (k : Kind) → KindFit cs k → (rest : List ℕ) → head_in_range (kind_record k ++ rest) ≡ true
unfolding head_in_range kind_record byte_at
head_written cs k h rest =
    let l : 4 ≤ length (kind_record k ++ rest) = omega arith in
    and_both _ _
    (and_both _ _
    (and_both _ _ (le-leb 4 _ l) (between-of 1 12 k.demand h.demand_least h.demand_most))
    (between-of 1 15 k.rotations h.rotations_least h.rotations_most))
    (between-of 1 6 (length k.parts) h.parts_least h.parts_most)

kind-takes : (k : Kind) (rest : List ℕ) → head_in_range (kind_record k ++ rest) ≡ true
    → read_kind (kind_record k ++ rest) ≡ with_parts (kind_record k ++ rest) (many read_part (length k.parts) (concat (map part_bytes k.parts) ++ rest))
unfolding read_kind kind_record byte_at
kind-takes k rest e = rw (e, read_kind)

with_written : (k : Kind) (rest : List ℕ) (m : ℕ) → with_parts (kind_record k ++ rest) (got k.parts m) ≡ got k (4 + m)
unfolding with_parts kind_record byte_at
with_written k rest m = refl

pub kind-written : (cs : List SpacingClass) → ReadsBack read_kind kind_record (KindFit cs)
unfolding kind_record
kind-written cs k h rest =
    kind-takes k rest (head_written cs k h rest)
    ∙ ap (with_parts (kind_record k ++ rest)) (many-written read_part part_bytes PartFit part-written k.parts h.parts rest)
    ∙ with_written k rest (length (concat (map part_bytes k.parts)))
    ∙ ap (got k) (omega arith)
