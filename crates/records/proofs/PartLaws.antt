-- The tests of a part judge the part that the model reads.
use mathlib.Core.Bool.{Bool, true, false, not, cond, ◌&&◌, ◌||◌}
use mathlib.Core.List.{List, [], ◌∷◌}
use mathlib.Core.Path.{◌≡◌, refl, sym, ap, ◌∙◌}
use Prim.Native.Nat.{ℕ, ◌+◌, ◌*◌, ◌/◌, ◌<◌, ◌≤◌}
use native.Mathlib.Numerals.{add-one}
use native.Mathlib.Omega.{arith}
use borrow.Author.Tests.{eqb-false}
use lib.Dec.{eqb}
use lib.IntN.{ℤ, ◌-ℤ◌, ◌*ℤ◌}
use lib.ListN.{length, get_or, take, drop, length-map, length-take, length-drop}
use lib.Seq.{ext_get_or, get_or-take}
use Rattle.std.specs.List.{list_all}
use Rattle.model.specs.Content.{Vertex, origin}
use Rattle.model.specs.Format.{byte_at, vertices, vertex_in_range}
use Rattle.model.specs.Geometry.{strictly_left, vertex_at, following, edge_sound}
use Rattle.model.specs.Geometry as Geometry
use Rattle.model.specs.Lists.{all, below}
use Rattle.model.proofs.Folds.{get_or-map-at, all_same}
use Rattle.model.proofs.Lists.{length-below, get_or-below}
use Rattle.model.proofs.Records.{byte_behind, length-vertices, vertices-same, vertex-at}
use Rattle.records.specs.Parts.{vertex_from, part_from, next_of, corner_sound, edge_sound_from, edge_sound_at, sound_from, in_range_from, unfit_from}

-- A test of all corners, in the words of the definitions.
pub list_all-corners : (P : List Vertex) → list_all vertex_in_range P ≡ all vertex_in_range P
unfolding all
list_all-corners [] = refl
list_all-corners (a ∷ P) = ap (λ b. vertex_in_range a && b) (list_all-corners P)

-- The corners behind the part's first byte.
pub part-in : (s : List ℕ) (n m : ℕ) (cs : List Vertex) → m ≡ n * 2 → n * 2 + 1 ≤ length s
    → take (length (take m (drop 1 s)) / 2) cs ≡ vertices (length (take m (drop 1 s)) / 2) (take m (drop 1 s)) → take n
    cs ≡ vertices n (drop 1 s)
unfolding byte_at
part-in s n m cs em h e =
    let l : length (take m (drop 1 s)) / 2 ≡ n = omega (arith, length-take m (drop 1 s), length-drop 1 s) in
    ap (λ k. take k cs) (sym l) ∙ e ∙ ap (λ k. vertices k (take m (drop 1 s))) l
    ∙ vertices-same n (take m (drop 1 s)) (drop 1 s) (λ i k. get_or-take m (drop 1 s) i 0 (omega arith))

-- ---- The part that the model reads

module _ (s : List ℕ) (n : ℕ) where
  -- Corner i of the part.
  pub corner : (i : ℕ) → i < n → get_or (vertices n (drop 1 s)) i origin ≡ vertex_from s i
  corner i h =
      let a : byte_at (drop 1 s) (i * 2) ≡ byte_at s (i * 2 + 1) = byte_behind s 1 (i * 2) ∙ ap (byte_at s)
      (omega arith) in
      let b : byte_at (drop 1 s) (i * 2 + 1) ≡ byte_at s (i * 2 + 2) = byte_behind s 1 (i * 2 + 1) ∙ ap (byte_at s)
      (omega arith) in
      vertex-at n (drop 1 s) i h ∙ rw (a, b)

  -- The part, corner by corner.
  pub part-corners : vertices n (drop 1 s) ≡ part_from s n
  part-corners =
      ext_get_or origin (vertices n (drop 1 s)) (part_from s n)
      (length-vertices n (drop 1 s) ∙ sym (length-map (below n) (vertex_from s) ∙ length-below n))
      (λ i h.
      let l : i < n = rw (length-vertices n (drop 1 s)) at h in
      corner i l ∙ sym (there i l))
    where
      there : (i : ℕ) → i < n → get_or (part_from s n) i origin ≡ vertex_from s i
      there i l =
          get_or-map-at (vertex_from s) (below n) i 0 origin (rw (length-below n) l) ∙ ap (vertex_from s) (get_or-below
          n i 0 l)

  pub next_lt : (i : ℕ) → i < n → next_of n i < n
  unfolding next_of
  next_lt i h = go (eqb (i + 1) n) refl
    where
      go : (b : Bool) → eqb (i + 1) n ≡ b → cond b 0 (i + 1) < n
      go true e = omega arith
      go false e = let z = eqb-false (i + 1) n e in omega arith

  next_following : (i : ℕ) → following (vertices n (drop 1 s)) i ≡ next_of n i
  unfolding following next_of
  next_following i = rw (length-vertices n (drop 1 s), add-one)

  edge_same : (i : ℕ) → i < n → edge_sound (vertices n (drop 1 s)) i ≡ edge_sound_at s n i
  unfolding edge_sound edge_sound_at edge_sound_from corner_sound vertex_at
  edge_same i h =
      rw (length-vertices n (drop 1 s), next_following i, corner i h, corner (next_of n i) (next_lt i h))
      (all_same _ _ n (λ k l. ap (λ v. eqb k i || eqb k (next_of n i) || strictly_left (vertex_from s i) (vertex_from s
      (next_of n i)) v) (corner k l)))

  pub sound-same : Geometry.sound (vertices n (drop 1 s)) ≡ sound_from s n
  unfolding Geometry.sound sound_from
  sound-same = rw (length-vertices n (drop 1 s)) (all_same (edge_sound (vertices n (drop 1 s))) (edge_sound_at s n) n
      edge_same)

  -- What is asked of a part is asked of the part that the model reads.
  pub unfit_same : unfit_from s n ≡ (not (Geometry.sound (vertices n (drop 1 s))) || not (all vertex_in_range
      (vertices n (drop 1 s))))
  unfolding unfit_from in_range_from
  unfit_same = rw (sound-same, part-corners)

-- The turn at a corner, from its four differences.
pub turn_is : (p q r : Vertex) (area ax ay bx by : ℤ) → area ≡ ax *ℤ by -ℤ ay *ℤ bx
    → ax ≡ q.x -ℤ p.x → ay ≡ q.y -ℤ p.y → bx ≡ r.x -ℤ p.x → by ≡ r.y -ℤ p.y → area ≡ Geometry.cross p q r
unfolding Geometry.cross
turn_is p q r area ax ay bx by e a b c d = rw (e, a, b, c, d)
