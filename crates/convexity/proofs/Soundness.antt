-- Parts that are sound: those of an accepted job, and the same turned, moved and placed. Assumes nothing.
use mathlib.Core.Path.{◌≡◌, refl, sym, ap, ◌∙◌, subst}
use mathlib.Core.Bool.{◌||◌}
use mathlib.Core.List.{List, [], ◌∷◌, map}
use Prim.Native.Nat.{ℕ, zero, suc, ◌*◌, ◌<◌}
use native.Mathlib.Omega.{arith}
use lib.Dec.{eqb}
use lib.IntN.{ℤ, pos}
use lib.ListN.{length, get_or, length-map}
use lib.Signed.{lt_z}
use Rattle.integers.proofs.Solver.{ring, ◌⊞◌, ◌⊟◌, ◌⊠◌, ⊖◌, ◌≈◌}
use Rattle.model.specs.Candidate.{placed_part}
use Rattle.model.specs.Content.{Vertex, Part, Board, kind_at, kind_count}
use Rattle.model.specs.Format.{refusal, content}
use Rattle.model.specs.Geometry.{quarter_turn, rotated, moved, shifted, vertex_at, following, cross, strictly_left, edge_sound, sound}
use Rattle.model.specs.Grid.{Placement}
use Rattle.model.specs.Lists.{all, below}
use Rattle.model.proofs.AcceptedKinds.{kind-ranges, parts-sound}
use Rattle.model.proofs.Folds.{all_same}
use Rattle.model.proofs.Moves.{Vertexed, vertex_at-map, following-map, next_map, placed-moved}
use Rattle.convexity.specs.Parts.{SoundPart, SoundParts}

-- ---- soundness: what keeps the turn of every three corners keeps it

module _ (s : Vertex → Vertex) (keeps : (p q r : Vertex) → cross (s p) (s q) (s r) ≡ cross p q r) (P : Part) where
  cross-mapped : (i k : ℕ) → i < length P → k < length P
      → cross (vertex_at (map s P) i) (vertex_at (map s P) (following (map s P) i)) (vertex_at (map s P) k) ≡ cross (vertex_at P i) (vertex_at P (following P i)) (vertex_at P k)
  cross-mapped i k h l = rw (vertex_at-map s P i h, next_map s P i h, vertex_at-map s P k l) (keeps (vertex_at P i) (vertex_at P (following P i)) (vertex_at P k))

  edge_sound-mapped : (i : ℕ) → i < length P → edge_sound (map s P) i ≡ edge_sound P i
  unfolding edge_sound strictly_left
  edge_sound-mapped i h =
      ap (λ n. all (λ k. eqb k i || eqb k (following (map s P) i) || lt_z (pos 0) (cross (vertex_at (map s P) i) (vertex_at (map s P) (following (map s P) i)) (vertex_at (map s P) k))) (below n)) (length-map P s)
      ∙ all_same _ _ (length P) (λ k l.
      ap (λ f. eqb k i || eqb k f || lt_z (pos 0) (cross (vertex_at (map s P) i) (vertex_at (map s P) (following (map s P) i)) (vertex_at (map s P) k))) (following-map s P i)
      ∙ ap (λ z. eqb k i || eqb k (following P i) || lt_z (pos 0) z) (cross-mapped i k h l))

  sound-mapped : sound (map s P) ≡ sound P
  unfolding sound
  sound-mapped = ap (λ n. all (edge_sound (map s P)) (below n)) (length-map P s) ∙ all_same _ _ (length P) edge_sound-mapped

  mapped : SoundPart P → SoundPart (map s P)
  mapped h = record { is_sound = sound-mapped ∙ h.is_sound; corners = rw (length-map P s) h.corners }

cross-shifted : (a b : ℤ) (p q r : Vertex) → cross (shifted a b p) (shifted a b q) (shifted a b r) ≡ cross p q r
unfolding cross
cross-shifted a b p q r =
    ring 8 (λ a b px py qx qy rx ry. ((qx ⊞ a) ⊟ (px ⊞ a)) ⊠ ((ry ⊞ b) ⊟ (py ⊞ b)) ⊟ ((qy ⊞ b) ⊟ (py ⊞ b)) ⊠ ((rx ⊞ a) ⊟ (px ⊞ a)) ≈ (qx ⊟ px) ⊠ (ry ⊟ py) ⊟ (qy ⊟ py) ⊠ (rx ⊟ px)) tt
    a b p.x p.y q.x q.y r.x r.y

cross-turned : (p q r : Vertex) → cross (quarter_turn p) (quarter_turn q) (quarter_turn r) ≡ cross p q r
unfolding cross quarter_turn
cross-turned p q r =
    ring 6 (λ px py qx qy rx ry. (⊖ qy ⊟ ⊖ py) ⊠ (rx ⊟ px) ⊟ (qx ⊟ px) ⊠ (⊖ ry ⊟ ⊖ py) ≈ (qx ⊟ px) ⊠ (ry ⊟ py) ⊟ (qy ⊟ py) ⊠ (rx ⊟ px)) tt
    p.x p.y q.x q.y r.x r.y

cross-rotated : (k : ℕ) (p q r : Vertex) → cross (rotated k p) (rotated k q) (rotated k r) ≡ cross p q r
unfolding rotated
cross-rotated zero p q r = refl
cross-rotated (suc k) p q r = cross-turned (rotated k p) (rotated k q) (rotated k r) ∙ cross-rotated k p q r

pub shifted-sound : (a b : ℤ) (P : Part) → SoundPart P → SoundPart (map (shifted a b) P)
shifted-sound a b P = mapped (shifted a b) (cross-shifted a b) P

pub rotated-sound : (k : ℕ) (P : Part) → SoundPart P → SoundPart (map (rotated k) P)
rotated-sound k P = mapped (rotated k) (cross-rotated k) P

-- A placed part is the turned part, moved.
placed-sound : (b : Board) (p : Placement) (P : Part) → SoundPart P → SoundPart (placed_part b p P)
unfolding moved
placed-sound b p P h =
    subst SoundPart (sym (placed-moved b p P))
    (shifted-sound (pos (p.column * b.g)) (pos (p.row * b.g)) (map (rotated p.rotation) P) (rotated-sound p.rotation P h))

-- Every part of an accepted job is sound.
pub accepted-sound : (s : List ℕ) → refusal s ≡ 0 → (t i : ℕ) → t < kind_count (content s).kinds → i < length (kind_at (content s).kinds t).parts
    → SoundPart (get_or (kind_at (content s).kinds t).parts i [])
accepted-sound s accepted t i h l = record { is_sound = (parts-sound s accepted t i h l).is_sound; corners = ((kind-ranges s accepted t h).corners i l).0 }

-- ---- pieces

-- every part, by its place
pub sound-all : (Ps : List Part) → ((i : ℕ) → i < length Ps → SoundPart (get_or Ps i [])) → SoundParts Ps
sound-all [] h = tt
sound-all (P ∷ Ps) h = (h 0 (omega arith), sound-all Ps (λ i l. h (suc i) (omega arith)))

-- A sound part has a corner.
pub vertexed_sound : (Ps : List Part) → SoundParts Ps → Vertexed Ps
vertexed_sound [] h = tt
vertexed_sound (P ∷ Ps) h = (omega (arith, h.0.corners), vertexed_sound Ps h.1)

-- what keeps a part sound keeps a piece's parts so
mapped_parts : (f : Part → Part) → ((P : Part) → SoundPart P → SoundPart (f P)) → (Ps : List Part) → SoundParts Ps → SoundParts (map f Ps)
mapped_parts f keeps [] h = tt
mapped_parts f keeps (P ∷ Ps) h = (keeps P h.0, mapped_parts f keeps Ps h.1)

pub rotated-parts : (k : ℕ) (Ps : List Part) → SoundParts Ps → SoundParts (map (map (rotated k)) Ps)
rotated-parts k = mapped_parts (map (rotated k)) (rotated-sound k)

pub placed-parts : (b : Board) (p : Placement) (Ps : List Part) → SoundParts Ps → SoundParts (map (placed_part b p) Ps)
placed-parts b p = mapped_parts (placed_part b p) (placed-sound b p)

-- The parts of a type of an accepted job.
pub accepted-parts : (s : List ℕ) → refusal s ≡ 0 → (t : ℕ) → t < kind_count (content s).kinds → SoundParts (kind_at (content s).kinds t).parts
accepted-parts s accepted t h = sound-all (kind_at (content s).kinds t).parts (λ i l. accepted-sound s accepted t i h l)
