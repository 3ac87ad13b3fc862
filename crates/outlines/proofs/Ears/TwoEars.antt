-- Two ears: every edge of a simple outline of κ = 0 leaves a corner for the rule that does not touch it.
use mathlib.Core.List.{List, [], ◌∷◌, ◌++◌}
use mathlib.Core.Logic.{◌⊎◌, inl, inr, ⊎_elim}
use mathlib.Core.Path.{◌≡◌, refl, sym, ◌∙◌, ap, subst}
use Prim.Native.Nat.{ℕ, zero, suc, ◌≤◌, ◌<◌}
use native.Mathlib.Omega.{arith}
use lib.IntN.{pos, +ℤ_comm}
use lib.ListN.{length, length-append}
use Rattle.model.specs.Content.{Vertex}
use Rattle.model.specs.Geometry.{cross}
use Rattle.outlines.specs.Outline.{last_of}
use Rattle.outlines.specs.Simple.{PathEdge, Edge, IsSimple}
use Rattle.outlines.proofs.Tools.{◌≺◌}
use Rattle.outlines.proofs.Crossing.{cross-rot}
use Rattle.outlines.proofs.EdgeSums.{last_of-append}
use Rattle.outlines.proofs.Winding.CornerRule.{winding}
use Rattle.outlines.proofs.Winding.Turning.{κ, Three, not_on_path, not_last}
use Rattle.outlines.proofs.Kept.Reach.{Outside}
use Rattle.outlines.proofs.Kept.EarClipped.{Ear, simple_clip, κ_clip}
use Rattle.outlines.proofs.Ears.Turned.{Mem, path_mem, edge_mem, mem_next, Turned}
use Rattle.outlines.proofs.Ears.Diagonal.{Blocks, Far, in_or_out}
use Rattle.outlines.proofs.Ears.Parts.{Tip, Ears, Parts, half}
use Rattle.outlines.proofs.Ears.Top.{Lex, high_out, Top, top, top_left}
use Rattle.outlines.proofs.Ears.Block.{Nearest, search_near, mem_split, path_or, parts}

-- ---- the first corner is an ear: it, or an ear of the rest away from the cut
via_clip : (h s m m' : Vertex) (M : List Vertex) → let Q = h ∷ s ∷ m ∷ m' ∷ M in IsSimple Q → ((x : Vertex) → Mem x (s ∷ m ∷ m' ∷ M) → Lex x h) → Ear (last_of s (m ∷ m' ∷ M)) h s Q →
    Tip (s ∷ m ∷ m' ∷ M) (last_of m' M) s → Ears Q
via_clip h s m m' M g hi e t a b d = pick d
  where
    R : List Vertex
    R = m ∷ m' ∷ M

    Q : List Vertex
    Q = h ∷ s ∷ R

    p : Vertex
    p = last_of s R

    self : (h ≡ a → ⊥) → (h ≡ b → ⊥) → Tip Q a b
    self na nb = record {
      p = p;
      c = h;
      s = s;
      na = na;
      nb = nb;
      ear = record {
        into = inr (refl, refl);
        onto = inl (inl (refl, refl));
        turn = inr (e.left, (λ x i n1 n2 n3. ⊎_elim (λ j. e.empty x n1 n2 n3 h (inl (inr (j, refl)))) (λ j. e.empty x n1 n2 n3 j.0 (inl (inl j.1))) (mem_next h (s ∷ R) x i)));
      };
    }

    into' : PathEdge s R t.p t.c
    into' = ⊎_elim (λ o. o) (λ i. absurd (t.nb i.1)) t.ear.into

    onto' : PathEdge s R t.c t.s
    onto' = ⊎_elim (λ o. o) (λ i. absurd (t.na i.0)) t.ear.onto

    rest : (h ≡ a) ⊎ (h ≡ b) → (a ≡ h → b ≡ s) → (b ≡ h → a ≡ p) → Tip Q a b
    rest w f1 f2 = record {
      p = t.p;
      c = t.c;
      s = t.s;
      na = λ i. ⊎_elim (λ j. ch (i ∙ sym j)) (λ j. t.na (i ∙ f2 (sym j))) w;
      nb = λ i. ⊎_elim (λ j. t.nb (i ∙ f1 (sym j))) (λ j. ch (i ∙ sym j)) w;
      ear = record {
        into = inl (inr into');
        onto = inl (inr onto');
        turn = ⊎_elim (λ z. inl z) (λ z. inr (z.0, (λ x i n1 n2 n3. ⊎_elim (λ j. subst (λ q. Outside t.p t.c t.s q) (sym j) (high_out t.p t.c t.s h (hi t.p (path_mem s R t.p t.c into').0) (hi t.c (path_mem s R t.p t.c into').1) (hi t.s (path_mem s R t.c t.s onto').1) z.0)) (λ j. z.1 x j n1 n2 n3) i))) t.ear.turn;
      };
    }
      where
        ch : t.c ≡ h → ⊥
        ch i = (not_on_path h s R t.p t.c g.dist.0 into').1 (sym i)

    pick : Edge Q a b → Tip Q a b
    pick (inl (inl i)) = rest (inl (sym i.0)) (λ j. i.1) (λ j. absurd (g.dist.0.0 (sym j ∙ i.1)))
    pick (inl (inr o)) = self (λ i. (not_on_path h s R a b g.dist.0 o).0 i) (λ i. (not_on_path h s R a b g.dist.0 o).1 i)
    pick (inr i) = rest (inr (sym i.1)) (λ j. absurd (not_last h s R g.dist.0 (sym j ∙ i.0))) (λ j. i.0)

-- ---- a diagonal
swap : {P Q R : List Vertex} {h z : Vertex} → Parts P Q R h z → Parts P R Q z h
swap {P} {Q} {R} {h} {z} r = record {
  three = r.three;
  three_q = r.three_r;
  three_r = r.three_q;
  sim = r.sim;
  sim_q = r.sim_r;
  sim_r = r.sim_q;
  kap = r.kap;
  kap_q = r.kap_r;
  kap_r = r.kap_q;
  ed_q = r.ed_r;
  ed_r = r.ed_q;
  mem = λ x m. ⊎_elim (λ i. inr i) (λ i. inl i) (r.mem x m);
  only = λ x m n. ⊎_elim (λ i. inr i) (λ i. inl i) (r.only x n m);
  dia_q = r.dia_r;
  dia_r = r.dia_q;
  sum = λ x. r.sum x ∙ +ℤ_comm (winding Q x) (winding R x);
}

-- The theorem for fewer than n corners.
abbrev All : ℕ → Type 0
All n = (P : List Vertex) → length P < n → Three P → IsSimple P → κ P ≡ pos 0 → Ears P

-- With a diagonal: an ear of one of the parts, by which part the edge is in.
via_diag : (h s : Vertex) (C : List Vertex) (z : Vertex) (D : List Vertex) → let Q = h ∷ s ∷ (C ++ z ∷ D) in Parts Q (h ∷ s ∷ (C ++ z ∷ [])) (h ∷ z ∷ D) h z → All (length Q) → Ears Q
via_diag h s C z D r ih a b e = pick e
  where
    P1 : List Vertex
    P1 = h ∷ s ∷ (C ++ z ∷ [])

    P2 : List Vertex
    P2 = h ∷ z ∷ D

    d1 : (D : List Vertex) → Three (h ∷ z ∷ D) → 1 ≤ length D
    d1 [] t = absurd t
    d1 (d ∷ D) t = omega arith

    t1 : Tip P1 z h
    t1 = ih P1 (omega (arith, length-append C (z ∷ D), length-append C (z ∷ []), d1 D r.three_r)) r.three_q r.sim_q r.kap_q z h r.dia_q

    t2 : Tip P2 h z
    t2 = ih P2 (omega (arith, length-append C (z ∷ D))) r.three_r r.sim_r r.kap_r h z r.dia_r

    pick : Edge (h ∷ s ∷ (C ++ z ∷ D)) a b → Tip (h ∷ s ∷ (C ++ z ∷ D)) a b
    pick (inl o) = ⊎_elim (λ i. half (swap r) t2 a b (inl i)) (λ i. half r t1 a b (inl (inr i))) (path_or h (s ∷ C) z D a b o)
    pick (inr i) = half r t1 a b (inr (i.0 ∙ last_of-append s C z D, i.1))

-- ---- a triangle
tri_ears : (x y z : Vertex) → pos 0 ≺ cross z x y → IsSimple (x ∷ y ∷ z ∷ []) → Ears (x ∷ y ∷ z ∷ [])
tri_ears x y z d g a b e = pick e
  where
    P : List Vertex
    P = x ∷ y ∷ z ∷ []

    dx : pos 0 ≺ cross x y z
    dx = subst (λ t. pos 0 ≺ t) (cross-rot z x y) d

    dy : pos 0 ≺ cross y z x
    dy = subst (λ t. pos 0 ≺ t) (cross-rot x y z) dx

    xy : x ≡ y → ⊥
    xy = g.dist.0.0

    xz : x ≡ z → ⊥
    xz = g.dist.0.1.0

    yz : y ≡ z → ⊥
    yz = g.dist.1.0.0

    none-of_three : (u : Vertex) → Mem u P → (u ≡ x → ⊥) → (u ≡ y → ⊥) → (u ≡ z → ⊥) → {A : Type 0} → A
    none-of_three u (inl i) n1 n2 n3 = absurd (n1 i)
    none-of_three u (inr (inl i)) n1 n2 n3 = absurd (n2 i)
    none-of_three u (inr (inr (inl i))) n1 n2 n3 = absurd (n3 i)
    none-of_three u (inr (inr (inr i))) n1 n2 n3 = absurd i

    pick : Edge P a b → Tip P a b
    pick (inl (inl i)) = record { p = y; c = z; s = x; na = λ j. xz (sym (j ∙ i.0)); nb = λ j. yz (sym (j ∙ i.1)); ear = record { into = inl (inr (inl (refl, refl))); onto = inr (refl, refl); turn = inr (dy, (λ u m n1 n2 n3. none-of_three u m n3 n1 n2)) } }
    pick (inl (inr (inl i))) = record { p = z; c = x; s = y; na = λ j. xy (j ∙ i.0); nb = λ j. xz (j ∙ i.1); ear = record { into = inr (refl, refl); onto = inl (inl (refl, refl)); turn = inr (d, (λ u m n1 n2 n3. none-of_three u m n2 n3 n1)) } }
    pick (inl (inr (inr i))) = absurd i
    pick (inr i) = record { p = x; c = y; s = z; na = λ j. yz (j ∙ i.0); nb = λ j. xy (sym (j ∙ i.1)); ear = record { into = inl (inl (refl, refl)); onto = inl (inr (inl (refl, refl))); turn = inr (dx, (λ u m n1 n2 n3. none-of_three u m n1 n2 n3)) } }

-- ---- the outline turned to its top
from-top : (h s m : Vertex) (M : List Vertex) → let Q = h ∷ s ∷ m ∷ M in IsSimple Q → κ Q ≡ pos 0 → ((x : Vertex) → Mem x (s ∷ m ∷ M) → Lex x h) → pos 0 ≺ cross (last_of m M) h s → All (length Q) → Ears Q
from-top h s m [] g k hi d ih = tri_ears h s m d g
from-top h s m (m' ∷ M) g k hi d ih = ⊎_elim clipped blocked (search_near p h s (m ∷ m' ∷ M))
  where
    Q : List Vertex
    Q = h ∷ s ∷ m ∷ m' ∷ M

    p : Vertex
    p = last_of m' M

    out : (x : Vertex) → Mem x Q → (x ≡ p → ⊥) → (x ≡ h → ⊥) → (x ≡ s → ⊥) → Outside p h s x ⊎ (Blocks p h s x × Mem x (m ∷ m' ∷ M))
    out x i n1 n2 n3 = ⊎_elim (λ j. inl j) (λ j. inr (j, late i)) (in_or_out Q g p h s (inr (refl, refl)) (inl (inl (refl, refl))) d x i n1 n2 n3)
      where
        late : Mem x Q → Mem x (m ∷ m' ∷ M)
        late (inl a) = absurd (n2 a)
        late (inr (inl a)) = absurd (n3 a)
        late (inr (inr a)) = a

    clipped : ((x : Vertex) → Mem x (m ∷ m' ∷ M) → Blocks p h s x → ⊥) → Ears Q
    clipped f = via_clip h s m m' M g hi ear (ih (s ∷ m ∷ m' ∷ M) (omega arith) tt (simple_clip h s m m' M g ear) (κ_clip h s m m' M g ear ∙ k) p s (inr (refl, refl)))
      where
        ear : Ear p h s Q
        ear = record { left = d; empty = λ x n1 n2 n3 y i. ⊎_elim (λ j. j) (λ j. absurd (f x j.1 j.0)) (out x (⊎_elim (λ j. (edge_mem Q x y j).0) (λ j. (edge_mem Q y x j).1) i) n1 n2 n3) }

    blocked : Nearest p h s (m ∷ m' ∷ M) → Ears Q
    blocked r = let q = mem_split r.z (m ∷ m' ∷ M) r.mem in split q.0 q.1 q.2
      where
        split : (C D : List Vertex) → m ∷ m' ∷ M ≡ C ++ r.z ∷ D → Ears Q
        split C D e = subst (λ L. Ears (h ∷ s ∷ L)) (sym e)
            (via_diag h s C r.z D
            (parts h s C r.z D (subst (λ L. IsSimple (h ∷ s ∷ L)) e g) (ap (λ L. κ (h ∷ s ∷ L)) (sym e) ∙ k) (subst (λ L. Three (h ∷ s ∷ L)) e tt)
            (subst (λ q. pos 0 ≺ cross q h s) l d) (subst (λ q. Blocks q h s r.z) l r.blk)
            (subst (λ q. (x : Vertex) → Mem x (h ∷ s ∷ (C ++ r.z ∷ D)) → (x ≡ q → ⊥) → (x ≡ h → ⊥) → (x ≡ s → ⊥) → Far q h s r.z x) l
            (λ x i n1 n2 n3. ⊎_elim (λ j. inl j) (λ j. inr (r.least x j.1 j.0)) (out x (subst (λ L. Mem x (h ∷ s ∷ L)) (sym e) i) n1 n2 n3))))
            (λ P i. ih P (omega (arith, ap length e))))
          where
            l : p ≡ last_of r.z D
            l = ap (λ L. last_of h L) e ∙ last_of-append h C r.z D

-- Ears of the turned outline.
back : {P Q : List Vertex} → Turned P Q → Ears Q → Ears P
back {P} {Q} r f a b e = let t = f a b (r.to a b e) in record {
  p = t.p;
  c = t.c;
  s = t.s;
  na = t.na;
  nb = t.nb;
  ear = record {
    into = r.back t.p t.c t.ear.into;
    onto = r.back t.c t.s t.ear.onto;
    turn = ⊎_elim (λ i. inl i) (λ i. inr (i.0, (λ x m. i.1 x (r.mem x m)))) t.ear.turn;
  };
}

-- One corner more.
step : (n : ℕ) → All n → All (suc n)
step n ih P l t g k = at (top P t g)
  where
    at : Top P → Ears P
    at r = back r.turned (from-top r.h r.s r.m r.M (r.turned.sim t g) (r.turned.kap t g ∙ k) r.high (top_left P t g k r) (λ R i. ih R (omega (arith, r.turned.size))))

-- Any number of corners.
all : (n : ℕ) → All n
all zero = λ P l t g k. absurd (omega arith)
all (suc n) = step n (all n)

-- The two-ears theorem.
pub ears : (P : List Vertex) → Three P → IsSimple P → κ P ≡ pos 0 → Ears P
ears P t g k = all (suc (length P)) P (omega arith) t g k
