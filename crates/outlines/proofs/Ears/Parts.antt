-- An outline cut along a diagonal: an ear of one part, away from the diagonal, is an ear of the whole.
use mathlib.Core.List.{List, [], ◌∷◌}
use mathlib.Core.Logic.{◌⊎◌, inl, inr, ⊎_elim}
use mathlib.Core.Path.{◌≡◌, refl, sym, ◌∙◌, subst}
use lib.IntN.{ℤ, pos, negsuc, neg_ℤ, ◌+ℤ◌, ◌-ℤ◌}
use lib.Signed.{clash_ℤ, ≤ℤ_refl}
use Rattle.model.specs.Content.{Vertex}
use Rattle.model.specs.Geometry.{cross}
use Rattle.outlines.specs.Outline.{last_of, path_sum}
use Rattle.outlines.specs.Simple.{ShareOnly, Edge, IsSimple}
use Rattle.outlines.proofs.Tools.{◌≼◌, ◌≺◌, #, ◌⊞◌, ◌⊟◌, ⊖◌, ◌≈◌, never, ◌⊕◌, ◌⊢◌by◌, order, times}
use Rattle.outlines.proofs.Crossing.{crossed, crossed-anti, cross-rot}
use Rattle.outlines.proofs.Winding.Cone.{share_sym, lower_half, upper_half, crossed_back, cone, corner-in, both_ways}
use Rattle.outlines.proofs.Winding.CornerRule.{winding, Free, chain, crossed-start, crossed-end}
use Rattle.outlines.proofs.Winding.Turning.{κ, Three, not_on_path, free_of}
use Rattle.outlines.proofs.Winding.LargestX.{cone_split}
use Rattle.outlines.proofs.Kept.Reach.{Outside}
use Rattle.outlines.proofs.Ears.Turned.{Mem, edge_mem, next, prev, front, winding_at, pred_one}
use Rattle.outlines.proofs.Ears.Diagonal.{On, on_swap, meet-on, off_edge, Blocks, in_or_out, diagonal, dec}

-- ---- a corner that the rule can take: in line with its neighbours, or a left turn whose closed triangle holds no other corner

-- A corner c that the rule can take: in line with its neighbours, or a left turn whose closed triangle holds no other corner.
pub record Takeable (P : List Vertex) (p c s : Vertex) : Type 0 where
  pub into : Edge P p c
  pub onto : Edge P c s
  pub turn : (cross p c s ≡ pos 0) ⊎ ((pos 0 ≺ cross p c s) × ((x : Vertex) → Mem x P → (x ≡ p → ⊥) → (x ≡ c → ⊥) → (x ≡ s → ⊥) → Outside p c s x))

-- Such a corner that is neither a nor b.
pub record Tip (P : List Vertex) (a b : Vertex) : Type 0 where
  pub p : Vertex
  pub c : Vertex
  pub s : Vertex
  pub ear : Takeable P p c s
  pub na : c ≡ a → ⊥
  pub nb : c ≡ b → ⊥

-- Away from every edge there is such a corner.
abbrev pub Ears : List Vertex → Type 0
Ears P = (a b : Vertex) → Edge P a b → Tip P a b

-- ---- a point that sees the first corner has one crossing

-- At a left turn neighbours share their corner alone.
pub adj-of : {p a b : Vertex} → pos 0 ≺ cross p a b → ShareOnly p a b
adj-of {p} {a} {b} d = record { apart = λ e. absurd (clash_ℤ d (subst (λ t. t ≼ pos 0) (sym e) (≤ℤ_refl (pos 0)))) }

-- A point inside the cone of the first corner that sees it has the winding number 1.
winding_seen : (c s : Vertex) (M : List Vertex) (x : Vertex) → let p = last_of s M in κ (c ∷ s ∷ M) ≡ pos 0 → Free c x s M →
    pos 0 ≺ cross p c s → pos 0 ≺ cross p c x → pos 0 ≺ cross x c s → winding (c ∷ s ∷ M) x ≡ pos 1
winding_seen c s M x k f d dp ds = fin (crossed c s x) (path_sum (λ a b. crossed a b x) s M) (crossed p c x) (crossed c s c) (path_sum (λ a b. crossed a b c) s M) (crossed p c c) (cone p c s) (crossed_back c x s) (crossed_back c x p) (crossed s c x) (cone p c x) (cone s c x) (cone x c s) (lower_half (upper_half c x))
    k (crossed-start c s) (crossed-end p c) (chain c x s M f) (corner-in p c x (adj-of dp)) (corner-in s c x (share_sym (adj-of ds))) (crossed-anti c s x) (cone_split p c s x d dp ds) (both_ways x c s (adj-of ds))
  where
    p : Vertex
    p = last_of s M

    fin : (cs ox pc cs0 oc pc0 ip ds dp sc ipx isx ixs n : ℤ) → cs0 +ℤ oc +ℤ pc0 -ℤ ip ≡ pos 0 → cs0 ≡ pos 0 → pc0 ≡ pos 0 → ox +ℤ ds ≡ oc +ℤ dp → pc +ℤ dp +ℤ ipx ≡ n → sc +ℤ ds +ℤ isx ≡ n → sc ≡ neg_ℤ cs → ip ≡ ipx +ℤ ixs → ixs +ℤ isx ≡ pos 1 →
        cs +ℤ ox +ℤ pc ≡ pos 1
    fin = order 14 (λ cs ox pc cs0 oc pc0 ip ds dp sc ipx isx ixs n. (cs0 ⊞ oc ⊞ pc0 ⊟ ip ≈ # (pos 0)) ∷ (cs0 ≈ # (pos 0)) ∷ (pc0 ≈ # (pos 0)) ∷ (ox ⊞ ds ≈ oc ⊞ dp) ∷ (pc ⊞ dp ⊞ ipx ≈ n) ∷ (sc ⊞ ds ⊞ isx ≈ n) ∷ (sc ≈ ⊖ cs) ∷ (ip ≈ ipx ⊞ ixs) ∷ (ixs ⊞ isx ≈ # (pos 1)) ∷ []
        ⊢ cs ⊞ ox ⊞ pc ≈ # (pos 1) by times 0 (# (pos 1)) ⊕ times 1 (# (negsuc 0)) ⊕ times 2 (# (negsuc 0)) ⊕ times 3 (# (pos 1)) ⊕ times 4 (# (pos 1)) ⊕ times 5 (# (negsuc 0)) ⊕ times 6 (# (pos 1)) ⊕ times 7 (# (pos 1)) ⊕ times 8 (# (pos 1))) tt

-- A point of an ear's triangle that is on no edge has the winding number 1.
pub winding_one : (Q : List Vertex) → Three Q → IsSimple Q → κ Q ≡ pos 0 → (p c s : Vertex) → Edge Q p c → Edge Q c s → pos 0 ≺ cross p c s →
    ((x : Vertex) → Mem x Q → (x ≡ p → ⊥) → (x ≡ c → ⊥) → (x ≡ s → ⊥) → Outside p c s x) →
    (x : Vertex) → Blocks p c s x → ((u t : Vertex) → Edge Q u t → On x u t → ⊥) → winding Q x ≡ pos 1
winding_one Q h g k p c s e f d empty x blk off = let r = front Q c s h f in
    let l : last_of s r.0 ≡ p = pred_one Q p (last_of s r.0) c h g e (r.1.back (last_of s r.0) c (inr (refl, refl))) in
    let ds = (r.1.sim h g).dist in
    sym (r.1.sum (λ a b. crossed a b x))
    ∙ winding_seen c s r.0 x (r.1.kap h g ∙ k)
    (free_of c x s r.0 (λ u t o N. off u t (r.1.back u t (inl (inr o))) (meet-on c x u t N
    (diagonal Q h g p c s e f d x blk (λ y m n1 n2 n3. inl (empty y m n1 n2 n3)) u t (r.1.back u t (inl (inr o))) (not_on_path c s r.0 u t ds.0 o).0 (not_on_path c s r.0 u t ds.0 o).1 N))))
    (subst (λ q. pos 0 ≺ cross q c s) (sym l) d) (subst (λ q. pos 0 ≺ cross q c x) (sym l) blk.b) (subst (λ t. pos 0 ≺ t) (sym (cross-rot x c s)) blk.a)

-- ---- two parts of an outline, with the diagonal z h in the one and h z in the other

-- Q and R are the two parts of P, with the diagonal z h in the one and h z in the other.
pub record Parts (P Q R : List Vertex) (h z : Vertex) : Type 0 where
  pub three : Three P
  pub three_q : Three Q
  pub three_r : Three R
  pub sim : IsSimple P
  pub sim_q : IsSimple Q
  pub sim_r : IsSimple R
  pub kap : κ P ≡ pos 0
  pub kap_q : κ Q ≡ pos 0
  pub kap_r : κ R ≡ pos 0
  pub ed_q : (u t : Vertex) → Edge Q u t → Edge P u t ⊎ ((u ≡ z) × (t ≡ h))
  pub ed_r : (u t : Vertex) → Edge R u t → Edge P u t ⊎ ((u ≡ h) × (t ≡ z))
  pub mem : (x : Vertex) → Mem x P → Mem x Q ⊎ Mem x R
  pub only : (x : Vertex) → Mem x Q → Mem x R → (x ≡ h) ⊎ (x ≡ z)
  pub dia_q : Edge Q z h
  pub dia_r : Edge R h z
  pub sum : (x : Vertex) → winding P x ≡ winding Q x +ℤ winding R x

-- A corner of R off the diagonal has no crossings with Q.
winding_none : {P Q R : List Vertex} {h z : Vertex} → Parts P Q R h z → (x : Vertex) → Mem x R → (x ≡ h → ⊥) → (x ≡ z → ⊥) → winding Q x ≡ pos 0
winding_none {P} {Q} {R} {h} {z} r x m nh nz = let a = prev R x m in let b = next R x m in
    fin (winding P x) (winding Q x) (winding R x) (cone a.0 x b.0) (r.sum x)
    (winding_at P a.0 x b.0 r.three r.sim r.kap (⊎_elim (λ e. e) (λ i. absurd (nz i.1)) (r.ed_r a.0 x a.1)) (⊎_elim (λ e. e) (λ i. absurd (nh i.0)) (r.ed_r x b.0 b.1)))
    (winding_at R a.0 x b.0 r.three_r r.sim_r r.kap_r a.1 b.1)
  where
    fin : (p q r i : ℤ) → p ≡ q +ℤ r → p ≡ i → r ≡ i → q ≡ pos 0
    fin = order 4 (λ p q r i. (p ≈ q ⊞ r) ∷ (p ≈ i) ∷ (r ≈ i) ∷ [] ⊢ q ≈ # (pos 0) by times 0 (# (negsuc 0)) ⊕ times 1 (# (pos 1)) ⊕ times 2 (# (negsuc 0))) tt

-- An ear of one part, off the diagonal, is an ear of the whole.
pub half : {P Q R : List Vertex} {h z : Vertex} → Parts P Q R h z → Tip Q z h → (a b : Vertex) → Edge R a b → Tip P a b
half {P} {Q} {R} {h} {z} r t a b e = record {
  p = t.p;
  c = t.c;
  s = t.s;
  na = away a (edge_mem R a b e).0;
  nb = away b (edge_mem R a b e).1;
  ear = record { into = into; onto = onto; turn = ⊎_elim (λ i. inl i) (λ i. inr (i.0, empty i.0 i.1)) t.ear.turn };
}
  where
    away : (y : Vertex) → Mem y R → t.c ≡ y → ⊥
    away y m i = ⊎_elim (λ j. t.nb j) (λ j. t.na j) (r.only t.c (edge_mem Q t.p t.c t.ear.into).1 (subst (λ q. Mem q R) (sym i) m))

    into : Edge P t.p t.c
    into = ⊎_elim (λ i. i) (λ i. absurd (t.nb i.1)) (r.ed_q t.p t.c t.ear.into)

    onto : Edge P t.c t.s
    onto = ⊎_elim (λ i. i) (λ i. absurd (t.na i.0)) (r.ed_q t.c t.s t.ear.onto)

    empty : (d : pos 0 ≺ cross t.p t.c t.s) → ((x : Vertex) → Mem x Q → (x ≡ t.p → ⊥) → (x ≡ t.c → ⊥) → (x ≡ t.s → ⊥) → Outside t.p t.c t.s x) →
        (x : Vertex) → Mem x P → (x ≡ t.p → ⊥) → (x ≡ t.c → ⊥) → (x ≡ t.s → ⊥) → Outside t.p t.c t.s x
    empty d f x m n1 n2 n3 = ⊎_elim (λ i. in_q i) (λ i. ⊎_elim (λ j. in_q (subst (λ q. Mem q Q) (sym j) (edge_mem Q z h r.dia_q).1))
        (λ nh. ⊎_elim (λ j. in_q (subst (λ q. Mem q Q) (sym j) (edge_mem Q z h r.dia_q).0)) (λ nz. ⊎_elim (λ j. j) (λ j. absurd (other i nh nz j)) (in_or_out P r.sim t.p t.c t.s into onto d x m n1 n2 n3)) (dec x z)) (dec x h)) (r.mem x m)
      where
        in_q : Mem x Q → Outside t.p t.c t.s x
        in_q i = f x i n1 n2 n3

        other : Mem x R → (x ≡ h → ⊥) → (x ≡ z → ⊥) → Blocks t.p t.c t.s x → ⊥
        other i nh nz j = no (winding Q x) (winding_one Q r.three_q r.sim_q r.kap_q t.p t.c t.s t.ear.into t.ear.onto d f x j off) (winding_none r x i nh nz)
          where
            no : (a : ℤ) → a ≡ pos 1 → a ≡ pos 0 → ⊥
            no = order 1 (λ a. (a ≈ # (pos 1)) ∷ (a ≈ # (pos 0)) ∷ [] ⊢ never by times 0 (# (negsuc 0)) ⊕ times 1 (# (pos 1))) tt

            not_q : (y : Vertex) → Mem y Q → x ≡ y → ⊥
            not_q y k l = ⊎_elim nh nz (r.only x (subst (λ q. Mem q Q) (sym l) k) i)

            off : (u v : Vertex) → Edge Q u v → On x u v → ⊥
            off u v e o = ⊎_elim (λ k. off_edge P r.sim x u v m k (not_q u (edge_mem Q u v e).0) (not_q v (edge_mem Q u v e).1) o)
                (λ k. off_edge R r.sim_r x h z i r.dia_r nh nz (on_swap (subst (λ q. On x z q) k.1 (subst (λ q. On x q v) k.0 o)))) (r.ed_q u v e)
