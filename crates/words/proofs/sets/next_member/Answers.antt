-- `words::sets::next_member` meets its contract.
use mathlib.Core.Path.{◌≡◌, refl, sym, ap, ◌∙◌}
use Prim.Native.Nat.{ℕ, ◌+◌, ◌*◌, ◌/◌, ◌%◌, ◌^◌, max}
use native.Mathlib.Omega.{arith}
use Rattle.words.specs.Number.{number_at}
use Rattle.words.specs.Sets.{next_member}
use Rattle.words.proofs.First.{next_none, next_word, next_here}
use Rattle.words.proofs.sets.next_member.Goals as goal

pub returns-then-rest-ne0 : goal.returns-then-rest-ne0
returns-then-rest-ne0 c =
    let s = c.args.s.now in
    let at = c.max-at.result in
    let here : at / 64 ≡ c.loop-k.k = omega (arith, c.max-at.ensures) in
    let word : c.get_u64.result ≡ number_at 8 s (at / 64 * 8) = c.get_u64.ensures
    ∙ ap (λ (k : ℕ). number_at 8 s (k * 8)) (sym here) in
    let rest : number_at 8 s (at / 64 * 8) / 2 ^ (at % 64) ≡ 0 → ⊥ = λ z. c.if-rest-ne0.true (ap (λ (w : ℕ). w / 2 ^ (at % 64)) word ∙ z) in
    rw (c.lowest_bit.ensures.0, word)
    (sym (c.loop-k.invariant.none ∙ ap (next_member (c.args.words * 64) s) (sym c.max-at.ensures)
    ∙ next_here s (c.args.words * 64) at c.args.words (λ i. (c.type_inv.s i).fits) refl (omega arith) rest))

pub loop-k-preserved : goal.loop-k-preserved
loop-k-preserved c =
    let s = c.args.s.now in
    let k = c.loop-k.k in
    let at = c.max-at.result in
    let here : at / 64 ≡ k = omega (arith, c.max-at.ensures) in
    let word : c.get_u64.result ≡ number_at 8 s (at / 64 * 8) = c.get_u64.ensures
    ∙ ap (λ (k : ℕ). number_at 8 s (k * 8)) (sym here) in
    let rest : number_at 8 s (at / 64 * 8) / 2 ^ (at % 64) ≡ 0 = sym (ap (λ (w : ℕ). w / 2 ^ (at % 64)) word) ∙ c.if-rest-ne0.false in
    let next : (at / 64 + 1) * 64 ≡ max c.args.from ((k + 1) * 64) = omega (arith, here) in
    record {
      within = omega arith;
      none = c.loop-k.invariant.none ∙ ap (next_member (c.args.words * 64) s) (sym c.max-at.ensures)
          ∙ next_word s (c.args.words * 64) at c.args.words refl (omega arith) rest
          ∙ ap (next_member (c.args.words * 64) s) next;
    }

pub returns : goal.returns
returns c =
    let end : max c.args.from (c.loop-k.k * 64) ≡ max c.args.from (c.args.words * 64) =
    omega (arith, c.loop-k.invariant.within) in
    c.max.ensures
    ∙ sym (c.loop-k.invariant.none
    ∙ next_none c.args.s.now (c.args.words * 64) (max c.args.from (c.loop-k.k * 64)) (omega arith) ∙ end)
