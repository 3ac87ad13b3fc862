use mathlib.Core.Bool.{◌&&◌}
use mathlib.Core.Path.{◌≡◌, sym, subst}
use Prim.Native.Nat.{ℕ, ◌+◌, ◌*◌}
use native.Mathlib.Omega.{arith}
use Rattle.words.specs.Sets.{member}
use Rattle.live_sets.specs.Known.{problem}
use Rattle.live_sets.specs.Narrowing.{stays, Filled}
use Rattle.live_sets.proofs.Filling.{filled-begin, word_admitted, word_narrowed}
use borrow.Author.Rules.{rules}
use Rattle.live_sets.proofs.narrowing.narrow.Goals as goal

pub loop-k-init : goal.loop-k-init
loop-k-init c = (λ i. (c.type_inv.work i).fits, filled-begin _ _ _)

pub narrow_word-kept-requires : goal.narrow_word-kept-requires
narrow_word-kept-requires c = record {
  known = c.requires.known;
  candidate = (c.requires.narrowable.placed, omega (arith, c.requires.narrowable.within));
  bits_admitted = word_admitted (problem c.args.fixed.now) c.args.latest.now.kind
      c.args.latest.now.number c.args.u c.args.from c.args.to c.args.words c.args.work.now c.loop-k.work
      c.requires.narrowable c.loop-k.k (omega arith) c.loop-k.invariant.1 c.get_u64-w.result c.get_u64-w.ensures
      c.loop-k.invariant.0;
}

pub loop-k-preserved : goal.loop-k-preserved
loop-k-preserved c = (
  λ i. (c.type_inv.work i).fits,
  subst (Filled c.args.to (c.loop-k.k + 1) (λ m. member c.args.work.now (c.args.from * 64 + m) && stays
      (problem c.args.fixed.now) c.args.latest.now.kind c.args.latest.now.number c.args.u m)
      c.args.work.now) (sym c.put_u64.ensures)
      (word_narrowed (problem c.args.fixed.now) c.args.latest.now.kind
      c.args.latest.now.number c.args.u c.args.from c.args.to c.args.words c.args.work.now c.loop-k.work
      c.requires.narrowable c.loop-k.k (omega arith) c.loop-k.invariant.1 c.get_u64-w.result c.get_u64-w.ensures
      c.narrow_word-kept.result c.narrow_word-kept.ensures (search rules) c.loop-k.auto.work),
)

pub returns : goal.returns
returns c =
    let e : c.loop-k.k ≡ c.args.words = omega arith in
    subst (λ (k : ℕ). Filled c.args.to k (λ m. member c.args.work.now (c.args.from * 64 + m) && stays
    (problem c.args.fixed.now) c.args.latest.now.kind c.args.latest.now.number c.args.u m)
    c.args.work.now c.loop-k.work) e c.loop-k.invariant.1
