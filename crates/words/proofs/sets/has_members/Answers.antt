use mathlib.Core.Path.{◌≡◌, sym, ap, ap₂, ◌∙◌}
use Prim.Native.Nat.{◌+◌, ◌*◌, ◌≤◌}
use native.Mathlib.Omega.{arith}
use borrow.Author.Tests.{le-leb}
use lib.Count.{ones}
use lib.Dec.{leb}
use Rattle.words.specs.Sets.{count_members}
use Rattle.words.proofs.Member.{count-no_words, count_word, count-empty, count-le}
use Rattle.words.proofs.sets.has_members.Goals as goal
use Rattle.words.proofs.sets.has_members.Goals.{then-w-ne0+else-wanted-count, else-w-ne0}

pub loop-k-init : goal.loop-k-init
loop-k-init c = record { counted = sym (count-no_words c.args.s.now); few = omega arith }

pub returns-then-wanted-count : goal.returns-then-wanted-count
returns-then-wanted-count c =
    let s = c.args.s.now in
    let k = c.loop-k.k in
    let counted : c.loop-k.count + c.count_bits-count.result ≡ count_members ((k + 1) * 64) s =
    ap₂ ◌+◌ c.loop-k.invariant.counted (c.count_bits-count.ensures.0 ∙ ap ones c.get_u64-w.ensures)
    ∙ sym (count_word s k (λ i. (c.type_inv.s i).fits)) in
    let all = count_members (c.args.words * 64) s in
    let enough : c.args.wanted ≤ all = omega (
      arith,
      c.if-wanted-count.true,
      counted,
      count-le s (k + 1) c.args.words
          (omega arith),
    ) in
    sym (le-leb c.args.wanted all enough)

pub loop-k-preserved : goal.loop-k-preserved
loop-k-preserved c =
    let s = c.args.s.now in
    let k = c.loop-k.k in
    elim c.if-w-ne0.branch [
      | then-w-ne0+else-wanted-count w ↦ record {
        counted = w.count-is ∙ ap₂ ◌+◌ c.loop-k.invariant.counted
            (w.count_bits-count.ensures.0 ∙ ap ones c.get_u64-w.ensures)
            ∙ sym (count_word s k (λ i. (c.type_inv.s i).fits));
        few = omega (arith, w.count-is, w.count_bits-count.ensures.1, c.loop-k.invariant.few);
      }
      | else-w-ne0 w ↦ record {
        counted = w.count-is ∙ c.loop-k.invariant.counted
            ∙ sym (count-empty s k (λ i. (c.type_inv.s i).fits) (sym c.get_u64-w.ensures ∙ w.if-w-ne0.false));
        few = omega (arith, w.count-is, c.loop-k.invariant.few);
      }
    ]

pub returns : goal.returns
returns c =
    let e : c.loop-k.k ≡ c.args.words = omega arith in
    ap (leb c.args.wanted) (c.loop-k.invariant.counted ∙ ap (λ n. count_members (n * 64) c.args.s.now) e)
