use mathlib.Core.Path.{refl, sym, ap, ◌∙◌}
use Prim.Native.Nat.{ℕ, ◌*◌}
use borrow.Author.Rules.{rules}
use native.Mathlib.Omega.{arith}
use Rattle.words.specs.Bytes.{AreBytes}
use Rattle.words.specs.Number.{with_number}
use Rattle.model.specs.Services.{entry_in, with_layout}
use Rattle.plans.proofs.Writing.{written, written_none, entry-copied}
use Rattle.plans.proofs.recording.copy_layout.Goals as goal

pub loop-i-init : goal.loop-i-init
loop-i-init c = (refl, sym (written_none _ _))

pub put_u64-requires : goal.put_u64-requires
put_u64-requires c = omega (arith, c.loop-i.invariant.0)

pub loop-i-preserved : goal.loop-i-preserved
loop-i-preserved c =
    let are_bytes : AreBytes c.args.layout.now = search rules in (
      c.put_u64.auto.s ∙ c.loop-i.invariant.0,
      c.put_u64.ensures ∙ ap (with_number 8 c.loop-i.out (c.loop-i.i * 8)) c.get_u64.ensures
          ∙ entry-copied c.args.layout.now c.args.out.now c.loop-i.out c.loop-i.i are_bytes c.loop-i.invariant.1,
    )

pub returns : goal.returns
unfolding with_layout
returns c = c.loop-i.invariant.1 ∙ ap (λ (i : ℕ). written (entry_in c.args.layout.now) i c.args.out.now) (omega arith)
