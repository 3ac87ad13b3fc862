-- `nofit::patterns::fill_next` meets its contract. Assumes nothing.
use mathlib.Core.Path.{sym, ap, ◌∙◌}
use Prim.Native.Nat.{◌<◌}
use native.Mathlib.Omega.{arith}
use Rattle.words.specs.Bits.{test_bit}
use Rattle.model.specs.Content.{kind_count}
use Rattle.model.specs.Format.{content}
use Rattle.model.proofs.Lists.{not_both}
use Rattle.shapes.proofs.ViewLaws.{kind-in}
use Rattle.candidates.proofs.PreparedLaws.{bounded}
use Rattle.nofit.proofs.PairLaws.{string-filled, string-skipped, parities-kept}
use Rattle.nofit.proofs.patterns.fill_next.Goals as goal

pub is_turned-requires : goal.is_turned-requires
is_turned-requires c =
    let p = c.args.prepared.now in
    let x = p.prepared.viewed in
    let o = c.pair_of-x.ensures in
    (bounded p.job.now p.view x, (omega (arith, o.ordered, o.exists, c.requires.fillable.0.measures.kinds, x.view.kinds), o.turn))

pub returns-then-is_turned : goal.returns-then-is_turned
returns-then-is_turned c =
    let s = c.args.prepared.now.job.now in
    let w = c.args.nofit in
    let i = c.args.i in
    let bits = c.args.bits.now in (
      parities-kept w i _ _ bits _ c.fill_pair.ensures c.requires.parities_of.0,
      string-filled (content s) w c.requires.fillable.0.measures.kinds i c.pair_of-x.result c.pair_of-x.ensures bits c.requires.parities_of.1 _ c.fill_pair.ensures,
    )

pub returns-else-is_turned : goal.returns-else-is_turned
returns-else-is_turned c =
    let s = c.args.prepared.now.job.now in
    let w = c.args.nofit in
    let i = c.args.i in
    let f = c.requires.fillable.0 in
    let x = c.pair_of-x.result in
    let o = c.pair_of-x.ensures in
    let k : x.kind < kind_count (content s).kinds = omega (arith, o.ordered, o.exists, f.measures.kinds) in
    let m = (kind-in s c.args.prepared.now.view c.args.prepared.now.prepared.viewed x.kind k).rotations in (
      c.requires.parities_of.0,
      string-skipped (content s) w f.measures.kinds i x o c.args.bits.now c.requires.parities_of.1
          (λ h. not_both h (ap (λ mask. test_bit mask x.turn) (sym m) ∙ sym c.is_turned.ensures ∙ c.if-is_turned.false)),
    )
