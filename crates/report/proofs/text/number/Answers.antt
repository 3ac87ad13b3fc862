-- `report::text::number` meets its contract: the digits, and the byte behind them.
use mathlib.Core.List.{[], ◌∷◌, ◌++◌}
use mathlib.Core.Path.{ap, ◌∙◌}
use native.Mathlib.Omega.{arith}
use lib.ListN.{length, length-append}
use Rattle.report.proofs.Numbers.{digits-length, digits_then}
use Rattle.report.proofs.text.number.Goals as goal

pub returns-clause-items : goal.returns-clause-items
returns-clause-items c =
    let digits = c.as_bytes.ensures.value ∙ c.format.ensures.text in
    c.push.ensures.items ∙ ap (λ t. t ++ c.args.mark ∷ []) c.append.ensures
    ∙ digits_then c.args.n c.args.mark _ (omega (arith, c.ranges.n.fits)) digits c.args.text.now.items

pub append-requires : goal.append-requires
append-requires c =
    let digits = c.as_bytes.ensures.value ∙ c.format.ensures.text in
    omega (arith, c.requires, digits-length c.args.n c.args.mark _ (omega (arith, c.ranges.n.fits)) digits)

pub push-requires : goal.push-requires
push-requires c =
    let digits = c.as_bytes.ensures.value ∙ c.format.ensures.text in
    let long = digits-length c.args.n c.args.mark _ (omega (arith, c.ranges.n.fits)) digits in
    let put = ap length c.append.ensures ∙ length-append c.args.text.now.items c.as_bytes.result.now in
    omega (arith, c.requires, long, put)

pub returns-clause-len : goal.returns-clause-len
returns-clause-len c =
    let digits = c.as_bytes.ensures.value ∙ c.format.ensures.text in
    let long = digits-length c.args.n c.args.mark _ (omega (arith, c.ranges.n.fits)) digits in
    let put = ap length c.append.ensures ∙ length-append c.args.text.now.items c.as_bytes.result.now in
    omega (arith, c.push.ensures.len, long, put)
