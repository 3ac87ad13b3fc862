use Rattle.std.proofs.Common.{Ok}
use mathlib.Core.Path.{sym, ap, ◌∙◌}
use Prim.Native.Nat.{◌<◌, ◌≤◌}
use native.Mathlib.Omega.{arith}
use lib.ListN.{length}
use Rattle.model.specs.Format.{content}
use Rattle.model.specs.Saving.{written}
use Rattle.job.proofs.ViewLaws.{six_none, inside}
use Rattle.saving.proofs.SavingLaws.{saved_size, save-short, save-fits}
use Rattle.saving.proofs.content.save_content.Goals as goal

pub read_trailer-t-requires : goal.read_trailer-t-requires
read_trailer-t-requires c = (inside _ (six_none _ c.requires)).least

pub returns-then-answer-count : goal.returns-then-answer-count
returns-then-answer-count c =
    let t = c.read_trailer-t.ensures in
    let n = saved_size c.args.job.now (λ i. (c.type_inv.job i).fits) c.requires in
    let few : length c.args.answer.now < length (written (content c.args.job.now)) = omega (arith, t.class_count, t.kinds_length) in
    let q = save-short (content c.args.job.now) c.args.answer.now few in
    record { value = sym (ap (λ o. o.answer) q); answer_after = sym (ap (λ o. o.buffer) q) }

pub overflow_cast-result : goal.overflow_cast-result
overflow_cast-result c = omega (arith, c.read_trailer-t.ensures, inside c.args.job.now (six_none c.args.job.now c.requires))

pub returns : goal.returns
returns c =
    let t = c.read_trailer-t.ensures in
    let n = saved_size c.args.job.now (λ i. (c.type_inv.job i).fits) c.requires in
    let fit : length (written (content c.args.job.now)) ≤ length c.args.answer.now = omega (arith, t.class_count, t.kinds_length) in
    let q = save-fits (content c.args.job.now) c.args.answer.now fit in
    record {
      value = ap Ok (omega (arith, t.class_count, t.kinds_length)) ∙ sym (ap (λ o. o.answer) q);
      answer_after = c.put_job.ensures ∙ sym (ap (λ o. o.buffer) q);
    }
