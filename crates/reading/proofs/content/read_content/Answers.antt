use Rattle.std.proofs.Common.{Ok}
use mathlib.Core.Path.{sym, ap, ◌∙◌}
use Prim.Native.Nat.{◌/◌, ◌<◌, ◌≤◌}
use native.Mathlib.Omega.{arith}
use lib.ListN.{length}
use Rattle.model.specs.Format.{content}
use Rattle.model.specs.Services.{content_numbers}
use Rattle.reading.proofs.ContentLaws.{content-length, content-few, content-fits, content-written}
use Rattle.job.proofs.ViewLaws.{six_none, inside}
use Rattle.reading.proofs.content.read_content.Goals as goal

-- Too small an answer is refused, and left as it is.
pub returns-then-answer-count : goal.returns-then-answer-count
returns-then-answer-count c =
    let t = c.read_trailer-t.ensures in
    let l = content-length c.args.job.now c.requires.0 in
    let few : length c.args.answer.now / 2 < length (content_numbers (content c.args.job.now)) = omega arith in
    let q = content-few c.args.job.now c.requires.0 c.args.answer.now few in
    record { value = sym (ap (λ o. o.answer) q); answer_after = sym (ap (λ o. o.buffer) q) }

-- Otherwise the numbers fit, and stand at its front.
pub returns : goal.returns
returns c =
    let t = c.read_trailer-t.ensures in
    let l = content-length c.args.job.now c.requires.0 in
    let fit : length (content_numbers (content c.args.job.now)) ≤ length c.args.answer.now / 2 = omega arith in
    let q = content-fits c.args.job.now c.requires.0 c.args.answer.now fit in
    let w = content-written c.args.job.now c.requires.0 _ c.args.answer.now _ _ (omega arith) (omega arith) c.put_front.ensures c.put_back.ensures in
    record {
      value = ap Ok (omega arith) ∙ sym (ap (λ o. o.answer) q);
      answer_after = w ∙ sym (ap (λ o. o.buffer) q);
    }

pub read_trailer-t-requires : goal.read_trailer-t-requires
read_trailer-t-requires c = (inside _ (six_none _ c.requires.0)).least

pub overflow_cast-result : goal.overflow_cast-result
overflow_cast-result c =
    let t = c.read_trailer-t.ensures in
    omega (arith, inside c.args.job.now (six_none c.args.job.now c.requires.0))
