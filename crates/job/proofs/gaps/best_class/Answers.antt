use mathlib.Core.Path.{ap, sym, ◌∙◌}
use Rattle.job.specs.Gaps.{offered_id}
use Rattle.job.proofs.GapLaws.{best_none, best-more}
use Rattle.job.proofs.gaps.best_class.Goals as goal

pub loop-id-init : goal.loop-id-init
loop-id-init c = best_none _ _ _ _ _

pub loop-id-preserved : goal.loop-id-preserved
loop-id-preserved c =
    c.offer_id-best.ensures ∙ ap (offered_id c.args.job.now c.args.at c.args.n c.args.mask c.loop-id.id)
    c.loop-id.invariant ∙ sym (best-more _ _ _ _ _ _)
