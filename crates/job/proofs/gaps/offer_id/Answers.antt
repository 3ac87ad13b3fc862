use Rattle.std.proofs.Common.{sym, ◌∙◌}
use Rattle.records.proofs.ClassLaws.{some-found, none-found}
use Rattle.job.proofs.GapLaws.{offered-yes, offered-unnamed, offered-absent}
use Rattle.job.proofs.gaps.offer_id.Goals as goal

pub returns-in-Some : goal.returns-in-Some
returns-in-Some c =
    offered-yes c.args.job.now _ _ _ _ _ _ _ _ (some-found _ _ _ _ c.find.ensures c.in-Some.is) (sym c.names.ensures
    ∙ c.if-names.true)
    c.class_at.ensures c.offer.ensures

pub returns-in_default : goal.returns-in_default
returns-in_default c = offered-unnamed c.args.job.now _ _ _ _ _ (sym c.names.ensures ∙ c.if-names.false)

pub returns-in_default-2 : goal.returns-in_default-2
returns-in_default-2 c = offered-absent c.args.job.now _ _ _ _ _ (none-found _ _ _ c.find.ensures c.in_default.is)
