use mathlib.Core.Path.{◌∙◌}
use borrow.Author.Tests.{le-ltb}
use Rattle.model.specs.Layout.{entry}
use Rattle.candidates.specs.Conflicts.{placement_at}
use Rattle.candidates.proofs.PreparedLaws.{bounded}
use Rattle.candidates.proofs.StandingLaws.{none_beyond, placement-is}
use Rattle.candidates.proofs.prepared.PreparedJob.is_placement.Goals as goal

pub is_placement-requires : goal.is_placement-requires
is_placement-requires c = let j = c.args.self.now in (bounded j.job.now j.view j.prepared.viewed, c.if-kind-self.true)

pub returns-then-kind-self : goal.returns-then-kind-self
returns-then-kind-self c =
    let j = c.args.self.now in
    c.is_placement.ensures
    ∙ placement-is j.job.now j.view j.boxes j.prepared.viewed j.prepared.boxes (entry c.args.kind (placement_at
    c.args.place)) c.if-kind-self.true

pub returns-else-kind-self : goal.returns-else-kind-self
returns-else-kind-self c =
    let j = c.args.self.now in
    le-ltb _ _ c.if-kind-self.false
    ∙ none_beyond j.job.now j.view j.boxes j.prepared.viewed j.prepared.boxes (entry c.args.kind (placement_at
    c.args.place)) c.if-kind-self.false
