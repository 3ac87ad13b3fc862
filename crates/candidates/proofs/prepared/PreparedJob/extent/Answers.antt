use mathlib.Core.Path.{◌∙◌}
use Rattle.model.specs.Layout.{entry}
use Rattle.candidates.specs.Conflicts.{placement_at}
use Rattle.candidates.proofs.PreparedLaws.{bounded}
use Rattle.candidates.proofs.StandingLaws.{of_view, of_column, turned-once, entry_ends, ends-on_board}
use Rattle.candidates.proofs.prepared.PreparedJob.extent.Goals as goal

pub extent-requires : goal.extent-requires
extent-requires c =
    let j = c.args.self.now in
    let x = j.prepared.viewed in
    let e = entry c.args.kind (placement_at c.args.place) in (
      (bounded j.job.now j.view x, of_view j.job.now j.view x e c.requires),
      (of_column j.job.now j.view x e c.requires, turned-once j.job.now j.view x e c.requires),
    )

pub returns : goal.returns
returns c =
    let j = c.args.self.now in
    let x = j.prepared.viewed in
    let e = entry c.args.kind (placement_at c.args.place) in record {
      end = c.extent.ensures ∙ entry_ends j.job.now j.view j.boxes x j.prepared.boxes e c.requires;
      on_board = rw c.extent.ensures (ends-on_board j.job.now j.view j.boxes x j.prepared.boxes e c.requires);
    }
