use mathlib.Core.Path.{ap, ◌∙◌}
use Rattle.model.specs.Layout.{entry}
use Rattle.shapes.proofs.PieceLaws.{piece_turnable}
use Rattle.candidates.specs.Conflicts.{placement_at, conflict_between}
use Rattle.candidates.proofs.PreparedLaws.{bounded, gap_is, conflict-is}
use Rattle.candidates.proofs.StandingLaws.{of_kind, of_view, turned-once, near}
use Rattle.candidates.proofs.prepared.PreparedJob.in_conflict.Goals as goal

pub piece_of-p-requires : goal.piece_of-p-requires
piece_of-p-requires c =
    let j = c.args.self.now in (
      j.prepared.viewed,
      of_kind j.job.now j.view j.prepared.viewed (entry c.args.kind (placement_at c.args.place))
          c.requires.first,
    )

pub piece_of-q-requires : goal.piece_of-q-requires
piece_of-q-requires c =
    let j = c.args.self.now in (
      j.prepared.viewed,
      of_kind j.job.now j.view j.prepared.viewed (entry c.args.other (placement_at c.args.at))
          c.requires.second,
    )

pub pair_gap-gap-requires : goal.pair_gap-gap-requires
pair_gap-gap-requires c =
    let j = c.args.self.now in
    let x = j.prepared.viewed in (
      bounded j.job.now j.view x,
      (
        of_view j.job.now j.view x (entry c.args.kind (placement_at c.args.place)) c.requires.first,
        of_view j.job.now j.view x (entry c.args.other (placement_at c.args.at)) c.requires.second,
      ),
    )

pub conflict_between-requires : goal.conflict_between-requires
conflict_between-requires c =
    let j = c.args.self.now in
    let s = j.job.now in
    let v = j.view in
    let x = j.prepared.viewed in
    let e = entry c.args.kind (placement_at c.args.place) in
    let f = entry c.args.other (placement_at c.args.at) in (
      (
        piece_turnable s j.turned.now c.args.kind c.piece_of-p.result j.prepared.turned c.piece_of-p.ensures (of_kind
            s v x e c.requires.first),
        near s v x e c.requires.first,
      ),
      (
        piece_turnable s j.turned.now c.args.other c.piece_of-q.result j.prepared.turned c.piece_of-q.ensures
            (of_kind s v x f c.requires.second),
        near s v x f c.requires.second,
      ),
    )

pub returns : goal.returns
returns c =
    let j = c.args.self.now in
    let s = j.job.now in
    let v = j.view in
    let x = j.prepared.viewed in
    let p = c.piece_of-p.result in
    let q = c.piece_of-q.result in
    let e = entry c.args.kind (placement_at c.args.place) in
    let f = entry c.args.other (placement_at c.args.at) in
    let ht = of_kind s v x e c.requires.first in
    let hu = of_kind s v x f c.requires.second in
    c.conflict_between.ensures
    ∙ ap (conflict_between j.turned.now v.step p c.args.place q c.args.at) (c.pair_gap-gap.ensures
    ∙ gap_is s v x c.args.kind c.args.other ht hu)
    ∙ conflict-is s v j.turned.now x j.prepared.turned c.args.kind c.args.other ht hu p q c.piece_of-p.ensures
    c.piece_of-q.ensures v.margin
    c.args.place c.args.at (turned-once s v x e c.requires.first) (turned-once s v x f c.requires.second)
