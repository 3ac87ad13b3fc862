use mathlib.Core.Path.{refl, sym, ap, ◌∙◌}
use Prim.Native.Nat.{◌+◌, ◌*◌}
use borrow.Author.Rules.{rules}
use Rattle.model.specs.Geometry.{rotated}
use Rattle.shapes.specs.Turned.{vertex_in, with_vertex}
use Rattle.shapes.proofs.TurnLaws.{written_none, written-more}
use Rattle.shapes.proofs.turned.turn_vertices.Goals as goal

pub loop-m-init : goal.loop-m-init
loop-m-init c = (refl, written_none (rotated _) _ _ _)

pub loop-m-preserved : goal.loop-m-preserved
loop-m-preserved c =
    let job = c.args.job.now in
    let k = c.args.k in
    let from = c.args.from + c.loop-m.m * 2 in
    let to = c.args.to + c.loop-m.m * 2 in (
      search rules,
      c.turn_vertex.ensures
          ∙ ap (λ table. with_vertex table to (rotated k (vertex_in job from))) c.loop-m.invariant.1
          ∙ sym (written-more (rotated k) c.args.turned.now c.args.to c.loop-m.m job c.args.from),
    )
