use native.Mathlib.Omega.{arith}
use Rattle.model.specs.Format.{read_kind}
use Rattle.records.proofs.RecordLaws.{stop, tail_length}
use Rattle.records.proofs.KindLaws.{seen_none, seen_more, list_bad, list_read, kind-room}
use Rattle.records.proofs.kinds.unfit.Goals as goal

pub loop-init : goal.loop-init
loop-init c = (omega arith, seen_none _ _)

pub returns-in_default : goal.returns-in_default
returns-in_default c =
    list_bad _ _ _ (stop read_kind c.args.list.now c.loop.here c.kind_size.result c.kind_size.ensures.value
    c.loop.counter c.args.kinds c.loop-test.true
    c.loop.invariant.1.reads c.in_default.is)

pub byte-demand-requires : goal.byte-demand-requires
byte-demand-requires c =
    omega (
      arith,
      tail_length c.args.list.now c.loop.here,
      c.in-Some.ensures.within,
      kind-room c.args.list.now c.loop.here c.in-Some.size c.kind_size.result c.kind_size.ensures.value c.in-Some.is,
    )

pub byte-requires : goal.byte-requires
byte-requires c =
    omega (
      arith,
      tail_length c.args.list.now c.loop.here,
      c.in-Some.ensures.within,
      kind-room c.args.list.now c.loop.here c.in-Some.size c.kind_size.result c.kind_size.ensures.value c.in-Some.is,
    )

pub loop-preserved : goal.loop-preserved
loop-preserved c = (
  omega (arith, tail_length c.args.list.now c.loop.here, c.in-Some.ensures.within),
  seen_more _ _ c.loop.counter c.loop.here c.loop.demand c.in-Some.size _ _ c.loop.present _ c.kind_size.result
      c.loop.invariant.1 c.kind_size.ensures.value
      c.in-Some.is c.byte-demand.ensures.0 c.byte.ensures.0 c.none_absent-present.ensures,
)

pub returns : goal.returns
returns c = list_read _ _ _ _ _ _ _ (omega arith) c.loop.invariant.1
