-- `lookahead::settling::settle` meets its contract. The invariant: the kinds passed are settled and have enough members.
use Rattle.live_sets.specs.Known.{problem}
use Rattle.lookahead.proofs.Making.{Settling}
use Rattle.lookahead.proofs.settling.settle.Given as goal

abbrev pub invariant-loop-u : goal.invariant-loop-u
invariant-loop-u l =
    Settling (problem l.fixed) l.branch.numbers l.branch.level l.state.bound l.state.span l.u l.initial.work l.work
