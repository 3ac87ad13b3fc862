-- `root::beginning::settle_first` meets its contract. The invariant: the kinds passed are settled and have enough members.
use lib.ListN.{replicate}
use Rattle.model.specs.Format.{content}
use Rattle.model.specs.Grid.{set_words}
use Rattle.plans.specs.Planned.{planned}
use Rattle.lookahead.proofs.Making.{Settling}
use Rattle.root.proofs.beginning.settle_first.Given as goal

abbrev pub invariant-loop-u : goal.invariant-loop-u
invariant-loop-u l =
    Settling (planned l.job l.plan) (replicate 12 0) 0 l.bound (set_words (content l.job).sheet) l.u
    l.initial.work l.work
