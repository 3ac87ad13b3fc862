-- `report::line::first` meets its contract, by the case of the answer.
use Rattle.std.proofs.Common.{rules}
use Rattle.model.specs.Output.{shortest_word, stopped_word, none_word, refused_word}
use Rattle.report.proofs.Numbers.{number-16, number-32}
use Rattle.report.proofs.Lines.{line-refused, first-shortest, first-held, first-nothing, first-none}
use Rattle.report.proofs.line.first.Goals as goal
use Rattle.report.proofs.line.first.Goals.{in-Err, in-Ok-Shortest, in-Ok-Infeasible}
use Rattle.report.proofs.line.first.Goals.{in-Ok-Stopped+in-Some, in-Ok-Stopped+in-None}

pub returns-clause-items : goal.returns-clause-items
unfolding shortest_word stopped_word none_word refused_word
returns-clause-items g c =
    elim c.match-answer.branch [
      | in-Err w ↦ search (rules, line-refused w.code.result)
      | in-Ok-Shortest w ↦ search (rules, first-shortest w.in-Ok-Shortest.length w.in-Ok-Shortest.steps)
      | in-Ok-Stopped+in-Some w ↦ search (rules, first-held w.in-Some.length w.in-Ok-Stopped.steps)
      | in-Ok-Stopped+in-None w ↦ search (rules, first-nothing w.in-Ok-Stopped.steps)
      | in-Ok-Infeasible w ↦ search (rules, first-none w.in-Ok-Infeasible.steps)
    ]

pub number-requires : goal.number-requires
number-requires g c = search (rules, number-32)

pub number-requires-in-Some : goal.number-requires-in-Some
number-requires-in-Some g c = search (rules, number-32)

pub number-requires-2 : goal.number-requires-2
number-requires-2 g c = search (rules, number-32)

pub returns-clause-short : goal.returns-clause-short
returns-clause-short g c =
    let last = number-32 c.match-answer.last 10 (search rules) in
    elim c.match-answer.branch [
      | in-Err w ↦ search (rules, last)
      | in-Ok-Shortest w ↦ search (rules, last, number-16 w.from.result 32 (search rules))
      | in-Ok-Stopped+in-Some w ↦ search (rules, last, number-16 w.from-in-Some.result 32 (search rules))
      | in-Ok-Stopped+in-None w ↦ search (rules, last)
      | in-Ok-Infeasible w ↦ search (rules, last)
    ]
