-- `report::line::entry` meets its contract: the four numbers, one behind the other.
use Rattle.std.proofs.Common.{rules}
use Rattle.report.proofs.Numbers.{number-16}
use Rattle.report.proofs.Lines.{entry-numbers}
use Rattle.report.proofs.line.entry.Goals as goal

pub returns-clause-items : goal.returns-clause-items
returns-clause-items c = search (rules, entry-numbers c.args.text.now.items c.args.numbers.now c.args.i)

pub number-requires : goal.number-requires
number-requires c = search (rules, number-16)

pub number-requires-2 : goal.number-requires-2
number-requires-2 c = search (rules, number-16 c.from.result 32, number-16 c.from-2.result 32)

pub number-requires-3 : goal.number-requires-3
number-requires-3 c =
    search (rules, number-16 c.from.result 32, number-16 c.from-2.result 32, number-16 c.from-3.result 32)

pub number-requires-4 : goal.number-requires-4
number-requires-4 c =
    search (
      rules,
      number-16 c.from.result 32,
      number-16 c.from-2.result 32,
      number-16 c.from-3.result 32,
      number-16 c.from-4.result 10,
    )

pub returns-clause-short : goal.returns-clause-short
returns-clause-short c =
    search (
      rules,
      number-16 c.from.result 32,
      number-16 c.from-2.result 32,
      number-16 c.from-3.result 32,
      number-16 c.from-4.result 10,
    )
