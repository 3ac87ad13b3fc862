use Rattle.candidates.proofs.ConflictLaws.{gap_shared, gap-apart}
use borrow.Author.Rules.{rules}
use Rattle.candidates.proofs.conflicts.gap_between.Goals as goal

pub returns-then-shared : goal.returns-then-shared
returns-then-shared c = gap_shared _ _ _ c.if-shared.true

pub returns : goal.returns
returns c = gap-apart _ _ _ _ c.if-shared.false (search rules)
