-- `layouts::extents::Handed::length` meets its contract. Assumes nothing.
use mathlib.Core.List.{map}
use mathlib.Core.Path.{◌≡◌}
use Prim.Native.Nat.{◌≤◌}
use Rattle.model.specs.Layout.{entry_extent}
use Rattle.model.specs.Lists.{largest}
use Rattle.layouts.specs.Entries.{entries_in}
use Rattle.layouts.specs.Handed.{problem_for}
use Rattle.layouts.proofs.handed.Handed.length.Given as goal

abbrev pub invariant-loop-i : goal.invariant-loop-i
invariant-loop-i l = (l.longest ≤ 1000) × (l.longest ≡ largest (map (entry_extent (problem_for l.self)) (entries_in
    l.self.layout.now l.i)))
