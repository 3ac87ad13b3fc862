-- What is known of a layout that is handed in for a prepared job. Assumes nothing.
use mathlib.Core.Bool.{true}
use mathlib.Core.Path.{◌≡◌, ap, ◌∙◌}
use Prim.Native.Nat.{ℕ, ◌≤◌, ◌<◌}
use native.Mathlib.Omega.{arith}
use Rattle.model.specs.Content.{piece_count}
use Rattle.model.specs.Layout.{is_entry}
use Rattle.model.specs.Lists.{all}
use Rattle.layouts.specs.Entries.{as_entry, EntryAt}
use Rattle.layouts.specs.Handed.{problem_for, layout_for}
use Rattle.layouts.specs.declared.handed.Entry.{Entry}
use Rattle.layouts.specs.declared.handed.Handed.{Handed}
use Rattle.layouts.proofs.AdmissionLaws.{each_of}
use Rattle.layouts.proofs.PassingLaws.{few-pieces}

module _ (h : Handed) where
  pub pieces_are : h.prepared.now.view.pieces ≡ piece_count (problem_for h).kinds
  pieces_are = h.prepared.now.prepared.viewed.view.pieces

  pub at_most_12 : h.prepared.now.view.pieces ≤ 12
  at_most_12 = omega (arith, few-pieces h.prepared.now.job.now h.prepared.now.prepared.viewed.accepted, pieces_are)

  -- Entry i of a layout of candidates is one.
  pub entry_stands : all (is_entry (problem_for h)) (layout_for h) ≡ true → (i : ℕ) (e : Entry)
      → i < h.prepared.now.view.pieces → EntryAt h.layout.now i e
      → is_entry (problem_for h) (as_entry e) ≡ true
  entry_stands a i e l at =
      ap (is_entry (problem_for h)) at.same ∙ each_of (problem_for h) h.layout.now h.prepared.now.view.pieces
      pieces_are (is_entry (problem_for h)) a i l
