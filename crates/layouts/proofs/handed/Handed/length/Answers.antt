use mathlib.Core.List.{map}
use mathlib.Core.Path.{◌≡◌, ap, ◌∙◌}
use Prim.Native.Nat.{ℕ, ◌+◌}
use native.Mathlib.Omega.{arith}
use Rattle.model.specs.Layout.{Layout, entry_extent, largest_end, layout_length}
use Rattle.model.specs.Lists.{largest}
use Rattle.layouts.specs.Entries.{entries_in}
use Rattle.layouts.specs.Handed.{problem_for}
use Rattle.layouts.proofs.AdmissionLaws.{layout_is, largest-none, largest-next}
use Rattle.layouts.proofs.StatedLaws.{pieces_are}
use Rattle.layouts.proofs.handed.Handed.length.Goals as goal

pub loop-i-init : goal.loop-i-init
loop-i-init c = (omega arith, largest-none _ _)

pub loop-i-preserved : goal.loop-i-preserved
loop-i-preserved c = (
  omega (arith, c.max-longest.ensures, c.end_of.ensures),
  largest-next (entry_extent (problem_for c.args.self.now)) c.args.self.now.layout.now c.loop-i.i _ _ _
      c.loop-i.invariant.1 c.end_of.ensures.end c.max-longest.ensures,
)

pub returns : goal.returns
unfolding layout_length largest_end
returns c =
    let h = c.args.self.now in
    let n : c.loop-i.i ≡ h.prepared.now.view.pieces = omega arith in
    record {
      length = ap (λ (k : ℕ). k + h.prepared.now.view.margin)
          (c.loop-i.invariant.1
          ∙ ap (λ (m : ℕ). largest (map (entry_extent (problem_for h)) (entries_in h.layout.now m))) n
          ∙ ap (λ (es : Layout). largest (map (entry_extent (problem_for h)) es)) (layout_is (problem_for h)
          h.layout.now _ (pieces_are h)));
      most = omega (arith, c.loop-i.invariant.0, h.prepared.now.prepared.viewed.view.margin);
    }
