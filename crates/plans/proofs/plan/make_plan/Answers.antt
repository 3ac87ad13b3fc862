-- `plans::plan::make_plan` meets its contract.
use mathlib.Core.Path.{◌≡◌, refl, ap, ap₂, ◌∙◌}
use Prim.Native.Nat.{ℕ, ◌+◌, ◌*◌, ◌/◌, ◌%◌, ◌<◌}
use native.Mathlib.Omega.{arith}
use Rattle.words.specs.Bits.{test_bit, bits_where}
use Rattle.words.proofs.Bit.{test_bit-bits_where}
use Rattle.model.specs.Content.{kind_count}
use Rattle.model.specs.Format.{content}
use Rattle.job.specs.Gaps.{same_cut}
use Rattle.job.specs.View.{cut_of}
use Rattle.job.specs.declared.View.{View}
use Rattle.candidates.proofs.PreparedLaws.{shares_cut}
use Rattle.shapes.proofs.ViewLaws.{few-kinds}
use Rattle.plans.proofs.plan.make_plan.Goals as goal

-- The bit of two kinds, where the numbers of all were compared.
shared_at : (w t u : ℕ) (v : View) → w ≡ bits_where 64 (λ x. same_cut (cut_of v (x / 8)) (cut_of v (x % 8))) → t < 8 → u < 8
    → test_bit w (t * 8 + u) ≡ same_cut (cut_of v t) (cut_of v u)
shared_at w t u v e h l =
    let q : (t * 8 + u) / 8 ≡ t = omega arith in
    let r : (t * 8 + u) % 8 ≡ u = omega arith in
    ap (λ w. test_bit w (t * 8 + u)) e ∙ test_bit-bits_where 64 (λ x. same_cut (cut_of v (x / 8)) (cut_of v (x % 8))) (t * 8 + u) (omega arith)
    ∙ ap₂ (λ i j. same_cut (cut_of v i) (cut_of v j)) q r

pub returns : goal.returns
returns c =
    let s = c.args.job.now in
    let low : (t : ℕ) → t < kind_count (content s).kinds → t < 8 = λ t h. omega (arith, few-kinds s c.args.view c.requires.0) in (
      record {
        accepted = c.requires.0.accepted;
        view = c.args.view;
        viewed = c.requires.0.view;
        boxes = c.args.boxes;
        boxed = c.requires.1;
        rows = refl;
        step = refl;
        types = c.requires.0.view.kinds;
        pieces = c.requires.0.view.pieces;
        words = c.set_words.ensures.0;
        kinds = c.piece_kinds-kinds.ensures;
        copies = c.copies_table.ensures;
        shared = λ t u h l.
            shared_at c.shared_cuts.result t u c.args.view c.shared_cuts.ensures (low t h) (low u l)
            ∙ shares_cut s c.args.view c.requires.0 t u h l;
        kind = c.planned_kinds.ensures;
      },
      refl,
    )
