-- `command::respond` meets its contract: what is rendered of the run is what the program prints of it.
use mathlib.Core.List.{List}
use mathlib.Core.Path.{◌∙◌}
use Prim.Native.Nat.{ℕ}
use Rattle.report.proofs.Lines.{rendered_same}
use Rattle.command.proofs.Text.{text-told, text-as, prints-program}
use Rattle.command.proofs.respond.Goals as goal

pub returns : goal.returns
returns c =
    let shown = c.pieces_shown-pieces in
    let ran = c.run-a in
    let put = c.render in
    let bytes : List ℕ = c.args.bytes.now in
    let text = rendered_same ran.result _ shown.result ∙ text-told bytes shown.result c.args.margin c.args.budget c.args.layout.now c.args.work.now c.args.answer.now _ ran.result shown.ensures ran.ensures.told ran.ensures.held in
    let front = text-as _ _ c.args.text.now _ put.result text put.ensures.value put.ensures.dst_after in
    record {
      value = front.0;
      text_after = front.1;
      upper_bound = put.ensures.upper_bound;
      as_program = λ m e n. rw (m, e) (prints-program bytes c.args.layout.now c.args.work.now c.args.answer.now n c.requires.0 c.requires.1);
      work_after = ran.ensures.cleared;
      answer_after = ran.ensures.held;
    }
