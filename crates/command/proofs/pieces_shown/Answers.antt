-- `command::pieces_shown` meets its contract: an accepted job has at most 12 pieces, and its view says how many.
use Rattle.std.proofs.Common.{rules}
use Rattle.std.proofs.lemmas.Result.{MatchResult-weaker}
use Rattle.command.proofs.Text.{shown_by}
use Rattle.command.proofs.pieces_shown.Goals as goal

pub returns : goal.returns
returns c =
    shown_by c.args.bytes.now c.open.result c.map_or.result c.open.ensures.refusal_value c.open.ensures.viewed
    (MatchResult-weaker c.open.result c.map_or.ensures (λ view post. search rules) (λ r none. none))
