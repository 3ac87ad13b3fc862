use borrow.Author.Rules.{rules}
use mathlib.Core.Bool.{not, ◌&&◌}
use mathlib.Core.Path.{◌≡◌, ap, ◌∙◌}
use lib.Dec.{leb}
use lib.ListN.{length}
use Rattle.model.specs.Format.{cause1}
use Rattle.frame.proofs.TrailerLaws.{out_of_range}
use Rattle.frame.proofs.trailer.wrong_size.Goals as goal

pub returns : goal.returns
unfolding cause1
returns c =
    let n = length c.args.job.now in
    let within : c.contains.result ≡ (leb 14 n && leb n 1024) = search rules in
    ap not within ∙ out_of_range n 14 1024
