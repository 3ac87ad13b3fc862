-- `root::beginning::fill_word` meets its contract.
use mathlib.Core.Path.{◌≡◌, ◌∙◌}
use Prim.Native.Nat.{◌+◌, ◌<◌}
use borrow.Author.Rules.{rules}
use Rattle.std.proofs.iter.Serving.{serving}
use Rattle.words.specs.Bits.{test_bit}
use Rattle.words.proofs.Tested.{told-is}
use Rattle.candidates.specs.Placements.{Bounded, offered}
use Rattle.candidates.proofs.PreparedLaws.{bounded, offered-is}
use Rattle.root.proofs.beginning.fill_word.Goals as goal

pub word_of-requires : goal.word_of-requires
word_of-requires c =
    let b : Bounded c.args.view.now = bounded c.args.job.now c.args.view.now c.requires.viewed.0 in
    let k : c.args.u < c.args.view.now.kinds = rw c.requires.viewed.0.view.kinds c.requires.u_bound.0 in
    grind (serving, b, k)

pub returns : goal.returns
returns c =
    told-is _ c.word_of.result (search rules)
    (λ i l. let e : test_bit c.word_of.result i ≡ offered c.args.view.now c.args.boxes.now c.args.u (c.args.first + i) = search (rules, c.word_of.ensures i l) in
    e ∙ offered-is c.args.job.now c.args.view.now c.args.boxes.now c.requires.viewed.0 c.requires.viewed.1 c.args.u c.requires.u_bound.0 (c.args.first + i))
