use mathlib.Core.Path.{◌≡◌, ap, ◌∙◌}
use Prim.Native.Nat.{◌+◌, ◌-◌, ◌*◌, ◌%◌}
use native.Mathlib.Omega.{arith}
use borrow.Author.Rules.{rules}
use Rattle.words.specs.Bits.{assigned_bit}
use Rattle.nofit.specs.Filling.{dot_of, blocked_at_dot}
use Rattle.nofit.proofs.FillingLaws.{blocked-at, turn-next}
use Rattle.nofit.proofs.patterns.Facing.turn_word.Goals as goal

pub loop-n-preserved : goal.loop-n-preserved
loop-n-preserved c =
    let f = c.args.self.now in
    let s = f.pattern in
    let k = c.args.k in
    let n = c.loop-n.n in
    let word = c.args.word in
    let m : (n * 4 + k) % 64 ≡ n * 4 + k = omega arith in
    let next : (word - 1) * 16 + n + 1 ≡ (word - 1) * 16 + (n + 1) = omega arith in (
      search rules,
      c.next_dot-d.ensures ∙ ap (dot_of s.rows) next,
      turn-next k n _ c.args.w c.loop-n.v c.assign_bit-v.result c.blocks-in-loop-n.result c.requires.rotation c.loop-n.invariant.2
          (c.blocks-in-loop-n.ensures ∙ ap (blocked_at_dot f.turned.now s f.placed.piece f.other.piece (word * 64 + (n * 4 + k))) c.loop-n.invariant.1
          ∙ blocked-at f.turned.now s f.placed.piece f.other.piece word n k c.requires.word_bounds.0 c.requires.rotation)
          (c.assign_bit-v.ensures ∙ ap (assigned_bit c.blocks-in-loop-n.result c.loop-n.v) m),
    )
