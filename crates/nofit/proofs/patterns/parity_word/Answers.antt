use mathlib.Core.Path.{◌≡◌, sym, ap, ◌∙◌}
use Prim.Native.Nat.{ℕ, ◌+◌, ◌*◌, ◌/◌, ◌%◌, ◌<◌}
use native.Mathlib.Omega.{arith}
use borrow.Author.Rules.{rules}
use Rattle.words.specs.Bits.{test_bit, bits_where, assigned_bit}
use Rattle.words.proofs.Bit.{bits_where-none, bits_where-next}
use Rattle.nofit.specs.Filling.{dot_of, parity_bits}
use Rattle.nofit.specs.declared.patterns.Dot.{Dot}
use Rattle.nofit.proofs.patterns.parity_word.Goals as goal

-- Each bit of a dot is the parity of the dot's column.
bit_is : (rows k n turn : ℕ) (d : Dot) → turn < 4 → d ≡ dot_of rows (k * 16 + n)
    → test_bit d.column 0 ≡ parity_bits rows k (n * 4 + turn)
bit_is rows k n turn d l e =
    let same : k * 16 + n ≡ (k * 64 + (n * 4 + turn)) / 4 = omega arith in
    ap (λ (x : Dot). test_bit x.column 0) (e ∙ ap (dot_of rows) same)

-- A word with so many bits has as many of them, however the number is written.
so_many : (rows k v : ℕ) {m n : ℕ} → v ≡ bits_where m (parity_bits rows k) → m ≡ n
    → v ≡ bits_where n (parity_bits rows k)
so_many rows k v e same = e ∙ ap (λ (m : ℕ). bits_where m (parity_bits rows k)) same

pub loop-n-init : goal.loop-n-init
loop-n-init c =
    let first : c.args.k * 16 ≡ c.args.k * 16 + 0 = omega arith in (
      search rules,
      c.dot_of-d.ensures ∙ ap (dot_of c.args.rows) first,
      sym (bits_where-none (parity_bits c.args.rows c.args.k)),
    )

pub loop-turn-init : goal.loop-turn-init
loop-turn-init c = (search rules, so_many c.args.rows c.args.k c.loop-n.v c.loop-n.invariant.2 (omega arith))

pub loop-turn-preserved : goal.loop-turn-preserved
loop-turn-preserved c =
    let n = c.loop-n.n in
    let turn = c.loop-turn.turn in
    let odd = c.test_bit-odd.result in
    let i : ℕ = n * 4 + turn in
    let p = parity_bits c.args.rows c.args.k in
    let is : odd ≡ p i =
    c.test_bit-odd.ensures
    ∙ bit_is c.args.rows c.args.k n turn c.loop-n.d (omega arith) c.loop-n.invariant.1 in
    let inside : i % 64 ≡ i = omega arith in
    let next : i + 1 ≡ n * 4 + (turn + 1) = omega arith in (
      search rules,
      c.assign_bit-v.ensures ∙ ap (assigned_bit odd c.loop-turn.v) inside
          ∙ ap (λ (w : ℕ). assigned_bit odd w i) c.loop-turn.invariant.1 ∙ bits_where-next p i odd is
          ∙ ap (λ (m : ℕ). bits_where m p) next,
    )

pub loop-n-preserved : goal.loop-n-preserved
loop-n-preserved c =
    let n = c.loop-n.n in
    let next : c.args.k * 16 + n + 1 ≡ c.args.k * 16 + (n + 1) = omega arith in (
      search rules,
      c.next_dot-d.ensures ∙ ap (dot_of c.args.rows) next,
      so_many c.args.rows c.args.k c.loop-turn.v c.loop-turn.invariant.1 (omega arith),
    )

pub returns : goal.returns
returns c = so_many c.args.rows c.args.k c.loop-n.v c.loop-n.invariant.2 (omega arith)
