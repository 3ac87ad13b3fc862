-- `live_sets::narrowing::narrow_word` meets its contract.
use mathlib.Core.Bool.{Bool, ◌&&◌}
use mathlib.Core.Path.{sym, ap, ◌∙◌}
use Prim.Native.Nat.{◌+◌}
use native.Mathlib.Omega.{arith}
use lib.Dec.{leb}
use Rattle.words.specs.Bits.{test_bit}
use Rattle.model.specs.Format.{content}
use Rattle.model.proofs.Margin.{candidate-less}
use Rattle.stepping.proofs.Limits.{few_words}
use Rattle.live_sets.proofs.Blocking.{word_kind, known_sought, known_laid}
use Rattle.live_sets.proofs.Meeting.{stays-any-margin}
use Rattle.live_sets.proofs.Sifting.{keeps-nothing}
use Rattle.live_sets.proofs.narrowing.narrow_word.Goals as goal

pub returns-then-w-eq0 : goal.returns-then-w-eq0
returns-then-w-eq0 c = keeps-nothing _ c.args.w c.if-w-eq0.true

pub holds-requires : goal.holds-requires
holds-requires c =
    known_sought _ _ _ _ _ c.requires.known.0 _ _ _ c.requires.known.1 c.requires.candidate.0 c.args.u c.args.first
    (word_kind _ c.args.u c.args.first c.args.w c.ranges.w.fits c.if-w-eq0.false c.requires.bits_admitted)

pub strain_word-requires : goal.strain_word-requires
strain_word-requires c = (
  known_laid _ _ _ _ _ c.requires.known.0 _ _ _ c.requires.known.1 c.requires.candidate.0 c.args.u c.args.first
      (word_kind _ c.args.u c.args.first c.args.w c.ranges.w.fits c.if-w-eq0.false c.requires.bits_admitted)
      c.requires.candidate.1 (sym (ap (λ (b : Bool). leb c.args.latest.now.kind c.args.u && b) c.holds.ensures) ∙ c.if-latest-u.true),
  λ i e. candidate-less 0 c.args.fixed.now.plan.margin (omega arith) (content c.args.fixed.now.job.now) c.args.u (c.args.first + i)
      (c.requires.bits_admitted i e),
)

-- which candidates stay does not turn on the margin
pub returns-then-latest-u : goal.returns-then-latest-u
returns-then-latest-u c i =
    c.strain_word.ensures i
    ∙ ap (λ (b : Bool). test_bit c.args.w i && b) (stays-any-margin 0 c.args.fixed.now.plan.margin (content c.args.fixed.now.job.now)
    c.args.latest.now.kind c.args.latest.now.number c.args.u (c.args.first + i))

pub sift_word-requires : goal.sift_word-requires
sift_word-requires c = record {
  known = c.requires.known;
  candidate = (
    c.requires.candidate.0,
    omega (
      arith,
      c.requires.candidate.1,
      few_words c.args.fixed.now.job.now c.requires.known.0.plan.accepted,
    ),
  );
  bits_admitted = c.requires.bits_admitted;
}

pub returns : goal.returns
returns c = c.sift_word.ensures
