use mathlib.Core.Path.{◌∙◌}
use native.Mathlib.Omega.{arith}
use Rattle.candidates.proofs.StandingLaws.{few-dots, words_counted}
use Rattle.candidates.proofs.prepared.PreparedJob.set_words.Goals as goal

pub overflow_mul-self : goal.overflow_mul-self
overflow_mul-self c = let j = c.args.self.now in omega (arith, few-dots j.job.now j.view j.prepared.viewed)

pub returns : goal.returns
returns c =
    let j = c.args.self.now in record {
      words = c.div_ceil.ensures ∙ words_counted j.job.now j.view j.prepared.viewed;
      few = omega (arith, c.div_ceil.ensures, few-dots j.job.now j.view j.prepared.viewed);
    }
