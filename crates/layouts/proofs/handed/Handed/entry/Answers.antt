use Rattle.model.specs.Grid.{placement}
use Rattle.model.specs.Layout.{entry}
use Rattle.model.specs.Services.{entry_in}
use Rattle.layouts.proofs.handed.Handed.entry.Goals as goal

pub returns : goal.returns
unfolding entry_in
returns c = record {
  same = λ i. entry (c.number.ensures.0 i) (placement (c.number-2.ensures.0 i) (c.number-3.ensures.0 i)
      (c.number-4.ensures.0 i));
  small = record {
    kind = c.number.ensures.1;
    column = c.number-2.ensures.1;
    row = c.number-3.ensures.1;
    rotation =
        c.number-4.ensures.1;
  };
}
