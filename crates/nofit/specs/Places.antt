-- What is asked where a string of the table is looked for.
use Rattle.std.specs.Prelude.{ℕ, ◌≤◌, ◌<◌}
use Rattle.nofit.specs.declared.places.Nofit.{Nofit}

-- Two kinds of the table and a rotation; the table is no larger than one may be.
pub record Sought (w : Nofit) (t q u : ℕ) : Type 0 where
  pub few : w.kinds ≤ 8
  pub words : (w.first ≤ 200) × (w.size ≤ 200)
  pub kind : t < w.kinds
  pub turn : q < 4
  pub other : u < w.kinds
