-- What is known of a prepared job is known in one way: a struct can hold it.
use Rattle.std.specs.Prelude.{List, [], ◌∷◌, ℕ, suc}
use mathlib.Core.HLevel.{Unit-prop, ×_prop}
use denote.Struct.Props as logic
use Rattle.std.specs.Coded.{le_prop}
use Rattle.model.specs.ContentFit.{Each, RisingFrom}

pub Each-prop : {A : Type 0} (P : A → Type 0) → ((x : A) → IsProp (P x)) → (xs : List A) → IsProp (Each P xs)
Each-prop P each [] = Unit-prop
Each-prop P each (x ∷ xs) = ×_prop (each x) (Each-prop P each xs)

pub RisingFrom-prop : (lo : ℕ) (ns : List ℕ) → IsProp (RisingFrom lo ns)
RisingFrom-prop lo [] = Unit-prop
RisingFrom-prop lo (n ∷ ns) = ×_prop le_prop (RisingFrom-prop (suc n) ns)

pub ruleset facts = (Each-prop, RisingFrom-prop, logic.props)
