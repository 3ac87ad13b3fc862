-- `root::walking::walk_with_table` meets its contract.
use mathlib.Core.Path.{◌≡◌, refl}
use Prim.Native.Nat.{ℕ, ◌≤◌}
use native.Mathlib.Omega.{arith}
use Rattle.root.proofs.walking.walk_with_table.Goals as goal

-- A table of so many bytes has room for what is no more.
room : (need have size : ℕ) → have ≡ size → need ≤ size → need ≤ have
room need have size e h = rw e h

pub overflow_mul-nofit : goal.overflow_mul-nofit
overflow_mul-nofit c = omega (arith, c.requires.computed.1)

pub overflow_add-nofit : goal.overflow_add-nofit
overflow_add-nofit c = omega (arith, c.requires.computed.1)

pub walk_over-requires : goal.walk_over-requires
walk_over-requires c = record {
  computed = c.requires.computed.0;
  strings_in_bounds = room _ _ 8192 refl (omega (arith, c.if-nofit-lt1024.true));
  ready = c.requires.ready;
}

pub returns-then-nofit-lt1024 : goal.returns-then-nofit-lt1024
returns-then-nofit-lt1024 c = c.walk_over.ensures

pub walk_over-requires-2 : goal.walk_over-requires-2
walk_over-requires-2 c = record {
  computed = c.requires.computed.0;
  strings_in_bounds = room _ _ 204800 refl (omega (arith, c.requires.computed.1));
  ready = c.requires.ready;
}

pub returns : goal.returns
returns c = c.walk_over-2.ensures
