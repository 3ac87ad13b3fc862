-- The numbers of the strings, and where they stand, are small.
use Prim.Native.Nat.{ℕ, ◌*◌, ◌≤◌}
use native.Mathlib.Nat.{mul-le-mul}

pub words-before : (size i : ℕ) → size ≤ 200 → i ≤ 400 → i * size ≤ 80000
words-before size i h l = mul-le-mul {n₁ = i} {m₁ = size} {n₂ = 400} {m₂ = 200} l h
