-- Numbers written into a buffer of two-byte numbers.
use Rattle.std.specs.Prelude.{Bool, cond, List, map, ℕ, ◌+◌, ◌*◌}
use Rattle.std.proofs.lemmas.List.Edits.{sets}
use Rattle.integers.specs.Byte.{signed}
use Rattle.words.specs.Number.{bytes_of}
use Rattle.model.specs.Format.{byte_at, word_at}
use Rattle.model.specs.Lists.{below}
use Rattle.model.specs.Services.{coordinate}

-- The buffer after its numbers from number `at` on became ns; every other byte is unchanged.
unfoldable pub with_numbers_at : ℕ → List ℕ → List ℕ → List ℕ
with_numbers_at at ns s = sets s (at * 2) (bytes_of 2 ns)

-- A byte as a number: the coordinate that it stands for, or as it is.
unfoldable pub as_number : Bool → ℕ → ℕ
as_number c b = cond c (coordinate (signed b)) b

-- The n bytes from byte o on, a number for each: coordinates, or plain.
abbrev pub bytes_from : Bool → ℕ → ℕ → List ℕ → List ℕ
bytes_from c o n s = map (λ i. as_number c (byte_at s (o + i))) (below n)

-- The n two-byte numbers from byte o on.
abbrev pub words_from : ℕ → ℕ → List ℕ → List ℕ
words_from o n s = map (λ i. word_at s (o + i * 2)) (below n)
