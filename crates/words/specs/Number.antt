-- Numbers of k bytes, low byte first, in a list of bytes.
use Rattle.std.specs.Prelude.{List, [], ◌∷◌, ◌++◌, ℕ, zero, suc, ◌+◌, ◌*◌, ◌/◌, ◌%◌, length, take, drop}

-- The number whose bytes, low byte first, are these.
unfoldable pub value : List ℕ → ℕ
value [] = 0
value (b ∷ bs) = b + 256 * value bs

-- The k bytes of a number, low byte first.
unfoldable pub bytes : ℕ → ℕ → List ℕ
bytes zero n = []
bytes (suc k) n = n % 256 ∷ bytes k (n / 256)

-- The bytes of numbers of k bytes each, one after the other.
unfoldable pub bytes_of : ℕ → List ℕ → List ℕ
bytes_of k [] = []
bytes_of k (n ∷ ns) = bytes k n ++ bytes_of k ns

-- The number of k bytes that stands at byte i.
unfoldable pub number_at : ℕ → List ℕ → ℕ → ℕ
number_at k s i = value (take k (drop i s))

-- The bytes after the k bytes from byte i became those of n. (Unchanged where they are not all there: see the laws.)
unfoldable pub with_number : ℕ → List ℕ → ℕ → ℕ → List ℕ
with_number k s i n = take i s ++ bytes k n ++ drop (i + k) s

-- How many whole numbers of k bytes a list of bytes holds. An incomplete last one does not count.
unfoldable pub count : ℕ → List ℕ → ℕ
count k s = length s / k

-- The bytes after its first numbers became ns, each of k bytes; every later byte is unchanged.
unfoldable pub filled : ℕ → List ℕ → List ℕ → List ℕ
filled k ns s = bytes_of k ns ++ drop (length ns * k) s
