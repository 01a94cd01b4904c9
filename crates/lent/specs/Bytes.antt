-- Little-endian numbers in a list of bytes: one pair of definitions, `bytes` and `num`, serves every width.
use Rattle.std.specs.Prelude.{ℕ, zero, suc, ◌+◌, ◌*◌, ◌/◌, ◌%◌, List, [], ◌∷◌, ◌++◌, length, take, drop, replicate}

-- the n low bytes of x, the lowest first
unfoldable pub bytes : ℕ → ℕ → List ℕ
bytes zero x = []
bytes (suc n) x = x % 256 ∷ bytes n (x / 256)

-- the number that bytes make
unfoldable pub num : List ℕ → ℕ
num [] = 0
num (b ∷ bs) = b + 256 * num bs

-- the number of n bytes that stands at o; a word has eight bytes, a half four
unfoldable pub num_at : ℕ → List ℕ → ℕ → ℕ
num_at n l o = num (take n (drop o l))

abbrev pub word_at : List ℕ → ℕ → ℕ
word_at l o = num_at 8 l o

abbrev pub half_at : List ℕ → ℕ → ℕ
half_at l o = num_at 4 l o

-- l with bs at o
unfoldable pub put : List ℕ → ℕ → List ℕ → List ℕ
put l o bs = take o l ++ (bs ++ drop (o + length bs) l)

abbrev pub put_word : List ℕ → ℕ → ℕ → List ℕ
put_word l o x = put l o (bytes 8 x)

abbrev pub put_half : List ℕ → ℕ → ℕ → List ℕ
put_half l o x = put l o (bytes 4 x)

-- n zero bytes
abbrev pub zeros : ℕ → List ℕ
zeros n = replicate n 0
