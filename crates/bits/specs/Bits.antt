-- The bits of bytes, and of a number, the highest first.
use Rattle.std.specs.Prelude.{ℕ, zero, suc, ◌+◌, ◌*◌, ◌/◌, ◌%◌, ◌<◌, List, [], ◌∷◌, ◌++◌, take, drop, slice_index}

abbrev pub byte_bits : ℕ → List ℕ
byte_bits b = b / 128 % 2 ∷ b / 64 % 2 ∷ b / 32 % 2 ∷ b / 16 % 2 ∷ b / 8 % 2 ∷ b / 4 % 2 ∷ b / 2 % 2 ∷ b % 2 ∷ []

-- eight bits a byte
unfoldable pub unpack : List ℕ → List ℕ
unpack [] = []
unpack (b ∷ bs) = byte_bits b ++ unpack bs

-- the first n bits of the bytes
unfoldable pub bits_of : List ℕ → ℕ → List ℕ
bits_of bytes n = take n (unpack bytes)

-- the w lowest bits of v
unfoldable pub digits : ℕ → ℕ → List ℕ
digits zero v = []
digits (suc w) v = digits w (v / 2) ++ (v % 2 ∷ [])

abbrev pub bytes_for : ℕ → ℕ
bytes_for n = (n + 7) / 8

-- the byte of the first eight bits, 0 where there are fewer
abbrev pub byte_of : List ℕ → ℕ
byte_of xs =
    slice_index xs 0 * 128 + slice_index xs 1 * 64 + slice_index xs 2 * 32 + slice_index xs 3 * 16
    + slice_index xs 4 * 8 + slice_index xs 5 * 4 + slice_index xs 6 * 2 + slice_index xs 7

-- the bits in n bytes
unfoldable pub pack : ℕ → List ℕ → List ℕ
pack zero xs = []
pack (suc n) xs = byte_of xs ∷ pack n (drop 8 xs)

-- each is a bit
abbrev pub Bitlike : List ℕ → Type 0
Bitlike xs = (i : ℕ) → slice_index xs i < 2

-- each is a byte
abbrev pub Bytelike : List ℕ → Type 0
Bytelike xs = (i : ℕ) → slice_index xs i < 256
