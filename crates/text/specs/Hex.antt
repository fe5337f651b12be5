-- Bytes in hex, two digits to a byte, the most significant first.
use Rattle.std.specs.Prelude.{ℕ, ◌+◌, ◌*◌, ◌/◌, ◌%◌, cond, List, [], ◌∷◌, length, Some, None, Option, ◌==◌}
use Rattle.std.specs.Char.{digit_char}
use Rattle.hex.specs.Hex.{hex_digit_value}
use Rattle.text.specs.Numbers.{linked}

abbrev pub hex_byte : Option ℕ → Option ℕ → Option ℕ
hex_byte None low = None
hex_byte (Some h) None = None
hex_byte (Some h) (Some l) = Some (h * 16 + l)

abbrev pub hex_bytes : List ℕ → Option (List ℕ)
hex_bytes [] = Some []
hex_bytes (h ∷ []) = None
hex_bytes (h ∷ l ∷ ds) = linked (hex_byte (hex_digit_value h) (hex_digit_value l)) (hex_bytes ds)

-- a list of n, if it is one
abbrev pub of_length : ℕ → Option (List ℕ) → Option (List ℕ)
of_length n None = None
of_length n (Some bytes) = cond (length bytes == n) (Some bytes) None

abbrev pub hex_array : ℕ → List ℕ → Option (List ℕ)
hex_array n word = of_length n (hex_bytes word)

abbrev pub hex_of : List ℕ → List ℕ
hex_of [] = []
hex_of (b ∷ bs) = digit_char (b / 16) ∷ digit_char (b % 16) ∷ hex_of bs
