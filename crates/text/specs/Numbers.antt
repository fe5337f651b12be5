-- Decimal numbers.
use Rattle.std.specs.Prelude.{ℕ, zero, suc, ◌+◌, ◌-◌, ◌*◌, Bool, cond, ◌&&◌, List, [], ◌∷◌, ◌++◌, length, Some, None, decimal, Option, nat_le}

abbrev pub is_digit : ℕ → Bool
is_digit b = nat_le 48 b && nat_le b 57

-- the value of digits that follow digits of the value v; none where a byte is no digit
abbrev pub decimal_after : ℕ → List ℕ → Option ℕ
decimal_after v [] = Some v
decimal_after v (d ∷ ds) = cond (is_digit d) (decimal_after (v * 10 + (d - 48)) ds) None

-- 1 to 15 digits
abbrev pub number_of : List ℕ → Option ℕ
number_of ds = cond (nat_le 1 (length ds) && nat_le (length ds) 15) (decimal_after 0 ds) None

-- an item before a list, where both are there
abbrev pub linked : {X : Type 0} → Option X → Option (List X) → Option (List X)
linked None os = None
linked (Some x) None = None
linked (Some x) (Some xs) = Some (x ∷ xs)

-- exactly n words, each a number
abbrev pub numbers_of : ℕ → List (List ℕ) → Option (List ℕ)
numbers_of zero [] = Some []
numbers_of zero (w ∷ ws) = None
numbers_of (suc n) [] = None
numbers_of (suc n) (w ∷ ws) = linked (number_of w) (numbers_of n ws)

-- a number in decimal after a space
abbrev pub spaced_word : ℕ → List ℕ
spaced_word n = 32 ∷ decimal n

-- numbers, each after a space
abbrev pub spaced_of : List ℕ → List ℕ
spaced_of [] = []
spaced_of (n ∷ ns) = spaced_word n ++ spaced_of ns
