-- Fields one after the other in a number, the first the highest.
use Rattle.std.specs.Prelude.{ℕ, ◌+◌, ◌*◌, ◌/◌, ◌%◌, ◌^◌, ◌<◌, List, [], ◌∷◌}

-- how many bits fields of these widths have together
abbrev pub total : List ℕ → ℕ
total [] = 0
total (w ∷ ws) = w + total ws

-- the number in which fields of these widths have these values
abbrev pub packed : List ℕ → List ℕ → ℕ
packed [] vs = 0
packed (w ∷ ws) [] = 0
packed (w ∷ ws) (v ∷ vs) = v * 2 ^ total ws + packed ws vs

-- the values of the fields of these widths in a number
abbrev pub split : List ℕ → ℕ → List ℕ
split [] n = []
split (w ∷ ws) n = n / 2 ^ total ws % 2 ^ w ∷ split ws n

-- as many values as widths, each within its own
abbrev pub Within : List ℕ → List ℕ → Type 0
Within [] [] = Unit {0}
Within [] (v ∷ vs) = ⊥
Within (w ∷ ws) [] = ⊥
Within (w ∷ ws) (v ∷ vs) = (v < 2 ^ w) × Within ws vs
