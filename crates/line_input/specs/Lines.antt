-- The lines of an input, and an answer to each.
use Rattle.std.specs.Prelude.{◌≡◌, ℕ, ◌<◌, Bool, true, false, cond, length, Option, IfSome, List, [], ◌∷◌, ◌++◌, ◌==◌, slice_index, Result, IfOk, string_bytes}
use Rattle.std.specs.Borrow.{Bor}
use Rattle.std.specs.Io.BufRead.{first_piece, DropsThrough}
use Rattle.std.specs.Io.KnownBytes.{IsAtEnd}
use Rattle.std.specs.declared.string.String.{String}
use Rattle.std.specs.declared.alloc.AllocError.{AllocError}
use Rattle.std.specs.declared.alloc.Global.{Global}

abbrev pub IsBytes : List ℕ → Type 0
IsBytes bs = (i : ℕ) → slice_index bs i < 256

-- what is given for a line of bytes is its text, where there is memory for it
abbrev pub Gives : (Bor (List ℕ) → Result (String Global) AllocError → Type 0) → (List ℕ → List ℕ) → Type 0
Gives given text = (line : Bor (List ℕ)) (r : Result (String Global) AllocError) → IsBytes line.now → given line r → IfOk r (λ s. string_bytes s ≡ text line.now)

-- what stands after the last line break is a line, if it is not empty
abbrev pub last_line : List ℕ → List (List ℕ)
last_line [] = []
last_line (b ∷ line) = (b ∷ line) ∷ []

-- the lines where a part of the first stands before the input
abbrev pub lines_after : List ℕ → List ℕ → List (List ℕ)
lines_after line [] = last_line line
lines_after line (b ∷ bs) = cond (b == 10) (line ∷ lines_after [] bs) (lines_after (line ++ b ∷ []) bs)

-- the lines of an input, each without the line break that ends it
abbrev pub lines : List ℕ → List (List ℕ)
lines bs = lines_after [] bs

-- a text for each line, each with a line break at its end
abbrev pub answered : (List ℕ → List ℕ) → List (List ℕ) → List ℕ
answered text [] = []
answered text (line ∷ more) = text line ++ 10 ∷ [] ++ answered text more

abbrev pub answers : (List ℕ → List ℕ) → List ℕ → List ℕ
answers text input = answered text (lines input)

-- where the bytes of a reader are known: their first line was read and is not left any more, or there was none
abbrev pub ReadsLine : Bool → Option (List ℕ) → List ℕ → Option (List ℕ) → Type 0
ReadsLine true old line new = IfSome old (λ xs. (0 < length xs) × (line ≡ first_piece 10 xs)) × DropsThrough old new 10
ReadsLine false old line new = IsAtEnd old
