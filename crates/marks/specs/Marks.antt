-- Which identifiers are held, and which is issued next.
use Rattle.std.specs.Prelude.{ℕ, zero, suc, ◌+◌, ◌-◌, ◌/◌, ◌%◌, ◌^◌, Bool, cond, [], ◌∷◌, Some, None, count_by, Option, ◌==◌}
use Rattle.std.proofs.Common.{mod-lt, arith}
use Rattle.fields.specs.Values.{Identifier, identifier_of}
use Rattle.marks.specs.declared.mask.Marks.{Marks}

-- the marks with these bits, those above the eighth left out
abbrev pub marks_of : ℕ → Marks
marks_of n = record { bits = n % 2 ^ 8; fits = mod-lt n (omega arith) }

abbrev pub no_marks : Marks
no_marks = marks_of 0

-- in the marks h, identifier i is held
abbrev pub is_held : ℕ → ℕ → Bool
is_held h i = h / 2 ^ i % 2 == 1

abbrev pub held_count : ℕ → ℕ
held_count h = count_by (is_held h) (0 ∷ 1 ∷ 2 ∷ 3 ∷ 4 ∷ 5 ∷ 6 ∷ 7 ∷ [])

abbrev pub all_held : ℕ → Bool
all_held h = held_count h == 8

-- the marks with that of i set
abbrev pub holding : ℕ → ℕ → ℕ
holding h i = cond (is_held h i) h (h + 2 ^ i)

-- the marks with that of i taken away
abbrev pub releasing : ℕ → ℕ → ℕ
releasing h i = cond (is_held h i) (h - 2 ^ i) h

abbrev pub hold : Marks → Identifier → Marks
hold m i = marks_of (holding m.bits i.bits)

abbrev pub release : Marks → Identifier → Marks
release m i = marks_of (releasing m.bits i.bits)

-- the first of so many identifiers from i on that is not held, 7 followed by 0
abbrev pub next_from : ℕ → ℕ → ℕ → Option ℕ
next_from zero h i = None
next_from (suc k) h i = cond (is_held h i) (next_from k h ((i + 1) % 8)) (Some i)

abbrev pub identified : Option ℕ → Option Identifier
identified None = None
identified (Some i) = Some (identifier_of i)

-- the nearest identifier after the last issued that is not held
abbrev pub next_issued : Marks → Identifier → Option Identifier
next_issued m last = identified (next_from 8 m.bits ((last.bits + 1) % 8))
