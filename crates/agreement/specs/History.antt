-- What was answered so far, newest first, and what it says of openings and endings.
use Rattle.std.specs.Prelude.{ℕ, cond, ◌&&◌, List, [], ◌∷◌, ◌==◌}
use Rattle.agreement.specs.Key.{Opening}

pub data Event : Type 0 where
  -- a caller retained a call to a called party, under a call identifier
  retained : (caller called call : ℕ) → Event
  -- a request, neither refused nor joined: its caller and call identifier, and the number and the identifier answered
  opened : (caller call number identifier : ℕ) → Event
  -- an answer with an end notice
  ended : (number : ℕ) → Event
  other : Event

-- the called party that a caller last retained under a call identifier
abbrev pub last_retained : ℕ → ℕ → List Event → ℕ
last_retained c d [] = 0
last_retained c d (retained c' n d' ∷ h) = cond (c' == c && d' == d) n (last_retained c d h)
last_retained c d (opened c' d' n i ∷ h) = last_retained c d h
last_retained c d (ended n ∷ h) = last_retained c d h
last_retained c d (other ∷ h) = last_retained c d h

abbrev pub openings : List Event → List Opening
openings [] = []
openings (retained c n d ∷ h) = openings h
openings (opened c d n i ∷ h) = record { number = n; key = record { identifier = i; caller = c; called = last_retained c d h } } ∷ openings h
openings (ended n ∷ h) = openings h
openings (other ∷ h) = openings h

abbrev pub endings : List Event → List ℕ
endings [] = []
endings (retained c n d ∷ h) = endings h
endings (opened c d n i ∷ h) = endings h
endings (ended n ∷ h) = n ∷ endings h
endings (other ∷ h) = endings h
