-- The words of a line: its longest runs of bytes that are no blanks.
use Rattle.std.specs.Prelude.{ℕ, Bool, true, false, cond, not, ◌||◌, List, [], ◌∷◌, ◌++◌, take, drop, ◌==◌}
use Rattle.std.specs.List.{prefix_len}

-- a space, a tab or a carriage return
abbrev pub is_blank : ℕ → Bool
is_blank b = b == 32 || (b == 9 || b == 13)

-- a run before the words that follow it; an empty run is no word
abbrev pub before : List ℕ → List (List ℕ) → List (List ℕ)
before [] ws = ws
before (b ∷ run) ws = (b ∷ run) ∷ ws

-- the words where a run stands before the line: a run ends at a blank and at the line's end
abbrev pub words_after : List ℕ → List ℕ → List (List ℕ)
words_after run [] = before run []
words_after run (b ∷ bs) = cond (is_blank b) (before run (words_after [] bs)) (words_after (run ++ b ∷ []) bs)

abbrev pub words : List ℕ → List (List ℕ)
words bs = words_after [] bs

-- blanks are of the kind true, and the other bytes of the kind false
abbrev pub of_kind : Bool → ℕ → Bool
of_kind true b = is_blank b
of_kind false b = not (is_blank b)

-- the line from its first word on
abbrev pub led_of : List ℕ → List ℕ
led_of bs = drop (prefix_len (of_kind true) bs) bs

abbrev pub word_of : List ℕ → List ℕ
word_of bs = take (prefix_len (of_kind false) (led_of bs)) (led_of bs)

-- what follows the first word
abbrev pub rest_of : List ℕ → List ℕ
rest_of bs = drop (prefix_len (of_kind false) (led_of bs)) (led_of bs)

-- a first word and the words that follow it; no word at all where the first is empty
abbrev pub starts_with : List ℕ → List (List ℕ) → List (List ℕ)
starts_with [] ws = []
starts_with (b ∷ word) ws = (b ∷ word) ∷ ws
