-- What a line asks for, by its letter and the numbers that follow it.
use Rattle.std.specs.Prelude.{ℕ, cond, List, [], ◌∷◌, None, codes, Option, Result, ◌==◌, slice_index}
use Prim.Native.String.{String}
use Rattle.std.specs.Option.{option_map, ok_or}
use Rattle.text.specs.Numbers.{numbers_of}
use Rattle.text.specs.Words.{words}
use Rattle.command.specs.declared.commands.Command.{Command}
use Rattle.command.specs.declared.commands.Unreadable.{Unreadable}
use Rattle.command.specs.declared.commands.Command.TheVariants.{Subscriber, Line, Start, Retain, Request, Accept, Cancel, MarkCaller, Wake, Tick, Due, HearOriginating, MarkLine, ServeLine, LineOutcome, HearTerminating}

-- a command that takes no number
abbrev pub alone : Command → List (List ℕ) → Option Command
alone command ws = option_map (λ ns. command) (numbers_of 0 ws)

-- a command that takes exactly one number, two or five
abbrev pub taking1 : (ℕ → Command) → List (List ℕ) → Option Command
taking1 command ws = option_map (λ ns. command (slice_index ns 0)) (numbers_of 1 ws)

abbrev pub taking2 : (ℕ → ℕ → Command) → List (List ℕ) → Option Command
taking2 command ws = option_map (λ ns. command (slice_index ns 0) (slice_index ns 1)) (numbers_of 2 ws)

abbrev pub taking5 : (ℕ → ℕ → ℕ → ℕ → ℕ → Command) → List (List ℕ) → Option Command
taking5 command ws = option_map (λ ns. command (slice_index ns 0) (slice_index ns 1) (slice_index ns 2) (slice_index ns 3) (slice_index ns 4)) (numbers_of 5 ws)

-- the code of the character that a text of one character is
abbrev pub code_of : String → ℕ
code_of text = slice_index (codes text) 0

-- the letters of the terminating office
abbrev pub terminating_by : ℕ → List (List ℕ) → Option Command
terminating_by letter ws =
    cond (letter == (code_of "m")) (taking2 MarkLine ws)
    (cond (letter == (code_of "v")) (taking1 ServeLine ws)
    (cond (letter == (code_of "e")) (taking2 LineOutcome ws)
    (cond (letter == (code_of "f")) (alone HearTerminating ws) None)))

-- those of what happens at the originating office, and the letters above
abbrev pub originating_by : ℕ → List (List ℕ) → Option Command
originating_by letter ws =
    cond (letter == (code_of "b")) (taking2 MarkCaller ws)
    (cond (letter == (code_of "w")) (taking1 Wake ws)
    (cond (letter == (code_of "t")) (taking1 Tick ws)
    (cond (letter == (code_of "d")) (alone Due ws)
    (cond (letter == (code_of "o")) (alone HearOriginating ws) (terminating_by letter ws)))))

-- those of what a caller asks for, and the letters above
abbrev pub caller_by : ℕ → List (List ℕ) → Option Command
caller_by letter ws =
    cond (letter == (code_of "r")) (taking5 Retain ws)
    (cond (letter == (code_of "q")) (taking2 Request ws)
    (cond (letter == (code_of "a")) (taking2 Accept ws)
    (cond (letter == (code_of "c")) (taking2 Cancel ws) (originating_by letter ws))))

-- every letter, with the words that follow it
abbrev pub lettered_by : ℕ → List (List ℕ) → Option Command
lettered_by letter ws =
    cond (letter == (code_of "s")) (taking1 Subscriber ws)
    (cond (letter == (code_of "l")) (taking2 Line ws)
    (cond (letter == (code_of "g")) (alone Start ws) (caller_by letter ws)))

-- what words ask for: the first is one letter
abbrev pub asked_by : List (List ℕ) → Option Command
asked_by [] = None
asked_by ([] ∷ ws) = None
asked_by ((letter ∷ []) ∷ ws) = lettered_by letter ws
asked_by ((letter ∷ other ∷ more) ∷ ws) = None

abbrev pub command_of : List ℕ → Option Command
command_of line = asked_by (words line)

-- what a line is read as
abbrev pub read_as : List ℕ → Result Command Unreadable
read_as line = ok_or (command_of line) record {}
