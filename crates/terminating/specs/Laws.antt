-- What holds along any run of the office's calls.
use Rattle.std.specs.Prelude.{◌≡◌, ℕ, ◌≤◌, ◌⊎◌, List, [], ◌∷◌, ◌++◌, map, filter, Ok, Err, count_by, ◌==◌}
use mathlib.Core.List.{Sublist}
use Rattle.fields.specs.declared.key.Key.{Key}
use Rattle.fields.specs.Values.{Identity}
use Rattle.link.specs.Queue.{Queue}
use Rattle.terminating.specs.declared.making.TerminatingSettings.{TerminatingSettings}
use Rattle.terminating.specs.declared.office.Monitor.{Monitor}
use Rattle.terminating.specs.Hearing.{hear_step}
use Rattle.terminating.specs.Making.{fresh}
use Rattle.terminating.specs.Office.{Office, is_engaged}
use Rattle.terminating.specs.Steps.{Answer, line_step, serve_step, outcome_step}

-- a refused call leaves all as found
abbrev pub AsFound : {World : Type 0} → Answer → World → World → Type 0
AsFound (Ok x) before after = Unit {0}
AsFound (Err e) before after = after ≡ before

-- a call with its numbers, and the links as it finds them
pub data Call : Type 0 where
  line_call : (line mark : ℕ) → Call
  serve_call : (back : Queue) (line : ℕ) → Call
  outcome_call : (back : Queue) (line number : ℕ) → Call
  hear_call : (out back : Queue) → Call

-- the office that a call leaves
abbrev pub leaves : Office → Call → Office
leaves s (line_call line mark) = (line_step s line mark).1
leaves s (serve_call back line) = (serve_step s back line).1
leaves s (outcome_call back line number) = (outcome_step s back line number).1
leaves s (hear_call out back) = (hear_step s out back).1

-- the office after a run of calls, the newest first; between two calls the links may change in any way
abbrev pub run : Office → List Call → Office
run s [] = s
run s (x ∷ xs) = leaves (run s xs) x

-- a called party's queue: the keys of its monitors, in the order in which they came
abbrev pub queue : Identity → List Monitor → List Key
queue n ms = filter (λ k. k.called.bits == n.bits) (map (λ m. m.key) ms)

-- a queue loses members, those that stay keeping their order, or gains one at its end
abbrev pub Moved : List Key → List Key → Type 0
Moved before after = Sublist after before ⊎ ((k : Key) × (after ≡ before ++ k ∷ []))

-- at most one of a line's monitors is offered or rings
abbrev pub OneEngaged : List Monitor → Type 0
OneEngaged ms = (n : Identity) → count_by (is_engaged n) ms ≤ 1

-- an office that some run from a making leads to
pub record Reached (s : Office) : Type 0 where
  pub from : TerminatingSettings
  pub calls : List Call
  pub leads : run (fresh from) calls ≡ s

-- the run of no calls leads to an office fresh made, and the law holds there
pub record Begun (from : TerminatingSettings) (s : Office) : Type 0 where
  pub runs : run (fresh from) [] ≡ s
  pub one : OneEngaged s.monitors

-- after a call: every queue has moved as a queue may, and where a run led to the office before, the longer run leads to
-- the office after, in which at most one of each line's monitors is offered or rings
pub record Lawful (before : Office) (x : Call) (after : Office) : Type 0 where
  pub queues : (n : Identity) → Moved (queue n before.monitors) (queue n after.monitors)
  pub runs : (from : TerminatingSettings) (calls : List Call) → run (fresh from) calls ≡ before → run (fresh from) (x ∷ calls) ≡ after
  pub one : Reached before → OneEngaged after.monitors
