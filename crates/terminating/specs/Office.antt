-- The office's records as lists, and the tests on them.
use Rattle.std.specs.Prelude.{ℕ, Bool, true, false, ◌&&◌, List, ◌==◌}
use Rattle.fields.specs.declared.key.Key.{Key}
use Rattle.fields.specs.Values.{Identity}
use Rattle.fields.specs.Keys.{same_key}
use Rattle.record.specs.Search.{put_first}
use Rattle.terminating.specs.declared.office.Line.{Line}
use Rattle.terminating.specs.declared.office.Monitor.{Monitor}
use Rattle.terminating.specs.declared.office.Stage.{Stage}
use Rattle.terminating.specs.declared.office.Stage.TheVariants.{Waiting, Offered, Ringing}

-- what the office keeps: its lines, its monitors in the order in which they came, and how many may stand
pub record Office : Type 0 where
  pub lines : List Line
  pub monitors : List Monitor
  pub places : ℕ

abbrev pub with_lines : Office → List Line → Office
with_lines s ls = record { lines = ls; monitors = s.monitors; places = s.places }

abbrev pub with_monitors : Office → List Monitor → Office
with_monitors s ms = record { lines = s.lines; monitors = ms; places = s.places }

abbrev pub waits : Stage → Bool
waits Waiting = true
waits _ = false

-- the line is held for the monitor
abbrev pub engaged : Stage → Bool
engaged Offered = true
engaged Ringing = true
engaged _ = false

abbrev pub rings : Stage → Bool
rings Ringing = true
rings _ = false

abbrev pub is_line : Identity → Line → Bool
is_line n l = l.identity.bits == n.bits

-- the monitor stands in the queue of the called party n
abbrev pub is_for : Identity → Monitor → Bool
is_for n m = m.key.called.bits == n.bits

abbrev pub is_waiting : Identity → Monitor → Bool
is_waiting n m = is_for n m && waits m.stage

abbrev pub is_engaged : Identity → Monitor → Bool
is_engaged n m = is_for n m && engaged m.stage

abbrev pub is_ringing : Identity → Monitor → Bool
is_ringing n m = is_for n m && rings m.stage

abbrev pub has_key : Key → Monitor → Bool
has_key k m = same_key m.key k

abbrev pub at_stage : Stage → Monitor → Monitor
at_stage at m = record { key = m.key; call = m.call; stage = at }

abbrev pub marked : Bool → Line → Line
marked busy l = record { identity = l.identity; service = l.service; busy = busy }

-- the line stands in the place of that of its identity
abbrev pub with_line : Office → Line → Office
with_line s l = with_lines s (put_first (is_line l.identity) l s.lines)
