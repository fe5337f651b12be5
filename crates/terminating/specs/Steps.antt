-- What line, serve and outcome answer and leave.
use Rattle.std.specs.Prelude.{ℕ, Bool, true, cond, is_some, Ok, Err, Result, ◌==◌, find}
use Rattle.std.specs.Option.{ok_or}
use Rattle.fields.specs.declared.refusal.Refusal.{Refusal}
use Rattle.fields.specs.declared.refusal.Refusal.TheVariants.{OutsideField, UnknownParty, NothingThere, PartyBusy}
use Rattle.fields.specs.Values.{Identity}
use Rattle.fields.specs.Marking.{mark_of}
use Rattle.fields.specs.Fields.{checked}
use Rattle.fields.specs.Values.{identity_of}
use Rattle.link.specs.declared.message.Kind.{Kind}
use Rattle.link.specs.declared.message.Kind.TheVariants as kind
use Rattle.link.specs.declared.message.Message.{Message}
use Rattle.link.specs.Messages.{after}
use Rattle.link.specs.Queue.{Queue, send_answer, sent}
use Rattle.record.specs.Search.{put_first, drop_first}
use Rattle.terminating.specs.declared.office.Line.{Line}
use Rattle.terminating.specs.declared.office.Monitor.{Monitor}
use Rattle.terminating.specs.declared.office.Stage.TheVariants.{Waiting, Offered}
use Rattle.terminating.specs.declared.outcomes.Ending.{Ending}
use Rattle.terminating.specs.declared.outcomes.Outcome.{Outcome}
use Rattle.terminating.specs.declared.outcomes.Outcome.TheVariants.{Connected, Busy, Failed}
use Rattle.terminating.specs.Office.{Office, with_line, with_monitors, is_line, is_waiting, is_engaged, is_ringing, at_stage, marked}

abbrev pub Answer : Type 0
Answer = Result (Unit {0}) Refusal

abbrev pub known_line : Office → Identity → Result Line Refusal
known_line s n = ok_or (find (is_line n) s.lines) UnknownParty

abbrev pub marked_line : Office → ℕ → ℕ → Result Line Refusal
marked_line s line mark =
    after (checked 48 identity_of line) (λ n.
    after (mark_of mark) (λ busy.
    after (known_line s n) (λ l.
    Ok (marked busy l))))

abbrev pub line_by : Office → Result Line Refusal → Answer × Office
line_by s (Err e) = (Err e, s)
line_by s (Ok l) = (Ok tt, with_line s l)

-- the answer, and the office after the call
abbrev pub line_step : Office → ℕ → ℕ → Answer × Office
line_step s line mark = line_by s (marked_line s line mark)

-- old where a send was refused, else new
abbrev pub if_sent : {X : Type 0} → Answer → X → X → X
if_sent (Ok x) old new = new
if_sent (Err e) old new = old

-- what sending answers
abbrev pub sending_answer : Queue → Answer
sending_answer q = send_answer q.capacity q.waiting

-- the answer, the office after the call, and the link back after it
abbrev pub Told : Type 0
Told = Answer × Office × Queue

-- the message is sent and the office changed, or neither
abbrev pub tell : Office → Queue → Message → Office → Told
tell s back m new = (sending_answer back, if_sent (sending_answer back) s new, sent back m)

-- a monitor of the line is offered or rings
abbrev pub is_held : Office → Line → Bool
is_held s l = is_some (find (is_engaged l.identity) s.monitors)

abbrev pub earliest_waiting : Office → Line → Result Monitor Refusal
earliest_waiting s l = ok_or (find (is_waiting l.identity) s.monitors) NothingThere

abbrev pub offer_to : Office → Line → Result Monitor Refusal
offer_to s l = cond l.busy (Err PartyBusy) (cond (is_held s l) (Err NothingThere) (earliest_waiting s l))

abbrev pub next_served : Office → ℕ → Result Monitor Refusal
next_served s line =
    after (checked 48 identity_of line) (λ n.
    after (known_line s n) (λ l.
    offer_to s l))

-- the first that waits for the line stands as m says
abbrev pub offered : Office → Monitor → Office
offered s m = with_monitors s (put_first (is_waiting m.key.called) (at_stage Offered m) s.monitors)

abbrev pub serve_by : Office → Queue → Result Monitor Refusal → Told
serve_by s back (Err e) = (Err e, s, back)
serve_by s back (Ok m) = tell s back (record { kind = kind.Free; key = m.key }) (offered s m)

abbrev pub serve_step : Office → Queue → ℕ → Told
serve_step s back line = serve_by s back (next_served s line)

abbrev pub outcome_of : ℕ → Result Outcome Refusal
outcome_of n =
    cond (n == 1) (Ok Connected) (cond (n == 2) (Ok Busy) (cond (n == 3) (Ok Failed) (Err OutsideField)))

abbrev pub told_as : Outcome → Kind
told_as Connected = kind.Connected
told_as Busy = kind.BusyAgain
told_as Failed = kind.Failed

abbrev pub ringing_at : Office → Line → Result Monitor Refusal
ringing_at s l = ok_or (find (is_ringing l.identity) s.monitors) NothingThere

abbrev pub ending_of : Office → ℕ → ℕ → Result Ending Refusal
ending_of s line number =
    after (checked 48 identity_of line) (λ n.
    after (outcome_of number) (λ outcome.
    after (known_line s n) (λ l.
    after (ringing_at s l) (λ m.
    Ok (record { line = l; monitor = m; outcome = outcome })))))

abbrev pub marked_busy : Office → Line → Office
marked_busy s l = with_line s (marked true l)

-- the monitor that rang is erased
abbrev pub rung_off : Office → Line → Office
rung_off s l = with_monitors s (drop_first (is_ringing l.identity) s.monitors)

-- the monitor that rang waits again, in its place
abbrev pub waits_again : Office → Line → Monitor → Office
waits_again s l m = with_monitors s (put_first (is_ringing l.identity) (at_stage Waiting m) s.monitors)

abbrev pub ended : Office → Line → Monitor → Outcome → Office
ended s l m Connected = marked_busy (rung_off s l) l
ended s l m Busy = marked_busy (waits_again s l m) l
ended s l m Failed = rung_off s l

abbrev pub outcome_by : Office → Queue → Result Ending Refusal → Told
outcome_by s back (Err e) = (Err e, s, back)
outcome_by s back (Ok x) =
    tell s back (record { kind = told_as x.outcome; key = x.monitor.key }) (ended s x.line x.monitor x.outcome)

abbrev pub outcome_step : Office → Queue → ℕ → ℕ → Told
outcome_step s back line number = outcome_by s back (ending_of s line number)
