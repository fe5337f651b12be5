-- What hear answers and leaves.
use Rattle.std.specs.Prelude.{Bool, true, cond, List, [], ◌∷◌, ◌++◌, length, Some, None, Ok, Err, Option, Result, ◌==◌, nat_le, nat_lt, find}
use Rattle.fields.specs.declared.call.CallAttributes.{CallAttributes}
use Rattle.fields.specs.declared.key.Key.{Key}
use Rattle.fields.specs.declared.refusal.Refusal.TheVariants.{NothingThere}
use Rattle.fields.specs.Values.{Identity}
use Rattle.link.specs.declared.message.Kind.{Kind}
use Rattle.link.specs.declared.message.Kind.TheVariants as kind
use Rattle.link.specs.declared.message.Message.{Message}
use Rattle.link.specs.declared.message.NoCause.{NoCause}
use Rattle.link.specs.declared.message.NoCause.TheVariants.{NoSuchLine, OtherService, QueueFull, TableFull}
use Rattle.link.specs.Queue.{Queue, sent, taken}
use Rattle.record.specs.Search.{put_first, drop_first, count_of}
use Rattle.terminating.specs.declared.office.Line.{Line}
use Rattle.terminating.specs.declared.office.Monitor.{Monitor}
use Rattle.terminating.specs.declared.office.Stage.{Stage}
use Rattle.terminating.specs.declared.office.Stage.TheVariants.{Waiting, Offered, Suspended, Ringing}
use Rattle.terminating.specs.declared.plans.Change.{Change}
use Rattle.terminating.specs.declared.plans.Change.TheVariants.{Keep, Store, Put, Erase}
use Rattle.terminating.specs.declared.plans.Plan.{Plan}
use Rattle.terminating.specs.Office.{Office, with_monitors, is_line, has_key, at_stage}
use Rattle.terminating.specs.Steps.{Answer, if_sent, sending_answer}

-- nothing is done with the message
abbrev pub dropped : Plan
dropped = record { change = Keep; reply = None }

-- LET-GO: nothing more will be sent about the request
abbrev pub let_go : Change → Plan
let_go change = record { change = change; reply = Some kind.LetGo }

-- whether a MONITOR for the line may stand, or why it is answered NO; five monitors may stand for a called party
abbrev pub admission_at : Office → Line → CallAttributes → Result (Unit {0}) NoCause
admission_at s l call =
    cond (l.service.bits == call.service.bits)
    (cond (nat_le 5 (count_of (λ m. m.key.called) (λ _. true) l.identity s.monitors)) (Err QueueFull)
    (cond (nat_le s.places (length s.monitors)) (Err TableFull) (Ok tt)))
    (Err OtherService)

abbrev pub admission_for : Office → CallAttributes → Option Line → Result (Unit {0}) NoCause
admission_for s call None = Err NoSuchLine
admission_for s call (Some l) = admission_at s l call

abbrev pub admission : Office → Identity → CallAttributes → Result (Unit {0}) NoCause
admission s called call = admission_for s call (find (is_line called) s.lines)

-- NO with its cause, or the monitor is stored and YES
abbrev pub admitted : Key → CallAttributes → Result (Unit {0}) NoCause → Plan
admitted k call (Err cause) = record { change = Keep; reply = Some (kind.No cause) }
admitted k call (Ok x) = record { change = Store (record { key = k; call = call; stage = Waiting }); reply = Some kind.Yes }

-- no monitor has the key
abbrev pub plan_new : Office → Key → Kind → Plan
plan_new s k (kind.Monitor call) = admitted k call (admission s k.called call)
plan_new s k kind.Close = let_go Keep
plan_new s k _ = dropped

abbrev pub busy_at : Option Line → Bool
busy_at None = true
busy_at (Some l) = l.busy

-- the line is busy; one that is not here is
abbrev pub is_busy : Office → Identity → Bool
is_busy s n = busy_at (find (is_line n) s.lines)

-- the monitor goes to the stage, and nothing is sent
abbrev pub turned : Stage → Monitor → Plan
turned at m = record { change = Put (at_stage at m); reply = None }

abbrev pub suspended : Monitor → Stage → Plan
suspended m Offered = turned Suspended m
suspended m _ = dropped

abbrev pub resumed : Monitor → Stage → Plan
resumed m Suspended = turned Waiting m
resumed m _ = dropped

abbrev pub set_up : Monitor → Bool → Stage → Plan
set_up m busy Offered = cond busy (record { change = Put (at_stage Waiting m); reply = Some kind.BusyAgain }) (turned Ringing m)
set_up m busy _ = dropped

-- the monitor m has the key
abbrev pub plan_at : Office → Monitor → Stage → Kind → Plan
plan_at s m at kind.Suspend = suspended m at
plan_at s m at kind.Resume = resumed m at
plan_at s m at kind.Setup = set_up m (is_busy s m.key.called) at
plan_at s m at kind.Close = let_go Erase
plan_at s m at _ = dropped

abbrev pub plan_for : Office → Message → Option Monitor → Plan
plan_for s msg None = plan_new s msg.key msg.kind
plan_for s msg (Some m) = plan_at s m m.stage msg.kind

abbrev pub plan_of : Office → Message → Plan
plan_of s msg = plan_for s msg (find (has_key msg.key) s.monitors)

-- a monitor is stored last, and only where a place is left
abbrev pub applied : Office → Key → Change → Office
applied s k Keep = s
applied s k (Store m) = cond (nat_lt (length s.monitors) s.places) (with_monitors s (s.monitors ++ m ∷ [])) s
applied s k (Put m) = with_monitors s (put_first (has_key k) m s.monitors)
applied s k Erase = with_monitors s (drop_first (has_key k) s.monitors)

-- a reply, if there is one
abbrev pub reply_answer : Queue → Option Kind → Answer
reply_answer back None = Ok tt
reply_answer back (Some k) = sending_answer back

abbrev pub replied : Queue → Key → Option Kind → Queue
replied back key None = back
replied back key (Some k) = sent back (record { kind = k; key = key })

-- the answer, the office after the call, and then the link out and the link back
abbrev pub Heard : Type 0
Heard = Answer × Office × Queue × Queue

-- the oldest message is taken where the reply goes out
abbrev pub hear_by : Office → Message → Queue → Queue → Plan → Heard
hear_by s m out back p =
    (reply_answer back p.reply, if_sent (reply_answer back p.reply) s (applied s m.key p.change), if_sent (reply_answer back p.reply) out (taken out), replied back m.key p.reply)

abbrev pub hear_first : Office → List Message → Queue → Queue → Heard
hear_first s [] out back = (Err NothingThere, s, out, back)
hear_first s (m ∷ ms) out back = hear_by s m out back (plan_of s m)

abbrev pub hear_step : Office → Queue → Queue → Heard
hear_step s out back = hear_first s out.waiting out back
