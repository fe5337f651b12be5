-- What a message does to a request.
use Rattle.std.specs.Prelude.{cond, Some, None}
use Rattle.link.specs.declared.message.Kind.{Kind}
use Rattle.link.specs.declared.message.Kind.TheVariants as kind
use Rattle.requests.specs.declared.notices.EndCause.{EndCause}
use Rattle.requests.specs.declared.notices.EndCause.TheVariants.{FarEndSaidNo, Completed, SetUpFailed}
use Rattle.requests.specs.declared.notices.Notice.{Notice}
use Rattle.requests.specs.declared.notices.Notice.TheVariants.{Granted, Recall, FreeNotification, WaitingAgain, End}
use Rattle.requests.specs.declared.records.Phase.{Phase}
use Rattle.requests.specs.declared.records.Phase.TheVariants.{Asked, Invoked, Parked, SettingUp, Closing}
use Rattle.requests.specs.declared.records.Request.{Request}
use Rattle.requests.specs.Notices.{dropped, about}
use Rattle.requests.specs.Records.{at_phase, recalled_until}
use Rattle.request_plans.specs.declared.plans.CallerState.{CallerState}
use Rattle.request_plans.specs.declared.plans.Change.TheVariants.{Keep, Put, Free}
use Rattle.request_plans.specs.declared.plans.Plan.{Plan}

-- nothing is done with the message
abbrev pub ignored : Plan
ignored = record { change = Keep; reply = None; answer = dropped }

-- the request stands as r says, and nothing is sent
abbrev pub turned : Request → Notice → Plan
turned r notice = record { change = Put r; reply = None; answer = about r (Some notice) }

-- the request ends, and CLOSE is sent; its identifier stays held
abbrev pub ended : Request → EndCause → Plan
ended r cause = record { change = Put (at_phase Closing r); reply = Some kind.Close; answer = about r (Some (End cause)) }

-- the place and the identifier are free
abbrev pub let_go : Request → Plan
let_go r = record { change = Free; reply = None; answer = about r None }

-- FREE is heard of an invoked request: a busy caller's is parked, else the caller is recalled until the deadline
abbrev pub when_free : CallerState → Request → Plan
when_free caller r =
    cond caller.busy (record { change = Put (at_phase Parked r); reply = Some kind.Suspend; answer = about r (Some FreeNotification) })
    (turned (recalled_until caller.recall_until r) Recall)

abbrev pub heard_yes : Request → Phase → Plan
heard_yes r Asked = turned (at_phase Invoked r) Granted
heard_yes r _ = ignored

abbrev pub heard_no : Request → Phase → Plan
heard_no r Asked = ended r FarEndSaidNo
heard_no r _ = ignored

abbrev pub heard_free : CallerState → Request → Phase → Plan
heard_free caller r Invoked = when_free caller r
heard_free caller r _ = ignored

abbrev pub heard_busy_again : Request → Phase → Plan
heard_busy_again r SettingUp = turned (at_phase Invoked r) WaitingAgain
heard_busy_again r _ = ignored

abbrev pub heard_connected : Request → Phase → Plan
heard_connected r SettingUp = ended r Completed
heard_connected r _ = ignored

abbrev pub heard_failed : Request → Phase → Plan
heard_failed r SettingUp = ended r SetUpFailed
heard_failed r _ = ignored

abbrev pub heard_let_go : Request → Phase → Plan
heard_let_go r Closing = let_go r
heard_let_go r _ = ignored

-- what a message of that kind does to the request r in its phase, by how its caller stands
abbrev pub plan_at : CallerState → Request → Phase → Kind → Plan
plan_at caller r at kind.Yes = heard_yes r at
plan_at caller r at (kind.No cause) = heard_no r at
plan_at caller r at kind.Free = heard_free caller r at
plan_at caller r at kind.BusyAgain = heard_busy_again r at
plan_at caller r at kind.Connected = heard_connected r at
plan_at caller r at kind.Failed = heard_failed r at
plan_at caller r at kind.LetGo = heard_let_go r at
plan_at caller r at _ = ignored
