-- What a call answers, and how that is told.
use Rattle.std.specs.Prelude.{ℕ, Some, None, Ok, Err, Option, Result}
use Rattle.std.specs.Option.{option_and_then, option_map_or}
use Rattle.fields.specs.declared.refusal.Refusal.{Refusal}
use Rattle.fields.specs.Refusals.{refusal_number}
use Rattle.requests.specs.declared.notices.Answer.{Answer}
use Rattle.requests.specs.declared.notices.EndCause.{EndCause}
use Rattle.requests.specs.declared.notices.EndCause.TheVariants.{FarEndSaidNo, Completed, Cancelled, TimeOver, SetUpFailed}
use Rattle.requests.specs.declared.notices.Notice.{Notice}
use Rattle.requests.specs.declared.notices.Notice.TheVariants.{Opened, Joined, Granted, Recall, FreeNotification, WaitingAgain, End, Dropped}
use Rattle.requests.specs.declared.notices.Touched.{Touched}
use Rattle.requests.specs.declared.records.Request.{Request}

-- no request is touched
abbrev pub done : Answer
done = record { notice = None; touched = None }

-- nothing is done with a message
abbrev pub dropped : Answer
dropped = record { notice = Some Dropped; touched = None }

-- the request is touched
abbrev pub about : Request → Option Notice → Answer
about r notice = record { notice = notice; touched = Some (record { number = r.number; identifier = r.key.identifier }) }

-- the notice's letter
abbrev pub letter : Notice → ℕ
letter Opened = 45
letter Joined = 74
letter Granted = 71
letter Recall = 82
letter FreeNotification = 78
letter WaitingAgain = 87
letter (End cause) = 69
letter Dropped = 88

-- the letter of what the caller is told, '-' for nothing
abbrev pub told_letter : Option Notice → ℕ
told_letter notice = option_map_or letter notice 45

abbrev pub answer_letter : Answer → ℕ
answer_letter a = told_letter a.notice

abbrev pub cause_number : EndCause → ℕ
cause_number FarEndSaidNo = 1
cause_number Completed = 2
cause_number Cancelled = 3
cause_number TimeOver = 4
cause_number SetUpFailed = 5

abbrev pub cause : Notice → Option EndCause
cause (End why) = Some why
cause _ = None

-- the touched request's number, its identifier, and why a request ended, each 0 where there is none
abbrev pub answer_number : Answer → ℕ
answer_number a = option_map_or (λ (t : Touched). t.number) a.touched 0

abbrev pub answer_identifier : Answer → ℕ
answer_identifier a = option_map_or (λ (t : Touched). t.identifier.bits) a.touched 0

abbrev pub answer_cause : Answer → ℕ
answer_cause a = option_map_or cause_number (option_and_then cause a.notice) 0

-- the number (0 or the refusal's), the notice's letter, the request number, the identifier and the end cause, 0 where
-- there is none
abbrev pub told : Result Answer Refusal → ℕ × ℕ × ℕ × ℕ × ℕ
told (Ok a) = (0, answer_letter a, answer_number a, answer_identifier a, answer_cause a)
told (Err e) = (refusal_number e, told_letter None, 0, 0, 0)
