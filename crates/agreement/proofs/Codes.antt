-- Numbers for phases, stages and sorts of message, and tests by them.
use Rattle.std.specs.Prelude.{ℕ, Bool, ◌==◌}
use Rattle.agreement.specs.Records.{Sort, MONITOR, SUSPEND, RESUME, SETUP, CLOSE, YES, NO, FREE, BUSY-AGAIN, CONNECTED, FAILED, LET-GO}
use Rattle.requests.specs.declared.records.Phase.{Phase}
use Rattle.requests.specs.declared.records.Phase.TheVariants.{Asked, Invoked, Recalled, Parked, SettingUp, Closing}
use Rattle.terminating.specs.declared.office.Stage.{Stage}
use Rattle.terminating.specs.declared.office.Stage.TheVariants.{Waiting, Offered, Suspended, Ringing}

-- tests of equality on the enums, by their numbers
abbrev pub phase_code : Phase → ℕ
phase_code Asked = 0
phase_code Invoked = 1
phase_code Recalled = 2
phase_code Parked = 3
phase_code SettingUp = 4
phase_code Closing = 5

abbrev pub stage_code : Stage → ℕ
stage_code Waiting = 0
stage_code Offered = 1
stage_code Suspended = 2
stage_code Ringing = 3

abbrev pub sort_code : Sort → ℕ
sort_code MONITOR = 1
sort_code SUSPEND = 2
sort_code RESUME = 3
sort_code SETUP = 4
sort_code CLOSE = 5
sort_code YES = 8
sort_code NO = 9
sort_code FREE = 10
sort_code BUSY-AGAIN = 11
sort_code CONNECTED = 12
sort_code FAILED = 13
sort_code LET-GO = 14

abbrev pub phase_test : Phase → Phase → Bool
phase_test p q = phase_code p == phase_code q

abbrev pub stage_test : Stage → Stage → Bool
stage_test p q = stage_code p == stage_code q

abbrev pub sort_test : Sort → Sort → Bool
sort_test p q = sort_code p == sort_code q
