-- The number of each refusal.
use Rattle.std.specs.Prelude.{ℕ}
use Rattle.fields.specs.declared.refusal.Refusal.{Refusal}
use Rattle.fields.specs.declared.refusal.Refusal.TheVariants.{OutsideField, UnknownParty, NotRetained, LimitReached, TableFull, IdentifiersHeld, NotAllowed, LinkFull, NothingThere, PartyBusy, ClockOutOfRange, NumbersUsedUp, TooLittleRoom, SettingNotAllowed, NoMemory}

abbrev pub refusal_number : Refusal → ℕ
refusal_number OutsideField = 1
refusal_number UnknownParty = 2
refusal_number NotRetained = 3
refusal_number LimitReached = 4
refusal_number TableFull = 5
refusal_number IdentifiersHeld = 6
refusal_number NotAllowed = 7
refusal_number LinkFull = 8
refusal_number NothingThere = 9
refusal_number PartyBusy = 10
refusal_number ClockOutOfRange = 11
refusal_number NumbersUsedUp = 12
refusal_number TooLittleRoom = 16
refusal_number SettingNotAllowed = 17
refusal_number NoMemory = 23
