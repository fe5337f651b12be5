-- The number of each fault.
use Rattle.std.specs.Prelude.{ℕ}
use Rattle.bits.specs.declared.fault.Fault.{Fault}
use Rattle.bits.specs.declared.fault.Reason.{Reason}
use Rattle.bits.specs.declared.fault.Reason.TheVariants.{EndsInside, NotListed, LeftOver}

abbrev pub reason_number : Reason → ℕ
reason_number EndsInside = 13
reason_number NotListed = 14
reason_number LeftOver = 15

abbrev pub fault_number : Fault → ℕ
fault_number f = reason_number f.reason
