-- A number of w bits at a place of the bits of a PDU.
use Rattle.std.specs.Prelude.{ℕ, ◌+◌, cond, List, length, take, drop, Some, Ok, Err, Result, nat_le}
use Rattle.std.specs.Int.Digits.{number_from_digits}
use Rattle.bits.specs.declared.fault.ElementName.{ElementName}
use Rattle.bits.specs.declared.fault.Fault.{Fault}
use Rattle.bits.specs.declared.fault.Layer.TheVariants.{Bits}
use Rattle.bits.specs.declared.fault.Reason.TheVariants.{EndsInside}

abbrev pub ends_inside : ElementName → ℕ → Fault
ends_inside e at = record { reason = EndsInside; layer = Bits; element = Some e; position = at }

unfoldable pub taken : ℕ → ElementName → List ℕ → ℕ → Result (ℕ × ℕ) Fault
taken w e all at = cond (nat_le (at + w) (length all)) (Ok (number_from_digits 2 (take w (drop at all)), at + w)) (Err (ends_inside e at))
