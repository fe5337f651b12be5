-- The number of what is wrong with a text.
use Rattle.std.specs.Prelude.{ℕ}
use Rattle.field_text.specs.declared.fault.TextFault.{TextFault}
use Rattle.field_text.specs.declared.fault.TextFault.TheVariants.{Unreadable, NotListed}

abbrev pub text_fault_number : TextFault → ℕ
text_fault_number Unreadable = 1
text_fault_number NotListed = 14
