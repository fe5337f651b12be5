-- The words of a text as a source of elements, and the fields that are told.
use Rattle.std.specs.Prelude.{ℕ, Bool, true, false, not, List, [], ◌∷◌, Some, None, Ok, Err, Option, Result}
use Rattle.std.specs.List.{flat_map}
use Rattle.bits.specs.declared.fault.ElementName.{ElementName}
use Rattle.bits.specs.declared.fault.ElementName.TheVariants as name
use Rattle.field_text.specs.Fields.{Field, value_in, begins}
use Rattle.field_text.specs.declared.fault.TextFault.{TextFault}
use Rattle.field_text.specs.declared.fault.TextFault.TheVariants.{Unreadable, NotListed}
use Rattle.source.specs.Hearing.{Hearing}
use Rattle.source.specs.declared.told.Told.{Told}
use Rattle.source.specs.declared.told.Told.TheVariants.{Element, Present}

abbrev pub Words : Type 0
Words = List (List ℕ)

abbrev pub valued_or : Option ℕ → Words → Result (ℕ × Words) TextFault
valued_or None ws = Err Unreadable
valued_or (Some v) ws = Ok (v, ws)

-- the code that the first word tells, and the words after it
abbrev pub text_number : Words → ElementName → ℕ → Result (ℕ × Words) TextFault
text_number [] e width = Err Unreadable
text_number (w ∷ ws) e width = valued_or (value_in e width w) ws

-- whether a word is left
abbrev pub any_left : Words → Bool
any_left [] = false
any_left (w ∷ ws) = true

-- An optional element is the last, and present where a word is left. Only an acceptance begins with the identifier.
abbrev pub text_hearing : Hearing Words TextFault
text_hearing = record {
  number = text_number;
  unlisted = λ ws e. NotListed;
  present = λ ws. Ok (any_left ws, ws);
  rejects = λ ws. not (begins name.Ccbsi ws);
}

-- of an optional element that is left out nothing is told
abbrev pub fields_told : Told → List Field
fields_told (Element c) = (c.element, c.value) ∷ []
fields_told (Present b) = []

abbrev pub fields : List Told → List Field
fields ts = flat_map fields_told ts
