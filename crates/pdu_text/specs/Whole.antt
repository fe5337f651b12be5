-- The text of a whole PDU: its name, and the fields by its type.
use Rattle.std.specs.Prelude.{ℕ, List, [], ◌∷◌, ◌++◌, Some, None, Ok, Err, Option, Result}
use Rattle.element.specs.declared.listed.PduType.{PduType}
use Rattle.pdu.specs.Whole.{type_of, body_told, body}
use Rattle.pdu.specs.declared.pdus.Pdu.{Pdu}
use Rattle.field_text.specs.Fields.{Field, text_of}
use Rattle.field_text.specs.declared.fault.TextFault.{TextFault}
use Rattle.field_text.specs.declared.fault.TextFault.TheVariants.{Unreadable}
use Rattle.pdu_text.specs.Hearing.{Words, text_hearing, fields}
use Rattle.pdu_text.specs.Names.{pdu_name, pdu_named}

abbrev pub fields_of : Pdu → List Field
fields_of p = fields (body_told p)

abbrev pub pdu_text : Pdu → List ℕ
pdu_text p = pdu_name (type_of p) ++ text_of (fields_of p)

-- no word is left
abbrev pub ended : Result (Pdu × Words) TextFault → Result Pdu TextFault
ended (Ok (p, [])) = Ok p
ended (Ok (p, w ∷ ws)) = Err Unreadable
ended (Err e) = Err e

unfoldable pub body_heard : Option PduType → Words → Result Pdu TextFault
body_heard None ws = Err Unreadable
body_heard (Some t) ws = ended (body text_hearing t ws)

-- the PDU that words tell
abbrev pub pdu_heard : Words → Result Pdu TextFault
pdu_heard [] = Err Unreadable
pdu_heard (w ∷ ws) = body_heard (pdu_named w) ws
