use Rattle.std.proofs.Common.{string_bytes, take}
use Rattle.field_text.specs.Fields.{Tells}
use Rattle.pdu_text.specs.Hearing.{fields}
use Rattle.pdu_text_writing.proofs.told_fields.write_fields.Given as goal

abbrev pub invariant-loop-one : goal.invariant-loop-one
invariant-loop-one l = Tells (string_bytes l.initial.text) (fields (take l.one-index l.told)) (string_bytes l.text)
