use Rattle.std.proofs.Common.{string_bytes}
use Rattle.field_text.proofs.FieldLaws.{told, none_told}
use Rattle.pdu_text.specs.Hearing.{fields_told}
use Rattle.pdu_telling.proofs.Turns.{one_more}
use Rattle.pdu_text_writing.proofs.told_fields.write_fields.Goals as goal

pub loop-one-init : goal.loop-one-init
loop-one-init c = none_told (string_bytes c.args.text.now)

pub loop-one-preserved : goal.loop-one-preserved
loop-one-preserved c =
    rw (one_more fields_told c.args.told.now c.loop-one.one-index c.one-item.result c.loop-one-test.true c.one-item.is)
    (told c.loop-one.invariant c.in_ok-write_told.ensures)
