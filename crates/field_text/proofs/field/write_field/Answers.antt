use Rattle.std.proofs.Common.{◌∷◌, ◌++◌, string_bytes, decimal, sym, ap, ◌∙◌}
use Rattle.std.proofs.lemmas.Result.{on_ok_weaker}
use Rattle.field_text.proofs.FieldLaws.{one_told}
use Rattle.field_text.proofs.field.write_field.Goals as goal

pub returns : goal.returns
returns c =
    let named = ap (λ n. 32 ∷ (n ++ (61 ∷ decimal c.args.code))) c.field_name-name.ensures in
    on_ok_weaker c.write.result (λ is. record { is = is ∙ ap (λ t. string_bytes c.args.text.now ++ t) (named ∙ sym (one_told c.args.element c.args.code)) }) c.write.ensures.bytes
