use Rattle.std.proofs.Common.{◌≡◌, ap, ◌∙◌, rules, length, ◌/◌}
use Rattle.std.proofs.Math.Seq.{take-append_seam}
use Rattle.std.specs.Result.{result_ok}
use Rattle.hex.specs.Hex.{decode_sized}
use Rattle.text.proofs.Pairs.{halved, decoded, refused, none-known}
use Rattle.text.proofs.hexadecimal.hex_bytes.Goals as goal

pub returns-in-Ok : goal.returns-in-Ok
returns-in-Ok c =
    let word = c.args.word.now in
    let out = c.decode_to_slice.new.out in
    let room : length c.as_mut_slice.result.now ≡ length word / 2 = search rules in
    let filled : c.in_ok-bytes.bytes.len ≡ length out = search rules in
    rw (filled, take-append_seam) (decoded _ out c.in-Ok.ensures.value ∙ ap (λ n. result_ok (decode_sized word n)) room ∙ halved word)

pub returns-in-Err : goal.returns-in-Err
returns-in-Err c =
    let word = c.args.word.now in
    let room : length c.as_mut_slice.result.now ≡ length word / 2 = search rules in
    refused _ c.in-Err.field-0 c.decode_to_slice.new.out c.in-Err.ensures.value ∙ ap (λ n. result_ok (decode_sized word n)) room ∙ halved word

pub returns-then-not-is_hex : goal.returns-then-not-is_hex
returns-then-not-is_hex c = none-known _ (search rules)
