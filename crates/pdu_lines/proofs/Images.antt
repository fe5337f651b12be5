-- What a buffer of 34 bytes holds of a PDU.
use Rattle.std.proofs.Common.{◌≡◌, ℕ, ◌≤◌, List, ◌++◌, length, take, drop, Ok, Result, refl, ap, ◌∙◌, arith}
use Rattle.std.proofs.lemmas.List.{take_at}
use Rattle.std.proofs.lemmas.Bool.{cond-true, le-leb}
use Rattle.std.specs.Result.{IsOk}
use Rattle.fields.specs.declared.refusal.Refusal.{Refusal}
use Rattle.bits.specs.Bits.{bytes_for, pack}
use Rattle.bits.specs.Buffers.{put_out}
use Rattle.bits.proofs.PackLaws.{length-pack}
use Rattle.pdu.specs.Bytes.{image_of}
use Rattle.pdu.specs.Bits.{bits_of_pdu}
use Rattle.pdu.specs.declared.pdus.Pdu.{Pdu}
use Rattle.pdu.proofs.Sizes.{sizes}

pub put : (p : Pdu) (r : Result ℕ Refusal) (before after : List ℕ) → length before ≡ 34 → ◌≡◌ {A = Result ℕ Refusal × List ℕ} (r, after) (put_out (bits_of_pdu p) before) →
    let bits = bits_of_pdu p in let k = bytes_for (length bits) in ◌≡◌ {A = Result ℕ Refusal × List ℕ} (r, after) (Ok (length bits), pack k bits ++ drop k before)
put p r before after long h =
    let bits = bits_of_pdu p in
    let k = bytes_for (length bits) in
    let small = sizes p in
    let room : k ≤ length before = omega arith in
    h ∙ cond-true _ _ _ (le-leb k (length before) room)

-- a PDU has room in it
pub fits : (p : Pdu) (r : Result ℕ Refusal) (before after : List ℕ) → length before ≡ 34 → ◌≡◌ {A = Result ℕ Refusal × List ℕ} (r, after) (put_out (bits_of_pdu p) before) → IsOk r
fits p r before after long h = rw (ap (λ q. q.0) (put p r before after long h)) refl
