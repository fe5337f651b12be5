-- A PDU in bytes.
use Rattle.std.specs.Prelude.{ℕ, ◌+◌, cond, List, [], ◌∷◌, length, drop, Some, None, Ok, Err, Option, Result, ◌==◌}
use Rattle.bits.specs.Bits.{unpack, bits_of, bytes_for, pack}
use Rattle.bits.specs.declared.fault.Fault.{Fault}
use Rattle.bits.specs.declared.fault.Layer.TheVariants as layer
use Rattle.bits.specs.declared.fault.Reason.TheVariants.{EndsInside, LeftOver}
use Rattle.pdu.specs.Bits.{bits_of_pdu, reading}
use Rattle.pdu.specs.declared.pdus.Pdu.{Pdu}

-- the bytes are not as many as the count of bits needs
abbrev pub miscounted : ℕ → Fault
miscounted n = record { reason = EndsInside; layer = layer.Pdu; element = None; position = n }

abbrev pub left_over : ℕ → Fault
left_over at = record { reason = LeftOver; layer = layer.Pdu; element = None; position = at }

-- the place of the first bit that is 1, the first bit being at `at`
unfoldable pub first_one : ℕ → List ℕ → Option ℕ
first_one at [] = None
first_one at (b ∷ bs) = cond (b == 0) (first_one (at + 1) bs) (Some at)

abbrev pub padded : Pdu → Option ℕ → Result Pdu Fault
padded p None = Ok p
padded p (Some at) = Err (left_over at)

abbrev pub closed : List ℕ → ℕ → Result (Pdu × ℕ) Fault → Result Pdu Fault
closed bytes n (Ok q) = cond (q.1 == n) (padded q.0 (first_one n (drop n (unpack bytes)))) (Err (left_over q.1))
closed bytes n (Err e) = Err e

-- what the bytes are read as, of which n bits count
abbrev pub decode : List ℕ → ℕ → Result Pdu Fault
decode bytes n = cond (length bytes == bytes_for n) (closed bytes n (reading (bits_of bytes n))) (Err (miscounted n))

-- the bytes and the count of bits that a PDU is written as
abbrev pub bit_count : Pdu → ℕ
bit_count p = length (bits_of_pdu p)

abbrev pub image_of : Pdu → List ℕ × ℕ
image_of p = (pack (bytes_for (bit_count p)) (bits_of_pdu p), bit_count p)
