-- The PDU that a line holds, and what is answered.
use Rattle.std.specs.Prelude.{◌≡◌, ℕ, cond, List, [], ◌∷◌, ◌++◌, Some, None, Ok, Err, codes, decimal, Option, Result}
use Rattle.std.specs.Bool.{⊤}
use Rattle.std.specs.Str.{bytes_eq}
use Rattle.bits.specs.Faults.{fault_number}
use Rattle.bits.specs.declared.fault.ElementName.{ElementName}
use Rattle.bits.specs.declared.fault.Fault.{Fault}
use Rattle.bits.specs.declared.fault.Layer.{Layer}
use Rattle.bits.specs.declared.fault.Layer.TheVariants as layers
use Rattle.pdu.specs.Bytes.{decode, image_of}
use Rattle.pdu.specs.declared.pdus.Pdu.{Pdu}
use Rattle.text.specs.Hex.{hex_bytes, hex_of}
use Rattle.text.specs.Numbers.{number_of}
use Rattle.text.specs.Words.{words}
use Rattle.field_text.specs.Faults.{text_fault_number}
use Rattle.field_text.specs.Names.{field_name}
use Rattle.field_text.specs.declared.fault.TextFault.{TextFault}
use Rattle.field_text.specs.declared.fault.TextFault.TheVariants.{Unreadable}
use Rattle.pdu_text.specs.Whole.{pdu_text, pdu_heard}
use Rattle.pdu_lines.specs.declared.lines.Line.{Line}
use Rattle.pdu_lines.specs.declared.lines.Line.TheVariants as lines
use Rattle.pdu_lines.specs.declared.lines.LineError.{LineError}
use Rattle.pdu_lines.specs.declared.lines.LineError.TheVariants as errors
use Rattle.pdu_lines.specs.declared.lines.LineFault.{LineFault}
use Rattle.pdu_lines.specs.declared.lines.LineFault.TheVariants as faults

abbrev pub unreadable : Result Line LineFault
unreadable = Err (faults.Text Unreadable)

abbrev pub from_bits : Result Pdu Fault → Result Line LineFault
from_bits (Ok p) = Ok (lines.Bits p)
from_bits (Err e) = Err (faults.Bits e)

abbrev pub from_text : Result Pdu TextFault → Result Line LineFault
from_text (Ok p) = Ok (lines.Text p)
from_text (Err e) = Err (faults.Text e)

-- the bytes of a word of hex digits; a dash is no bytes
abbrev pub bytes_word : List ℕ → Option (List ℕ)
bytes_word word = cond (bytes_eq word (codes "-")) (Some []) (hex_bytes word)

abbrev pub bits_by : Option (List ℕ) → Option ℕ → Result Line LineFault
bits_by None count = unreadable
bits_by (Some bytes) None = unreadable
bits_by (Some bytes) (Some count) = from_bits (decode bytes count)

-- two words, bytes and a count of bits
abbrev pub bits_line : List (List ℕ) → Result Line LineFault
bits_line [] = unreadable
bits_line (word ∷ []) = unreadable
bits_line (word ∷ count ∷ []) = bits_by (bytes_word word) (number_of count)
bits_line (word ∷ count ∷ other ∷ more) = unreadable

-- the PDU that the words of a line hold
abbrev pub line_of : List (List ℕ) → Result Line LineFault
line_of [] = unreadable
line_of (word ∷ rest) =
    cond (bytes_eq word (codes "d")) (bits_line rest) (cond (bytes_eq word (codes "e")) (from_text (pdu_heard rest)) unreadable)

-- what reading says of the line that is to be read: nothing where memory ran out
abbrev pub Reads : Result Line LineError → Result Line LineFault → Type 0
Reads (Ok line) wanted = wanted ≡ Ok line
Reads (Err (errors.Fault e)) wanted = wanted ≡ Err e
Reads (Err (errors.OutOfMemory e)) wanted = ⊤

abbrev pub layer_name : Layer → List ℕ
layer_name layers.Bits = codes "bits"
layer_name layers.Element = codes "element"
layer_name layers.Pdu = codes "PDU"

abbrev pub element_name : Option ElementName → List ℕ
element_name None = codes "-"
element_name (Some e) = field_name e

-- number, layer, element and bit, a space between them
abbrev pub fault_text : Fault → List ℕ
fault_text f = decimal (fault_number f) ++ (32 ∷ (layer_name f.layer ++ (32 ∷ (element_name f.element ++ (32 ∷ decimal f.position)))))

abbrev pub line_fault_text : LineFault → List ℕ
line_fault_text (faults.Bits e) = fault_text e
line_fault_text (faults.Text e) = decimal (text_fault_number e)

-- bytes in hex, a space and the count of bits
abbrev pub image_text : List ℕ × ℕ → List ℕ
image_text i = hex_of i.0 ++ (32 ∷ decimal i.1)

-- 0 and the PDU in the other form, or what is wrong
abbrev pub reply_text : Result Line LineFault → List ℕ
reply_text (Ok (lines.Bits p)) = codes "0 " ++ pdu_text p
reply_text (Ok (lines.Text p)) = codes "0 " ++ image_text (image_of p)
reply_text (Err e) = line_fault_text e

abbrev pub answer_of : List ℕ → List ℕ
answer_of line = reply_text (line_of (words line))
