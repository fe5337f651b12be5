-- What a line asks for, and what is answered.
use Rattle.std.specs.Prelude.{ℕ, cond, List, [], ◌∷◌, ◌++◌, drop, Some, None, Ok, Err, codes, decimal, Option, Result}
use Rattle.std.specs.Str.{bytes_eq}
use Rattle.fields.specs.declared.refusal.Refusal.{Refusal}
use Rattle.fields.specs.declared.refusal.Refusal.TheVariants.{OutsideField}
use Rattle.fields.specs.Refusals.{refusal_number}
use Rattle.link.specs.declared.message.Message.{Message}
use Rattle.link.specs.Messages.{plain_of, listed, unlisted, after, message_of}
use Rattle.frame.specs.Frames.{frame_of, read_of}
use Rattle.text.specs.Hex.{hex_array, hex_of}
use Rattle.text.specs.Numbers.{numbers_of, spaced_of}
use Rattle.text.specs.Words.{words}
use Rattle.frame_lines.specs.Names.{kind_name, kind_named}
use Rattle.frame_lines.specs.declared.lines.Line.{Line}
use Rattle.frame_lines.specs.declared.lines.Line.TheVariants.{Decode, Encode}
use Rattle.frame_lines.specs.declared.reply.Reply.{Reply}
use Rattle.frame_lines.specs.declared.reply.Reply.TheVariants.{Decoded, Encoded}

abbrev pub decode_by : Option (List ℕ) → Result Line Refusal
decode_by None = Err OutsideField
decode_by (Some bytes) = Ok (Decode bytes)

-- one word, a frame of thirty hex digits
abbrev pub decode_of : List (List ℕ) → Result Line Refusal
decode_of [] = Err OutsideField
decode_of (word ∷ []) = decode_by (hex_array 15 word)
decode_of (word ∷ other ∷ more) = Err OutsideField

abbrev pub encode_by : Option ℕ → Option (List ℕ) → Result Line Refusal
encode_by None numbers = Err OutsideField
encode_by (Some kind) None = Err OutsideField
encode_by (Some kind) (Some numbers) = Ok (Encode (unlisted (kind ∷ numbers)))

-- the name of a kind and eight numbers
abbrev pub encode_of : List (List ℕ) → Result Line Refusal
encode_of [] = Err OutsideField
encode_of (word ∷ rest) = encode_by (kind_named word) (numbers_of 8 rest)

-- what the words of a line ask for
abbrev pub line_of : List (List ℕ) → Result Line Refusal
line_of [] = Err OutsideField
line_of (word ∷ rest) =
    cond (bytes_eq word (codes "d")) (decode_of rest) (cond (bytes_eq word (codes "e")) (encode_of rest) (Err OutsideField))

abbrev pub encoded_by : Result Message Refusal → Result Reply Refusal
encoded_by (Ok m) = Ok (Encoded (frame_of m))
encoded_by (Err e) = Err e

abbrev pub decoded_by : Result Message Refusal → Result Reply Refusal
decoded_by (Ok m) = Ok (Decoded m)
decoded_by (Err e) = Err e

-- what a line that is read is answered with
abbrev pub reply_to : Line → Result Reply Refusal
reply_to (Decode bytes) = decoded_by (read_of bytes)
reply_to (Encode plain) = encoded_by (message_of plain)

-- what the words of a line are answered with
abbrev pub reply_of : List (List ℕ) → Result Reply Refusal
reply_of ws = after (line_of ws) reply_to

-- a message's kind by name and its other fields by number
abbrev pub message_text : Message → List ℕ
message_text m = kind_name m.kind ++ spaced_of (drop 1 (listed (plain_of m)))

-- 0 and the reply, or the refusal's number
abbrev pub reply_text : Result Reply Refusal → List ℕ
reply_text (Ok (Decoded m)) = codes "0 " ++ message_text m
reply_text (Ok (Encoded bytes)) = codes "0 " ++ hex_of bytes
reply_text (Err e) = decimal (refusal_number e)

abbrev pub answer_of : List ℕ → List ℕ
answer_of line = reply_text (reply_of (words line))
