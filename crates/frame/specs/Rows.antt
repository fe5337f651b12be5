-- Frames one after the other in bytes.
use Rattle.std.specs.Prelude.{◌≡◌, ℕ, ◌*◌, ◌/◌, List, ◌++◌, length, take, drop, Result}
use Rattle.fields.specs.declared.refusal.Refusal.{Refusal}
use Rattle.link.specs.declared.message.Message.{Message}
use Rattle.frame.specs.Frames.{frame_of, read_of}

-- what frame i reads as
abbrev pub read_at : List ℕ → ℕ → Result Message Refusal
read_at bytes i = read_of (take 15 (drop (15 * i) bytes))

-- the bytes with the message's frame in place p
abbrev pub written : List ℕ → ℕ → Message → List ℕ
written bytes p m = take (15 * p) bytes ++ (frame_of m ++ drop 15 (drop (15 * p) bytes))

-- the bytes after the last whole frame
abbrev pub unused_of : List ℕ → List ℕ
unused_of bytes = drop (15 * (length bytes / 15)) bytes

-- the frame is written in its place, and the bytes after the last whole frame stay
pub record Writes (old : List ℕ) (p : ℕ) (m : Message) (new : List ℕ) : Type 0 where
  pub bytes : new ≡ written old p m
  pub rest : unused_of new ≡ unused_of old
