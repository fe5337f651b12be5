-- A message in fifteen bytes.
use Rattle.std.specs.Prelude.{◌≡◌, ℕ, List, [], ◌∷◌, replicate, Result, MatchResult, ◌≢◌}
use Rattle.fields.specs.declared.refusal.Refusal.{Refusal}
use Rattle.fields.specs.declared.refusal.Refusal.TheVariants.{OutsideField}
use Rattle.link.specs.declared.message.Message.{Message}
use Rattle.link.specs.Messages.{plain_of, listed, unlisted, message_of}
use Rattle.frame.specs.Layout.{packed, split}

-- kind, identifier, SSI and extension of the caller, those of the called party, priority, service, cause
abbrev pub layout : List ℕ
layout = 4 ∷ 3 ∷ 24 ∷ 24 ∷ 24 ∷ 24 ∷ 4 ∷ 8 ∷ 5 ∷ []

-- the fifteen bytes
abbrev pub octets : List ℕ
octets = replicate 15 8

abbrev pub frame_of : Message → List ℕ
frame_of m = split octets (packed layout (listed (plain_of m)))

abbrev pub read_of : List ℕ → Result Message Refusal
read_of bytes = message_of (unlisted (split layout (packed octets bytes)))

-- bytes are accepted as the frame that they are, and only what no message writes is refused
abbrev pub Framed : List ℕ → Result Message Refusal → Type 0
Framed bytes r = MatchResult r (λ m. frame_of m ≡ bytes) (λ e. (e ≡ OutsideField) × ((m : Message) → frame_of m ≢ bytes))
