-- What the calls of a link answer and leave.
use Rattle.std.specs.Prelude.{ℕ, ◌≤◌, Bool, cond, ◌&&◌, List, [], ◌∷◌, ◌++◌, length, Ok, Err, Result, nat_le}
use Rattle.fields.specs.declared.refusal.Refusal.{Refusal}
use Rattle.fields.specs.declared.refusal.Refusal.TheVariants.{LinkFull, NothingThere}
use Rattle.link.specs.declared.message.Message.{Message}

-- how many messages a link has room for, and those that wait, oldest first
pub record Queue : Type 0 where
  pub capacity : ℕ
  pub waiting : List Message

-- a link has room for 1 to 4,096 messages, and never more wait than it has room for
abbrev pub Bounded : ℕ → List Message → Type 0
Bounded c ms = (1 ≤ c) × (c ≤ 4096) × (length ms ≤ c)

-- a capacity that a link may have
abbrev pub allowed : ℕ → Bool
allowed c = nat_le 1 c && nat_le c 4096

-- the list is as long as the capacity
abbrev pub full : ℕ → List Message → Bool
full c ms = nat_le c (length ms)

abbrev pub send_answer : ℕ → List Message → Result (Unit {0}) Refusal
send_answer c ms = cond (full c ms) (Err LinkFull) (Ok tt)

abbrev pub send_list : ℕ → List Message → Message → List Message
send_list c ms m = cond (full c ms) ms (ms ++ m ∷ [])

abbrev pub first_answer : List Message → Result Message Refusal
first_answer [] = Err NothingThere
first_answer (m ∷ ms) = Ok m

abbrev pub take_list : List Message → List Message
take_list [] = []
take_list (m ∷ ms) = ms

-- the queue once the message is sent
abbrev pub sent : Queue → Message → Queue
sent q m = record q { waiting = send_list q.capacity q.waiting m }

-- the queue once the oldest message is taken
abbrev pub taken : Queue → Queue
taken q = record q { waiting = take_list q.waiting }
