-- The two offices' tables and the two links, as lists; what belongs to one request.
use Rattle.std.specs.Prelude.{ℕ, Bool, true, false, ◌&&◌, List, [], ◌∷◌, ◌==◌, nat_lt}
use Rattle.requests.specs.Records.{is_live}
use Rattle.std.specs.List.{flat_map}
use Rattle.agreement.specs.History.{Event, openings, endings}
use Rattle.agreement.specs.Key.{Key, same, Opening}
use Rattle.agreement.specs.Records.{Retained, Request, Monitor, Message, Sort, MONITOR}
use Rattle.requests.specs.declared.records.Phase.{Phase}
use Rattle.terminating.specs.declared.office.Stage.{Stage}

abbrev pub only_if : {B : Type 0} → Bool → B → List B
only_if true x = x ∷ []
only_if false x = []

-- what belongs to the key k
abbrev pub phase_at : Key → Request → List Phase
phase_at k r = only_if (same r.key k) r.phase

abbrev pub number_at : Key → Request → List ℕ
number_at k r = only_if (same r.key k) r.number

abbrev pub stage_at : Key → Monitor → List Stage
stage_at k w = only_if (same w.key k) w.stage

abbrev pub sort_at : Key → Message → List Sort
sort_at k x = only_if (same x.key k) x.sort

abbrev pub is_monitor : Sort → Bool
is_monitor MONITOR = true
is_monitor _ = false

-- the key of a MONITOR
abbrev pub asked_key : Sort → Key → List Key
asked_key κ k = only_if (is_monitor κ) k

abbrev pub opening : Request → Opening
opening r = record { number = r.number; key = r.key }

abbrev pub live_one : Request → List Opening
live_one r = only_if (is_live r.phase) (opening r)

-- the request that a key belongs to
abbrev pub owner_at : Key → Request → List Request
owner_at k r = only_if (same r.key k) r

-- a caller's request under an identifier
abbrev pub held_at : ℕ → ℕ → Request → List Opening
held_at c i r = only_if (r.key.caller == c && r.key.identifier == i) (opening r)

abbrev pub caller_at : ℕ → Opening → List Opening
caller_at c o = only_if (o.key.caller == c) o

abbrev pub key_at : Key → Opening → List Opening
key_at k o = only_if (same o.key k) o

abbrev pub number_of : ℕ → Opening → List Opening
number_of n o = only_if (o.number == n) o

abbrev pub equal_to : ℕ → ℕ → List ℕ
equal_to n m = only_if (m == n) m

-- the two offices, the two links, and what was answered so far
pub record State : Type 0 where
  pub table : List Request
  pub monitors : List Monitor
  pub out : List Message
  pub back : List Message
  pub next : ℕ
  pub marked : ℕ → ℕ → Bool
  pub retained : List Retained
  pub now : ℕ
  pub history : List Event

abbrev pub lives : State → List Opening
lives s = flat_map live_one s.table

abbrev pub opened_in : State → List Opening
opened_in s = openings s.history

abbrev pub ended_in : State → List ℕ
ended_in s = endings s.history

-- a retained call that runs, by its caller and call identifier
abbrev pub running_at : ℕ → ℕ → ℕ → Retained → List ℕ
running_at now c d e = only_if (e.caller == c && e.call == d && nat_lt now e.until) e.called
