-- The tests on the office's records, and what becomes of them.
use Rattle.std.specs.Prelude.{ℕ, Bool, true, false, not, ◌&&◌, ◌||◌, ◌==◌, nat_le, nat_lt}
use Rattle.fields.specs.declared.key.Key.{Key}
use Rattle.fields.specs.Keys.{same_key}
use Rattle.fields.specs.Values.{CallIdentifier, Identifier, Identity, Service}
use Rattle.marks.specs.Marks.{hold, release}
use Rattle.requests.specs.declared.records.Phase.{Phase}
use Rattle.requests.specs.declared.records.Phase.TheVariants.{Asked, Recalled, Parked, SettingUp, Closing}
use Rattle.requests.specs.declared.records.Request.{Request}
use Rattle.requests.specs.declared.records.RetainedCall.{RetainedCall}
use Rattle.requests.specs.declared.records.Subscriber.{Subscriber}

abbrev pub is_asked : Phase → Bool
is_asked Asked = true
is_asked _ = false

abbrev pub is_recalled : Phase → Bool
is_recalled Recalled = true
is_recalled _ = false

abbrev pub is_parked : Phase → Bool
is_parked Parked = true
is_parked _ = false

abbrev pub is_live : Phase → Bool
is_live Closing = false
is_live _ = true

-- the request can be ended by its caller, or by the time
abbrev pub can_end : Phase → Bool
can_end SettingUp = false
can_end Closing = false
can_end _ = true

abbrev pub is_subscriber : Identity → Subscriber → Bool
is_subscriber n x = x.identity.bits == n.bits

-- the retained call still runs
abbrev pub runs : ℕ → RetainedCall → Bool
runs time x = nat_lt time x.until

abbrev pub has_run_out : ℕ → RetainedCall → Bool
has_run_out time x = not (runs time x)

-- the caller's running retained call of that call identifier
abbrev pub runs_as : ℕ → Identity → CallIdentifier → RetainedCall → Bool
runs_as time n i x = x.caller.bits == n.bits && (x.identifier.bits == i.bits && runs time x)

abbrev pub has_key : Key → Request → Bool
has_key k r = same_key r.key k

abbrev pub is_of : Identity → Request → Bool
is_of n r = r.key.caller.bits == n.bits

abbrev pub is_named : Identity → Identifier → Request → Bool
is_named n i r = is_of n r && r.key.identifier.bits == i.bits

abbrev pub is_living : Request → Bool
is_living r = is_live r.phase

-- a live request that a call of n to that party for that service joins
abbrev pub is_joined : Identity → Identity → Service → Request → Bool
is_joined n called service r =
    is_of n r && (r.key.called.bits == called.bits && (r.call.service.bits == service.bits && is_living r))

abbrev pub is_parked_of : Identity → Request → Bool
is_parked_of n r = is_of n r && is_parked r.phase

-- its time is over
abbrev pub is_over : ℕ → Request → Bool
is_over time r = nat_le r.deadlines.service time || (is_recalled r.phase && nat_le r.deadlines.recall time)

abbrev pub is_due : ℕ → Request → Bool
is_due time r = can_end r.phase && is_over time r

-- a live request of the caller that the other office took, with a number above the last
abbrev pub is_listed : Identity → ℕ → Request → Bool
is_listed n last r = is_of n r && (is_living r && (not (is_asked r.phase) && nat_lt last r.number))

abbrev pub at_phase : Phase → Request → Request
at_phase at r = record {
  number = r.number;
  key = r.key;
  call = r.call;
  phase = at;
  deadlines = r.deadlines;
}

-- the caller is recalled until the deadline
abbrev pub recalled_until : ℕ → Request → Request
recalled_until deadline r = record {
  number = r.number;
  key = r.key;
  call = r.call;
  phase = Recalled;
  deadlines = record { service = r.deadlines.service; recall = deadline };
}

abbrev pub served_until : ℕ → Request → Request
served_until deadline r = record {
  number = r.number;
  key = r.key;
  call = r.call;
  phase = r.phase;
  deadlines = record { service = deadline; recall = r.deadlines.recall };
}

abbrev pub marked : Bool → Subscriber → Subscriber
marked busy x = record { identity = x.identity; busy = busy; marks = x.marks; last = x.last }

-- the identifier is issued to the subscriber, who holds it
abbrev pub issued : Identifier → Subscriber → Subscriber
issued i x = record { identity = x.identity; busy = x.busy; marks = hold x.marks i; last = i }

abbrev pub freed : Identifier → Subscriber → Subscriber
freed i x = record { identity = x.identity; busy = x.busy; marks = release x.marks i; last = x.last }
