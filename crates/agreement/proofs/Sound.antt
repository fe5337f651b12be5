-- What holds after each call: the invariant of the two offices and the two links.
use Rattle.std.proofs.Common.{◌≡◌, ℕ, ◌+◌, ◌<◌, ◌≤◌, List, [], ◌∷◌, ◌++◌, length, ◌∙◌, ap₂}
use Rattle.std.specs.List.{flat_map}
use Rattle.std.proofs.lemmas.List.Concat.{flat_map-append}
use Rattle.agreement.specs.Key.{Key, same}
use Rattle.agreement.specs.State.{is_monitor, State, lives, opened_in, ended_in, number_at, number_of, equal_to, held_at, caller_at, asked_key, sort_at, stage_at}
use Rattle.agreement.specs.Records.{Monitor, Message}
use Rattle.agreement.proofs.Parts.{Rows}
use Rattle.agreement.proofs.Order.{Numbers, Asc, same_at}
use Rattle.agreement.proofs.Pieces.{flat_map-flat_map, flat_map_none}
use Rattle.agreement.proofs.Keys.{count, only_none, flat_map-only, not-given}
use Rattle.agreement.specs.Agreement.{Line}

abbrev pub num : State → Numbers
num s k = flat_map (number_at k) s.table

abbrev pub monitor-one : Monitor → List Key
monitor-one w = w.key ∷ []

abbrev pub asked-one : Message → List Key
asked-one x = asked_key x.sort x.key

-- the monitors in order of arrival, and behind them those asked for
abbrev pub queue : State → List Key
queue s = flat_map monitor-one s.monitors ++ flat_map asked-one s.out

pub record Sound (s : State) : Type 0 where
  pub rows : Rows s
  pub order : Asc (num s) 0 (queue s)
  pub below : (k : Key) (n : ℕ) → num s k ≡ n ∷ [] → n < s.next
  pub held : (c i : ℕ) → length (flat_map (held_at c i) s.table) ≡ count (s.marked c i)
  pub five : (c : ℕ) → length (flat_map (caller_at c) (lives s)) ≤ 5
  pub ledger : (n : ℕ) → Line (flat_map (number_of n) (opened_in s)) (flat_map (number_of n) (lives s)) (flat_map (equal_to n) (ended_in s))
  pub fresh : (n : ℕ) → s.next ≤ n → flat_map (number_of n) (opened_in s) ≡ []
  pub total : length (opened_in s) ≡ length (lives s) + length (ended_in s)

-- a key of which no monitor stands and no message is out is not in the queue
pub absent : (s : State) (k : Key) → flat_map (sort_at k) s.out ≡ [] → flat_map (stage_at k) s.monitors ≡ [] → flat_map (same_at k) (queue s) ≡ []
absent s k o m =
    flat_map-append (same_at k) (flat_map monitor-one s.monitors) (flat_map asked-one s.out)
    ∙ ap₂ (λ a b. a ++ b)
    (flat_map-flat_map monitor-one (same_at k) s.monitors ∙ flat_map_none (stage_at k) (λ w. flat_map (same_at k) (monitor-one w)) watch s.monitors m)
    (flat_map-flat_map asked-one (same_at k) s.out ∙ flat_map_none (sort_at k) (λ x. flat_map (same_at k) (asked-one x)) message s.out o)
  where
    watch : (w : Monitor) → stage_at k w ≡ [] → flat_map (same_at k) (monitor-one w) ≡ []
    watch w e = rw (only_none (same w.key k) w.stage e)

    message : (x : Message) → sort_at k x ≡ [] → flat_map (same_at k) (asked-one x) ≡ []
    message x e = flat_map-only (same_at k) (is_monitor x.sort) x.key (not-given (same x.key k) x.key (only_none (same x.key k) x.sort e))
