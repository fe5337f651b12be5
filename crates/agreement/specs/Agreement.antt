-- That the two offices agree, after any calls.
use Rattle.std.specs.Prelude.{◌≡◌, ℕ, ◌+◌, ◌<◌, ◌≤◌, List, [], ◌∷◌, ◌++◌, length}
use Rattle.std.specs.List.{flat_map}
use Rattle.agreement.specs.Key.{Key, Opening}
use Rattle.agreement.specs.State.{State, lives, opened_in, ended_in, owner_at, held_at, caller_at, key_at, number_of, equal_to, stage_at}
use Rattle.agreement.specs.Shapes.{Reached}
use Rattle.agreement.specs.Records.{Request, Monitor, Message}

-- what was opened under a number, what is live under it, and how often it ended
pub data Line : List Opening → List Opening → List ℕ → Type 0 where
  never : Line [] [] []
  running : (x : Opening) → Line (x ∷ []) (x ∷ []) []
  over : (x : Opening) (n : ℕ) → Line (x ∷ []) [] (n ∷ [])

-- exactly one request of the table has the key
abbrev pub Owned : State → Key → Type 0
Owned s k = (r : Request) × (flat_map (owner_at k) s.table ≡ r ∷ [])

pub record Agreed (s : State) : Type 0 where
  -- each number was never opened; or opened once, and is live as opened; or opened once, is not live, and ended once
  pub accounts : (n : ℕ) → Line (flat_map (number_of n) (opened_in s)) (flat_map (number_of n) (lives s)) (flat_map (equal_to n) (ended_in s))
  pub total : length (opened_in s) ≡ length (lives s) + length (ended_in s)
  -- each monitor and each message belongs to exactly one request
  pub monitor_owned : (pre : List Monitor) (w : Monitor) (post : List Monitor) → s.monitors ≡ pre ++ (w ∷ post) → Owned s w.key
  pub out_owned : (pre : List Message) (x : Message) (post : List Message) → s.out ≡ pre ++ (x ∷ post) → Owned s x.key
  pub back_owned : (pre : List Message) (x : Message) (post : List Message) → s.back ≡ pre ++ (x ∷ post) → Owned s x.key
  pub one_each : (c i : ℕ) → length (flat_map (held_at c i) s.table) ≤ 1
  pub five : (c : ℕ) → length (flat_map (caller_at c) (lives s)) ≤ 5
  -- while both links are empty, a key has a monitor exactly if a live request has it, and then one
  pub settled : s.out ≡ [] → s.back ≡ [] → (k : Key) → (length (flat_map (stage_at k) s.monitors) ≡ length (flat_map (key_at k) (lives s))) × (length (flat_map (stage_at k) s.monitors) ≤ 1)
  -- of two monitors, the earlier is of the request with the smaller number
  pub in_order : (pre : List Monitor) (w : Monitor) (mid : List Monitor) (v : Monitor) (post : List Monitor) → s.monitors ≡ pre ++ (w ∷ (mid ++ (v ∷ post)))
      → (q r : Request) → flat_map (owner_at w.key) s.table ≡ q ∷ [] → flat_map (owner_at v.key) s.table ≡ r ∷ [] → q.number < r.number

abbrev pub Kept : Type 0
Kept = (s : State) → Reached s → Agreed s
