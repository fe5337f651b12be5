-- What each call does to the two offices and the two links.
use Rattle.std.specs.Prelude.{◌≡◌, ℕ, suc, ◌<◌, ◌≤◌, Bool, true, false, cond, not, ◌&&◌, ◌||◌, List, [], ◌∷◌, ◌++◌, length, ◌==◌}
use Rattle.requests.specs.Records.{can_end, is_live}
use Rattle.std.specs.List.{flat_map}
use Rattle.agreement.specs.Key.{Key}
use Rattle.agreement.specs.State.{State, opening, lives, phase_at, stage_at, caller_at, running_at}
use Rattle.agreement.specs.History.{Event, retained, opened, ended, other, last_retained, openings, endings}
use Rattle.agreement.specs.Records.{Retained, Request, Monitor, Message, Sort, MONITOR, SUSPEND, RESUME, SETUP, CLOSE, YES, NO, FREE, BUSY-AGAIN, CONNECTED, FAILED, LET-GO}
use Rattle.requests.specs.declared.records.Phase.{Phase}
use Rattle.requests.specs.declared.records.Phase.TheVariants.{Asked, Invoked, Recalled, Parked, SettingUp, Closing}
use Rattle.terminating.specs.declared.office.Stage.{Stage}
use Rattle.terminating.specs.declared.office.Stage.TheVariants.{Waiting, Offered, Suspended, Ringing}

-- what is left of a record, and what is sent
pub record Reaction (A : Type 0) : Type 0 where
  pub left : List A
  pub sends : List Sort

abbrev pub does : {A : Type 0} → List A → List Sort → Reaction A
does a s = record { left = a; sends = s }

-- the originating hear, by phase and sort together: the caller is free or not; all else is dropped
abbrev pub heard : Bool → Phase → Sort → Reaction Phase
heard free Asked YES = does (Invoked ∷ []) []
heard free Asked NO = does (Closing ∷ []) (CLOSE ∷ [])
heard free Invoked FREE = cond free (does (Recalled ∷ []) []) (does (Parked ∷ []) (SUSPEND ∷ []))
heard free SettingUp BUSY-AGAIN = does (Invoked ∷ []) []
heard free SettingUp CONNECTED = does (Closing ∷ []) (CLOSE ∷ [])
heard free SettingUp FAILED = does (Closing ∷ []) (CLOSE ∷ [])
heard free Closing LET-GO = does [] []
heard free p _ = does (p ∷ []) []

-- the terminating hear: `ok` says that a MONITOR is stored and answered YES, or that the line of a SETUP is free
abbrev pub stood : Bool → List Stage → Sort → Reaction Stage
stood ok [] MONITOR = cond ok (does (Waiting ∷ []) (YES ∷ [])) (does [] (NO ∷ []))
stood ok [] CLOSE = does [] (LET-GO ∷ [])
stood ok [] _ = does [] []
stood ok (Offered ∷ ms) SUSPEND = does (Suspended ∷ []) []
stood ok (Suspended ∷ ms) RESUME = does (Waiting ∷ []) []
stood ok (Offered ∷ ms) SETUP = cond ok (does (Ringing ∷ []) []) (does (Waiting ∷ []) (BUSY-AGAIN ∷ []))
stood ok (m ∷ ms) CLOSE = does [] (LET-GO ∷ [])
stood ok (m ∷ ms) _ = does (m ∷ []) []

-- messages about k, of these sorts
pub data Sent (k : Key) : List Sort → List Message → Type 0 where
  none : Sent k [] []
  one : (x : Message) (κ : Sort) → x.key ≡ k → x.sort ≡ κ → Sent k (κ ∷ []) (x ∷ [])

-- what is left of a request: nothing, or a request that opened as it did
pub data Left (r : Request) : List Request → List Phase → Type 0 where
  freed : Left r [] []
  stays : (r' : Request) (p : Phase) → opening r' ≡ opening r → r'.phase ≡ p → Left r (r' ∷ []) (p ∷ [])

-- what is left of a monitor
pub data Stays (k : Key) : List Monitor → List Stage → Type 0 where
  erased : Stays k [] []
  stands : (w : Monitor) (m : Stage) → w.key ≡ k → w.stage ≡ m → Stays k (w ∷ []) (m ∷ [])

-- an answer with an end notice, or without
abbrev pub ending : Bool → ℕ → Event
ending true n = ended n
ending false n = other

abbrev pub any_live : List Phase → Bool
any_live [] = false
any_live (p ∷ ps) = is_live p

abbrev pub mark : ℕ → ℕ → (ℕ → ℕ → Bool) → ℕ → ℕ → Bool
mark c i f c' i' = f c' i' || (c == c' && i == i')

abbrev pub unmark : ℕ → ℕ → (ℕ → ℕ → Bool) → ℕ → ℕ → Bool
unmark c i f c' i' = f c' i' && not (c == c' && i == i')

-- the marks once a request is left so
abbrev pub marks : Request → List Request → (ℕ → ℕ → Bool) → ℕ → ℕ → Bool
marks r [] f = unmark r.key.caller r.key.identifier f
marks r (x ∷ xs) f = f

-- a request in the phase p is left in ps; of the messages back, hs about it are taken, and ks about it are sent out
pub record Turned (s t : State) (p : Phase) (ps : List Phase) (hs ks : List Sort) : Type 0 where
  pub pre : List Request
  pub r : Request
  pub rs : List Request
  pub post : List Request
  pub was : s.table ≡ pre ++ (r ∷ post)
  pub phase : r.phase ≡ p
  pub left : Left r rs ps
  pub is : t.table ≡ pre ++ (rs ++ post)
  pub taken : List Message
  pub taken_as : Sent r.key hs taken
  pub back : s.back ≡ taken ++ t.back
  pub sent : List Message
  pub sent_as : Sent r.key ks sent
  pub out : t.out ≡ s.out ++ sent
  pub monitors : t.monitors ≡ s.monitors
  pub next : t.next ≡ s.next
  pub marked : t.marked ≡ marks r rs s.marked
  pub history : t.history ≡ ending (is_live p && not (any_live ps)) r.number ∷ s.history

-- what a terminating call leaves as it is
pub record Untouched (s t : State) : Type 0 where
  pub table : t.table ≡ s.table
  pub next : t.next ≡ s.next
  pub marked : t.marked ≡ s.marked
  pub history : t.history ≡ other ∷ s.history

-- a monitor at the stage m is left at ms; of the messages out, hs about it are taken, and ks about it are sent back
pub record Shifted (s t : State) (m : Stage) (ms : List Stage) (hs ks : List Sort) : Type 0 where
  pub pre : List Monitor
  pub w : Monitor
  pub ws : List Monitor
  pub post : List Monitor
  pub was : s.monitors ≡ pre ++ (w ∷ post)
  pub stage : w.stage ≡ m
  pub left : Stays w.key ws ms
  pub is : t.monitors ≡ pre ++ (ws ++ post)
  pub taken : List Message
  pub taken_as : Sent w.key hs taken
  pub out : s.out ≡ taken ++ t.out
  pub sent : List Message
  pub sent_as : Sent w.key ks sent
  pub back : t.back ≡ s.back ++ sent
  pub rest : Untouched s t

-- a message out of the sort κ, whose monitor doesn't stand, is taken; what is stored, if anything, stands last
pub record Stored (s t : State) (κ : Sort) (ms : List Stage) (ks : List Sort) : Type 0 where
  pub x : Message
  pub sort : x.sort ≡ κ
  pub none : flat_map (stage_at x.key) s.monitors ≡ []
  pub out : s.out ≡ x ∷ t.out
  pub ws : List Monitor
  pub left : Stays x.key ws ms
  pub is : t.monitors ≡ s.monitors ++ ws
  pub sent : List Message
  pub sent_as : Sent x.key ks sent
  pub back : t.back ≡ s.back ++ sent
  pub rest : Untouched s t

-- a request opens, in a place of the table
pub record Opens (s t : State) : Type 0 where
  pub pre : List Request
  pub r : Request
  pub post : List Request
  pub was : s.table ≡ pre ++ post
  pub is : t.table ≡ pre ++ (r ∷ post)
  pub phase : r.phase ≡ Asked
  pub number : r.number ≡ s.next
  pub unheld : s.marked r.key.caller r.key.identifier ≡ false
  pub room : length (flat_map (caller_at r.key.caller) (lives s)) < 5
  pub sent : List Message
  pub sent_as : Sent r.key (MONITOR ∷ []) sent
  pub out : t.out ≡ s.out ++ sent
  pub back : t.back ≡ s.back
  pub monitors : t.monitors ≡ s.monitors
  pub next : t.next ≡ suc s.next
  pub marked : t.marked ≡ mark r.key.caller r.key.identifier s.marked
  -- the retained call that runs under the call identifier
  pub call : ℕ
  pub before : List Retained
  pub entry : Retained
  pub after : List Retained
  pub retained : s.retained ≡ before ++ (entry ∷ after)
  pub runs : running_at s.now r.key.caller call entry ≡ r.key.called ∷ []
  pub history : t.history ≡ opened r.key.caller call r.number r.key.identifier ∷ s.history

-- a call that does nothing to requests, monitors and links
pub record Idle (s t : State) (e : Event) : Type 0 where
  pub table : t.table ≡ s.table
  pub monitors : t.monitors ≡ s.monitors
  pub out : t.out ≡ s.out
  pub back : t.back ≡ s.back
  pub next : t.next ≡ s.next
  pub marked : t.marked ≡ s.marked
  pub history : t.history ≡ e ∷ s.history
  pub silent : (h : List Event) → (openings (e ∷ h) ≡ openings h) × (endings (e ∷ h) ≡ endings h)

-- what becomes of the retained calls
pub data Retention (s t : State) : Type 0 where
  keeps : t.retained ≡ s.retained → t.now ≡ s.now → ((c d : ℕ) → last_retained c d t.history ≡ last_retained c d s.history) → Retention s t
  uses : (pre : List Retained) (e : Retained) (post : List Retained) → s.retained ≡ pre ++ (e ∷ post) → t.retained ≡ pre ++ post → t.now ≡ s.now
      → ((c d : ℕ) → last_retained c d t.history ≡ last_retained c d s.history) → Retention s t
  ticks : t.retained ≡ s.retained → s.now ≤ t.now → ((c d : ℕ) → last_retained c d t.history ≡ last_retained c d s.history) → Retention s t
  -- the running entry of that caller and call identifier is overwritten
  overwrites : (pre : List Retained) (e e' : Retained) (post : List Retained) (n : ℕ) → s.retained ≡ pre ++ (e ∷ post) → t.retained ≡ pre ++ (e' ∷ post) → t.now ≡ s.now
      → running_at s.now e'.caller e'.call e ≡ n ∷ [] → t.history ≡ retained e'.caller e'.called e'.call ∷ s.history → Retention s t
  -- none runs, and an entry is stored, in a new place or in that of one that doesn't run
  stores : (pre old : List Retained) (e' : Retained) (post : List Retained) → s.retained ≡ pre ++ (old ++ post) → t.retained ≡ pre ++ (e' ∷ post) → t.now ≡ s.now
      → ((c d : ℕ) → flat_map (running_at s.now c d) old ≡ []) → flat_map (running_at s.now e'.caller e'.call) s.retained ≡ []
      → t.history ≡ retained e'.caller e'.called e'.call ∷ s.history → Retention s t

-- a message back that belongs to no request is dropped
pub record Lost (s t : State) : Type 0 where
  pub x : Message
  pub back : s.back ≡ x ∷ t.back
  pub none : flat_map (phase_at x.key) s.table ≡ []

pub data Shape (s t : State) : Type 0 where
  -- retain, list, caller, tick and line, and every call that is refused
  idle : (e : Event) → Idle s t e → Shape s t
  request : Opens s t → Shape s t
  join : (p : Phase) → Turned s t p (p ∷ []) [] [] → Shape s t
  accept : Turned s t Recalled (SettingUp ∷ []) [] (SETUP ∷ []) → Shape s t
  -- cancel and due
  finish : (p : Phase) → can_end p ≡ true → Turned s t p (Closing ∷ []) [] (CLOSE ∷ []) → Shape s t
  wake : Turned s t Parked (Invoked ∷ []) [] (RESUME ∷ []) → Shape s t
  hear : (free : Bool) (p : Phase) (κ : Sort) → Turned s t p (heard free p κ).left (κ ∷ []) (heard free p κ).sends → Shape s t
  hear_lost : Lost s t → Shape s t
  serve : Shifted s t Waiting (Offered ∷ []) [] (FREE ∷ []) → Shape s t
  connects : Shifted s t Ringing [] [] (CONNECTED ∷ []) → Shape s t
  busy_again : Shifted s t Ringing (Waiting ∷ []) [] (BUSY-AGAIN ∷ []) → Shape s t
  fails : Shifted s t Ringing [] [] (FAILED ∷ []) → Shape s t
  -- the terminating hear, where the monitor stands and where none does
  hear_standing : (ok : Bool) (m : Stage) (κ : Sort) → Shifted s t m (stood ok (m ∷ []) κ).left (κ ∷ []) (stood ok (m ∷ []) κ).sends → Shape s t
  hear_new : (ok : Bool) (κ : Sort) → Stored s t κ (stood ok [] κ).left (stood ok [] κ).sends → Shape s t

pub record Step (s t : State) : Type 0 where
  pub shape : Shape s t
  pub retention : Retention s t

pub data Reached : State → Type 0 where
  start : (n : ℕ) (s : State) → s ≡ record { table = []; monitors = []; out = []; back = []; next = n; marked = λ _ _. false; retained = []; now = 0; history = [] } → Reached s
  then : (s t : State) → Reached s → Step s t → Reached t
