-- The invariant holds at the start and after each call, and it says that the offices agree.
use Rattle.std.proofs.Common.{◌≡◌, ℕ, ◌+◌, ◌≤◌, Bool, true, false, List, [], ◌∷◌, ◌++◌, length, sym, refl, ap, ◌∙◌, subst, append_assoc, arith, length-append}
use Rattle.requests.specs.Records.{is_live}
use Rattle.std.proofs.lemmas.List.Concat.{flat_map-append}
use Rattle.agreement.specs.History.{Event}
use Rattle.agreement.proofs.Retaining.{Retains, gone, retention}
use Rattle.std.specs.List.{flat_map}
use Rattle.agreement.specs.Agreement.{never, Agreed, Owned, Kept}
use Rattle.agreement.specs.Key.{Key, same}
use Rattle.agreement.specs.State.{State, opening, lives, live_one, owner_at, phase_at, stage_at, sort_at, number_at, key_at, only_if}
use Rattle.agreement.specs.Shapes.{Shape, Idle, idle, request, join, accept, finish, wake, hear, Lost, hear_lost, serve, connects, busy_again, fails, hear_standing, hear_new, Step, Reached, start, then}
use Rattle.agreement.specs.Records.{Request}
use Rattle.agreement.proofs.Moves.{serve-stays, connected-stays, busy-stays, failed-stays, stand-stays, owned-of, calm_of, live-phase, nothing-allowed}
use Rattle.agreement.proofs.Keys.{same_refl, one-long, count-one}
use Rattle.agreement.proofs.Pieces.{flat_map-flat_map, flat_map-length, flat_map_ext, not-cons}
use Rattle.agreement.proofs.Parts.{local-of}
use Rattle.agreement.proofs.Order.{end, asc-two}
use Rattle.agreement.proofs.Sound.{Sound, num, monitor-one, asked-one}
use Rattle.agreement.proofs.Turns.{turn-sound}
use Rattle.agreement.proofs.Originating.{accept-fair, wake-fair, finish-fair, join-fair, hear-fair}
use Rattle.agreement.proofs.Shifts.{shift-sound, stored-sound, stood-new, few-stages}
use Rattle.agreement.proofs.Opening.{open-sound}

idle-sound : (s t : State) (e : Event) → Idle s t e → Sound s → Sound t
idle-sound s t e c h = record {
  rows = rw (c.table, c.monitors, c.out, c.back) h.rows;
  order = rw (c.table, c.monitors, c.out) h.order;
  below = rw (c.table, c.next) h.below;
  held = rw (c.table, c.marked) h.held;
  five = rw c.table h.five;
  ledger = rw (c.table, c.history, (c.silent s.history).0, (c.silent s.history).1) h.ledger;
  fresh = rw (c.next, c.history, (c.silent s.history).0) h.fresh;
  total = rw (c.table, c.history, (c.silent s.history).0, (c.silent s.history).1) h.total;
}

-- what is at one place of a list is given at least once
present : {A B : Type 0} (f : A → List B) (pre : List A) (x : A) (post : List A) (p : B) → f x ≡ p ∷ [] → 1 ≤ length (flat_map f (pre ++ (x ∷ post)))
present f pre x post p e = simp (flat_map-append, length-append, e) (omega arith)

-- there is no such message
lost-none : (s t : State) → Lost s t → Sound s → ⊥
lost-none s t c h =
    let k = c.x.key in
    let l : 1 ≤ length (flat_map (sort_at k) s.back) = rw c.back (present (sort_at k) [] c.x t.back c.x.sort (rw (same_refl k))) in
    let n = owned-of (local-of s k) (omega arith) (h.rows k) in
    let z = ap length c.none in
    omega arith

sound-shape : (s t : State) → Shape s t → Retains s → Sound s → Sound t
sound-shape s t (idle e c) g h = idle-sound s t e c h
sound-shape s t (request c) g h = open-sound s t c g h
sound-shape s t (join p c) g h = turn-sound s t c (join-fair p) h
sound-shape s t (accept c) g h = turn-sound s t c accept-fair h
sound-shape s t (finish p e c) g h = turn-sound s t c (finish-fair p e) h
sound-shape s t (wake c) g h = turn-sound s t c wake-fair h
sound-shape s t (hear free p κ c) g h = turn-sound s t c (hear-fair free p κ) h
sound-shape s t (hear_lost c) g h = absurd (lost-none s t c h)
sound-shape s t (serve c) g h = shift-sound s t c serve-stays h
sound-shape s t (connects c) g h = shift-sound s t c connected-stays h
sound-shape s t (busy_again c) g h = shift-sound s t c busy-stays h
sound-shape s t (fails c) g h = shift-sound s t c failed-stays h
sound-shape s t (hear_standing ok m κ c) g h = shift-sound s t c (λ p o b. stand-stays ok p κ o (m ∷ []) b) h
sound-shape s t (hear_new ok κ c) g h = stored-sound s t c (λ p o b. stand-stays ok p κ o [] b) (stood-new ok κ) h

empty-sound : (n : ℕ) → Sound (record { table = []; monitors = []; out = []; back = []; next = n; marked = λ _ _. false; retained = []; now = 0; history = [] })
empty-sound n = record {
  rows = λ k. nothing-allowed;
  order = end;
  below = λ k m e. absurd (not-cons m [] (sym e));
  held = λ c i. refl;
  five = λ c. omega arith;
  ledger = λ m. never;
  fresh = λ m l. refl;
  total = refl;
}

-- what holds after each call
abbrev pub Invariant : State → Type 0
Invariant s = Retains s × Sound s

pub invariant-start : (n : ℕ) → Invariant (record { table = []; monitors = []; out = []; back = []; next = n; marked = λ _ _. false; retained = []; now = 0; history = [] })
invariant-start n = (λ c d. gone, empty-sound n)

pub invariant-step : (s t : State) → Step s t → Invariant s → Invariant t
invariant-step s t c h = (retention s t c.retention h.0, sound-shape s t c.shape h.0 h.1)

reached : (s : State) → Reached s → Invariant s
reached s (start n _ e) = subst Invariant (sym e) (invariant-start n)
reached t (then s _ r c) = invariant-step s t c (reached s r)

one-is : {A : Type 0} (xs : List A) → length xs ≡ 1 → (x : A) × (xs ≡ x ∷ [])
one-is [] e = absurd (omega arith)
one-is (x ∷ []) e = (x, refl)
one-is (x ∷ (y ∷ xs)) e = absurd (omega arith)

-- of the live requests, those of a key
pick : (a b : Bool) {A B : Type 0} (x : A) (f : A → List A) (y : B) (g : B → List B) → f x ≡ only_if a x → g y ≡ only_if b y → length (flat_map f (only_if b x)) ≡ length (flat_map g (only_if a y))
pick true true x f y g e d = rw (e, d)
pick true false x f y g e d = rw d
pick false true x f y g e d = rw e
pick false false x f y g e d = refl

abbrev number-one : Request → List ℕ
number-one r = r.number ∷ []

via : (b : Bool) (r : Request) → only_if b r.number ≡ flat_map number-one (only_if b r)
via true r = refl
via false r = refl

module _ (s : State) (h : Sound s) where
  owner : (k : Key) → 1 ≤ length (flat_map (sort_at k) s.out) + length (flat_map (stage_at k) s.monitors) + length (flat_map (sort_at k) s.back) → Owned s k
  owner k l = one-is (flat_map (owner_at k) s.table) (flat_map-length (owner_at k) (phase_at k) (λ r. one-long (same r.key k) r r.phase) s.table ∙ owned-of (local-of s k) l (h.rows k))

  live_at : (k : Key) → length (flat_map live-phase (flat_map (phase_at k) s.table)) ≡ length (flat_map (key_at k) (lives s))
  live_at k =
      ap length (flat_map-flat_map (phase_at k) live-phase s.table)
      ∙ flat_map-length (λ r. flat_map live-phase (phase_at k r)) (λ r. flat_map (key_at k) (live_one r)) (λ r. pick (is_live r.phase) (same r.key k) r.phase live-phase (opening r) (key_at k) refl refl) s.table
      ∙ ap length (sym (flat_map-flat_map live_one (key_at k) s.table))

  number : (k : Key) (r : Request) → flat_map (owner_at k) s.table ≡ r ∷ [] → num s k ≡ r.number ∷ []
  number k r e =
      flat_map_ext (number_at k) (λ q. flat_map number-one (owner_at k q)) (λ q. via (same q.key k) q) s.table
      ∙ sym (flat_map-flat_map (owner_at k) number-one s.table)
      ∙ ap (flat_map number-one) e

  pub agreed : Agreed s
  agreed = record {
    accounts = h.ledger;
    total = h.total;
    monitor_owned = λ pre w post e. owner w.key (let l = present (stage_at w.key) pre w post w.stage (rw (same_refl w.key)) in rw e (omega arith));
    out_owned = λ pre x post e. owner x.key (let l = present (sort_at x.key) pre x post x.sort (rw (same_refl x.key)) in rw e (omega arith));
    back_owned = λ pre x post e. owner x.key (let l = present (sort_at x.key) pre x post x.sort (rw (same_refl x.key)) in rw e (omega arith));
    one_each = λ c i. rw (h.held c i) (count-one (s.marked c i));
    five = h.five;
    settled = λ o b k. (calm_of _ _ (rw (o, b) at (h.rows k)) ∙ live_at k, few-stages s k (h.rows k));
    in_order = λ pre w mid v post e q r i j. asc-two (flat_map monitor-one pre) w.key (flat_map monitor-one mid) v.key (flat_map monitor-one post ++ flat_map asked-one s.out) q.number r.number (number w.key q i) (number v.key r j) (simp (flat_map-append, append_assoc) at (rw e at h.order));
  }

pub kept : Kept
kept s r = agreed s (reached s r).1
