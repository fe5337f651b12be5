-- The steps of the terminating office keep the invariant.
use Rattle.std.proofs.Common.{◌≡◌, ℕ, ◌≤◌, Bool, true, false, ◌||◌, leb, List, [], ◌∷◌, ◌++◌, length, sym, refl, ap, ◌∙◌, subst, subst₂, append_assoc, append-nil}
use mathlib.Core.Path.{subst⁻¹}
use Rattle.std.proofs.lemmas.Bool.{leb-true, and_parts}
use Rattle.std.specs.List.{flat_map}
use Rattle.std.proofs.lemmas.List.Concat.{flat_map-append}
use Rattle.agreement.specs.Key.{Key, same}
use Rattle.agreement.specs.State.{is_monitor, State, phase_at, stage_at, sort_at, only_if}
use Rattle.agreement.specs.Shapes.{Sent, none, one, Stays, erased, stands, Shifted, Stored, Untouched, stood}
use Rattle.agreement.specs.Records.{Monitor, Message, Sort}
use Rattle.requests.specs.declared.records.Phase.{Phase}
use Rattle.terminating.specs.declared.office.Stage.{Stage}
use Rattle.agreement.proofs.Local.{local, Allowed, by-sorts}
use Rattle.agreement.proofs.Moves.{few-of, empty}
use Rattle.agreement.proofs.Keys.{same_refl, same-to}
use Rattle.agreement.proofs.Pieces.{flat_map-front, flat_map-behind, flat_map-put, sole}
use Rattle.agreement.proofs.Parts.{local-of, Rows, Apart, rows_step, Of, apart_none, apart-push, apart-pop, apart-put}
use Rattle.agreement.proofs.Order.{Asc, asc-drop, asc-only}
use Rattle.agreement.proofs.Sound.{Sound, num, queue, monitor-one, asked-one}
use Rattle.agreement.proofs.Turns.{sent-here, sent-of}

pub stays_here : {k : Key} {ws : List Monitor} {ms : List Stage} → Stays k ws ms → flat_map (stage_at k) ws ≡ ms
stays_here erased = refl
stays_here {k} (stands w m e t) = rw (same-to w.key k e, t)

pub stays_of : {k : Key} {ws : List Monitor} {ms : List Stage} → Stays k ws ms → Of stage_at k ws
stays_of erased j e = refl
stays_of {k} (stands w m d t) j e = let q : same w.key j ≡ false = rw d e in rw q

pub few-stages : (s : State) (k : Key) → Allowed (local-of s k) → length (flat_map (stage_at k) s.monitors) ≤ 1
few-stages s k h =
    leb-true (length (flat_map (stage_at k) s.monitors)) 1
    (and_parts (leb (length (flat_map (phase_at k) s.table)) 1) (leb (length (flat_map (stage_at k) s.monitors)) 1) (few-of (local-of s k) h)).1

-- what speaks of the table, the marks and the history alone
pub untouched : (s t : State) → Untouched s t → Rows t → Asc (num s) 0 (queue t) → Sound s → Sound t
untouched s t u r a h = record {
  rows = r;
  order = rw u.table a;
  below = rw (u.table, u.next) h.below;
  held = rw (u.table, u.marked) h.held;
  five = rw u.table h.five;
  ledger = rw (u.table, u.history) h.ledger;
  fresh = rw (u.next, u.history) h.fresh;
  total = rw (u.table, u.history) h.total;
}

-- a MONITOR that is taken leaves the queue
queue-pop : {f : Key → List ℕ} {k : Key} {hs : List Sort} {xs : List Message} (Q M : List Key) → Sent k hs xs → Asc f 0 (Q ++ (flat_map asked-one xs ++ M)) → Asc f 0 (Q ++ M)
queue-pop Q M none a = a
queue-pop Q M (one x κ e t) a = asc-only Q (is_monitor x.sort) x.key M (rw append-nil at a)

-- a monitor keeps its place in the queue, or leaves it
queue-left : {f : Key → List ℕ} {k : Key} {ms : List Stage} {ws : List Monitor} (P R M : List Key) → Stays k ws ms → Asc f 0 ((P ++ (k ∷ R)) ++ M) → Asc f 0 ((P ++ (flat_map monitor-one ws ++ R)) ++ M)
queue-left {k = k} P R M erased a = rw append_assoc (asc-drop P k (R ++ M) (rw append_assoc at a))
queue-left P R M (stands w m e t) a = rw e a

module _ (s t : State) {m : Stage} {ms : List Stage} {hs ks : List Sort} (c : Shifted s t m ms hs ks) where
  abbrev k₀ : Key
  k₀ = c.w.key

  place : Allowed (local-of s k₀) → (flat_map (stage_at k₀) (c.pre ++ (c.w ∷ c.post)) ≡ m ∷ []) × (flat_map (stage_at k₀) (c.pre ++ (c.ws ++ c.post)) ≡ flat_map (stage_at k₀) c.ws)
  place h = sole (stage_at k₀) c.pre c.w c.post c.ws m (rw (same_refl k₀, c.stage)) (subst (λ z. length (flat_map (stage_at k₀) z) ≤ 1) c.was (few-stages s k₀ h))

  row-was : Allowed (local-of s k₀) → local-of s k₀ ≡ local (flat_map (phase_at k₀) s.table) (hs ++ flat_map (sort_at k₀) t.out) (m ∷ []) (flat_map (sort_at k₀) s.back)
  row-was h =
      let a : flat_map (stage_at k₀) s.monitors ≡ m ∷ [] = ap (flat_map (stage_at k₀)) c.was ∙ (place h).0 in
      let b : flat_map (sort_at k₀) s.out ≡ hs ++ flat_map (sort_at k₀) t.out = flat_map-front (sort_at k₀) c.taken t.out c.out (sent-here c.taken_as) in
      λ i. local (flat_map (phase_at k₀) s.table) (b i) (a i) (flat_map (sort_at k₀) s.back)

  row_is : Allowed (local-of s k₀) → local-of t k₀ ≡ local (flat_map (phase_at k₀) s.table) (flat_map (sort_at k₀) t.out) ms (flat_map (sort_at k₀) s.back ++ ks)
  row_is h =
      let a : flat_map (stage_at k₀) t.monitors ≡ ms = ap (flat_map (stage_at k₀)) c.is ∙ ((place h).1 ∙ stays_here c.left) in
      let b : flat_map (sort_at k₀) t.back ≡ flat_map (sort_at k₀) s.back ++ ks = flat_map-behind (sort_at k₀) s.back c.sent c.back (sent-here c.sent_as) in
      λ i. local (flat_map (phase_at k₀) (c.rest.table i)) (flat_map (sort_at k₀) t.out) (a i) (b i)

  shift-rows : ((p : List Phase) (o b : List Sort) → Allowed (local p (hs ++ o) (m ∷ []) b) → Allowed (local p o ms (b ++ ks))) → Rows s → Rows t
  shift-rows f = rows_step k₀ s t (record {
    table = subst (Apart phase_at k₀ s.table) (sym c.rest.table) (apart_none phase_at k₀ s.table);
    out = subst (λ z. Apart sort_at k₀ z t.out) (sym c.out) (apart-pop sort_at k₀ c.taken t.out (sent-of c.taken_as));
    monitors = subst₂ (Apart stage_at k₀) (sym c.was) (sym c.is) (apart-put stage_at k₀ c.pre (c.w ∷ []) c.ws c.post (λ j e. rw e) (stays_of c.left));
    back = subst (Apart sort_at k₀ s.back) (sym c.back) (apart-push sort_at k₀ s.back c.sent (sent-of c.sent_as));
    here = λ h. subst⁻¹ Allowed (row_is h) (f _ _ _ (subst Allowed (row-was h) h));
  })

  shift-order : Asc (num s) 0 (queue s) → Asc (num s) 0 (queue t)
  shift-order a =
      let b : Asc (num s) 0 (flat_map monitor-one s.monitors ++ (flat_map asked-one c.taken ++ flat_map asked-one t.out)) = rw (c.out, flat_map-append) at a in
      let d : Asc (num s) 0 ((flat_map monitor-one c.pre ++ (k₀ ∷ flat_map monitor-one c.post)) ++ flat_map asked-one t.out) = rw (c.was, flat_map-append) at (queue-pop (flat_map monitor-one s.monitors) (flat_map asked-one t.out) c.taken_as b) in
      rw (c.is, flat_map-put) (queue-left (flat_map monitor-one c.pre) (flat_map monitor-one c.post) (flat_map asked-one t.out) c.left d)

  pub shift-sound : ((p : List Phase) (o b : List Sort) → Allowed (local p (hs ++ o) (m ∷ []) b) → Allowed (local p o ms (b ++ ks))) → Sound s → Sound t
  shift-sound f h = untouched s t c.rest (shift-rows f h.rows) (shift-order h.order) h

-- a monitor that is stored has the MONITOR's place in the queue
queue-stored : {f : Key → List ℕ} {k : Key} {ms : List Stage} {ws : List Monitor} (W M : List Key) (q : Bool) → Stays k ws ms → (empty ms || q) ≡ true → Asc f 0 (W ++ (only_if q k ++ M)) → Asc f 0 ((W ++ flat_map monitor-one ws) ++ M)
queue-stored {k = k} W M q erased n a = rw append-nil (asc-only W q k M a)
queue-stored {k = k} W M q (stands w m e t) n a = rw (e, append_assoc) (rw n at a)

module _ (s t : State) {κ : Sort} {ms : List Stage} {ks : List Sort} (c : Stored s t κ ms ks) where
  abbrev j₀ : Key
  j₀ = c.x.key

  head : flat_map (sort_at j₀) s.out ≡ κ ∷ flat_map (sort_at j₀) t.out
  head = flat_map-front (sort_at j₀) (c.x ∷ []) t.out {bs = κ ∷ []} c.out (rw (same_refl j₀, c.sort))

  stored-was : local-of s j₀ ≡ local (flat_map (phase_at j₀) s.table) (κ ∷ flat_map (sort_at j₀) t.out) [] (flat_map (sort_at j₀) s.back)
  stored-was = λ i. local (flat_map (phase_at j₀) s.table) (head i) (c.none i) (flat_map (sort_at j₀) s.back)

  stored_is : local-of t j₀ ≡ local (flat_map (phase_at j₀) s.table) (flat_map (sort_at j₀) t.out) ms (flat_map (sort_at j₀) s.back ++ ks)
  stored_is =
      let a : flat_map (stage_at j₀) t.monitors ≡ ms = flat_map-behind (stage_at j₀) s.monitors c.ws c.is (stays_here c.left) ∙ ap (λ z. z ++ ms) c.none in
      let b : flat_map (sort_at j₀) t.back ≡ flat_map (sort_at j₀) s.back ++ ks = flat_map-behind (sort_at j₀) s.back c.sent c.back (sent-here c.sent_as) in
      λ i. local (flat_map (phase_at j₀) (c.rest.table i)) (flat_map (sort_at j₀) t.out) (a i) (b i)

  stored-rows : ((p : List Phase) (o b : List Sort) → Allowed (local p (κ ∷ o) [] b) → Allowed (local p o ms (b ++ ks))) → Rows s → Rows t
  stored-rows f = rows_step j₀ s t (record {
    table = subst (Apart phase_at j₀ s.table) (sym c.rest.table) (apart_none phase_at j₀ s.table);
    out = subst (λ z. Apart sort_at j₀ z t.out) (sym c.out) (apart-pop sort_at j₀ (c.x ∷ []) t.out (λ j e. rw e));
    monitors = subst (Apart stage_at j₀ s.monitors) (sym c.is) (apart-push stage_at j₀ s.monitors c.ws (stays_of c.left));
    back = subst (Apart sort_at j₀ s.back) (sym c.back) (apart-push sort_at j₀ s.back c.sent (sent-of c.sent_as));
    here = λ h. subst⁻¹ Allowed stored_is (f _ _ _ (subst Allowed stored-was h));
  })

  pub stored-sound : ((p : List Phase) (o b : List Sort) → Allowed (local p (κ ∷ o) [] b) → Allowed (local p o ms (b ++ ks))) → (empty ms || is_monitor κ) ≡ true → Sound s → Sound t
  stored-sound f n h =
      let a : Asc (num s) 0 (flat_map monitor-one s.monitors ++ (only_if (is_monitor κ) j₀ ++ flat_map asked-one t.out)) = rw (c.out, c.sort) at h.order in
      untouched s t c.rest (stored-rows f h.rows) (rw (c.is, flat_map-append) (queue-stored (flat_map monitor-one s.monitors) (flat_map asked-one t.out) (is_monitor κ) c.left n a)) h

-- what the terminating hear stores is asked for by a MONITOR
pub stood-new : (ok : Bool) (κ : Sort) → (empty (stood ok [] κ).left || is_monitor κ) ≡ true
stood-new true = by-sorts (λ κ. empty (stood true [] κ).left || is_monitor κ) refl
stood-new false = by-sorts (λ κ. empty (stood false [] κ).left || is_monitor κ) refl
