-- A step of the originating office at one request keeps the invariant.
use Rattle.std.proofs.Common.{◌≡◌, ℕ, ◌+◌, ◌<◌, ◌≤◌, Bool, true, false, not, ◌&&◌, eqb, leb, List, [], ◌∷◌, ◌++◌, length, sym, refl, ap, ◌∙◌, subst, subst₂, append-nil, arith, length-append}
use mathlib.Core.Path.{subst⁻¹}
use Rattle.std.proofs.lemmas.Bool.{leb-true, and_parts}
use Rattle.requests.specs.Records.{is_live}
use Rattle.std.specs.List.{flat_map}
use Rattle.std.proofs.lemmas.List.Concat.{flat_map-append}
use Rattle.agreement.specs.Key.{Key, Opening, same}
use Rattle.agreement.specs.State.{State, opening, lives, live_one, phase_at, stage_at, sort_at, number_at, held_at, caller_at, asked_key, only_if, opened_in, ended_in}
use Rattle.agreement.specs.Shapes.{Sent, none, one, Left, freed, stays, Turned, any_live, marks, ending}
use Rattle.agreement.specs.History.{Event, openings, endings}
use Rattle.agreement.specs.Records.{Request, Message, Sort}
use Rattle.requests.specs.declared.records.Phase.{Phase}
use Rattle.terminating.specs.declared.office.Stage.{Stage}
use Rattle.agreement.proofs.Local.{local, Allowed}
use Rattle.agreement.proofs.Moves.{few-of}
use Rattle.agreement.proofs.Keys.{same-sound, same_refl, same-to, one-long, count, only-count, count_less}
use Rattle.agreement.proofs.Lives.{lives-fewer, lives-total, lives-line}
use Rattle.agreement.proofs.Pieces.{flat_map-front, flat_map-behind, flat_map-put, flat_map-swap, flat_map-length, not-cons, sole}
use Rattle.agreement.proofs.Parts.{local-of, Rows, Apart, rows_step, Of, apart_none, apart-push, apart-pop, apart-put}
use Rattle.agreement.proofs.Order.{Asc, Agree, asc-agree, agree-all, agree-apart}
use Rattle.agreement.proofs.Sound.{Sound, num, queue, asked-one, absent}

-- what messages about a key give at it, and elsewhere
pub sent-here : {k : Key} {ks : List Sort} {xs : List Message} → Sent k ks xs → flat_map (sort_at k) xs ≡ ks
sent-here none = refl
sent-here {k} (one x κ e t) = rw (same-to x.key k e, t)

pub sent-of : {k : Key} {ks : List Sort} {xs : List Message} → Sent k ks xs → Of sort_at k xs
sent-of none j e = refl
sent-of {k} (one x κ d t) j e = let q : same x.key j ≡ false = rw d e in rw q

-- what is left of a request gives at its key, and elsewhere
pub left_here : {r : Request} {rs : List Request} {ps : List Phase} → Left r rs ps → flat_map (phase_at r.key) rs ≡ ps
left_here freed = refl
left_here {r} (stays r' p e t) = rw (same-to r'.key r.key (ap (λ o. o.key) e), t)

pub left-of : {r : Request} {rs : List Request} {ps : List Phase} → Left r rs ps → Of phase_at r.key rs
left-of freed j e = refl
left-of {r} (stays r' p d t) j e = let q : same r'.key j ≡ false = rw (ap (λ o. o.key) d) e in rw q

pub left-live : {r : Request} {rs : List Request} {ps : List Phase} → Left r rs ps → flat_map live_one rs ≡ only_if (any_live ps) (opening r)
left-live freed = refl
left-live {r} (stays r' p e t) = rw (t, e, append-nil)

pub few-phases : (s : State) (k : Key) → Allowed (local-of s k) → length (flat_map (phase_at k) s.table) ≤ 1
few-phases s k h =
    leb-true (length (flat_map (phase_at k) s.table)) 1
    (and_parts (leb (length (flat_map (phase_at k) s.table)) 1) (leb (length (flat_map (stage_at k) s.monitors)) 1) (few-of (local-of s k) h)).0

few-numbers : (s : State) (k : Key) → Allowed (local-of s k) → length (flat_map (number_at k) s.table) ≤ 1
few-numbers s k h = rw (flat_map-length (number_at k) (phase_at k) (λ r. one-long (same r.key k) r.number r.phase) s.table) (few-phases s k h)

-- the numbers after a step: as they were, or those of one key are gone
data Numbered (s t : State) (k₀ : Key) (ps : List Phase) : Type 0 where
  kept : ((k : Key) → num s k ≡ num t k) → Numbered s t k₀ ps
  dropped : ps ≡ [] → Apart number_at k₀ s.table t.table → num t k₀ ≡ [] → Numbered s t k₀ ps

pub sent-plain : {k : Key} {ks : List Sort} {xs : List Message} → Sent k ks xs → flat_map (λ κ. asked_key κ k) ks ≡ [] → flat_map asked-one xs ≡ []
sent-plain none e = refl
sent-plain (one x κ d t) e = rw (d, t) e

ending-opens : (b : Bool) (n : ℕ) (h : List Event) → openings (ending b n ∷ h) ≡ openings h
ending-opens true n h = refl
ending-opens false n h = refl

ending-ends : (b : Bool) (n : ℕ) (h : List Event) → endings (ending b n ∷ h) ≡ only_if b n ++ endings h
ending-ends true n h = refl
ending-ends false n h = refl

-- what a step at a request in the phase p has to show: of the rows, of what is live, of what is sent, and of a place that is freed
pub record Fair (p : Phase) (ps : List Phase) (hs ks : List Sort) : Type 0 where
  pub row : (o : List Sort) (m : List Stage) (b : List Sort) → Allowed (local (p ∷ []) o m (hs ++ b)) → Allowed (local ps (o ++ ks) m b)
  pub no-rise : any_live ps ≡ true → is_live p ≡ true
  pub plain : (k : Key) → flat_map (λ κ. asked_key κ k) ks ≡ []
  pub quiet : ps ≡ [] → (o : List Sort) (m : List Stage) (b : List Sort) → Allowed (local (p ∷ []) o m (hs ++ b)) → (o ≡ []) × (m ≡ [])

module _ (s t : State) {p : Phase} {ps : List Phase} {hs ks : List Sort} (c : Turned s t p ps hs ks) where
  abbrev k₀ : Key
  k₀ = c.r.key

  own : phase_at k₀ c.r ≡ p ∷ []
  own = rw (same_refl k₀, c.phase)

  own_of : Of phase_at k₀ (c.r ∷ [])
  own_of j e = rw e

  -- the place of the request gives all that its key has
  place : Allowed (local-of s k₀) → (flat_map (phase_at k₀) (c.pre ++ (c.r ∷ c.post)) ≡ p ∷ []) × (flat_map (phase_at k₀) (c.pre ++ (c.rs ++ c.post)) ≡ flat_map (phase_at k₀) c.rs)
  place h = sole (phase_at k₀) c.pre c.r c.post c.rs p own (subst (λ z. length (flat_map (phase_at k₀) z) ≤ 1) c.was (few-phases s k₀ h))

  -- the row before and after
  row-was : Allowed (local-of s k₀) → local-of s k₀ ≡ local (p ∷ []) (flat_map (sort_at k₀) s.out) (flat_map (stage_at k₀) s.monitors) (hs ++ flat_map (sort_at k₀) t.back)
  row-was h =
      let a : flat_map (phase_at k₀) s.table ≡ p ∷ [] = ap (flat_map (phase_at k₀)) c.was ∙ (place h).0 in
      let d : flat_map (sort_at k₀) s.back ≡ hs ++ flat_map (sort_at k₀) t.back = flat_map-front (sort_at k₀) c.taken t.back c.back (sent-here c.taken_as) in
      λ i. local (a i) (flat_map (sort_at k₀) s.out) (flat_map (stage_at k₀) s.monitors) (d i)

  row_is : Allowed (local-of s k₀) → local-of t k₀ ≡ local ps (flat_map (sort_at k₀) s.out ++ ks) (flat_map (stage_at k₀) s.monitors) (flat_map (sort_at k₀) t.back)
  row_is h =
      let a : flat_map (phase_at k₀) t.table ≡ ps = ap (flat_map (phase_at k₀)) c.is ∙ ((place h).1 ∙ left_here c.left) in
      let b : flat_map (sort_at k₀) t.out ≡ flat_map (sort_at k₀) s.out ++ ks = flat_map-behind (sort_at k₀) s.out c.sent c.out (sent-here c.sent_as) in
      λ i. local (a i) (b i) (flat_map (stage_at k₀) (c.monitors i)) (flat_map (sort_at k₀) t.back)

  pub turn-rows : Fair p ps hs ks → Rows s → Rows t
  turn-rows f = rows_step k₀ s t (record {
    table = subst₂ (Apart phase_at k₀) (sym c.was) (sym c.is) (apart-put phase_at k₀ c.pre (c.r ∷ []) c.rs c.post own_of (left-of c.left));
    out = subst (Apart sort_at k₀ s.out) (sym c.out) (apart-push sort_at k₀ s.out c.sent (sent-of c.sent_as));
    monitors = subst (Apart stage_at k₀ s.monitors) (sym c.monitors) (apart_none stage_at k₀ s.monitors);
    back = subst (λ z. Apart sort_at k₀ z t.back) (sym c.back) (apart-pop sort_at k₀ c.taken t.back (sent-of c.taken_as));
    here = λ h. subst⁻¹ Allowed (row_is h) (f.row _ _ _ (subst Allowed (row-was h) h));
  })

  -- the numbers: as they were, or a place is freed
  numbered : Rows s → Numbered s t k₀ ps
  numbered h = go c.left c.is
    where
      go : {rs : List Request} {qs : List Phase} → Left c.r rs qs → t.table ≡ c.pre ++ (rs ++ c.post) → Numbered s t k₀ qs
      go freed e = dropped refl
          (subst₂ (Apart number_at k₀) (sym c.was) (sym e) (apart-put number_at k₀ c.pre (c.r ∷ []) [] c.post (λ j d. rw d) (λ j d. refl)))
          (ap (flat_map (number_at k₀)) e ∙ (sole (number_at k₀) c.pre c.r c.post [] c.r.number (rw (same_refl k₀)) (subst (λ z. length (flat_map (number_at k₀) z) ≤ 1) c.was (few-numbers s k₀ (h k₀)))).1)
      go (stays r' q d f) e = kept (λ k. rw (c.was, e) (flat_map-swap (number_at k) c.pre c.r r' c.post (ap (λ o. only_if (same o.key k) o.number) (sym d))))

  queue-is : Fair p ps hs ks → queue t ≡ queue s
  queue-is f = rw (c.monitors, c.out, flat_map-append, sent-plain c.sent_as (f.plain k₀), append-nil)

  pub turn-order : Fair p ps hs ks → Rows s → Asc (num s) 0 (queue s) → Asc (num t) 0 (queue t)
  turn-order f h a = rw (queue-is f) (asc-agree (queue s) (go (numbered h)) a)
    where
      go : Numbered s t k₀ ps → Agree (num s) (num t) (queue s)
      go (kept e) = agree-all (num s) (num t) e (queue s)
      go (dropped n e z) =
          let q = f.quiet n _ _ _ (subst Allowed (row-was (h k₀)) (h k₀)) in
          agree-apart (num s) (num t) k₀ e (queue s) (absent s k₀ q.0 q.1)

  pub turn_below : Rows s → ((k : Key) (n : ℕ) → num s k ≡ n ∷ [] → n < s.next) → (k : Key) (n : ℕ) → num t k ≡ n ∷ [] → n < t.next
  turn_below h below k n e = rw c.next (go (numbered h))
    where
      go : Numbered s t k₀ ps → n < s.next
      go (kept d) = below k n (d k ∙ e)
      go (dropped m d z) = by (same k₀ k) refl
        where
          by : (b : Bool) → same k₀ k ≡ b → n < s.next
          by true q = absurd (not-cons n [] (sym e ∙ rw (← same-sound k₀ k q) z))
          by false q = below k n (d k q ∙ e)

  pub turn-lives-was : lives s ≡ flat_map live_one c.pre ++ (only_if (is_live p) (opening c.r) ++ flat_map live_one c.post)
  turn-lives-was = rw (c.was, flat_map-append, c.phase)

  pub turn-lives-is : lives t ≡ flat_map live_one c.pre ++ (only_if (any_live ps) (opening c.r) ++ flat_map live_one c.post)
  turn-lives-is = rw (c.is, flat_map-put, left-live c.left)

  pub turn-held : ((x i : ℕ) → length (flat_map (held_at x i) s.table) ≡ count (s.marked x i)) → (x i : ℕ) → length (flat_map (held_at x i) t.table) ≡ count (t.marked x i)
  turn-held h x i = rw (c.is, c.marked) (go c.left)
    where
      b : Bool
      b = eqb c.r.key.caller x && eqb c.r.key.identifier i

      was : length (flat_map (held_at x i) c.pre) + (count b + length (flat_map (held_at x i) c.post)) ≡ count (s.marked x i)
      was = simp (flat_map-append, length-append, only-count) at (rw c.was at (h x i))

      go : {rs : List Request} {qs : List Phase} → Left c.r rs qs → length (flat_map (held_at x i) (c.pre ++ (rs ++ c.post))) ≡ count (marks c.r rs s.marked x i)
      go freed = simp (flat_map-append, length-append) (count_less (s.marked x i) b _ (omega (arith, was)))
      go (stays r' q d f) =
          ap length (flat_map-swap (held_at x i) c.pre r' c.r c.post (ap (λ o. only_if (eqb o.key.caller x && eqb o.key.identifier i) o) d))
          ∙ rw c.was at (h x i)

  turn-opened : opened_in t ≡ opened_in s
  turn-opened = rw c.history (ending-opens (is_live p && not (any_live ps)) c.r.number s.history)

  turn-ended : ended_in t ≡ only_if (is_live p && not (any_live ps)) c.r.number ++ ended_in s
  turn-ended = rw c.history (ending-ends (is_live p && not (any_live ps)) c.r.number s.history)

  pub turn-sound : Fair p ps hs ks → Sound s → Sound t
  turn-sound f h = record {
    rows = turn-rows f h.rows;
    order = turn-order f h.rows h.order;
    below = turn_below h.rows h.below;
    held = turn-held h.held;
    five = λ x. let a = lives-fewer (caller_at x) A D o (is_live p) (any_live ps) f.no-rise in let z = rw turn-lives-was at (h.five x) in rw turn-lives-is (omega arith);
    ledger = λ n. rw (turn-opened, turn-ended, turn-lives-is) (lives-line A D (ended_in s) o (is_live p) (any_live ps) n f.no-rise (rw turn-lives-was at (h.ledger n)));
    fresh = λ n l. rw turn-opened (h.fresh n (rw c.next at l));
    total = rw (turn-opened, turn-ended, turn-lives-is) (lives-total A D (ended_in s) o (is_live p) (any_live ps) (length (opened_in s)) f.no-rise (rw turn-lives-was at h.total));
  }
    where
      A : List Opening
      A = flat_map live_one c.pre

      D : List Opening
      D = flat_map live_one c.post

      o : Opening
      o = opening c.r
