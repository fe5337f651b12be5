-- A request that opens keeps the invariant.
use Rattle.std.proofs.Common.{◌≡◌, ℕ, suc, ◌+◌, ◌<◌, ◌≤◌, Bool, true, false, ◌&&◌, ◌||◌, eqb, List, [], ◌∷◌, ◌++◌, length, sym, refl, ap, ◌∙◌, subst, ap₂, subst₂, append_assoc, append-nil, arith, length-append}
use mathlib.Core.Path.{subst⁻¹}
use Rattle.std.proofs.lemmas.Bool.{and_parts, eqb-true, ne_eqb}
use Rattle.std.specs.List.{flat_map}
use Rattle.std.proofs.lemmas.List.Concat.{flat_map-append}
use Rattle.agreement.specs.Agreement.{Line}
use Rattle.agreement.specs.Key.{Key, Opening, same}
use Rattle.agreement.specs.State.{State, opening, lives, live_one, phase_at, stage_at, sort_at, number_at, number_of, equal_to, held_at, caller_at, opened_in, ended_in}
use Rattle.agreement.proofs.Retaining.{Retains, retained-last}
use Rattle.agreement.specs.Shapes.{Sent, one, Opens}
use Rattle.agreement.specs.Records.{Request, Message, MONITOR}
use Rattle.requests.specs.declared.records.Phase.TheVariants.{Asked}
use Rattle.agreement.proofs.Local.{local, Allowed}
use Rattle.agreement.proofs.Moves.{open_stays, unowned-of}
use Rattle.agreement.proofs.Keys.{same-sound, same_refl, same-held, only_none, not-given, count, only-count, count-more}
use Rattle.agreement.proofs.Pieces.{flat_map-behind, flat_map_none, append-none, none_of}
use Rattle.agreement.proofs.Parts.{local-of, Rows, Apart, rows_step, apart_none, apart-push, apart-put}
use Rattle.agreement.proofs.Order.{Asc, agree-apart, asc-snoc}
use Rattle.agreement.proofs.Ledger.{line-opens}
use Rattle.agreement.proofs.Sound.{Sound, num, queue, monitor-one, asked-one, absent}
use Rattle.agreement.proofs.Turns.{sent-here, sent-of}

sent-monitor : {k : Key} {xs : List Message} → Sent k (MONITOR ∷ []) xs → flat_map asked-one xs ≡ k ∷ []
sent-monitor (one x κ e t) = rw (t, e)

module _ (s t : State) (c : Opens s t) (g : Retains s) (h : Sound s) where
  abbrev k₀ : Key
  k₀ = c.r.key

  -- no request has the caller and the identifier, so none has the key
  unheld : flat_map (held_at c.r.key.caller c.r.key.identifier) s.table ≡ []
  unheld = none_of _ (rw (h.held c.r.key.caller c.r.key.identifier, c.unheld) (omega arith))

  fresh-phases : flat_map (phase_at k₀) s.table ≡ []
  fresh-phases = flat_map_none (held_at c.r.key.caller c.r.key.identifier) (phase_at k₀) (λ x e. not-given (same x.key k₀) x.phase (same-held x.key k₀ (only_none _ (opening x) e))) s.table unheld

  fresh-numbers : flat_map (number_at k₀) s.table ≡ []
  fresh-numbers = flat_map_none (held_at c.r.key.caller c.r.key.identifier) (number_at k₀) (λ x e. not-given (same x.key k₀) x.number (same-held x.key k₀ (only_none _ (opening x) e))) s.table unheld

  row : Allowed (local [] (flat_map (sort_at k₀) s.out) (flat_map (stage_at k₀) s.monitors) (flat_map (sort_at k₀) s.back))
  row = subst (λ z. Allowed (local z (flat_map (sort_at k₀) s.out) (flat_map (stage_at k₀) s.monitors) (flat_map (sort_at k₀) s.back))) fresh-phases (h.rows k₀)

  -- the place gives all that its key has
  place : {B : Type 0} (f : Request → List B) → flat_map f s.table ≡ [] → flat_map f t.table ≡ f c.r
  place f e =
      let p = append-none (flat_map f c.pre) (flat_map f c.post) (rw (c.was, flat_map-append) at e) in
      rw (c.is, flat_map-append, p.0, p.1, append-nil)

  row_is : local-of t k₀ ≡ local (Asked ∷ []) (flat_map (sort_at k₀) s.out ++ (MONITOR ∷ [])) (flat_map (stage_at k₀) s.monitors) (flat_map (sort_at k₀) s.back)
  row_is =
      let a : flat_map (phase_at k₀) t.table ≡ Asked ∷ [] = place (phase_at k₀) fresh-phases ∙ rw (same_refl k₀, c.phase) in
      let b : flat_map (sort_at k₀) t.out ≡ flat_map (sort_at k₀) s.out ++ (MONITOR ∷ []) = flat_map-behind (sort_at k₀) s.out c.sent c.out (sent-here c.sent_as) in
      λ i. local (a i) (b i) (flat_map (stage_at k₀) (c.monitors i)) (flat_map (sort_at k₀) (c.back i))

  open-rows : Rows t
  open-rows = rows_step k₀ s t (record {
    table = subst₂ (Apart phase_at k₀) (sym c.was) (sym c.is) (apart-put phase_at k₀ c.pre [] (c.r ∷ []) c.post (λ j e. refl) (λ j e. rw e));
    out = subst (Apart sort_at k₀ s.out) (sym c.out) (apart-push sort_at k₀ s.out c.sent (sent-of c.sent_as));
    monitors = subst (Apart stage_at k₀ s.monitors) (sym c.monitors) (apart_none stage_at k₀ s.monitors);
    back = subst (Apart sort_at k₀ s.back) (sym c.back) (apart_none sort_at k₀ s.back);
    here = λ _. subst⁻¹ Allowed row_is (open_stays _ _ _ row);
  }) h.rows

  numbers : Apart number_at k₀ s.table t.table
  numbers = subst₂ (Apart number_at k₀) (sym c.was) (sym c.is) (apart-put number_at k₀ c.pre [] (c.r ∷ []) c.post (λ j e. refl) (λ j e. rw e))

  number-here : num t k₀ ≡ s.next ∷ []
  number-here = place (number_at k₀) fresh-numbers ∙ rw (same_refl k₀, c.number)

  open_order : Asc (num t) 0 (queue t)
  open_order =
      let q = unowned-of _ _ _ row in
      let e : queue t ≡ queue s ++ (k₀ ∷ []) = ap₂ (λ a b. a ++ b) (ap (flat_map monitor-one) c.monitors) (flat_map-behind asked-one s.out c.sent c.out (sent-monitor c.sent_as)) ∙ sym (append_assoc (flat_map monitor-one s.monitors) (flat_map asked-one s.out) (k₀ ∷ [])) in
      rw e (asc-snoc (queue s) k₀ s.next (agree-apart (num s) (num t) k₀ numbers (queue s) (absent s k₀ q.0 q.1)) h.below number-here (omega arith) h.order)

  open-below : (k : Key) (n : ℕ) → num t k ≡ n ∷ [] → n < t.next
  open-below k n e = rw c.next (by (same k₀ k) refl)
    where
      by : (b : Bool) → same k₀ k ≡ b → n < suc s.next
      by true q =
          let z : num t k₀ ≡ n ∷ [] = subst (λ j. num t j ≡ n ∷ []) (sym (same-sound k₀ k q)) e in
          let y = number-here in
          let w : s.next ≡ n = cc in
          omega arith
      by false q = let l = h.below k n (numbers k q ∙ e) in omega arith

  open-held : (x i : ℕ) → length (flat_map (held_at x i) t.table) ≡ count (t.marked x i)
  open-held x i =
      let b : Bool = eqb c.r.key.caller x && eqb c.r.key.identifier i in
      let P = length (flat_map (held_at x i) c.pre) in
      let Q = length (flat_map (held_at x i) c.post) in
      let was : P + Q ≡ count (s.marked x i) = simp (flat_map-append, length-append) at (rw c.was at (h.held x i)) in
      let more : count b + (P + Q) ≡ count (s.marked x i || b) = count-more (s.marked x i) b (P + Q) was now-held in
      rw (c.is, c.marked) (simp (flat_map-append, length-append, only-count) (omega arith))
    where
      now-held : (eqb c.r.key.caller x && eqb c.r.key.identifier i) ≡ true → s.marked x i ≡ false
      now-held e =
          let p = and_parts (eqb c.r.key.caller x) (eqb c.r.key.identifier i) e in
          subst₂ (λ u v. s.marked u v ≡ false) (eqb-true c.r.key.caller x p.0) (eqb-true c.r.key.identifier i p.1) c.unheld

  abbrev o : Opening
  o = opening c.r

  abbrev A : List Opening
  A = flat_map live_one c.pre

  abbrev D : List Opening
  D = flat_map live_one c.post

  lives-was : lives s ≡ A ++ D
  lives-was = rw (c.was, flat_map-append)

  lives-is : lives t ≡ A ++ (o ∷ D)
  lives-is = rw (c.is, flat_map-append, c.phase)

  open-five : (x : ℕ) → length (flat_map (caller_at x) (lives t)) ≤ 5
  open-five x = rw lives-is (by (eqb c.r.key.caller x) refl)
    where
      by : (b : Bool) → eqb c.r.key.caller x ≡ b → length (flat_map (caller_at x) (A ++ (o ∷ D))) ≤ 5
      by true q =
          let l : length (flat_map (caller_at x) (A ++ D)) < 5 = rw (← eqb-true c.r.key.caller x q, ← lives-was) c.room in
          simp (flat_map-append, length-append, q) (omega (arith, simp (flat_map-append, length-append) at l))
      by false q =
          let l : length (flat_map (caller_at x) (A ++ D)) ≤ 5 = rw (← lives-was) (h.five x) in
          simp (flat_map-append, q) (rw flat_map-append at l)

  -- the called party is the one last retained
  opened-is : opened_in t ≡ o ∷ opened_in s
  opened-is = rw (c.history, ← (retained-last s g c.r.key.caller c.call c.before c.entry c.after c.r.key.called c.retained c.runs))

  ended_is : ended_in t ≡ ended_in s
  ended_is = rw c.history

  open-ledger : (n : ℕ) → Line (flat_map (number_of n) (opened_in t)) (flat_map (number_of n) (lives t)) (flat_map (equal_to n) (ended_in t))
  open-ledger n = rw (opened-is, ended_is, lives-is) (by (eqb c.r.number n) refl)
    where
      was : Line (flat_map (number_of n) (opened_in s)) (flat_map (number_of n) (A ++ D)) (flat_map (equal_to n) (ended_in s))
      was = rw lives-was at (h.ledger n)

      by : (b : Bool) → eqb c.r.number n ≡ b → Line (flat_map (number_of n) (o ∷ opened_in s)) (flat_map (number_of n) (A ++ (o ∷ D))) (flat_map (equal_to n) (ended_in s))
      by true q =
          let e = eqb-true c.r.number n q in
          let d = c.number in
          simp (flat_map-append, q) (line-opens o (flat_map (number_of n) A) (flat_map (number_of n) D) was (h.fresh n (omega arith)) (flat_map-append (number_of n) A D))
      by false q = simp (flat_map-append, q) (rw flat_map-append at was)

  open-fresh : (n : ℕ) → t.next ≤ n → flat_map (number_of n) (opened_in t) ≡ []
  open-fresh n l =
      let e = c.next in
      let d = c.number in
      let q : eqb c.r.number n ≡ false = ne_eqb c.r.number n (λ w. omega arith) in
      rw (opened-is, q) (h.fresh n (omega arith))

  pub open-sound : Sound t
  open-sound = record {
    rows = open-rows;
    order = open_order;
    below = open-below;
    held = open-held;
    five = open-five;
    ledger = open-ledger;
    fresh = open-fresh;
    total = let e = h.total in let d = ap length lives-was in let f = ap length lives-is in rw (opened-is, ended_is) ((omega (arith, length-append A D, length-append A (o ∷ D))));
  }
