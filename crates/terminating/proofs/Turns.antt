-- The ways in which the calls change the monitors, and what each does to queues and to engaged monitors.
use Rattle.std.proofs.Common.{◌≡◌, ℕ, zero, suc, ◌+◌, ◌<◌, ◌≤◌, Bool, true, false, cond, ◌&&◌, T, eqb, ◌⊎◌, List, [], ◌∷◌, ◌++◌, length, get_or, map, filter, find, slice_get, Some, None, sum_by, count_by, sym, refl, ap, ◌∙◌, subst, inl, inr, append-nil, arith, eqb→eq}
use mathlib.Core.List.Sublist
use mathlib.Core.List.{Sublist}
use Rattle.std.specs.List.{remove, position_or_len}
use Rattle.std.proofs.lemmas.List.{map-append}
use Rattle.std.proofs.lemmas.List.Elements.{filter-append}
use Rattle.std.proofs.lemmas.List.Folds.{find_at}
use Rattle.std.proofs.lemmas.List.Sums.{sum_by-cons, sum_by_push, sum_by-set, passes_at_first}
use Rattle.std.proofs.lemmas.Option.{slice_get_within, get_or_from_slice_get}
use Rattle.std.proofs.Math.Seq.{map-set_same}
use Rattle.fields.specs.declared.key.Key.{Key}
use Rattle.fields.specs.Values.{Identity}
use Rattle.record.specs.Search.{put_first, drop_first}
use Rattle.terminating.specs.declared.office.Monitor.{Monitor}
use Rattle.terminating.specs.declared.office.Stage.{Stage}
use Rattle.terminating.specs.declared.office.Stage.TheVariants.{Offered}
use Rattle.terminating.specs.Office.{is_for, is_waiting, is_engaged, at_stage, waits, engaged}
use Rattle.terminating.specs.Laws.{queue, Moved, OneEngaged}

abbrev tally : Bool → ℕ
tally b = cond b 1 0

module _ {X : Type 0} (p : X → Bool) (xs : List X) (m : X) (found : find p xs ≡ Some m) where
  stands : slice_get xs (position_or_len p xs) ≡ Some m
  stands = sym (find_at p xs) ∙ found

  within : position_or_len p xs < length xs
  within = slice_get_within xs _ m stands

  there : get_or xs (position_or_len p xs) m ≡ m
  there = get_or_from_slice_get xs _ m m stands

  pub first_passes : p m ≡ true
  first_passes = sym (ap p there) ∙ passes_at_first p xs m within

  -- what is put weighs no more than k above what stood
  pub put-sum : (f : X → ℕ) (k : ℕ) (y : X) → f y ≤ f m + k → sum_by f (put_first p y xs) ≤ sum_by f xs + k
  put-sum f k y h = omega (arith, sum_by-set f xs (position_or_len p xs) y m within, ap f there)

  put-map : {Y : Type 0} (f : X → Y) (y : X) → f y ≡ f m → map f (put_first p y xs) ≡ map f xs
  put-map f y e = map-set_same f xs (position_or_len p xs) y m (e ∙ sym (ap f there))

pub none-count : {X : Type 0} (p : X → Bool) (xs : List X) → find p xs ≡ None → count_by p xs ≡ 0
none-count p [] e = refl
none-count p (x ∷ xs) e =
    elim (p x) as (λ b. p x ≡ b → cond b (Some x) (find p xs) ≡ None → count_by p (x ∷ xs) ≡ 0) [
      | true ↦ λ is at. cc
      | false ↦ λ is at.
          let here : tally (p x) ≡ 0 = ap tally is in
          omega (arith, sum_by-cons (λ y. tally (p y)) x xs, here, none-count p xs at)
    ] refl e

pub remove-sum : {X : Type 0} (f : X → ℕ) (xs : List X) (i : ℕ) → sum_by f (remove xs i) ≤ sum_by f xs
remove-sum f [] zero = omega arith
remove-sum f [] (suc i) = omega arith
remove-sum f (x ∷ xs) zero = omega (arith, sum_by-cons f x xs)
remove-sum f (x ∷ xs) (suc i) = omega (arith, remove-sum f xs i, sum_by-cons f x xs, sum_by-cons f x (remove xs i))

pub drop-sum : {X : Type 0} (p : X → Bool) (f : X → ℕ) (xs : List X) → sum_by f (drop_first p xs) ≤ sum_by f xs
drop-sum p f xs = remove-sum f xs (position_or_len p xs)

-- the keys of what is left, and of what a filter lets through, are among those that were
remove-part : {X Y : Type 0} (f : X → Y) (q : Y → Bool) (xs : List X) (i : ℕ) → Sublist (filter q (map f (remove xs i))) (filter q (map f xs))
remove-part f q [] zero = Sublist.refl []
remove-part f q [] (suc i) = Sublist.refl []
remove-part f q (x ∷ xs) zero =
    elim (q (f x)) as (λ b. Sublist (filter q (map f xs)) (cond b (f x ∷ filter q (map f xs)) (filter q (map f xs)))) [
      | true ↦ Sublist.cons (f x) (Sublist.refl (filter q (map f xs)))
      | false ↦ Sublist.refl (filter q (map f xs))
    ]
remove-part f q (x ∷ xs) (suc i) =
    elim (q (f x)) as (λ b. Sublist (cond b (f x ∷ filter q (map f (remove xs i))) (filter q (map f (remove xs i)))) (cond b (f x ∷ filter q (map f xs)) (filter q (map f xs)))) [
      | true ↦ Sublist.cons-cons (f x) (remove-part f q xs i)
      | false ↦ remove-part f q xs i
    ]

put-queue : (n : Identity) (p : Monitor → Bool) (ms : List Monitor) (m : Monitor) → find p ms ≡ Some m → (y : Monitor) → y.key ≡ m.key → queue n (put_first p y ms) ≡ queue n ms
put-queue n p ms m e y same = ap (filter (λ (k : Key). eqb k.called.bits n.bits)) (put-map p ms m e (λ (x : Monitor). x.key) y same)

store-queue : (n : Identity) (m : Monitor) (ms : List Monitor) → queue n (ms ++ m ∷ []) ≡ queue n ms ++ cond (is_for n m) (m.key ∷ []) []
store-queue n m ms = simp (map-append, filter-append)

same_queue : {q after : List Key} → after ≡ q → Moved q after
same_queue {q} e = inl (subst (λ l. Sublist l q) (sym e) (Sublist.refl q))

stored-queue : (n : Identity) (m : Monitor) (ms : List Monitor) → Moved (queue n ms) (queue n (ms ++ m ∷ []))
stored-queue n m ms =
    elim (is_for n m) as (λ b. queue n (ms ++ m ∷ []) ≡ queue n ms ++ cond b (m.key ∷ []) [] → Moved (queue n ms) (queue n (ms ++ m ∷ []))) [
      | true ↦ λ e. inr (m.key, e)
      | false ↦ λ e. same_queue (e ∙ append-nil (queue n ms))
    ] (store-queue n m ms)

-- a change of the monitors that keeps the laws
pub record Turn (ms after : List Monitor) : Type 0 where
  pub queues : (n : Identity) → Moved (queue n ms) (queue n after)
  pub one : OneEngaged ms → OneEngaged after

pub kept : (ms : List Monitor) → Turn ms ms
kept ms = record { queues = λ n. same_queue refl; one = λ h. h }

pub erased : (p : Monitor → Bool) (ms : List Monitor) → Turn ms (drop_first p ms)
erased p ms = record {
  queues = λ n. inl (remove-part (λ (m : Monitor). m.key) (λ (k : Key). eqb k.called.bits n.bits) ms (position_or_len p ms));
  one = λ h n. omega (arith, h n, drop-sum p (λ m. tally (is_engaged n m)) ms);
}

idle : (b : Bool) → tally (b && false) ≡ 0
idle true = refl
idle false = refl

pub stored : (m : Monitor) (ms : List Monitor) → engaged m.stage ≡ false → Turn ms (ms ++ m ∷ [])
stored m ms e = record {
  queues = λ n. stored-queue n m ms;
  one = λ h n.
      let none : tally (is_engaged n m) ≡ 0 = rw e (idle (is_for n m)) in
      omega (arith, h n, none, sum_by_push (λ x. tally (is_engaged n x)) ms m);
}

-- the line is held for the new stage only if it was for the old
abbrev pub Holds : Bool → Bool → Type 0
Holds new old = (new ≡ false) ⊎ (old ≡ true)

weight : (b new old : Bool) → Holds new old → tally (b && new) ≤ tally (b && old) + 0
weight false new old h = omega arith
weight true true true h = omega arith
weight true false old h = omega arith
weight true true false (inl e) = absurd (let z : ◌≡◌ {A = ℕ} 0 1 = cc in omega arith)
weight true true false (inr e) = absurd (let z : ◌≡◌ {A = ℕ} 0 1 = cc in omega arith)

pub turned : (p : Monitor → Bool) (m : Monitor) (at : Stage) (ms : List Monitor) → find p ms ≡ Some m → Holds (engaged at) (engaged m.stage)
    → Turn ms (put_first p (at_stage at m) ms)
turned p m at ms e h = record {
  queues = λ n. same_queue (put-queue n p ms m e (at_stage at m) refl);
  one = λ before n.
      omega (arith, before n, put-sum p ms m e (λ x. tally (is_engaged n x)) 0 (at_stage at m) (weight (is_for n m) (engaged at) (engaged m.stage) h));
}

small : (b : Bool) (k : ℕ) → tally b ≤ k + 1
small true k = omega arith
small false k = omega arith

same_bits : (a b : ℕ) → eqb a b ≡ true → a ≡ b
same_bits a b e = eqb→eq a b (subst T (sym e) tt)

left : (a b : Bool) → (a && b) ≡ true → a ≡ true
left true b e = refl
left false b e = e

-- none is engaged, and the first that waits is offered
pub offered : (l : Identity) (m : Monitor) (ms : List Monitor) → find (is_engaged l) ms ≡ None → find (is_waiting l) ms ≡ Some m
    → Turn ms (put_first (is_waiting m.key.called) (at_stage Offered m) ms)
offered l m ms none e =
    let same : m.key.called.bits ≡ l.bits = same_bits _ _ (left _ _ (first_passes (is_waiting l) ms m e)) in
    let at : find (is_waiting m.key.called) ms ≡ Some m =
    subst (λ (b : ℕ). find (λ (x : Monitor). eqb x.key.called.bits b && waits x.stage) ms ≡ Some m) (sym same) e in
    record {
      queues = λ n. same_queue (put-queue n (is_waiting m.key.called) ms m at (at_stage Offered m) refl);
      one = λ before n.
          elim (is_for n m) as (λ b. is_for n m ≡ b → count_by (is_engaged n) (put_first (is_waiting m.key.called) (at_stage Offered m) ms) ≤ 1) [
            | true ↦ λ is.
                let line : n.bits ≡ l.bits = sym (same_bits _ _ is) ∙ same in
                let zero : count_by (is_engaged n) ms ≡ 0 =
                subst (λ (b : ℕ). count_by (λ (x : Monitor). eqb x.key.called.bits b && engaged x.stage) ms ≡ 0) (sym line) (none-count (is_engaged l) ms none) in
                omega (arith, zero, put-sum (is_waiting m.key.called) ms m at (λ x. tally (is_engaged n x)) 1 (at_stage Offered m) (small (is_engaged n (at_stage Offered m)) (tally (is_engaged n m))))
            | false ↦ λ is.
                let light : tally (is_engaged n (at_stage Offered m)) ≤ tally (is_engaged n m) + 0 =
                subst (λ (b : Bool). tally (b && true) ≤ tally (is_engaged n m) + 0) (sym is) (omega arith) in
                omega (arith, before n, put-sum (is_waiting m.key.called) ms m at (λ x. tally (is_engaged n x)) 0 (at_stage Offered m) light)
          ] refl;
    }
