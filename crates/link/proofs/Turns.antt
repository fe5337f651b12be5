-- A message put in the place after the last that waits.
use Rattle.std.proofs.Common.{◌≡◌, ◌≢◌, ℕ, zero, suc, ◌+◌, ◌<◌, true, false, [], ◌∷◌, ◌++◌, is_some, Option, ap, ◌∙◌, add-one, arith}
use Rattle.std.specs.Option.{unwrap_or}
use Rattle.std.proofs.lemmas.Bool.{lt-leb}
use Rattle.std.proofs.lemmas.Bool.Decides.{nat_tests}
use Rattle.std.proofs.lemmas.List.{replicate_more}
use Rattle.link.specs.declared.message.Message.{Message}
use Rattle.link.specs.Bounds.{length-ring}
use Rattle.link.specs.Places.{PutsAt}
use Rattle.link.specs.Queue.{full, send_list}
use Rattle.link.specs.Ring.{nobody, wrap, ring, waiting_in, Whole}

-- a write at the place after the last in use, that changes no other
appended : {X : Type 0} (c : ℕ) (at new : ℕ → X) (p : ℕ) → ((k : ℕ) → k ≢ p → new k ≡ at k)
    → (i n : ℕ) → i < c → n < c → p ≡ wrap c (i + n) → ring c new i (suc n) ≡ ring c at i n ++ new p ∷ []
appended c at new p other i zero h m e =
    let here : i ≡ p = grind (arith, nat_tests) in
    ap (λ k. new k ∷ []) here
appended c at new p other i (suc n) h m e =
    let apart : i ≡ p → ⊥ = grind (arith, nat_tests) in
    let next : wrap c (i + 1) < c = grind (arith, nat_tests) in
    let same : p ≡ wrap c (wrap c (i + 1) + n) = grind (arith, nat_tests) in
    let more = appended c at new p other (wrap c (i + 1)) n next (omega arith) same in
    λ j. other i apart j ∷ more j

-- the message m is put in the place after n that wait from place i on, and there are still c places
module _ (c : ℕ) (old : ℕ → Option Message) (c' : ℕ) (new : ℕ → Option Message) (p : ℕ) (m : Message) (size : c' ≡ c) (put : PutsAt old p m new)
    (i n : ℕ) (within : i < c) (room : n < c) (end : p ≡ wrap c (i + n)) where
  pub waiting_in-put : waiting_in c' new i (n + 1) ≡ send_list c (waiting_in c old i n) m
  waiting_in-put =
      let read : Option Message → Message = λ o. unwrap_or o nobody in
      let not_full : full c (waiting_in c old i n) ≡ false = lt-leb _ _ (rw length-ring room) in
      rw (size, not_full, add-one)
      (appended c (λ k. read (old k)) (λ k. read (new k)) p (λ k apart. ap read (put.elsewhere k apart)) i n within room end
      ∙ ap (λ o. waiting_in c old i n ++ read o ∷ []) put.here)

  pub Whole-put : Whole c old i n → Whole c' new i (n + 1)
  Whole-put whole =
      let more = appended c (λ k. is_some (old k)) (λ k. is_some (new k)) p (λ k apart. ap is_some (put.elsewhere k apart)) i n within room end in
      rw size (rw add-one more ∙ (λ j. whole j ++ is_some (put.here j) ∷ []) ∙ replicate_more n true)
