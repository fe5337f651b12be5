-- Items heard one after the other.
use Rattle.std.proofs.Common.{◌≡◌, ℕ, ◌+◌, ◌-◌, ◌<◌, ◌≤◌, suc, List, [], ◌∷◌, ◌++◌, Ok, Err, Result, sym, refl, ap, ◌∙◌, append_assoc, append-nil, length, arith}
use Rattle.std.proofs.lemmas.List.{length_push}
use Rattle.pdu.specs.Lists.{members, few_of, few_of-members, items_heard}
use Rattle.pdu.specs.declared.lists.Few.{Few}
use Rattle.source.specs.Hearing.{and_then, named}

-- what was heard, and then the rest
abbrev pub after : {S F A : Type 0} → List A → Result (List A × S) F → Result (List A × S) F
after xs r = named (λ ys. xs ++ ys) r

after-more : {S F A : Type 0} (xs : List A) (x : A) (r : Result (List A × S) F) → after xs (named (λ ys. x ∷ ys) r) ≡ after (xs ++ x ∷ []) r
after-more xs x (Ok p) = ap (λ ys. Ok (ys, p.1)) (sym (append_assoc xs (x ∷ []) p.0))
after-more xs x (Err e) = refl

module _ {S F A : Type 0} (item : S → Result (A × S) F) (n i : ℕ) (start s : S) (xs : List A) (heard : items_heard item n start ≡ after xs (items_heard item (n - i) s)) where
  next-heard : i < n → items_heard item n start ≡ after xs (and_then (item s) (λ x t. named (λ ys. x ∷ ys) (items_heard item (n - (i + 1)) t)))
  next-heard h =
      let e : n - i ≡ suc (n - (i + 1)) = omega arith in
      heard ∙ ap (λ k. after xs (items_heard item k s)) e

  -- an item that is refused
  pub stopped : (e : F) → i < n → item s ≡ Err e → items_heard item n start ≡ Err e
  stopped e h p = next-heard h ∙ ap (λ r. after xs (and_then r (λ x t. named (λ ys. x ∷ ys) (items_heard item (n - (i + 1)) t)))) p

  -- one item more
  pub one_more : (x : A) (rest : S) (new : List A) → i < n → item s ≡ Ok (x, rest) → new ≡ xs ++ x ∷ [] → items_heard item n start ≡ after new (items_heard item (n - (i + 1)) rest)
  one_more x rest new h p q =
      next-heard h ∙ ap (λ r. after xs (and_then r (λ x t. named (λ ys. x ∷ ys) (items_heard item (n - (i + 1)) t)))) p
      ∙ after-more xs x (items_heard item (n - (i + 1)) rest)
      ∙ ap (λ ys. after ys (items_heard item (n - (i + 1)) rest)) (sym q)

  -- as many as there are
  pub done : (few : Few A) → xs ≡ members few → n ≤ i → Ok (few, s) ≡ named few_of (items_heard item n start)
  done few p h =
      let e : n - i ≡ 0 = omega arith in
      let same : few_of xs ≡ few = ap few_of p ∙ few_of-members few in
      let heard : items_heard item n start ≡ Ok (xs, s) = heard ∙ ap (λ k. after xs (items_heard item k s)) e ∙ ap (λ ys. Ok (ys, s)) (append-nil xs) in
      ap (λ f. Ok (f, s)) (sym same) ∙ ap (named few_of) (sym heard)

pub pushed-length : {A : Type 0} (xs new : List A) (x : A) (i : ℕ) → length xs ≡ i → new ≡ xs ++ x ∷ [] → length new ≡ i + 1
pushed-length xs new x i p q = ap length q ∙ length_push xs x ∙ ap (λ n. n + 1) p
