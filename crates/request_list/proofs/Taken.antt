-- The requests that are taken one by one.
use Rattle.std.proofs.Common.{◌≡◌, ℕ, suc, ◌-◌, ◌<◌, List, [], ◌∷◌, ◌++◌, length, map, Some, refl, sym, ap, subst, ◌∙◌, arith, append_assoc, length-append}
use Rattle.fields.specs.Values.{Identity}
use Rattle.requests.specs.declared.records.Request.{Request}
use Rattle.request_list.specs.declared.entries.ListedRequest.{ListedRequest}
use Rattle.request_list.specs.Lists.{listed_after, followed, first_listed, entry_of, five_of}

module _ (rs : List Request) (n : Identity) where
  abbrev left_from : ℕ → ℕ → List ListedRequest
  left_from k last = map entry_of (first_listed k rs n last)

  -- those taken, and those left to take, are the five
  abbrev pub Taken : List ListedRequest → ℕ → Type 0
  Taken xs last = xs ++ left_from (5 - length xs) last ≡ map entry_of (five_of rs n)

  five : Taken [] 0
  unfolding five_of
  five = refl

  pub none-taken : (xs : List ListedRequest) → xs ≡ [] → Taken xs 0
  none-taken xs e = subst (λ ys. Taken ys 0) (sym e) five

  module _ (xs : List ListedRequest) (last : ℕ) (h : Taken xs last) (within : length xs < 5) (r : Request) (is : Some r ≡ listed_after rs n last) where
    taken-more : Taken (xs ++ entry_of r ∷ []) r.number
    taken-more =
        let one : 5 - length xs ≡ suc (4 - length xs) = omega arith in
        let fewer : 5 - length (xs ++ entry_of r ∷ []) ≡ 4 - length xs = omega (arith, length-append xs (entry_of r ∷ [])) in
        ap (λ k. (xs ++ entry_of r ∷ []) ++ left_from k r.number) fewer
        ∙ (append_assoc xs (entry_of r ∷ []) (left_from (4 - length xs) r.number)
        ∙ (ap (λ o. xs ++ map entry_of (followed o (λ q. first_listed (4 - length xs) rs n q.number))) is ∙ (sym (ap (λ k. xs ++ left_from k last) one) ∙ h)))

    pub one-taken : (e : ListedRequest) → e ≡ entry_of r → (ys : List ListedRequest) → ys ≡ xs ++ e ∷ [] → Taken ys r.number
    one-taken e made ys pushed = subst (λ l. Taken l r.number) (sym (pushed ∙ ap (λ x. xs ++ x ∷ []) made)) taken-more
