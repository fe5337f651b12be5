-- What becomes of the live requests, where one at one place stays live, ends, or was not live.
-- b says that it was live, b' that it is.
use Rattle.std.proofs.Common.{◌≡◌, ℕ, ◌+◌, ◌≤◌, Bool, true, false, not, ◌&&◌, eqb, List, ◌∷◌, ◌++◌, length, refl, arith, length-append}
use Rattle.std.proofs.lemmas.Bool.{false≢true}
use Rattle.std.specs.List.{flat_map}
use Rattle.std.proofs.lemmas.List.Concat.{flat_map-append}
use Rattle.agreement.specs.Agreement.{Line}
use Rattle.agreement.specs.Key.{Opening}
use Rattle.agreement.specs.State.{only_if, number_of, equal_to}
use Rattle.agreement.proofs.Ledger.{line-ends}

pub lives-fewer : {C : Type 0} (f : Opening → List C) (A D : List Opening) (o : Opening) (b b' : Bool) → (b' ≡ true → b ≡ true)
    → length (flat_map f (A ++ (only_if b' o ++ D))) ≤ length (flat_map f (A ++ (only_if b o ++ D)))
lives-fewer f A D o b b' h = grind (arith, flat_map-append, length-append)

pub lives-total : (A D : List Opening) (E : List ℕ) (o : Opening) (b b' : Bool) (t : ℕ) → (b' ≡ true → b ≡ true)
    → t ≡ length (A ++ (only_if b o ++ D)) + length E
    → t ≡ length (A ++ (only_if b' o ++ D)) + length (only_if (b && not b') o.number ++ E)
lives-total A D E o b b' t h e = grind (arith, length-append)

pub lives-line : (A D : List Opening) (E : List ℕ) (o : Opening) (b b' : Bool) (n : ℕ) {O : List Opening} → (b' ≡ true → b ≡ true)
    → Line O (flat_map (number_of n) (A ++ (only_if b o ++ D))) (flat_map (equal_to n) E)
    → Line O (flat_map (number_of n) (A ++ (only_if b' o ++ D))) (flat_map (equal_to n) (only_if (b && not b') o.number ++ E))
lives-line A D E o true true n h l = l
lives-line A D E o true false n {O} h l = go (eqb o.number n) refl
  where
    go : (q : Bool) → eqb o.number n ≡ q → Line O (flat_map (number_of n) (A ++ D)) (flat_map (equal_to n) (o.number ∷ E))
    go true q =
        let e : flat_map (number_of n) (A ++ (o ∷ D)) ≡ flat_map (number_of n) A ++ (o ∷ flat_map (number_of n) D) = rw (flat_map-append, q) in
        simp (flat_map-append, q) (line-ends o o.number (flat_map (number_of n) A) (flat_map (number_of n) D) l e)
    go false q = simp (flat_map-append, q) (simp (flat_map-append, q) at l)
lives-line A D E o false true n h l = absurd (false≢true (h refl))
lives-line A D E o false false n h l = l
