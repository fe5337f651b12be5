-- A key is the same as another exactly when the test says so; what a record gives at its own key and at others.
use Rattle.std.proofs.Common.{◌≡◌, ℕ, ◌+◌, ◌≤◌, Bool, true, false, not, ◌&&◌, ◌||◌, eqb, List, [], ◌∷◌, length, refl, ap, subst, arith}
use Rattle.std.proofs.lemmas.Bool.Decides.{nat_tests}
use Rattle.std.specs.List.{flat_map}
use Rattle.agreement.proofs.Pieces.{not-cons}
use Rattle.agreement.specs.Key.{Key, same}
use Rattle.agreement.specs.State.{only_if}

pub same-sound : (a b : Key) → same a b ≡ true → a ≡ b
unfolding same
same-sound a b e =
    let i : a.identifier ≡ b.identifier = grind (arith, nat_tests) in
    let c : a.caller ≡ b.caller = grind (arith, nat_tests) in
    let d : a.called ≡ b.called = grind (arith, nat_tests) in
    λ t. record { identifier = i t; caller = c t; called = d t }

pub same_refl : (a : Key) → same a a ≡ true
unfolding same
same_refl a = grind (arith, nat_tests)

pub same-to : (a b : Key) → a ≡ b → same a b ≡ true
same-to a b e = subst (λ c. same a c ≡ true) e (same_refl a)

pub same-flip : (a b : Key) → same a b ≡ false → same b a ≡ false
unfolding same
same-flip a b e = grind (arith, nat_tests)

pub given : {B : Type 0} (b : Bool) (x : B) → b ≡ true → only_if b x ≡ x ∷ []
given b x e = ap (λ c. only_if c x) e

pub not-given : {B : Type 0} (b : Bool) (x : B) → b ≡ false → only_if b x ≡ []
not-given b x e = ap (λ c. only_if c x) e

pub only_none : {B : Type 0} (b : Bool) (x : B) → only_if b x ≡ [] → b ≡ false
only_none true x e = absurd (not-cons x [] e)
only_none false x e = refl

pub flat_map-only : {A B : Type 0} (g : A → List B) (b : Bool) (x : A) → g x ≡ [] → flat_map g (only_if b x) ≡ []
flat_map-only g true x e = rw e
flat_map-only g false x e = refl

pub one-long : {A B : Type 0} (b : Bool) (x : A) (y : B) → length (only_if b x) ≡ length (only_if b y)
one-long true x y = refl
one-long false x y = refl

abbrev pub count : Bool → ℕ
count true = 1
count false = 0

pub only-count : {A : Type 0} (b : Bool) (x : A) → length (only_if b x) ≡ count b
only-count true x = refl
only-count false x = refl

pub count_less : (m b : Bool) (n : ℕ) → count b + n ≡ count m → n ≡ count (m && not b)
count_less m b n e = grind arith

pub count-more : (m b : Bool) (n : ℕ) → n ≡ count m → (b ≡ true → m ≡ false) → count b + n ≡ count (m || b)
count-more m b n e h = grind arith

-- a key that is the same is of the same caller and identifier
pub same-held : (a b : Key) → (eqb a.caller b.caller && eqb a.identifier b.identifier) ≡ false → same a b ≡ false
unfolding same
same-held a b e = grind (arith, nat_tests)

pub count-one : (b : Bool) → count b ≤ 1
count-one true = omega arith
count-one false = omega arith
