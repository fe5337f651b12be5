-- An element whose table lists its values.
use Rattle.std.specs.Prelude.{◌≡◌, ℕ, ◌^◌, ◌<◌, ◌≤◌, Bool, true, false, cond, List, [], ◌∷◌, Some, ◌==◌, ◌&&◌, nat_lt, find, refl}
use Rattle.std.specs.List.{list_all}
use Rattle.std.proofs.Common.{sym, ap, ◌∙◌, arith}
use Rattle.std.proofs.lemmas.Bool.{eqb-true, ltb-true}
use Rattle.element.specs.Codings.{Coding}

pub find-code : {A : Type 0} (code : A → ℕ) (values : List A) (v : ℕ) (a : A) → find (λ x. code x == v) values ≡ Some a → code a ≡ v
find-code code [] v a h = let z : ◌≡◌ {A = ℕ} 0 1 = cc in absurd (omega arith)
find-code code (x ∷ more) v a h =
    let P : Bool → Type 0 = λ b. (code x == v) ≡ b → cond b (Some x) (find (λ y. code y == v) more) ≡ Some a → code a ≡ v in
    let cases : (b : Bool) → P b = λ b. elim b as P [
      | true ↦ (λ e k. let q : x ≡ a = cc in ap code (sym q) ∙ eqb-true (code x) v e)
      | false ↦ (λ e k. find-code code more v a k)
    ] in
    cases (code x == v) refl h

pub find-all : {A : Type 0} (test holds : A → Bool) (values : List A) (a : A) → list_all holds values ≡ true → find test values ≡ Some a → holds a ≡ true
find-all test holds [] a all h = let z : ◌≡◌ {A = ℕ} 0 1 = cc in absurd (omega arith)
find-all test holds (x ∷ more) a all h =
    let P : Bool → Bool → Type 0 = λ b c. holds x ≡ b → (b && list_all holds more) ≡ true → cond c (Some x) (find test more) ≡ Some a → holds a ≡ true in
    let cases : (b c : Bool) → P b c = λ b c. elim b as (λ b. P b c) [
      | true ↦ elim c as (λ c. P true c) [
        | true ↦ (λ e k l. let q : x ≡ a = cc in ap holds (sym q) ∙ e)
        | false ↦ (λ e k l. find-all test holds more a k l)
      ]
      | false ↦ (λ e k l. let z : ◌≡◌ {A = ℕ} 0 1 = cc in absurd (omega arith))
    ] in
    cases (holds x) (test x) refl all h

-- the values with their codes, in so many bits; every value finds itself by its code
pub record Listing (A : Type 0) : Type 0 where
  pub width : ℕ
  pub some : 0 < width
  pub room : width ≤ 32
  pub code : A → ℕ
  pub values : List A
  pub small : list_all (λ a. nat_lt (code a) (2 ^ width)) values ≡ true
  pub back : (a : A) → find (λ x. code x == code a) values ≡ Some a

abbrev pub listed : {A : Type 0} → Listing A → Coding A
listed l = record {
  width = l.width;
  some = l.some;
  room = l.room;
  table = record {
    code = l.code;
    listed = λ v. find (λ a. l.code a == v) l.values;
    fits = λ a. ltb-true (l.code a) (2 ^ l.width) (find-all (λ x. l.code x == l.code a) (λ x. nat_lt (l.code x) (2 ^ l.width)) l.values a l.small (l.back a));
    back = l.back;
    forth = λ v a h. find-code l.code l.values v a h;
  };
}
