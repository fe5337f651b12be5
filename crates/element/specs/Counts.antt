-- A count up to five is its own code, in 3 bits.
use Rattle.std.specs.Prelude.{◌≡◌, ℕ, ◌≤◌, Bool, true, false, cond, min, Some, None, Option, nat_le, refl}
use Rattle.std.proofs.Common.{ap, ◌∙◌, arith, lit<, lit≤}
use Rattle.std.proofs.lemmas.Bool.{leb-true, le-leb, cond-true}
use mathlib.Core.HLevel.{is_prop→PathP}
use native.Mathlib.Bridge.{le_prop}
use Rattle.element.specs.Codings.{Coding}
use Rattle.element.specs.declared.counts.UpToFive.{UpToFive}

abbrev pub count_of : ℕ → UpToFive
count_of v = record { count = min v 5; few = omega arith }

abbrev pub count-listed : ℕ → Option UpToFive
count-listed v = cond (nat_le v 5) (Some (count_of v)) None

pub same_count : (x y : UpToFive) → x.count ≡ y.count → x ≡ y
same_count x y e = λ i. record { count = e i; few = is_prop→PathP (λ j. e j ≤ 5) (λ j. le_prop) x.few y.few i }

pub count-back : (x : UpToFive) → count-listed x.count ≡ Some x
count-back x = let small = x.few in cond-true _ _ _ (le-leb x.count 5 x.few) ∙ ap Some (same_count (count_of x.count) x (omega arith))

pub count-forth : (v : ℕ) (x : UpToFive) → count-listed v ≡ Some x → x.count ≡ v
count-forth v x h =
    let P : Bool → Type 0 = λ b. nat_le v 5 ≡ b → cond b (Some (count_of v)) None ≡ Some x → x.count ≡ v in
    let cases : (b : Bool) → P b = λ b. elim b as P [
      | true ↦ (λ e k. let q : count_of v ≡ x = cc in let l = leb-true v 5 e in omega (arith, ap (λ c. c.count) q))
      | false ↦ (λ e k. let z : ◌≡◌ {A = ℕ} 0 1 = cc in absurd (omega arith))
    ] in
    cases (nat_le v 5) refl h

abbrev pub up_to_five : Coding UpToFive
up_to_five = record { width = 3; some = lit< tt; room = lit≤ tt; table = record { code = λ x. x.count; listed = count-listed; fits = λ x. let few = x.few in omega arith; back = count-back; forth = count-forth } }
