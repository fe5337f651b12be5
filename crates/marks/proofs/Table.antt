-- The code agrees with the rule on every mask and identifier: one computed table.
use Rattle.std.proofs.Common.{◌≡◌, ℕ, ◌+◌, ◌-◌, ◌*◌, ◌%◌, ◌^◌, ◌<◌, Bool, true, false, cond, eqb, bit_and, bit_or, Some, None, Option, w8, sym, refl, ap, ◌∙◌, arith}
use mathlib.Core.HLevel.{is_prop→PathP}
use native.Mathlib.Bridge.{le_prop}
use lib.Count.{ones_in, ones, count_trailing_zeros}
use Rattle.std.specs.Int.{rotate_right}
use Rattle.std.specs.Option.{option_eq}
use Rattle.std.proofs.lemmas.Bool.{eqb-true, agree_below, agree_below_at}
use Rattle.fields.proofs.Same.{same-field}
use Rattle.fields.specs.Values.{Identifier, identifier_of}
use Rattle.marks.specs.declared.mask.Marks.{Marks}
use Rattle.marks.specs.Marks.{held_count, all_held, holding, releasing, next_from, identified, next_issued}

pub same-marks : (x y : Marks) → x.bits ≡ y.bits → x ≡ y
same-marks x y e = λ i. record { bits = e i; fits = is_prop→PathP (λ j. e j < 2 ^ 8) (λ j. le_prop) x.fits y.fits i }

abbrev always : ℕ → Bool
always _ = true

-- on every mask and identifier
abbrev everywhere : (ℕ → ℕ → Bool) → Bool
everywhere f = agree_below (λ h. agree_below (f h) always 8) always 256

module _ (f : ℕ → ℕ → Bool) (t : everywhere f ≡ true) (m : Marks) (i : Identifier) where
  from-everywhere : f m.bits i.bits ≡ true
  from-everywhere =
      agree_below_at (f m.bits) always 8 i.bits (agree_below_at (λ h. agree_below (f h) always 8) always 256 m.bits t m.fits) i.fits

-- the identifier after the last issued
abbrev start_after : ℕ → ℕ
start_after last = (last + 1) % 8

-- the first of those that are not held, with that at which the search begins moved to place 0
abbrev nearest : ℕ → ℕ → ℕ
nearest h from = (count_trailing_zeros 8 (rotate_right w8 (255 - h) from) + from) % 8

abbrev coded : ℕ → ℕ → Option ℕ
coded h last = cond (all_held h) None (Some (nearest h (start_after last)))

same : (a b : Option ℕ) → option_eq eqb a b ≡ true → a ≡ b
same None None t = refl
same None (Some y) t = cc
same (Some x) None t = cc
same (Some x) (Some y) t = ap Some (eqb-true x y t)

abbrev counts : ℕ → Bool
counts h = eqb (ones h) (held_count h)

abbrev holds : ℕ → ℕ → Bool
holds h i = eqb (bit_or h (1 * 2 ^ i % 256)) (holding h i % 2 ^ 8)

abbrev releases : ℕ → ℕ → Bool
releases h i = eqb (bit_and h (255 - 1 * 2 ^ i % 256)) (releasing h i % 2 ^ 8)

abbrev issues : ℕ → ℕ → Bool
issues h i = option_eq eqb (coded h i) (next_from 8 h (start_after i))

counted : agree_below counts always 256 ≡ true
unfolding ones ones_in
counted = refl

held : everywhere holds ≡ true
held = refl

released : everywhere releases ≡ true
released = refl

issued : everywhere issues ≡ true
unfolding count_trailing_zeros
issued = refl

module _ (m : Marks) where
  pub count-is : ones m.bits ≡ held_count m.bits
  count-is = eqb-true _ _ (agree_below_at counts always 256 m.bits counted m.fits)

  module _ (i : Identifier) where
    pub hold-is : bit_or m.bits (1 * 2 ^ i.bits % 256) ≡ holding m.bits i.bits % 2 ^ 8
    hold-is = eqb-true _ _ (from-everywhere holds held m i)

    pub release-is : bit_and m.bits (255 - 1 * 2 ^ i.bits % 256) ≡ releasing m.bits i.bits % 2 ^ 8
    release-is = eqb-true _ _ (from-everywhere releases released m i)

    coded-is : coded m.bits i.bits ≡ next_from 8 m.bits (start_after i.bits)
    coded-is = same _ _ (from-everywhere issues issued m i)

    pub none_is : all_held m.bits ≡ true → None ≡ next_issued m i
    none_is all = ap identified (sym (ap (λ b. cond b None (Some (nearest m.bits (start_after i.bits)))) all) ∙ coded-is)

    pub some_is : (x : Identifier) → all_held m.bits ≡ false → x.bits ≡ nearest m.bits (start_after i.bits) → Some x ≡ next_issued m i
    some_is x some e =
        let found = ap Some e ∙ (sym (ap (λ b. cond b None (Some (nearest m.bits (start_after i.bits)))) some) ∙ coded-is) in
        ap Some (same-field x (identifier_of x.bits) (omega (arith, x.fits))) ∙ ap identified found
