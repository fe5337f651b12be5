-- What a word of digits is read as, digit by digit.
use Rattle.std.proofs.Common.{◌≡◌, ℕ, ◌+◌, ◌-◌, ◌*◌, ◌^◌, ◌<◌, ◌≤◌, Bool, true, false, cond, ◌⊎◌, List, [], ◌∷◌, ◌++◌, length, get_or, drop, Some, None, decimal, sym, ap, ◌∙◌, append_assoc, append-nil, pow-suc, add-one, arith, lit<}
use native.Mathlib.Nat.{pow-le-pow_right}
use Rattle.std.proofs.lemmas.List.{at_drop_more, at_drop_all}
use Rattle.std.proofs.lemmas.Bool.{and_from, le-leb}
use Rattle.std.proofs.lemmas.Bool.Decides.{nat_tests}
use Rattle.text.specs.Numbers.{is_digit, decimal_after, number_of, spaced_of}

pub a-digit : (b : ℕ) → 48 ≤ b → b ≤ 57 → is_digit b ≡ true
a-digit b low high = grind (arith, nat_tests)

pub no_digit : (b : ℕ) → (b < 48) ⊎ (57 < b) → is_digit b ≡ false
no_digit b out = grind (arith, nat_tests)

pub value-step : (ds : List ℕ) (v i : ℕ) (t : Bool) → i < length ds → is_digit (get_or ds i 0) ≡ t
    → decimal_after v (drop i ds) ≡ cond t (decimal_after (v * 10 + (get_or ds i 0 - 48)) (drop (i + 1) ds)) None
value-step ds v i t within is =
    at_drop_more (decimal_after v) ds i 0 within ∙ ap (λ b. cond b (decimal_after (v * 10 + (get_or ds i 0 - 48)) (drop (i + 1) ds)) None) is

pub value-end : (ds : List ℕ) (v i : ℕ) → length ds ≤ i → decimal_after v (drop i ds) ≡ Some v
value-end ds v i past = at_drop_all (decimal_after v) ds i past

-- i digits are of a value below 10 ^ i
pub value-below : (v i d : ℕ) → v < 10 ^ i → d < 10 → v * 10 + d < 10 ^ (i + 1)
value-below v i d h small = rw (add-one, pow-suc) (omega arith)

pub value_room : (v i j : ℕ) → v < 10 ^ i → i ≤ j → v < 10 ^ j
value_room v i j h fits = let p : 10 ^ i ≤ 10 ^ j = pow-le-pow_right {n = 10} (lit< tt) fits in omega arith

pub sized : (ds : List ℕ) → 0 < length ds → length ds ≤ 15 → number_of ds ≡ decimal_after 0 ds
sized ds some few = ap (λ t. cond t (decimal_after 0 ds) None) (and_from _ _ (le-leb 1 (length ds) some) (le-leb (length ds) 15 few))

pub spaced-more : (ns : List ℕ) (n : ℕ) → spaced_of (ns ++ n ∷ []) ≡ spaced_of ns ++ (32 ∷ decimal n)
spaced-more [] n = ap (λ ds. 32 ∷ ds) (append-nil (decimal n))
spaced-more (m ∷ ns) n = ap (λ ds. 32 ∷ (decimal m ++ ds)) (spaced-more ns n) ∙ ap (λ ds. 32 ∷ ds) (sym (append_assoc (decimal m) (spaced_of ns) (32 ∷ decimal n)))
