-- The fields of a number are those that it was packed from, and the other way about.
use Rattle.std.proofs.Common.{◌≡◌, ℕ, ◌+◌, ◌*◌, ◌/◌, ◌%◌, ◌^◌, ◌<◌, List, [], ◌∷◌, sym, refl, ap, ◌∙◌, mod-eq_of_lt, mul_assoc, arith, pow_pos, pow-add}
use native.Mathlib.Nat.{mul-add-div_right, mul-add-mod_self_right}
use lib.Arith.{digits_lt, digits_div, mod-mul}
use Rattle.frame.specs.Layout.{total, packed, split, Within}

pub packed_lt : (ws vs : List ℕ) → Within ws vs → packed ws vs < 2 ^ total ws
packed_lt [] [] h = omega arith
packed_lt [] (v ∷ vs) h = absurd h
packed_lt (w ∷ ws) [] h = absurd h
packed_lt (w ∷ ws) (v ∷ vs) h = rw pow-add (digits_lt h.0 (packed_lt ws vs h.1))

-- what stands above the fields does not count
split-above : (ws : List ℕ) (a n : ℕ) → split ws (a * 2 ^ total ws + n) ≡ split ws n
split-above [] a n = refl
split-above (w ∷ ws) a n =
    let higher : a * 2 ^ (w + total ws) + n ≡ a * 2 ^ w * 2 ^ total ws + n = ap (λ m. m + n) (rw (pow-add, mul_assoc)) in
    let here : (a * 2 ^ w * 2 ^ total ws + n) / 2 ^ total ws % 2 ^ w ≡ n / 2 ^ total ws % 2 ^ w =
    ap (λ m. m % 2 ^ w) (mul-add-div_right (pow_pos (total ws)) (a * 2 ^ w) n) ∙ mul-add-mod_self_right a (2 ^ w) (n / 2 ^ total ws) in
    ap (split (w ∷ ws)) higher ∙ (λ i. here i ∷ split-above ws (a * 2 ^ w) n i)

pub split-packed : (ws vs : List ℕ) → Within ws vs → split ws (packed ws vs) ≡ vs
split-packed [] [] h = refl
split-packed [] (v ∷ vs) h = absurd h
split-packed (w ∷ ws) [] h = absurd h
split-packed (w ∷ ws) (v ∷ vs) h =
    let here : (v * 2 ^ total ws + packed ws vs) / 2 ^ total ws % 2 ^ w ≡ v =
    ap (λ m. m % 2 ^ w) (digits_div v (packed_lt ws vs h.1)) ∙ mod-eq_of_lt h.0 in
    λ i. here i ∷ (split-above ws v (packed ws vs) ∙ split-packed ws vs h.1) i

packed-low : (ws : List ℕ) (n : ℕ) → packed ws (split ws n) ≡ n % 2 ^ total ws
packed-low [] n = omega arith
packed-low (w ∷ ws) n =
    ap (λ m. n / 2 ^ total ws % 2 ^ w * 2 ^ total ws + m) (packed-low ws n) ∙ sym (rw pow-add (mod-mul n (pow_pos w) (pow_pos (total ws))))

pub packed-split : (ws : List ℕ) (n : ℕ) → n < 2 ^ total ws → packed ws (split ws n) ≡ n
packed-split ws n h = packed-low ws n ∙ mod-eq_of_lt h
