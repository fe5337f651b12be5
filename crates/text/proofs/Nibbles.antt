-- Hex digits, written and read back.
use Rattle.std.proofs.Common.{◌≡◌, ℕ, suc, ◌+◌, ◌/◌, ◌%◌, ◌<◌, List, [], ◌∷◌, ◌++◌, length, get_or, take, Some, refl, sym, ap, ◌∙◌, append_assoc, arith}
use Rattle.std.proofs.lemmas.Bool.Decides.{nat_tests}
use Rattle.std.proofs.lemmas.List.{take_more}
use Rattle.std.specs.Char.{digit_char}
use Rattle.hex.specs.Hex.{hex_digit_value}
use Rattle.text.specs.Numbers.{linked}
use Rattle.text.specs.Hex.{hex_byte, hex_bytes, hex_of}

digit-back : (d : ℕ) → d < 16 → hex_digit_value (digit_char d) ≡ Some d
digit-back d small = grind (arith, nat_tests)

byte-back : (b : ℕ) → b < 256 → hex_byte (hex_digit_value (digit_char (b / 16))) (hex_digit_value (digit_char (b % 16))) ≡ Some b
byte-back b small = rw (digit-back (b / 16) (omega arith), digit-back (b % 16) (omega arith)) (ap Some (omega arith))

-- reading gives back what is written
pub reads_back : (bs : List ℕ) → ((i : ℕ) → get_or bs i 0 < 256) → hex_bytes (hex_of bs) ≡ Some bs
reads_back [] small = refl
reads_back (b ∷ bs) small = ap (λ o. linked o (hex_bytes (hex_of bs))) (byte-back b (small 0)) ∙ ap (linked (Some b)) (reads_back bs (λ i. small (suc i)))

hex_of-append : (xs ys : List ℕ) → hex_of (xs ++ ys) ≡ hex_of xs ++ hex_of ys
hex_of-append [] ys = refl
hex_of-append (x ∷ xs) ys = ap (λ ds. digit_char (x / 16) ∷ digit_char (x % 16) ∷ ds) (hex_of-append xs ys)

-- two digits more are written
pub hex_of-more : (before : List ℕ) (bs : List ℕ) (i : ℕ) → i < length bs
    → before ++ hex_of (take i bs) ++ digit_char (get_or bs i 0 / 16) ∷ [] ++ digit_char (get_or bs i 0 % 16) ∷ [] ≡ before ++ hex_of (take (i + 1) bs)
hex_of-more before bs i within =
    let d = get_or bs i 0 in
    append_assoc (before ++ hex_of (take i bs)) (digit_char (d / 16) ∷ []) (digit_char (d % 16) ∷ [])
    ∙ append_assoc before (hex_of (take i bs)) (digit_char (d / 16) ∷ digit_char (d % 16) ∷ [])
    ∙ ap (λ ds. before ++ ds) (sym (ap hex_of (take_more bs i 0 within) ∙ hex_of-append (take i bs) (d ∷ [])))
