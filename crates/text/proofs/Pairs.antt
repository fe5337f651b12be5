-- What the library reads of hex digits.
use Rattle.std.proofs.Common.{◌≡◌, ℕ, ◌+◌, ◌*◌, ◌/◌, ◌%◌, List, [], ◌∷◌, length, Some, None, Ok, Err, Option, Result, refl, sym, ap, ◌∙◌, arith, true, false, cond, ◌==◌, ◌&&◌, ◌||◌, Bool, is_some, nat_le, ◌-◌}
use Rattle.std.specs.Prelude.{if◌then◌else◌, MatchResult}
use Rattle.std.proofs.lemmas.Bool.{ne_eqb}
use Rattle.std.proofs.lemmas.Bool.Decides.{nat_tests}
use Rattle.std.specs.Bool.{⊤}
use Rattle.std.specs.Char.{is_ascii_hexdigit}
use Rattle.std.specs.Int.{is_in_range}
use Rattle.std.specs.List.{list_all}
use Rattle.std.specs.Result.{result_ok}
use Rattle.hex.specs.Hex.{decode_pairs, decode_sized, digit_or_error, hex_digit_value, ◌>>=◌}
use Rattle.hex.specs.declared.error.FromHexError.{FromHexError}
use Rattle.hex.specs.declared.error.FromHexError.TheVariants.{OddLength, InvalidStringLength}
use Rattle.text.specs.Numbers.{linked}
use Rattle.text.specs.Hex.{hex_byte, hex_bytes, hex_array, of_length}

pair : (h l i : ℕ) (high low : Option ℕ) (rest : Result (List ℕ) FromHexError)
    → result_ok ((digit_or_error h i high >>= (λ a. digit_or_error l (i + 1) low >>= (λ b. Ok (a * 16 + b)))) >>= (λ byte. rest >>= (λ bytes. Ok (byte ∷ bytes))))
    ≡ linked (hex_byte high low) (result_ok rest)
pair h l i None low rest = refl
pair h l i (Some a) None rest = refl
pair h l i (Some a) (Some b) (Ok bytes) = refl
pair h l i (Some a) (Some b) (Err e) = refl

pairs : (i : ℕ) (ds : List ℕ) → result_ok (decode_pairs i ds) ≡ hex_bytes ds
unfolding decode_pairs
pairs i [] = refl
pairs i (d ∷ []) = refl
pairs i (h ∷ l ∷ ds) =
    pair h l i (hex_digit_value h) (hex_digit_value l) (decode_pairs (i + 2) ds)
    ∙ ap (linked (hex_byte (hex_digit_value h) (hex_digit_value l))) (pairs (i + 2) ds)

-- a text has two digits for each byte
abbrev IsWhole : List ℕ → Option (List ℕ) → Type 0
IsWhole ds None = ⊤
IsWhole ds (Some bytes) = length ds ≡ 2 * length bytes

link-whole : (h l : ℕ) (ds : List ℕ) (byte : Option ℕ) (rest : Option (List ℕ)) → IsWhole ds rest → IsWhole (h ∷ l ∷ ds) (linked byte rest)
link-whole h l ds None rest whole = tt
link-whole h l ds (Some b) None whole = tt
link-whole h l ds (Some b) (Some bytes) whole = omega (arith, whole)

whole : (ds : List ℕ) → IsWhole ds (hex_bytes ds)
whole [] = refl
whole (d ∷ []) = tt
whole (h ∷ l ∷ ds) = link-whole h l ds (hex_byte (hex_digit_value h) (hex_digit_value l)) (hex_bytes ds) (whole ds)

-- what tests whether a word is hex
one-of-three : (x y z : ℕ) (t u v : Bool) → is_some (if t then Some x else if u then Some y else if v then Some z else None) ≡ ((v || t) || u)
one-of-three x y z true true true = refl
one-of-three x y z true true false = refl
one-of-three x y z true false true = refl
one-of-three x y z true false false = refl
one-of-three x y z false true true = refl
one-of-three x y z false true false = refl
one-of-three x y z false false true = refl
one-of-three x y z false false false = refl

digit-known : (b : ℕ) → is_some (hex_digit_value b) ≡ is_ascii_hexdigit b
digit-known b = one-of-three (b - 55) (b - 87) (b - 48) (nat_le 65 b && nat_le b 70) (is_in_range 97 102 b) (is_in_range 48 57 b)

linked-known : (high low : Option ℕ) (rest : Option (List ℕ)) → is_some (linked (hex_byte high low) rest) ≡ (is_some high && (is_some low && is_some rest))
linked-known None low rest = refl
linked-known (Some h) None rest = refl
linked-known (Some h) (Some l) None = refl
linked-known (Some h) (Some l) (Some bytes) = refl

pub even-known : (ds : List ℕ) → length ds % 2 ≡ 0 → list_all is_ascii_hexdigit ds ≡ is_some (hex_bytes ds)
even-known [] even = refl
even-known (d ∷ []) even = absurd (omega (arith, even))
even-known (h ∷ l ∷ ds) even =
    sym (linked-known (hex_digit_value h) (hex_digit_value l) (hex_bytes ds) ∙ rw (digit-known h, digit-known l) (ap (λ t. is_ascii_hexdigit h && (is_ascii_hexdigit l && t)) (sym (even-known ds (omega (arith, even))))))

odd-whole : (ds : List ℕ) (o : Option (List ℕ)) → IsWhole ds o → ¬ (length ds % 2 ≡ 0) → is_some o ≡ false
odd-whole ds None whole odd = refl
odd-whole ds (Some bytes) whole odd = absurd (odd (omega (arith, whole)))

pub odd-known : (ds : List ℕ) → ¬ (length ds % 2 ≡ 0) → is_some (hex_bytes ds) ≡ false
odd-known ds odd = odd-whole ds (hex_bytes ds) (whole ds) odd

pub none-known : {A : Type 0} (o : Option A) → is_some o ≡ false → None ≡ o
none-known None is = refl
none-known (Some a) is = cc

-- a text of an odd length, and one of another length than is wanted
by-length : (ds : List ℕ) (n : ℕ) (r : Result (List ℕ) FromHexError) (o : Option (List ℕ)) → result_ok r ≡ o → IsWhole ds o
    → result_ok (if length ds % 2 == 1 then Err OddLength else if length ds / 2 == n then r else Err InvalidStringLength) ≡ of_length n o
by-length ds n r None is whole =
    elim (length ds % 2 == 1) as (λ t. result_ok (if t then Err OddLength else if length ds / 2 == n then r else Err InvalidStringLength) ≡ None) [
      | true ↦ refl
      | false ↦ elim (length ds / 2 == n) as (λ t. result_ok (if t then r else Err InvalidStringLength) ≡ None) [ true ↦ is | false ↦ refl ]
    ]
by-length ds n r (Some bytes) is whole =
    let even : (length ds % 2 == 1) ≡ false = ne_eqb _ _ (λ e. omega (arith, e, whole)) in
    let half : length ds / 2 ≡ length bytes = omega (arith, whole) in
    rw (even, half) (elim (length bytes == n) as (λ t. result_ok (if t then r else Err InvalidStringLength) ≡ cond t (Some bytes) None) [ true ↦ is | false ↦ refl ])

pub sized : (ds : List ℕ) (n : ℕ) → result_ok (decode_sized ds n) ≡ hex_array n ds
sized ds n = by-length ds n (decode_pairs 0 ds) (hex_bytes ds) (pairs 0 ds) (whole ds)

half-length : (ds : List ℕ) (o : Option (List ℕ)) → IsWhole ds o → of_length (length ds / 2) o ≡ o
half-length ds None whole = refl
half-length ds (Some bytes) whole = let half : length ds / 2 ≡ length bytes = omega (arith, whole) in rw half (grind (arith, nat_tests))

-- the library's reading, where there is room for a byte to two digits
pub halved : (ds : List ℕ) → result_ok (decode_sized ds (length ds / 2)) ≡ hex_bytes ds
halved ds = sized ds (length ds / 2) ∙ half-length ds (hex_bytes ds) (whole ds)

-- what `decode_to_slice` answers and writes, as the library states it
abbrev pub Decodes : Result (List ℕ) FromHexError → Result (Unit {0}) FromHexError → List ℕ → Type 0
Decodes wanted r out = MatchResult wanted (λ bytes. (r ≡ Ok tt) × (out ≡ bytes)) (λ e. r ≡ Err e)

pub decoded : (wanted : Result (List ℕ) FromHexError) (out : List ℕ) → Decodes wanted (Ok tt) out → Some out ≡ result_ok wanted
decoded (Ok bytes) out h = ap Some h.1
decoded (Err e) out h = cc h

pub refused : (wanted : Result (List ℕ) FromHexError) (e : FromHexError) (out : List ℕ) → Decodes wanted (Err e) out → None ≡ result_ok wanted
refused (Ok bytes) e out h = cc h.0
refused (Err d) e out h = refl
