-- What a bit more does to the bytes of a buffer, and what it puts out.
use Rattle.std.proofs.Common.{◌≡◌, ℕ, zero, suc, ◌+◌, ◌-◌, ◌*◌, ◌/◌, ◌%◌, ◌^◌, ◌<◌, ◌≤◌, Bool, ◌&&◌, nat_eq, List, [], ◌∷◌, ◌++◌, length, get_or, take, drop, set, replicate, Ok, Err, Result, sym, refl, ap, ◌∙◌, subst, ⊎_elim, append_assoc, append-nil, length-set, add-zero, div-one, pow-suc, arith, bit_and, ◌==◌}
use native.Mathlib.Nat.{div-div-eq-div-mul, pow-succ'}
use Rattle.std.specs.Cmp.Lexicographic.{pointwise}
use Rattle.std.specs.Int.{from_bool}
use Rattle.std.proofs.lemmas.Bool.{cases_lt, cond-true, cond-false, le-leb, lt-leb}
use Rattle.std.proofs.lemmas.Nat.{shl_whole, and_mask}
use Rattle.std.proofs.lemmas.List.{take_more, drop_more, set_at, get_or-drop, get_or-replicate, drop-set-lt, drop-drop, drop-replicate, take_more_set, take_all, take_at, take-replicate, length_push, length-take-le, get_or_append_left, get_or_push}
use Rattle.fields.specs.declared.refusal.Refusal.{Refusal}
use Rattle.fields.specs.declared.refusal.Refusal.TheVariants.{TooLittleRoom}
use Rattle.bits.specs.Bits.{byte_bits, unpack, digits, bytes_for, pack, Bitlike, Bytelike}
use Rattle.bits.specs.Buffers.{Adds, put_out}
use Rattle.bits.specs.Held.{held, Holds, held-whole, held-packed}
pub use Rattle.bits.specs.Held.{held-count}
use Rattle.bits.specs.declared.buffer.BitBuffer.TheInside.{Inside}
use Rattle.bits.proofs.BitLaws.{length-unpack, get_or-unpack, length_digits, take-bits, unpack-bits}
use Rattle.bits.proofs.PackLaws.{eight, packed, take-bytes}

bit0 : (x b : ℕ) (l : List ℕ) → b < 2 → x / 128 % 2 ≡ 0 → byte_bits (x + b * 128) ++ l ≡ set (byte_bits x ++ l) 0 b
bit0 x b l h z = eight l (omega arith) (omega arith) (omega arith) (omega arith) (omega arith) (omega arith) (omega arith) (omega arith)

up1 : (x b : ℕ) → b < 2 → x / 64 % 2 ≡ 0 → (x + b * 64) / 128 ≡ x / 128
up1 x b h z =
    let d : x / 64 / 2 ≡ x / 128 = div-div-eq-div-mul x 64 2 in
    let g : (x + b * 64) / 64 / 2 ≡ (x + b * 64) / 128 = div-div-eq-div-mul (x + b * 64) 64 2 in
    let q : (x + b * 64) / 64 ≡ x / 64 + b = omega arith in
    omega arith

bit1 : (x b : ℕ) (l : List ℕ) → b < 2 → x / 64 % 2 ≡ 0 → byte_bits (x + b * 64) ++ l ≡ set (byte_bits x ++ l) 1 b
bit1 x b l h z = eight l (ap (λ n. n % 2) (up1 x b h z)) (omega arith) (omega arith) (omega arith) (omega arith) (omega arith) (omega arith) (omega arith)

up2 : (x b : ℕ) → b < 2 → x / 32 % 2 ≡ 0 → (x + b * 32) / 64 ≡ x / 64
up2 x b h z =
    let d : x / 32 / 2 ≡ x / 64 = div-div-eq-div-mul x 32 2 in
    let g : (x + b * 32) / 32 / 2 ≡ (x + b * 32) / 64 = div-div-eq-div-mul (x + b * 32) 32 2 in
    let q : (x + b * 32) / 32 ≡ x / 32 + b = omega arith in
    omega arith

bit2 : (x b : ℕ) (l : List ℕ) → b < 2 → x / 32 % 2 ≡ 0 → byte_bits (x + b * 32) ++ l ≡ set (byte_bits x ++ l) 2 b
bit2 x b l h z = eight l (omega arith) (ap (λ n. n % 2) (up2 x b h z)) (omega arith) (omega arith) (omega arith) (omega arith) (omega arith) (omega arith)

up3 : (x b : ℕ) → b < 2 → x / 16 % 2 ≡ 0 → (x + b * 16) / 32 ≡ x / 32
up3 x b h z =
    let d : x / 16 / 2 ≡ x / 32 = div-div-eq-div-mul x 16 2 in
    let g : (x + b * 16) / 16 / 2 ≡ (x + b * 16) / 32 = div-div-eq-div-mul (x + b * 16) 16 2 in
    let q : (x + b * 16) / 16 ≡ x / 16 + b = omega arith in
    omega arith

bit3 : (x b : ℕ) (l : List ℕ) → b < 2 → x / 16 % 2 ≡ 0 → byte_bits (x + b * 16) ++ l ≡ set (byte_bits x ++ l) 3 b
bit3 x b l h z = eight l (omega arith) (omega arith) (ap (λ n. n % 2) (up3 x b h z)) (omega arith) (omega arith) (omega arith) (omega arith) (omega arith)

up4 : (x b : ℕ) → b < 2 → x / 8 % 2 ≡ 0 → (x + b * 8) / 16 ≡ x / 16
up4 x b h z =
    let d : x / 8 / 2 ≡ x / 16 = div-div-eq-div-mul x 8 2 in
    let g : (x + b * 8) / 8 / 2 ≡ (x + b * 8) / 16 = div-div-eq-div-mul (x + b * 8) 8 2 in
    let q : (x + b * 8) / 8 ≡ x / 8 + b = omega arith in
    omega arith

bit4 : (x b : ℕ) (l : List ℕ) → b < 2 → x / 8 % 2 ≡ 0 → byte_bits (x + b * 8) ++ l ≡ set (byte_bits x ++ l) 4 b
bit4 x b l h z = eight l (omega arith) (omega arith) (omega arith) (ap (λ n. n % 2) (up4 x b h z)) (omega arith) (omega arith) (omega arith) (omega arith)

up5 : (x b : ℕ) → b < 2 → x / 4 % 2 ≡ 0 → (x + b * 4) / 8 ≡ x / 8
up5 x b h z =
    let d : x / 4 / 2 ≡ x / 8 = div-div-eq-div-mul x 4 2 in
    let g : (x + b * 4) / 4 / 2 ≡ (x + b * 4) / 8 = div-div-eq-div-mul (x + b * 4) 4 2 in
    let q : (x + b * 4) / 4 ≡ x / 4 + b = omega arith in
    omega arith

bit5 : (x b : ℕ) (l : List ℕ) → b < 2 → x / 4 % 2 ≡ 0 → byte_bits (x + b * 4) ++ l ≡ set (byte_bits x ++ l) 5 b
bit5 x b l h z = eight l (omega arith) (omega arith) (omega arith) (omega arith) (ap (λ n. n % 2) (up5 x b h z)) (omega arith) (omega arith) (omega arith)

up6 : (x b : ℕ) → b < 2 → x / 2 % 2 ≡ 0 → (x + b * 2) / 4 ≡ x / 4
up6 x b h z =
    let d : x / 2 / 2 ≡ x / 4 = div-div-eq-div-mul x 2 2 in
    let g : (x + b * 2) / 2 / 2 ≡ (x + b * 2) / 4 = div-div-eq-div-mul (x + b * 2) 2 2 in
    let q : (x + b * 2) / 2 ≡ x / 2 + b = omega arith in
    omega arith

bit6 : (x b : ℕ) (l : List ℕ) → b < 2 → x / 2 % 2 ≡ 0 → byte_bits (x + b * 2) ++ l ≡ set (byte_bits x ++ l) 6 b
bit6 x b l h z = eight l (omega arith) (omega arith) (omega arith) (omega arith) (omega arith) (ap (λ n. n % 2) (up6 x b h z)) (omega arith) (omega arith)

bit7 : (x b : ℕ) (l : List ℕ) → b < 2 → x % 2 ≡ 0 → byte_bits (x + b * 1) ++ l ≡ set (byte_bits x ++ l) 7 b
bit7 x b l h z = eight l (omega arith) (omega arith) (omega arith) (omega arith) (omega arith) (omega arith) (omega arith) (omega arith)

pub set-bit : (bs : List ℕ) (p b : ℕ) → p < 8 * length bs → b < 2 → get_or (unpack bs) p 0 ≡ 0 → unpack (set bs (p / 8) (get_or bs (p / 8) 0 + b * 2 ^ (7 - p % 8))) ≡ set (unpack bs) p b
unfolding unpack
set-bit [] p b h l z = absurd (omega arith)
set-bit (x ∷ bs) (zero) b h l z = bit0 x b (unpack bs) l z
set-bit (x ∷ bs) (suc zero) b h l z = bit1 x b (unpack bs) l z
set-bit (x ∷ bs) (suc (suc zero)) b h l z = bit2 x b (unpack bs) l z
set-bit (x ∷ bs) (suc (suc (suc zero))) b h l z = bit3 x b (unpack bs) l z
set-bit (x ∷ bs) (suc (suc (suc (suc zero)))) b h l z = bit4 x b (unpack bs) l z
set-bit (x ∷ bs) (suc (suc (suc (suc (suc zero))))) b h l z = bit5 x b (unpack bs) l z
set-bit (x ∷ bs) (suc (suc (suc (suc (suc (suc zero)))))) b h l z = bit6 x b (unpack bs) l z
set-bit (x ∷ bs) (suc (suc (suc (suc (suc (suc (suc zero))))))) b h l z = bit7 x b (unpack bs) l z
set-bit (x ∷ bs) (suc (suc (suc (suc (suc (suc (suc (suc (p))))))))) b h l z =
    let p8 : ℕ = suc (suc (suc (suc (suc (suc (suc (suc (p)))))))) in
    let q : p8 / 8 ≡ suc (p / 8) = omega arith in
    let r : p8 % 8 ≡ p % 8 = omega arith in
    ap (λ i. unpack (set (x ∷ bs) i (get_or (x ∷ bs) i 0 + b * 2 ^ (7 - p8 % 8)))) q
    ∙ ap (λ j. byte_bits x ++ unpack (set bs (p / 8) (get_or bs (p / 8) 0 + b * 2 ^ (7 - j)))) r
    ∙ ap (λ m. byte_bits x ++ m) (set-bit bs p b (omega arith) l z)

-- a bit that is 0 has room for one
pub bit-room : (x s b : ℕ) → s < 8 → x < 256 → b < 2 → x / 2 ^ (7 - s) % 2 ≡ 0 → x + b * 2 ^ (7 - s) < 256
bit-room x (zero) b h m l z = let y : x / 128 % 2 ≡ 0 = z in omega arith
bit-room x (suc zero) b h m l z = let y : x / 64 % 2 ≡ 0 = z in omega arith
bit-room x (suc (suc zero)) b h m l z = let y : x / 32 % 2 ≡ 0 = z in omega arith
bit-room x (suc (suc (suc zero))) b h m l z = let y : x / 16 % 2 ≡ 0 = z in omega arith
bit-room x (suc (suc (suc (suc zero)))) b h m l z = let y : x / 8 % 2 ≡ 0 = z in omega arith
bit-room x (suc (suc (suc (suc (suc zero))))) b h m l z = let y : x / 4 % 2 ≡ 0 = z in omega arith
bit-room x (suc (suc (suc (suc (suc (suc zero)))))) b h m l z = let y : x / 2 % 2 ≡ 0 = z in omega arith
bit-room x (suc (suc (suc (suc (suc (suc (suc zero))))))) b h m l z = let y : x / 1 % 2 ≡ 0 = z in omega arith
bit-room x (suc (suc (suc (suc (suc (suc (suc (suc (s))))))))) b h m l z = absurd (omega arith)

pub take-over : (n : ℕ) (x y : List ℕ) → take n (take n x ++ y) ≡ take n (x ++ y)
take-over zero x y = refl
take-over (suc n) [] y = refl
take-over (suc n) (a ∷ x) y = ap (λ l. a ∷ l) (take-over n x y)

module _ (bs : List ℕ) (len b : ℕ) (long : length bs ≡ 34) (room : len < 272) (bit : b < 2) (clear : drop len (unpack bs) ≡ replicate (272 - len) 0) where
  abbrev pub pushed-bytes : List ℕ
  pushed-bytes = set bs (len / 8) (get_or bs (len / 8) 0 + b * 2 ^ (7 - len % 8) % 256)

  zero-here : get_or (unpack bs) len 0 ≡ 0
  zero-here =
      let k : 0 < 272 - len = omega arith in
      ap (λ n. get_or (unpack bs) n 0) (sym (add-zero len)) ∙ sym (get_or-drop len (unpack bs) 0 0) ∙ ap (λ l. get_or l 0 0) clear ∙ get_or-replicate (272 - len) 0 0 0 k

  shift-whole : b * 2 ^ (7 - len % 8) % 256 ≡ b * 2 ^ (7 - len % 8)
  shift-whole = let k : 1 + (7 - len % 8) ≤ 8 = omega arith in shl_whole b 1 (7 - len % 8) 8 bit k

  long-bits : length (unpack bs) ≡ 272
  long-bits = length-unpack bs ∙ ap (λ n. 8 * n) long

  set_here : unpack pushed-bytes ≡ set (unpack bs) len b
  set_here =
      ap (λ v. unpack (set bs (len / 8) (get_or bs (len / 8) 0 + v))) shift-whole
      ∙ set-bit bs len b (omega arith) bit zero-here

  pub pushed_room : get_or bs (len / 8) 0 < 256 → get_or bs (len / 8) 0 + b * 2 ^ (7 - len % 8) % 256 < 256
  pushed_room h =
      let z : get_or bs (len / 8) 0 / 2 ^ (7 - len % 8) % 2 ≡ 0 = sym (get_or-unpack bs len) ∙ zero-here in
      let k : len % 8 < 8 = omega arith in
      subst (λ v. get_or bs (len / 8) 0 + v < 256) (sym shift-whole) (bit-room (get_or bs (len / 8) 0) (len % 8) b k h bit z)

  pub pushed-clear : drop (len + 1) (unpack pushed-bytes) ≡ replicate (272 - (len + 1)) 0
  pushed-clear =
      let k : len < len + 1 = omega arith in
      let e : 272 - len - 1 ≡ 272 - (len + 1) = omega arith in
      ap (drop (len + 1)) set_here ∙ drop-set-lt (len + 1) (unpack bs) len b k
      ∙ sym (drop-drop 1 len (unpack bs)) ∙ ap (drop 1) clear ∙ drop-replicate 1 (272 - len) 0 ∙ ap (λ n. replicate n 0) e

  pub pushed-held : take (len + 1) (unpack pushed-bytes) ≡ take 272 (take len (unpack bs) ++ (b ∷ []))
  pushed-held =
      let l = long-bits in
      let t : length (take len (unpack bs)) ≡ len = length-take-le len (unpack bs) (omega arith) in
      let n : length (take len (unpack bs) ++ (b ∷ [])) ≤ 272 = omega (arith, length_push (take len (unpack bs)) b, t) in
      ap (take (len + 1)) set_here ∙ take_more_set (unpack bs) len b (omega arith) ∙ sym (take_all 272 (take len (unpack bs) ++ (b ∷ [])) n)

pub full-held : (bs : List ℕ) (len : ℕ) (xs : List ℕ) → length bs ≡ 34 → len ≤ 272 → 272 ≤ len → take len (unpack bs) ≡ take 272 (take len (unpack bs) ++ xs)
full-held bs len xs long room full =
    let l : length (unpack bs) ≡ 272 = length-unpack bs ∙ ap (λ n. 8 * n) long in
    let e : len ≡ 272 = omega arith in
    let t : length (take len (unpack bs)) ≡ 272 = length-take-le len (unpack bs) (omega arith) ∙ e in
    sym (take_at (take len (unpack bs)) xs 272 t)

-- the bits of a number, one after the other
pub get_or-digits : (w v i : ℕ) → i < w → get_or (digits w v) i 0 ≡ v / 2 ^ (w - 1 - i) % 2
unfolding digits
get_or-digits zero v i h = absurd (omega arith)
get_or-digits (suc w) v i h =
    ⊎_elim
    (λ below.
    let e : suc w - 1 - i ≡ suc (w - 1 - i) = omega arith in
    let d : v / 2 / 2 ^ (w - 1 - i) ≡ v / 2 ^ (suc w - 1 - i) = div-div-eq-div-mul v 2 (2 ^ (w - 1 - i)) ∙ ap (λ n. v / n) (sym (pow-succ' 2 (w - 1 - i))) ∙ ap (λ k. v / 2 ^ k) (sym e) in
    let l = length_digits w (v / 2) in
    get_or_append_left (digits w (v / 2)) (v % 2 ∷ []) 0 i (omega arith) ∙ get_or-digits w (v / 2) i below ∙ ap (λ n. n % 2) d)
    (λ above.
    let e : w ≡ i = omega arith in
    let z : suc w - 1 - i ≡ 0 = omega arith in
    get_or_push (digits w (v / 2)) (v % 2) 0 i (length_digits w (v / 2) ∙ e) ∙ ap (λ n. n % 2) (sym (div-one v)) ∙ ap (λ k. v / 2 ^ k % 2) (sym z))
    (cases_lt i w)

-- one bit of a number more
pub digits_more : (w p v : ℕ) → p ≤ w → 0 < p → digits (w - (p - 1)) (v / 2 ^ (p - 1)) ≡ digits (w - p) (v / 2 ^ p) ++ v / 2 ^ (p - 1) % 2 ∷ []
unfolding digits
digits_more w p v h k =
    let e : w - (p - 1) ≡ suc (w - p) = omega arith in
    let f : p ≡ suc (p - 1) = omega arith in
    let d : v / 2 ^ (p - 1) / 2 ≡ v / 2 ^ p = div-div-eq-div-mul v (2 ^ (p - 1)) 2 ∙ ap (λ n. v / n) (sym (pow-suc 2 (p - 1)) ∙ ap (λ n. 2 ^ n) (sym f)) in
    ap (λ n. digits n (v / 2 ^ (p - 1))) e ∙ ap (λ n. digits (w - p) n ++ v / 2 ^ (p - 1) % 2 ∷ []) d

flag : (n : ℕ) → n < 2 → from_bool (n == 1) ≡ n
flag zero h = refl
flag (suc zero) h = refl
flag (suc (suc n)) h = absurd (omega arith)

pub odd : (n : ℕ) → from_bool (bit_and n 1 == 1) ≡ n % 2
odd n = let small : n % 2 < 2 = omega arith in ap (λ b. from_bool (b == 1)) (and_mask n 1) ∙ flag (n % 2) small

pub adds_none : (f : List ℕ) → length f ≤ 272 → Adds f [] f
adds_none f room = record { is = sym (ap (take 272) (append-nil f) ∙ take_all 272 f room) }

-- one after the other
pub adds : {f g h xs ys : List ℕ} → Adds f xs g → Adds g ys h → Adds f (xs ++ ys) h
adds {f} {g} {h} {xs} {ys} p q =
    record { is = q.is ∙ ap (λ l. take 272 (l ++ ys)) p.is ∙ take-over 272 (f ++ xs) ys ∙ ap (take 272) (append_assoc f xs ys) }

pub copy_more : (xs ys : List ℕ) (i : ℕ) → i < length xs → i < length ys → set (take i xs ++ drop i ys) i (get_or xs i 0) ≡ take (i + 1) xs ++ drop (i + 1) ys
copy_more xs ys i h k =
    let l : length (take i xs) ≡ i = length-take-le i xs (omega arith) in
    ap (λ d. set (take i xs ++ d) i (get_or xs i 0)) (drop_more ys i 0 k)
    ∙ set_at (take i xs) (get_or ys i 0) (drop (i + 1) ys) (get_or xs i 0) i l
    ∙ sym (append_assoc (take i xs) (get_or xs i 0 ∷ []) (drop (i + 1) ys))
    ∙ ap (λ f. f ++ drop (i + 1) ys) (sym (take_more xs i 0 h))

pub take-unpack : (n : ℕ) (bs : List ℕ) → unpack (take n bs) ≡ take (8 * n) (unpack bs)
unfolding unpack
take-unpack zero bs = refl
take-unpack (suc n) [] = let e : 8 * suc n ≡ suc (8 * n + 7) = omega arith in ap (λ k. take k []) (sym e)
take-unpack (suc n) (b ∷ bs) =
    let e : 8 * suc n ≡ suc (suc (suc (suc (suc (suc (suc (suc (8 * n)))))))) = omega arith in
    ap (λ l. byte_bits b ++ l) (take-unpack n bs) ∙ ap (λ k. take k (byte_bits b ++ unpack bs)) (sym e)

take_past : (n : ℕ) (xs ys : List ℕ) → length xs ≤ n → take n (xs ++ ys) ≡ xs ++ take (n - length xs) ys
take_past n [] ys h = let e : n - 0 ≡ n = omega arith in ap (λ k. take k ys) (sym e)
take_past n (x ∷ xs) ys h =
    let e : n ≡ suc (n - 1) = omega arith in
    let f : n - 1 - length xs ≡ n - suc (length xs) = omega arith in
    ap (λ k. take k (x ∷ (xs ++ ys))) e ∙ ap (λ l. x ∷ l) (take_past (n - 1) xs ys (omega arith)) ∙ ap (λ k. x ∷ (xs ++ take k ys)) f

pub held-bits : (b : Inside) → Bitlike (held b)
held-bits b = take-bits b.len (unpack b.bytes) (unpack-bits b.bytes)

pub zeros-bytes : (n : ℕ) → Bytelike (replicate n 0)
zeros-bytes zero i = omega arith
zeros-bytes (suc n) zero = omega arith
zeros-bytes (suc n) (suc i) = zeros-bytes n i

set-bytes : (bs : List ℕ) (k v : ℕ) → v < 256 → Bytelike bs → Bytelike (set bs k v)
set-bytes [] k v h s i = s i
set-bytes (b ∷ bs) zero v h s zero = h
set-bytes (b ∷ bs) zero v h s (suc i) = s (suc i)
set-bytes (b ∷ bs) (suc k) v h s zero = s 0
set-bytes (b ∷ bs) (suc k) v h s (suc i) = set-bytes bs k v h (λ j. s (suc j)) i

pub adds_none-held : (f : Inside) → Holds f → Adds (held f) [] (held f)
adds_none-held f h = adds_none (held f) (omega (arith, held-count f h, h.room))

-- a full buffer stays as it is
pub full-adds : (f : Inside) (xs : List ℕ) → Holds f → 272 ≤ f.len → Adds (held f) xs (held f)
full-adds f xs h full = record { is = full-held f.bytes f.len xs h.long h.room full }

-- A buffer with a bit more.
module _ (f : Inside) (b : ℕ) (h : Holds f) (room : f.len < 272) (bit : b < 2) where
  abbrev pub pushed : Inside
  pushed = record { bytes = pushed-bytes f.bytes f.len b h.long room bit h.clear; len = f.len + 1 }

  pub pushed-adds : Adds (held f) (b ∷ []) (held pushed)
  pushed-adds = record { is = pushed-held f.bytes f.len b h.long room bit h.clear }

  pub pushed-holds : Holds pushed
  pushed-holds = record {
    long = simp length-set h.long;
    each = set-bytes f.bytes (f.len / 8) _ (pushed_room f.bytes f.len b h.long room bit h.clear (h.each (f.len / 8))) h.each;
    room = omega (arith, room);
    clear = pushed-clear f.bytes f.len b h.long room bit h.clear;
  }

-- buffers are the same where their bits are
pub same_held : {x y : Inside} {v w : List ℕ} {all bytes : Bool} → held x ≡ v → held y ≡ w → Holds x → Holds y → all ≡ (bytes && nat_eq x.len y.len) → bytes ≡ pointwise nat_eq x.bytes y.bytes →
    all ≡ (pointwise nat_eq (pack 34 v) (pack 34 w) && nat_eq (length v) (length w))
same_held {x} {y} p q h k e f = rw (← p, ← q, held-packed x h, held-packed y k, held-count x h, held-count y k) (e ∙ ap (λ b. b && nat_eq x.len y.len) f)

-- A buffer put out.
module _ (b : Inside) (h : Holds b) where
  front-size : length (take (bytes_for b.len) b.bytes) ≡ bytes_for b.len
  front-size = length-take-le (bytes_for b.len) b.bytes (omega (arith, h.room, h.long))

  front-bits : unpack (take (bytes_for b.len) b.bytes) ≡ held b ++ replicate (8 * bytes_for b.len - length (held b)) 0
  front-bits =
      let r = h.room in
      let c = held-count b h in
      let n = bytes_for b.len in
      take-unpack n b.bytes ∙ ap (take (8 * n)) (held-whole b h) ∙ take_past (8 * n) (held b) (replicate (272 - b.len) 0) (omega arith)
      ∙ ap (λ l. held b ++ l) (take-replicate (8 * n - length (held b)) (272 - b.len) 0 (omega arith))

  module _ (before : List ℕ) where
    pub refused : length before < bytes_for b.len → ◌≡◌ {A = Result ℕ Refusal × List ℕ} (Err TooLittleRoom, before) (put_out (held b) before)
    refused l = let c = held-count b h in sym (cond-false _ _ _ (lt-leb (bytes_for (length (held b))) (length before) (omega arith)))

    module _ (after : List ℕ) where
      pub gone-out : bytes_for b.len ≤ length before → after ≡ take (bytes_for b.len) b.bytes ++ drop (bytes_for b.len) before →
          ◌≡◌ {A = Result ℕ Refusal × List ℕ} (Ok b.len, after) (put_out (held b) before)
      gone-out fits e =
          let c = held-count b h in
          let n = bytes_for b.len in
          let bound = take-bytes n b.bytes h.each in
          let front : take n b.bytes ≡ pack n (held b) = packed (take n b.bytes) (held b) _ bound front-bits ∙ ap (λ k. pack k (held b)) front-size in
          ap (λ l. (Ok b.len, l)) (e ∙ ap (λ l. l ++ drop n before) front)
          ∙ ap (λ k. (Ok k, pack (bytes_for k) (held b) ++ drop (bytes_for k) before)) (sym c)
          ∙ sym (cond-true _ _ _ (le-leb (bytes_for (length (held b))) (length before) (omega arith)))
