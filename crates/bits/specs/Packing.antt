-- Bytes are their bits, packed.
use Rattle.std.specs.Prelude.{◌≡◌, ℕ, zero, suc, ◌+◌, ◌-◌, ◌*◌, ◌/◌, ◌%◌, ◌<◌, List, [], ◌∷◌, ◌++◌, length, drop, replicate, refl}
use Rattle.std.proofs.Common.{get_or, sym, ap, ◌∙◌, arith}
use native.Mathlib.Nat.{div-div-eq-div-mul}
use Rattle.std.proofs.lemmas.List.{drop-replicate}
use Rattle.bits.specs.Bits.{byte_of, unpack, pack, Bytelike}

pub length-unpack : (bs : List ℕ) → length (unpack bs) ≡ 8 * length bs
unfolding unpack
length-unpack [] = refl
length-unpack (b ∷ bs) = omega (arith, length-unpack bs)

-- a byte by halves
halves : (b b2 b4 b8 b16 b32 b64 b128 r0 r1 r2 r3 r4 r5 r6 r7 : ℕ) → b ≡ b2 * 2 + r0 → b2 ≡ b4 * 2 + r1 → b4 ≡ b8 * 2 + r2 → b8 ≡ b16 * 2 + r3 → b16 ≡ b32 * 2 + r4 → b32 ≡ b64 * 2 + r5 → b64 ≡ b128 * 2 + r6 → b128 ≡ r7 →
    r7 * 128 + r6 * 64 + r5 * 32 + r4 * 16 + r3 * 8 + r2 * 4 + r1 * 2 + r0 ≡ b
halves b b2 b4 b8 b16 b32 b64 b128 r0 r1 r2 r3 r4 r5 r6 r7 h0 h1 h2 h3 h4 h5 h6 h7 = omega arith

byte-of : (b : ℕ) → b < 256 → b / 128 % 2 * 128 + b / 64 % 2 * 64 + b / 32 % 2 * 32 + b / 16 % 2 * 16 + b / 8 % 2 * 8 + b / 4 % 2 * 4 + b / 2 % 2 * 2 + b % 2 ≡ b
byte-of b h =
    let h1 : b / 2 / 2 ≡ b / 4 = div-div-eq-div-mul b 2 2 in
    let h2 : b / 4 / 2 ≡ b / 8 = div-div-eq-div-mul b 4 2 in
    let h3 : b / 8 / 2 ≡ b / 16 = div-div-eq-div-mul b 8 2 in
    let h4 : b / 16 / 2 ≡ b / 32 = div-div-eq-div-mul b 16 2 in
    let h5 : b / 32 / 2 ≡ b / 64 = div-div-eq-div-mul b 32 2 in
    let h6 : b / 64 / 2 ≡ b / 128 = div-div-eq-div-mul b 64 2 in
    halves b (b / 2) (b / 4) (b / 8) (b / 16) (b / 32) (b / 64) (b / 128)
    (b % 2) (b / 2 % 2) (b / 4 % 2) (b / 8 % 2) (b / 16 % 2) (b / 32 % 2) (b / 64 % 2) (b / 128 % 2)
    (omega arith) (omega arith) (omega arith) (omega arith) (omega arith) (omega arith) (omega arith) (omega arith)

pub pack-unpack : (bs : List ℕ) → Bytelike bs → pack (length bs) (unpack bs) ≡ bs
unfolding pack unpack
pack-unpack [] h = refl
pack-unpack (b ∷ bs) h = ap (λ x. x ∷ pack (length bs) (unpack bs)) (byte-of b (h 0)) ∙ ap (λ l. b ∷ l) (pack-unpack bs (λ i. h (suc i)))

get_or-zeros : (xs : List ℕ) (m i : ℕ) → get_or (xs ++ replicate m 0) i 0 ≡ get_or xs i 0
get_or-zeros [] zero i = refl
get_or-zeros [] (suc m) zero = refl
get_or-zeros [] (suc m) (suc i) = get_or-zeros [] m i
get_or-zeros (x ∷ xs) m zero = refl
get_or-zeros (x ∷ xs) m (suc i) = get_or-zeros xs m i

drop-zeros : (n : ℕ) (xs : List ℕ) (m : ℕ) → (k : ℕ) × (drop n (xs ++ replicate m 0) ≡ drop n xs ++ replicate k 0)
drop-zeros zero xs m = (m, refl)
drop-zeros (suc n) [] m = (m - suc n, drop-replicate (suc n) m 0)
drop-zeros (suc n) (x ∷ xs) m = drop-zeros n xs m

pub pack-zeros : (n : ℕ) (xs : List ℕ) (m : ℕ) → pack n (xs ++ replicate m 0) ≡ pack n xs
unfolding pack
pack-zeros zero xs m = refl
pack-zeros (suc n) xs m =
    let d = drop-zeros 8 xs m in
    let z = get_or-zeros xs m in
    let e : byte_of (xs ++ replicate m 0) ≡ byte_of xs = cc (z 0, z 1, z 2, z 3, z 4, z 5, z 6, z 7) in
    ap (λ b. b ∷ pack n (drop 8 (xs ++ replicate m 0))) e
    ∙ ap (λ l. byte_of xs ∷ pack n l) d.1 ∙ ap (λ l. byte_of xs ∷ l) (pack-zeros n (drop 8 xs) d.0)

-- the bytes whose bits are xs and then zeros
pub packed : (bs xs : List ℕ) (m : ℕ) → Bytelike bs → unpack bs ≡ xs ++ replicate m 0 → bs ≡ pack (length bs) xs
packed bs xs m h e = sym (pack-unpack bs h) ∙ ap (pack (length bs)) e ∙ pack-zeros (length bs) xs m
