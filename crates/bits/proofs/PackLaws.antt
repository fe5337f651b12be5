-- Bits are those of their bytes.
use Rattle.std.proofs.Common.{◌≡◌, ℕ, zero, suc, ◌+◌, ◌-◌, ◌*◌, ◌<◌, ◌≤◌, List, [], ◌∷◌, ◌++◌, length, get_or, take, drop, replicate, refl, ap, ◌∙◌, arith, length-drop}
pub use Rattle.bits.specs.Packing.{pack-unpack, pack-zeros, packed}
use Rattle.bits.proofs.BitLaws.{drop_bits}
use Rattle.bits.specs.Bits.{byte_bits, unpack, pack, Bitlike, Bytelike}

pub eight : {a b c d e f g h a' b' c' d' e' f' g' h' : ℕ} (l : List ℕ) → a ≡ a' → b ≡ b' → c ≡ c' → d ≡ d' → e ≡ e' → f ≡ f' → g ≡ g' → h ≡ h' →
    ◌≡◌ {A = List ℕ} (a ∷ b ∷ c ∷ d ∷ e ∷ f ∷ g ∷ h ∷ l) (a' ∷ b' ∷ c' ∷ d' ∷ e' ∷ f' ∷ g' ∷ h' ∷ l)
eight l p q r s t u v w = cc

pub take-bytes : (n : ℕ) (xs : List ℕ) → Bytelike xs → Bytelike (take n xs)
take-bytes zero xs h i = omega arith
take-bytes (suc n) [] h i = omega arith
take-bytes (suc n) (x ∷ xs) h zero = h zero
take-bytes (suc n) (x ∷ xs) h (suc i) = take-bytes n xs (λ j. h (suc j)) i

byte-bits : (a b c d e f g h : ℕ) → a < 2 → b < 2 → c < 2 → d < 2 → e < 2 → f < 2 → g < 2 → h < 2 →
    byte_bits (a * 128 + b * 64 + c * 32 + d * 16 + e * 8 + f * 4 + g * 2 + h) ≡ a ∷ b ∷ c ∷ d ∷ e ∷ f ∷ g ∷ h ∷ []
byte-bits a b c d e f g h i j k l m n o p =
    eight [] (omega arith) (omega arith) (omega arith) (omega arith) (omega arith) (omega arith) (omega arith) (omega arith)

-- the first eight bits, 0 where there are fewer, and the others
next-eight : (n : ℕ) (xs : List ℕ) → length xs ≤ 8 * suc n →
    get_or xs 0 0 ∷ get_or xs 1 0 ∷ get_or xs 2 0 ∷ get_or xs 3 0 ∷ get_or xs 4 0 ∷ get_or xs 5 0 ∷ get_or xs 6 0 ∷ get_or xs 7 0 ∷ (drop 8 xs ++ replicate (8 * n - length (drop 8 xs)) 0)
    ≡ xs ++ replicate (8 * suc n - length xs) 0
next-eight n ([]) h =
    let e : suc (suc (suc (suc (suc (suc (suc (suc (8 * n - 0)))))))) ≡ 8 * suc n - 0 = omega arith in ap (λ m. replicate m 0) e
next-eight n (x0 ∷ []) h =
    let e : suc (suc (suc (suc (suc (suc (suc (8 * n - 0))))))) ≡ 8 * suc n - 1 = omega arith in ap (λ m. x0 ∷ replicate m 0) e
next-eight n (x0 ∷ x1 ∷ []) h =
    let e : suc (suc (suc (suc (suc (suc (8 * n - 0)))))) ≡ 8 * suc n - 2 = omega arith in ap (λ m. x0 ∷ x1 ∷ replicate m 0) e
next-eight n (x0 ∷ x1 ∷ x2 ∷ []) h =
    let e : suc (suc (suc (suc (suc (8 * n - 0))))) ≡ 8 * suc n - 3 = omega arith in ap (λ m. x0 ∷ x1 ∷ x2 ∷ replicate m 0) e
next-eight n (x0 ∷ x1 ∷ x2 ∷ x3 ∷ []) h =
    let e : suc (suc (suc (suc (8 * n - 0)))) ≡ 8 * suc n - 4 = omega arith in ap (λ m. x0 ∷ x1 ∷ x2 ∷ x3 ∷ replicate m 0) e
next-eight n (x0 ∷ x1 ∷ x2 ∷ x3 ∷ x4 ∷ []) h =
    let e : suc (suc (suc (8 * n - 0))) ≡ 8 * suc n - 5 = omega arith in ap (λ m. x0 ∷ x1 ∷ x2 ∷ x3 ∷ x4 ∷ replicate m 0) e
next-eight n (x0 ∷ x1 ∷ x2 ∷ x3 ∷ x4 ∷ x5 ∷ []) h =
    let e : suc (suc (8 * n - 0)) ≡ 8 * suc n - 6 = omega arith in ap (λ m. x0 ∷ x1 ∷ x2 ∷ x3 ∷ x4 ∷ x5 ∷ replicate m 0) e
next-eight n (x0 ∷ x1 ∷ x2 ∷ x3 ∷ x4 ∷ x5 ∷ x6 ∷ []) h =
    let e : suc (8 * n - 0) ≡ 8 * suc n - 7 = omega arith in ap (λ m. x0 ∷ x1 ∷ x2 ∷ x3 ∷ x4 ∷ x5 ∷ x6 ∷ replicate m 0) e
next-eight n (x0 ∷ x1 ∷ x2 ∷ x3 ∷ x4 ∷ x5 ∷ x6 ∷ x7 ∷ xs) h =
    let e : 8 * n - length xs ≡ 8 * suc n - length (x0 ∷ x1 ∷ x2 ∷ x3 ∷ x4 ∷ x5 ∷ x6 ∷ x7 ∷ xs) = omega arith in ap (λ m. x0 ∷ x1 ∷ x2 ∷ x3 ∷ x4 ∷ x5 ∷ x6 ∷ x7 ∷ (xs ++ replicate m 0)) e

pub unpack-pack : (n : ℕ) (xs : List ℕ) → Bitlike xs → length xs ≤ 8 * n → unpack (pack n xs) ≡ xs ++ replicate (8 * n - length xs) 0
unfolding pack unpack
unpack-pack zero [] b h = refl
unpack-pack zero (x ∷ xs) b h = absurd (omega arith)
unpack-pack (suc n) xs b h =
    let d = length-drop 8 xs in
    ap (λ l. l ++ unpack (pack n (drop 8 xs))) (byte-bits (get_or xs 0 0) (get_or xs 1 0) (get_or xs 2 0) (get_or xs 3 0) (get_or xs 4 0) (get_or xs 5 0) (get_or xs 6 0) (get_or xs 7 0) (b 0) (b 1) (b 2) (b 3) (b 4) (b 5) (b 6) (b 7))
    ∙ ap (λ l. get_or xs 0 0 ∷ get_or xs 1 0 ∷ get_or xs 2 0 ∷ get_or xs 3 0 ∷ get_or xs 4 0 ∷ get_or xs 5 0 ∷ get_or xs 6 0 ∷ get_or xs 7 0 ∷ l) (unpack-pack n (drop 8 xs) (drop_bits 8 xs b) (omega arith))
    ∙ next-eight n xs h

pub length-pack : (n : ℕ) (xs : List ℕ) → length (pack n xs) ≡ n
unfolding pack
length-pack zero xs = refl
length-pack (suc n) xs = ap suc (length-pack n (drop 8 xs))
