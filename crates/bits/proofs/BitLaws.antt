-- What `digits`, `number` and `unpack` are to each other.
use Rattle.std.proofs.Common.{◌≡◌, ℕ, zero, suc, ◌+◌, ◌-◌, ◌*◌, ◌/◌, ◌%◌, ◌^◌, ◌<◌, ◌≤◌, min, List, [], ◌∷◌, ◌++◌, length, get_or, take, drop, Ok, Err, sym, refl, ap, ◌∙◌, subst, pow-suc, add-one, arith, length-drop, length-take, length-take-le, get_or-drop, get_or-take, pow_mono}
use native.Mathlib.Nat.{zero-div}
use Rattle.std.specs.Int.Digits.{number_from_digits}
use Rattle.std.proofs.lemmas.Int.Digits.{number_push, number_more}
use Rattle.std.proofs.lemmas.List.{length_push, take_more, take_min}
use Rattle.std.proofs.lemmas.Bool.{cond-true, cond-false, le-leb, lt-leb}
pub use Rattle.bits.specs.Packing.{length-unpack}
use Rattle.bits.specs.declared.fault.ElementName.{ElementName}
use Rattle.bits.specs.Reading.{taken, ends_inside}
use Rattle.bits.specs.Bits.{unpack, bits_of, digits, Bitlike}

pub length_digits : (w v : ℕ) → length (digits w v) ≡ w
unfolding digits
length_digits zero v = refl
length_digits (suc w) v = length_push (digits w (v / 2)) (v % 2) ∙ ap (λ n. n + 1) (length_digits w (v / 2)) ∙ add-one w

pub number_digits : (w v : ℕ) → v < 2 ^ w → number_from_digits 2 (digits w v) ≡ v
unfolding digits
number_digits zero v h = omega (arith, h)
number_digits (suc w) v h =
    let k : v < 2 ^ w * 2 = subst (λ n. v < n) (pow-suc 2 w) h in
    let e : number_from_digits 2 (digits w (v / 2)) ≡ v / 2 = number_digits w (v / 2) (omega arith) in
    number_push 2 (digits w (v / 2)) (v % 2) ∙ omega (arith, e)

pub digits-take : (w : ℕ) (xs : List ℕ) → Bitlike xs → w ≤ length xs → digits w (number_from_digits 2 (take w xs)) ≡ take w xs
unfolding digits
digits-take zero xs b h = refl
digits-take (suc w) xs b h =
    let m : take (suc w) xs ≡ take w xs ++ get_or xs w 0 ∷ [] = rw (← add-one w) (take_more xs w 0 (omega arith)) in
    let n : number_from_digits 2 (take (suc w) xs) ≡ number_from_digits 2 (take w xs) * 2 + get_or xs w 0 = rw (← add-one w) (number_more 2 xs w (omega arith)) in
    let lt = b w in
    let q : number_from_digits 2 (take (suc w) xs) / 2 ≡ number_from_digits 2 (take w xs) = omega arith in
    let r : number_from_digits 2 (take (suc w) xs) % 2 ≡ get_or xs w 0 = omega arith in
    ap (λ v. digits w v ++ (number_from_digits 2 (take (suc w) xs) % 2 ∷ [])) q ∙ ap (λ d. digits w (number_from_digits 2 (take w xs)) ++ (d ∷ [])) r
    ∙ ap (λ l. l ++ (get_or xs w 0 ∷ [])) (digits-take w xs b (omega arith)) ∙ sym m

pub number_bound : (w : ℕ) (xs : List ℕ) → Bitlike xs → w ≤ length xs → number_from_digits 2 (take w xs) < 2 ^ w
number_bound zero xs b h = omega arith
number_bound (suc w) xs b h =
    let n : number_from_digits 2 (take (suc w) xs) ≡ number_from_digits 2 (take w xs) * 2 + get_or xs w 0 = rw (← add-one w) (number_more 2 xs w (omega arith)) in
    let ih = number_bound w xs b (omega arith) in
    let lt = b w in
    let p : 2 ^ suc w ≡ 2 ^ w * 2 = pow-suc 2 w in
    omega arith

pub get_or-unpack : (bs : List ℕ) (p : ℕ) → get_or (unpack bs) p 0 ≡ get_or bs (p / 8) 0 / 2 ^ (7 - p % 8) % 2
unfolding unpack
get_or-unpack [] p = sym (ap (λ n. n % 2) (zero-div (2 ^ (7 - p % 8))))
get_or-unpack (b ∷ bs) zero = refl
get_or-unpack (b ∷ bs) (suc zero) = refl
get_or-unpack (b ∷ bs) (suc (suc zero)) = refl
get_or-unpack (b ∷ bs) (suc (suc (suc zero))) = refl
get_or-unpack (b ∷ bs) (suc (suc (suc (suc zero)))) = refl
get_or-unpack (b ∷ bs) (suc (suc (suc (suc (suc zero))))) = refl
get_or-unpack (b ∷ bs) (suc (suc (suc (suc (suc (suc zero)))))) = refl
get_or-unpack (b ∷ bs) (suc (suc (suc (suc (suc (suc (suc zero))))))) = omega arith
get_or-unpack (b ∷ bs) (suc (suc (suc (suc (suc (suc (suc (suc p)))))))) =
    let p8 : ℕ = suc (suc (suc (suc (suc (suc (suc (suc p))))))) in
    let q : p8 / 8 ≡ suc (p / 8) = omega arith in
    let r : p8 % 8 ≡ p % 8 = omega arith in
    get_or-unpack bs p ∙ ap (λ k. get_or (b ∷ bs) k 0 / 2 ^ (7 - p % 8) % 2) (sym q) ∙ ap (λ k. get_or (b ∷ bs) (p8 / 8) 0 / 2 ^ (7 - k) % 2) (sym r)

pub unpack-bits : (bs : List ℕ) → Bitlike (unpack bs)
unpack-bits bs i = omega (arith, get_or-unpack bs i)

pub take-bits : (n : ℕ) (xs : List ℕ) → Bitlike xs → Bitlike (take n xs)
take-bits zero xs b i = omega arith
take-bits (suc n) [] b i = omega arith
take-bits (suc n) (x ∷ xs) b zero = b zero
take-bits (suc n) (x ∷ xs) b (suc i) = take-bits n xs (λ j. b (suc j)) i

pub drop_bits : (n : ℕ) (xs : List ℕ) → Bitlike xs → Bitlike (drop n xs)
drop_bits n xs b i = subst (λ v. v < 2) (sym (get_or-drop n xs i 0)) (b (n + i))

pub bits_of-bits : (bs : List ℕ) (n : ℕ) → Bitlike (bits_of bs n)
unfolding bits_of
bits_of-bits bs n = take-bits n (unpack bs) (unpack-bits bs)

pub length-bits_of : (bs : List ℕ) (n : ℕ) → n ≤ 8 * length bs → length (bits_of bs n) ≡ n
unfolding bits_of
length-bits_of bs n h = let l = length-unpack bs in length-take-le n (unpack bs) (omega arith)

pub bits_of-within : (bs : List ℕ) (n : ℕ) → (length (bits_of bs n) ≤ n) × (length (bits_of bs n) ≤ 8 * length bs)
unfolding bits_of
bits_of-within bs n =
    let l = length-unpack bs in
    let t = length-take n (unpack bs) in
    (omega arith, omega arith)

pub bits_of-reaches : (bs : List ℕ) (n m : ℕ) → m ≤ n → m ≤ 8 * length bs → m ≤ length (bits_of bs n)
unfolding bits_of
bits_of-reaches bs n m h k =
    let l = length-unpack bs in
    let t = length-take n (unpack bs) in
    omega arith

pub get_or-bits_of : (bs : List ℕ) (n i : ℕ) → i < n → get_or (bits_of bs n) i 0 ≡ get_or bs (i / 8) 0 / 2 ^ (7 - i % 8) % 2
unfolding bits_of
get_or-bits_of bs n i h = get_or-take n (unpack bs) i 0 h ∙ get_or-unpack bs i

pub taken-ok : (w : ℕ) (e : ElementName) (all : List ℕ) (at : ℕ) → at + w ≤ length all → taken w e all at ≡ Ok (number_from_digits 2 (take w (drop at all)), at + w)
unfolding taken
taken-ok w e all at h = cond-true _ _ _ (le-leb _ _ h)

pub taken-err : (w : ℕ) (e : ElementName) (all : List ℕ) (at : ℕ) → length all < at + w → taken w e all at ≡ Err (ends_inside e at)
unfolding taken
taken-err w e all at h = cond-false _ _ _ (lt-leb _ _ h)

-- the number of the bits up to a place, once it is the last
pub taken-done : (w : ℕ) (e : ElementName) (all : List ℕ) (at v place end : ℕ) → (at + w ≤ length all) × (end ≡ at + w) → place ≡ end → v ≡ number_from_digits 2 (take (place - at) (drop at all)) → Ok (v, end) ≡ taken w e all at
taken-done w e all at v place end h p q =
    let k : place - at ≡ w = omega arith in
    let v : v ≡ number_from_digits 2 (take w (drop at all)) = q ∙ ap (λ n. number_from_digits 2 (take n (drop at all))) k in
    cc (taken-ok w e all at h.0, h.1, v)

-- the first n bits, or all where there are fewer
pub bits_of-min : (bs : List ℕ) (n m : ℕ) {all : ℕ} → n < 2 ^ 64 → m ≡ min n all → all ≡ min (length bs * 8) (2 ^ 64 - 1) → bits_of bs m ≡ bits_of bs n
unfolding bits_of
bits_of-min bs n m h a b =
    let l = length-unpack bs in
    let e : m ≡ min n (length (unpack bs)) = omega arith in
    ap (λ k. take k (unpack bs)) e ∙ take_min n (unpack bs)

-- one bit more
pub number_step : (all : List ℕ) (at i v b : ℕ) → at ≤ i → i < length all → v ≡ number_from_digits 2 (take (i - at) (drop at all)) → b ≡ get_or all i 0 →
    v * 2 + b ≡ number_from_digits 2 (take (i + 1 - at) (drop at all))
number_step all at i v b a l p q =
    let k : i + 1 - at ≡ (i - at) + 1 = omega arith in
    let here : at + (i - at) ≡ i = omega arith in
    let d = length-drop at all in
    let bit : b ≡ get_or (drop at all) (i - at) 0 = q ∙ ap (λ j. get_or all j 0) (sym here) ∙ sym (get_or-drop at all (i - at) 0) in
    rw k (omega (arith, number_more 2 (drop at all) (i - at) (omega arith)))

-- and one bit of bytes more
pub number_step-bytes : (bs : List ℕ) (n at i : ℕ) → at ≤ i → i < length (bits_of bs n) →
    number_from_digits 2 (take (i + 1 - at) (drop at (bits_of bs n))) ≡ number_from_digits 2 (take (i - at) (drop at (bits_of bs n))) * 2 + get_or bs (i / 8) 0 / 2 ^ (7 - i % 8) % 2
number_step-bytes bs n at i a l =
    let w = bits_of-within bs n in
    sym (number_step (bits_of bs n) at i _ _ a l refl (sym (get_or-bits_of bs n i (omega arith))))

pub power_step : (v b at i : ℕ) → at ≤ i → v < 2 ^ (i - at) → b < 2 → v * 2 + b < 2 ^ (i + 1 - at)
power_step v b at i a h k =
    let e : i + 1 - at ≡ suc (i - at) = omega arith in
    rw (e, pow-suc 2 (i - at)) (omega arith)

number_small : (bs : List ℕ) (n at w : ℕ) → at + w ≤ length (bits_of bs n) → number_from_digits 2 (take w (drop at (bits_of bs n))) < 2 ^ w
number_small bs n at w a =
    let d = length-drop at (bits_of bs n) in
    number_bound w (drop at (bits_of bs n)) (drop_bits at (bits_of bs n) (bits_of-bits bs n)) (omega arith)

-- up to 31 bits leave room for one more in 32
pub number-room : (bs : List ℕ) (n at i : ℕ) → at ≤ i → i < length (bits_of bs n) → i < at + 32 → number_from_digits 2 (take (i - at) (drop at (bits_of bs n))) < 2 ^ 31
number-room bs n at i a l m =
    let k = number_small bs n at (i - at) (omega arith) in
    let q : i - at ≤ 31 = omega arith in
    let p : 2 ^ (i - at) ≤ 2 ^ 31 = pow_mono q in
    omega arith
