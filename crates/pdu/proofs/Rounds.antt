-- What is read is what was written, and the other way.
use Rattle.std.proofs.Common.{◌≡◌, ℕ, zero, suc, ◌+◌, ◌-◌, ◌*◌, ◌/◌, ◌%◌, ◌^◌, ◌<◌, ◌≤◌, Bool, true, false, cond, eqb, List, [], ◌∷◌, ◌++◌, length, get_or, take, drop, replicate, Some, None, Ok, Err, Option, Result, sym, refl, ap, ◌∙◌, append-nil, arith}
use Rattle.std.proofs.lemmas.List.{take_at, drop_at, drop_all, drop_more, take-append-drop}
use Rattle.std.proofs.lemmas.Bool.{eq-eqb, ne_eqb, eqb-true, cond-true, cond-false}
use Rattle.bits.specs.Bits.{unpack, bits_of, bytes_for, pack, Bitlike, Bytelike}
use Rattle.bits.specs.declared.fault.Fault.{Fault}
use Rattle.bits.proofs.BitLaws.{bits_of-bits, get_or-unpack, length-unpack, length-bits_of}
use Rattle.bits.proofs.PackLaws.{packed, unpack-pack, length-pack}
use Rattle.pdu.specs.Bytes.{first_one, padded, closed, decode, bit_count, image_of}
use Rattle.pdu.specs.Bits.{bits_of_pdu, reading}
use Rattle.pdu.proofs.Readings.{reading-back, reading-wrote}
use Rattle.source.specs.Forms.{ok_same}
use Rattle.pdu.specs.declared.pdus.Pdu.{Pdu}

first_one-zeros : (at k : ℕ) → first_one at (replicate k 0) ≡ None
unfolding first_one
first_one-zeros at zero = refl
first_one-zeros at (suc k) = first_one-zeros (at + 1) k

zeros-from : (at : ℕ) (xs : List ℕ) → first_one at xs ≡ None → xs ≡ replicate (length xs) 0
unfolding first_one
zeros-from at [] h = refl
zeros-from at (x ∷ xs) h =
    let P : Bool → Type 0 = λ b. eqb x 0 ≡ b → cond b (first_one (at + 1) xs) (Some at) ≡ None → x ∷ xs ≡ replicate (suc (length xs)) 0 in
    let cases : (b : Bool) → P b = λ b. elim b as P [
      | true ↦ (λ e k. ap (λ v. v ∷ xs) (eqb-true x 0 e) ∙ ap (λ l. 0 ∷ l) (zeros-from (at + 1) xs k))
      | false ↦ (λ e k. let z : ◌≡◌ {A = ℕ} 0 1 = cc in absurd (omega arith))
    ] in
    cases (eqb x 0) refl h

-- a test that let a value through
through : {A : Type 0} (b : Bool) (r : Result A Fault) (e : Fault) (y : A) → cond b r (Err e) ≡ Ok y → (b ≡ true) × (r ≡ Ok y)
through true r e y h = (refl, h)
through false r e y h = let z : ◌≡◌ {A = ℕ} 0 1 = cc in absurd (omega arith)

padded-from : (q p : Pdu) (o : Option ℕ) → padded q o ≡ Ok p → (q ≡ p) × (o ≡ None)
padded-from q p None h = (ok_same q p h, refl)
padded-from q p (Some at) h = let z : ◌≡◌ {A = ℕ} 0 1 = cc in absurd (omega arith)

closed-from : (bytes : List ℕ) (n : ℕ) (r : Result (Pdu × ℕ) Fault) (p : Pdu) → closed bytes n r ≡ Ok p → (r ≡ Ok (p, n)) × (first_one n (drop n (unpack bytes)) ≡ None)
closed-from bytes n (Err e) p h = let z : ◌≡◌ {A = ℕ} 0 1 = cc in absurd (omega arith)
closed-from bytes n (Ok q) p h =
    let i = through (eqb q.1 n) _ _ p h in
    let j = padded-from q.0 p (first_one n (drop n (unpack bytes))) i.1 in
    (ap (λ x. Ok (x, q.1)) j.0 ∙ ap (λ m. Ok (p, m)) (eqb-true q.1 n i.0), j.1)

spelt-decodes : (bytes : List ℕ) (n k : ℕ) (p : Pdu) → n ≡ bit_count p → length bytes ≡ bytes_for n → unpack bytes ≡ bits_of_pdu p ++ replicate k 0 → decode bytes n ≡ Ok p
unfolding bits_of
spelt-decodes bytes n k p count size bits =
    let enc = bits_of_pdu p in
    let all : bits_of bytes n ≡ enc ++ [] = ap (take n) bits ∙ take_at enc (replicate k 0) n (sym count) ∙ sym (append-nil enc) in
    let same = all ∙ append-nil enc in
    let r : reading (bits_of bytes n) ≡ Ok (p, n) = reading-back p (bits_of bytes n) same ∙ ap (λ m. Ok (p, m)) (ap length same ∙ sym count) in
    let pad : first_one n (drop n (unpack bytes)) ≡ None = ap (λ l. first_one n (drop n l)) bits ∙ ap (first_one n) (drop_at enc (replicate k 0) n (sym count)) ∙ first_one-zeros n k in
    cond-true _ _ _ (eq-eqb _ _ size) ∙ ap (closed bytes n) r ∙ cond-true _ _ _ (eq-eqb n n refl) ∙ ap (padded p) pad

-- a PDU reads back from its own bytes
pub reads-back : (p : Pdu) → Bitlike (bits_of_pdu p) → decode (image_of p).0 (image_of p).1 ≡ Ok p
reads-back p b =
    let n = bytes_for (bit_count p) in
    spelt-decodes (pack n (bits_of_pdu p)) (bit_count p) (8 * n - bit_count p) p refl (length-pack n (bits_of_pdu p)) (unpack-pack n (bits_of_pdu p) b (omega arith))

-- bytes that are read as a PDU are those that it is written as
pub accepted : (bytes : List ℕ) (n : ℕ) (p : Pdu) → Bytelike bytes → decode bytes n ≡ Ok p → ◌≡◌ {A = List ℕ × ℕ} (bytes, n) (image_of p)
unfolding bits_of
accepted bytes n p small h =
    let i = through (eqb (length bytes) (bytes_for n)) _ _ p h in
    let j = closed-from bytes n (reading (bits_of bytes n)) p i.1 in
    let size : length bytes ≡ bytes_for n = eqb-true _ _ i.0 in
    let len : length (bits_of bytes n) ≡ n = length-bits_of bytes n (omega arith) in
    let enc = bits_of_pdu p in
    let all : bits_of bytes n ≡ enc ++ drop n (bits_of bytes n) = reading-wrote p (bits_of bytes n) n (bits_of-bits bytes n) j.0 in
    let none : drop n (bits_of bytes n) ≡ [] = drop_all n (bits_of bytes n) (omega arith) in
    let same : bits_of bytes n ≡ enc = all ∙ ap (λ l. enc ++ l) none ∙ append-nil enc in
    let count : n ≡ bit_count p = sym len ∙ ap length same in
    let zeros = zeros-from n (drop n (unpack bytes)) j.1 in
    let whole : unpack bytes ≡ enc ++ replicate (length (drop n (unpack bytes))) 0 = sym (take-append-drop n (unpack bytes)) ∙ ap (λ f. f ++ drop n (unpack bytes)) same ∙ ap (λ t. enc ++ t) zeros in
    ap (λ l. (l, n)) (packed bytes enc (length (drop n (unpack bytes))) small whole) ∙ ap (λ k. (pack k enc, n)) size ∙ ap (λ m. (pack (bytes_for m) enc, m)) count

-- The padding, bit for bit.
pub first_one-none : (bytes : List ℕ) (n : ℕ) → 8 * length bytes ≤ n → first_one n (drop n (unpack bytes)) ≡ None
unfolding first_one
first_one-none bytes n h = let l = length-unpack bytes in ap (first_one n) (drop_all n (unpack bytes) (omega arith))

module _ (bytes : List ℕ) (k i : ℕ) (within : k < length bytes) (small : i < 8) where
  bit : get_or (unpack bytes) (k * 8 + i) 0 ≡ get_or bytes k 0 / 2 ^ (7 - i) % 2
  bit =
      let q : (k * 8 + i) / 8 ≡ k = omega arith in
      let r : (k * 8 + i) % 8 ≡ i = omega arith in
      get_or-unpack bytes (k * 8 + i) ∙ ap (λ j. get_or bytes j 0 / 2 ^ (7 - (k * 8 + i) % 8) % 2) q ∙ ap (λ j. get_or bytes k 0 / 2 ^ (7 - j) % 2) r

  first_step : first_one (k * 8 + i) (drop (k * 8 + i) (unpack bytes)) ≡ cond (eqb (get_or bytes k 0 / 2 ^ (7 - i) % 2) 0) (first_one (k * 8 + (i + 1)) (drop (k * 8 + (i + 1)) (unpack bytes))) (Some (k * 8 + i))
  unfolding first_one
  first_step =
      let l = length-unpack bytes in
      let e : k * 8 + i + 1 ≡ k * 8 + (i + 1) = omega arith in
      ap (first_one (k * 8 + i)) (drop_more (unpack bytes) (k * 8 + i) 0 (omega arith))
      ∙ ap (λ b. cond (eqb b 0) (first_one (k * 8 + i + 1) (drop (k * 8 + i + 1) (unpack bytes))) (Some (k * 8 + i))) bit
      ∙ ap (λ m. cond (eqb (get_or bytes k 0 / 2 ^ (7 - i) % 2) 0) (first_one m (drop m (unpack bytes))) (Some (k * 8 + i))) e

  pub first-here : get_or bytes k 0 / 2 ^ (7 - i) % 2 ≡ 1 → first_one (k * 8 + i) (drop (k * 8 + i) (unpack bytes)) ≡ Some (k * 8 + i)
  first-here h = first_step ∙ cond-false _ _ _ (ne_eqb (get_or bytes k 0 / 2 ^ (7 - i) % 2) 0 (λ z. omega arith))

  pub first-later : get_or bytes k 0 / 2 ^ (7 - i) % 2 ≡ 0 → first_one (k * 8 + i) (drop (k * 8 + i) (unpack bytes)) ≡ first_one (k * 8 + (i + 1)) (drop (k * 8 + (i + 1)) (unpack bytes))
  first-later h = first_step ∙ cond-true _ _ _ (eq-eqb _ _ h)
