-- The bits that a byte has left after some of them.
use Rattle.std.proofs.Common.{◌≡◌, ℕ, zero, suc, ◌+◌, ◌-◌, ◌*◌, ◌/◌, ◌%◌, ◌^◌, ◌<◌, ◌≤◌, List, length, get_or, drop, Some, None, sym, ap, ◌∙◌, arith, pow-suc, pow_pos, mod-lt, add-zero, subst, ⊎_elim}
use Rattle.std.proofs.lemmas.Bool.{cases_lt}
use Rattle.std.proofs.lemmas.Nat.{leading_top, div-add-mod'}
use Rattle.std.proofs.lemmas.Nat.Bits.{bit_at-zero, bit_at_above, bit_at_cat_low, bit_at_cat_high}
use Rattle.std.specs.Int.{bit_at}
use Rattle.std.specs.Int.Count.{count_leading_zeros}
use Rattle.bits.specs.Bits.{unpack, bytes_for}
use Rattle.pdu.specs.Bytes.{first_one}
use Rattle.pdu.proofs.Rounds.{first_one-none, first-here, first-later}

-- what is left of a byte after its first u bits
abbrev pub left : ℕ → ℕ → ℕ
left b u = b * 2 ^ u % 2 ^ 8

-- the highest bit is 1
top-bit : (a j : ℕ) → 2 ^ j ≤ a → a < 2 ^ suc j → bit_at a j ≡ 1
top-bit a j h k =
    let p : 2 ^ suc j ≡ 2 ^ j * 2 = pow-suc 2 j in
    let whole : a ≡ 1 * 2 ^ j + (a - 2 ^ j) = omega arith in
    let small : a - 2 ^ j < 2 ^ j = omega arith in
    let none : j - j ≡ 0 = omega arith in
    let same : j ≤ j = omega arith in
    ap (λ n. bit_at n j) whole ∙ bit_at_cat_high 1 j (a - 2 ^ j) j small same ∙ ap (bit_at 1) none

module _ (b u : ℕ) where
  -- it stands u places higher
  left-bit : (i : ℕ) → u ≤ i → i < 8 → bit_at (left b u) i ≡ bit_at b (i - u)
  left-bit i h k =
      let whole : b * 2 ^ u / 2 ^ 8 * 2 ^ 8 + left b u ≡ b * 2 ^ u + 0 = div-add-mod' (b * 2 ^ u) (2 ^ 8) ∙ sym (add-zero (b * 2 ^ u)) in
      sym (bit_at_cat_low (b * 2 ^ u / 2 ^ 8) 8 (left b u) i k) ∙ ap (λ n. bit_at n i) whole ∙ bit_at_cat_high b u 0 i (pow_pos u) h

  left-low : (i : ℕ) → i < u → i < 8 → bit_at (left b u) i ≡ 0
  left-low i h k =
      let whole : b * 2 ^ u / 2 ^ 8 * 2 ^ 8 + left b u ≡ b * 2 ^ u + 0 = div-add-mod' (b * 2 ^ u) (2 ^ 8) ∙ sym (add-zero (b * 2 ^ u)) in
      sym (bit_at_cat_low (b * 2 ^ u / 2 ^ 8) 8 (left b u) i k) ∙ ap (λ n. bit_at n i) whole ∙ bit_at_cat_low b u 0 i h ∙ bit_at-zero i

  -- its highest bit, and the zeros above it
  pub top : 0 < left b u → (j : ℕ) × (count_leading_zeros 8 (left b u) + suc j ≡ 8) × (left b u < 2 ^ suc j) × (bit_at (left b u) j ≡ 1) × (u ≤ j)
  top pos =
      let t = leading_top 8 (left b u) pos (mod-lt _ (pow_pos 8)) in
      let one = top-bit (left b u) t.0 t.2 t.3 in
      let high : u ≤ t.0 = ⊎_elim (λ below. let no = left-low t.0 below (omega (arith, t.1)) in absurd (omega arith)) (λ above. above) (cases_lt t.0 u) in
      (t.0, t.1, t.3, one, high)

module _ (bytes : List ℕ) (k : ℕ) (within : k < length bytes) where
  -- bits that are 0 are passed
  passed : (i d : ℕ) → i + d ≤ 8 → ((t : ℕ) → t < d → bit_at (get_or bytes k 0) (7 - (i + t)) ≡ 0) →
      first_one (k * 8 + i) (drop (k * 8 + i) (unpack bytes)) ≡ first_one (k * 8 + (i + d)) (drop (k * 8 + (i + d)) (unpack bytes))
  passed i zero h z = ap (λ m. first_one (k * 8 + m) (drop (k * 8 + m) (unpack bytes))) (sym (add-zero i))
  passed i (suc d) h z =
      let e : i + suc d ≡ (i + d) + 1 = omega arith in
      passed i d (omega arith) (λ t l. z t (omega arith))
      ∙ first-later bytes k (i + d) within (omega arith) (z d (omega arith))
      ∙ ap (λ m. first_one (k * 8 + m) (drop (k * 8 + m) (unpack bytes))) (sym e)

  module _ (u : ℕ) (small : u < 8) where
    -- a bit after the first u
    later-bit : (t : ℕ) → u + t < 8 → bit_at (get_or bytes k 0) (7 - (u + t)) ≡ bit_at (left (get_or bytes k 0) u) (7 - t)
    later-bit t h =
        let e : 7 - t - u ≡ 7 - (u + t) = omega arith in
        sym (left-bit (get_or bytes k 0) u (7 - t) (omega arith) (omega arith) ∙ ap (bit_at (get_or bytes k 0)) e)

    pub none-left : length bytes ≤ k + 1 → left (get_or bytes k 0) u ≡ 0 → first_one (k * 8 + u) (drop (k * 8 + u) (unpack bytes)) ≡ None
    none-left last z =
        passed u (8 - u) (omega arith) (λ t l. later-bit t (omega arith) ∙ ap (λ a. bit_at a (7 - t)) z ∙ bit_at-zero (7 - t))
        ∙ first_one-none bytes (k * 8 + (u + (8 - u))) (omega arith)

    pub some-left : 0 < left (get_or bytes k 0) u → first_one (k * 8 + u) (drop (k * 8 + u) (unpack bytes)) ≡ Some (k * 8 + (u + count_leading_zeros 8 (left (get_or bytes k 0) u)))
    some-left pos =
        let a = left (get_or bytes k 0) u in
        let z = count_leading_zeros 8 a in
        let t = top (get_or bytes k 0) u pos in
        let place : 7 - z ≡ t.0 = omega (arith, t.1) in
        passed u z (omega (arith, t.1, t.4)) (λ i l. later-bit i (omega (arith, t.1, t.4)) ∙ bit_at_above a (suc t.0) (7 - i) t.2 (omega (arith, t.1)))
        ∙ first-here bytes k (u + z) within (omega (arith, t.1, t.4)) (later-bit z (omega (arith, t.1, t.4)) ∙ ap (bit_at a) place ∙ t.3)

-- The last byte, of which only the first bits count.
module _ (bytes : List ℕ) (count byte : ℕ) (within : count / 8 < length bytes) (is : byte ≡ get_or bytes (count / 8) 0) where
  here : count / 8 * 8 + count % 8 ≡ count
  here = omega arith

  same : left byte (count % 8) ≡ left (get_or bytes (count / 8) 0) (count % 8)
  same = ap (λ b. left b (count % 8)) is

  pub no-padding-one : length bytes ≡ bytes_for count → left byte (count % 8) ≡ 0 → None ≡ first_one count (drop count (unpack bytes))
  no-padding-one size z =
      sym (ap (λ n. first_one n (drop n (unpack bytes))) (sym here) ∙ none-left bytes (count / 8) within (count % 8) (omega arith) (omega arith) (sym same ∙ z))

  pub padding-one : 0 < left byte (count % 8) → Some (count + count_leading_zeros 8 (left byte (count % 8))) ≡ first_one count (drop count (unpack bytes))
  padding-one pos =
      let z = count_leading_zeros 8 (left (get_or bytes (count / 8) 0) (count % 8)) in
      let e : count / 8 * 8 + (count % 8 + z) ≡ count + z = omega arith in
      sym (ap (λ n. first_one n (drop n (unpack bytes))) (sym here) ∙ some-left bytes (count / 8) within (count % 8) (omega arith) (subst (λ a. 0 < a) same pos)
      ∙ ap Some e ∙ ap (λ a. Some (count + count_leading_zeros 8 a)) (sym same))

  pub padding-place : count < 2 ^ 64 → 0 < left byte (count % 8) → count + count_leading_zeros 8 (left byte (count % 8)) < 2 ^ 64
  padding-place h pos = let t = top byte (count % 8) pos in omega (arith, t.1, t.4)
