-- What is heard in bits is what is written there, and the other way.
use Rattle.std.proofs.Common.{◌≡◌, ◌≢◌, ℕ, ◌+◌, ◌-◌, ◌^◌, ◌<◌, ◌≤◌, Bool, true, false, cond, eqb, List, [], ◌∷◌, ◌++◌, length, take, drop, Some, None, Ok, Err, Option, Result, sym, refl, ap, ◌∙◌, append_assoc, add-zero, subst, ⊎_elim, arith, length-append, length-drop}
use Rattle.std.proofs.lemmas.List.{drop-drop, drop_at, take_at, take-append-drop}
use Rattle.std.proofs.lemmas.Bool.{cases_lt, eqb-true, eqb-false}
use Rattle.std.proofs.lemmas.Int.Digits.{number_more}
use Rattle.std.specs.Int.Digits.{number_from_digits}
use Rattle.bits.specs.Bits.{digits, Bitlike}
use Rattle.bits.specs.Reading.{taken}
use Rattle.bits.specs.declared.fault.ElementName.{ElementName}
use Rattle.bits.specs.declared.fault.ElementName.TheVariants as name
use Rattle.bits.specs.declared.fault.Fault.{Fault}
use Rattle.bits.proofs.BitLaws.{drop_bits, length_digits, number_digits, digits-take, taken-ok, taken-err}
use Rattle.pdu.specs.Bits.{present_bits, bits_told, all_bits, Place, bit_number, present_but_none, announced, any_present, bit_hearing_of, Reader, ReadsBack, IsWritten, optional_enc, optional_dec_body, optional_dec}
use Rattle.source.specs.Forms.{Form, Hears, Stands, and_then-from, ok_same}
use Rattle.source.specs.Hearing.{and_then, named}
use Rattle.source.specs.declared.told.Told.{Told}
use Rattle.source.specs.declared.told.Told.TheVariants.{Element, Present}

pub drop_past : (all : List ℕ) (at : ℕ) (xs rest : List ℕ) → drop at all ≡ xs ++ rest → drop (at + length xs) all ≡ rest
drop_past all at xs rest h = sym (drop-drop (length xs) at all) ∙ ap (drop (length xs)) h ∙ drop_at xs rest (length xs) refl

pub all_bits-append : (xs ys : List Told) → all_bits (xs ++ ys) ≡ all_bits xs ++ all_bits ys
all_bits-append [] ys = refl
all_bits-append (x ∷ xs) ys = ap (λ l. bits_told x ++ l) (all_bits-append xs ys) ∙ sym (append_assoc (bits_told x) (all_bits xs) (all_bits ys))

-- a number that was written is read from its place
number-read : (w v : ℕ) (e : ElementName) (all : List ℕ) (at : ℕ) (rest : List ℕ) → 0 < w → v < 2 ^ w → drop at all ≡ digits w v ++ rest → bit_number (all, at) e w ≡ Ok (v, (all, at + w))
number-read w v e all at rest some fits h =
    let l = length_digits w v in
    let long : length all - at ≡ w + length rest = sym (length-drop at all) ∙ ap length h ∙ length-append (digits w v) rest ∙ ap (λ n. n + length rest) l in
    let front : take w (drop at all) ≡ digits w v = ap (take w) h ∙ take_at (digits w v) rest w l in
    let n : number_from_digits 2 (take w (drop at all)) ≡ v = ap (number_from_digits 2) front ∙ number_digits w v fits in
    ap (λ r. and_then r (λ v n. Ok (v, (all, n)))) (taken-ok w e all at (omega arith)) ∙ ap (λ x. Ok (x, (all, at + w))) n

-- a number that was read is written there
number-wrote : (w v : ℕ) (e : ElementName) (s u : Place) → Bitlike s.0 → bit_number s e w ≡ Ok (v, u) → (s.0 ≡ u.0) × (drop s.1 s.0 ≡ digits w v ++ drop u.1 s.0) × (number_from_digits 2 (take w (drop s.1 s.0)) ≡ v) × (s.1 + w ≤ length s.0)
number-wrote w v e s u bl h =
    let all = s.0 in
    let at = s.1 in
    let i = and_then-from (taken w e all at) (λ v n. Ok (v, (all, n))) (v, u) h in
    let j = ok_same (i.0.0, (all, i.0.1)) (v, u) i.2 in
    let within : at + w ≤ length all = ⊎_elim (λ s. let z : ◌≡◌ {A = ℕ} 0 1 = cc (i.1, taken-err w e all at s) in absurd (omega arith)) (λ k. k) (cases_lt (length all) (at + w)) in
    let ok = taken-ok w e all at within in
    let n = number_from_digits 2 (take w (drop at all)) in
    let q = ok_same {F = Fault} (n, at + w) i.0 (sym ok ∙ i.1) in
    let x : n ≡ v = ap (λ z. z.0) q ∙ ap (λ z. z.0) j in
    let m : at + w ≡ u.1 = ap (λ z. z.1) q ∙ ap (λ z. z.1.1) j in
    let d = length-drop at all in
    let front : digits w v ≡ take w (drop at all) = ap (digits w) (sym x) ∙ digits-take w (drop at all) (drop_bits at all bl) (omega arith) in (
      ap (λ z. z.1.0) j,
      sym (take-append-drop w (drop at all)) ∙ ap (λ l. l ++ drop w (drop at all)) (sym front) ∙ ap (λ l. digits w v ++ l) (drop-drop w at all ∙ ap (λ k. drop k all) m),
      x,
      within,
    )

-- a bit that was read
bit-wrote : (v : ℕ) (e : ElementName) (s u : Place) → Bitlike s.0 → bit_number s e 1 ≡ Ok (v, u) → (s.0 ≡ u.0) × (drop s.1 s.0 ≡ v ∷ drop u.1 s.0) × (v < 2)
unfolding digits
bit-wrote v e s u bl h =
    let w = number-wrote 1 v e s u bl h in
    let ds = drop s.1 s.0 in
    let l = length-drop s.1 s.0 in
    let n = number_more 2 ds 0 (omega (arith, l, w.3)) in
    let b = drop_bits s.1 s.0 bl 0 in
    let small : v < 2 = omega (arith, n, b, w.2) in
    (w.0, w.1 ∙ ap (λ d. d ∷ drop u.1 s.0) (omega arith), small)

announced-wrote : (at v : ℕ) (t : Place) (b : Bool) (u : Place) → announced at v t ≡ Ok (b, u) → (b ≡ true) × (t ≡ u) × (eqb v 0 ≡ false)
announced-wrote at v t b u h =
    let P : Bool → Type 0 = λ z. eqb v 0 ≡ z → cond {A = Result (Bool × Place) Fault} z (Err (present_but_none at)) (Ok (true, t)) ≡ Ok (b, u) → (b ≡ true) × (t ≡ u) × (eqb v 0 ≡ false) in
    let cases : (z : Bool) → P z = λ z. elim z as P [
      | true ↦ (λ e k. let z : ◌≡◌ {A = ℕ} 0 1 = cc in absurd (omega arith))
      | false ↦ (λ e k. let q = ok_same (true, t) (b, u) k in (ap (λ p. p.0) (sym q), ap (λ p. p.1) q, e))
    ] in
    cases (eqb v 0) refl h

a-one : (v : ℕ) → v < 2 → eqb v 0 ≡ false → v ≡ 1
a-one v small h = let n : v ≢ 0 = eqb-false v 0 h in omega arith

-- bits in which the optional element is e
module _ (e : ElementName) where
  present-read : (b : Bool) (all : List ℕ) (at : ℕ) (rest : List ℕ) → drop at all ≡ present_bits b ++ rest → (bit_hearing_of e).present (all, at) ≡ Ok (b, (all, at + length (present_bits b)))
  unfolding digits
  present-read false all at rest h = ap (λ r. and_then r (any_present e at)) (number-read 1 0 name.Optional all at rest (omega arith) (omega arith) h)
  present-read true all at rest h =
      let one = number-read 1 1 name.Optional all at (1 ∷ rest) (omega arith) (omega arith) h in
      let two = number-read 1 1 e all (at + 1) rest (omega arith) (omega arith) (drop_past all at (1 ∷ []) (1 ∷ rest) h) in
      let past : at + 1 + 1 ≡ at + 2 = omega arith in
      ap (λ r. and_then r (any_present e at)) one ∙ ap (λ r. and_then r (announced at)) two ∙ ap (λ n. Ok (true, (all, n))) past

  hears-read : (t : Told) (all : List ℕ) (at : ℕ) (rest : List ℕ) → drop at all ≡ bits_told t ++ rest → Hears (bit_hearing_of e) (all, at) t (all, at + length (bits_told t))
  hears-read (Element c) all at rest h =
      number-read c.width c.value c.element all at rest c.some c.fits h ∙ ap (λ n. Ok (c.value, (all, at + n))) (sym (length_digits c.width c.value))
  hears-read (Present b) all at rest h = present-read b all at rest h

  -- elements that were written are heard from their place
  pub stands-read : (ts : List Told) (all : List ℕ) (at : ℕ) (rest : List ℕ) → drop at all ≡ all_bits ts ++ rest → Stands (bit_hearing_of e) (all, at) ts (all, at + length (all_bits ts))
  stands-read [] all at rest h = ap (λ n. (all, n)) (sym (add-zero at))
  stands-read (t ∷ ts) all at rest h =
      let xs = bits_told t in
      let k : drop at all ≡ xs ++ (all_bits ts ++ rest) = h ∙ append_assoc xs (all_bits ts) rest in
      let more = stands-read ts all (at + length xs) rest (drop_past all at xs (all_bits ts ++ rest) k) in
      let past : at + length xs + length (all_bits ts) ≡ at + length (xs ++ all_bits ts) = omega (arith, length-append xs (all_bits ts)) in
      ((all, at + length xs), hears-read t all at (all_bits ts ++ rest) k, subst (λ n. Stands (bit_hearing_of e) (all, at + length xs) ts (all, n)) past more)

  any-wrote : (s t : Place) (v : ℕ) (b : Bool) (u : Place) → Bitlike s.0 → bit_number s name.Optional 1 ≡ Ok (v, t) → any_present e s.1 v t ≡ Ok (b, u) → (s.0 ≡ u.0) × (drop s.1 s.0 ≡ present_bits b ++ drop u.1 s.0)
  any-wrote s t v b u bl first h =
      let P : Bool → Type 0 = λ z. eqb v 0 ≡ z → cond {A = Result (Bool × Place) Fault} z (Ok (false, t)) (and_then (bit_number t e 1) (announced s.1)) ≡ Ok (b, u) → (s.0 ≡ u.0) × (drop s.1 s.0 ≡ present_bits b ++ drop u.1 s.0) in
      let w = bit-wrote v name.Optional s t bl first in
      let cases : (z : Bool) → P z = λ z. elim z as P [
        | true ↦ (λ is k.
            let q = ok_same (false, t) (b, u) k in
            let zero : v ≡ 0 = eqb-true v 0 is in
            (w.0 ∙ ap (λ p. p.1.0) q, w.1 ∙ ap (λ d. d ∷ drop t.1 s.0) zero ∙ ap (λ p. present_bits p.0 ++ drop p.1.1 s.0) q))
        | false ↦ (λ is k.
            let i = and_then-from (bit_number t e 1) (announced s.1) (b, u) k in
            let j = announced-wrote s.1 i.0.0 i.0.1 b u i.2 in
            let x = bit-wrote i.0.0 e t i.0.1 (subst Bitlike w.0 bl) i.1 in
            let one : v ≡ 1 = a-one v w.2 is in
            let two : i.0.0 ≡ 1 = a-one i.0.0 x.2 j.2 in
            let rest : drop t.1 s.0 ≡ 1 ∷ drop u.1 s.0 = ap (drop t.1) w.0 ∙ x.1 ∙ ap (λ d. d ∷ drop i.0.1.1 t.0) two ∙ ap (λ p. 1 ∷ drop p.1 t.0) j.1 ∙ ap (λ l. 1 ∷ drop u.1 l) (sym w.0) in
            (w.0 ∙ x.0 ∙ ap (λ p. p.0) j.1, w.1 ∙ ap (λ d. d ∷ drop t.1 s.0) one ∙ ap (λ l. 1 ∷ l) rest ∙ ap (λ z. present_bits z ++ drop u.1 s.0) (sym j.0)))
      ] in
      cases (eqb v 0) refl h

  present-wrote : (s : Place) (b : Bool) (u : Place) → Bitlike s.0 → (bit_hearing_of e).present s ≡ Ok (b, u) → (s.0 ≡ u.0) × (drop s.1 s.0 ≡ present_bits b ++ drop u.1 s.0)
  present-wrote s b u bl h =
      let i = and_then-from (bit_number s name.Optional 1) (any_present e s.1) (b, u) h in
      any-wrote s i.0.1 i.0.0 b u bl i.1 i.2

  hears-wrote : (t : Told) (s u : Place) → Bitlike s.0 → Hears (bit_hearing_of e) s t u → (s.0 ≡ u.0) × (drop s.1 s.0 ≡ bits_told t ++ drop u.1 s.0)
  hears-wrote (Element c) s u bl h = let w = number-wrote c.width c.value c.element s u bl h in (w.0, w.1)
  hears-wrote (Present b) s u bl h = present-wrote s b u bl h

  -- elements that were heard are written there
  pub stands-wrote : (ts : List Told) (s u : Place) → Bitlike s.0 → Stands (bit_hearing_of e) s ts u → (s.0 ≡ u.0) × (drop s.1 s.0 ≡ all_bits ts ++ drop u.1 s.0)
  stands-wrote [] s u bl h = (ap (λ z. z.0) h, ap (λ z. drop z.1 s.0) h)
  stands-wrote (t ∷ ts) s u bl h =
      let w = hears-wrote t s h.0 bl h.1 in
      let more = stands-wrote ts h.0 u (subst Bitlike w.0 bl) h.2 in
      let rest : drop h.0.1 s.0 ≡ all_bits ts ++ drop u.1 s.0 = ap (drop h.0.1) w.0 ∙ more.1 ∙ ap (λ l. all_bits ts ++ drop u.1 l) (sym w.0) in
      (w.0 ∙ more.0, w.1 ∙ ap (λ l. bits_told t ++ l) rest ∙ sym (append_assoc (bits_told t) (all_bits ts) (drop u.1 s.0)))

  -- a value of any form is read from its own bits, and what was read is written there
  pub form-reads : {A : Type 0} (c : Form A) → ReadsBack (λ a. all_bits (c.tell a)) (c.hear (bit_hearing_of e))
  form-reads c all at a rest h =
      let ts = c.tell a in
      c.reads (bit_hearing_of e) (all, at) a (all, at + length (all_bits ts)) (stands-read ts all at rest h)

  pub form-wrote : {A : Type 0} (c : Form A) → IsWritten (λ a. all_bits (c.tell a)) (c.hear (bit_hearing_of e))
  form-wrote c s a u bl h = stands-wrote (c.tell a) s u bl (c.wrote (bit_hearing_of e) s a u h)

  -- and so is a part that may be left out, whatever it is
  module _ {A : Type 0} (enc : A → List ℕ) (dec : Reader A) where
    pub optional-reads : ReadsBack enc dec → ReadsBack (optional_enc enc) (optional_dec e dec)
    optional-reads reads all at None rest h = ap (λ r. and_then r (optional_dec_body dec)) (present-read false all at rest h)
    optional-reads reads all at (Some a) rest h =
        let first = present_bits true in
        let k : drop at all ≡ first ++ (enc a ++ rest) = h ∙ append_assoc first (enc a) rest in
        let past : at + 2 + length (enc a) ≡ at + length (first ++ enc a) = omega (arith, length-append first (enc a)) in
        ap (λ r. and_then r (optional_dec_body dec)) (present-read true all at (enc a ++ rest) k)
        ∙ ap (named Some) (reads all (at + 2) a rest (drop_past all at first (enc a ++ rest) k))
        ∙ ap (λ n. Ok (Some a, (all, n))) past

    body-wrote : IsWritten enc dec → (s : Place) (b : Bool) (t : Place) (o : Option A) (u : Place) → Bitlike s.0 → (s.0 ≡ t.0) × (drop s.1 s.0 ≡ present_bits b ++ drop t.1 s.0) →
        optional_dec_body dec b t ≡ Ok (o, u) → (s.0 ≡ u.0) × (drop s.1 s.0 ≡ optional_enc enc o ++ drop u.1 s.0)
    body-wrote wrote s false t o u bl w h =
        let q = ok_same (None, t) (o, u) h in
        (w.0 ∙ ap (λ z. z.1.0) q, w.1 ∙ ap (λ z. optional_enc enc z.0 ++ drop z.1.1 s.0) q)
    body-wrote wrote s true t o u bl w h =
        let i = and_then-from (dec t) (λ a v. Ok (Some a, v)) (o, u) h in
        let a = i.0.0 in
        let v = i.0.1 in
        let q = ok_same (Some a, v) (o, u) i.2 in
        let x = wrote t a v (subst Bitlike w.0 bl) i.1 in
        let rest : drop t.1 s.0 ≡ enc a ++ drop v.1 s.0 = ap (drop t.1) w.0 ∙ x.1 ∙ ap (λ l. enc a ++ drop v.1 l) (sym w.0) in (
          w.0 ∙ x.0 ∙ ap (λ z. z.1.0) q,
          w.1 ∙ ap (λ l. present_bits true ++ l) rest ∙ sym (append_assoc (present_bits true) (enc a) (drop v.1 s.0)) ∙ ap (λ z. optional_enc enc z.0 ++ drop z.1.1 s.0) q,
        )

    pub optional-wrote : IsWritten enc dec → IsWritten (optional_enc enc) (optional_dec e dec)
    optional-wrote wrote s o u bl h =
        let i = and_then-from ((bit_hearing_of e).present s) (optional_dec_body dec) (o, u) h in
        body-wrote wrote s i.0.0 i.0.1 o u bl (present-wrote s i.0.0 i.0.1 bl i.1) i.2
