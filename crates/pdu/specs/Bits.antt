-- A PDU in bits: its elements one after the other, each with its highest bit first.
use Rattle.std.specs.Prelude.{◌≡◌, ℕ, ◌+◌, Bool, true, false, cond, List, [], ◌∷◌, ◌++◌, length, drop, Some, None, Ok, Err, Option, Result, ◌==◌, nat_le}
use Rattle.std.specs.List.{flat_map}
use Rattle.bits.specs.Bits.{digits, Bitlike}
use Rattle.bits.specs.Reading.{taken}
use Rattle.bits.specs.declared.fault.ElementName.{ElementName}
use Rattle.bits.specs.declared.fault.ElementName.TheVariants as name
use Rattle.bits.specs.declared.fault.Fault.{Fault}
use Rattle.bits.specs.declared.fault.Layer.TheVariants as layer
use Rattle.bits.specs.declared.fault.Reason.TheVariants.{NotListed}
use Rattle.element.specs.Codings.{not_listed}
use Rattle.pdu.specs.Whole.{told_of, pdu_hear}
use Rattle.pdu.specs.declared.pdus.Pdu.{Pdu}
use Rattle.source.specs.Hearing.{Hearing, and_then, named}
use Rattle.source.specs.declared.told.Told.{Told}
use Rattle.source.specs.declared.told.Told.TheVariants.{Element, Present}

-- a bit says whether any optional element is present, and one more announces the element
abbrev pub present_bits : Bool → List ℕ
present_bits false = 0 ∷ []
present_bits true = 1 ∷ 1 ∷ []

abbrev pub bits_told : Told → List ℕ
bits_told (Element c) = digits c.width c.value
bits_told (Present b) = present_bits b

abbrev pub all_bits : List Told → List ℕ
all_bits ts = flat_map bits_told ts

-- the bits of a PDU, and a place in them
abbrev pub Place : Type 0
Place = List ℕ × ℕ

abbrev pub bit_number : Place → ElementName → ℕ → Result (ℕ × Place) Fault
bit_number s e w = and_then (taken w e s.0 s.1) (λ v n. Ok (v, (s.0, n)))

abbrev pub present_but_none : ℕ → Fault
present_but_none at = record { reason = NotListed; layer = layer.Pdu; element = Some name.Optional; position = at }

abbrev pub announced : ℕ → ℕ → Place → Result (Bool × Place) Fault
announced at v t = cond (v == 0) (Err (present_but_none at)) (Ok (true, t))

-- the 82 bits of a rejection follow
abbrev pub rejection_follows : Place → Bool
rejection_follows s = nat_le (s.1 + 82) (length s.0)

-- bits in which the optional element is e
module _ (e : ElementName) where
  abbrev pub any_present : ℕ → ℕ → Place → Result (Bool × Place) Fault
  any_present at v t = cond (v == 0) (Ok (false, t)) (and_then (bit_number t e 1) (announced at))

  abbrev pub bit_hearing_of : Hearing Place Fault
  bit_hearing_of = record {
    number = bit_number;
    unlisted = λ s u. not_listed u s.1;
    present = λ s. and_then (bit_number s name.Optional 1) (any_present s.1);
    rejects = rejection_follows;
  }

-- that of a PDU is this one
abbrev pub bit_hearing : Hearing Place Fault
bit_hearing = bit_hearing_of name.RetainCapability

-- what is read at a place of the bits, and the place after it
abbrev pub Reader : Type 0 → Type 0
Reader A = Place → Result (A × Place) Fault

-- what was written is read from its place
abbrev pub ReadsBack : {A : Type 0} → (A → List ℕ) → Reader A → Type 0
ReadsBack {A} enc dec = (all : List ℕ) (at : ℕ) (a : A) (rest : List ℕ) → drop at all ≡ enc a ++ rest → dec (all, at) ≡ Ok (a, (all, at + length (enc a)))

-- what was read is what is written there
abbrev pub IsWritten : {A : Type 0} → (A → List ℕ) → Reader A → Type 0
IsWritten {A} enc dec = (s : Place) (a : A) (u : Place) → Bitlike s.0 → dec s ≡ Ok (a, u) → (s.0 ≡ u.0) × (drop s.1 s.0 ≡ enc a ++ drop u.1 s.0)

-- a part that may be left out
abbrev pub optional_enc : {A : Type 0} → (A → List ℕ) → Option A → List ℕ
optional_enc enc None = present_bits false
optional_enc enc (Some a) = present_bits true ++ enc a

abbrev pub optional_dec_body : {A : Type 0} → Reader A → Bool → Reader (Option A)
optional_dec_body dec false s = Ok (None, s)
optional_dec_body dec true s = named Some (dec s)

abbrev pub optional_dec : {A : Type 0} → ElementName → Reader A → Reader (Option A)
optional_dec e dec s = and_then ((bit_hearing_of e).present s) (optional_dec_body dec)

-- the bits of a PDU
abbrev pub bits_of_pdu : Pdu → List ℕ
bits_of_pdu p = all_bits (told_of p)

abbrev pub placed : Result (Pdu × Place) Fault → Result (Pdu × ℕ) Fault
placed (Ok q) = Ok (q.0, q.1.1)
placed (Err e) = Err e

-- the PDU at the start of the bits, and the place after it
unfoldable pub reading : List ℕ → Result (Pdu × ℕ) Fault
reading all = placed (pdu_hear bit_hearing (all, 0))
