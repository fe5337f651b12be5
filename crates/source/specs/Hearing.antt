-- What a source of elements answers, and how an element is heard from it.
use Rattle.std.specs.Prelude.{ℕ, Bool, Some, None, Ok, Err, Option, Result}
use Rattle.bits.specs.declared.fault.ElementName.{ElementName}
use Rattle.element.specs.Codings.{Coding}

pub record Hearing (S F : Type 0) : Type 0 where
  -- the code of the element that begins here, of so many bits, and what stands after it
  pub number : S → ElementName → ℕ → Result (ℕ × S) F
  -- what is wrong where that code is not listed
  pub unlisted : S → ElementName → F
  -- whether the optional element follows, and where it begins
  pub present : S → Result (Bool × S) F
  -- whether the answer to REQUEST that stands here is a rejection
  pub rejects : S → Bool

abbrev pub and_then : {S F A B : Type 0} → Result (A × S) F → (A → S → Result B F) → Result B F
and_then (Ok p) f = f p.0 p.1
and_then (Err e) f = Err e

-- one after the other
abbrev pub both : {S F A B : Type 0} → (S → Result (A × S) F) → (S → Result (B × S) F) → S → Result ((A × B) × S) F
both first second s = and_then (first s) (λ a t. and_then (second t) (λ b u. Ok ((a, b), u)))

-- what was heard, under the name f
abbrev pub named : {S F A B : Type 0} → (A → B) → Result (A × S) F → Result (B × S) F
named f r = and_then r (λ a t. Ok (f a, t))

abbrev pub listed_or : {S F A : Type 0} → F → Option A → S → Result (A × S) F
listed_or e None s = Err e
listed_or e (Some a) s = Ok (a, s)

abbrev pub element_heard : {S F A : Type 0} → Hearing S F → ElementName → Coding A → S → Result (A × S) F
element_heard h e c s = and_then (h.number s e c.width) (λ v t. listed_or (h.unlisted s e) (c.table.listed v) t)
