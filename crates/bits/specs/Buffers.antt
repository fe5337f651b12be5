-- What a buffer takes on, and what it puts out.
use Rattle.std.specs.Prelude.{◌≡◌, ℕ, cond, List, ◌++◌, length, take, drop, Ok, Err, Result, nat_le}
use Rattle.fields.specs.declared.refusal.Refusal.{Refusal}
use Rattle.fields.specs.declared.refusal.Refusal.TheVariants.{TooLittleRoom}
use Rattle.bits.specs.Bits.{bytes_for, pack}

-- after is before and then xs, as far as there is room
pub record Adds (before xs after : List ℕ) : Type 0 where
  pub is : after ≡ take 272 (before ++ xs)

-- the answer, and the bytes after: the bits at the front and the rest as found, or all as found
abbrev pub put_out : List ℕ → List ℕ → Result ℕ Refusal × List ℕ
put_out bits before =
    let n = bytes_for (length bits) in
    cond (nat_le n (length before)) (Ok (length bits), pack n bits ++ drop n before) (Err TooLittleRoom, before)
