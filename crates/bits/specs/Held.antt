-- The bits that the bytes of a buffer hold.
use Rattle.std.specs.Prelude.{◌≡◌, ℕ, ◌-◌, ◌≤◌, List, ◌++◌, length, take, drop, replicate}
use Rattle.std.proofs.Common.{sym, ap, ◌∙◌, arith, length-take-le, take-append-drop}
use Rattle.bits.specs.Bits.{unpack, pack, Bytelike}
use Rattle.bits.specs.Packing.{length-unpack, packed}
use Rattle.bits.specs.declared.buffer.BitBuffer.TheInside.{Inside}

abbrev pub held : Inside → List ℕ
held b = take b.len (unpack b.bytes)

-- the bits after the first `len` are 0
pub record Holds (b : Inside) : Type 0 where
  pub long : length b.bytes ≡ 34
  pub each : Bytelike b.bytes
  pub room : b.len ≤ 272
  pub clear : drop b.len (unpack b.bytes) ≡ replicate (272 - b.len) 0

-- so the bits give the bytes and the count again
module _ (b : Inside) (h : Holds b) where
  pub held-count : length (held b) ≡ b.len
  held-count =
      let u = length-unpack b.bytes in
      length-take-le b.len (unpack b.bytes) (omega (arith, h.long, h.room))

  pub held-whole : unpack b.bytes ≡ held b ++ replicate (272 - b.len) 0
  held-whole = sym (take-append-drop b.len (unpack b.bytes)) ∙ ap (λ l. held b ++ l) h.clear

  pub held-packed : pack 34 (held b) ≡ b.bytes
  held-packed = ap (λ n. pack n (held b)) (sym h.long) ∙ sym (packed b.bytes (held b) (272 - b.len) h.each held-whole)
