use Rattle.std.proofs.Common.{sym, ◌∙◌, arith}
use Rattle.std.proofs.lemmas.Nat.{and_mask}
use Rattle.bits.proofs.BitLaws.{bits_of-within, get_or-bits_of}
use Rattle.bits.proofs.reading.Bits.bit.Goals as goal

pub bounds-self-inside-at : goal.bounds-self-inside-at
bounds-self-inside-at c =
    let h = rw (← c.self.view_is) at c.requires in
    let w = bits_of-within c.self.inside.bytes.now c.self.inside.count in
    omega arith

pub returns-clause-value : goal.returns-clause-value
returns-clause-value c =
    let h = rw (← c.self.view_is) at c.requires in
    let w = bits_of-within c.self.inside.bytes.now c.self.inside.count in
    rw (← c.self.view_is) (and_mask _ 1 ∙ sym (get_or-bits_of c.self.inside.bytes.now c.self.inside.count c.args.at (omega arith)))
