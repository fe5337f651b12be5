use Rattle.std.proofs.Common.{arith}
use Rattle.bits.proofs.BitLaws.{length-bits_of}
use Rattle.bits.proofs.reading.Bits.end.Goals as goal
use Rattle.bits.proofs.reading.Bits.end.Goals.{else-at-self-via-then-at-self+else-width-self, else-at-self-via-else-at-self}

pub returns-then-width-self : goal.returns-then-width-self
returns-then-width-self c =
    let l = length-bits_of c.self.inside.bytes.now c.self.inside.count c.self.invariant in
    rw (← c.self.view_is) (omega arith)

pub returns-else-at-self : goal.returns-else-at-self
returns-else-at-self c =
    let l = length-bits_of c.self.inside.bytes.now c.self.inside.count c.self.invariant in
    rw (← c.self.view_is) (λ h. elim c.else-at-self.branch [
      | else-at-self-via-then-at-self+else-width-self w ↦ omega arith
      | else-at-self-via-else-at-self w ↦ omega arith
    ])
