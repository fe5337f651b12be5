use Rattle.std.proofs.Common.{◌++◌, take, drop, ap, ◌∙◌, arith}
use Rattle.bits.proofs.BufferLaws.{refused, gone-out, held-bits}
use Rattle.bits.proofs.buffer.BitBuffer.put_out.Goals as goal

pub returns-then-out-n-clause-value : goal.returns-then-out-n-clause-value
returns-then-out-n-clause-value c = rw (← c.self.view_is) (refused c.self.inside c.self.invariant c.args.out.now (omega arith))

pub returns-then-out-n-clause-bits : goal.returns-then-out-n-clause-bits
returns-then-out-n-clause-bits c = rw (← c.self.view_is) (held-bits c.self.inside)

pub returns-clause-value : goal.returns-clause-value
returns-clause-value c =
    let after = ap (λ front. front ++ drop c.bytes_for-n.result c.args.out.now) c.copy_from_slice.ensures.after
    ∙ ap (λ k. take k c.self.inside.bytes ++ drop k c.args.out.now) c.bytes_for-n.ensures in
    rw (← c.self.view_is) (gone-out c.self.inside c.self.invariant c.args.out.now _ (omega arith) after)

pub returns-clause-bits : goal.returns-clause-bits
returns-clause-bits c = rw (← c.self.view_is) (held-bits c.self.inside)
