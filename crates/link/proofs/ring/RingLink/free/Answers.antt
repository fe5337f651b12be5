use Rattle.std.proofs.Common.{arith}
use Rattle.link.specs.Bounds.{length-ring}
use Rattle.link.proofs.ring.RingLink.free.Goals as goal

pub returns : goal.returns
returns g c = grind (arith, length-ring)
