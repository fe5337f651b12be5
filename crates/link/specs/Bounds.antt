-- A link whose messages stand in a ring keeps within its room.
use Rattle.std.specs.Prelude.{◌≡◌, ℕ, zero, suc, ◌+◌, ◌<◌, ◌≤◌, length, refl}
use Rattle.std.proofs.Common.{ap, arith}
use Rattle.link.specs.declared.message.Message.{Message}
use Rattle.link.specs.Queue.{Bounded}
use Rattle.link.specs.Ring.{wrap, ring}

pub length-ring : {X : Type 0} (c : ℕ) (at : ℕ → X) (i n : ℕ) → length (ring c at i n) ≡ n
length-ring c at i zero = refl
length-ring c at i (suc n) = ap suc (length-ring c at (wrap c (i + 1)) n)

pub ring-bounded : (c : ℕ) (at : ℕ → Message) (i n : ℕ) → i < c → n ≤ c → c ≤ 4096 → Bounded c (ring c at i n)
ring-bounded c at i n within held few = (omega arith, few, rw length-ring held)
