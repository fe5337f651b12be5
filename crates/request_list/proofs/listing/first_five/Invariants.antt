use Rattle.std.proofs.Common.{◌-◌}
use Rattle.arrayvec.specs.ArrayVec.{array_vec_len}
use Rattle.request_list.proofs.Taken.{Taken}
use Rattle.request_list.proofs.listing.first_five.Given as goal

abbrev pub invariant-loop-caller : goal.invariant-loop-caller
invariant-loop-caller l = Taken l.requests l.caller l.five.items l.last

abbrev pub decreases-loop-caller : goal.decreases-loop-caller
decreases-loop-caller l = 5 - array_vec_len l.five
