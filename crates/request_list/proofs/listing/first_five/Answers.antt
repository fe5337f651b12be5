use Rattle.std.proofs.Common.{arith, tests}
use Rattle.request_list.proofs.Taken.{none-taken, one-taken}
use Rattle.request_list.proofs.listing.first_five.Goals as goal

pub loop-caller-init : goal.loop-caller-init
loop-caller-init c = none-taken _ _ _ c.new-five.ensures

pub loop-caller-preserved : goal.loop-caller-preserved
loop-caller-preserved c =
    one-taken _ _ c.loop-caller.five.items c.loop-caller.last c.loop-caller.invariant (grind (arith, tests)) c.in-Some.request (c.in-Some.ensures) _ c.from.ensures _ c.push.ensures.items
