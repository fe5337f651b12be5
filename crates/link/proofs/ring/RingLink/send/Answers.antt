use Rattle.std.proofs.Common.{◌<◌, arith}
use Rattle.link.specs.Bounds.{length-ring}
use Rattle.link.proofs.Turns.{waiting_in-put, Whole-put}
use Rattle.link.proofs.ring.RingLink.send.Goals as goal
use Rattle.link.proofs.ring.RingLink.send.Goals.{After-put}

room : (g : _) (c : After-put g) → c.args.self.now.count < g.P.Places.size c.args.self.now.places
room g c = grind (arith, length-ring)

pub invariant_of-self-clause-held : goal.invariant_of-self-clause-held
invariant_of-self-clause-held g c = omega (arith, room g c, c.put.ensures.size)

pub invariant_of-self-clause-whole : goal.invariant_of-self-clause-whole
invariant_of-self-clause-whole g c =
    let s = c.args.self.now in
    Whole-put _ _ _ _ _ _ c.put.ensures.size c.put.ensures.held _ _ s.within (room g c) c.place-end.ensures s.whole

pub returns-clause-list : goal.returns-clause-list
returns-clause-list g c =
    let s = c.args.self.now in
    let at = (goal.at.returns-clause-list g c).After-put in
    waiting_in-put _ _ _ _ _ _ c.put.ensures.size c.put.ensures.held _ _ s.within (room g at) c.place-end.ensures
