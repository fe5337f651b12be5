-- What waits on a ring.
use Rattle.std.specs.Prelude.{List}
use Rattle.link.specs.declared.message.Message.{Message}
use Rattle.link.specs.declared.places.Places.{Ghosts}
use Rattle.link.specs.declared.ring.Ring.{Ring}
use Rattle.link.specs.Ring.{waiting_in}

module _ {P : Type 0} {g : Ghosts P} where
  -- the messages that wait, oldest first
  abbrev pub waiting_on : Ring P g → List Message
  waiting_on r = waiting_in (g.size r.places) (g.held r.places) r.head r.count
