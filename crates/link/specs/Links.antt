-- A link's capacity and what waits on it, as one value.
use Rattle.link.specs.declared.Link.{Ghosts}
use Rattle.link.specs.Queue.{Queue}

abbrev pub queue_of : {L : Type 0} → Ghosts L → L → Queue
queue_of link x = record { capacity = link.capacity x; waiting = link.waiting x }
