use Rattle.std.proofs.Common.{◌≡◌, take}
use Rattle.std.specs.List.{flat_map}
use Rattle.pdu_telling.specs.Telling.{Tells}
use Rattle.pdu_telling.proofs.lists.tell_items.Given as goal

abbrev pub invariant-loop-item : goal.invariant-loop-item
invariant-loop-item g l = (p : _) → Tells g.F.Fn l.fn.tell g.L.Listener.after p → l.told ≡ g.L.Listener.after l.initial.told (flat_map p (take l.item-index l.items))
