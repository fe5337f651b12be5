use Rattle.std.proofs.Common.{sym, take, ap, ◌∙◌}
use Rattle.std.specs.List.{flat_map}
use Rattle.pdu_telling.proofs.Turns.{one_more}
use Rattle.pdu_telling.proofs.lists.tell_items.Goals as goal

pub loop-item-init : goal.loop-item-init
loop-item-init g c = λ p k. sym c.requires.stands

pub loop-item-preserved : goal.loop-item-preserved
loop-item-preserved g c =
    let xs = c.args.items.now in
    let i = c.loop-item.item-index in
    let x = c.item-item.result in
    λ p k. rw (one_more p xs i x c.loop-item-test.true c.item-item.is)
    (k _ _ _ c.tell.ensures ∙ ap (λ l. g.L.Listener.after l (p x)) (c.loop-item.invariant p k) ∙ g.met.L.Listener.more c.args.told.now (flat_map p (take i xs)) (p x))
