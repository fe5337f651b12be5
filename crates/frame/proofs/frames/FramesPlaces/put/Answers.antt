use Rattle.std.proofs.Common.{◌≡◌, ◌*◌, ◌++◌, take, drop, ap, ◌∙◌, arith}
use Rattle.std.specs.Result.{result_ok}
use Rattle.std.specs.Vec.{with_items}
use Rattle.std.proofs.lemmas.List.{with_items_is}
use Rattle.frame.specs.Rows.{read_at, unused_of, written}
use Rattle.frame.proofs.Slots.{read_here, read-other, unused_of-written}
use Rattle.frame.proofs.frames.FramesPlaces.put.Goals as goal
use Rattle.frame.proofs.frames.FramesPlaces.put.Goals.{After-write}

items : (c : After-write) → (with_items c.args.self.now.0 c.write.new.bytes).items ≡ written c.args.self.now.0.items c.args.place c.args.message
items c =
    let at = 15 * c.args.place in
    with_items_is c.args.self.now.0 c.write.new.bytes (omega arith)
    ∙ c.write.ensures
    ∙ (λ j. take at (c.deref_mut.ensures.value j) ++ (c.frame.ensures.value j ++ drop 15 (drop at (c.deref_mut.ensures.value j))))

pub returns-clause-held : goal.returns-clause-held
returns-clause-held c =
    let bytes = c.args.self.now.0.items in
    let p = c.args.place in
    let at = (goal.at.returns-clause-held c).After-write in
    record {
      here = ap (λ l. result_ok (read_at l p)) (items at) ∙ ap result_ok (read_here bytes p c.args.message (omega arith));
      elsewhere = λ k apart. ap (λ l. result_ok (read_at l k)) (items at) ∙ ap result_ok (read-other bytes p c.args.message k (omega arith) apart);
    }

pub returns-clause-memory : goal.returns-clause-memory
returns-clause-memory c =
    let at = (goal.at.returns-clause-memory c).After-write in
    record { bytes = items at; rest = ap unused_of (items at) ∙ unused_of-written c.args.self.now.0.items c.args.place c.args.message (omega arith) }
