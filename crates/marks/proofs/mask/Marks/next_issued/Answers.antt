use Rattle.std.proofs.Common.{sym}
use Rattle.marks.proofs.Table.{none_is, some_is}
use Rattle.marks.proofs.mask.Marks.next_issued.Goals as goal

pub returns-then-are_all_held : goal.returns-then-are_all_held
returns-then-are_all_held c = none_is c.args.self c.args.last (sym c.if-are_all_held.ensures)

pub returns : goal.returns
returns c = some_is c.args.self c.args.last _ (sym c.if-are_all_held.ensures) (cc)
