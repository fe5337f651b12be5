use Rattle.std.proofs.Common.{rules, tests}
use Rattle.std.specs.Result.{result_ok}
use Rattle.std.proofs.lemmas.Iterator.{YieldsList-from_slice}
use Rattle.std.proofs.lemmas.Iterator.Adapters.{items_from_extend}
use Rattle.std.proofs.lemmas.Iterator.Consumers.{YieldsList-from_filter_map, YieldsList-at}
use Rattle.terminating.specs.declared.making.LineSetting.{LineSetting}
use Rattle.terminating.specs.Making.{line_set}
use Rattle.terminating.proofs.making.lines_set.Goals as goal

pub returns : goal.returns
returns c =
    let items = items_from_extend c.extend.result c.extend.ensures.ran (YieldsList-from_filter_map _ (λ (x : LineSetting). result_ok (line_set x)) (YieldsList-at c.filter_map-free.ensures.source (YieldsList-from_slice c.args.settings.now c.iter.ensures.rest)) c.filter_map-free.ensures.closure (λ x r q k. search (rules, tests))) in
    search rules
