use Rattle.std.proofs.Common.{Bor, rules, ◌∙◌}
use Rattle.std.proofs.lemmas.Iterator.{YieldsList-from_slice}
use Rattle.std.proofs.lemmas.Iterator.Consumers.{YieldsList-from_filter, YieldsList-at}
use Rattle.requests.proofs.Minimum.{minimum}
use Rattle.requests.specs.declared.records.Request.{Request}
use Rattle.requests.proofs.least.smallest.Goals as goal

pub returns : goal.returns
returns g c = λ p h.
    c.copied.ensures ∙ minimum (λ (x : Bor Request). x.now) (λ (r : Request). r.number) _ _ _ _ _ c.min_by_key.ensures.ran (λ x k f e. search rules) _ (YieldsList-from_filter _ p (YieldsList-at c.filter.ensures.source (YieldsList-from_slice c.args.requests.now c.iter.ensures.rest)) c.filter.ensures.closure (λ x b q k. search rules))
