use Rattle.std.proofs.lemmas.Iterator.{YieldsList-from_slice}
use Rattle.std.proofs.lemmas.Iterator.Search.{position_from_yields_List}
use Rattle.record.proofs.position.Goals as goal

pub returns-clause-place : goal.returns-clause-place
returns-clause-place g c = λ p h.
    position_from_yields_List p _ _ c.position.result c.position.ensures.ran (YieldsList-from_slice c.args.records.now (cc)) (λ x b f k.
    (g.met.F.Fn.1.step_stays _ _ _ _ k, h x b ((g.met.F.FnMut.1.post_iff _ _ _).1 (f, k))))
