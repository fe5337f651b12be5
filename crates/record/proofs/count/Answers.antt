use Rattle.std.proofs.Common.{sym, ◌∙◌, arith}
use Rattle.record.proofs.Counting.{count-none, count-yes, count-no}
use Rattle.record.proofs.count.Goals as goal
use Rattle.record.proofs.count.Goals.{then-is_counted, else-is_counted}

pub loop-item-init : goal.loop-item-init
loop-item-init g c = record { few = omega arith; counts = λ p h. count-none _ p c.args.party }

pub loop-item-preserved : goal.loop-item-preserved
loop-item-preserved g c =
    elim c.if-is_counted.branch [
      | then-is_counted w ↦ record {
        few = omega (arith, w.passing-is, c.loop-item.invariant.few);
        counts = λ p h. w.passing-is ∙ count-yes _ p _ _ _ _ _ c.loop-item-test.true c.item-item.is (c.loop-item.invariant.counts p h) (sym w.if-is_counted.true ∙ c.is_counted.ensures p h);
      }
      | else-is_counted w ↦ record {
        few = omega (arith, w.passing-is, c.loop-item.invariant.few);
        counts = λ p h. w.passing-is ∙ count-no _ p _ _ _ _ _ c.loop-item-test.true c.item-item.is (c.loop-item.invariant.counts p h) (sym w.if-is_counted.false ∙ c.is_counted.ensures p h);
      }
    ]
