use Rattle.std.proofs.Common.{take, sym, ap, ◌∙◌, rules}
use Rattle.std.proofs.Output.{has_written_append, has_written_of_eq}
use Rattle.std.proofs.lemmas.List.{take_more}
use Rattle.text.specs.Numbers.{spaced_of}
use Rattle.text.proofs.Values.{spaced-more}
use Rattle.text.proofs.decimal.SpacedDisplay.fmt.Goals as goal

pub loop-number-preserved : goal.loop-number-preserved
loop-number-preserved g c plain =
    let ns = c.args.self.now.0.now in
    let i = c.loop-number.number-index in
    has_written_of_eq _ _ _ _ _ (sym (spaced-more (take i ns) _) ∙ ap spaced_of (sym (take_more ns i 0 c.loop-number-test.true))) (has_written_append _ _ _ _ _ _ (c.loop-number.invariant plain) (search rules))
