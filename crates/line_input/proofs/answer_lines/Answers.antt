use Rattle.std.proofs.Common.{refl, rules, vec_items}
use Rattle.std.proofs.lemmas.Option.{IfSome_then}
use Rattle.line_input.proofs.Told.{told-more, told-last}
use Rattle.line_input.proofs.answer_lines.Goals as goal

pub loop-preserved : goal.loop-preserved
loop-preserved g c text tells =
    let read = rw c.if-not-branch.false at c.in_ok-next_line.ensures.known in
    IfSome_then _ (c.loop.invariant text tells) (λ known told. told-more told _ _ c.next_line.new.line.items read (rw (← c.deref.ensures.value) (c.in_ok-answer_line.ensures text tells)))

pub returns-then-not-branch : goal.returns-then-not-branch
returns-then-not-branch g c text tells =
    let ended = rw c.if-not-branch.true at c.in_ok-next_line.ensures.known in
    IfSome_then _ (c.loop.invariant text tells) (λ known told. told-last told _ refl ended)
