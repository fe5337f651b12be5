use Rattle.std.proofs.Common.{◌≡◌, ℕ, List, IfSome}
use Rattle.line_input.specs.Lines.{Gives}
use Rattle.line_input.proofs.Told.{Told}
use Rattle.line_input.proofs.answer_lines.Given as goal

abbrev pub invariant-loop : goal.invariant-loop
invariant-loop g l = (text : List ℕ → List ℕ) → Gives (goal.F-post g l.fn.answer l.fn.heap) text
    → IfSome (g.R.Read.remaining l.fn.input) (λ bytes. Told text bytes (g.W.Write.contents l.fn.output) (g.W.Write.contents l.output) (g.R.Read.remaining l.input))
