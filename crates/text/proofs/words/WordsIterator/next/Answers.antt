use Rattle.std.proofs.Common.{◌≡◌, ◌∷◌, [], length, sym, ◌∙◌, ap, rules, arith}
use Rattle.text.specs.Words.{words}
use Rattle.text.proofs.Splits.{no-word, no-rest, a-word}
use Rattle.text.proofs.words.WordsIterator.next.Goals as goal

pub returns-then-is_empty-clause-steps : goal.returns-then-is_empty-clause-steps
returns-then-is_empty-clause-steps c =
    let none : c.args.self.now ≡ [] = sym c.self.view_is ∙ c.next_word.ensures.splits ∙ no-word _ _ (search rules) in
    (none, rw c.next_word.ensures.rest (no-rest c.self.inside.rest.now (search rules)))

pub returns : goal.returns
returns c =
    let splits : c.args.self.now ≡ c.next_word.result.0.now ∷ words c.next_word.result.1.now = sym c.self.view_is ∙ c.next_word.ensures.splits ∙ a-word _ _ (search rules) in
    record { steps = splits; goes = record { on = λ _. (tt, tt, omega (arith, ap length splits)); keeps = tt; rests = λ _. tt } }
