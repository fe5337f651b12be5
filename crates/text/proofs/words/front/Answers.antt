use Rattle.std.proofs.Common.{◌≡◌, ℕ, true, false, sym, ◌∙◌, refl, rules, arith}
use borrow.Author.Tests.{tests}
use Rattle.std.specs.List.{prefix_len}
use Rattle.std.proofs.lemmas.Iterator.{IsFirst-from_position, index_from_first, YieldsList-from_slice}
use Rattle.text.specs.Words.{of_kind}
use Rattle.text.proofs.Splits.{kind-is}
use Rattle.text.proofs.words.front.Goals as goal

pub returns-clause-value : goal.returns-clause-value
returns-clause-value c =
    let p = of_kind c.args.blank in
    let Yes : ℕ → Type 0 = λ b. p b ≡ false in
    let No : ℕ → Type 0 = λ b. p b ≡ true in
    let first = IsFirst-from_position _ _ _ Yes No c.position.ensures.ran (YieldsList-from_slice c.args.line.now cc) (λ x q k. search (rules, tests, kind-is)) (λ x q k. search (rules, tests, kind-is)) in
    c.unwrap_or.ensures ∙ sym (index_from_first (prefix_len p) Yes No refl (λ x xs yes. rw yes refl) (λ x xs no. rw no (omega arith)) c.args.line.now _ first)
