use Rattle.std.proofs.Common.{◌≡◌, ℕ, eqb, true, false, sym, ◌∙◌, refl, rules, arith}
use borrow.Author.Tests.{tests}
use Rattle.std.proofs.lemmas.Iterator.{IsFirst-from_position, index_from_first, YieldsList-from_slice}
use Rattle.field_text.specs.Fields.{name_len}
use Rattle.field_text.proofs.field.name_len.Goals as goal

pub returns-clause-value : goal.returns-clause-value
returns-clause-value c =
    let Yes : ℕ → Type 0 = λ b. eqb b 61 ≡ true in
    let No : ℕ → Type 0 = λ b. eqb b 61 ≡ false in
    let first = IsFirst-from_position _ _ _ Yes No c.position.ensures.ran (YieldsList-from_slice c.args.word.now cc) (λ x q k. search (rules, tests)) (λ x q k. search (rules, tests)) in
    c.unwrap_or.ensures ∙ sym (index_from_first name_len Yes No refl (λ x xs yes. rw yes refl) (λ x xs no. rw no (omega arith)) c.args.word.now _ first)
