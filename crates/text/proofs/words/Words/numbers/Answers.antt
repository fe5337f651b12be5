use Rattle.std.proofs.Common.{◌≡◌, ◌+◌, ◌-◌, ◌∷◌, take, sym, ap, ◌∙◌, rules, arith, length-set}
use Rattle.std.proofs.lemmas.List.{take_more_set}
use Rattle.text.specs.Numbers.{numbers_of, linked}
use Rattle.text.proofs.Lists.{after, after_push, numbers_more}
use Rattle.text.proofs.words.Words.numbers.Goals as goal

pub loop-value-preserved : goal.loop-value-preserved
loop-value-preserved g c =
    let i = c.loop-value.value-index in
    let xs = c.loop-value.value-items in
    let x = c.in_ok-value.field-0 in
    let first : c.loop-value.self ≡ c.in_ok-next.field-0.now ∷ c.next.new.self = search rules in
    let left = numbers_of (g.row.N - (i + 1)) c.next.new.self in
    let turn = numbers_more _ _ _ _ _ (omega arith) first ∙ ap (λ o. linked o left) (sym c.number.ensures.value ∙ c.in_ok-value.was) in
    record {
      full = length-set xs i x ∙ c.loop-value.invariant.full;
      read = c.loop-value.invariant.read ∙ ap (after (take i xs)) turn ∙ after_push (take i xs) x left ∙ ap (λ ys. after ys left) (sym (take_more_set xs i x (omega arith)));
    }
