use Rattle.std.proofs.Common.{◌≡◌, ◌-◌, false, length, take, drop, ap, ◌∙◌}
use Rattle.std.specs.List.{prefix_len}
use Rattle.std.proofs.lemmas.List.{take_rest}
use Rattle.text.specs.Words.{of_kind, led_of, word_of, rest_of}
use Rattle.text.proofs.Splits.{words-split, rest-shorter}
use Rattle.text.proofs.words.next_word.Goals as goal

pub returns : goal.returns
returns c =
    let bs = c.args.line.now in
    let led : take (length bs - c.front.result) (drop c.front.result bs) ≡ led_of bs = take_rest bs c.front.result ∙ ap (λ n. drop n bs) c.front.ensures.value in
    let size : c.front-2.result ≡ prefix_len (of_kind false) (led_of bs) = c.front-2.ensures.value ∙ ap (prefix_len (of_kind false)) led in
    let first : c.split_at.result.0.now ≡ word_of bs = c.split_at.ensures.front ∙ ap (λ xs. take c.front-2.result xs) led ∙ ap (λ n. take n (led_of bs)) size in
    let rest : c.split_at.result.1.now ≡ rest_of bs = c.split_at.ensures.back ∙ ap (λ xs. drop c.front-2.result xs) led ∙ ap (λ n. drop n (led_of bs)) size in
    record {
      first = first;
      rest = rest;
      splits = rw (first, rest) (words-split bs);
      shorter = rw (first, rest) (rest-shorter bs);
    }
