use Rattle.std.proofs.Common.{sym, ◌∙◌, rules}
use borrow.Author.Tests.{tests}
use Rattle.std.specs.Char.{is_ascii_hexdigit}
use Rattle.std.proofs.lemmas.Bool.{ne_eqb}
use Rattle.std.proofs.lemmas.Iterator.{YieldsList-from_slice}
use Rattle.std.proofs.lemmas.Iterator.Search.{all_from_yields_List}
use Rattle.text.proofs.Pairs.{even-known, odd-known}
use Rattle.text.proofs.hexadecimal.is_hex.Goals as goal

pub returns-then-word-eq0 : goal.returns-then-word-eq0
returns-then-word-eq0 c =
    let all = all_from_yields_List is_ascii_hexdigit _ _ _ c.all.ensures.ran (YieldsList-from_slice c.args.word.now cc) (λ x b q k. search (rules, tests)) in
    all ∙ even-known c.args.word.now (search rules)

pub returns-else-word-eq0 : goal.returns-else-word-eq0
returns-else-word-eq0 c = ne_eqb _ _ c.if-word-eq0.false ∙ sym (odd-known c.args.word.now c.if-word-eq0.false)
