use Rattle.std.proofs.Common.{ap, ◌∙◌}
use Rattle.std.specs.Result.{result_ok}
use Rattle.text.proofs.Pairs.{sized}
use Rattle.text.proofs.hexadecimal.hex_array.Goals as goal

pub returns : goal.returns
returns g c = c.ok.ensures.value ∙ ap result_ok c.from_hex.ensures ∙ sized c.args.word.now g.row.N
