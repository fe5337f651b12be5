-- A reply as a line.
use Rattle.std.specs.Prelude.{ℕ, List, [], ◌∷◌, ◌++◌, codes, decimal}
use Rattle.std.proofs.Math.Utf8.{encode}
use Rattle.command.specs.declared.replies.Reply.{Reply}

-- columns, each after a blank
abbrev pub columns : List (List ℕ) → List ℕ
columns [] = []
columns (text ∷ more) = codes " " ++ (text ++ columns more)

abbrev pub reply_text : Reply → List ℕ
reply_text r = decimal r.number ++ columns (encode r.notice ∷ decimal r.request ∷ decimal r.identifier ∷ decimal r.cause ∷ [])

abbrev pub reply_line : Reply → List ℕ
reply_line r = reply_text r ++ codes "\n"
