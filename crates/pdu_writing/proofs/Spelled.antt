-- What a spelling hears.
use Rattle.std.proofs.Common.{◌≡◌, ℕ, List, [], ◌∷◌, ◌++◌, take, append-nil, sym, ap, ◌∙◌}
use Rattle.bits.specs.Buffers.{Adds}
use Rattle.source.specs.declared.told.Told.{Told}
use Rattle.pdu.specs.Bits.{bits_told}
use Rattle.pdu_writing.specs.Spelling.{spelled}

pub heard : (old new : List ℕ) (one : Told) → Adds old (bits_told one) new → new ≡ spelled old (one ∷ [])
heard old new one adds = adds.is ∙ ap (λ l. take 272 (old ++ l)) (sym (append-nil (bits_told one)))
