use Rattle.std.proofs.Common.{◌≡◌, ap, ◌∙◌, subst}
use Rattle.std.proofs.lemmas.List.{take_all}
use Rattle.bits.specs.Bits.{Bitlike}
use Rattle.bits.specs.Buffers.{put_out}
use Rattle.pdu.specs.Bits.{bits_of_pdu}
use Rattle.pdu.specs.Whole.{told_of}
use Rattle.pdu.proofs.Rounds.{reads-back}
use Rattle.pdu.proofs.Sizes.{sizes}
use Rattle.pdu_writing.specs.Spelling.{spelled}
use Rattle.pdu_writing.proofs.whole.write_pdu.Goals as goal

pub returns : goal.returns
returns c =
    let p = c.args.pdu.now in
    let told = ap (λ s. s.bits) c.tell_pdu.ensures ∙ ap (λ l. spelled l (told_of p)) c.new.ensures in
    let holds : c.tell_pdu.new.told.bits ≡ bits_of_pdu p = told ∙ take_all 272 (bits_of_pdu p) (sizes p) in
    record {
      value = c.put_out.ensures.value ∙ ap (λ l. put_out l c.args.out.now) holds;
      back = reads-back p (subst Bitlike holds c.put_out.ensures.bits);
    }
