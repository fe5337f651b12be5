use Rattle.std.proofs.Common.{◌≡◌, Ok, ap, ◌∙◌, rules}
use Rattle.link.specs.Messages.{message_of}
use Rattle.frame_lines.specs.declared.reply.Reply.TheVariants.{Encoded}
use Rattle.frame_lines.specs.Lines.{encoded_by}
use Rattle.frame_lines.proofs.answering.encode.Goals as goal

pub returns : goal.returns
returns c =
    let message : Ok c.in_ok-message.message ≡ message_of c.args.plain = search rules in
    ap (λ f. Ok (Encoded f)) c.frame.ensures.value ∙ ap encoded_by message
