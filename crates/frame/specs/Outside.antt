-- A frame from outside, handed to a link as what it reads as.
use Rattle.std.specs.Prelude.{Ok, Err, Result}
use Rattle.fields.specs.declared.refusal.Refusal.{Refusal}
use Rattle.link.specs.declared.message.Message.{Message}
use Rattle.link.specs.Queue.{Queue, send_answer, sent}

abbrev pub handed_answer : Queue → Result Message Refusal → Result (Unit {0}) Refusal
handed_answer q (Ok m) = send_answer q.capacity q.waiting
handed_answer q (Err e) = Err e

-- the link's queue once what was read is handed to it
abbrev pub handed : Queue → Result Message Refusal → Queue
handed q (Ok m) = sent q m
handed q (Err e) = q
