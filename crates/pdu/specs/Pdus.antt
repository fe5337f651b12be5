-- The PDUs after their type, element after element.
use Rattle.std.specs.Prelude.{◌≡◌, Bool, true, false, cond, List, Ok, Err, Result, refl}
use Rattle.std.proofs.Common.{ap, ◌∙◌, subst}
use Rattle.bits.specs.declared.fault.ElementName.TheVariants as name
use Rattle.element.specs.Listed as listed
use Rattle.element.specs.declared.listed.OnlyAccepted.{OnlyAccepted}
use Rattle.element.specs.declared.listed.OnlyAccepted.TheVariants.{Accepted}
use Rattle.element.specs.declared.listed.OnlyRejected.{OnlyRejected}
use Rattle.element.specs.declared.listed.OnlyRejected.TheVariants.{Rejected}
use Rattle.pdu.specs.Parts.{ccbsi, call_identifier, call_priority, basic_service, area_selection, clir_colr, called_type, cancellation_cause, failure_cause, request_maintained, retain_capability, reject_cause, called, key, outcome, optional_retain}
use Rattle.pdu.specs.declared.pdus.CallInformationRetention.{CallInformationRetention}
use Rattle.pdu.specs.declared.pdus.CancelAck.{CancelAck}
use Rattle.pdu.specs.declared.pdus.Cancellation.{Cancellation}
use Rattle.pdu.specs.declared.pdus.Cancelled.{Cancelled}
use Rattle.pdu.specs.declared.pdus.Failed.{Failed}
use Rattle.pdu.specs.declared.pdus.Monitor.{Monitor}
use Rattle.pdu.specs.declared.pdus.MonitorAck.{MonitorAck}
use Rattle.pdu.specs.declared.pdus.RequestAccepted.{RequestAccepted}
use Rattle.pdu.specs.declared.pdus.RequestRejected.{RequestRejected}
use Rattle.source.specs.Forms.{Form, Stands, element, way, way-reads, way-wrote, like, lead, ◌then◌}
use Rattle.source.specs.Hearing.{Hearing}
use Rattle.source.specs.declared.told.Told.{Told}

abbrev pub call_information_retention : Form CallInformationRetention
call_information_retention = like (call_identifier then area_selection then call_priority then clir_colr then basic_service then called)
    (λ p. record { call_identifier = p.0; area_selection = p.1.0; call_priority = p.1.1.0; clir_colr = p.1.1.1.0; basic_service = p.1.1.1.1.0; called = p.1.1.1.1.1 })
    (λ m. (m.call_identifier, (m.area_selection, (m.call_priority, (m.clir_colr, (m.basic_service, m.called)))))) (λ m. refl) (λ p. refl)

abbrev pub monitor : Form Monitor
monitor = like (key then call_priority then basic_service then retain_capability)
    (λ p. record { key = p.0; call_priority = p.1.0; basic_service = p.1.1.0; retain_capability = p.1.1.1 })
    (λ m. (m.key, (m.call_priority, (m.basic_service, m.retain_capability)))) (λ m. refl) (λ p. refl)

abbrev pub cancel_ack : Form CancelAck
cancel_ack = like (ccbsi then outcome name.CancellationResult)
    (λ p. record { ccbsi = p.0; outcome = p.1 }) (λ m. (m.ccbsi, m.outcome)) (λ m. refl) (λ p. refl)

abbrev pub monitor_ack : Form MonitorAck
monitor_ack = like (key then outcome name.AcceptReject then call_priority then basic_service then area_selection then optional_retain)
    (λ p. record { key = p.0; outcome = p.1.0; call_priority = p.1.1.0; basic_service = p.1.1.1.0; area_selection = p.1.1.1.1.0; retain_capability = p.1.1.1.1.1 })
    (λ m. (m.key, (m.outcome, (m.call_priority, (m.basic_service, (m.area_selection, m.retain_capability)))))) (λ m. refl) (λ p. refl)

abbrev pub cancelled : Form Cancelled
cancelled = like (ccbsi then cancellation_cause)
    (λ p. record { ccbsi = p.0; cancellation_cause = p.1 }) (λ m. (m.ccbsi, m.cancellation_cause)) (λ m. refl) (λ p. refl)

abbrev pub failed : Form Failed
failed = like (ccbsi then failure_cause then request_maintained)
    (λ p. record { ccbsi = p.0; failure_cause = p.1.0; request_maintained = p.1.1 })
    (λ m. (m.ccbsi, (m.failure_cause, m.request_maintained))) (λ m. refl) (λ p. refl)

abbrev pub cancellation : Form Cancellation
cancellation = like (key then cancellation_cause)
    (λ p. record { key = p.0; cancellation_cause = p.1 }) (λ m. (m.key, m.cancellation_cause)) (λ m. refl) (λ p. refl)

pub only-accepted : (a : OnlyAccepted) → Accepted ≡ a
only-accepted Accepted = refl

pub only-rejected : (a : OnlyRejected) → Rejected ≡ a
only-rejected Rejected = refl

abbrev pub request_accepted : Form RequestAccepted
request_accepted = like (ccbsi then call_identifier then call_priority then basic_service then lead (element name.AcceptReject listed.only_accepted) Accepted only-accepted (called_type then called))
    (λ p. record { ccbsi = p.0; call_identifier = p.1.0; call_priority = p.1.1.0; basic_service = p.1.1.1.0; called_type = p.1.1.1.1.0; called = p.1.1.1.1.1 })
    (λ m. (m.ccbsi, (m.call_identifier, (m.call_priority, (m.basic_service, (m.called_type, m.called)))))) (λ m. refl) (λ p. refl)

abbrev pub request_rejected : Form RequestRejected
request_rejected = like (call_identifier then call_priority then basic_service then lead (element name.AcceptReject listed.only_rejected) Rejected only-rejected (reject_cause then called_type then called))
    (λ p. record { call_identifier = p.0; call_priority = p.1.0; basic_service = p.1.1.0; reject_cause = p.1.1.1.0; called_type = p.1.1.1.1.0; called = p.1.1.1.1.1 })
    (λ m. (m.call_identifier, (m.call_priority, (m.basic_service, (m.reject_cause, (m.called_type, m.called)))))) (λ m. refl) (λ p. refl)

abbrev pub RequestAck : Type 0
RequestAck = Result RequestAccepted RequestRejected

-- The identifier of an acceptance stands before the bit that tells it from a rejection: the source tells which of them it is, and the bit has to agree.
abbrev pub request_ack_told : RequestAck → List Told
request_ack_told (Ok a) = request_accepted.tell a
request_ack_told (Err r) = request_rejected.tell r

abbrev pub is_rejection : RequestAck → Bool
is_rejection (Ok a) = false
is_rejection (Err r) = true

abbrev pub request_ack_hear : {S F : Type 0} → Hearing S F → S → Result (RequestAck × S) F
request_ack_hear h s = cond (h.rejects s) (way request_rejected Err h s) (way request_accepted Ok h s)

pub request_ack-reads : {S F : Type 0} (h : Hearing S F) (s : S) (a : RequestAck) (t : S) → h.rejects s ≡ is_rejection a → Stands h s (request_ack_told a) t → request_ack_hear h s ≡ Ok (a, t)
request_ack-reads h s (Ok a) t e p =
    ap (λ b. cond b (way request_rejected Err h s) (way request_accepted Ok h s)) e ∙ way-reads request_accepted Ok h s a t p
request_ack-reads h s (Err r) t e p =
    ap (λ b. cond b (way request_rejected Err h s) (way request_accepted Ok h s)) e ∙ way-reads request_rejected Err h s r t p

either-wrote : {S F : Type 0} (h : Hearing S F) (b : Bool) (s : S) (a : RequestAck) (t : S) →
    cond b (way request_rejected Err h s) (way request_accepted Ok h s) ≡ Ok (a, t) → Stands h s (request_ack_told a) t
either-wrote h true s a t p =
    let i = way-wrote request_rejected Err h s a t p in
    subst (λ x. Stands h s (request_ack_told x) t) i.1 i.2
either-wrote h false s a t p =
    let i = way-wrote request_accepted Ok h s a t p in
    subst (λ x. Stands h s (request_ack_told x) t) i.1 i.2

pub request_ack-wrote : {S F : Type 0} (h : Hearing S F) (s : S) (a : RequestAck) (t : S) → request_ack_hear h s ≡ Ok (a, t) → Stands h s (request_ack_told a) t
request_ack-wrote h s = either-wrote h (h.rejects s) s
