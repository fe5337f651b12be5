-- A whole PDU: supplementary service, type of PDU, and what follows by the type.
use Rattle.std.specs.Prelude.{◌≡◌, List, ◌++◌, Ok, Result, refl}
use Rattle.std.proofs.Common.{sym, ap, ◌∙◌, subst}
use Rattle.bits.specs.declared.fault.ElementName.TheVariants as name
use Rattle.element.specs.Listed as listed
use Rattle.element.specs.declared.listed.PduType.{PduType}
use Rattle.element.specs.declared.listed.PduType.TheVariants as types
use Rattle.element.specs.declared.listed.SsType.{SsType}
use Rattle.element.specs.declared.listed.SsType.TheVariants.{Ccbs}
use Rattle.pdu.specs.Lists.{list_ack}
use Rattle.pdu.specs.Parts.{ccbsi, call_identifier, list_request, key}
use Rattle.pdu.specs.Pdus as pdus
use Rattle.pdu.specs.declared.pdus.Pdu.{Pdu}
use Rattle.pdu.specs.declared.pdus.Pdu.TheVariants as variants
use Rattle.source.specs.Forms.{Form, Stands, element, way, way-reads, way-keyed, lead, and_then-from, ok_same, stands-append, stands-split}
use Rattle.source.specs.Hearing.{Hearing, and_then}
use Rattle.source.specs.declared.told.Told.{Told}

abbrev pub type_of : Pdu → PduType
type_of (variants.CallInformationRetention x) = types.CallInformationRetention
type_of (variants.Cancel x) = types.Cancel
type_of (variants.List x) = types.List
type_of (variants.Monitor x) = types.Monitor
type_of (variants.Recall x) = types.Recall
type_of (variants.Request x) = types.Request
type_of (variants.ResumeCompletion x) = types.ResumeCompletion
type_of (variants.CancelAck x) = types.CancelAck
type_of (variants.ListAck x) = types.ListAck
type_of (variants.MonitorAck x) = types.MonitorAck
type_of (variants.RequestAck x) = types.RequestAck
type_of (variants.Cancelled x) = types.Cancelled
type_of (variants.Failed x) = types.Failed
type_of (variants.FreeNotification x) = types.FreeNotification
type_of (variants.SuspendCompletion x) = types.SuspendCompletion
type_of (variants.UserBFree x) = types.UserBFree
type_of (variants.Cancellation x) = types.Cancellation
type_of (variants.Ccbsi x) = types.Ccbsi
type_of (variants.CallInformationRelease x) = types.CallInformationRelease

-- what is told after the type
abbrev pub body_told : Pdu → List Told
body_told (variants.CallInformationRetention x) = pdus.call_information_retention.tell x
body_told (variants.Cancel x) = ccbsi.tell x
body_told (variants.List x) = list_request.tell x
body_told (variants.Monitor x) = pdus.monitor.tell x
body_told (variants.Recall x) = ccbsi.tell x
body_told (variants.Request x) = call_identifier.tell x
body_told (variants.ResumeCompletion x) = key.tell x
body_told (variants.CancelAck x) = pdus.cancel_ack.tell x
body_told (variants.ListAck x) = list_ack.tell x
body_told (variants.MonitorAck x) = pdus.monitor_ack.tell x
body_told (variants.RequestAck x) = pdus.request_ack_told x
body_told (variants.Cancelled x) = pdus.cancelled.tell x
body_told (variants.Failed x) = pdus.failed.tell x
body_told (variants.FreeNotification x) = key.tell x
body_told (variants.SuspendCompletion x) = key.tell x
body_told (variants.UserBFree x) = ccbsi.tell x
body_told (variants.Cancellation x) = pdus.cancellation.tell x
body_told (variants.Ccbsi x) = ccbsi.tell x
body_told (variants.CallInformationRelease x) = call_identifier.tell x

abbrev pub request_ack_heard : {S F : Type 0} → Hearing S F → S → Result (Pdu × S) F
request_ack_heard h s = and_then (pdus.request_ack_hear h s) (λ a t. Ok (variants.RequestAck a, t))

-- what follows the type, as a PDU
abbrev pub body : {S F : Type 0} → Hearing S F → PduType → S → Result (Pdu × S) F
body h types.CallInformationRetention = way pdus.call_information_retention variants.CallInformationRetention h
body h types.Cancel = way ccbsi variants.Cancel h
body h types.List = way list_request variants.List h
body h types.Monitor = way pdus.monitor variants.Monitor h
body h types.Recall = way ccbsi variants.Recall h
body h types.Request = way call_identifier variants.Request h
body h types.ResumeCompletion = way key variants.ResumeCompletion h
body h types.CancelAck = way pdus.cancel_ack variants.CancelAck h
body h types.ListAck = way list_ack variants.ListAck h
body h types.MonitorAck = way pdus.monitor_ack variants.MonitorAck h
body h types.RequestAck = request_ack_heard h
body h types.Cancelled = way pdus.cancelled variants.Cancelled h
body h types.Failed = way pdus.failed variants.Failed h
body h types.FreeNotification = way key variants.FreeNotification h
body h types.SuspendCompletion = way key variants.SuspendCompletion h
body h types.UserBFree = way ccbsi variants.UserBFree h
body h types.Cancellation = way pdus.cancellation variants.Cancellation h
body h types.Ccbsi = way ccbsi variants.Ccbsi h
body h types.CallInformationRelease = way call_identifier variants.CallInformationRelease h

-- what the source has to say before it reads a PDU back: which answer to REQUEST stands there
abbrev pub Agrees : {S F : Type 0} → Hearing S F → S → Pdu → Type 0
Agrees h s (variants.CallInformationRetention x) = Unit {0}
Agrees h s (variants.Cancel x) = Unit {0}
Agrees h s (variants.List x) = Unit {0}
Agrees h s (variants.Monitor x) = Unit {0}
Agrees h s (variants.Recall x) = Unit {0}
Agrees h s (variants.Request x) = Unit {0}
Agrees h s (variants.ResumeCompletion x) = Unit {0}
Agrees h s (variants.CancelAck x) = Unit {0}
Agrees h s (variants.ListAck x) = Unit {0}
Agrees h s (variants.MonitorAck x) = Unit {0}
Agrees h s (variants.RequestAck x) = h.rejects s ≡ pdus.is_rejection x
Agrees h s (variants.Cancelled x) = Unit {0}
Agrees h s (variants.Failed x) = Unit {0}
Agrees h s (variants.FreeNotification x) = Unit {0}
Agrees h s (variants.SuspendCompletion x) = Unit {0}
Agrees h s (variants.UserBFree x) = Unit {0}
Agrees h s (variants.Cancellation x) = Unit {0}
Agrees h s (variants.Ccbsi x) = Unit {0}
Agrees h s (variants.CallInformationRelease x) = Unit {0}

pub body-reads : {S F : Type 0} (h : Hearing S F) (s : S) (p : Pdu) (t : S) → Agrees h s p → Stands h s (body_told p) t → body h (type_of p) s ≡ Ok (p, t)
body-reads h s (variants.CallInformationRetention x) t _ q = way-reads pdus.call_information_retention variants.CallInformationRetention h s x t q
body-reads h s (variants.Cancel x) t _ q = way-reads ccbsi variants.Cancel h s x t q
body-reads h s (variants.List x) t _ q = way-reads list_request variants.List h s x t q
body-reads h s (variants.Monitor x) t _ q = way-reads pdus.monitor variants.Monitor h s x t q
body-reads h s (variants.Recall x) t _ q = way-reads ccbsi variants.Recall h s x t q
body-reads h s (variants.Request x) t _ q = way-reads call_identifier variants.Request h s x t q
body-reads h s (variants.ResumeCompletion x) t _ q = way-reads key variants.ResumeCompletion h s x t q
body-reads h s (variants.CancelAck x) t _ q = way-reads pdus.cancel_ack variants.CancelAck h s x t q
body-reads h s (variants.ListAck x) t _ q = way-reads list_ack variants.ListAck h s x t q
body-reads h s (variants.MonitorAck x) t _ q = way-reads pdus.monitor_ack variants.MonitorAck h s x t q
body-reads h s (variants.RequestAck x) t a q = ap (λ r. and_then r (λ a t. Ok (variants.RequestAck a, t))) (pdus.request_ack-reads h s x t a q)
body-reads h s (variants.Cancelled x) t _ q = way-reads pdus.cancelled variants.Cancelled h s x t q
body-reads h s (variants.Failed x) t _ q = way-reads pdus.failed variants.Failed h s x t q
body-reads h s (variants.FreeNotification x) t _ q = way-reads key variants.FreeNotification h s x t q
body-reads h s (variants.SuspendCompletion x) t _ q = way-reads key variants.SuspendCompletion h s x t q
body-reads h s (variants.UserBFree x) t _ q = way-reads ccbsi variants.UserBFree h s x t q
body-reads h s (variants.Cancellation x) t _ q = way-reads pdus.cancellation variants.Cancellation h s x t q
body-reads h s (variants.Ccbsi x) t _ q = way-reads ccbsi variants.Ccbsi h s x t q
body-reads h s (variants.CallInformationRelease x) t _ q = way-reads call_identifier variants.CallInformationRelease h s x t q

request_ack-wrote : {S F : Type 0} (h : Hearing S F) (s : S) (p : Pdu) (t : S) → request_ack_heard h s ≡ Ok (p, t) → (type_of p ≡ types.RequestAck) × Stands h s (body_told p) t
request_ack-wrote h s p t q =
    let i = and_then-from (pdus.request_ack_hear h s) (λ a t. Ok (variants.RequestAck a, t)) (p, t) q in
    let e = ok_same (variants.RequestAck i.0.0, i.0.1) (p, t) i.2 in
    (ap (λ z. type_of z.0) (sym e), subst (λ z. Stands h s (body_told z.0) z.1) e (pdus.request_ack-wrote h s i.0.0 i.0.1 i.1))

pub body-wrote : {S F : Type 0} (h : Hearing S F) (k : PduType) (s : S) (p : Pdu) (t : S) → body h k s ≡ Ok (p, t) → (type_of p ≡ k) × Stands h s (body_told p) t
body-wrote h types.CallInformationRetention = way-keyed pdus.call_information_retention variants.CallInformationRetention type_of body_told types.CallInformationRetention (λ _. refl) (λ _. refl) h
body-wrote h types.Cancel = way-keyed ccbsi variants.Cancel type_of body_told types.Cancel (λ _. refl) (λ _. refl) h
body-wrote h types.List = way-keyed list_request variants.List type_of body_told types.List (λ _. refl) (λ _. refl) h
body-wrote h types.Monitor = way-keyed pdus.monitor variants.Monitor type_of body_told types.Monitor (λ _. refl) (λ _. refl) h
body-wrote h types.Recall = way-keyed ccbsi variants.Recall type_of body_told types.Recall (λ _. refl) (λ _. refl) h
body-wrote h types.Request = way-keyed call_identifier variants.Request type_of body_told types.Request (λ _. refl) (λ _. refl) h
body-wrote h types.ResumeCompletion = way-keyed key variants.ResumeCompletion type_of body_told types.ResumeCompletion (λ _. refl) (λ _. refl) h
body-wrote h types.CancelAck = way-keyed pdus.cancel_ack variants.CancelAck type_of body_told types.CancelAck (λ _. refl) (λ _. refl) h
body-wrote h types.ListAck = way-keyed list_ack variants.ListAck type_of body_told types.ListAck (λ _. refl) (λ _. refl) h
body-wrote h types.MonitorAck = way-keyed pdus.monitor_ack variants.MonitorAck type_of body_told types.MonitorAck (λ _. refl) (λ _. refl) h
body-wrote h types.RequestAck = request_ack-wrote h
body-wrote h types.Cancelled = way-keyed pdus.cancelled variants.Cancelled type_of body_told types.Cancelled (λ _. refl) (λ _. refl) h
body-wrote h types.Failed = way-keyed pdus.failed variants.Failed type_of body_told types.Failed (λ _. refl) (λ _. refl) h
body-wrote h types.FreeNotification = way-keyed key variants.FreeNotification type_of body_told types.FreeNotification (λ _. refl) (λ _. refl) h
body-wrote h types.SuspendCompletion = way-keyed key variants.SuspendCompletion type_of body_told types.SuspendCompletion (λ _. refl) (λ _. refl) h
body-wrote h types.UserBFree = way-keyed ccbsi variants.UserBFree type_of body_told types.UserBFree (λ _. refl) (λ _. refl) h
body-wrote h types.Cancellation = way-keyed pdus.cancellation variants.Cancellation type_of body_told types.Cancellation (λ _. refl) (λ _. refl) h
body-wrote h types.Ccbsi = way-keyed ccbsi variants.Ccbsi type_of body_told types.Ccbsi (λ _. refl) (λ _. refl) h
body-wrote h types.CallInformationRelease = way-keyed call_identifier variants.CallInformationRelease type_of body_told types.CallInformationRelease (λ _. refl) (λ _. refl) h

pub only-ccbs : (s : SsType) → Ccbs ≡ s
only-ccbs Ccbs = refl

-- the supplementary service and the type of PDU
abbrev pub head : Form PduType
head = lead (element name.SsType listed.ss_type) Ccbs only-ccbs (element name.PduType listed.pdu_type)

-- what a PDU tells
abbrev pub told_of : Pdu → List Told
told_of p = head.tell (type_of p) ++ body_told p

-- the PDU that begins here
abbrev pub pdu_hear : {S F : Type 0} → Hearing S F → S → Result (Pdu × S) F
pdu_hear h s = and_then (head.hear h s) (body h)

pub pdu-reads : {S F : Type 0} (h : Hearing S F) (s : S) (p : Pdu) (t : S) → ((u : S) → Stands h s (head.tell (type_of p)) u → Agrees h u p) → Stands h s (told_of p) t → pdu_hear h s ≡ Ok (p, t)
pdu-reads h s p t agrees q =
    let k = stands-split h (head.tell (type_of p)) (body_told p) s t q in
    ap (λ r. and_then r (body h)) (head.reads h s (type_of p) k.0 k.1) ∙ body-reads h k.0 p t (agrees k.0 k.1) k.2

pub pdu-wrote : {S F : Type 0} (h : Hearing S F) (s : S) (p : Pdu) (t : S) → pdu_hear h s ≡ Ok (p, t) → Stands h s (told_of p) t
pdu-wrote h s p t q =
    let i = and_then-from (head.hear h s) (body h) (p, t) q in
    let j = body-wrote h i.0.0 i.0.1 p t i.2 in
    stands-append h (head.tell (type_of p)) (body_told p) s i.0.1 t (subst (λ k. Stands h s (head.tell k) i.0.1) (sym j.0) (head.wrote h s i.0.0 i.0.1 i.1)) j.1
