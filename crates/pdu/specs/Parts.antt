-- The parts that PDUs are made of.
use Rattle.std.specs.Prelude.{◌≡◌, Bool, List, Ok, Err, Option, Result, refl}
use Rattle.bits.specs.declared.fault.ElementName.{ElementName}
use Rattle.bits.specs.declared.fault.ElementName.TheVariants as name
use Rattle.element.specs.Listed as listed
use Rattle.element.specs.Numbers as numbers
use Rattle.element.specs.Numbers.{ClirColr}
use Rattle.element.specs.declared.listed.CalledType.{CalledType}
use Rattle.element.specs.declared.listed.CancellationCause.{CancellationCause}
use Rattle.element.specs.declared.listed.FailureCause.{FailureCause}
use Rattle.element.specs.declared.listed.ListRequest.{ListRequest}
use Rattle.element.specs.declared.listed.RejectCause.{RejectCause}
use Rattle.element.specs.declared.listed.RetainCapability.{RetainCapability}
use Rattle.element.specs.declared.listed.Verdict.{Verdict}
use Rattle.element.specs.declared.listed.Verdict.TheVariants as verdicts
use Rattle.fields.specs.Values.{AreaSelection, CallIdentifier, Identifier, Identity, Priority, Service, joined, parts_of}
use Rattle.fields.specs.declared.key.Key.{Key}
use Rattle.fields.proofs.Halves.{joined-parts, parts-joined}
use Rattle.source.specs.Forms.{Form, Stands, element, nothing, way, way-reads, way-keyed, like, keyed, optional, ◌then◌}
use Rattle.source.specs.Hearing.{Hearing}
use Rattle.source.specs.declared.told.Told.{Told}

abbrev pub ccbsi : Form Identifier
ccbsi = element name.Ccbsi numbers.identifier

abbrev pub call_identifier : Form CallIdentifier
call_identifier = element name.CallIdentifier numbers.call_identifier

abbrev pub call_priority : Form Priority
call_priority = element name.CallPriority numbers.priority

abbrev pub basic_service : Form Service
basic_service = element name.BasicService numbers.service

abbrev pub area_selection : Form AreaSelection
area_selection = element name.AreaSelection numbers.area_selection

abbrev pub clir_colr : Form ClirColr
clir_colr = element name.ClirColr numbers.clir_colr

abbrev pub called_type : Form CalledType
called_type = element name.CalledType listed.called_type

abbrev pub cancellation_cause : Form CancellationCause
cancellation_cause = element name.CancellationCause listed.cancellation_cause

abbrev pub failure_cause : Form FailureCause
failure_cause = element name.FailureCause listed.failure_cause

abbrev pub list_request : Form ListRequest
list_request = element name.ListRequest listed.list_request

abbrev pub retain_capability : Form RetainCapability
retain_capability = element name.RetainCapability listed.retain_capability

abbrev pub reject_cause : Form RejectCause
reject_cause = element name.RejectCause listed.reject_cause

abbrev pub identity : ElementName → ElementName → Form Identity
identity s e = like (element s numbers.ssi then element e numbers.extension) (λ p. joined p.0 p.1) parts_of joined-parts (λ p. parts-joined p.0 p.1)

abbrev pub calling : Form Identity
calling = identity name.CallingSsi name.CallingExtension

abbrev pub called : Form Identity
called = identity name.CalledSsi name.CalledExtension

abbrev pub key : Form Key
key = like (ccbsi then calling then called)
    (λ p. record { identifier = p.0; caller = p.1.0; called = p.1.1 }) (λ k. (k.identifier, (k.caller, k.called))) (λ k. refl) (λ p. refl)

abbrev pub Outcome : Type 0
Outcome = Result (Unit {0}) RejectCause

-- the cause stands there when the verdict is a rejection
abbrev pub outcome_tag : Outcome → Verdict
outcome_tag (Ok u) = verdicts.Accepted
outcome_tag (Err c) = verdicts.Rejected

abbrev pub outcome_rest : Outcome → List Told
outcome_rest (Ok u) = nothing.tell u
outcome_rest (Err c) = reject_cause.tell c

abbrev pub outcome_body : {S F : Type 0} → Hearing S F → Verdict → S → Result (Outcome × S) F
outcome_body h verdicts.Accepted = way nothing Ok h
outcome_body h verdicts.Rejected = way reject_cause Err h

pub outcome-reads : {S F : Type 0} (h : Hearing S F) (s : S) (o : Outcome) (t : S) → Stands h s (outcome_rest o) t → outcome_body h (outcome_tag o) s ≡ Ok (o, t)
outcome-reads h s (Ok u) t = way-reads nothing Ok h s u t
outcome-reads h s (Err c) t = way-reads reject_cause Err h s c t

pub outcome-wrote : {S F : Type 0} (h : Hearing S F) (k : Verdict) (s : S) (o : Outcome) (t : S) → outcome_body h k s ≡ Ok (o, t) → (outcome_tag o ≡ k) × Stands h s (outcome_rest o) t
outcome-wrote h verdicts.Accepted = way-keyed nothing Ok outcome_tag outcome_rest verdicts.Accepted (λ _. refl) (λ _. refl) h
outcome-wrote h verdicts.Rejected = way-keyed reject_cause Err outcome_tag outcome_rest verdicts.Rejected (λ _. refl) (λ _. refl) h

abbrev pub outcome : ElementName → Form Outcome
outcome e = keyed (element e listed.verdict) (record { tag = outcome_tag; rest = outcome_rest; body = outcome_body; reads = outcome-reads; wrote = outcome-wrote })

abbrev pub flag : ElementName → Form Bool
flag e = element e listed.flag

abbrev pub request_maintained : Form Bool
request_maintained = flag name.RequestMaintained

abbrev pub optional_retain : Form (Option RetainCapability)
optional_retain = optional retain_capability
