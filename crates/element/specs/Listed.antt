-- The listed values of elements, and their codes.
use Rattle.std.specs.Prelude.{◌≡◌, ℕ, Bool, true, false, List, [], ◌∷◌, Some, find, ◌==◌, refl}
use Rattle.std.specs.Int.{from_bool}
use Rattle.std.proofs.Common.{lit<, lit≤}
use Rattle.element.specs.Codings.{Coding}
use Rattle.element.specs.Listings.{Listing, listed}
use Rattle.element.specs.declared.listed.SsType.{SsType}
use Rattle.element.specs.declared.listed.SsType.TheVariants as ss_types
use Rattle.element.specs.declared.listed.PduType.{PduType}
use Rattle.element.specs.declared.listed.PduType.TheVariants as pdu_types
use Rattle.element.specs.declared.listed.Verdict.{Verdict}
use Rattle.element.specs.declared.listed.Verdict.TheVariants as verdicts
use Rattle.element.specs.declared.listed.OnlyAccepted.{OnlyAccepted}
use Rattle.element.specs.declared.listed.OnlyAccepted.TheVariants as only_accepteds
use Rattle.element.specs.declared.listed.OnlyRejected.{OnlyRejected}
use Rattle.element.specs.declared.listed.OnlyRejected.TheVariants as only_rejecteds
use Rattle.element.specs.declared.listed.RetainCapability.{RetainCapability}
use Rattle.element.specs.declared.listed.RetainCapability.TheVariants as retain_capabilitys
use Rattle.element.specs.declared.listed.RejectCause.{RejectCause}
use Rattle.element.specs.declared.listed.RejectCause.TheVariants as reject_causes
use Rattle.element.specs.declared.listed.ListRequest.{ListRequest}
use Rattle.element.specs.declared.listed.ListRequest.TheVariants as list_requests
use Rattle.element.specs.declared.listed.CancellationCause.{CancellationCause}
use Rattle.element.specs.declared.listed.CancellationCause.TheVariants as cancellation_causes
use Rattle.element.specs.declared.listed.FailureCause.{FailureCause}
use Rattle.element.specs.declared.listed.FailureCause.TheVariants as failure_causes
use Rattle.element.specs.declared.listed.CalledType.{CalledType}
use Rattle.element.specs.declared.listed.CalledType.TheVariants as called_types

abbrev pub ss_type_code : SsType → ℕ
ss_type_code ss_types.Ccbs = 13

abbrev pub ss_type_values : List SsType
ss_type_values = ss_types.Ccbs ∷ []

pub ss_type-back : (x : SsType) → find (λ a. ss_type_code a == ss_type_code x) ss_type_values ≡ Some x
ss_type-back ss_types.Ccbs = refl

abbrev pub ss_type_listing : Listing SsType
ss_type_listing = record { width = 6; some = lit< tt; room = lit≤ tt; code = ss_type_code; values = ss_type_values; small = refl; back = ss_type-back }

abbrev pub ss_type : Coding SsType
ss_type = listed ss_type_listing

abbrev pub pdu_type_code : PduType → ℕ
pdu_type_code pdu_types.CallInformationRetention = 5
pdu_type_code pdu_types.Cancel = 6
pdu_type_code pdu_types.List = 7
pdu_type_code pdu_types.Monitor = 8
pdu_type_code pdu_types.Recall = 9
pdu_type_code pdu_types.Request = 11
pdu_type_code pdu_types.ResumeCompletion = 12
pdu_type_code pdu_types.CancelAck = 13
pdu_type_code pdu_types.ListAck = 14
pdu_type_code pdu_types.MonitorAck = 15
pdu_type_code pdu_types.RequestAck = 16
pdu_type_code pdu_types.Cancelled = 17
pdu_type_code pdu_types.Failed = 18
pdu_type_code pdu_types.FreeNotification = 19
pdu_type_code pdu_types.SuspendCompletion = 20
pdu_type_code pdu_types.UserBFree = 21
pdu_type_code pdu_types.Cancellation = 22
pdu_type_code pdu_types.Ccbsi = 23
pdu_type_code pdu_types.CallInformationRelease = 24

abbrev pub pdu_type_values : List PduType
pdu_type_values =
    pdu_types.CallInformationRetention ∷ pdu_types.Cancel ∷ pdu_types.List ∷ pdu_types.Monitor ∷
    pdu_types.Recall ∷ pdu_types.Request ∷ pdu_types.ResumeCompletion ∷ pdu_types.CancelAck ∷
    pdu_types.ListAck ∷ pdu_types.MonitorAck ∷ pdu_types.RequestAck ∷ pdu_types.Cancelled ∷
    pdu_types.Failed ∷ pdu_types.FreeNotification ∷ pdu_types.SuspendCompletion ∷ pdu_types.UserBFree ∷
    pdu_types.Cancellation ∷ pdu_types.Ccbsi ∷ pdu_types.CallInformationRelease ∷ []

pub pdu_type-back : (x : PduType) → find (λ a. pdu_type_code a == pdu_type_code x) pdu_type_values ≡ Some x
pdu_type-back pdu_types.CallInformationRetention = refl
pdu_type-back pdu_types.Cancel = refl
pdu_type-back pdu_types.List = refl
pdu_type-back pdu_types.Monitor = refl
pdu_type-back pdu_types.Recall = refl
pdu_type-back pdu_types.Request = refl
pdu_type-back pdu_types.ResumeCompletion = refl
pdu_type-back pdu_types.CancelAck = refl
pdu_type-back pdu_types.ListAck = refl
pdu_type-back pdu_types.MonitorAck = refl
pdu_type-back pdu_types.RequestAck = refl
pdu_type-back pdu_types.Cancelled = refl
pdu_type-back pdu_types.Failed = refl
pdu_type-back pdu_types.FreeNotification = refl
pdu_type-back pdu_types.SuspendCompletion = refl
pdu_type-back pdu_types.UserBFree = refl
pdu_type-back pdu_types.Cancellation = refl
pdu_type-back pdu_types.Ccbsi = refl
pdu_type-back pdu_types.CallInformationRelease = refl

abbrev pub pdu_type_listing : Listing PduType
pdu_type_listing = record { width = 5; some = lit< tt; room = lit≤ tt; code = pdu_type_code; values = pdu_type_values; small = refl; back = pdu_type-back }

abbrev pub pdu_type : Coding PduType
pdu_type = listed pdu_type_listing

abbrev pub verdict_code : Verdict → ℕ
verdict_code verdicts.Accepted = 0
verdict_code verdicts.Rejected = 1

abbrev pub verdict_values : List Verdict
verdict_values = verdicts.Accepted ∷ verdicts.Rejected ∷ []

pub verdict-back : (x : Verdict) → find (λ a. verdict_code a == verdict_code x) verdict_values ≡ Some x
verdict-back verdicts.Accepted = refl
verdict-back verdicts.Rejected = refl

abbrev pub verdict_listing : Listing Verdict
verdict_listing = record { width = 1; some = lit< tt; room = lit≤ tt; code = verdict_code; values = verdict_values; small = refl; back = verdict-back }

abbrev pub verdict : Coding Verdict
verdict = listed verdict_listing

abbrev pub only_accepted_code : OnlyAccepted → ℕ
only_accepted_code only_accepteds.Accepted = 0

abbrev pub only_accepted_values : List OnlyAccepted
only_accepted_values = only_accepteds.Accepted ∷ []

pub only_accepted-back : (x : OnlyAccepted) → find (λ a. only_accepted_code a == only_accepted_code x) only_accepted_values ≡ Some x
only_accepted-back only_accepteds.Accepted = refl

abbrev pub only_accepted_listing : Listing OnlyAccepted
only_accepted_listing = record { width = 1; some = lit< tt; room = lit≤ tt; code = only_accepted_code; values = only_accepted_values; small = refl; back = only_accepted-back }

abbrev pub only_accepted : Coding OnlyAccepted
only_accepted = listed only_accepted_listing

abbrev pub only_rejected_code : OnlyRejected → ℕ
only_rejected_code only_rejecteds.Rejected = 1

abbrev pub only_rejected_values : List OnlyRejected
only_rejected_values = only_rejecteds.Rejected ∷ []

pub only_rejected-back : (x : OnlyRejected) → find (λ a. only_rejected_code a == only_rejected_code x) only_rejected_values ≡ Some x
only_rejected-back only_rejecteds.Rejected = refl

abbrev pub only_rejected_listing : Listing OnlyRejected
only_rejected_listing = record { width = 1; some = lit< tt; room = lit≤ tt; code = only_rejected_code; values = only_rejected_values; small = refl; back = only_rejected-back }

abbrev pub only_rejected : Coding OnlyRejected
only_rejected = listed only_rejected_listing

abbrev pub retain_capability_code : RetainCapability → ℕ
retain_capability_code retain_capabilitys.Retains = 1
retain_capability_code retain_capabilitys.RetainsNot = 2

abbrev pub retain_capability_values : List RetainCapability
retain_capability_values = retain_capabilitys.Retains ∷ retain_capabilitys.RetainsNot ∷ []

pub retain_capability-back : (x : RetainCapability) → find (λ a. retain_capability_code a == retain_capability_code x) retain_capability_values ≡ Some x
retain_capability-back retain_capabilitys.Retains = refl
retain_capability-back retain_capabilitys.RetainsNot = refl

abbrev pub retain_capability_listing : Listing RetainCapability
retain_capability_listing = record { width = 2; some = lit< tt; room = lit≤ tt; code = retain_capability_code; values = retain_capability_values; small = refl; back = retain_capability-back }

abbrev pub retain_capability : Coding RetainCapability
retain_capability = listed retain_capability_listing

abbrev pub reject_cause_code : RejectCause → ℕ
reject_cause_code reject_causes.AnyReason = 0
reject_cause_code reject_causes.NotSubscribed = 1
reject_cause_code reject_causes.NoRequests = 2
reject_cause_code reject_causes.NotProvidedLocally = 4
reject_cause_code reject_causes.InvalidContents = 5
reject_cause_code reject_causes.TooManyLocally = 6
reject_cause_code reject_causes.TooManyRemotely = 7
reject_cause_code reject_causes.NetworkWithoutService = 8
reject_cause_code reject_causes.Congestion = 9
reject_cause_code reject_causes.NotBusy = 11
reject_cause_code reject_causes.CalledBusy = 12
reject_cause_code reject_causes.CallerBusy = 13
reject_cause_code reject_causes.SignallingFailed = 14
reject_cause_code reject_causes.WrongIdentifier = 15
reject_cause_code reject_causes.NotProvidedRemotely = 16
reject_cause_code reject_causes.InteractionNotAllowed = 17
reject_cause_code reject_causes.NoResourcesAtCalled = 18
reject_cause_code reject_causes.ShortTermDenial = 19
reject_cause_code reject_causes.LongTermDenial = 20
reject_cause_code reject_causes.NotReady = 21
reject_cause_code reject_causes.AlreadyAccepted = 22
reject_cause_code reject_causes.NoResourcesAtCaller = 23
reject_cause_code reject_causes.UnknownOperation = 24
reject_cause_code reject_causes.NoMatch = 25

abbrev pub reject_cause_values : List RejectCause
reject_cause_values =
    reject_causes.AnyReason ∷ reject_causes.NotSubscribed ∷ reject_causes.NoRequests ∷ reject_causes.NotProvidedLocally ∷
    reject_causes.InvalidContents ∷ reject_causes.TooManyLocally ∷ reject_causes.TooManyRemotely ∷ reject_causes.NetworkWithoutService ∷
    reject_causes.Congestion ∷ reject_causes.NotBusy ∷ reject_causes.CalledBusy ∷ reject_causes.CallerBusy ∷
    reject_causes.SignallingFailed ∷ reject_causes.WrongIdentifier ∷ reject_causes.NotProvidedRemotely ∷ reject_causes.InteractionNotAllowed ∷
    reject_causes.NoResourcesAtCalled ∷ reject_causes.ShortTermDenial ∷ reject_causes.LongTermDenial ∷ reject_causes.NotReady ∷
    reject_causes.AlreadyAccepted ∷ reject_causes.NoResourcesAtCaller ∷ reject_causes.UnknownOperation ∷ reject_causes.NoMatch ∷ []

pub reject_cause-back : (x : RejectCause) → find (λ a. reject_cause_code a == reject_cause_code x) reject_cause_values ≡ Some x
reject_cause-back reject_causes.AnyReason = refl
reject_cause-back reject_causes.NotSubscribed = refl
reject_cause-back reject_causes.NoRequests = refl
reject_cause-back reject_causes.NotProvidedLocally = refl
reject_cause-back reject_causes.InvalidContents = refl
reject_cause-back reject_causes.TooManyLocally = refl
reject_cause-back reject_causes.TooManyRemotely = refl
reject_cause-back reject_causes.NetworkWithoutService = refl
reject_cause-back reject_causes.Congestion = refl
reject_cause-back reject_causes.NotBusy = refl
reject_cause-back reject_causes.CalledBusy = refl
reject_cause-back reject_causes.CallerBusy = refl
reject_cause-back reject_causes.SignallingFailed = refl
reject_cause-back reject_causes.WrongIdentifier = refl
reject_cause-back reject_causes.NotProvidedRemotely = refl
reject_cause-back reject_causes.InteractionNotAllowed = refl
reject_cause-back reject_causes.NoResourcesAtCalled = refl
reject_cause-back reject_causes.ShortTermDenial = refl
reject_cause-back reject_causes.LongTermDenial = refl
reject_cause-back reject_causes.NotReady = refl
reject_cause-back reject_causes.AlreadyAccepted = refl
reject_cause-back reject_causes.NoResourcesAtCaller = refl
reject_cause-back reject_causes.UnknownOperation = refl
reject_cause-back reject_causes.NoMatch = refl

abbrev pub reject_cause_listing : Listing RejectCause
reject_cause_listing = record { width = 5; some = lit< tt; room = lit≤ tt; code = reject_cause_code; values = reject_cause_values; small = refl; back = reject_cause-back }

abbrev pub reject_cause : Coding RejectCause
reject_cause = listed reject_cause_listing

abbrev pub list_request_code : ListRequest → ℕ
list_request_code list_requests.Count = 0
list_request_code list_requests.Identifiers = 1
list_request_code list_requests.Details = 2

abbrev pub list_request_values : List ListRequest
list_request_values = list_requests.Count ∷ list_requests.Identifiers ∷ list_requests.Details ∷ []

pub list_request-back : (x : ListRequest) → find (λ a. list_request_code a == list_request_code x) list_request_values ≡ Some x
list_request-back list_requests.Count = refl
list_request-back list_requests.Identifiers = refl
list_request-back list_requests.Details = refl

abbrev pub list_request_listing : Listing ListRequest
list_request_listing = record { width = 2; some = lit< tt; room = lit≤ tt; code = list_request_code; values = list_request_values; small = refl; back = list_request-back }

abbrev pub list_request : Coding ListRequest
list_request = listed list_request_listing

abbrev pub cancellation_cause_code : CancellationCause → ℕ
cancellation_cause_code cancellation_causes.AnyReason = 0
cancellation_cause_code cancellation_causes.ServiceTimer = 1
cancellation_cause_code cancellation_causes.OutsideArea = 2
cancellation_cause_code cancellation_causes.Completed = 3
cancellation_cause_code cancellation_causes.IncompatibleService = 4
cancellation_cause_code cancellation_causes.Interworking = 5
cancellation_cause_code cancellation_causes.CallFailed = 6
cancellation_cause_code cancellation_causes.RecallTimer = 7

abbrev pub cancellation_cause_values : List CancellationCause
cancellation_cause_values =
    cancellation_causes.AnyReason ∷ cancellation_causes.ServiceTimer ∷ cancellation_causes.OutsideArea ∷ cancellation_causes.Completed ∷
    cancellation_causes.IncompatibleService ∷ cancellation_causes.Interworking ∷ cancellation_causes.CallFailed ∷ cancellation_causes.RecallTimer ∷ []

pub cancellation_cause-back : (x : CancellationCause) → find (λ a. cancellation_cause_code a == cancellation_cause_code x) cancellation_cause_values ≡ Some x
cancellation_cause-back cancellation_causes.AnyReason = refl
cancellation_cause-back cancellation_causes.ServiceTimer = refl
cancellation_cause-back cancellation_causes.OutsideArea = refl
cancellation_cause-back cancellation_causes.Completed = refl
cancellation_cause-back cancellation_causes.IncompatibleService = refl
cancellation_cause-back cancellation_causes.Interworking = refl
cancellation_cause-back cancellation_causes.CallFailed = refl
cancellation_cause-back cancellation_causes.RecallTimer = refl

abbrev pub cancellation_cause_listing : Listing CancellationCause
cancellation_cause_listing = record { width = 3; some = lit< tt; room = lit≤ tt; code = cancellation_cause_code; values = cancellation_cause_values; small = refl; back = cancellation_cause-back }

abbrev pub cancellation_cause : Coding CancellationCause
cancellation_cause = listed cancellation_cause_listing

abbrev pub failure_cause_code : FailureCause → ℕ
failure_cause_code failure_causes.AnyReason = 0
failure_cause_code failure_causes.BusyAgain = 1
failure_cause_code failure_causes.Congestion = 2
failure_cause_code failure_causes.SignallingFailed = 3
failure_cause_code failure_causes.IncompatibleService = 4
failure_cause_code failure_causes.Interworking = 5

abbrev pub failure_cause_values : List FailureCause
failure_cause_values = failure_causes.AnyReason ∷ failure_causes.BusyAgain ∷ failure_causes.Congestion ∷ failure_causes.SignallingFailed ∷ failure_causes.IncompatibleService ∷ failure_causes.Interworking ∷ []

pub failure_cause-back : (x : FailureCause) → find (λ a. failure_cause_code a == failure_cause_code x) failure_cause_values ≡ Some x
failure_cause-back failure_causes.AnyReason = refl
failure_cause-back failure_causes.BusyAgain = refl
failure_cause-back failure_causes.Congestion = refl
failure_cause-back failure_causes.SignallingFailed = refl
failure_cause-back failure_causes.IncompatibleService = refl
failure_cause-back failure_causes.Interworking = refl

abbrev pub failure_cause_listing : Listing FailureCause
failure_cause_listing = record { width = 3; some = lit< tt; room = lit≤ tt; code = failure_cause_code; values = failure_cause_values; small = refl; back = failure_cause-back }

abbrev pub failure_cause : Coding FailureCause
failure_cause = listed failure_cause_listing

abbrev pub called_type_code : CalledType → ℕ
called_type_code called_types.ShortNumber = 0
called_type_code called_types.Ssi = 1
called_type_code called_types.Tsi = 2

abbrev pub called_type_values : List CalledType
called_type_values = called_types.ShortNumber ∷ called_types.Ssi ∷ called_types.Tsi ∷ []

pub called_type-back : (x : CalledType) → find (λ a. called_type_code a == called_type_code x) called_type_values ≡ Some x
called_type-back called_types.ShortNumber = refl
called_type-back called_types.Ssi = refl
called_type-back called_types.Tsi = refl

abbrev pub called_type_listing : Listing CalledType
called_type_listing = record { width = 2; some = lit< tt; room = lit≤ tt; code = called_type_code; values = called_type_values; small = refl; back = called_type-back }

abbrev pub called_type : Coding CalledType
called_type = listed called_type_listing

abbrev pub flag_values : List Bool
flag_values = false ∷ true ∷ []

pub flag-back : (x : Bool) → find (λ a. from_bool a == from_bool x) flag_values ≡ Some x
flag-back false = refl
flag-back true = refl

abbrev pub flag_listing : Listing Bool
flag_listing = record { width = 1; some = lit< tt; room = lit≤ tt; code = from_bool; values = flag_values; small = refl; back = flag-back }

abbrev pub flag : Coding Bool
flag = listed flag_listing
