-- The names of fields.
use Rattle.std.specs.Prelude.{ℕ, List, codes}
use Rattle.bits.specs.declared.fault.ElementName.{ElementName}
use Rattle.bits.specs.declared.fault.ElementName.TheVariants as names

abbrev pub field_name : ElementName → List ℕ
field_name names.SsType = codes "ss-type"
field_name names.PduType = codes "pdu-type"
field_name names.CallIdentifier = codes "call-identifier"
field_name names.AreaSelection = codes "area-selection"
field_name names.CallPriority = codes "call-priority"
field_name names.ClirColr = codes "clir-colr"
field_name names.BasicService = codes "basic-service"
field_name names.CalledSsi = codes "called-ssi"
field_name names.CalledExtension = codes "called-extension"
field_name names.CallingSsi = codes "calling-ssi"
field_name names.CallingExtension = codes "calling-extension"
field_name names.Ccbsi = codes "ccbsi"
field_name names.CancellationResult = codes "cancellation-result"
field_name names.RejectCause = codes "reject-cause"
field_name names.CancellationCause = codes "cancellation-cause"
field_name names.FailureCause = codes "failure-cause"
field_name names.RequestMaintained = codes "request-maintained"
field_name names.ListRequest = codes "list-request"
field_name names.AcceptReject = codes "accept-reject"
field_name names.ListLength = codes "list-length"
field_name names.RequestCount = codes "request-count"
field_name names.RetainCapability = codes "retain-capability"
field_name names.CalledType = codes "called-type"
field_name names.Optional = codes "optional"
