-- The names of PDUs.
use Rattle.std.specs.Prelude.{ℕ, Bool, List, codes, find, Option}
use Rattle.std.specs.Str.{bytes_eq}
use Rattle.element.specs.Listed.{pdu_type_values}
use Rattle.element.specs.declared.listed.PduType.{PduType}
use Rattle.element.specs.declared.listed.PduType.TheVariants as types

unfoldable pub pdu_name : PduType → List ℕ
pdu_name types.CallInformationRetention = codes "CALL-INFORMATION-RETENTION"
pdu_name types.Cancel = codes "CANCEL"
pdu_name types.List = codes "LIST"
pdu_name types.Monitor = codes "MONITOR"
pdu_name types.Recall = codes "RECALL"
pdu_name types.Request = codes "REQUEST"
pdu_name types.ResumeCompletion = codes "RESUME-COMPLETION"
pdu_name types.CancelAck = codes "CANCEL-ACK"
pdu_name types.ListAck = codes "LIST-ACK"
pdu_name types.MonitorAck = codes "MONITOR-ACK"
pdu_name types.RequestAck = codes "REQUEST-ACK"
pdu_name types.Cancelled = codes "CANCELLED"
pdu_name types.Failed = codes "FAILED"
pdu_name types.FreeNotification = codes "FREE-NOTIFICATION"
pdu_name types.SuspendCompletion = codes "SUSPEND-COMPLETION"
pdu_name types.UserBFree = codes "USER-B-FREE"
pdu_name types.Cancellation = codes "CANCELLATION"
pdu_name types.Ccbsi = codes "CCBSI"
pdu_name types.CallInformationRelease = codes "CALL-INFORMATION-RELEASE"

unfoldable pub is_named : List ℕ → PduType → Bool
is_named word t = bytes_eq word (pdu_name t)

-- the type of the PDU with this name
abbrev pub pdu_named : List ℕ → Option PduType
pdu_named word = find (is_named word) pdu_type_values
