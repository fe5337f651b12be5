-- The text of a PDU reads back as that PDU.
use Rattle.std.proofs.Common.{◌≡◌, ℕ, true, List, ◌∷◌, Some, Ok, refl, ap, ◌∙◌}
use Rattle.element.specs.declared.listed.PduType.{PduType}
use Rattle.element.specs.declared.listed.PduType.TheVariants as types
use Rattle.pdu.specs.Whole.{type_of}
use Rattle.pdu.specs.declared.pdus.Pdu.{Pdu}
use Rattle.text.specs.Words.{before, words}
use Rattle.field_text.specs.Fields.{words_of}
use Rattle.field_text.proofs.FieldLaws.{solid, words-told}
use Rattle.pdu_text.specs.Names.{pdu_name, is_named, pdu_named}
use Rattle.pdu_text.specs.Whole.{fields_of, pdu_text, ended, body_heard, pdu_heard}
use Rattle.pdu_text.proofs.Heard.{body-heard}

named_back : (t : PduType) → pdu_named (pdu_name t) ≡ Some t
unfolding pdu_name is_named
named_back types.CallInformationRetention = refl
named_back types.Cancel = refl
named_back types.List = refl
named_back types.Monitor = refl
named_back types.Recall = refl
named_back types.Request = refl
named_back types.ResumeCompletion = refl
named_back types.CancelAck = refl
named_back types.ListAck = refl
named_back types.MonitorAck = refl
named_back types.RequestAck = refl
named_back types.Cancelled = refl
named_back types.Failed = refl
named_back types.FreeNotification = refl
named_back types.SuspendCompletion = refl
named_back types.UserBFree = refl
named_back types.Cancellation = refl
named_back types.Ccbsi = refl
named_back types.CallInformationRelease = refl

solid-name : (t : PduType) → solid (pdu_name t) ≡ true
unfolding pdu_name
solid-name types.CallInformationRetention = refl
solid-name types.Cancel = refl
solid-name types.List = refl
solid-name types.Monitor = refl
solid-name types.Recall = refl
solid-name types.Request = refl
solid-name types.ResumeCompletion = refl
solid-name types.CancelAck = refl
solid-name types.ListAck = refl
solid-name types.MonitorAck = refl
solid-name types.RequestAck = refl
solid-name types.Cancelled = refl
solid-name types.Failed = refl
solid-name types.FreeNotification = refl
solid-name types.SuspendCompletion = refl
solid-name types.UserBFree = refl
solid-name types.Cancellation = refl
solid-name types.Ccbsi = refl
solid-name types.CallInformationRelease = refl

name-first : (t : PduType) (ws : List (List ℕ)) → before (pdu_name t) ws ≡ pdu_name t ∷ ws
unfolding pdu_name
name-first types.CallInformationRetention ws = refl
name-first types.Cancel ws = refl
name-first types.List ws = refl
name-first types.Monitor ws = refl
name-first types.Recall ws = refl
name-first types.Request ws = refl
name-first types.ResumeCompletion ws = refl
name-first types.CancelAck ws = refl
name-first types.ListAck ws = refl
name-first types.MonitorAck ws = refl
name-first types.RequestAck ws = refl
name-first types.Cancelled ws = refl
name-first types.Failed ws = refl
name-first types.FreeNotification ws = refl
name-first types.SuspendCompletion ws = refl
name-first types.UserBFree ws = refl
name-first types.Cancellation ws = refl
name-first types.Ccbsi ws = refl
name-first types.CallInformationRelease ws = refl

-- the text of a PDU reads back as that PDU
pub text_heard : (p : Pdu) → pdu_heard (words (pdu_text p)) ≡ Ok p
unfolding body_heard
text_heard p =
    ap pdu_heard (words-told (pdu_name (type_of p)) (fields_of p) (solid-name (type_of p)) (name-first (type_of p)))
    ∙ ap (λ o. body_heard o (words_of (fields_of p))) (named_back (type_of p))
    ∙ ap ended (body-heard p)
