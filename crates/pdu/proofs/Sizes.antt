-- No PDU has more than 272 bits.
use Rattle.std.proofs.Common.{◌≡◌, ℕ, ◌*◌, ◌≤◌, List, [], ◌∷◌, length, Some, None, Ok, Err, Option, ap, ◌∙◌, arith, lit≤, length-append}
use Rattle.std.specs.List.{flat_map}
use Rattle.std.proofs.Math.Nat.{suc-mul}
use Rattle.bits.proofs.BitLaws.{length_digits}
use Rattle.element.specs.declared.listed.RetainCapability.{RetainCapability}
use Rattle.fields.specs.Values.{Identifier}
use Rattle.pdu.specs.Lists as lists
use Rattle.pdu.specs.Parts as parts
use Rattle.pdu.specs.Bits.{all_bits, bits_of_pdu}
use Rattle.source.specs.declared.told.Told.{Told}
use Rattle.pdu.proofs.BitLaws.{all_bits-append}
use Rattle.pdu.specs.declared.lists.Few.{Few}
use Rattle.pdu.specs.declared.lists.ListedRequest.{ListedRequest}
use Rattle.pdu.specs.declared.lists.Listing.{Listing}
use Rattle.pdu.specs.declared.lists.Listing.TheVariants as listings
use Rattle.pdu.specs.declared.pdus.Pdu.{Pdu}
use Rattle.pdu.specs.declared.pdus.Pdu.TheVariants as variants

outcome-size : (o : parts.Outcome) → length (all_bits (parts.outcome_rest o)) ≤ 5
outcome-size (Ok u) = lit≤ tt
outcome-size (Err c) = simp (all_bits-append, length-append, length_digits) (lit≤ tt)

optional-size : (o : Option RetainCapability) → length (all_bits (parts.optional_retain.tell o)) ≤ 4
optional-size None = simp (all_bits-append, length-append, length_digits) (lit≤ tt)
optional-size (Some r) = simp (all_bits-append, length-append, length_digits) (lit≤ tt)

several-size : {A : Type 0} (tell : A → List Told) (n : ℕ) → ((x : A) → length (all_bits (tell x)) ≡ n) → (xs : List A) → length (all_bits (flat_map tell xs)) ≡ length xs * n
several-size tell n each [] = omega arith
several-size tell n each (x ∷ xs) =
    let one = each x in
    let more = several-size tell n each xs in
    ap length (all_bits-append (tell x) (flat_map tell xs)) ∙ length-append (all_bits (tell x)) (all_bits (flat_map tell xs)) ∙ rw (suc-mul (length xs) n) (omega arith)

few-size : (f : Few Identifier) → length (all_bits (lists.few_rest parts.ccbsi f)) ≤ 15
few-size f =
    let few = lists.members-few f in
    omega (arith, several-size parts.ccbsi.tell 3 (λ x. simp (length-append, length_digits)) (lists.members f))

details-size : (f : Few ListedRequest) → length (all_bits (lists.few_rest lists.listed_request f)) ≤ 255
details-size f =
    let few = lists.members-few f in
    omega (arith, several-size lists.listed_request.tell 51 (λ x. simp (length-append, length_digits)) (lists.members f))

listing-size : (l : Listing) → length (all_bits (lists.listing_rest l)) ≤ 255
listing-size (listings.Count n) = simp (all_bits-append, length-append, length_digits) (lit≤ tt)
listing-size (listings.Identifiers f) = let h = few-size f in omega arith
listing-size (listings.Details f) = details-size f

ack-size : (a : lists.ListAck) → length (all_bits (lists.ack_rest a)) ≤ 260
ack-size (Ok l) = let h = listing-size l in simp (all_bits-append, length-append, length_digits) (omega arith)
ack-size (Err c) = simp (all_bits-append, length-append, length_digits) (lit≤ tt)

pub sizes : (p : Pdu) → length (bits_of_pdu p) ≤ 272
sizes (variants.CallInformationRetention x) = simp (all_bits-append, length-append, length_digits) (lit≤ tt)
sizes (variants.Cancel x) = simp (all_bits-append, length-append, length_digits) (lit≤ tt)
sizes (variants.List x) = simp (all_bits-append, length-append, length_digits) (lit≤ tt)
sizes (variants.Monitor x) = simp (all_bits-append, length-append, length_digits) (lit≤ tt)
sizes (variants.Recall x) = simp (all_bits-append, length-append, length_digits) (lit≤ tt)
sizes (variants.Request x) = simp (all_bits-append, length-append, length_digits) (lit≤ tt)
sizes (variants.ResumeCompletion x) = simp (all_bits-append, length-append, length_digits) (lit≤ tt)
sizes (variants.CancelAck x) = let o = outcome-size x.outcome in simp (all_bits-append, length-append, length_digits) (omega arith)
sizes (variants.ListAck x) = let o = ack-size x in simp (all_bits-append, length-append, length_digits) (omega arith)
sizes (variants.MonitorAck x) = let o = outcome-size x.outcome in let p = optional-size x.retain_capability in simp (all_bits-append, length-append, length_digits) (omega arith)
sizes (variants.RequestAck (Ok g)) = simp (all_bits-append, length-append, length_digits) (lit≤ tt)
sizes (variants.RequestAck (Err g)) = simp (all_bits-append, length-append, length_digits) (lit≤ tt)
sizes (variants.Cancelled x) = simp (all_bits-append, length-append, length_digits) (lit≤ tt)
sizes (variants.Failed x) = simp (all_bits-append, length-append, length_digits) (lit≤ tt)
sizes (variants.FreeNotification x) = simp (all_bits-append, length-append, length_digits) (lit≤ tt)
sizes (variants.SuspendCompletion x) = simp (all_bits-append, length-append, length_digits) (lit≤ tt)
sizes (variants.UserBFree x) = simp (all_bits-append, length-append, length_digits) (lit≤ tt)
sizes (variants.Cancellation x) = simp (all_bits-append, length-append, length_digits) (lit≤ tt)
sizes (variants.Ccbsi x) = simp (all_bits-append, length-append, length_digits) (lit≤ tt)
sizes (variants.CallInformationRelease x) = simp (all_bits-append, length-append, length_digits) (lit≤ tt)
