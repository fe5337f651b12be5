-- No PDU tells more than twenty elements.
use Rattle.std.proofs.Common.{◌≡◌, ℕ, ◌*◌, ◌≤◌, List, [], ◌∷◌, length, Some, None, Ok, Err, Option, ◌∙◌, arith, length-append}
use Rattle.std.specs.List.{flat_map}
use Rattle.std.proofs.Math.Nat.{suc-mul}
use Rattle.element.specs.declared.listed.RetainCapability.{RetainCapability}
use Rattle.fields.specs.Values.{Identifier}
use Rattle.pdu.specs.Lists as lists
use Rattle.pdu.specs.Parts as parts
use Rattle.pdu.specs.Whole.{body_told, told_of}
use Rattle.pdu.specs.declared.lists.Few.{Few}
use Rattle.pdu.specs.declared.lists.ListedRequest.{ListedRequest}
use Rattle.pdu.specs.declared.lists.Listing.{Listing}
use Rattle.pdu.specs.declared.lists.Listing.TheVariants as listings
use Rattle.pdu.specs.declared.pdus.Pdu.{Pdu}
use Rattle.pdu.specs.declared.pdus.Pdu.TheVariants as variants
use Rattle.source.proofs.TellingLaws.{told_all}
use Rattle.source.specs.Telling.{with_told}
use Rattle.source.specs.declared.told.Told.{Told}

outcome-count : (o : parts.Outcome) → length (parts.outcome_rest o) ≤ 1
outcome-count (Ok u) = omega arith
outcome-count (Err c) = omega arith

optional-count : (o : Option RetainCapability) → length (parts.optional_retain.tell o) ≤ 2
optional-count None = omega arith
optional-count (Some r) = omega arith

several-count : {A : Type 0} (tell : A → List Told) (n : ℕ) → ((x : A) → length (tell x) ≡ n) → (xs : List A) → length (flat_map tell xs) ≡ length xs * n
several-count tell n each [] = omega arith
several-count tell n each (x ∷ xs) =
    let one = each x in
    let more = several-count tell n each xs in
    length-append (tell x) (flat_map tell xs) ∙ rw (suc-mul (length xs) n) (omega arith)

few-count : (f : Few Identifier) → length (lists.few_rest parts.ccbsi f) ≤ 5
few-count f =
    let few = lists.members-few f in
    omega (arith, several-count parts.ccbsi.tell 1 (λ x. omega arith) (lists.members f))

details-count : (f : Few ListedRequest) → length (lists.few_rest lists.listed_request f) ≤ 15
details-count f =
    let few = lists.members-few f in
    omega (arith, several-count lists.listed_request.tell 3 (λ x. omega arith) (lists.members f))

listing-count : (l : Listing) → length (lists.listing_rest l) ≤ 15
listing-count (listings.Count n) = omega arith
listing-count (listings.Identifiers f) = let h = few-count f in omega arith
listing-count (listings.Details f) = details-count f

ack-count : (a : lists.ListAck) → length (lists.ack_rest a) ≤ 17
ack-count (Ok l) = let h = listing-count l in omega arith
ack-count (Err c) = omega arith

pub body-count : (p : Pdu) → length (body_told p) ≤ 18
body-count (variants.CallInformationRetention x) = omega arith
body-count (variants.Cancel x) = omega arith
body-count (variants.List x) = omega arith
body-count (variants.Monitor x) = omega arith
body-count (variants.Recall x) = omega arith
body-count (variants.Request x) = omega arith
body-count (variants.ResumeCompletion x) = omega arith
body-count (variants.CancelAck x) = let o = outcome-count x.outcome in omega arith
body-count (variants.ListAck x) = let o = ack-count x in omega arith
body-count (variants.MonitorAck x) = let o = outcome-count x.outcome in let p = optional-count x.retain_capability in simp length-append (omega arith)
body-count (variants.RequestAck (Ok g)) = omega arith
body-count (variants.RequestAck (Err g)) = omega arith
body-count (variants.Cancelled x) = omega arith
body-count (variants.Failed x) = omega arith
body-count (variants.FreeNotification x) = omega arith
body-count (variants.SuspendCompletion x) = omega arith
body-count (variants.UserBFree x) = omega arith
body-count (variants.Cancellation x) = omega arith
body-count (variants.Ccbsi x) = omega arith
body-count (variants.CallInformationRelease x) = omega arith

pub told-count : (p : Pdu) → length (told_of p) ≤ 20
told-count p = let n = body-count p in omega arith

-- so the list takes all of it
pub all_told : (p : Pdu) → with_told [] (told_of p) ≡ told_of p
all_told p = let n = told-count p in told_all [] (told_of p) (omega arith)

pub body_all_told : (p : Pdu) → with_told [] (body_told p) ≡ body_told p
body_all_told p = let n = body-count p in told_all [] (body_told p) (omega arith)
