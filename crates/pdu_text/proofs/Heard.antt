-- The fields that a PDU is told by are heard.
use Rattle.std.proofs.Common.{arith, ◌≡◌, true, false, not, List, [], ◌∷◌, ◌++◌, Some, None, Ok, Err, Option, sym, refl, ap, ◌∙◌, subst, append-nil}
use Rattle.std.specs.List.{flat_map}
use Rattle.bits.specs.declared.fault.ElementName.TheVariants as name
use Rattle.element.specs.declared.listed.RetainCapability.{RetainCapability}
use Rattle.pdu.specs.Lists as lists
use Rattle.pdu.specs.Parts as parts
use Rattle.pdu.specs.Pdus.{RequestAck, request_ack_told, request_ack_hear, request_ack-reads}
use Rattle.pdu.specs.Whole.{type_of, body_told, body, Agrees, body-reads}
use Rattle.pdu.specs.declared.lists.Few.{Few}
use Rattle.pdu.specs.declared.lists.Listing.{Listing}
use Rattle.pdu.specs.declared.lists.Listing.TheVariants as listings
use Rattle.pdu.specs.declared.pdus.Pdu.{Pdu}
use Rattle.pdu.specs.declared.pdus.Pdu.TheVariants as variants
use Rattle.field_text.specs.Fields.{words_of}
use Rattle.field_text.proofs.FieldLaws.{value-told, begins-told}
use Rattle.pdu_text.specs.Hearing.{Words, valued_or, text_hearing, fields}
use Rattle.pdu_text.specs.Whole.{fields_of}
use Rattle.source.specs.Forms.{Form, Stands, Ways, way, way-reads, keyed, ◌then◌}
use Rattle.source.specs.declared.told.Told.{Told}
use Rattle.source.specs.declared.told.Told.TheVariants.{Element, Present}

-- an element is told next
abbrev Goes : List Told → Type 0
Goes [] = ⊥
Goes (Element c ∷ ts) = Unit {0}
Goes (Present b ∷ ts) = ⊥

-- an optional element is the last, and where it is left out nothing follows
abbrev pub Orderly : Words → List Told → Type 0
Orderly more [] = Unit {0}
Orderly more (Element c ∷ ts) = Orderly more ts
Orderly more (Present false ∷ ts) = (ts ≡ []) × (more ≡ [])
Orderly more (Present true ∷ ts) = Goes ts × Orderly more ts

-- the words of the fields
abbrev pub told_words : List Told → Words
told_words ts = words_of (fields ts)

present-told : (ts : List Told) (more : Words) → Goes ts → text_hearing.present (told_words ts ++ more) ≡ Ok (true, told_words ts ++ more)
present-told [] more g = absurd g
present-told (Element c ∷ ts) more g = refl
present-told (Present b ∷ ts) more g = absurd g

-- what is told in order stands in the words of its fields, whatever follows
pub stands-told : (ts : List Told) (more : Words) → Orderly more ts → Stands text_hearing (told_words ts ++ more) ts more
stands-told [] more o = refl
stands-told (Element c ∷ ts) more o =
    (told_words ts ++ more, ap (λ v. valued_or v (told_words ts ++ more)) (value-told c.element c.width c.value (omega (arith, c.room)) c.fits), stands-told ts more o)
stands-told (Present false ∷ ts) more o = (
  told_words ts ++ more,
  subst (λ xs. text_hearing.present (told_words xs ++ more) ≡ Ok (false, told_words xs ++ more)) (sym o.0) (subst (λ m. text_hearing.present m ≡ Ok (false, m)) (sym o.1) refl),
  stands-told ts more (subst (Orderly more) (sym o.0) tt),
)
stands-told (Present true ∷ ts) more o = (told_words ts ++ more, present-told ts more o.0, stands-told ts more o.1)

-- a value of any form that ends in no optional element is heard from its own words, whatever follows
pub told-heard : {A : Type 0} (c : Form A) (a : A) (more : Words) → Orderly more (c.tell a) → c.hear text_hearing (told_words (c.tell a) ++ more) ≡ Ok (a, more)
told-heard c a more o = c.reads text_hearing (told_words (c.tell a) ++ more) a more (stands-told (c.tell a) more o)

-- where the words end with what is told
pub last-heard : {A : Type 0} (c : Form A) (a : A) → Orderly [] (c.tell a) → c.hear text_hearing (told_words (c.tell a)) ≡ Ok (a, [])
last-heard c a o = ap (c.hear text_hearing) (sym (append-nil (told_words (c.tell a)))) ∙ told-heard c a [] o

pub way-heard : {A B : Type 0} (c : Form A) (f : A → B) (a : A) (more : Words) → Orderly more (c.tell a) → way c f text_hearing (told_words (c.tell a) ++ more) ≡ Ok (f a, more)
way-heard c f a more o = way-reads c f text_hearing (told_words (c.tell a) ++ more) a more (stands-told (c.tell a) more o)

pub way_last-heard : {A B : Type 0} (c : Form A) (f : A → B) (a : A) → Orderly [] (c.tell a) → way c f text_hearing (told_words (c.tell a)) ≡ Ok (f a, [])
way_last-heard c f a o = ap (way c f text_hearing) (sym (append-nil (told_words (c.tell a)))) ∙ way-heard c f a [] o

goes-append : (xs ys : List Told) → Goes xs → Goes (xs ++ ys)
goes-append [] ys g = absurd g
goes-append (Element c ∷ xs) ys g = tt
goes-append (Present b ∷ xs) ys g = absurd g

-- whatever follows, these are in order: no optional element that is left out is among them
abbrev pub Precedes : List Told → Type 0
Precedes xs = (more : Words) → Orderly more xs

pub orderly-append : (xs ys : List Told) (more : Words) → Precedes xs → Orderly more ys → Orderly more (xs ++ ys)
orderly-append [] ys more o p = p
orderly-append (Element c ∷ xs) ys more o p = orderly-append xs ys more o p
orderly-append (Present false ∷ xs) ys more o p = let left : ◌≡◌ {A = Words} ([] ∷ []) [] = (o ([] ∷ [])).1 in cc
orderly-append (Present true ∷ xs) ys more o p = (goes-append xs ys (o []).0, orderly-append xs ys more (λ m. (o m).1) p)

-- one after the other
module _ {A B : Type 0} (c : Form A) (d : Form B) where
  pub then-orderly : (p : A × B) (more : Words) → Precedes (c.tell p.0) → Orderly more (d.tell p.1) → Orderly more ((c then d).tell p)
  then-orderly p more = orderly-append (c.tell p.0) (d.tell p.1) more

  pub then-heard : (p : A × B) (more : Words) → Precedes (c.tell p.0) → Orderly more (d.tell p.1) → (c then d).hear text_hearing (told_words ((c then d).tell p) ++ more) ≡ Ok (p, more)
  then-heard p more o q = told-heard (c then d) p more (then-orderly p more o q)

  pub lastly-heard : (p : A × B) → Precedes (c.tell p.0) → Orderly [] (d.tell p.1) → (c then d).hear text_hearing (told_words ((c then d).tell p)) ≡ Ok (p, [])
  lastly-heard p o q = last-heard (c then d) p (then-orderly p [] o q)

-- a key, and what follows by the key
module _ {K B : Type 0} (c : Form K) (w : Ways K B) where
  pub keyed-orderly : (b : B) (more : Words) → Precedes (c.tell (w.tag b)) → Orderly more (w.rest b) → Orderly more ((keyed c w).tell b)
  keyed-orderly b more = orderly-append (c.tell (w.tag b)) (w.rest b) more

  pub keyed-heard : (b : B) (more : Words) → Precedes (c.tell (w.tag b)) → Orderly more (w.rest b) → (keyed c w).hear text_hearing (told_words ((keyed c w).tell b) ++ more) ≡ Ok (b, more)
  keyed-heard b more o q = told-heard (keyed c w) b more (keyed-orderly b more o q)

pub outcome-orderly : (more : Words) (o : parts.Outcome) (ts : List Told) → Orderly more ts → Orderly more (parts.outcome_rest o ++ ts)
outcome-orderly more (Ok u) ts o = o
outcome-orderly more (Err c) ts o = o

pub outcome-last : (more : Words) (o : parts.Outcome) → Orderly more (parts.outcome_rest o)
outcome-last more (Ok u) = tt
outcome-last more (Err c) = tt

pub retain-orderly : (r : Option RetainCapability) → Orderly [] (parts.optional_retain.tell r)
retain-orderly None = (refl, refl)
retain-orderly (Some r) = (tt, tt)

pub items-orderly : {A : Type 0} (more : Words) (tell : A → List Told) → ((x : A) (ts : List Told) → Orderly more ts → Orderly more (tell x ++ ts)) → (xs : List A) → Orderly more (flat_map tell xs)
items-orderly more tell each [] = tt
items-orderly more tell each (x ∷ xs) = each x (flat_map tell xs) (items-orderly more tell each xs)

-- as many items as a list holds
module _ {A : Type 0} (c : Form A) (each : (x : A) → Precedes (c.tell x)) where
  pub few-orderly : (f : Few A) (more : Words) → Orderly more (lists.few_rest c f)
  few-orderly f more = items-orderly more c.tell (λ x ts. orderly-append (c.tell x) ts more (each x)) (lists.members f)

  pub few-heard : (f : Few A) (more : Words) → lists.few_heard (c.hear text_hearing) (lists.few_tag f) (told_words (lists.few_rest c f) ++ more) ≡ Ok (f, more)
  few-heard f more = lists.few-reads c text_hearing (told_words (lists.few_rest c f) ++ more) f more (stands-told (lists.few_rest c f) more (few-orderly f more))

pub ack-orderly : (more : Words) (a : lists.ListAck) → Orderly more (lists.list_ack.tell a)
ack-orderly more (Ok (listings.Count n)) = tt
ack-orderly more (Ok (listings.Identifiers f)) = few-orderly parts.ccbsi (λ x m. tt) f more
ack-orderly more (Ok (listings.Details f)) = few-orderly lists.listed_request (λ x m. tt) f more
ack-orderly more (Err c) = tt

pub outcome-heard : (o : parts.Outcome) (more : Words) → parts.outcome_body text_hearing (parts.outcome_tag o) (told_words (parts.outcome_rest o) ++ more) ≡ Ok (o, more)
outcome-heard o more = parts.outcome-reads text_hearing (told_words (parts.outcome_rest o) ++ more) o more (stands-told (parts.outcome_rest o) more (outcome-last more o))

pub optional_retain-heard : (r : Option RetainCapability) → parts.optional_retain.hear text_hearing (told_words (parts.optional_retain.tell r)) ≡ Ok (r, [])
optional_retain-heard r = last-heard parts.optional_retain r (retain-orderly r)

pub listing-heard : (o : Listing) (more : Words) → lists.listing_body text_hearing (lists.listing_tag o).0 (lists.listing_tag o).1 (told_words (lists.listing_rest o) ++ more) ≡ Ok (o, more)
listing-heard o more = lists.listing-reads text_hearing (told_words (lists.listing_rest o) ++ more) o more (stands-told (lists.listing_rest o) more (ack-orderly more (Ok o)))

pub ack-heard : (a : lists.ListAck) (more : Words) → lists.ack_body text_hearing (lists.ack_tag a) (told_words (lists.ack_rest a) ++ more) ≡ Ok (a, more)
ack-heard a more = lists.ack-reads text_hearing (told_words (lists.ack_rest a) ++ more) a more (stands-told (lists.ack_rest a) more (ack-orderly more a))

-- only an acceptance begins with the identifier
pub request_ack-heard : (a : RequestAck) (more : Words) → request_ack_hear text_hearing (told_words (request_ack_told a) ++ more) ≡ Ok (a, more)
request_ack-heard (Ok a) more =
    request_ack-reads text_hearing (told_words (request_ack_told (Ok a)) ++ more) (Ok a) more (ap not (begins-told name.Ccbsi name.Ccbsi _ _)) (stands-told (request_ack_told (Ok a)) more tt)
request_ack-heard (Err r) more =
    request_ack-reads text_hearing (told_words (request_ack_told (Err r)) ++ more) (Err r) more (ap not (begins-told name.Ccbsi name.CallIdentifier _ _)) (stands-told (request_ack_told (Err r)) more tt)

pub orderly : (p : Pdu) → Orderly [] (body_told p)
orderly (variants.CallInformationRetention x) = tt
orderly (variants.Cancel x) = tt
orderly (variants.List x) = tt
orderly (variants.Monitor x) = tt
orderly (variants.Recall x) = tt
orderly (variants.Request x) = tt
orderly (variants.ResumeCompletion x) = tt
orderly (variants.CancelAck x) = outcome-last [] x.outcome
orderly (variants.ListAck x) = ack-orderly [] x
orderly (variants.MonitorAck x) = outcome-orderly [] x.outcome _ (retain-orderly x.retain_capability)
orderly (variants.RequestAck (Ok a)) = tt
orderly (variants.RequestAck (Err r)) = tt
orderly (variants.Cancelled x) = tt
orderly (variants.Failed x) = tt
orderly (variants.FreeNotification x) = tt
orderly (variants.SuspendCompletion x) = tt
orderly (variants.UserBFree x) = tt
orderly (variants.Cancellation x) = tt
orderly (variants.Ccbsi x) = tt
orderly (variants.CallInformationRelease x) = tt

-- an acceptance begins with its identifier, a rejection with its call identifier
agrees : (p : Pdu) → Agrees text_hearing (told_words (body_told p)) p
agrees (variants.CallInformationRetention x) = tt
agrees (variants.Cancel x) = tt
agrees (variants.List x) = tt
agrees (variants.Monitor x) = tt
agrees (variants.Recall x) = tt
agrees (variants.Request x) = tt
agrees (variants.ResumeCompletion x) = tt
agrees (variants.CancelAck x) = tt
agrees (variants.ListAck x) = tt
agrees (variants.MonitorAck x) = tt
agrees (variants.RequestAck (Ok a)) = ap not (begins-told name.Ccbsi name.Ccbsi _ _)
agrees (variants.RequestAck (Err r)) = ap not (begins-told name.Ccbsi name.CallIdentifier _ _)
agrees (variants.Cancelled x) = tt
agrees (variants.Failed x) = tt
agrees (variants.FreeNotification x) = tt
agrees (variants.SuspendCompletion x) = tt
agrees (variants.UserBFree x) = tt
agrees (variants.Cancellation x) = tt
agrees (variants.Ccbsi x) = tt
agrees (variants.CallInformationRelease x) = tt

-- the fields of a PDU are heard
pub body-heard : (p : Pdu) → body text_hearing (type_of p) (words_of (fields_of p)) ≡ Ok (p, [])
body-heard p =
    let ws = told_words (body_told p) in
    let stands = stands-told (body_told p) [] (orderly p) in
    body-reads text_hearing ws p [] (agrees p) (subst (λ us. Stands text_hearing us (body_told p) []) (append-nil ws) stands)
