-- The answer to LIST.
use Rattle.std.specs.Prelude.{◌≡◌, ℕ, zero, suc, ◌≤◌, List, [], ◌∷◌, length, take, Ok, Err, Result, refl}
use Rattle.std.specs.List.{flat_map}
use Rattle.std.proofs.Common.{sym, ap, ◌∙◌, subst, arith, lit≤}
use Rattle.std.proofs.lemmas.List.{take_all}
use Rattle.bits.specs.declared.fault.ElementName.TheVariants as name
use Rattle.element.specs.Listed as listed
use Rattle.element.specs.declared.listed.ListRequest.{ListRequest}
use Rattle.element.specs.declared.listed.ListRequest.TheVariants as requests
use Rattle.element.specs.declared.counts.UpToFive.{UpToFive}
use Rattle.element.specs.Counts.{up_to_five, same_count}
use Rattle.element.specs.declared.listed.RejectCause.{RejectCause}
use Rattle.element.specs.declared.listed.Verdict.{Verdict}
use Rattle.element.specs.declared.listed.Verdict.TheVariants as verdicts
use Rattle.pdu.specs.Parts.{ccbsi, called, list_request, reject_cause}
use Rattle.pdu.specs.declared.lists.Few.{Few}
use Rattle.pdu.specs.declared.lists.Few.TheVariants as fews
use Rattle.pdu.specs.declared.lists.ListedRequest.{ListedRequest}
use Rattle.pdu.specs.declared.lists.Listing.{Listing}
use Rattle.pdu.specs.declared.lists.Listing.TheVariants as listings
use Rattle.source.specs.Forms.{Form, Stands, element, way, way-reads, way-keyed, like, keyed, and_then-from, ok_same, stands-append, stands-split, ◌then◌}
use Rattle.source.specs.Hearing.{Hearing, and_then, named}
use Rattle.source.specs.declared.told.Told.{Told}

module _ {A : Type 0} where
  abbrev pub members : Few A → List A
  members fews.Zero = []
  members (fews.One v) = v ∷ []
  members (fews.Two v w) = v ∷ w ∷ []
  members (fews.Three v w x) = v ∷ w ∷ x ∷ []
  members (fews.Four v w x y) = v ∷ w ∷ x ∷ y ∷ []
  members (fews.Five v w x y z) = v ∷ w ∷ x ∷ y ∷ z ∷ []

  pub members-few : (f : Few A) → length (members f) ≤ 5
  members-few fews.Zero = lit≤ tt
  members-few (fews.One v) = lit≤ tt
  members-few (fews.Two v w) = lit≤ tt
  members-few (fews.Three v w x) = lit≤ tt
  members-few (fews.Four v w x y) = lit≤ tt
  members-few (fews.Five v w x y z) = lit≤ tt

  abbrev pub few_tag : Few A → UpToFive
  few_tag f = record { count = length (members f); few = members-few f }

  -- the first five
  abbrev pub few_of : List A → Few A
  few_of [] = fews.Zero
  few_of (v ∷ []) = fews.One v
  few_of (v ∷ w ∷ []) = fews.Two v w
  few_of (v ∷ w ∷ x ∷ []) = fews.Three v w x
  few_of (v ∷ w ∷ x ∷ y ∷ []) = fews.Four v w x y
  few_of (v ∷ w ∷ x ∷ y ∷ z ∷ more) = fews.Five v w x y z

  pub few_of-members : (f : Few A) → few_of (members f) ≡ f
  few_of-members fews.Zero = refl
  few_of-members (fews.One v) = refl
  few_of-members (fews.Two v w) = refl
  few_of-members (fews.Three v w x) = refl
  few_of-members (fews.Four v w x y) = refl
  few_of-members (fews.Five v w x y z) = refl

  pub members-few_of : (xs : List A) → members (few_of xs) ≡ take 5 xs
  members-few_of [] = refl
  members-few_of (v ∷ []) = refl
  members-few_of (v ∷ w ∷ []) = refl
  members-few_of (v ∷ w ∷ x ∷ []) = refl
  members-few_of (v ∷ w ∷ x ∷ y ∷ []) = refl
  members-few_of (v ∷ w ∷ x ∷ y ∷ z ∷ more) = refl

  pub same_few : (f g : Few A) → members f ≡ members g → f ≡ g
  same_few f g e = sym (few_of-members f) ∙ ap few_of e ∙ few_of-members g

-- as many as the length says, one after the other
module _ {S F A : Type 0} (item : S → Result (A × S) F) where
  abbrev pub items_heard : ℕ → S → Result (List A × S) F
  items_heard zero s = Ok ([], s)
  items_heard (suc n) s = and_then (item s) (λ x t. named (λ xs. x ∷ xs) (items_heard n t))

  abbrev pub few_heard : UpToFive → S → Result (Few A × S) F
  few_heard n s = named few_of (items_heard n.count s)

module _ {A : Type 0} (c : Form A) where
  abbrev pub few_rest : Few A → List Told
  few_rest f = flat_map c.tell (members f)

  pub items-reads : {S F : Type 0} (h : Hearing S F) (xs : List A) (s t : S) → Stands h s (flat_map c.tell xs) t → items_heard (c.hear h) (length xs) s ≡ Ok (xs, t)
  items-reads h [] s t p = ap (λ u. Ok ([], u)) p
  items-reads h (x ∷ xs) s t p =
      let k = stands-split h (c.tell x) (flat_map c.tell xs) s t p in
      ap (λ r. and_then r (λ y u. named (λ ys. y ∷ ys) (items_heard (c.hear h) (length xs) u))) (c.reads h s x k.0 k.1)
      ∙ ap (named (λ ys. x ∷ ys)) (items-reads h xs k.0 t k.2)

  items-joined : {S F : Type 0} (h : Hearing S F) (s u v t : S) (y : A) (ys xs : List A) → ◌≡◌ {A = Result (List A × S) F} (Ok (y ∷ ys, v)) (Ok (xs, t)) →
      Stands h s (c.tell y) u → Stands h u (flat_map c.tell ys) v → (length xs ≡ suc (length ys)) × Stands h s (flat_map c.tell xs) t
  items-joined h s u v t y ys xs p one more =
      let e = ok_same (y ∷ ys, v) (xs, t) p in
      (ap (λ z. length z.0) (sym e), subst (λ z. Stands h s (flat_map c.tell z.0) z.1) e (stands-append h (c.tell y) (flat_map c.tell ys) s u v one more))

  pub items-wrote : {S F : Type 0} (h : Hearing S F) (n : ℕ) (s : S) (xs : List A) (t : S) → items_heard (c.hear h) n s ≡ Ok (xs, t) → (length xs ≡ n) × Stands h s (flat_map c.tell xs) t
  items-wrote h zero s xs t p =
      let e = ok_same ([], s) (xs, t) p in
      (ap (λ z. length z.0) (sym e), subst (λ z. Stands h s (flat_map c.tell z.0) z.1) e refl)
  items-wrote h (suc n) s xs t p =
      let i = and_then-from (c.hear h s) (λ y u. named (λ ys. y ∷ ys) (items_heard (c.hear h) n u)) (xs, t) p in
      let j = and_then-from (items_heard (c.hear h) n i.0.1) (λ ys u. Ok (i.0.0 ∷ ys, u)) (xs, t) i.2 in
      let w = items-wrote h n i.0.1 j.0.0 j.0.1 j.1 in
      let k = items-joined h s i.0.1 j.0.1 t i.0.0 j.0.0 xs j.2 (c.wrote h s i.0.0 i.0.1 i.1) w.1 in
      (k.0 ∙ ap (λ m. suc m) w.0, k.1)

  pub few-reads : {S F : Type 0} (h : Hearing S F) (s : S) (f : Few A) (t : S) → Stands h s (few_rest f) t → few_heard (c.hear h) (few_tag f) s ≡ Ok (f, t)
  few-reads h s f t p =
      ap (named few_of) (items-reads h (members f) s t p) ∙ ap (λ g. Ok (g, t)) (few_of-members f)

  few-made : {S F : Type 0} (h : Hearing S F) (k : UpToFive) (s u t : S) (xs : List A) (f : Few A) → ◌≡◌ {A = Result (Few A × S) F} (Ok (few_of xs, u)) (Ok (f, t)) →
      (length xs ≡ k.count) × Stands h s (flat_map c.tell xs) u → (few_tag f ≡ k) × Stands h s (few_rest f) t
  few-made h k s u t xs f p w =
      let few = k.few in
      let all : members (few_of xs) ≡ xs = members-few_of xs ∙ take_all 5 xs (omega arith) in
      let e = ok_same (few_of xs, u) (f, t) p in (
        same_count (few_tag f) k (ap (λ z. length (members z.0)) (sym e) ∙ ap length all ∙ w.0),
        subst (λ z. Stands h s (few_rest z.0) z.1) e (subst (λ ys. Stands h s (flat_map c.tell ys) u) (sym all) w.1),
      )

  pub few-wrote : {S F : Type 0} (h : Hearing S F) (k : UpToFive) (s : S) (f : Few A) (t : S) → few_heard (c.hear h) k s ≡ Ok (f, t) → (few_tag f ≡ k) × Stands h s (few_rest f) t
  few-wrote h k s f t p =
      let i = and_then-from (items_heard (c.hear h) k.count s) (λ xs u. Ok (few_of xs, u)) (f, t) p in
      few-made h k s i.0.1 t i.0.0 f i.2 (items-wrote h k.count s i.0.0 i.0.1 i.1)

abbrev pub request_count : Form UpToFive
request_count = element name.RequestCount up_to_five

abbrev pub listed_request : Form ListedRequest
listed_request = like (ccbsi then called) (λ p. record { ccbsi = p.0; called = p.1 }) (λ m. (m.ccbsi, m.called)) (λ m. refl) (λ p. refl)

-- length and form, and then what the form says, as often as the length says
abbrev pub list_head : Form (UpToFive × ListRequest)
list_head = element name.ListLength up_to_five then list_request

abbrev pub listing_tag : Listing → UpToFive × ListRequest
listing_tag (listings.Count n) = (n.list_length, requests.Count)
listing_tag (listings.Identifiers f) = (few_tag f, requests.Identifiers)
listing_tag (listings.Details f) = (few_tag f, requests.Details)

abbrev pub listing_rest : Listing → List Told
listing_rest (listings.Count n) = request_count.tell n.request_count
listing_rest (listings.Identifiers f) = few_rest ccbsi f
listing_rest (listings.Details f) = few_rest listed_request f

abbrev pub few_listed : {A : Type 0} → Form A → (Few A → Listing) → {S F : Type 0} → Hearing S F → UpToFive → S → Result (Listing × S) F
few_listed c f h l s = named f (few_heard (c.hear h) l s)

abbrev pub listing_body : {S F : Type 0} → Hearing S F → UpToFive → ListRequest → S → Result (Listing × S) F
listing_body h l requests.Count = way request_count (λ n. listings.Count (record { list_length = l; request_count = n })) h
listing_body h l requests.Identifiers = few_listed ccbsi listings.Identifiers h l
listing_body h l requests.Details = few_listed listed_request listings.Details h l

pub listing-reads : {S F : Type 0} (h : Hearing S F) (s : S) (o : Listing) (t : S) → Stands h s (listing_rest o) t → listing_body h (listing_tag o).0 (listing_tag o).1 s ≡ Ok (o, t)
listing-reads h s (listings.Count n) t p = way-reads request_count (λ k. listings.Count (record { list_length = n.list_length; request_count = k })) h s n.request_count t p
listing-reads h s (listings.Identifiers f) t p = ap (λ r. and_then r (λ x u. Ok (listings.Identifiers x, u))) (few-reads ccbsi h s f t p)
listing-reads h s (listings.Details f) t p = ap (λ r. and_then r (λ x u. Ok (listings.Details x, u))) (few-reads listed_request h s f t p)

pub few-way : {A : Type 0} (c : Form A) (f : Few A → Listing) (q : ListRequest) (l : UpToFive) → ((x : Few A) → listing_tag (f x) ≡ (few_tag x, q)) → ((x : Few A) → listing_rest (f x) ≡ few_rest c x) →
    {S F : Type 0} (h : Hearing S F) (s : S) (o : Listing) (t : S) → few_listed c f h l s ≡ Ok (o, t) → (listing_tag o ≡ (l, q)) × Stands h s (listing_rest o) t
few-way c f q l tagged told h s o t p =
    let i = and_then-from (few_heard (c.hear h) l s) (λ x u. Ok (f x, u)) (o, t) p in
    let x = i.0.0 in
    let e = ok_same (f x, i.0.1) (o, t) i.2 in
    let w = few-wrote c h l s x i.0.1 i.1 in (
      ap (λ z. listing_tag z.0) (sym e) ∙ tagged x ∙ ap (λ k. (k, q)) w.0,
      subst (λ z. Stands h s (listing_rest z.0) z.1) e (subst (λ xs. Stands h s xs i.0.1) (sym (told x)) w.1),
    )

pub listing-wrote : {S F : Type 0} (h : Hearing S F) (l : UpToFive) (q : ListRequest) (s : S) (o : Listing) (t : S) → listing_body h l q s ≡ Ok (o, t) → (listing_tag o ≡ (l, q)) × Stands h s (listing_rest o) t
listing-wrote h l requests.Count = way-keyed request_count (λ n. listings.Count (record { list_length = l; request_count = n })) listing_tag listing_rest (l, requests.Count) (λ _. refl) (λ _. refl) h
listing-wrote h l requests.Identifiers = few-way ccbsi listings.Identifiers requests.Identifiers l (λ _. refl) (λ _. refl) h
listing-wrote h l requests.Details = few-way listed_request listings.Details requests.Details l (λ _. refl) (λ _. refl) h

abbrev pub listing : Form Listing
listing = keyed list_head (record { tag = listing_tag; rest = listing_rest; body = λ h k. listing_body h k.0 k.1; reads = listing-reads; wrote = λ h k. listing-wrote h k.0 k.1 })

abbrev pub ListAck : Type 0
ListAck = Result Listing RejectCause

abbrev pub ack_tag : ListAck → Verdict
ack_tag (Ok l) = verdicts.Accepted
ack_tag (Err c) = verdicts.Rejected

abbrev pub ack_rest : ListAck → List Told
ack_rest (Ok l) = listing.tell l
ack_rest (Err c) = reject_cause.tell c

abbrev pub ack_body : {S F : Type 0} → Hearing S F → Verdict → S → Result (ListAck × S) F
ack_body h verdicts.Accepted = way listing Ok h
ack_body h verdicts.Rejected = way reject_cause Err h

pub ack-reads : {S F : Type 0} (h : Hearing S F) (s : S) (a : ListAck) (t : S) → Stands h s (ack_rest a) t → ack_body h (ack_tag a) s ≡ Ok (a, t)
ack-reads h s (Ok l) t = way-reads listing Ok h s l t
ack-reads h s (Err c) t = way-reads reject_cause Err h s c t

pub ack-wrote : {S F : Type 0} (h : Hearing S F) (k : Verdict) (s : S) (a : ListAck) (t : S) → ack_body h k s ≡ Ok (a, t) → (ack_tag a ≡ k) × Stands h s (ack_rest a) t
ack-wrote h verdicts.Accepted = way-keyed listing Ok ack_tag ack_rest verdicts.Accepted (λ _. refl) (λ _. refl) h
ack-wrote h verdicts.Rejected = way-keyed reject_cause Err ack_tag ack_rest verdicts.Rejected (λ _. refl) (λ _. refl) h

abbrev pub list_ack : Form ListAck
list_ack = keyed (element name.AcceptReject listed.verdict) (record { tag = ack_tag; rest = ack_rest; body = ack_body; reads = ack-reads; wrote = ack-wrote })
