-- A PDU is read from its own bits, and what is read is written there.
use Rattle.std.proofs.Common.{◌≡◌, ℕ, ◌+◌, ◌<◌, List, [], ◌∷◌, ◌++◌, length, drop, Ok, Err, Result, sym, ap, subst, ◌∙◌, append-nil, zero-add, arith, length-append, length-drop}
use Rattle.std.proofs.lemmas.Bool.{le-leb, lt-leb}
use Rattle.bits.specs.Bits.{Bitlike}
use Rattle.bits.specs.declared.fault.ElementName.TheVariants as name
use Rattle.bits.specs.declared.fault.Fault.{Fault}
use Rattle.bits.proofs.BitLaws.{length_digits}
use Rattle.element.specs.declared.listed.PduType.{PduType}
use Rattle.pdu.specs.Bits.{all_bits, Place, bit_hearing, bits_of_pdu, placed, reading}
use Rattle.pdu.specs.Pdus.{RequestAck, request_accepted, request_rejected, request_ack_told, request_ack_hear, request_ack-reads, is_rejection}
use Rattle.pdu.specs.Whole.{type_of, told_of, head, Agrees, pdu_hear, pdu-reads, pdu-wrote}
use Rattle.pdu.specs.declared.pdus.Pdu.{Pdu}
use Rattle.pdu.specs.declared.pdus.Pdu.TheVariants as variants
use Rattle.pdu.specs.declared.pdus.RequestAccepted.{RequestAccepted}
use Rattle.pdu.specs.declared.pdus.RequestRejected.{RequestRejected}
use Rattle.pdu.proofs.BitLaws.{all_bits-append, drop_past, stands-read, stands-wrote}
use Rattle.source.specs.Forms.{Stands, ok_same}
use Rattle.source.specs.Hearing.{Hearing}
use Rattle.source.specs.declared.told.Told.{Told}
use Rattle.source.specs.declared.told.Told.TheVariants.{Element, Present}

-- the same elements lead to one place
stands-same : {S F : Type 0} (h : Hearing S F) (ts : List Told) (s t u : S) → Stands h s ts t → Stands h s ts u → t ≡ u
stands-same h [] s t u p q = sym p ∙ q
stands-same h (Element c ∷ ts) s t u p q =
    let e : p.0 ≡ q.0 = ap (λ z. z.1) (ok_same (c.value, p.0) (c.value, q.0) (sym p.1 ∙ q.1)) in
    stands-same h ts p.0 t u p.2 (subst (λ z. Stands h z ts u) (sym e) q.2)
stands-same h (Present b ∷ ts) s t u p q =
    let e : p.0 ≡ q.0 = ap (λ z. z.1) (ok_same (b, p.0) (b, q.0) (sym p.1 ∙ q.1)) in
    stands-same h ts p.0 t u p.2 (subst (λ z. Stands h z ts u) (sym e) q.2)

-- the place after the head is 11 bits on
after-head : (t : PduType) (all : List ℕ) (at : ℕ) (rest : List ℕ) (u : Place) → drop at all ≡ all_bits (head.tell t) ++ rest → Stands bit_hearing (all, at) (head.tell t) u → (all, at + 11) ≡ u
after-head t all at rest u e h =
    let size : length (all_bits (head.tell t)) ≡ 11 = simp (length-append, length_digits) in
    let there = stands-read name.RetainCapability (head.tell t) all at rest e in
    stands-same bit_hearing (head.tell t) (all, at) (all, at + 11) u (subst (λ n. Stands bit_hearing (all, at) (head.tell t) (all, at + n)) size there) h

pub accepted-size : (a : RequestAccepted) → length (all_bits (request_accepted.tell a)) ≡ 80
accepted-size a = simp (length-append, length_digits)

pub rejected-size : (r : RequestRejected) → length (all_bits (request_rejected.tell r)) ≡ 82
rejected-size r = simp (length-append, length_digits)

-- what is left of the bits
pub left-size : (all : List ℕ) (at : ℕ) (xs : List ℕ) (n : ℕ) → 0 < n → length xs ≡ n → drop at all ≡ xs ++ [] → length all ≡ at + n
left-size all at xs n some e h = let l = sym (length-drop at all) ∙ ap length (h ∙ append-nil xs) in omega arith

-- the length of what is left tells which answer to REQUEST it is
ack-told : (a : RequestAck) (all : List ℕ) (at : ℕ) → drop at all ≡ all_bits (request_ack_told a) → bit_hearing.rejects (all, at) ≡ is_rejection a
ack-told (Ok a) all at e =
    let xs = all_bits (request_accepted.tell a) in
    let l : length all ≡ at + 80 = left-size all at xs 80 (omega arith) (accepted-size a) (e ∙ sym (append-nil xs)) in
    lt-leb (at + 82) (length all) (omega arith)
ack-told (Err r) all at e =
    let xs = all_bits (request_rejected.tell r) in
    let l : length all ≡ at + 82 = left-size all at xs 82 (omega arith) (rejected-size r) (e ∙ sym (append-nil xs)) in
    le-leb (at + 82) (length all) (omega arith)

-- an answer to REQUEST is heard wherever nothing follows it
pub ack-back : (a : RequestAck) (all : List ℕ) (at : ℕ) → drop at all ≡ all_bits (request_ack_told a) → request_ack_hear bit_hearing (all, at) ≡ Ok (a, (all, at + length (all_bits (request_ack_told a))))
ack-back a all at e =
    let ts = request_ack_told a in
    request_ack-reads bit_hearing (all, at) a (all, at + length (all_bits ts)) (ack-told a all at e) (stands-read name.RetainCapability ts all at [] (e ∙ sym (append-nil (all_bits ts))))

ack-agrees : (a : RequestAck) (all : List ℕ) (at : ℕ) → drop at all ≡ bits_of_pdu (variants.RequestAck a) → (u : Place) → Stands bit_hearing (all, at) (head.tell (type_of (variants.RequestAck a))) u → bit_hearing.rejects u ≡ is_rejection a
ack-agrees a all at e u h =
    let first = head.tell (type_of (variants.RequestAck a)) in
    let parts = e ∙ all_bits-append first (request_ack_told a) in
    let size : length (all_bits first) ≡ 11 = simp (length-append, length_digits) in
    let rest : drop (at + 11) all ≡ all_bits (request_ack_told a) = ap (λ n. drop (at + n) all) (sym size) ∙ drop_past all at (all_bits first) (all_bits (request_ack_told a)) parts in
    ap bit_hearing.rejects (sym (after-head (type_of (variants.RequestAck a)) all at (all_bits (request_ack_told a)) u parts h)) ∙ ack-told a all (at + 11) rest

agrees : (p : Pdu) (all : List ℕ) (at : ℕ) → drop at all ≡ bits_of_pdu p → (u : Place) → Stands bit_hearing (all, at) (head.tell (type_of p)) u → Agrees bit_hearing u p
agrees (variants.CallInformationRetention x) all at e u h = tt
agrees (variants.Cancel x) all at e u h = tt
agrees (variants.List x) all at e u h = tt
agrees (variants.Monitor x) all at e u h = tt
agrees (variants.Recall x) all at e u h = tt
agrees (variants.Request x) all at e u h = tt
agrees (variants.ResumeCompletion x) all at e u h = tt
agrees (variants.CancelAck x) all at e u h = tt
agrees (variants.ListAck x) all at e u h = tt
agrees (variants.MonitorAck x) all at e u h = tt
agrees (variants.RequestAck x) all at e u h = ack-agrees x all at e u h
agrees (variants.Cancelled x) all at e u h = tt
agrees (variants.Failed x) all at e u h = tt
agrees (variants.FreeNotification x) all at e u h = tt
agrees (variants.SuspendCompletion x) all at e u h = tt
agrees (variants.UserBFree x) all at e u h = tt
agrees (variants.Cancellation x) all at e u h = tt
agrees (variants.Ccbsi x) all at e u h = tt
agrees (variants.CallInformationRelease x) all at e u h = tt

-- a PDU is heard wherever its bits stand and nothing follows them
pub heard-back : (p : Pdu) (all : List ℕ) (at : ℕ) → drop at all ≡ bits_of_pdu p → pdu_hear bit_hearing (all, at) ≡ Ok (p, (all, at + length (bits_of_pdu p)))
heard-back p all at e =
    let ts = told_of p in
    pdu-reads bit_hearing (all, at) p (all, at + length (all_bits ts)) (agrees p all at e) (stands-read name.RetainCapability ts all at [] (e ∙ sym (append-nil (all_bits ts))))

-- a PDU is read from its own bits
pub reading-back : (p : Pdu) (all : List ℕ) → all ≡ bits_of_pdu p → reading all ≡ Ok (p, length all)
unfolding reading
reading-back p all e = ap placed (heard-back p all 0 e) ∙ ap (λ n. Ok (p, n)) (zero-add (length (bits_of_pdu p)) ∙ ap length (sym e))

placed-from : (r : Result (Pdu × Place) Fault) (p : Pdu) (n : ℕ) → placed r ≡ Ok (p, n) → (u : Place) × (r ≡ Ok (p, u)) × (u.1 ≡ n)
placed-from (Ok q) p n h = let e = ok_same {F = Fault} (q.0, q.1.1) (p, n) h in (q.1, ap (λ z. Ok (z.0, q.1)) e, ap (λ z. z.1) e)
placed-from (Err e) p n h = let z : ◌≡◌ {A = ℕ} 0 1 = cc in absurd (omega arith)

-- what was read is written there
pub reading-wrote : (p : Pdu) (all : List ℕ) (n : ℕ) → Bitlike all → reading all ≡ Ok (p, n) → all ≡ bits_of_pdu p ++ drop n all
unfolding reading
reading-wrote p all n bl h =
    let i = placed-from (pdu_hear bit_hearing (all, 0)) p n h in
    let w = stands-wrote name.RetainCapability (told_of p) (all, 0) i.0 bl (pdu-wrote bit_hearing (all, 0) p i.0 i.1) in
    w.1 ∙ ap (λ m. bits_of_pdu p ++ drop m all) i.2
