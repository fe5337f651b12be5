-- A message is read back from its plain numbers, and what is read is what it is written as.
use Rattle.std.proofs.Common.{◌≡◌, ℕ, ◌^◌, ◌<◌, Ok, Err, Result, sym, refl, ap, ◌∙◌, arith, MatchResult}
use Rattle.std.proofs.lemmas.Bool.Decides.{nat_tests}
use Rattle.fields.specs.declared.key.Key.{Key}
use Rattle.fields.specs.declared.refusal.Refusal.{Refusal}
use Rattle.fields.specs.declared.refusal.Refusal.TheVariants.{OutsideField}
use Rattle.fields.specs.Values.{Identity, parts_of}
use Rattle.fields.proofs.Accepted.{accepted}
use Rattle.fields.proofs.Halves.{joined-parts}
use Rattle.link.specs.declared.message.Kind.{Kind}
use Rattle.link.specs.declared.message.Kind.TheVariants.{Monitor}
use Rattle.link.specs.declared.message.Message.{Message}
use Rattle.link.specs.declared.message.PlainKey.{PlainKey}
use Rattle.link.specs.declared.message.PlainKind.{PlainKind}
use Rattle.link.specs.declared.message.PlainMessage.{PlainMessage}
use Rattle.link.specs.declared.message.PlainParty.{PlainParty}
use Rattle.link.specs.Messages.{cause_number, plain_kind, plain_party, plain_key, plain_of, after, party_of, key_of, cause_of, kind_of, message_of, Spelt, IsWrittenAs, IsReadAs}

party-back : (x : Identity) → party_of (plain_party x) ≡ Ok x
party-back x = rw (← accepted (parts_of x).0, ← accepted (parts_of x).1) (ap Ok (joined-parts x))

key-back : (k : Key) → key_of (plain_key k) ≡ Ok k
key-back k = rw (← accepted k.identifier, party-back k.caller, party-back k.called) refl

kind-back : (k : Kind) → kind_of (plain_kind k) ≡ Ok k
kind-back (Monitor call) = rw (← accepted call.priority, ← accepted call.service) refl
kind-back k = grind (arith, nat_tests)

pub read_back : (m : Message) → message_of (plain_of m) ≡ Ok m
read_back m = rw (kind-back m.kind, key-back m.key) refl

pub is_written_as : (m : Message) (p : PlainMessage) → p ≡ plain_of m → IsWrittenAs m p
is_written_as m p e = record { value = e; reads_back = ap message_of e ∙ read_back m }

-- what a value satisfies, where the only refusal is that a number is outside its field
abbrev Read : {A : Type 0} → (A → Type 0) → Result A Refusal → Type 0
Read P r = MatchResult r P (λ e. e ≡ OutsideField)

read-cause : (n : ℕ) → Read (λ c. cause_number c ≡ n) (cause_of n)
read-cause n = grind (arith, nat_tests)

read-kind : (p : PlainKind) → Read (λ k. plain_kind k ≡ p) (kind_of p)
read-kind p = grind (arith, nat_tests)

read-party : (p : PlainParty) → Read (λ x. plain_party x ≡ p) (party_of p)
read-party p = grind (arith, nat_tests)

read-key : (p : PlainKey) → Read (λ k. plain_key k ≡ p) (key_of p)
read-key p = grind (arith, nat_tests, read-party)

read-after : {A B : Type 0} (P : A → Type 0) (Q : B → Type 0) (r : Result A Refusal) (f : A → Result B Refusal) → Read P r
    → ((x : A) → P x → Read Q (f x)) → Read Q (after r f)
read-after P Q (Ok x) f h more = more x h
read-after P Q (Err e) f h more = h

read-message : (p : PlainMessage) → Read (λ m. plain_of m ≡ p) (message_of p)
read-message p =
    let Q : Message → Type 0 = λ m. plain_of m ≡ p in
    read-after (λ k. plain_kind k ≡ p.kind) Q (kind_of p.kind) _ (read-kind p.kind) (λ k is.
    read-after (λ x. plain_key x ≡ p.key) Q (key_of p.key) _ (read-key p.key) (λ x named. λ i. record { kind = is i; key = named i }))

none_written : (p : PlainMessage) (e : Refusal) → message_of p ≡ Err e → (m : Message) → plain_of m ≡ p → ⊥
none_written p e h m is = let no : Ok m ≡ Err e = sym (read_back m) ∙ ap message_of is ∙ h in cc

exactly : (p : PlainMessage) (r : Result Message Refusal) → r ≡ message_of p → Read (λ m. plain_of m ≡ p) r → Spelt p r
exactly p (Ok m) h is = is
exactly p (Err e) h is = (is, none_written p e (sym h))

pub is_read_as : (p : PlainMessage) (r : Result Message Refusal) → r ≡ message_of p → IsReadAs p r
is_read_as p r e = record { value = e; exact = exactly p r e (rw e (read-message p)) }

-- each number of a kind is within its width
pub kind_fits : (k : Kind) → ((plain_kind k).number < 2 ^ 4) × ((plain_kind k).priority < 2 ^ 4) × ((plain_kind k).service < 2 ^ 8) × ((plain_kind k).cause < 2 ^ 5)
kind_fits k = grind arith
