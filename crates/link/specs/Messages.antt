-- Messages and their numbers.
use Rattle.std.specs.Prelude.{◌≡◌, ℕ, cond, ◌&&◌, List, [], ◌∷◌, Ok, Err, Result, MatchResult, ◌==◌, ◌≢◌, slice_index}
use Rattle.fields.specs.declared.call.CallAttributes.{CallAttributes}
use Rattle.fields.specs.declared.key.Key.{Key}
use Rattle.fields.specs.declared.refusal.Refusal.{Refusal}
use Rattle.fields.specs.declared.refusal.Refusal.TheVariants.{OutsideField}
use Rattle.fields.specs.Fields.{checked}
use Rattle.fields.specs.Values.{Identity, joined, parts_of, ssi_of, extension_of, identifier_of, priority_of, service_of}
use Rattle.link.specs.declared.message.Kind.{Kind}
use Rattle.link.specs.declared.message.Kind.TheVariants.{Monitor, Suspend, Resume, Setup, Close, Yes, No, Free, BusyAgain, Connected, Failed, LetGo}
use Rattle.link.specs.declared.message.Message.{Message}
use Rattle.link.specs.declared.message.NoCause.{NoCause}
use Rattle.link.specs.declared.message.NoCause.TheVariants.{NoSuchLine, OtherService, QueueFull, TableFull}
use Rattle.link.specs.declared.message.PlainKey.{PlainKey}
use Rattle.link.specs.declared.message.PlainKind.{PlainKind}
use Rattle.link.specs.declared.message.PlainMessage.{PlainMessage}
use Rattle.link.specs.declared.message.PlainParty.{PlainParty}

abbrev pub cause_number : NoCause → ℕ
cause_number NoSuchLine = 1
cause_number OtherService = 2
cause_number QueueFull = 3
cause_number TableFull = 4

-- a kind that carries nothing
abbrev pub bare : ℕ → PlainKind
bare number = record { number = number; priority = 0; service = 0; cause = 0 }

-- a kind's number, its priority, its service and its cause, 0 where it has none
abbrev pub plain_kind : Kind → PlainKind
plain_kind (Monitor call) = record { number = 1; priority = call.priority.bits; service = call.service.bits; cause = 0 }
plain_kind Suspend = bare 2
plain_kind Resume = bare 3
plain_kind Setup = bare 4
plain_kind Close = bare 5
plain_kind Yes = bare 8
plain_kind (No cause) = record { number = 9; priority = 0; service = 0; cause = cause_number cause }
plain_kind Free = bare 10
plain_kind BusyAgain = bare 11
plain_kind Connected = bare 12
plain_kind Failed = bare 13
plain_kind LetGo = bare 14

abbrev pub plain_party : Identity → PlainParty
plain_party x = record { ssi = (parts_of x).0.bits; extension = (parts_of x).1.bits }

abbrev pub plain_key : Key → PlainKey
plain_key k = record { identifier = k.identifier.bits; caller = plain_party k.caller; called = plain_party k.called }

-- a message as plain numbers
abbrev pub plain_of : Message → PlainMessage
plain_of m = record { kind = plain_kind m.kind; key = plain_key m.key }

-- the fields in the order in which a frame has them
abbrev pub listed : PlainMessage → List ℕ
listed p =
    p.kind.number
    ∷ p.key.identifier
    ∷ p.key.caller.ssi
    ∷ p.key.caller.extension
    ∷ p.key.called.ssi
    ∷ p.key.called.extension
    ∷ p.kind.priority
    ∷ p.kind.service
    ∷ p.kind.cause
    ∷ []

abbrev pub unlisted : List ℕ → PlainMessage
unlisted vs = record {
  kind = record { number = slice_index vs 0; priority = slice_index vs 6; service = slice_index vs 7; cause = slice_index vs 8 };
  key = record {
    identifier = slice_index vs 1;
    caller = record { ssi = slice_index vs 2; extension = slice_index vs 3 };
    called = record { ssi = slice_index vs 4; extension = slice_index vs 5 };
  };
}

-- goes on with the value, or keeps the refusal: std has this word for `Option` alone
abbrev pub after : {A B : Type 0} → Result A Refusal → (A → Result B Refusal) → Result B Refusal
after (Ok x) f = f x
after (Err e) f = Err e

abbrev pub party_of : PlainParty → Result Identity Refusal
party_of p =
    after (checked 24 ssi_of p.ssi) (λ s. after (checked 24 extension_of p.extension) (λ e. Ok (joined s e)))

abbrev pub key_of : PlainKey → Result Key Refusal
key_of p =
    after (checked 3 identifier_of p.identifier) (λ identifier.
    after (party_of p.caller) (λ caller.
    after (party_of p.called) (λ called.
    Ok (record { identifier = identifier; caller = caller; called = called }))))

abbrev pub attributes_of : PlainKind → Result CallAttributes Refusal
attributes_of p =
    after (checked 4 priority_of p.priority) (λ priority.
    after (checked 8 service_of p.service) (λ service.
    Ok (record { priority = priority; service = service })))

abbrev pub cause_of : ℕ → Result NoCause Refusal
cause_of n =
    cond (n == 1) (Ok NoSuchLine)
    (cond (n == 2) (Ok OtherService)
    (cond (n == 3) (Ok QueueFull)
    (cond (n == 4) (Ok TableFull) (Err OutsideField))))

-- the kind, where priority, service and cause are 0
abbrev pub where_bare : PlainKind → Kind → Result Kind Refusal
where_bare p kind = cond (p.priority == 0 && (p.service == 0 && p.cause == 0)) (Ok kind) (Err OutsideField)

-- the kind with these numbers, and with these attributes where it has some
abbrev pub numbered : PlainKind → CallAttributes → Result Kind Refusal
numbered p call =
    cond (p.number == 1) (cond (p.cause == 0) (Ok (Monitor call)) (Err OutsideField))
    (cond (p.number == 2) (where_bare p Suspend)
    (cond (p.number == 3) (where_bare p Resume)
    (cond (p.number == 4) (where_bare p Setup)
    (cond (p.number == 5) (where_bare p Close)
    (cond (p.number == 8) (where_bare p Yes)
    (cond (p.number == 9) (cond (p.priority == 0 && p.service == 0) (after (cause_of p.cause) (λ cause. Ok (No cause))) (Err OutsideField))
    (cond (p.number == 10) (where_bare p Free)
    (cond (p.number == 11) (where_bare p BusyAgain)
    (cond (p.number == 12) (where_bare p Connected)
    (cond (p.number == 13) (where_bare p Failed)
    (cond (p.number == 14) (where_bare p LetGo) (Err OutsideField))))))))))))

abbrev pub kind_of : PlainKind → Result Kind Refusal
kind_of p = after (attributes_of p) (numbered p)

-- the message with these numbers
abbrev pub message_of : PlainMessage → Result Message Refusal
message_of p = after (kind_of p.kind) (λ kind. after (key_of p.key) (λ key. Ok (record { kind = kind; key = key })))

-- a message is accepted as what it is written as, and only what no message is written as is refused
abbrev pub Spelt : PlainMessage → Result Message Refusal → Type 0
Spelt p r = MatchResult r (λ m. plain_of m ≡ p) (λ e. (e ≡ OutsideField) × ((m : Message) → plain_of m ≢ p))

-- the plain numbers are the message's, and are read as it
pub record IsWrittenAs (m : Message) (p : PlainMessage) : Type 0 where
  pub value : p ≡ plain_of m
  pub reads_back : message_of p ≡ Ok m

-- the result is the message with these plain numbers, or a refusal where no message has them
pub record IsReadAs (p : PlainMessage) (r : Result Message Refusal) : Type 0 where
  pub value : r ≡ message_of p
  pub exact : Spelt p r
