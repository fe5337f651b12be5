-- A message comes back out of its frame, and what is accepted is the frame of what it is read as.
use Rattle.std.proofs.Common.{◌≡◌, ℕ, List, Ok, Err, Result, sym, ap, ◌∙◌}
use Rattle.fields.specs.declared.refusal.Refusal.{Refusal}
use Rattle.fields.specs.Values.{parts_of}
use Rattle.link.specs.declared.message.Message.{Message}
use Rattle.link.specs.Messages.{plain_of, listed, unlisted, message_of, Spelt}
use Rattle.link.proofs.Spelling.{kind_fits, read_back, is_read_as}
use Rattle.frame.specs.Frames.{layout, octets, frame_of, read_of, Framed}
use Rattle.frame.specs.Layout.{packed, split, Within}
use Rattle.frame.proofs.Layouts.{packed_lt, split-packed, packed-split}

pub fields_fit : (m : Message) → Within layout (listed (plain_of m))
fields_fit m =
    let k = m.key in
    let n = kind_fits m.kind in
    (n.0, (k.identifier.fits, ((parts_of k.caller).0.fits, ((parts_of k.caller).1.fits, ((parts_of k.called).0.fits, ((parts_of k.called).1.fits, (n.1, (n.2, (n.3, tt)))))))))

pub round : (m : Message) → read_of (frame_of m) ≡ Ok m
round m =
    let fit = fields_fit m in
    let number = packed layout (listed (plain_of m)) in
    ap (λ n. message_of (unlisted (split layout n))) (packed-split octets number (packed_lt layout (listed (plain_of m)) fit))
    ∙ ap (λ vs. message_of (unlisted vs)) (split-packed layout (listed (plain_of m)) fit) ∙ read_back m

pub reads_back : (m : Message) (bytes : List ℕ) → bytes ≡ frame_of m → read_of bytes ≡ Ok m
reads_back m bytes e = ap read_of e ∙ round m

-- the frame of a message with the fields that the bytes have
same-frame : (bytes : List ℕ) → Within octets bytes → (m : Message) → plain_of m ≡ unlisted (split layout (packed octets bytes)) → frame_of m ≡ bytes
same-frame bytes h m is =
    let n = packed octets bytes in
    ap (λ p. split octets (packed layout (listed p))) is ∙ ap (split octets) (packed-split layout n (packed_lt octets bytes h)) ∙ split-packed octets bytes h

none_framed : (bytes : List ℕ) (e : Refusal) → read_of bytes ≡ Err e → (m : Message) → frame_of m ≡ bytes → ⊥
none_framed bytes e h m is = let no : Ok m ≡ Err e = sym (round m) ∙ ap read_of is ∙ h in cc

exactly : (bytes : List ℕ) → Within octets bytes → (r : Result Message Refusal) → r ≡ read_of bytes → Spelt (unlisted (split layout (packed octets bytes))) r → Framed bytes r
exactly bytes h (Ok m) e is = same-frame bytes h m is
exactly bytes h (Err x) e is = (is.0, none_framed bytes x (sym e))

pub framed : (bytes : List ℕ) → Within octets bytes → (r : Result Message Refusal) → r ≡ read_of bytes → Framed bytes r
framed bytes h r e = exactly bytes h r e (is_read_as (unlisted (split layout (packed octets bytes))) r e).exact
