-- A field that was told is heard, and the words of a text of fields are the fields.
use Rattle.std.proofs.Common.{◌≡◌, ℕ, zero, suc, ◌+◌, ◌-◌, ◌*◌, ◌/◌, ◌%◌, ◌^◌, ◌<◌, ◌≤◌, Bool, true, false, cond, eqb, List, [], ◌∷◌, ◌++◌, Some, None, decimal, sym, refl, ap, ◌∙◌, append_assoc, append-nil, arith, lit<}
use native.Mathlib.Nat.{pow-le-pow_right}
use Rattle.std.proofs.lemmas.Grind.{flat_map-append}
use Rattle.std.proofs.lemmas.Fmt.{decimal_by_steps, decimal_nonempty, length-decimal-le}
use Rattle.std.proofs.lemmas.Bool.{lt-ltb}
use Rattle.std.proofs.lemmas.Bool.Decides.{nat_tests}
use Rattle.std.specs.Fmt.{digit_glyph, digits_onto, digits}
use Rattle.std.specs.Str.{bytes_eq}
use Rattle.bits.specs.declared.fault.ElementName.{ElementName}
use Rattle.bits.specs.declared.fault.ElementName.TheVariants as names
use Rattle.text.specs.Numbers.{is_digit, decimal_after, number_of}
use Rattle.text.specs.Words.{is_blank, before, words_after, words}
use Rattle.text.proofs.Values.{a-digit, sized}
use Rattle.field_text.specs.Names.{field_name}
use Rattle.field_text.specs.Fields.{Field, field_word, field_text, words_of, text_of, Tells, name_in, digits_in, within, value_in, begins}

-- fields appended after fields
pub told : {a b d : List ℕ} {xs ys : List Field} → Tells a xs b → Tells b ys d → Tells a (xs ++ ys) d
unfolding text_of
told {a = a} {xs = xs} {ys = ys} h k = record { is = k.is ∙ ap (λ t. t ++ text_of ys) h.is ∙ append_assoc a (text_of xs) (text_of ys) ∙ ap (λ t. a ++ t) (sym (flat_map-append field_text xs ys)) }

pub none_told : (a : List ℕ) → Tells a [] a
unfolding text_of
none_told a = record { is = sym (append-nil a) }

-- a field alone, in the pieces that it is written in
pub one_told : (e : ElementName) (v : ℕ) → text_of ((e, v) ∷ []) ≡ 32 ∷ (field_name e ++ (61 ∷ decimal v))
unfolding text_of field_word
one_told e v = ap (λ t. 32 ∷ t) (append-nil (field_name e ++ (61 ∷ decimal v)))

-- one digit more
digit-more : (v : ℕ) (ds : List ℕ) (m d : ℕ) → is_digit d ≡ true → decimal_after v ds ≡ Some m → decimal_after v (ds ++ d ∷ []) ≡ Some (m * 10 + (d - 48))
digit-more v [] m d is e = let q : v ≡ m = cc in ap (λ t. cond t (Some (v * 10 + (d - 48))) None) is ∙ ap (λ n. Some (n * 10 + (d - 48))) q
digit-more v (x ∷ ds) m d is e =
    elim (is_digit x) as (λ t. cond t (decimal_after (v * 10 + (x - 48)) ds) None ≡ Some m → cond t (decimal_after (v * 10 + (x - 48)) (ds ++ d ∷ [])) None ≡ Some (m * 10 + (d - 48))) [
      | true ↦ λ h. digit-more (v * 10 + (x - 48)) ds m d is h
      | false ↦ λ h. let z : ◌≡◌ {A = ℕ} 0 1 = cc in absurd (omega arith)
    ] e

decimal-read : (n : ℕ) → n < 2 ^ 64 → decimal_after 0 (decimal n) ≡ Some n
decimal-read = decimal_by_steps (λ n ds. decimal_after 0 ds ≡ Some n)
    (λ n small. digit-more 0 [] 0 (48 + n) (a-digit (48 + n) (omega arith) (omega arith)) refl ∙ ap Some (omega arith))
    (λ n ds l h. digit-more 0 ds (n / 10) (48 + n % 10) (a-digit (48 + n % 10) (omega arith) (omega arith)) h ∙ ap Some (omega arith))

number_read : (n : ℕ) → n < 2 ^ 48 → number_of (decimal n) ≡ Some n
number_read n small = sized (decimal n) (decimal_nonempty n (omega arith)) (length-decimal-le 15 n (omega arith) (omega arith) (omega arith)) ∙ decimal-read n (omega arith)

name-told : (e : ElementName) (rest : List ℕ) → name_in (field_name e ++ (61 ∷ rest)) ≡ field_name e
name-told names.SsType rest = refl
name-told names.PduType rest = refl
name-told names.CallIdentifier rest = refl
name-told names.AreaSelection rest = refl
name-told names.CallPriority rest = refl
name-told names.ClirColr rest = refl
name-told names.BasicService rest = refl
name-told names.CalledSsi rest = refl
name-told names.CalledExtension rest = refl
name-told names.CallingSsi rest = refl
name-told names.CallingExtension rest = refl
name-told names.Ccbsi rest = refl
name-told names.CancellationResult rest = refl
name-told names.RejectCause rest = refl
name-told names.CancellationCause rest = refl
name-told names.FailureCause rest = refl
name-told names.RequestMaintained rest = refl
name-told names.ListRequest rest = refl
name-told names.AcceptReject rest = refl
name-told names.ListLength rest = refl
name-told names.RequestCount rest = refl
name-told names.RetainCapability rest = refl
name-told names.CalledType rest = refl
name-told names.Optional rest = refl

digits-told : (e : ElementName) (rest : List ℕ) → digits_in (field_name e ++ (61 ∷ rest)) ≡ rest
digits-told names.SsType rest = refl
digits-told names.PduType rest = refl
digits-told names.CallIdentifier rest = refl
digits-told names.AreaSelection rest = refl
digits-told names.CallPriority rest = refl
digits-told names.ClirColr rest = refl
digits-told names.BasicService rest = refl
digits-told names.CalledSsi rest = refl
digits-told names.CalledExtension rest = refl
digits-told names.CallingSsi rest = refl
digits-told names.CallingExtension rest = refl
digits-told names.Ccbsi rest = refl
digits-told names.CancellationResult rest = refl
digits-told names.RejectCause rest = refl
digits-told names.CancellationCause rest = refl
digits-told names.FailureCause rest = refl
digits-told names.RequestMaintained rest = refl
digits-told names.ListRequest rest = refl
digits-told names.AcceptReject rest = refl
digits-told names.ListLength rest = refl
digits-told names.RequestCount rest = refl
digits-told names.RetainCapability rest = refl
digits-told names.CalledType rest = refl
digits-told names.Optional rest = refl

same_name : (e : ElementName) → bytes_eq (field_name e) (field_name e) ≡ true
same_name names.SsType = refl
same_name names.PduType = refl
same_name names.CallIdentifier = refl
same_name names.AreaSelection = refl
same_name names.CallPriority = refl
same_name names.ClirColr = refl
same_name names.BasicService = refl
same_name names.CalledSsi = refl
same_name names.CalledExtension = refl
same_name names.CallingSsi = refl
same_name names.CallingExtension = refl
same_name names.Ccbsi = refl
same_name names.CancellationResult = refl
same_name names.RejectCause = refl
same_name names.CancellationCause = refl
same_name names.FailureCause = refl
same_name names.RequestMaintained = refl
same_name names.ListRequest = refl
same_name names.AcceptReject = refl
same_name names.ListLength = refl
same_name names.RequestCount = refl
same_name names.RetainCapability = refl
same_name names.CalledType = refl
same_name names.Optional = refl

pub value-told : (e : ElementName) (width v : ℕ) → width ≤ 48 → v < 2 ^ width → value_in e width (field_word (e, v)) ≡ Some v
unfolding field_word
value-told e width v room fits =
    let p : 2 ^ width ≤ 2 ^ 48 = pow-le-pow_right {n = 2} (lit< tt) room in
    let ds = decimal v in
    ap (λ w. cond (bytes_eq w (field_name e)) (within width (number_of (digits_in (field_name e ++ (61 ∷ ds))))) None) (name-told e ds)
    ∙ ap (λ t. cond t (within width (number_of (digits_in (field_name e ++ (61 ∷ ds))))) None) (same_name e)
    ∙ ap (λ w. within width (number_of w)) (digits-told e ds)
    ∙ ap (within width) (number_read v (omega arith))
    ∙ ap (λ t. cond t (Some v) None) (lt-ltb v (2 ^ width) fits)

pub begins-told : (e f : ElementName) (v : ℕ) (more : List (List ℕ)) → begins e (field_word (f, v) ∷ more) ≡ bytes_eq (field_name f) (field_name e)
unfolding begins field_word
begins-told e f v more = ap (λ w. bytes_eq w (field_name e)) (name-told f (decimal v))

-- no byte is a blank
abbrev pub solid : List ℕ → Bool
solid [] = true
solid (b ∷ bs) = cond (is_blank b) false (solid bs)

solid-append : (xs ys : List ℕ) → solid xs ≡ true → solid ys ≡ true → solid (xs ++ ys) ≡ true
solid-append [] ys h k = k
solid-append (x ∷ xs) ys h k =
    elim (is_blank x) as (λ t. cond t false (solid xs) ≡ true → cond t false (solid (xs ++ ys)) ≡ true) [
      | true ↦ λ e. e
      | false ↦ λ e. solid-append xs ys e k
    ] h

no-blank : (d : ℕ) → d < 10 → is_blank (digit_glyph false d) ≡ false
no-blank d small = ap (λ t. is_blank (cond t (48 + d) (87 + d))) (lt-ltb d 10 small) ∙ grind (arith, nat_tests)

solid-spelled : (k n : ℕ) (acc : List ℕ) → solid acc ≡ true → solid (digits_onto k 10 false n acc) ≡ true
solid-spelled zero n acc h = h
solid-spelled (suc k) n acc h =
    let d = digit_glyph false (n % 10) in
    let more : solid (d ∷ acc) ≡ true = ap (λ t. cond t false (solid acc)) (no-blank (n % 10) (omega arith)) ∙ h in
    elim (eqb (n / 10) 0) as (λ t. solid (cond t (d ∷ acc) (digits_onto k 10 false (n / 10) (d ∷ acc))) ≡ true) [
      | true ↦ more
      | false ↦ solid-spelled k (n / 10) (d ∷ acc) more
    ]

solid-decimal : (n : ℕ) → solid (decimal n) ≡ true
unfolding digits
solid-decimal n = solid-spelled 64 n [] refl

solid-name : (e : ElementName) → solid (field_name e) ≡ true
solid-name names.SsType = refl
solid-name names.PduType = refl
solid-name names.CallIdentifier = refl
solid-name names.AreaSelection = refl
solid-name names.CallPriority = refl
solid-name names.ClirColr = refl
solid-name names.BasicService = refl
solid-name names.CalledSsi = refl
solid-name names.CalledExtension = refl
solid-name names.CallingSsi = refl
solid-name names.CallingExtension = refl
solid-name names.Ccbsi = refl
solid-name names.CancellationResult = refl
solid-name names.RejectCause = refl
solid-name names.CancellationCause = refl
solid-name names.FailureCause = refl
solid-name names.RequestMaintained = refl
solid-name names.ListRequest = refl
solid-name names.AcceptReject = refl
solid-name names.ListLength = refl
solid-name names.RequestCount = refl
solid-name names.RetainCapability = refl
solid-name names.CalledType = refl
solid-name names.Optional = refl

name-first : (e : ElementName) (more : List ℕ) (ws : List (List ℕ)) → before (field_name e ++ more) ws ≡ (field_name e ++ more) ∷ ws
name-first names.SsType more ws = refl
name-first names.PduType more ws = refl
name-first names.CallIdentifier more ws = refl
name-first names.AreaSelection more ws = refl
name-first names.CallPriority more ws = refl
name-first names.ClirColr more ws = refl
name-first names.BasicService more ws = refl
name-first names.CalledSsi more ws = refl
name-first names.CalledExtension more ws = refl
name-first names.CallingSsi more ws = refl
name-first names.CallingExtension more ws = refl
name-first names.Ccbsi more ws = refl
name-first names.CancellationResult more ws = refl
name-first names.RejectCause more ws = refl
name-first names.CancellationCause more ws = refl
name-first names.FailureCause more ws = refl
name-first names.RequestMaintained more ws = refl
name-first names.ListRequest more ws = refl
name-first names.AcceptReject more ws = refl
name-first names.ListLength more ws = refl
name-first names.RequestCount more ws = refl
name-first names.RetainCapability more ws = refl
name-first names.CalledType more ws = refl
name-first names.Optional more ws = refl

-- a run goes on through what is no blank
run_on : (ds run rest : List ℕ) → solid ds ≡ true → words_after run (ds ++ rest) ≡ words_after (run ++ ds) rest
run_on [] run rest h = ap (λ r. words_after r rest) (sym (append-nil run))
run_on (d ∷ ds) run rest h =
    elim (is_blank d) as (λ t. cond t false (solid ds) ≡ true → cond t (before run (words_after [] (ds ++ rest))) (words_after (run ++ d ∷ []) (ds ++ rest)) ≡ words_after (run ++ d ∷ ds) rest) [
      | true ↦ λ e. let z : ◌≡◌ {A = ℕ} 0 1 = cc in absurd (omega arith)
      | false ↦ λ e. run_on ds (run ++ d ∷ []) rest e ∙ ap (λ r. words_after r rest) (append_assoc run (d ∷ []) ds)
    ] h

-- a word, and then fields
after-word : (w : List ℕ) (fs : List Field) → ((ws : List (List ℕ)) → before w ws ≡ w ∷ ws) → words_after w (text_of fs) ≡ w ∷ words_of fs
unfolding text_of field_word
after-word w [] first = first []
after-word w (f ∷ fs) first =
    let ds = 61 ∷ decimal f.1 in
    first (words_after [] (field_word f ++ text_of fs))
    ∙ ap (λ ws. w ∷ ws) (run_on (field_word f) [] (text_of fs) (solid-append (field_name f.0) ds (solid-name f.0) (solid-decimal f.1)) ∙ after-word (field_word f) fs (name-first f.0 ds))

pub words-told : (w : List ℕ) (fs : List Field) → solid w ≡ true → ((ws : List (List ℕ)) → before w ws ≡ w ∷ ws) → words (w ++ text_of fs) ≡ w ∷ words_of fs
words-told w fs h first = run_on w [] (text_of fs) h ∙ after-word w fs first
