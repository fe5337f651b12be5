-- The calls of the originating office at a request: each is a fair step.
use Rattle.std.proofs.Common.{◌≡◌, Bool, true, false, not, ◌||◌, List, [], ◌∷◌, refl, append-nil}
use Rattle.std.proofs.lemmas.Bool.{and_parts, false≢true, not-true}
use Rattle.requests.specs.Records.{can_end, is_live}
use Rattle.std.specs.List.{flat_map}
use Rattle.std.specs.List.{list_all}
use Rattle.agreement.specs.Key.{Key}
use Rattle.agreement.specs.State.{is_monitor, asked_key}
use Rattle.agreement.specs.Shapes.{any_live, heard}
use Rattle.agreement.specs.Records.{Sort, RESUME, SETUP, CLOSE}
use Rattle.requests.specs.declared.records.Phase.{Phase}
use Rattle.requests.specs.declared.records.Phase.TheVariants.{Invoked, Recalled, Parked, SettingUp, Closing}
use Rattle.agreement.proofs.Local.{by_both}
use Rattle.agreement.proofs.Pieces.{not-cons}
use Rattle.agreement.proofs.Moves.{accept-stays, wake-stays, end_stays, hear-stays, hear-quiet}
use Rattle.agreement.proofs.Turns.{Fair}

pub accept-fair : Fair Recalled (SettingUp ∷ []) [] (SETUP ∷ [])
accept-fair = record { row = accept-stays; no-rise = λ _. refl; plain = λ k. refl; quiet = λ n. absurd (not-cons SettingUp [] n) }

pub wake-fair : Fair Parked (Invoked ∷ []) [] (RESUME ∷ [])
wake-fair = record { row = wake-stays; no-rise = λ _. refl; plain = λ k. refl; quiet = λ n. absurd (not-cons Invoked [] n) }

pub finish-fair : (p : Phase) → can_end p ≡ true → Fair p (Closing ∷ []) [] (CLOSE ∷ [])
finish-fair p e = record {
  row = λ o m b h. end_stays p o m b e h;
  no-rise = λ d. absurd (false≢true d);
  plain = λ k. refl;
  quiet = λ n. absurd (not-cons Closing [] n);
}

pub join-fair : (p : Phase) → Fair p (p ∷ []) [] []
join-fair p = record {
  row = λ o m b h. rw append-nil h;
  no-rise = λ d. d;
  plain = λ k. refl;
  quiet = λ n. absurd (not-cons p [] n);
}

-- a hear lets no request rise, and sends no MONITOR
abbrev implies : Bool → Bool → Bool
implies a b = not a || b

abbrev plainly : List Sort → Bool
plainly = list_all (λ k. not (is_monitor k))

heard-rise : (free : Bool) (p : Phase) (k : Sort) → implies (any_live (heard free p k).left) (is_live p) ≡ true
heard-rise true = by_both (λ p k. implies (any_live (heard true p k).left) (is_live p)) refl
heard-rise false = by_both (λ p k. implies (any_live (heard false p k).left) (is_live p)) refl

heard-plain : (free : Bool) (p : Phase) (k : Sort) → plainly (heard free p k).sends ≡ true
heard-plain true = by_both (λ p k. plainly (heard true p k).sends) refl
heard-plain false = by_both (λ p k. plainly (heard false p k).sends) refl

plain-gives : (k : Key) (ks : List Sort) → plainly ks ≡ true → flat_map (λ κ. asked_key κ k) ks ≡ []
plain-gives k [] e = refl
plain-gives k (κ ∷ ks) e =
    let p = and_parts (not (is_monitor κ)) (plainly ks) e in
    rw (not-true (is_monitor κ) p.0) (plain-gives k ks p.1)

pub hear-fair : (free : Bool) (p : Phase) (κ : Sort) → Fair p (heard free p κ).left (κ ∷ []) (heard free p κ).sends
hear-fair free p κ = record {
  row = λ o m b h. hear-stays free p κ o m b h;
  no-rise = λ d. rw d at (heard-rise free p κ);
  plain = λ k. plain-gives k (heard free p κ).sends (heard-plain free p κ);
  quiet = hear-quiet free p κ;
}
