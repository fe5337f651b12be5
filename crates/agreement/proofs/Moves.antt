-- Each office step, seen from the one request that it is about, leaves the rows allowed.
use Rattle.std.proofs.Common.{◌≡◌, ◌+◌, ◌≤◌, Bool, true, false, cond, not, ◌&&◌, ◌||◌, eqb, leb, List, [], ◌∷◌, ◌++◌, length, refl}
use Rattle.std.proofs.lemmas.Bool.{and_parts, false≢true, eqb-true, le-leb}
use Rattle.requests.specs.Records.{can_end, is_live}
use Rattle.agreement.specs.Records.{Sort, MONITOR, RESUME, SETUP, CLOSE, FREE, BUSY-AGAIN, CONNECTED, FAILED}
use Rattle.requests.specs.declared.records.Phase.{Phase}
use Rattle.requests.specs.declared.records.Phase.TheVariants.{Asked, Invoked, Recalled, Parked, SettingUp, Closing}
use Rattle.terminating.specs.declared.office.Stage.{Stage}
use Rattle.terminating.specs.declared.office.Stage.TheVariants.{Waiting, Offered, Ringing}
use Rattle.std.specs.List.{flat_map}
use Rattle.agreement.specs.State.{only_if}
use Rattle.agreement.proofs.Codes.{phase_test, stage_test}
use Rattle.agreement.specs.Shapes.{heard, stood}
use Rattle.agreement.proofs.Local.{Local, local, Allowed, allowed, by_rows}

-- the tests
abbrev one-phase : (Phase → Bool) → (Phase → Local) → List Phase → Bool
one-phase guard f [] = true
one-phase guard f (p ∷ ps) = cond (guard p) (allowed (f p)) true

abbrev one-stage : (Stage → Bool) → (Stage → Local) → List Stage → Bool
one-stage guard f [] = true
one-stage guard f (p ∷ ps) = cond (guard p) (allowed (f p)) true

-- a request's own step: a phase that passes the guard becomes q and sends k
abbrev steps : (Phase → Bool) → Phase → Sort → Local → Bool
steps guard q k x = one-phase guard (λ _. local (q ∷ []) (x.outs ++ (k ∷ [])) x.stages x.backs) x.phases

-- a monitor's own step: a stage becomes ms and sends k
abbrev moves : Stage → List Stage → Sort → Local → Bool
moves m ms k x = one-stage (stage_test m) (λ _. local x.phases x.outs ms (x.backs ++ (k ∷ []))) x.stages

abbrev hears : Bool → Local → List Phase → List Sort → Bool
hears free x [] bs = true
hears free x (p ∷ ps) [] = true
hears free x (p ∷ ps) (k ∷ b) = allowed (local (heard free p k).left (x.outs ++ (heard free p k).sends) x.stages b)

abbrev stands : Bool → Local → List Sort → Bool
stands ok x [] = true
stands ok x (k ∷ o) = allowed (local x.phases o (stood ok x.stages k).left (x.backs ++ (stood ok x.stages k).sends))

pub accept-stays : (o : List Sort) (m : List Stage) (b : List Sort) → Allowed (local (Recalled ∷ []) o m b) → Allowed (local (SettingUp ∷ []) (o ++ (SETUP ∷ [])) m b)
unfolding Allowed
accept-stays o m b h = by_rows (steps (phase_test Recalled) SettingUp SETUP) refl (local (Recalled ∷ []) o m b) h

pub wake-stays : (o : List Sort) (m : List Stage) (b : List Sort) → Allowed (local (Parked ∷ []) o m b) → Allowed (local (Invoked ∷ []) (o ++ (RESUME ∷ [])) m b)
unfolding Allowed
wake-stays o m b h = by_rows (steps (phase_test Parked) Invoked RESUME) refl (local (Parked ∷ []) o m b) h

pub end_stays : (p : Phase) (o : List Sort) (m : List Stage) (b : List Sort) → can_end p ≡ true → Allowed (local (p ∷ []) o m b) → Allowed (local (Closing ∷ []) (o ++ (CLOSE ∷ [])) m b)
unfolding Allowed
end_stays p o m b e h = rw e at (by_rows (steps can_end Closing CLOSE) refl (local (p ∷ []) o m b) h)

pub serve-stays : (p : List Phase) (o b : List Sort) → Allowed (local p o (Waiting ∷ []) b) → Allowed (local p o (Offered ∷ []) (b ++ (FREE ∷ [])))
unfolding Allowed
serve-stays p o b h = by_rows (moves Waiting (Offered ∷ []) FREE) refl (local p o (Waiting ∷ []) b) h

pub connected-stays : (p : List Phase) (o b : List Sort) → Allowed (local p o (Ringing ∷ []) b) → Allowed (local p o [] (b ++ (CONNECTED ∷ [])))
unfolding Allowed
connected-stays p o b h = by_rows (moves Ringing [] CONNECTED) refl (local p o (Ringing ∷ []) b) h

pub busy-stays : (p : List Phase) (o b : List Sort) → Allowed (local p o (Ringing ∷ []) b) → Allowed (local p o (Waiting ∷ []) (b ++ (BUSY-AGAIN ∷ [])))
unfolding Allowed
busy-stays p o b h = by_rows (moves Ringing (Waiting ∷ []) BUSY-AGAIN) refl (local p o (Ringing ∷ []) b) h

pub failed-stays : (p : List Phase) (o b : List Sort) → Allowed (local p o (Ringing ∷ []) b) → Allowed (local p o [] (b ++ (FAILED ∷ [])))
unfolding Allowed
failed-stays p o b h = by_rows (moves Ringing [] FAILED) refl (local p o (Ringing ∷ []) b) h

hears-pass : (free : Bool) (x : Local) → Allowed x → hears free x x.phases x.backs ≡ true
hears-pass true x h = by_rows (λ y. hears true y y.phases y.backs) refl x h
hears-pass false x h = by_rows (λ y. hears false y y.phases y.backs) refl x h

pub hear-stays : (free : Bool) (p : Phase) (k : Sort) (o : List Sort) (m : List Stage) (b : List Sort)
    → Allowed (local (p ∷ []) o m (k ∷ b)) → Allowed (local (heard free p k).left (o ++ (heard free p k).sends) m b)
unfolding Allowed
hear-stays free p k o m b h = hears-pass free (local (p ∷ []) o m (k ∷ b)) h

stands-pass : (ok : Bool) (x : Local) → Allowed x → stands ok x x.outs ≡ true
stands-pass true x h = by_rows (λ y. stands true y y.outs) refl x h
stands-pass false x h = by_rows (λ y. stands false y y.outs) refl x h

pub stand-stays : (ok : Bool) (p : List Phase) (k : Sort) (o : List Sort) (m : List Stage) (b : List Sort)
    → Allowed (local p (k ∷ o) m b) → Allowed (local p o (stood ok m k).left (b ++ (stood ok m k).sends))
unfolding Allowed
stand-stays ok p k o m b h = stands-pass ok (local p (k ∷ o) m b) h

-- what the rows have in common
abbrev pub empty : {A : Type 0} → List A → Bool
empty [] = true
empty (x ∷ xs) = false

abbrev few : Local → Bool
few x = leb (length x.phases) 1 && leb (length x.stages) 1

abbrev unopened : Local → Bool
unopened x = cond (empty x.phases) (allowed (local (Asked ∷ []) (x.outs ++ (MONITOR ∷ [])) x.stages x.backs)) true

pub few-of : (x : Local) → Allowed x → few x ≡ true
few-of x h = by_rows few refl x h

-- what is somewhere belongs to one request
abbrev owned : Local → Bool
owned x = not (leb 1 (length x.outs + length x.stages + length x.backs)) || eqb (length x.phases) 1

pub owned-of : (x : Local) → 1 ≤ length x.outs + length x.stages + length x.backs → Allowed x → length x.phases ≡ 1
owned-of x l h = eqb-true (length x.phases) 1 (rw (le-leb 1 (length x.outs + length x.stages + length x.backs) l) at (by_rows owned refl x h))

abbrev pub live-phase : Phase → List Phase
live-phase p = only_if (is_live p) p

-- where nothing is under way, the monitor stands exactly for a live request
abbrev calm : Local → Bool
calm x = not (empty x.outs && empty x.backs) || eqb (length x.stages) (length (flat_map live-phase x.phases))

pub calm_of : (p : List Phase) (m : List Stage) → Allowed (local p [] m []) → length m ≡ length (flat_map live-phase p)
calm_of p m h = eqb-true (length m) (length (flat_map live-phase p)) (by_rows calm refl (local p [] m []) h)

pub open_stays : (o : List Sort) (m : List Stage) (b : List Sort) → Allowed (local [] o m b) → Allowed (local (Asked ∷ []) (o ++ (MONITOR ∷ [])) m b)
unfolding Allowed
open_stays o m b h = by_rows unopened refl (local [] o m b) h

-- a place that a hear frees: nothing more is out, and no monitor stands
abbrev freeing : Bool → Local → List Phase → List Sort → Bool
freeing free x [] bs = true
freeing free x (p ∷ ps) [] = true
freeing free x (p ∷ ps) (k ∷ b) = not (empty (heard free p k).left) || (empty x.outs && empty x.stages)

freeing-pass : (free : Bool) (x : Local) → Allowed x → freeing free x x.phases x.backs ≡ true
freeing-pass true x h = by_rows (λ y. freeing true y y.phases y.backs) refl x h
freeing-pass false x h = by_rows (λ y. freeing false y y.phases y.backs) refl x h

empty-is : {A : Type 0} (xs : List A) → empty xs ≡ true → xs ≡ []
empty-is [] e = refl
empty-is (x ∷ xs) e = absurd (false≢true e)

pub hear-quiet : (free : Bool) (p : Phase) (k : Sort) → (heard free p k).left ≡ [] → (o : List Sort) (m : List Stage) (b : List Sort)
    → Allowed (local (p ∷ []) o m (k ∷ b)) → (o ≡ []) × (m ≡ [])
hear-quiet free p k n o m b h =
    let f : (empty o && empty m) ≡ true = rw n at (freeing-pass free (local (p ∷ []) o m (k ∷ b)) h) in
    let q = and_parts (empty o) (empty m) f in
    (empty-is o q.0, empty-is m q.1)

-- a key that no request has: no message and no monitor has it
abbrev unowned : Local → Bool
unowned x = not (empty x.phases) || (empty x.outs && empty x.stages && empty x.backs)

pub unowned-of : (o : List Sort) (m : List Stage) (b : List Sort) → Allowed (local [] o m b) → (o ≡ []) × (m ≡ []) × (b ≡ [])
unowned-of o m b h =
    let p = and_parts (empty o && empty m) (empty b) (by_rows unowned refl (local [] o m b) h) in
    let q = and_parts (empty o) (empty m) p.0 in
    (empty-is o q.0, empty-is m q.1, empty-is b p.1)

pub nothing-allowed : Allowed (local [] [] [] [])
unfolding Allowed
nothing-allowed = refl
