-- What one request, its messages in the two links and its monitor can be together: a table of 35 rows, and the
-- steps that stay in it, each by one test that antt computes over the rows.
use Rattle.std.proofs.Common.{◌≡◌, ℕ, zero, suc, Bool, true, false, ◌&&◌, eqb, ◌⊎◌, List, [], ◌∷◌, ◌++◌, get_or, sym, refl, ap, ◌∙◌, subst, ap₂, inl, inr}
use Rattle.std.specs.List.{list_all, list_any}
use Rattle.std.proofs.lemmas.Bool.{eqb-true, false≢true, and_parts, or_cases}
use Rattle.agreement.proofs.Codes.{phase_code, stage_code, sort_code, phase_test, stage_test, sort_test}
use Rattle.agreement.specs.Records.{Sort, MONITOR, SUSPEND, RESUME, SETUP, CLOSE, YES, NO, FREE, BUSY-AGAIN, CONNECTED, FAILED, LET-GO}
use Rattle.requests.specs.declared.records.Phase.{Phase}
use Rattle.requests.specs.declared.records.Phase.TheVariants.{Asked, Invoked, Recalled, Parked, SettingUp, Closing}
use Rattle.terminating.specs.declared.office.Stage.{Stage}
use Rattle.terminating.specs.declared.office.Stage.TheVariants.{Waiting, Offered, Suspended, Ringing}

-- a test by numbers, with the way back
by_code : {A : Type 0} (code : A → ℕ) (back : ℕ → A) → ((x : A) → back (code x) ≡ x) → (x y : A) → eqb (code x) (code y) ≡ true → x ≡ y
by_code code back e x y t = sym (e x) ∙ ap back (eqb-true (code x) (code y) t) ∙ e y

abbrev pub phases : List Phase
phases = Asked ∷ Invoked ∷ Recalled ∷ Parked ∷ SettingUp ∷ Closing ∷ []

abbrev pub sorts : List Sort
sorts = MONITOR ∷ MONITOR ∷ SUSPEND ∷ RESUME ∷ SETUP ∷ CLOSE ∷ CLOSE ∷ CLOSE ∷ YES ∷ NO ∷ FREE ∷ BUSY-AGAIN ∷ CONNECTED ∷ FAILED ∷ LET-GO ∷ []

phase-back : (p : Phase) → get_or phases (phase_code p) Asked ≡ p
phase-back = elim [ Asked ↦ refl | Invoked ↦ refl | Recalled ↦ refl | Parked ↦ refl | SettingUp ↦ refl | Closing ↦ refl ]

stage-back : (p : Stage) → get_or (Waiting ∷ Offered ∷ Suspended ∷ Ringing ∷ []) (stage_code p) Waiting ≡ p
stage-back = elim [ Waiting ↦ refl | Offered ↦ refl | Suspended ↦ refl | Ringing ↦ refl ]

sort-back : (p : Sort) → get_or sorts (sort_code p) MONITOR ≡ p
sort-back = elim [ MONITOR ↦ refl | SUSPEND ↦ refl | RESUME ↦ refl | SETUP ↦ refl | CLOSE ↦ refl | YES ↦ refl | NO ↦ refl | FREE ↦ refl | BUSY-AGAIN ↦ refl | CONNECTED ↦ refl | FAILED ↦ refl | LET-GO ↦ refl ]

pub phase-sound : (p q : Phase) → phase_test p q ≡ true → p ≡ q
phase-sound = by_code phase_code (λ n. get_or phases n Asked) phase-back

pub stage-sound : (p q : Stage) → stage_test p q ≡ true → p ≡ q
stage-sound = by_code stage_code (λ n. get_or (Waiting ∷ Offered ∷ Suspended ∷ Ringing ∷ []) n Waiting) stage-back

pub sort-sound : (p q : Sort) → sort_test p q ≡ true → p ≡ q
sort-sound = by_code sort_code (λ n. get_or sorts n MONITOR) sort-back

abbrev pub list-test : {A : Type 0} → (A → A → Bool) → List A → List A → Bool
list-test t [] [] = true
list-test t [] (y ∷ ys) = false
list-test t (x ∷ xs) [] = false
list-test t (x ∷ xs) (y ∷ ys) = t x y && list-test t xs ys

list-sound : {A : Type 0} (t : A → A → Bool) → ((x y : A) → t x y ≡ true → x ≡ y) → (xs ys : List A) → list-test t xs ys ≡ true → xs ≡ ys
list-sound t s [] [] e = refl
list-sound t s [] (y ∷ ys) e = absurd (false≢true e)
list-sound t s (x ∷ xs) [] e = absurd (false≢true e)
list-sound t s (x ∷ xs) (y ∷ ys) e =
    let p = and_parts (t x y) (list-test t xs ys) e in
    ap₂ (λ a b. a ∷ b) (s x y p.0) (list-sound t s xs ys p.1)

-- what stands of one request: its phase in the originating table, its messages out, its monitor's stage and its messages back
pub record Local : Type 0 where
  pub phases : List Phase
  pub outs : List Sort
  pub stages : List Stage
  pub backs : List Sort

abbrev pub local : List Phase → List Sort → List Stage → List Sort → Local
local p o m b = record { phases = p; outs = o; stages = m; backs = b }

abbrev local-test : Local → Local → Bool
local-test x y =
    list-test phase_test x.phases y.phases
    && list-test sort_test x.outs y.outs
    && list-test stage_test x.stages y.stages
    && list-test sort_test x.backs y.backs

local-sound : (x y : Local) → local-test x y ≡ true → x ≡ y
local-sound x y e =
    let a = list-test phase_test x.phases y.phases in
    let b = list-test sort_test x.outs y.outs in
    let c = list-test stage_test x.stages y.stages in
    let d = list-test sort_test x.backs y.backs in
    let p = and_parts (a && b && c) d e in
    let q = and_parts (a && b) c p.0 in
    let r = and_parts a b q.0 in
    λ i. record {
      phases = list-sound phase_test phase-sound x.phases y.phases r.0 i;
      outs = list-sound sort_test sort-sound x.outs y.outs r.1 i;
      stages = list-sound stage_test stage-sound x.stages y.stages q.1 i;
      backs = list-sound sort_test sort-sound x.backs y.backs p.1 i;
    }

-- the channel parts of a request that is Asked, Invoked, Recalled or Parked
abbrev asked : List (List Sort × List Stage × List Sort)
asked =
    ([], Waiting ∷ [], YES ∷ []) ∷ ([], [], NO ∷ []) ∷ ([], Offered ∷ [], YES ∷ FREE ∷ []) ∷ (MONITOR ∷ [], [], []) ∷ []

abbrev invoked : List (List Sort × List Stage × List Sort)
invoked =
    ([], Waiting ∷ [], []) ∷ ([], Offered ∷ [], FREE ∷ []) ∷ (RESUME ∷ [], Suspended ∷ [], []) ∷ (SUSPEND ∷ RESUME ∷ [], Offered ∷ [], []) ∷ []

abbrev recalled : List (List Sort × List Stage × List Sort)
recalled = ([], Offered ∷ [], []) ∷ []

abbrev parked : List (List Sort × List Stage × List Sort)
parked = ([], Suspended ∷ [], []) ∷ (SUSPEND ∷ [], Offered ∷ [], []) ∷ []

abbrev setting_up : List (List Sort × List Stage × List Sort)
setting_up =
    ([], Ringing ∷ [], []) ∷ ([], [], CONNECTED ∷ []) ∷ ([], Waiting ∷ [], BUSY-AGAIN ∷ []) ∷ ([], [], FAILED ∷ [])
    ∷ ([], Offered ∷ [], BUSY-AGAIN ∷ FREE ∷ []) ∷ (SETUP ∷ [], Offered ∷ [], []) ∷ []

abbrev at-phase : Phase → List (List Sort × List Stage × List Sort) → List Local → List Local
at-phase p [] more = more
at-phase p (c ∷ cs) more = local (p ∷ []) c.0 c.1 c.2 ∷ at-phase p cs more

-- a request that has ended, its CLOSE behind what went out before
abbrev closing : List (List Sort × List Stage × List Sort) → List Local → List Local
closing [] more = more
closing (c ∷ cs) more = local (Closing ∷ []) (c.0 ++ (CLOSE ∷ [])) c.1 c.2 ∷ closing cs more

abbrev letting-go : List (List Sort) → List Local → List Local
letting-go [] more = more
letting-go (b ∷ bs) more = local (Closing ∷ []) [] [] (b ++ (LET-GO ∷ [])) ∷ letting-go bs more

abbrev pub rows : List Local
rows =
    local [] [] [] []
    ∷ at-phase Asked asked
    (at-phase Invoked invoked
    (at-phase Recalled recalled
    (at-phase Parked parked
    (at-phase SettingUp setting_up
    (closing asked
    (closing invoked
    (closing recalled
    (closing parked
    (closing (([], [], []) ∷ [])
    (letting-go ([] ∷ (YES ∷ []) ∷ (NO ∷ []) ∷ (FREE ∷ []) ∷ (YES ∷ FREE ∷ []) ∷ []) []))))))))))

abbrev pub allowed : Local → Bool
allowed x = list_any (local-test x) rows

unfoldable pub Allowed : Local → Type 0
Allowed x = allowed x ≡ true

every-at : (f : Local → Bool) (ys : List Local) → list_all f ys ≡ true → (x : Local) → list_any (local-test x) ys ≡ true → f x ≡ true
every-at f [] e x m = absurd (false≢true m)
every-at f (y ∷ ys) e x m = step (or_cases (local-test x y) (list_any (local-test x) ys) m) (λ k. every-at f ys p.1 x k)
  where
    p : (f y ≡ true) × (list_all f ys ≡ true)
    p = and_parts (f y) (list_all f ys) e

    step : (local-test x y ≡ true) ⊎ (list_any (local-test x) ys ≡ true) → (list_any (local-test x) ys ≡ true → f x ≡ true) → f x ≡ true
    step (inl s) k = subst (λ z. f z ≡ true) (sym (local-sound x y s)) p.0
    step (inr s) k = k s

-- a test that every row passes is passed by whatever is allowed
pub by_rows : (f : Local → Bool) → list_all f rows ≡ true → (x : Local) → Allowed x → f x ≡ true
unfolding Allowed
by_rows f e x m = every-at f rows e x m

-- a test that all phases and sorts pass
all-at : {A : Type 0} (f : A → Bool) (d : A) (xs : List A) → f d ≡ true → list_all f xs ≡ true → (n : ℕ) → f (get_or xs n d) ≡ true
all-at f d [] e h n = e
all-at f d (x ∷ xs) e h zero = (and_parts (f x) (list_all f xs) h).0
all-at f d (x ∷ xs) e h (suc n) = all-at f d xs e (and_parts (f x) (list_all f xs) h).1 n

pub by-phases : (f : Phase → Bool) → list_all f phases ≡ true → (p : Phase) → f p ≡ true
by-phases f h p = subst (λ q. f q ≡ true) (phase-back p) (all-at f Asked phases (and_parts (f Asked) _ h).0 h (phase_code p))

pub by-sorts : (f : Sort → Bool) → list_all f sorts ≡ true → (k : Sort) → f k ≡ true
by-sorts f h k = subst (λ q. f q ≡ true) (sort-back k) (all-at f MONITOR sorts (and_parts (f MONITOR) _ h).0 h (sort_code k))

-- and both together
pub by_both : (f : Phase → Sort → Bool) → list_all (λ p. list_all (f p) sorts) phases ≡ true → (p : Phase) (k : Sort) → f p k ≡ true
by_both f h p k = by-sorts (f p) (by-phases (λ q. list_all (f q) sorts) h p) k
