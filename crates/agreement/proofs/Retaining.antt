-- A retained call that runs is to the called party last retained under its call identifier.
use Rattle.std.proofs.Common.{◌≡◌, ℕ, ◌≤◌, Bool, true, false, ◌&&◌, eqb, ltb, ◌⊎◌, List, [], ◌∷◌, ◌++◌, length, sym, refl, ap, ◌∙◌, ap₂, subst₂, inl, inr, ⊎_elim, append-nil, arith}
use Rattle.std.proofs.lemmas.Bool.{and_parts, and_right, ltb-true, lt-ltb, eqb-true}
use Rattle.std.specs.List.{flat_map}
use Rattle.std.proofs.lemmas.List.Concat.{flat_map-append}
use Rattle.agreement.specs.State.{State, only_if, running_at}
use Rattle.agreement.specs.History.{retained, last_retained}
use Rattle.agreement.specs.Shapes.{Retention, keeps, uses, ticks, overwrites, stores}
use Rattle.agreement.specs.Records.{Retained}
use Rattle.agreement.proofs.Pieces.{flat_map-put, flat_map_none, not-cons, append-none, alone, only}

pub data One-of : List ℕ → ℕ → Type 0 where
  gone : {n : ℕ} → One-of [] n
  runs : {n : ℕ} → One-of (n ∷ []) n

abbrev pub Retains : State → Type 0
Retains s = (c d : ℕ) → One-of (flat_map (running_at s.now c d) s.retained) (last_retained c d s.history)

-- what is seen among at most one
one-here : {l : List ℕ} {n : ℕ} (a : List ℕ) (x : ℕ) (b : List ℕ) → One-of l n → l ≡ a ++ (x ∷ b) → x ≡ n
one-here a x b gone e = absurd (not-cons x b (append-none a (x ∷ b) (sym e)).1)
one-here a x b (runs {n}) e =
    let l = ap length e in
    let p = alone a x b (omega arith) in
    let q : n ∷ [] ≡ x ∷ [] = e ∙ ap₂ (λ u v. u ++ (x ∷ v)) p.before p.after in
    cc

one-head : {x n : ℕ} {l : List ℕ} → One-of (x ∷ l) n → (l ≡ []) × (x ≡ n)
one-head runs = (refl, refl)

-- less than that is still at most one
one-cut : (a b d : List ℕ) {n : ℕ} → One-of (a ++ (b ++ d)) n → One-of (a ++ d) n
one-cut [] [] d h = h
one-cut [] (x ∷ b) d h = rw (append-none b d (one-head h).0).1 gone
one-cut (x ∷ a) b d h =
    let p = one-head h in
    let q = append-none a (b ++ d) p.0 in
    rw (q.0, (append-none b d q.1).1, p.1) runs

one-few : {l : List ℕ} {n : ℕ} → One-of l n → length l ≤ 1
one-few gone = omega arith
one-few runs = omega arith

only-some : (b : Bool) (x y : ℕ) → only_if b x ≡ y ∷ [] → b ≡ true
only-some true x y e = refl
only-some false x y e = absurd (not-cons y [] (sym e))

one-fresh : (b : Bool) (x : ℕ) → One-of (only_if b x) x
one-fresh true x = runs
one-fresh false x = gone

one-sub : {A : Type 0} (f g : A → List ℕ) → ((x : A) → (g x ≡ f x) ⊎ (g x ≡ [])) → (xs : List A) {n : ℕ} → One-of (flat_map f xs) n → One-of (flat_map g xs) n
one-sub f g k [] h = h
one-sub f g k (x ∷ xs) {n} h = go (k x) (one-sub f g k xs (one-cut [] (f x) (flat_map f xs) h))
  where
    same : (l : List ℕ) → f x ≡ l → One-of (flat_map g xs) n → One-of (l ++ flat_map g xs) n
    same [] e r = r
    same (y ∷ l) e r =
        let q = one-head (rw e at h) in
        let z = append-none l (flat_map f xs) q.0 in
        rw (z.0, flat_map_none f g (λ w d. ⊎_elim (λ u. u ∙ d) (λ u. u) (k w)) xs z.1, q.1) runs

    go : (g x ≡ f x) ⊎ (g x ≡ []) → One-of (flat_map g xs) n → One-of (g x ++ flat_map g xs) n
    go (inl e) r = rw e (same (f x) refl r)
    go (inr e) r = rw e r

-- later fewer run
later : (now now' c d : ℕ) → now ≤ now' → (e : Retained) → (running_at now' c d e ≡ running_at now c d e) ⊎ (running_at now' c d e ≡ [])
later now now' c d l e = go (ltb now' e.until) refl
  where
    b : Bool
    b = eqb e.caller c && eqb e.call d

    go : (v : Bool) → ltb now' e.until ≡ v → (running_at now' c d e ≡ running_at now c d e) ⊎ (running_at now' c d e ≡ [])
    go true q = let z = ltb-true now' e.until q in inl (rw (q, lt-ltb now e.until (omega arith)))
    go false q = inr (rw (and_right b (ltb now' e.until) q))

-- an entry of another caller or call identifier
elsewhere : (now c d : ℕ) (e : Retained) → (eqb e.caller c && eqb e.call d) ≡ false → running_at now c d e ≡ []
elsewhere now c d e q = rw q

pub retained-last : (s : State) → Retains s → (c d : ℕ) (pre : List Retained) (e : Retained) (post : List Retained) (n : ℕ) → s.retained ≡ pre ++ (e ∷ post) → running_at s.now c d e ≡ n ∷ [] → n ≡ last_retained c d s.history
retained-last s g c d pre e post n was r = one-here (flat_map (running_at s.now c d) pre) n (flat_map (running_at s.now c d) post) (g c d) (rw (was, flat_map-append, r))

-- one entry takes the place of what is at (its caller, its call identifier) alone
replaced : (s t : State) (pre old : List Retained) (e' : Retained) (post : List Retained)
    → s.retained ≡ pre ++ (old ++ post) → t.retained ≡ pre ++ (e' ∷ post) → t.now ≡ s.now → t.history ≡ retained e'.caller e'.called e'.call ∷ s.history
    → ((c d : ℕ) → (eqb e'.caller c && eqb e'.call d) ≡ false → flat_map (running_at s.now c d) old ≡ [])
    → flat_map (running_at s.now e'.caller e'.call) pre ≡ [] → flat_map (running_at s.now e'.caller e'.call) post ≡ []
    → Retains s → Retains t
replaced s t pre old e' post was is now h apart p q g c d = rw (is, now, h) (go (eqb e'.caller c && eqb e'.call d) refl)
  where
    f : Retained → List ℕ
    f = running_at s.now c d

    go : (b : Bool) → (eqb e'.caller c && eqb e'.call d) ≡ b → One-of (flat_map f (pre ++ (e' ∷ post))) (last_retained c d (retained e'.caller e'.called e'.call ∷ s.history))
    go true b =
        let k = and_parts (eqb e'.caller c) (eqb e'.call d) b in
        let u = eqb-true e'.caller c k.0 in
        let v = eqb-true e'.call d k.1 in
        let p' = subst₂ (λ y z. flat_map (running_at s.now y z) pre ≡ []) u v p in
        let q' = subst₂ (λ y z. flat_map (running_at s.now y z) post ≡ []) u v q in
        simp (flat_map-append, p', q', b, append-nil) (one-fresh (ltb s.now e'.until) e'.called)
    go false b = simp (flat_map-append, b) (simp (flat_map-append, apart c d b) at (rw was at (g c d)))

pub retention : (s t : State) → Retention s t → Retains s → Retains t
retention s t (keeps a b l) g c d = rw (a, b, l c d) (g c d)
retention s t (uses pre e post was is n l) g c d =
    let f = running_at s.now c d in
    rw (is, n, l c d, flat_map-append) (one-cut (flat_map f pre) (f e) (flat_map f post) (rw (was, flat_map-append) at (g c d)))
retention s t (ticks a n l) g c d = rw (a, l c d) (one-sub (running_at s.now c d) (running_at t.now c d) (later s.now t.now c d n) s.retained (g c d))
retention s t (overwrites pre e e' post n was is now r h) g c d =
    let f = running_at s.now e'.caller e'.call in
    let o = only f pre e post n r (rw was at (one-few (g e'.caller e'.call))) in
    let b : Bool = eqb e.caller e'.caller && eqb e.call e'.call in
    let k = and_parts (eqb e.caller e'.caller) (eqb e.call e'.call) (and_parts b (ltb s.now e.until) (only-some (b && ltb s.now e.until) e.called n r)).0 in
    let u = eqb-true e.caller e'.caller k.0 in
    let v = eqb-true e.call e'.call k.1 in
    replaced s t pre (e ∷ []) e' post was is now h
    (λ x y a. let z : (eqb e.caller x && eqb e.call y) ≡ false = rw (u, v) a in rw z)
    o.pre-none o.post-none g c d
retention s t (stores pre old e' post was is now free none h) g c d =
    let z = append-none (flat_map (running_at s.now e'.caller e'.call) pre) _ (rw (was, flat_map-put) at none) in
    let w = append-none (flat_map (running_at s.now e'.caller e'.call) old) _ z.1 in
    replaced s t pre old e' post was is now h (λ x y _. free x y) z.0 w.1 g c d
