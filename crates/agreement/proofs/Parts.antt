-- The rows of all requests at once: a step about one key.
use Rattle.std.proofs.Common.{◌≡◌, Bool, true, false, List, [], ◌++◌, sym, refl, ◌∙◌, subst, append-nil}
use Rattle.std.specs.List.{flat_map}
use Rattle.std.proofs.lemmas.List.Concat.{flat_map-append}
use Rattle.agreement.specs.Key.{Key, same}
use Rattle.agreement.specs.State.{State, phase_at, stage_at, sort_at}
use Rattle.agreement.proofs.Local.{Local, local, Allowed}
use Rattle.agreement.proofs.Keys.{same-sound}

abbrev pub local-of : State → Key → Local
local-of s k = local (flat_map (phase_at k) s.table) (flat_map (sort_at k) s.out) (flat_map (stage_at k) s.monitors) (flat_map (sort_at k) s.back)

abbrev pub Rows : State → Type 0
Rows s = (k : Key) → Allowed (local-of s k)

-- two lists give the same at every key but k₀
abbrev pub Apart : {A B : Type 0} → (Key → A → List B) → Key → List A → List A → Type 0
Apart f k₀ xs ys = (k : Key) → same k₀ k ≡ false → flat_map (f k) xs ≡ flat_map (f k) ys

-- a step about k₀: apart from it all is as before, and there the row is allowed
pub record Step-at (k₀ : Key) (s t : State) : Type 0 where
  pub table : Apart phase_at k₀ s.table t.table
  pub out : Apart sort_at k₀ s.out t.out
  pub monitors : Apart stage_at k₀ s.monitors t.monitors
  pub back : Apart sort_at k₀ s.back t.back
  pub here : Allowed (local-of s k₀) → Allowed (local-of t k₀)

pub rows_step : (k₀ : Key) (s t : State) → Step-at k₀ s t → Rows s → Rows t
rows_step k₀ s t c h k = go (same k₀ k) refl
  where
    go : (b : Bool) → same k₀ k ≡ b → Allowed (local-of t k)
    go true e = subst (λ z. Allowed (local-of t z)) (same-sound k₀ k e) (c.here (h k₀))
    go false e =
        subst Allowed
        (λ i. local (c.table k e i) (c.out k e i) (c.monitors k e i) (c.back k e i))
        (h k)

-- the parts of such a step
module _ {A B : Type 0} (f : Key → A → List B) (k₀ : Key) where
  -- what gives something at k₀ alone
  abbrev pub Of : List A → Type 0
  Of xs = (k : Key) → same k₀ k ≡ false → flat_map (f k) xs ≡ []

  pub apart_none : (xs : List A) → Apart f k₀ xs xs
  apart_none xs k e = refl

  pub apart-push : (xs new : List A) → Of new → Apart f k₀ xs (xs ++ new)
  apart-push xs new o k e = rw (flat_map-append, o k e, append-nil)

  pub apart-pop : (old xs : List A) → Of old → Apart f k₀ (old ++ xs) xs
  apart-pop old xs o k e = rw (flat_map-append, o k e)

  pub apart-put : (pre old new post : List A) → Of old → Of new → Apart f k₀ (pre ++ (old ++ post)) (pre ++ (new ++ post))
  apart-put pre old new post o o' k e =
      let q : flat_map (f k) old ≡ flat_map (f k) new = o k e ∙ sym (o' k e) in
      simp (flat_map-append, q)
