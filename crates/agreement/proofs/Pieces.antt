-- How `flat_map` changes where a list is added to, taken from, or changed at one place.
use Rattle.std.proofs.Common.{◌≡◌, ◌≤◌, List, [], ◌∷◌, ◌++◌, length, sym, refl, ap, ◌∙◌, ap₂, append-nil, arith, length-append}
use Rattle.std.proofs.lemmas.List.Concat.{flat_map-append}
use Rattle.std.specs.List.{flat_map}

pub flat_map-push : {A B : Type 0} (f : A → List B) (xs : List A) (x : A) → flat_map f (xs ++ (x ∷ [])) ≡ flat_map f xs ++ f x
flat_map-push f xs x = flat_map-append f xs (x ∷ []) ∙ ap (λ r. flat_map f xs ++ r) (append-nil (f x))

-- a list with others before it, or behind it
pub flat_map-front : {A B : Type 0} (f : A → List B) {xs : List A} (old ys : List A) {bs : List B} → xs ≡ old ++ ys → flat_map f old ≡ bs → flat_map f xs ≡ bs ++ flat_map f ys
flat_map-front f old ys e d = rw (e, flat_map-append, d)

pub flat_map-behind : {A B : Type 0} (f : A → List B) {xs : List A} (ys new : List A) {bs : List B} → xs ≡ ys ++ new → flat_map f new ≡ bs → flat_map f xs ≡ flat_map f ys ++ bs
flat_map-behind f ys new e d = rw (e, flat_map-append, d)

-- at one place
pub flat_map-at : {A B : Type 0} (f : A → List B) (pre : List A) (x : A) (post : List A) → flat_map f (pre ++ (x ∷ post)) ≡ flat_map f pre ++ (f x ++ flat_map f post)
flat_map-at f pre x post = flat_map-append f pre (x ∷ post)

pub flat_map-swap : {A B : Type 0} (f : A → List B) (pre : List A) (x y : A) (post : List A) → f x ≡ f y → flat_map f (pre ++ (x ∷ post)) ≡ flat_map f (pre ++ (y ∷ post))
flat_map-swap f pre x y post e = flat_map-at f pre x post ∙ ap (λ r. flat_map f pre ++ (r ++ flat_map f post)) e ∙ sym (flat_map-at f pre y post)

pub flat_map-cut : {A B : Type 0} (f : A → List B) (pre : List A) (x : A) (post : List A) → f x ≡ [] → flat_map f (pre ++ (x ∷ post)) ≡ flat_map f (pre ++ post)
flat_map-cut f pre x post e = flat_map-at f pre x post ∙ ap (λ r. flat_map f pre ++ (r ++ flat_map f post)) e ∙ sym (flat_map-append f pre post)

-- where a list has one member at most, the one that is seen is all
pub none_of : {B : Type 0} (b : List B) → length b ≤ 0 → b ≡ []
none_of [] h = refl
none_of (x ∷ b) h = absurd (omega arith)

pub record Alone {B : Type 0} (a b : List B) : Type 0 where
  pub before : a ≡ []
  pub after : b ≡ []

pub alone : {B : Type 0} (a : List B) (p : B) (b : List B) → length (a ++ (p ∷ b)) ≤ 1 → Alone a b
alone a p b h =
    let l = length-append a (p ∷ b) in
    record { before = none_of a (omega arith); after = none_of b (omega arith) }

pub record Only {A B : Type 0} (f : A → List B) (pre : List A) (x : A) (post : List A) : Type 0 where
  pub pre-none : flat_map f pre ≡ []
  pub post-none : flat_map f post ≡ []

pub only : {A B : Type 0} (f : A → List B) (pre : List A) (x : A) (post : List A) (p : B) → f x ≡ p ∷ [] → length (flat_map f (pre ++ (x ∷ post))) ≤ 1 → Only f pre x post
only f pre x post p e h =
    let l : length (flat_map f pre ++ (p ∷ flat_map f post)) ≤ 1 = rw (flat_map-at f pre x post, e) at h in
    let s = alone (flat_map f pre) p (flat_map f post) l in
    record { pre-none = s.before; post-none = s.after }

-- what gives nothing, where all that gives something to g gives something to f
pub flat_map_none : {A B C : Type 0} (f : A → List B) (g : A → List C) → ((x : A) → f x ≡ [] → g x ≡ []) → (xs : List A) → flat_map f xs ≡ [] → flat_map g xs ≡ []
flat_map_none f g h [] e = refl
flat_map_none f g h (x ∷ xs) e =
    let l = ap length e in
    let m = length-append (f x) (flat_map f xs) in
    ap₂ (λ a b. a ++ b) (h x (none_of (f x) (omega arith))) (flat_map_none f g h xs (none_of (flat_map f xs) (omega arith)))

pub flat_map_ext : {A B : Type 0} (f g : A → List B) → ((x : A) → f x ≡ g x) → (xs : List A) → flat_map f xs ≡ flat_map g xs
flat_map_ext f g h [] = refl
flat_map_ext f g h (x ∷ xs) = ap₂ (λ a b. a ++ b) (h x) (flat_map_ext f g h xs)

pub flat_map-put : {A B : Type 0} (f : A → List B) (pre old post : List A) → flat_map f (pre ++ (old ++ post)) ≡ flat_map f pre ++ (flat_map f old ++ flat_map f post)
flat_map-put f pre old post = simp flat_map-append

-- a place of which all that is given comes: nothing from before it, nothing from after
pub sole : {A B : Type 0} (f : A → List B) (pre : List A) (x : A) (post new : List A) (p : B) → f x ≡ p ∷ [] → length (flat_map f (pre ++ (x ∷ post))) ≤ 1
    → (flat_map f (pre ++ (x ∷ post)) ≡ p ∷ []) × (flat_map f (pre ++ (new ++ post)) ≡ flat_map f new)
sole f pre x post new p e h = (grind (arith, flat_map-append, length-append, none_of), grind (arith, flat_map-append, length-append, none_of, append-nil))

pub append-none : {B : Type 0} (a b : List B) → a ++ b ≡ [] → (a ≡ []) × (b ≡ [])
append-none a b e =
    let l = ap length e in
    let m = length-append a b in
    (none_of a (omega arith), none_of b (omega arith))

pub not-cons : {B : Type 0} (x : B) (b : List B) → x ∷ b ≡ [] → ⊥
not-cons x b e = let l = ap length e in omega arith

pub flat_map-flat_map : {A B C : Type 0} (f : A → List B) (g : B → List C) (xs : List A) → flat_map g (flat_map f xs) ≡ flat_map (λ x. flat_map g (f x)) xs
flat_map-flat_map f g [] = refl
flat_map-flat_map f g (x ∷ xs) = flat_map-append g (f x) (flat_map f xs) ∙ ap (λ r. flat_map g (f x) ++ r) (flat_map-flat_map f g xs)

pub flat_map-length : {A B C : Type 0} (f : A → List B) (g : A → List C) → ((x : A) → length (f x) ≡ length (g x)) → (xs : List A) → length (flat_map f xs) ≡ length (flat_map g xs)
flat_map-length f g h [] = refl
flat_map-length f g h (x ∷ xs) =
    let a = length-append (f x) (flat_map f xs) in
    let b = length-append (g x) (flat_map g xs) in
    let c = h x in
    let d = flat_map-length f g h xs in
    omega arith
