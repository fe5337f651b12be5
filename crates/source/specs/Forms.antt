-- A form: the elements that a value is told by, how it is heard from any source, and that the two are each other's inverse.
use Rattle.std.specs.Prelude.{◌≡◌, ℕ, Bool, true, false, List, [], ◌∷◌, ◌++◌, Some, None, Ok, Err, Option, Result, refl}
use Rattle.std.proofs.Common.{sym, ap, ◌∙◌, subst, arith}
use Rattle.bits.specs.declared.fault.ElementName.{ElementName}
use Rattle.element.specs.Codings.{Coding}
use Rattle.source.specs.Hearing.{Hearing, and_then, both, named, listed_or, element_heard}
use Rattle.source.specs.declared.told.Code.{Code}
use Rattle.source.specs.declared.told.Told.{Told}
use Rattle.source.specs.declared.told.Told.TheVariants.{Element, Present}

-- this element begins at s, and t stands after it
abbrev pub Hears : {S F : Type 0} → Hearing S F → S → Told → S → Type 0
Hears h s (Element c) t = h.number s c.element c.width ≡ Ok (c.value, t)
Hears h s (Present b) t = h.present s ≡ Ok (b, t)

-- exactly these elements stand from s to t
abbrev pub Stands : {S F : Type 0} → Hearing S F → S → List Told → S → Type 0
Stands h s [] t = s ≡ t
Stands {S = S} h s (x ∷ xs) t = (u : S) × Hears h s x u × Stands h u xs t

pub record Form (A : Type 0) : Type 1 where
  pub tell : A → List Told
  pub hear : {S F : Type 0} → Hearing S F → S → Result (A × S) F
  pub reads : {S F : Type 0} (h : Hearing S F) (s : S) (a : A) (t : S) → Stands h s (tell a) t → hear h s ≡ Ok (a, t)
  pub wrote : {S F : Type 0} (h : Hearing S F) (s : S) (a : A) (t : S) → hear h s ≡ Ok (a, t) → Stands h s (tell a) t

-- what an and_then that answers has gone through
pub and_then-from : {S F A B : Type 0} (r : Result (A × S) F) (f : A → S → Result B F) (y : B) → and_then r f ≡ Ok y → (p : A × S) × (r ≡ Ok p) × (f p.0 p.1 ≡ Ok y)
and_then-from (Ok p) f y h = (p, refl, h)
and_then-from (Err e) f y h = let z : ◌≡◌ {A = ℕ} 0 1 = cc in absurd (omega arith)

pub ok_same : {A F : Type 0} (x y : A) → ◌≡◌ {A = Result A F} (Ok x) (Ok y) → x ≡ y
ok_same x y h = cc

module _ {S F : Type 0} (h : Hearing S F) where
  pub stands-append : (xs ys : List Told) (s t u : S) → Stands h s xs t → Stands h t ys u → Stands h s (xs ++ ys) u
  stands-append [] ys s t u p q = subst (λ z. Stands h z ys u) (sym p) q
  stands-append (x ∷ xs) ys s t u p q = (p.0, p.1, stands-append xs ys p.0 t u p.2 q)

  pub stands-split : (xs ys : List Told) (s u : S) → Stands h s (xs ++ ys) u → (t : S) × Stands h s xs t × Stands h t ys u
  stands-split [] ys s u p = (s, refl, p)
  stands-split (x ∷ xs) ys s u p =
      let q = stands-split xs ys p.0 u p.2 in
      (q.0, (p.0, p.1, q.1), q.2)

-- one element
module _ {A : Type 0} (e : ElementName) (c : Coding A) where
  abbrev pub code_of : A → Code
  code_of a = record { element = e; width = c.width; value = c.table.code a; fits = c.table.fits a; some = c.some; room = c.room }

  abbrev pub element-tell : A → List Told
  element-tell a = Element (code_of a) ∷ []

  listed_or-from : {S F : Type 0} (f : F) (o : Option A) (s : S) (y : A × S) → listed_or f o s ≡ Ok y → (o ≡ Some y.0) × (s ≡ y.1)
  listed_or-from f None s y h = let z : ◌≡◌ {A = ℕ} 0 1 = cc in absurd (omega arith)
  listed_or-from f (Some a) s y h = let q = ok_same (a, s) y h in (ap (λ z. Some z.0) q, ap (λ z. z.1) q)

  pub element-reads : {S F : Type 0} (h : Hearing S F) (s : S) (a : A) (t : S) → Stands h s (element-tell a) t → element_heard h e c s ≡ Ok (a, t)
  element-reads h s a t p =
      ap (λ r. and_then r (λ v u. listed_or (h.unlisted s e) (c.table.listed v) u)) p.1
      ∙ ap (λ o. listed_or (h.unlisted s e) o p.0) (c.table.back a)
      ∙ ap (λ u. Ok (a, u)) p.2

  pub element-wrote : {S F : Type 0} (h : Hearing S F) (s : S) (a : A) (t : S) → element_heard h e c s ≡ Ok (a, t) → Stands h s (element-tell a) t
  element-wrote h s a t p =
      let i = and_then-from (h.number s e c.width) (λ v u. listed_or (h.unlisted s e) (c.table.listed v) u) (a, t) p in
      let j = listed_or-from (h.unlisted s e) (c.table.listed i.0.0) i.0.1 (a, t) i.2 in
      (i.0.1, i.1 ∙ ap (λ v. Ok (v, i.0.1)) (sym (c.table.forth i.0.0 a j.0)), j.1)

  abbrev pub element : Form A
  element = record { tell = element-tell; hear = λ h. element_heard h e c; reads = element-reads; wrote = element-wrote }

abbrev pub nothing : Form (Unit {0})
nothing = record {
  tell = λ _. [];
  hear = λ h s. Ok (tt, s);
  reads = λ h s a t p. ap (λ u. Ok (tt, u)) p;
  wrote = λ h s a t p. ap (λ q. q.1) (ok_same (tt, s) (a, t) p);
}

-- one after the other
module _ {A B : Type 0} (c : Form A) (d : Form B) where
  abbrev pub then-tell : A × B → List Told
  then-tell p = c.tell p.0 ++ d.tell p.1

  abbrev pub then-hear : {S F : Type 0} → Hearing S F → S → Result ((A × B) × S) F
  then-hear h = both (c.hear h) (d.hear h)

  pub then-reads : {S F : Type 0} (h : Hearing S F) (s : S) (p : A × B) (u : S) → Stands h s (then-tell p) u → then-hear h s ≡ Ok (p, u)
  then-reads h s p u q =
      let k = stands-split h (c.tell p.0) (d.tell p.1) s u q in
      ap (λ r. and_then r (λ a t. and_then (d.hear h t) (λ b u. Ok ((a, b), u)))) (c.reads h s p.0 k.0 k.1)
      ∙ ap (λ r. and_then r (λ b u. Ok ((p.0, b), u))) (d.reads h k.0 p.1 u k.2)

  pub then-wrote : {S F : Type 0} (h : Hearing S F) (s : S) (p : A × B) (u : S) → then-hear h s ≡ Ok (p, u) → Stands h s (then-tell p) u
  then-wrote h s p u q =
      let i = and_then-from (c.hear h s) (λ a t. and_then (d.hear h t) (λ b u. Ok ((a, b), u))) (p, u) q in
      let j = and_then-from (d.hear h i.0.1) (λ b u. Ok ((i.0.0, b), u)) (p, u) i.2 in
      let e = ok_same ((i.0.0, j.0.0), j.0.1) (p, u) j.2 in
      let all = stands-append h (c.tell i.0.0) (d.tell j.0.0) s i.0.1 j.0.1 (c.wrote h s i.0.0 i.0.1 i.1) (d.wrote h i.0.1 j.0.0 j.0.1 j.1) in
      subst (λ z. Stands h s (then-tell z.0) z.1) {x = ((i.0.0, j.0.0), j.0.1)} e all

infixr 40 ◌then◌
abbrev pub ◌then◌ : {A B : Type 0} → Form A → Form B → Form (A × B)
c then d = record { tell = then-tell c d; hear = then-hear c d; reads = then-reads c d; wrote = then-wrote c d }

-- the values of c under the name f
abbrev pub way : {A B : Type 0} → Form A → (A → B) → {S F : Type 0} → Hearing S F → S → Result (B × S) F
way c f h s = named f (c.hear h s)

pub way-reads : {A B : Type 0} (c : Form A) (f : A → B) {S F : Type 0} (h : Hearing S F) (s : S) (a : A) (t : S) → Stands h s (c.tell a) t → way c f h s ≡ Ok (f a, t)
way-reads c f h s a t p = ap (λ r. and_then r (λ a t. Ok (f a, t))) (c.reads h s a t p)

pub way-wrote : {A B : Type 0} (c : Form A) (f : A → B) {S F : Type 0} (h : Hearing S F) (s : S) (b : B) (t : S) → way c f h s ≡ Ok (b, t) → (a : A) × (f a ≡ b) × Stands h s (c.tell a) t
way-wrote c f h s b t p =
    let i = and_then-from (c.hear h s) (λ a t. Ok (f a, t)) (b, t) p in
    let e = ok_same (f i.0.0, i.0.1) (b, t) i.2 in
    (i.0.0, ap (λ z. z.0) e, subst (λ u. Stands h s (c.tell i.0.0) u) (ap (λ z. z.1) e) (c.wrote h s i.0.0 i.0.1 i.1))

-- the same values under other names
module _ {A B : Type 0} (c : Form A) (f : A → B) (g : B → A) (fg : (b : B) → f (g b) ≡ b) (gf : (a : A) → g (f a) ≡ a) where
  abbrev pub like-tell : B → List Told
  like-tell b = c.tell (g b)

  pub like-reads : {S F : Type 0} (h : Hearing S F) (s : S) (b : B) (t : S) → Stands h s (like-tell b) t → way c f h s ≡ Ok (b, t)
  like-reads h s b t p = way-reads c f h s (g b) t p ∙ ap (λ x. Ok (x, t)) (fg b)

  pub like-wrote : {S F : Type 0} (h : Hearing S F) (s : S) (b : B) (t : S) → way c f h s ≡ Ok (b, t) → Stands h s (like-tell b) t
  like-wrote h s b t p =
      let i = way-wrote c f h s b t p in
      subst (λ a. Stands h s (c.tell a) t) (sym (gf i.0) ∙ ap g i.1) i.2

  abbrev pub like : Form B
  like = record { tell = like-tell; hear = way c f; reads = like-reads; wrote = like-wrote }

-- a part that can only be one value, and then what is told
abbrev pub lead : {A B : Type 0} → Form A → (one : A) → ((a : A) → one ≡ a) → Form B → Form B
lead c one only d = like (c then d) (λ p. p.1) (λ b. (one, b)) (λ b. refl) (λ p. ap (λ a. (a, p.1)) (only p.0))

-- an element that may be left out
module _ {A : Type 0} (c : Form A) where
  abbrev pub optional_tell : Option A → List Told
  optional_tell None = Present false ∷ []
  optional_tell (Some a) = Present true ∷ c.tell a

  abbrev pub optional_body : {S F : Type 0} → Hearing S F → Bool → S → Result (Option A × S) F
  optional_body h false s = Ok (None, s)
  optional_body h true s = way c Some h s

  abbrev pub optional_hear : {S F : Type 0} → Hearing S F → S → Result (Option A × S) F
  optional_hear h s = and_then (h.present s) (optional_body h)

  pub optional-reads : {S F : Type 0} (h : Hearing S F) (s : S) (o : Option A) (t : S) → Stands h s (optional_tell o) t → optional_hear h s ≡ Ok (o, t)
  optional-reads h s None t p = ap (λ r. and_then r (optional_body h)) p.1 ∙ ap (λ u. Ok (None, u)) p.2
  optional-reads h s (Some a) t p = ap (λ r. and_then r (optional_body h)) p.1 ∙ way-reads c Some h p.0 a t p.2

  optional_body-wrote : {S F : Type 0} (h : Hearing S F) (s : S) (b : Bool) (u : S) (o : Option A) (t : S) → h.present s ≡ Ok (b, u) → optional_body h b u ≡ Ok (o, t) → Stands h s (optional_tell o) t
  optional_body-wrote h s false u o t p q =
      let e = ok_same (None, u) (o, t) q in
      subst (λ z. Stands h s (optional_tell z.0) z.1) e (u, p, refl)
  optional_body-wrote h s true u o t p q =
      let i = way-wrote c Some h u o t q in
      subst (λ x. Stands h s (optional_tell x) t) i.1 (u, p, i.2)

  pub optional-wrote : {S F : Type 0} (h : Hearing S F) (s : S) (o : Option A) (t : S) → optional_hear h s ≡ Ok (o, t) → Stands h s (optional_tell o) t
  optional-wrote h s o t p =
      let i = and_then-from (h.present s) (optional_body h) (o, t) p in
      optional_body-wrote h s i.0.0 i.0.1 o t i.1 i.2

  abbrev pub optional : Form (Option A)
  optional = record { tell = optional_tell; hear = optional_hear; reads = optional-reads; wrote = optional-wrote }

-- A value whose first part is a key, and what follows goes by the key.
pub record Ways (K B : Type 0) : Type 1 where
  pub tag : B → K
  pub rest : B → List Told
  pub body : {S F : Type 0} → Hearing S F → K → S → Result (B × S) F
  pub reads : {S F : Type 0} (h : Hearing S F) (s : S) (b : B) (t : S) → Stands h s (rest b) t → body h (tag b) s ≡ Ok (b, t)
  pub wrote : {S F : Type 0} (h : Hearing S F) (k : K) (s : S) (b : B) (t : S) → body h k s ≡ Ok (b, t) → (tag b ≡ k) × Stands h s (rest b) t

module _ {K B : Type 0} (c : Form K) (w : Ways K B) where
  abbrev pub keyed-tell : B → List Told
  keyed-tell b = c.tell (w.tag b) ++ w.rest b

  abbrev pub keyed-hear : {S F : Type 0} → Hearing S F → S → Result (B × S) F
  keyed-hear h s = and_then (c.hear h s) (w.body h)

  pub keyed-reads : {S F : Type 0} (h : Hearing S F) (s : S) (b : B) (t : S) → Stands h s (keyed-tell b) t → keyed-hear h s ≡ Ok (b, t)
  keyed-reads h s b t p =
      let k = stands-split h (c.tell (w.tag b)) (w.rest b) s t p in
      ap (λ r. and_then r (w.body h)) (c.reads h s (w.tag b) k.0 k.1) ∙ w.reads h k.0 b t k.2

  pub keyed-wrote : {S F : Type 0} (h : Hearing S F) (s : S) (b : B) (t : S) → keyed-hear h s ≡ Ok (b, t) → Stands h s (keyed-tell b) t
  keyed-wrote h s b t p =
      let i = and_then-from (c.hear h s) (w.body h) (b, t) p in
      let j = w.wrote h i.0.0 i.0.1 b t i.2 in
      stands-append h (c.tell (w.tag b)) (w.rest b) s i.0.1 t (subst (λ k. Stands h s (c.tell k) i.0.1) (sym j.0) (c.wrote h s i.0.0 i.0.1 i.1)) j.1

  abbrev pub keyed : Form B
  keyed = record { tell = keyed-tell; hear = keyed-hear; reads = keyed-reads; wrote = keyed-wrote }

-- one of the ways: what was heard has this key
pub way-keyed : {A B K : Type 0} (c : Form A) (f : A → B) (tag : B → K) (rest : B → List Told) (k : K) → ((a : A) → tag (f a) ≡ k) → ((a : A) → rest (f a) ≡ c.tell a) →
    {S F : Type 0} (h : Hearing S F) (s : S) (b : B) (t : S) → way c f h s ≡ Ok (b, t) → (tag b ≡ k) × Stands h s (rest b) t
way-keyed c f tag rest k tagged told h s b t p =
    let i = way-wrote c f h s b t p in (
      ap tag (sym i.1) ∙ tagged i.0,
      subst (λ x. Stands h s (rest x) t) i.1 (subst (λ xs. Stands h s xs t) (sym (told i.0)) i.2),
    )
