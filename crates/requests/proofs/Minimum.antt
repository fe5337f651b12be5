-- The item of smallest key is the fold of the smaller of two.
use Rattle.std.proofs.Common.{◌≡◌, ℕ, List, [], ◌∷◌, map, fold, None, Some, Option, nat_cmp, sym, refl, ap, ◌∙◌, subst}
use Rattle.std.specs.Borrow.{Bor}
use Rattle.std.specs.Fn.{Mut, CalledAt}
use Rattle.std.specs.Iterator.{Drains, DrainsIf, KeyTurn, PicksMinByKey}
use Rattle.std.specs.List.{FoldsTo, reduce}
use Rattle.std.specs.Option.{option_map}
use Rattle.std.specs.declared.cmp.Ordering.{Ordering}
use Rattle.std.specs.declared.cmp.Ordering.TheVariants.{Less, Equal, Greater}
use Rattle.std.specs.Ordering.{min_by_ordering}
use Rattle.std.proofs.lemmas.Iterator.{YieldsList, items_from_drains}

along : {X Y : Type 0} (h : X → Y) (o : Ordering) (x y : X) → min_by_ordering o (h x) (h y) ≡ h (min_by_ordering o x y)
along h Less x y = refl
along h Equal x y = refl
along h Greater x y = refl

module _ {A B F : Type 0} (v : A → B) (key : B → ℕ) (g : Mut F (Bor A × Unit {0}) ℕ) (f : F) where
  abbrev smaller : B → B → B
  smaller a b = min_by_ordering (nat_cmp (key a) (key b)) a b

  abbrev Computes : Type 0
  Computes = (x : A) (k : ℕ) (f' : F) → CalledAt g f x k f' → (f' ≡ f) × (k ≡ key (v x))

  abbrev Turn : (F × ℕ) × A → A → (F × ℕ) × A → Type 0
  Turn = KeyTurn min_by_ordering min_by_ordering g nat_cmp

  folded : Computes → (xs : List A) (x : A) (k : ℕ) (f' : F) (q : F × ℕ) (y : A) → f' ≡ f → k ≡ key (v x) → FoldsTo Turn ((f', k), x) xs (q, y) → v y ≡ fold smaller (v x) (map v xs)
  folded computes [] x k f' q y same is e = sym (ap (λ (p : (F × ℕ) × A). v p.1) e)
  folded computes (z ∷ xs) x k f' q y same is e =
      let j = e.0 in
      let turn = e.1 in
      let called : CalledAt g f z turn.0 j.0.0 = subst (λ h. CalledAt g h z turn.0 j.0.0) same turn.2 in
      let said = computes z turn.0 j.0.0 called in
      let o : turn.1 ≡ nat_cmp (key (v x)) (key (v z)) = sym turn.3 ∙ (ap (λ a. nat_cmp a turn.0) is ∙ ap (nat_cmp (key (v x))) said.1) in
      let least : v j.1 ≡ smaller (v x) (v z) = ap v turn.5 ∙ (sym (along v turn.1 x z) ∙ ap (λ w. min_by_ordering w (v x) (v z)) o) in
      let known : j.0.1 ≡ key (v j.1) =
      turn.4 ∙ (ap (λ a. min_by_ordering turn.1 a turn.0) is ∙ (ap (min_by_ordering turn.1 (key (v x))) said.1 ∙ (along (λ a. key (v a)) turn.1 x z ∙ ap (λ a. key (v a)) (sym turn.5)))) in
      folded computes xs j.1 j.0.1 j.0.0 q y said.0 known e.2 ∙ ap (λ b. fold smaller b (map v xs)) least

  module _ {S : Type 0} (steps : S → Option A → S → Type 0) (s : S) where
    drained : (xs : List A) → Drains steps s xs → DrainsIf steps (Unit {0}) s xs
    drained xs h = (h.1.0, h.1.1, λ _. (h.0, h.1.2))

    pub minimum : (r : Option A) → PicksMinByKey steps g nat_cmp s f r → Computes → (all : List B) → YieldsList steps v s all → option_map v r ≡ reduce smaller all
    minimum None h computes all yields = ap (reduce smaller) (items_from_drains [] (drained [] h) yields)
    minimum (Some y) h computes all yields =
        let said = computes h.0 h.2 h.3 h.6 in
        ap Some (folded computes h.1 h.0 h.2 h.3 h.4 y said.0 said.1 h.7) ∙ ap (reduce smaller) (items_from_drains (h.0 ∷ h.1) (drained (h.0 ∷ h.1) h.5) yields)
