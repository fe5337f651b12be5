-- The steps of reading several numbers.
use Rattle.std.proofs.Common.{◌≡◌, ℕ, suc, ◌+◌, ◌-◌, ◌<◌, List, [], ◌∷◌, ◌++◌, Some, None, Option, sym, refl, ap, append_assoc, arith}
use Rattle.std.specs.Option.{option_map}
use Rattle.text.specs.Numbers.{number_of, linked, numbers_of}

-- what was read before the rest
abbrev pub after : {X : Type 0} → List X → Option (List X) → Option (List X)
after xs o = option_map (λ ys. xs ++ ys) o

pub after_push : {X : Type 0} (xs : List X) (x : X) (o : Option (List X)) → after xs (linked (Some x) o) ≡ after (xs ++ x ∷ []) o
after_push xs x None = refl
after_push xs x (Some ys) = ap Some (sym (append_assoc xs (x ∷ []) ys))

-- one number more is wanted
one-more : (n i : ℕ) → i < n → n - i ≡ suc (n - (i + 1))
one-more n i more = omega arith

pub numbers_more : (n i : ℕ) (w : List ℕ) (all ws : List (List ℕ)) → i < n → all ≡ w ∷ ws → numbers_of (n - i) all ≡ linked (number_of w) (numbers_of (n - (i + 1)) ws)
numbers_more n i w all ws more is = rw (is, one-more n i more) refl
