-- What a closure tests, the list with the first that passes changed, and how many of a party's pass.
use Rattle.std.specs.Prelude.{◌≡◌, ℕ, Bool, ◌&&◌, List, slice_set, count_by, ◌==◌}
use Rattle.std.specs.Borrow.{Bor}
use Rattle.std.specs.Fn.{Shared, AnyResult}
use Rattle.std.specs.List.{remove, position_or_len}
use Rattle.fields.specs.Values.{Identity}

-- at each record the closure f answers what p does
abbrev pub Computes : {F X : Type 0} → Shared F (Bor X × Unit {0}) Bool → F → (X → Bool) → Type 0
Computes {F} {X} g f p = (x : Bor X) → AnyResult g f (x, tt) (λ b. b ≡ p x.now)

-- the list with y in the place of the first that passes
abbrev pub put_first : {X : Type 0} → (X → Bool) → X → List X → List X
put_first p y xs = slice_set xs (position_or_len p xs) y

-- the list without the first that passes
abbrev pub drop_first : {X : Type 0} → (X → Bool) → List X → List X
drop_first p xs = remove xs (position_or_len p xs)

-- how many of the party's records pass
unfoldable pub count_of : {X : Type 0} → (X → Identity) → (X → Bool) → Identity → List X → ℕ
count_of owned p party xs = count_by (λ x. ((owned x).bits == party.bits) && p x) xs
