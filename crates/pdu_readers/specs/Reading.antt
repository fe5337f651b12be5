-- What a reader computes.
use Rattle.std.specs.Prelude.{◌≡◌}
use Rattle.std.specs.Fn.{Shared, AnyResult}

-- at each source the reader f answers what p does
abbrev pub Computes : {F S R : Type 0} → Shared F (S × Unit {0}) R → F → (S → R) → Type 0
Computes {F} {S} {R} g f p = (s : S) → AnyResult g f (s, tt) (λ r. r ≡ p s)
