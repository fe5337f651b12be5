-- What a closure tells of an item.
use Rattle.std.specs.Prelude.{◌≡◌, List}
use Rattle.std.specs.Borrow.{Bor, MutBor}
use Rattle.std.specs.Fn.{Shared}
use Rattle.source.specs.declared.told.Told.{Told}

module _ {L F T : Type 0} (g : Shared F (MutBor L × (Bor T × Unit {0})) (Unit {0} × (MutBor L × Unit {0}))) (f : F) (after : L → List Told → L) where
  -- it tells what p gives, after what was told
  abbrev pub Tells : (T → List Told) → Type 0
  Tells p = (told new : MutBor L) (x : Bor T) → g.post f (told, (x, tt)) (tt, (new, tt)) → new.now ≡ after told.now (p x.now)
