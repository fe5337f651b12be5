-- What a list of twenty elements holds after more is told.
use Rattle.std.specs.Prelude.{◌-◌, List, ◌++◌, length, take}
use Rattle.source.specs.declared.told.Told.{Told}

-- what was told before, and of the rest as much as there is room for
unfoldable pub with_told : List Told → List Told → List Told
with_told before more = before ++ take (20 - length before) more
