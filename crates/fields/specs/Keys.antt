-- When two keys name one record.
use Rattle.std.specs.Prelude.{Bool, ◌&&◌, ◌==◌}
use Rattle.fields.specs.declared.key.Key.{Key}

abbrev pub same_key : Key → Key → Bool
same_key x y =
    (x.identifier.bits == y.identifier.bits)
    && (x.caller.bits == y.caller.bits && x.called.bits == y.called.bits)
