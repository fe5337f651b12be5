-- Two fields of one kind with the same bits are one.
use Rattle.std.proofs.Common.{◌≡◌, ◌^◌, ◌<◌}
use mathlib.Core.HLevel.{is_prop→PathP}
use native.Mathlib.Bridge.{le_prop}
use Rattle.fields.specs.declared.field.Field.{Field}
use Rattle.fields.specs.declared.kinds.Kind.{Ghosts}

pub same-field : {K : Type 0} {kind : Ghosts K} (x y : Field K kind) → x.bits ≡ y.bits → x ≡ y
same-field {kind = kind} x y e = λ i. record { bits = e i; kind = record {}; fits = is_prop→PathP (λ j. e j < 2 ^ kind.WIDTH) (λ j. le_prop) x.fits y.fits i }
