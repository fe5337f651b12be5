-- A number within its width makes a field, and a field is what its own bits make.
use Rattle.std.proofs.Common.{◌≡◌, ℕ, ◌^◌, ◌<◌, Ok, ap, sym, refl, ◌∙◌, mod-eq_of_lt}
use Rattle.std.proofs.lemmas.Bool.{lt-ltb}
use Rattle.fields.specs.Fields.{field_of, checked}
use Rattle.fields.specs.declared.field.Field.{Field}
use Rattle.fields.specs.declared.kinds.Kind.{Ghosts}
use Rattle.fields.proofs.Same.{same-field}

pub made : {K : Type 0} {kind : Ghosts K} (n : ℕ) → n < 2 ^ kind.WIDTH → Ok (field_of kind n) ≡ checked kind.WIDTH (field_of kind) n
made {kind = kind} n h = rw (lt-ltb n (2 ^ kind.WIDTH) h) refl

pub accepted : {K : Type 0} {kind : Ghosts K} (x : Field K kind) → Ok x ≡ checked kind.WIDTH (field_of kind) x.bits
accepted {kind = kind} x = ap Ok (same-field x (field_of kind x.bits) (sym (mod-eq_of_lt x.fits))) ∙ made x.bits x.fits
