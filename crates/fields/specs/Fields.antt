-- Numbers of a stated width.
use Rattle.std.specs.Prelude.{ℕ, ◌%◌, ◌^◌, cond, Ok, Err, Result, nat_lt}
use Rattle.std.proofs.Common.{mod-lt, pow_pos}
use Rattle.fields.specs.declared.field.Field.{Field}
use Rattle.fields.specs.declared.kinds.Kind.{Ghosts}
use Rattle.fields.specs.declared.refusal.Refusal.{Refusal}
use Rattle.fields.specs.declared.refusal.Refusal.TheVariants.{OutsideField}

-- the field of this kind with these bits, those above its width left out
abbrev pub field_of : {K : Type 0} (kind : Ghosts K) → ℕ → Field K kind
field_of kind n = record { bits = n % 2 ^ kind.WIDTH; kind = record {}; fits = mod-lt n (pow_pos kind.WIDTH) }

-- the value of a number within its width, or a refusal
abbrev pub checked : {X : Type 0} → ℕ → (ℕ → X) → ℕ → Result X Refusal
checked width of n = cond (nat_lt n (2 ^ width)) (Ok (of n)) (Err OutsideField)
