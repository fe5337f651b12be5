-- Busy marks as they are given.
use Rattle.std.specs.Prelude.{ℕ, Bool, true, false, cond, Ok, Err, Result, ◌==◌}
use Rattle.fields.specs.declared.refusal.Refusal.{Refusal}
use Rattle.fields.specs.declared.refusal.Refusal.TheVariants.{OutsideField}

-- 0 says free and 1 says busy
abbrev pub mark_of : ℕ → Result Bool Refusal
mark_of mark = cond (mark == 0) (Ok false) (cond (mark == 1) (Ok true) (Err OutsideField))
