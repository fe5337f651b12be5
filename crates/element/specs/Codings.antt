-- How the values of an element are coded.
use Rattle.std.specs.Prelude.{◌≡◌, ℕ, ◌^◌, ◌<◌, ◌≤◌, Some, Option}
use Rattle.bits.specs.declared.fault.ElementName.{ElementName}
use Rattle.bits.specs.declared.fault.Fault.{Fault}
use Rattle.bits.specs.declared.fault.Layer.TheVariants.{Element}
use Rattle.bits.specs.declared.fault.Reason.TheVariants.{NotListed}

-- the codes that a table of w bits lists
pub record Table (w : ℕ) (A : Type 0) : Type 0 where
  pub code : A → ℕ
  pub listed : ℕ → Option A
  pub fits : (a : A) → code a < 2 ^ w
  pub back : (a : A) → listed (code a) ≡ Some a
  pub forth : (v : ℕ) (a : A) → listed v ≡ Some a → code a ≡ v

abbrev pub not_listed : ElementName → ℕ → Fault
not_listed e at = record { reason = NotListed; layer = Element; element = Some e; position = at }

-- an element: its width and its table
pub record Coding (A : Type 0) : Type 0 where
  pub width : ℕ
  pub some : 0 < width
  pub room : width ≤ 32
  pub table : Table width A
