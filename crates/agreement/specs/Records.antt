-- Requests, monitors, messages and retained calls in plain numbers.
use Rattle.std.specs.Prelude.{ℕ}
use Rattle.requests.specs.declared.records.Phase.{Phase}
use Rattle.terminating.specs.declared.office.Stage.{Stage}
use Rattle.agreement.specs.Key.{Key}

-- the kind of a message, without what it carries
pub data Sort : Type 0 where
  MONITOR SUSPEND RESUME SETUP CLOSE YES NO FREE BUSY-AGAIN CONNECTED FAILED LET-GO : Sort

pub record Request : Type 0 where
  pub number : ℕ
  pub key : Key
  pub phase : Phase

pub record Monitor : Type 0 where
  pub key : Key
  pub stage : Stage

pub record Message : Type 0 where
  pub sort : Sort
  pub key : Key

pub record Retained : Type 0 where
  pub caller : ℕ
  pub called : ℕ
  pub call : ℕ
  pub until : ℕ
