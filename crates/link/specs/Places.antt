-- What a put changes.
use Rattle.std.specs.Prelude.{◌≡◌, ◌≢◌, ℕ, Some, Option}
use Rattle.link.specs.declared.message.Message.{Message}

-- the message stands in its place, and in the others what stood there
pub record PutsAt (old : ℕ → Option Message) (place : ℕ) (message : Message) (new : ℕ → Option Message) : Type 0 where
  pub here : new place ≡ Some message
  pub elsewhere : (k : ℕ) → k ≢ place → new k ≡ old k
