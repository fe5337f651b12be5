-- What a request, a monitor and a message have in common, and what a request opened as.
use Rattle.std.specs.Prelude.{ℕ, Bool, ◌&&◌, ◌==◌}

-- identifier, caller and called party: what a monitor or a message has in common with its request
pub record Key : Type 0 where
  pub identifier : ℕ
  pub caller : ℕ
  pub called : ℕ

unfoldable pub same : Key → Key → Bool
same a b = a.identifier == b.identifier && (a.caller == b.caller && a.called == b.called)

-- what a request opened as
pub record Opening : Type 0 where
  pub number : ℕ
  pub key : Key
