-- Places that are used in turn, the first again after the last.
use Rattle.std.specs.Prelude.{◌≡◌, ℕ, zero, suc, ◌+◌, ◌-◌, true, cond, List, [], ◌∷◌, replicate, Option, is_some, unwrap_or, nat_le}
use Rattle.fields.specs.Values.{identifier_of, identity_of}
use Rattle.link.specs.declared.message.Kind.TheVariants.{LetGo}
use Rattle.link.specs.declared.message.Message.{Message}

-- place i of c, counted on past the last
abbrev pub wrap : ℕ → ℕ → ℕ
wrap c i = cond (nat_le c i) (i - c) i

-- what the n places from place i on hold, of c places that hold what `at` says
abbrev pub ring : {X : Type 0} → ℕ → (ℕ → X) → ℕ → ℕ → List X
ring c at i zero = []
ring c at i (suc n) = at i ∷ ring c at (wrap c (i + 1)) n

-- stands where no message does
abbrev pub nobody : Message
nobody = record {
  kind = LetGo;
  key = record {
    identifier = identifier_of 0;
    caller = identity_of 0;
    called = identity_of 0;
  };
}

-- the messages in the n places from place i on, of c that hold what `held` says
abbrev pub waiting_in : ℕ → (ℕ → Option Message) → ℕ → ℕ → List Message
waiting_in c held i n = ring c (λ k. unwrap_or (held k) nobody) i n

-- each of these places holds a message
abbrev pub Whole : ℕ → (ℕ → Option Message) → ℕ → ℕ → Type 0
Whole c held i n = ring c (λ k. is_some (held k)) i n ≡ replicate n true
