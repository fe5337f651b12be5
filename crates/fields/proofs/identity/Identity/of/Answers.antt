use Rattle.std.proofs.Common.{refl}
use Rattle.fields.specs.Values.{joined}
use Rattle.fields.proofs.Halves.{parts-joined}
use Rattle.fields.proofs.Same.{same-field}
use Rattle.fields.proofs.identity.Identity.of.Goals as goal

pub returns : goal.returns
returns c =
    let s = c.args.ssi in
    let e = c.args.extension in
    record { value = same-field _ (joined s e) refl; parts = parts-joined s e }
