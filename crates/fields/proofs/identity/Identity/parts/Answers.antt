use Rattle.std.proofs.Common.{◌∙◌, arith}
use Rattle.fields.specs.Values.{joined, parts_of}
use Rattle.fields.proofs.Halves.{joined-parts}
use Rattle.fields.proofs.Same.{same-field}
use Rattle.fields.proofs.identity.Identity.parts.Goals as goal

pub returns : goal.returns
returns c =
    let x = c.args.self in
    let upper = same-field c.upper.result (parts_of x).0 (omega (arith, x.fits)) in
    let lower = same-field c.lower.result (parts_of x).1 c.lower.ensures in
    record { value = λ i. (upper i, lower i); whole = (λ i. joined (upper i) (lower i)) ∙ joined-parts x }
