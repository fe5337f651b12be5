-- An identity is its SSI and its extension.
use Rattle.std.proofs.Common.{◌≡◌, arith}
use Rattle.fields.specs.Values.{Identity, Ssi, Extension, joined, parts_of}
use Rattle.fields.proofs.Same.{same-field}

pub parts-joined : (s : Ssi) (e : Extension) → parts_of (joined s e) ≡ (s, e)
parts-joined s e =
    let upper = same-field (parts_of (joined s e)).0 s (omega (arith, s.fits, e.fits)) in
    let lower = same-field (parts_of (joined s e)).1 e (omega (arith, s.fits, e.fits)) in
    λ i. (upper i, lower i)

pub joined-parts : (x : Identity) → joined (parts_of x).0 (parts_of x).1 ≡ x
joined-parts x = same-field (joined (parts_of x).0 (parts_of x).1) x (omega (arith, x.fits))
