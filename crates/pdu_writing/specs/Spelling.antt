-- The bits of what is told, after those of what was told before.
use Rattle.std.specs.Prelude.{◌≡◌, ℕ, List, ◌++◌, take}
use Rattle.std.proofs.Common.{refl, sym, ap, ◌∙◌}
use Rattle.std.proofs.lemmas.Grind.{flat_map-append}
use Rattle.bits.proofs.BufferLaws.{adds}
use Rattle.source.specs.declared.told.Told.{Told}
use Rattle.pdu.specs.Bits.{bits_told, all_bits}

-- as far as the longest PDU goes
abbrev pub spelled : List ℕ → List Told → List ℕ
spelled before more = take 272 (before ++ all_bits more)

-- one after the other
pub spelled-more : (before : List ℕ) (xs ys : List Told) → spelled (spelled before xs) ys ≡ spelled before (xs ++ ys)
spelled-more before xs ys =
    let both = adds {f = before} {g = spelled before xs} {h = spelled (spelled before xs) ys} {xs = all_bits xs} {ys = all_bits ys} (record { is = refl }) (record { is = refl }) in
    both.is ∙ ap (λ l. take 272 (before ++ l)) (sym (flat_map-append bits_told xs ys))
