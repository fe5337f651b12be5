-- What a list holds after more is told.
use Rattle.std.proofs.Common.{◌≡◌, ◌+◌, ◌-◌, ◌<◌, ◌≤◌, List, [], ◌∷◌, ◌++◌, length, take, Ok, Err, Result, IsOk, OnOk, OnErr, ◌↔◌, refl, sym, ap, ◌∙◌, append-nil, arith}
use Rattle.std.proofs.lemmas.List.{take_all}
use Rattle.arrayvec.specs.ArrayVec.{ArrayVec, array_vec_len}
use Rattle.source.specs.Telling.{with_told}
pub use Rattle.source.specs.Listening.{told_more}
use Rattle.source.specs.declared.told.Told.{Told}

pub told_none : (before : List Told) → with_told before [] ≡ before
unfolding with_told
told_none before = grind (arith, append-nil before)

-- where there is room, all of it is told
pub told_all : (before more : List Told) → length before + length more ≤ 20 → with_told before more ≡ before ++ more
unfolding with_told
told_all before more h = ap (λ l. before ++ l) (take_all (20 - length before) more (omega arith))

-- one more, or a full list as it was
pub told_pushed : {E : Type 0} (r : Result (Unit {0}) E) (old new : ArrayVec Told) (one : Told) →
    (IsOk r ↔ (array_vec_len old < 20)) → OnOk r (new.items ≡ old.items ++ one ∷ []) → OnErr r (new ≡ old) → OnErr r (array_vec_len old ≡ 20) →
    new.items ≡ with_told old.items (one ∷ [])
unfolding with_told
told_pushed (Ok u) old new one room more same full =
    let h : array_vec_len old < 20 = room.0 refl in
    more ∙ ap (λ l. old.items ++ l) (sym (take_all (20 - length old.items) (one ∷ []) (omega arith)))
told_pushed (Err e) old new one room more same full =
    let none : 20 - length old.items ≡ 0 = omega (arith, full) in
    ap (λ v. v.items) same ∙ sym (ap (λ n. old.items ++ take n (one ∷ [])) none ∙ append-nil old.items)
