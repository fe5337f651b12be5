-- What a list of told elements holds after it hears more.
use Rattle.std.specs.Prelude.{◌≡◌, ℕ, ◌+◌, ◌-◌, List, [], ◌∷◌, ◌++◌, length, take, min}
use Rattle.std.proofs.Common.{zero, suc, sym, ap, ◌∙◌, append_assoc, arith, length-append, length-take}
use Rattle.arrayvec.specs.ArrayVec.{ArrayVec}
use Rattle.source.specs.Telling.{with_told}
use Rattle.source.specs.declared.told.Told.{Told}

abbrev pub list_after : ArrayVec Told → List Told → ArrayVec Told
list_after told more = record { items = with_told told.items more }

take-append : {A : Type 0} (n : ℕ) (xs ys : List A) → take n (xs ++ ys) ≡ take n xs ++ take (n - length xs) ys
take-append zero xs ys = let e : 0 ≡ 0 - length xs = omega arith in ap (λ k. take k ys) e
take-append (suc n) [] ys = let e : suc n ≡ suc n - 0 = omega arith in ap (λ k. take k ys) e
take-append (suc n) (x ∷ xs) ys =
    let e : n - length xs ≡ suc n - suc (length xs) = omega arith in
    ap (λ l. x ∷ l) (take-append n xs ys ∙ ap (λ k. take n xs ++ take k ys) e)

-- one after the other
pub told_more : (before xs ys : List Told) → with_told (with_told before xs) ys ≡ with_told before (xs ++ ys)
unfolding with_told
told_more before xs ys =
    let n = 20 - length before in
    let l : length (before ++ take n xs) ≡ length before + min n (length xs) = length-append before (take n xs) ∙ ap (λ k. length before + k) (length-take n xs) in
    let left : 20 - length (before ++ take n xs) ≡ n - length xs = omega arith in
    append_assoc before (take n xs) (take (20 - length (before ++ take n xs)) ys)
    ∙ ap (λ k. before ++ (take n xs ++ take k ys)) left
    ∙ ap (λ l. before ++ l) (sym (take-append n xs ys))

pub list-more : (told : ArrayVec Told) (xs ys : List Told) → list_after (list_after told xs) ys ≡ list_after told (xs ++ ys)
list-more told xs ys = ap (λ l. record { items = l }) (told_more told.items xs ys)
