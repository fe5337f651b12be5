-- The library's first piece is the first line.
use Rattle.std.proofs.Common.{◌≡◌, ℕ, suc, ◌+◌, ◌-◌, ◌<◌, true, false, cond, ◌==◌, List, [], ◌∷◌, ◌++◌, length, get_or, take, sym, refl, ap, ◌∙◌, append_assoc, append-nil, length-append, arith, nat_lt}
use Rattle.std.proofs.lemmas.Bool.{lt-ltb}
use Rattle.std.specs.Io.BufRead.{first_piece, drop_through, strip_last, take_through}
use Rattle.line_input.specs.Lines.{lines, lines_after, last_line}

strip-cons : (b : ℕ) (ys : List ℕ) → (b == 10) ≡ false → strip_last 10 (b ∷ ys) ≡ b ∷ strip_last 10 ys
strip-cons b [] other = rw other refl
strip-cons b (y ∷ ys) other =
    let n = length (y ∷ ys) in
    let whole : nat_lt 0 (suc n) ≡ true = lt-ltb 0 (suc n) (omega arith) in
    let part : nat_lt 0 n ≡ true = lt-ltb 0 n (omega arith) in
    let last : suc n - 1 ≡ suc (n - 1) = omega arith in
    rw (whole, part, last) (elim (get_or (y ∷ ys) (n - 1) 0 == 10) as (λ t. cond t (b ∷ take (n - 1) (y ∷ ys)) (b ∷ y ∷ ys) ≡ b ∷ cond t (take (n - 1) (y ∷ ys)) (y ∷ ys)) [ true ↦ refl | false ↦ refl ])

last-line : (line : List ℕ) → 0 < length line → last_line line ≡ line ∷ []
last-line [] some = absurd (omega arith)
last-line (b ∷ line) some = refl

first-after : (line bs : List ℕ) → 0 < length line + length bs → lines_after line bs ≡ (line ++ first_piece 10 bs) ∷ lines (drop_through 10 bs)
first-after line [] some = last-line line (omega arith) ∙ ap (λ xs. xs ∷ []) (sym (append-nil line))
first-after line (b ∷ bs) some =
    elim (b == 10) as (λ t. (b == 10) ≡ t
    → cond t (line ∷ lines bs) (lines_after (line ++ b ∷ []) bs) ≡ (line ++ strip_last 10 (cond t (b ∷ []) (b ∷ take_through 10 bs))) ∷ lines (cond t bs (drop_through 10 bs))) [
      | true ↦ λ is. rw is (ap (λ xs. xs ∷ lines bs) (sym (append-nil line)))
      | false ↦ λ is.
          first-after (line ++ b ∷ []) bs (omega (arith, length-append line (b ∷ [])))
          ∙ ap (λ xs. xs ∷ lines (drop_through 10 bs)) (append_assoc line (b ∷ []) (first_piece 10 bs) ∙ ap (λ xs. line ++ xs) (sym (strip-cons b (take_through 10 bs) is)))
    ] refl

pub first-line : (bs : List ℕ) → 0 < length bs → lines bs ≡ first_piece 10 bs ∷ lines (drop_through 10 bs)
first-line bs some = first-after [] bs (omega (arith, some))
