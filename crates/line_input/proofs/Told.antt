-- How far the answers have come.
use Rattle.std.proofs.Common.{◌≡◌, ℕ, List, [], ◌∷◌, ◌++◌, Some, None, Option, sym, ap, ◌∙◌, append_assoc, append-nil, length, ◌<◌, IfSome}
use Rattle.std.specs.Io.KnownBytes.{Appends, IsAtEnd}
use Rattle.std.specs.Io.BufRead.{first_piece, drop_through, DropsThrough}
use Rattle.line_input.specs.Lines.{answered, answers}
use Rattle.line_input.proofs.Pieces.{first-line}

appends-both : (o p q : Option (List ℕ)) (xs ys : List ℕ) → Appends o p xs → Appends p q ys → Appends o q (xs ++ ys)
appends-both None p q xs ys first second = tt
appends-both (Some ds) None q xs ys first second = elim first [ ]
appends-both (Some ds) (Some es) None xs ys first second = elim second [ ]
appends-both (Some ds) (Some es) (Some fs) xs ys first second = second ∙ ap (λ zs. zs ++ ys) first ∙ append_assoc ds xs ys

-- `left` of the bytes is not read yet, and `held` has the answers to what stood before it
pub record Told (text : List ℕ → List ℕ) (bytes : List ℕ) (start held left : Option (List ℕ)) : Type 0 where
  pub rest : List ℕ
  pub still : left ≡ Some rest
  pub done : List ℕ
  pub appended : Appends start held done
  pub whole : done ++ answers text rest ≡ answers text bytes

module _ {text : List ℕ → List ℕ} {bytes : List ℕ} {start held left : Option (List ℕ)} (told : Told text bytes start held left) where
  pub told-more : (held' left' : Option (List ℕ)) (line : List ℕ)
      → IfSome left (λ xs. (0 < length xs) × (line ≡ first_piece 10 xs)) × DropsThrough left left' 10 → Appends held held' (text line ++ 10 ∷ [])
      → Told text bytes start held' left'
  told-more held' left' line gave written =
      let read = rw told.still at gave in
      let rest = drop_through 10 told.rest in
      let reply = text line ++ 10 ∷ [] in
      let split : answers text told.rest ≡ reply ++ answers text rest =
      ap (answered text) (first-line told.rest read.0.0) ∙ ap (λ xs. (text xs ++ 10 ∷ []) ++ answers text rest) (sym read.0.1) in
      record {
        rest = rest;
        still = read.1;
        done = told.done ++ reply;
        appended = appends-both start held held' told.done reply told.appended written;
        whole = append_assoc told.done reply (answers text rest) ∙ ap (λ xs. told.done ++ xs) (sym split) ∙ told.whole;
      }

  pub told-last : (end : Option (List ℕ)) → end ≡ left → IsAtEnd end → Appends start held (answers text bytes)
  told-last end is ended =
      let all : answers text bytes ≡ told.done = sym told.whole ∙ ap (λ xs. told.done ++ answers text xs) (rw (is, told.still) at ended) ∙ append-nil told.done in
      rw all told.appended
