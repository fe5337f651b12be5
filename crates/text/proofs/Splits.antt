-- A line is its first word and what follows it.
use Rattle.std.proofs.Common.{◌≡◌, ℕ, ◌+◌, ◌<◌, Bool, true, false, cond, not, List, [], ◌∷◌, ◌++◌, length, take, drop, sym, refl, ap, ◌∙◌, append_assoc, append-nil, one-add, arith, length-drop, length-take}
use mathlib.Core.Bool.{beq}
use Rattle.std.specs.List.{prefix_len}
use Rattle.text.specs.Words.{is_blank, of_kind, before, words_after, words, led_of, word_of, rest_of, starts_with}

abbrev run : List ℕ → List ℕ
run bs = take (prefix_len (of_kind false) bs) bs

abbrev past : List ℕ → List ℕ
past bs = drop (prefix_len (of_kind false) bs) bs

-- a run goes on to the first blank
run_ends : (rs bs : List ℕ) → words_after rs bs ≡ before (rs ++ run bs) (words (past bs))
run_ends rs [] = ap (λ xs. before xs []) (sym (append-nil rs))
run_ends rs (b ∷ bs) =
    elim (is_blank b) as (λ t. is_blank b ≡ t → cond t (before rs (words bs)) (words_after (rs ++ b ∷ []) bs)
    ≡ before (rs ++ take (cond (not t) (1 + prefix_len (of_kind false) bs) 0) (b ∷ bs)) (words (drop (cond (not t) (1 + prefix_len (of_kind false) bs) 0) (b ∷ bs)))) [
      | true ↦ λ is. ap (λ xs. before xs (words bs)) (sym (append-nil rs)) ∙ ap (before (rs ++ [])) (sym (ap (λ t. cond t (words bs) (words_after (b ∷ []) bs)) is))
      | false ↦ λ is. run_ends (rs ++ b ∷ []) bs ∙ rw (one-add, append_assoc)
    ] refl

-- blanks before the first word make no word
blanks-pass : (bs : List ℕ) → words bs ≡ words (led_of bs)
blanks-pass [] = refl
blanks-pass (b ∷ bs) =
    elim (is_blank b) as (λ t. is_blank b ≡ t → words (b ∷ bs) ≡ words (drop (cond t (1 + prefix_len (of_kind true) bs) 0) (b ∷ bs))) [
      | true ↦ λ is. ap (λ t. cond t (words bs) (words_after (b ∷ []) bs)) is ∙ blanks-pass bs ∙ rw one-add
      | false ↦ λ is. refl
    ] refl

run-begins : (b : ℕ) (bs : List ℕ) → is_blank b ≡ false → run (b ∷ bs) ≡ b ∷ run bs
run-begins b bs is = ap (λ t. take (cond (not t) (1 + prefix_len (of_kind false) bs) 0) (b ∷ bs)) is ∙ rw one-add

-- what stands after the blanks is nothing, or begins with a word
abbrev Begins : List ℕ → Type 0
Begins bs = before (run bs) (words (past bs)) ≡ starts_with (run bs) (words (past bs))

led-begins : (bs : List ℕ) → Begins (led_of bs)
led-begins [] = refl
led-begins (b ∷ bs) =
    elim (is_blank b) as (λ t. is_blank b ≡ t → Begins (drop (cond t (1 + prefix_len (of_kind true) bs) 0) (b ∷ bs))) [
      | true ↦ λ is. rw one-add (led-begins bs)
      | false ↦ λ is. let e = run-begins b bs is in ap (λ v. before v (words (past (b ∷ bs)))) e ∙ sym (ap (λ v. starts_with v (words (past (b ∷ bs)))) e)
    ] refl

pub words-split : (bs : List ℕ) → words bs ≡ starts_with (word_of bs) (words (rest_of bs))
words-split bs = blanks-pass bs ∙ run_ends [] (led_of bs) ∙ led-begins bs

pub rest-shorter : (bs : List ℕ) → 0 < length (word_of bs) → length (rest_of bs) < length bs
rest-shorter bs h =
    let m = prefix_len (of_kind true) bs in
    let n = prefix_len (of_kind false) (led_of bs) in
    omega (arith, length-take n (led_of bs), length-drop n (led_of bs), length-drop m bs)

pub kind-is : (b : ℕ) (kind t : Bool) → t ≡ is_blank b → of_kind kind b ≡ beq t kind
kind-is b true t e = sym e ∙ elim t as (λ v. v ≡ beq v true) [ true ↦ refl | false ↦ refl ]
kind-is b false t e = ap not (sym e) ∙ elim t as (λ v. not v ≡ beq v false) [ true ↦ refl | false ↦ refl ]

no-run : (rs : List ℕ) (ws : List (List ℕ)) → length rs ≡ 0 → before rs ws ≡ starts_with rs ws → ws ≡ []
no-run [] ws none same = same
no-run (b ∷ rs) ws none same = absurd (omega arith)

-- where the first word is empty, no word follows
pub no-rest : (bs : List ℕ) → length (word_of bs) ≡ 0 → words (rest_of bs) ≡ []
no-rest bs none = no-run (word_of bs) (words (rest_of bs)) none (led-begins bs)

-- no word stands where the first is empty, and else the first stands before the others
pub no-word : (word : List ℕ) (ws : List (List ℕ)) → length word ≡ 0 → starts_with word ws ≡ []
no-word [] ws none = refl
no-word (b ∷ word) ws none = absurd (omega arith)

pub a-word : (word : List ℕ) (ws : List (List ℕ)) → 0 < length word → starts_with word ws ≡ word ∷ ws
a-word [] ws some = absurd (omega arith)
a-word (b ∷ word) ws some = refl
