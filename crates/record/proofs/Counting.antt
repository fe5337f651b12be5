-- The steps of a count.
use Rattle.std.proofs.Common.{◌≡◌, ℕ, ◌+◌, ◌<◌, Bool, true, false, ◌&&◌, ◌==◌, List, [], length, get_or, take, sym, refl, ap, ◌∙◌}
use Rattle.std.proofs.lemmas.List.Sums.{count_by_more_yes, count_by_more_no}
use Rattle.fields.specs.Values.{Identity}
use Rattle.record.specs.Search.{count_of}

module _ {X : Type 0} (owned : X → Identity) (p : X → Bool) (party : Identity) where
  abbrev counted : X → Bool
  counted x = ((owned x).bits == party.bits) && p x

  pub count-none : 0 ≡ count_of owned p party []
  unfolding count_of
  count-none = refl

  module _ (xs : List X) (i : ℕ) (x : X) (n : ℕ) (within : i < length xs) (read : x ≡ get_or xs i x) (before : n ≡ count_of owned p party (take i xs)) where
    pub count-yes : true ≡ counted x → n + 1 ≡ count_of owned p party (take (i + 1) xs)
    unfolding count_of
    count-yes e = ap (λ k. k + 1) before ∙ sym (count_by_more_yes counted xs i x within (ap counted (sym read) ∙ sym e))

    pub count-no : false ≡ counted x → n ≡ count_of owned p party (take (i + 1) xs)
    unfolding count_of
    count-no e = before ∙ sym (count_by_more_no counted xs i x within (ap counted (sym read) ∙ sym e))
