-- A field of a text: its name, an equals sign and its value in decimal.
use Rattle.std.specs.Prelude.{◌≡◌, ℕ, ◌+◌, ◌^◌, Bool, false, cond, List, [], ◌∷◌, ◌++◌, map, take, drop, Some, None, decimal, Option, ◌==◌, nat_lt}
use Rattle.std.specs.List.{flat_map, position_or_len}
use Rattle.std.specs.Str.{bytes_eq}
use Rattle.bits.specs.declared.fault.ElementName.{ElementName}
use Rattle.text.specs.Numbers.{number_of}
use Rattle.field_text.specs.Names.{field_name}

abbrev pub Field : Type 0
Field = ElementName × ℕ

unfoldable pub field_word : Field → List ℕ
field_word f = field_name f.0 ++ (61 ∷ decimal f.1)

abbrev pub words_of : List Field → List (List ℕ)
words_of fs = map field_word fs

-- after a space
abbrev pub field_text : Field → List ℕ
field_text f = 32 ∷ field_word f

unfoldable pub text_of : List Field → List ℕ
text_of fs = flat_map field_text fs

-- the fields stand after what stood there before
pub record Tells (before : List ℕ) (fs : List Field) (after : List ℕ) : Type 0 where
  pub is : after ≡ before ++ text_of fs

-- how many bytes of a word stand before its first equals sign
abbrev pub name_len : List ℕ → ℕ
name_len word = position_or_len (λ b. b == 61) word

-- what stands before it, and what stands after it
abbrev pub name_in : List ℕ → List ℕ
name_in word = take (name_len word) word

abbrev pub digits_in : List ℕ → List ℕ
digits_in word = drop (name_len word + 1) word

abbrev pub within : ℕ → Option ℕ → Option ℕ
within width None = None
within width (Some v) = cond (nat_lt v (2 ^ width)) (Some v) None

-- whether a word has this name
abbrev pub is_field : ElementName → List ℕ → Bool
is_field e word = bytes_eq (name_in word) (field_name e)

-- the value of a word that is this field
abbrev pub value_in : ElementName → ℕ → List ℕ → Option ℕ
value_in e width word = cond (is_field e word) (within width (number_of (digits_in word))) None

-- whether the first word has this name
unfoldable pub begins : ElementName → List (List ℕ) → Bool
begins e [] = false
begins e (w ∷ ws) = is_field e w
