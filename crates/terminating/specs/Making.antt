-- From which settings an office is made, and what it then keeps.
use Rattle.std.specs.Prelude.{◌≡◌, ℕ, Bool, true, false, cond, not, ◌&&◌, List, [], ◌∷◌, is_some, is_ok, Ok, vec_items, vec_len, Result, MatchResult, nat_eq, nat_le, find}
use Rattle.std.specs.List.{filter_map}
use Rattle.std.specs.Result.{result_ok}
use Rattle.fields.specs.declared.refusal.Refusal.{Refusal}
use Rattle.fields.specs.declared.refusal.Refusal.TheVariants.{SettingNotAllowed, NoMemory}
use Rattle.fields.specs.Fields.{checked}
use Rattle.fields.specs.Values.{identity_of, service_of}
use Rattle.link.specs.Messages.{after}
use Rattle.terminating.specs.declared.making.LineSetting.{LineSetting}
use Rattle.terminating.specs.declared.making.TerminatingSettings.{TerminatingSettings}
use Rattle.terminating.specs.declared.office.Line.{Line}
use Rattle.terminating.specs.Office.{Office}

-- the line that a setting gives, free
abbrev pub line_set : LineSetting → Result Line Refusal
line_set x =
    after (checked 48 identity_of x.identity) (λ identity.
    after (checked 8 service_of x.service) (λ service.
    Ok (record { identity = identity; service = service; busy = false })))

abbrev pub sole_line : LineSetting → List LineSetting → Bool
sole_line x xs = is_ok (line_set x) && not (is_some (find (λ y. nat_eq y.identity x.identity) xs))

-- each line's numbers fit, and no two have one identity
abbrev pub lines_allowed : List LineSetting → Bool
lines_allowed [] = true
lines_allowed (x ∷ xs) = cond (sole_line x xs) (lines_allowed xs) false

abbrev pub few_allowed : ℕ → Bool
few_allowed n = nat_le 1 n && nat_le n 256

abbrev pub allowed : TerminatingSettings → Bool
allowed s = few_allowed (vec_len s.lines) && (few_allowed s.places && lines_allowed (vec_items s.lines))

-- the lines of the settings; where they are allowed, each setting gives one
abbrev pub lines_set : List LineSetting → List Line
lines_set xs = filter_map (λ x. result_ok (line_set x)) xs

-- every line is free and no monitor stands
abbrev pub fresh : TerminatingSettings → Office
fresh s = record { lines = lines_set (vec_items s.lines); monitors = []; places = s.places }

-- settings that are not allowed are refused as such; else only want of memory is
abbrev pub Made : TerminatingSettings → Result Office Refusal → Type 0
Made s r =
    MatchResult r (λ t. (allowed s ≡ true) × (t ≡ fresh s)) (λ e. e ≡ cond (allowed s) NoMemory SettingNotAllowed)
