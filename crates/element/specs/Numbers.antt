-- Elements that take every number of their width.
use Rattle.std.specs.Prelude.{◌≡◌, ℕ, ◌^◌, ◌≤◌, Bool, true, false, cond, Some, Ok, Err, Option, nat_lt, refl}
use Rattle.std.specs.Result.{result_ok}
use Rattle.std.proofs.Common.{sym, ap, ◌∙◌, arith, lit≤, mod-eq_of_lt}
use Rattle.std.proofs.lemmas.Bool.{ltb-true}
use Rattle.element.specs.Codings.{Coding}
use Rattle.element.specs.declared.kinds.ClirColr as clir_colr_kind
use Rattle.element.specs.contracts.kinds.ClirColrKind.TheImpl as clir_colr_ghosts
use Rattle.fields.specs.Fields.{field_of, checked}
use Rattle.fields.specs.Values.{Identifier, CallIdentifier, Ssi, Extension, Priority, Service, AreaSelection}
use Rattle.fields.specs.declared.field.Field.{Field}
use Rattle.fields.specs.declared.kinds.Kind.{Ghosts}
use Rattle.fields.specs.declared.refusal.Refusal.{Refusal}
use Rattle.fields.specs.declared.refusal.Refusal.TheVariants.{OutsideField}
use Rattle.fields.specs.contracts.kinds.IdentifierKind.TheImpl as identifier_kind
use Rattle.fields.specs.contracts.kinds.CallIdentifierKind.TheImpl as call_identifier_kind
use Rattle.fields.specs.contracts.kinds.SsiKind.TheImpl as ssi_kind
use Rattle.fields.specs.contracts.kinds.ExtensionKind.TheImpl as extension_kind
use Rattle.fields.specs.contracts.kinds.PriorityKind.TheImpl as priority_kind
use Rattle.fields.specs.contracts.kinds.ServiceKind.TheImpl as service_kind
use Rattle.fields.specs.contracts.kinds.AreaSelectionKind.TheImpl as area_selection_kind
use Rattle.fields.proofs.Accepted.{accepted}

module _ {K : Type 0} (kind : Ghosts K) where
  abbrev pub number-listed : ℕ → Option (Field K kind)
  number-listed v = result_ok (checked kind.WIDTH (field_of kind) v)

  pub number-forth : (v : ℕ) (x : Field K kind) → number-listed v ≡ Some x → x.bits ≡ v
  number-forth v x h =
      let P : Bool → Type 0 = λ b. nat_lt v (2 ^ kind.WIDTH) ≡ b → result_ok {E = Refusal} (cond b (Ok (field_of kind v)) (Err OutsideField)) ≡ Some x → x.bits ≡ v in
      let cases : (b : Bool) → P b = λ b. elim b as P [
        | true ↦ (λ e k. let q : field_of kind v ≡ x = cc in ap (λ f. f.bits) (sym q) ∙ mod-eq_of_lt (ltb-true v (2 ^ kind.WIDTH) e))
        | false ↦ (λ e k. let z : ◌≡◌ {A = ℕ} 0 1 = cc in absurd (omega arith))
      ] in
      cases (nat_lt v (2 ^ kind.WIDTH)) refl h

  -- a field of this kind, its bits being its code
  abbrev pub number : kind.WIDTH ≤ 32 → Coding (Field K kind)
  number room = record {
    width = kind.WIDTH;
    some = kind.some;
    room = room;
    table = record { code = λ x. x.bits; listed = number-listed; fits = λ x. x.fits; back = λ x. ap result_ok (sym (accepted x)); forth = number-forth };
  }

abbrev pub ClirColr : Type 0
ClirColr = Field clir_colr_kind.ClirColr clir_colr_ghosts.ghosts

abbrev pub identifier : Coding Identifier
identifier = number identifier_kind.ghosts (lit≤ tt)

abbrev pub call_identifier : Coding CallIdentifier
call_identifier = number call_identifier_kind.ghosts (lit≤ tt)

abbrev pub ssi : Coding Ssi
ssi = number ssi_kind.ghosts (lit≤ tt)

abbrev pub extension : Coding Extension
extension = number extension_kind.ghosts (lit≤ tt)

abbrev pub priority : Coding Priority
priority = number priority_kind.ghosts (lit≤ tt)

abbrev pub service : Coding Service
service = number service_kind.ghosts (lit≤ tt)

abbrev pub area_selection : Coding AreaSelection
area_selection = number area_selection_kind.ghosts (lit≤ tt)

abbrev pub clir_colr : Coding ClirColr
clir_colr = number clir_colr_ghosts.ghosts (lit≤ tt)
