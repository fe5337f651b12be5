-- The fields by their kinds.
use Rattle.std.specs.Prelude.{ℕ, ◌+◌, ◌*◌, ◌/◌, ◌^◌}
use Rattle.std.proofs.Common.{arith}
use Rattle.fields.specs.Fields.{field_of}
use Rattle.fields.specs.declared.field.Field.{Field}
use Rattle.fields.specs.declared.kinds.Identity as identity
use Rattle.fields.specs.declared.kinds.Ssi as ssi
use Rattle.fields.specs.declared.kinds.Extension as extension
use Rattle.fields.specs.declared.kinds.Identifier as identifier
use Rattle.fields.specs.declared.kinds.CallIdentifier as call_identifier
use Rattle.fields.specs.declared.kinds.Priority as priority
use Rattle.fields.specs.declared.kinds.Service as service
use Rattle.fields.specs.declared.kinds.AreaSelection as area_selection
use Rattle.fields.specs.contracts.kinds.IdentityKind.TheImpl as identity_kind
use Rattle.fields.specs.contracts.kinds.SsiKind.TheImpl as ssi_kind
use Rattle.fields.specs.contracts.kinds.ExtensionKind.TheImpl as extension_kind
use Rattle.fields.specs.contracts.kinds.IdentifierKind.TheImpl as identifier_kind
use Rattle.fields.specs.contracts.kinds.CallIdentifierKind.TheImpl as call_identifier_kind
use Rattle.fields.specs.contracts.kinds.PriorityKind.TheImpl as priority_kind
use Rattle.fields.specs.contracts.kinds.ServiceKind.TheImpl as service_kind
use Rattle.fields.specs.contracts.kinds.AreaSelectionKind.TheImpl as area_selection_kind

abbrev pub Identity : Type 0
Identity = Field identity.Identity identity_kind.ghosts

abbrev pub identity_of : ℕ → Identity
identity_of = field_of identity_kind.ghosts

abbrev pub Ssi : Type 0
Ssi = Field ssi.Ssi ssi_kind.ghosts

abbrev pub ssi_of : ℕ → Ssi
ssi_of = field_of ssi_kind.ghosts

abbrev pub Extension : Type 0
Extension = Field extension.Extension extension_kind.ghosts

abbrev pub extension_of : ℕ → Extension
extension_of = field_of extension_kind.ghosts

abbrev pub Identifier : Type 0
Identifier = Field identifier.Identifier identifier_kind.ghosts

abbrev pub identifier_of : ℕ → Identifier
identifier_of = field_of identifier_kind.ghosts

abbrev pub CallIdentifier : Type 0
CallIdentifier = Field call_identifier.CallIdentifier call_identifier_kind.ghosts

abbrev pub call_identifier_of : ℕ → CallIdentifier
call_identifier_of = field_of call_identifier_kind.ghosts

abbrev pub Priority : Type 0
Priority = Field priority.Priority priority_kind.ghosts

abbrev pub priority_of : ℕ → Priority
priority_of = field_of priority_kind.ghosts

abbrev pub Service : Type 0
Service = Field service.Service service_kind.ghosts

abbrev pub service_of : ℕ → Service
service_of = field_of service_kind.ghosts

abbrev pub AreaSelection : Type 0
AreaSelection = Field area_selection.AreaSelection area_selection_kind.ghosts

abbrev pub area_selection_of : ℕ → AreaSelection
area_selection_of = field_of area_selection_kind.ghosts

-- the identity of an SSI and an extension
abbrev pub joined : Ssi → Extension → Identity
joined ssi extension = record { bits = ssi.bits * 2 ^ 24 + extension.bits; kind = record {}; fits = omega (arith, ssi.fits, extension.fits) }

-- the SSI and the extension of an identity
abbrev pub parts_of : Identity → Ssi × Extension
parts_of x = (ssi_of (x.bits / 2 ^ 24), extension_of x.bits)
