-- A text, read as TOML.
use Rattle.std.specs.Prelude.{◌≡◌, ℕ, List, length, codes, Option, Some, None, Ok, Err, nat_lt, if◌then◌else◌}
use Rattle.std.specs.Str.{is_utf8}
use Rattle.toml.specs.Data.{Members}
use Rattle.toml.specs.Parse.{parse_document}
use Rattle.mesh_config.specs.declared.keys.parse.TheConstants.{LONGEST_SETTINGS}
use Rattle.mesh_config.specs.declared.keys.refusal.TheConstants.{NOT_TOML, TOO_LONG}
use Rattle.mesh_config.specs.Keys.Faults.{ReadValue, Visits, fault}
use Rattle.mesh_config.specs.Keys.Values.{inner_visits}

-- the table that the text spells, where it is text at all
abbrev pub parsed : List ℕ → Option Members
parsed octets = if is_utf8 octets then parse_document octets else None

-- the table of a text; NOT_TOML where it spells none
abbrev pub table_or_fault : Option Members → ReadValue Members
table_or_fault None = Err (fault NOT_TOML (codes "input"))
table_or_fault (Some table) = Ok table

-- the top table: of at most so many octets, which are TOML
abbrev pub document : List ℕ → ReadValue Members
document octets = if nat_lt LONGEST_SETTINGS (length octets) then Err (fault TOO_LONG (codes "input")) else table_or_fault (parsed octets)

-- the value is what the text says, where its top table says it
abbrev pub TextSays : {X : Type 0} → (Members → X → Type 0) → List ℕ → X → Type 0
TextSays Says text x = (table : Members) × ((document text ≡ Ok table) × Says table x)

-- the text is visited, and then its top table
abbrev pub text_visits : (Members → Visits) → List ℕ → Visits
text_visits visits text = inner_visits visits (document text)
