-- How a HELLO or a TC reads, as the last line of its message.
use Rattle.std.specs.Prelude.{◌≡◌, ◌≢◌, ◌⊎◌, ℕ, List, [], ◌++◌, codes, Option, Result, Ok, Err}
use Rattle.mesh_atoms.specs.declared.addr.NetAddr.{NetAddr}
use Rattle.mesh_atoms.specs.declared.hello.Hello.{Hello}
use Rattle.mesh_atoms.specs.declared.tc.Tc.{Tc}
use Rattle.mesh_packet.specs.Fields.{MessageFields}
use Rattle.mesh_wire.specs.Hello.{HelloIs}
use Rattle.mesh_wire.specs.HelloRules.{BreaksHello}
use Rattle.mesh_wire.specs.Rules.{Keeps, FirstBroken}
use Rattle.mesh_wire.specs.Summaries.{hello_summary_of, tc_summary_of}
use Rattle.mesh_wire.specs.Tc.{TcIs}
use Rattle.mesh_wire.specs.declared.fault.WireFault.{WireFault}
use Rattle.mesh_wire.specs.declared.fault.WireFault.TheVariants.{Broken, Memory}
use Rattle.mesh_wire.specs.declared.hello.HelloHeader.{HelloHeader}
use Rattle.mesh_wire.specs.declared.rows.MessageSummary.{MessageSummary}
use Rattle.mesh_wire.specs.declared.tc.TcHeader.{TcHeader}
use Rattle.mesh_wire.specs.TcRules.{BreaksTc}
use Rattle.mesh_report.specs.Pieces.{numbered, numbered_or_none, addressed_by_number, chosen, named}

-- a HELLO by its summary; times are in ticks
unfoldable pub hello_summary_line : MessageSummary HelloHeader → List ℕ
hello_summary_line hello =
    (numbered (codes " reading hello validity ") hello.header.validity ++ numbered_or_none (codes " interval ") hello.header.interval)
    ++ (numbered (codes " flooding ") hello.header.willing.flooding ++ numbered (codes " routing ") hello.header.willing.routing)
    ++ (numbered (codes " rows ") hello.row_count ++ codes "\n")

-- a TC by its summary; times are in ticks
unfoldable pub tc_summary_line : MessageSummary TcHeader → List ℕ
tc_summary_line tc =
    (addressed_by_number (codes " reading tc originator ") tc.header.originator ++ numbered (codes " sequence ") tc.header.sequence
    ++ numbered (codes " ansn ") tc.header.content.ansn ++ chosen (codes " complete ") tc.header.content.complete)
    ++ (numbered (codes " validity ") tc.header.validity ++ numbered_or_none (codes " interval ") tc.header.interval)
    ++ (numbered (codes " rows ") tc.row_count ++ codes "\n")

-- a HELLO, and a TC
abbrev pub hello_line : Hello → List ℕ
hello_line hello = hello_summary_line (hello_summary_of hello)

abbrev pub tc_line : Tc → List ℕ
tc_line tc = tc_summary_line (tc_summary_of tc)

-- the rule of a HELLO or a TC that is broken first
unfoldable pub broken_line : ℕ → List ℕ
broken_line number = numbered (codes " reading broken ") number ++ named (codes " ") number ++ codes "\n"

-- the line of the typed value where no rule is broken, else of the first rule that is
abbrev pub ReadsMessage : {X : Type 0} → (ℕ → Option NetAddr → Type 0) → (X → Type 0) → (X → List ℕ) → List ℕ → Type 0
ReadsMessage {X} Breaks Is line_of text =
    ((value : X) × Keeps Breaks × Is value × (text ≡ line_of value))
    ⊎ ((number : ℕ) × (addr : Option NetAddr) × FirstBroken Breaks number addr × (text ≡ broken_line number))

-- the line of what was read, or of the rule that is broken
abbrev pub TellsRead : {X : Type 0} → (X → List ℕ) → Result X WireFault → List ℕ → Type 0
TellsRead line_of (Ok value) text = text ≡ line_of value
TellsRead line_of (Err (Broken number addr)) text = text ≡ broken_line number
TellsRead line_of (Err (Memory e)) text = ⊥

-- how a message reads, by its type; messages of other types than HELLO and TC have no reading
pub record IsReading (message : MessageFields) (text : List ℕ) : Type 0 where
  pub hello : message.kind ≡ 0 → ReadsMessage (BreaksHello message) (HelloIs message) hello_line text
  pub tc : message.kind ≡ 1 → ReadsMessage (BreaksTc message) (TcIs message) tc_line text
  pub other : message.kind ≢ 0 → message.kind ≢ 1 → text ≡ []
