-- The lines whose text is fixed, and what it is to take the next line.
use Rattle.std.specs.Prelude.{◌≡◌, ℕ, ◌+◌, List, ◌∷◌, ◌++◌, codes, Bool, IsTrue, IsFalse, Option, Some, None, IfSome, IsNone}
use Rattle.mesh_atoms.specs.declared.addr.Addr4.{Addr4}
use Rattle.mesh_atoms.specs.declared.settings.RouterSettings.{RouterSettings}
use Rattle.mesh_texts.specs.Lines.Marks.{face_name, relays_text}
use Rattle.mesh_texts.specs.Trace.{tick_line, sent_line, frame_line, lost_line}
use Rattle.mesh_trace.specs.declared.reading.Reader.{Reader}
use Rattle.mesh_trace.specs.Reading.Lines.{IsLineOf}
use Rattle.mesh_trace.specs.Reading.Readers.{lines_from, IsReaderOf}
use Rattle.mesh_replay.specs.declared.checking.lines.DueLine.{DueLine}
use Rattle.mesh_replay.specs.declared.checking.lines.DueLine.TheVariants as due

-- the line of a frame of these octets that a router with these settings sends on an interface
abbrev pub sent_text : RouterSettings → ℕ → ℕ → List ℕ → List ℕ
sent_text r moment iface bytes = sent_line moment r.name (face_name r.interfaces iface) bytes

-- what stands before the relays in their line: of an interface, or for routing where there is none
abbrev pub front_text : RouterSettings → Option ℕ → List ℕ
front_text r (Some i) = codes "relays " ++ (r.name ++ (codes " flooding " ++ face_name r.interfaces i))
front_text r None = codes "relays " ++ (r.name ++ codes " routing")

-- the line of these relays
abbrev pub told_text : RouterSettings → Option ℕ → List Addr4 → List ℕ
told_text r iface relays = front_text r iface ++ (relays_text relays ++ codes "\n")

-- the text of a line
abbrev pub text_of : DueLine → List ℕ
text_of (due.Tick moment settings) = tick_line moment settings.now.name
text_of (due.Frame line) = frame_line line
text_of (due.Lost moment scenario arc) = lost_line scenario.now moment arc
text_of (due.Relays settings iface relays) = told_text settings.now iface relays.now

-- nothing was read
pub record IsStill (old new : Reader) : Type 0 where
  pub place : new.at ≡ old.at
  pub taken : new.taken ≡ old.taken

-- the next line is this text
pub record IsNextText (trace : List ℕ) (reader : Reader) (text : List ℕ) : Type 0 where
  pub line : List ℕ
  pub lines : List (List ℕ)
  pub next : lines_from trace reader.at ≡ line ∷ lines
  pub is : IsLineOf line text

-- the next line was taken, and is this text
pub record TookText (trace : List ℕ) (old new : Reader) (text : List ℕ) : Type 0 where
  pub line : List ℕ
  pub lines : lines_from trace old.at ≡ line ∷ lines_from trace new.at
  pub taken : new.taken ≡ old.taken + 1
  pub is : IsLineOf line text

-- the next line was taken where it is this text; else it is another, or isn't there, and nothing was read
pub record TakesText (trace : List ℕ) (old new : Reader) (text : List ℕ) (fits : Bool) : Type 0 where
  pub reading : IsReaderOf trace new
  pub takes : IsTrue fits → TookText trace old new text
  pub still : IsFalse fits → IsStill old new
  pub other : IsFalse fits → IsNextText trace old text → ⊥

-- what a text spells: something that is spelled so, and where something valid is, that
pub record ReadsText {A : Type 0} (Valid : A → Type 0) (body : A → List ℕ) (text : List ℕ) (told : Option A) : Type 0 where
  pub some : IfSome told (λ a. body a ≡ text)
  pub only : (a : A) → Valid a → body a ≡ text → told ≡ Some a

-- what the next line tells: something whose text it is, and where it is the text of something valid, that
pub record ReadsNext {A : Type 0} (Valid : A → Type 0) (text : A → List ℕ) (trace : List ℕ) (old new : Reader) (told : Option A) : Type 0 where
  pub reading : IsReaderOf trace new
  pub still : IsStill old new
  pub some : IfSome told (λ a. IsNextText trace old (text a))
  pub only : (a : A) → Valid a → IsNextText trace old (text a) → told ≡ Some a

-- the next line was taken where it is the text of something that is so; else it is the text of nothing that is so, and nothing was read
pub record TakesNext {A : Type 0} (IsSo : A → Type 0) (text : A → List ℕ) (trace : List ℕ) (old new : Reader) (told : Option A) : Type 0 where
  pub reading : IsReaderOf trace new
  pub takes : IfSome told (λ a. IsSo a × TookText trace old new (text a))
  pub still : IsNone told → IsStill old new
  pub none : IsNone told → (a : A) → IsSo a → IsNextText trace old (text a) → ⊥
