-- What the calls of the set of neighbours make of it.
use Rattle.std.specs.Prelude.{◌≡◌, ℕ, ◌≤◌, ◌≢◌, ◌↔◌, ◌&&◌, ◌⊎◌, List, Contains, Option, Some, None, IsTrue, Bool}
use Rattle.mesh_atoms.specs.declared.addr.Addr4.{Addr4}
use Rattle.mesh_atoms.specs.declared.hello.Willing.{Willing}
use Rattle.mesh_atoms.specs.declared.tuples.Neighbour.{Neighbour}
use Rattle.mesh_atoms.specs.Base.{Base, find, addr_eq}
use Rattle.mesh_atoms.specs.Words.{IsLeastMetric, IsKept}
use Rattle.mesh_atoms.specs.AfterHello.{Matches, announced}
use Rattle.mesh_nbrs.specs.declared.neighbours.LinkNote.{LinkNote}
use Rattle.mesh_nbrs.specs.declared.summary.Summary.{Summary}

-- all tuples that match by originator or address become the one that the HELLO tells of (RFC 6130, section 12.3)
pub record Replaces (originator : Addr4) (listed : List Addr4) (willing : Willing) (selector : Bool) (until : ℕ)
    (old new : Base Addr4 Neighbour) : Type 0 where
  pub one : find addr_eq new originator ≡ Some (announced listed willing selector, until)
  pub others : (o : Addr4) → o ≢ originator → IsKept (λ e. Matches originator listed o e.0 → ⊥) (find addr_eq old o) (find addr_eq new o)

-- a neighbour that a HELLO with this originator and these addresses speaks of (RFC 6130, section 12.3)
abbrev pub IsSpokenOf : Base Addr4 Neighbour → Addr4 → List Addr4 → Addr4 → Type 0
IsSpokenOf base told listed o = (e : Neighbour × ℕ) × (find addr_eq base o ≡ Some e) × Matches told listed o e.0

-- By the notes of the links (RFC 6130, section 13, and RFC 7181, section 17.6)

-- a note of a link of the neighbour with these addresses: its key is one of them
abbrev pub HasNote : List LinkNote → List Addr4 → LinkNote → Type 0
HasNote notes addrs note = Contains notes note × Contains addrs note.key.addr

-- none is
abbrev pub HasNoNote : List LinkNote → List Addr4 → Type 0
HasNoNote notes addrs = (note : LinkNote) → HasNote notes addrs note → ⊥

-- one of a SYMMETRIC link
abbrev pub HasSymmetricNote : List LinkNote → List Addr4 → LinkNote → Type 0
HasSymmetricNote notes addrs note = HasNote notes addrs note × IsTrue note.symmetric

-- the neighbour's moment is the latest of its notes'; it is symmetric where one of them is, and has the least metrics of those
pub record IsByNotes (notes : List LinkNote) (n : Neighbour) (until : ℕ) : Type 0 where
  pub latest : (note : LinkNote) × HasNote notes n.addrs note × (note.until ≡ until)
  pub no_later : (note : LinkNote) → HasNote notes n.addrs note → note.until ≤ until
  pub symmetric : IsTrue n.symmetric ↔ ((note : LinkNote) × HasSymmetricNote notes n.addrs note)
  pub metric_in : IsLeastMetric (λ m. (note : LinkNote) × HasSymmetricNote notes n.addrs note × (note.link_in ≡ m)) n.metric_in
  pub metric_out : IsLeastMetric (λ m. (note : LinkNote) × HasSymmetricNote notes n.addrs note × (note.link_out ≡ Some m)) n.metric_out

-- a neighbour that stays has its addresses and willingness, and its selector flag only where it is symmetric
pub record RenewsBy (notes : List LinkNote) (old new : Neighbour) (until : ℕ) : Type 0 where
  pub addrs : new.addrs ≡ old.addrs
  pub willing : new.willing ≡ old.willing
  pub selector : new.selector ≡ (old.selector && new.symmetric)
  pub by_notes : IsByNotes notes new until

-- what becomes of a neighbour: it goes where it has no note
abbrev pub RestoresBy : List LinkNote → Option (Neighbour × ℕ) → Option (Neighbour × ℕ) → Type 0
RestoresBy notes None new = new ≡ None
RestoresBy notes (Some e) None = HasNoNote notes e.0.addrs
RestoresBy notes (Some e) (Some f) = RenewsBy notes e.0 f.0 f.1

-- what some notes tell together, by itself: the same, with the moment 0 where there are none
pub record IsNotesSummary (Is : LinkNote → Type 0) (s : Summary) : Type 0 where
  pub latest : (s.until ≡ 0) ⊎ ((note : LinkNote) × Is note × (note.until ≡ s.until))
  pub no_later : (note : LinkNote) → Is note → note.until ≤ s.until
  pub symmetric : IsTrue s.symmetric ↔ ((note : LinkNote) × (Is note × IsTrue note.symmetric))
  pub metric_in : IsLeastMetric (λ m. (note : LinkNote) × (Is note × IsTrue note.symmetric) × (note.link_in ≡ m)) s.metric_in
  pub metric_out : IsLeastMetric (λ m. (note : LinkNote) × (Is note × IsTrue note.symmetric) × (note.link_out ≡ Some m)) s.metric_out

-- the neighbour with what its notes tell
abbrev pub by_summary : Summary → Neighbour → Neighbour
by_summary s n = record n { symmetric = s.symmetric; metric_in = s.metric_in; metric_out = s.metric_out; selector = n.selector && s.symmetric }

-- what becomes of a neighbour that has notes or not: it has what they tell
abbrev pub HasSummary : List LinkNote → Option (Neighbour × ℕ) → Option (Neighbour × ℕ) → Type 0
HasSummary notes None new = new ≡ None
HasSummary notes (Some e) new = (s : Summary) × IsNotesSummary (HasNote notes e.0.addrs) s × (new ≡ Some (by_summary s e.0, s.until))
