-- The lines of rows in ascending order: one for each address.
use Rattle.mesh_wire.proofs.Common.{◌≡◌, ℕ, inl, inr, List, [], ◌∷◌, map, sym, ap, ◌∙◌, Contains, AllPairs, NetAddr, IsBefore, MessageFields, PacketFields, Span, Spells, AddressRecord, IsSoleMessage, alone, contains_map_cases as unmapped, contains_cases, contains_none as none_in, all_pairs_tail, all_pairs_head, not_before_itself, same_ok, Option, Keeps, ReadsBack}
use Rattle.mesh_packet.proofs.Packets.{packet_again}

module _ {Row : Type 0} (addr_of : Row → NetAddr) where
  -- an ascending list has one row of an address
  pub one_row : (rows : List Row) → AllPairs (λ a b. IsBefore (addr_of a) (addr_of b)) rows → (r s : Row) → Contains rows r → Contains rows s → addr_of r ≡ addr_of s → r ≡ s
  one_row [] up r s has_r has_s e = absurd (none_in r has_r)
  one_row (x ∷ rows) up r s has_r has_s e = elim (contains_cases x rows r has_r) [
    | inl is_r ↦ elim (contains_cases x rows s has_s) [
      | inl is_s ↦ sym is_r ∙ is_s
      | inr later ↦ absurd (not_before_itself (addr_of x) (addr_of s) (ap addr_of is_r ∙ e) (all_pairs_head (λ a b. IsBefore (addr_of a) (addr_of b)) x rows up s later))
    ]
    | inr later_r ↦ elim (contains_cases x rows s has_s) [
      | inl is_s ↦ absurd (not_before_itself (addr_of x) (addr_of r) (ap addr_of is_s ∙ sym e) (all_pairs_head (λ a b. IsBefore (addr_of a) (addr_of b)) x rows up r later_r))
      | inr later_s ↦ one_row rows (all_pairs_tail (λ a b. IsBefore (addr_of a) (addr_of b)) x rows up) r s later_r later_s e
    ]
  ]

-- lines of one address are the same
pub one_line : {Row : Type 0} (addr_of : Row → NetAddr) (f : Row → AddressRecord) (rows : List Row) → ((r : Row) → (f r).net ≡ addr_of r) → AllPairs (λ a b. IsBefore (addr_of a) (addr_of b)) rows →
    (a b : AddressRecord) → Contains (map f rows) a → Contains (map f rows) b → a.net ≡ b.net → a ≡ b
one_line addr_of f rows of up a b has_a has_b e =
    let (r, among_r, is_r) = unmapped f rows a has_a in
    let (s, among_s, is_s) = unmapped f rows b has_b in
    let same : r ≡ s = one_row addr_of rows up r s among_r among_s (sym (of r) ∙ ap (λ (l : AddressRecord). l.net) is_r ∙ e ∙ sym (ap (λ (l : AddressRecord). l.net) is_s) ∙ of s) in
    sym is_r ∙ ap f same ∙ is_s

-- what the octets of a message alone spell has that message alone
pub alone_again : (m : MessageFields) (bytes : List ℕ) → IsSoleMessage m bytes → (packet : PacketFields) (spans : List Span) → Spells packet spans bytes → packet.messages ≡ m ∷ []
alone_again m bytes is packet spans spelled =
    ap (λ (x : PacketFields × List Span). x.0.messages) (same_ok {a = (packet, spans)} {b = (alone m, is.span ∷ [])} (packet_again bytes packet spans spelled) (packet_again bytes (alone m) (is.span ∷ []) is.spelled))

-- so they read back as the value that the message says, where it says no other
pub reads_back : {X : Type 0} (kind : ℕ) (Is : MessageFields → X → Type 0) (Breaks : MessageFields → ℕ → Option NetAddr → Type 0) (value : X) (m : MessageFields) → m.kind ≡ kind → Keeps (Breaks m) → ((other : X) → Is m other → other ≡ value) →
    (bytes : List ℕ) → IsSoleMessage m bytes → (packet : PacketFields) (spans : List Span) → Spells packet spans bytes → ReadsBack kind Is Breaks value packet
reads_back kind Is Breaks value m of_type keeps same bytes is packet spans spelled = record { message = m; one = alone_again m bytes is packet spans spelled; of_type = of_type; keeps = keeps; same = same }
