-- Each message reads as a TC or breaks a first rule of one.
use Rattle.mesh_wire.proofs.Common.{common_steps, ◌≡◌, ℕ, ◌<◌, ◌⊎◌, inl, inr, refl, arith, Option, Some, None, cases_eq, Addr4, address_in, none_not, RawAddr, MessageFields, OriginatorIs, HasOctets, ReadsOrBreaks, TcIs, BreaksTc, AddressWidth, NoOriginator, NoSequence, NoValidity, WrongInterval, Content, distance_of}
use Rattle.mesh_wire.proofs.Deciding.{validity_or, interval_or, content_or}
use Rattle.mesh_wire.proofs.InOrder.{NoneBelow, Decided, Outcome, first_or_none, of_either}
use Rattle.mesh_wire.proofs.TcHeading.{first_number, width_kept, header_kept, validity_kept, interval_kept, content_kept, an_originator}
use Rattle.mesh_wire.proofs.TcRead.{tc_laws}
use Rattle.mesh_wire.proofs.Reading.{outcome_of}

self_of : RawAddr → Addr4
self_of address = record { 0 = address_in address.octets }

self_is : (address : RawAddr) (o : Option RawAddr) → o ≡ Some address → OriginatorIs o (Some (self_of address))
unfolding self_of
self_is address o e = grind (arith, common_steps)

there_or : {A : Type 0} (o : Option A) → ((a : A) × (o ≡ Some a)) ⊎ (o ≡ None)
there_or None = inr refl
there_or (Some a) = inl (a, refl)

module _ (m : MessageFields) (octets : HasOctets m) where
  -- each rule on the header is broken or kept
  decided : Decided (BreaksTc m) 32 5
  decided = (
    elim (cases_eq m.width 4) [ inl w ↦ inr (width_kept m w) | inr other ↦ inl (AddressWidth other) ],
    (
      elim (there_or m.originator) [
        | inr none ↦ inl (NoOriginator none)
        | inl o ↦ elim (there_or m.sequence) [ inr none ↦ inl (NoSequence none) | inl s ↦ inr (header_kept m (an_originator m.originator (self_of o.0) (self_is o.0 m.originator o.1)) (λ none. none_not none s.1)) ]
      ],
      (
        elim (validity_or m (distance_of m.count)) [ inl v ↦ inr (validity_kept m v.0 v.1) | inr none ↦ inl (NoValidity none) ],
        (
          elim (interval_or m (distance_of m.count)) [ inl i ↦ inr (interval_kept m i.0 i.1) | inr none ↦ inl (WrongInterval none) ],
          (elim (content_or m) [ inl c ↦ inr (content_kept m c.0.0 c.0.1 c.1) | inr none ↦ inl (Content (λ ansn complete. none (ansn, complete))) ], tt),
        ),
      ),
    ),
  )

  -- where each is kept, there is a header
  of_kept : NoneBelow (BreaksTc m) 37 → Outcome (TcIs m) (BreaksTc m)
  of_kept kept =
      let width : m.width ≡ 4 = elim (cases_eq m.width 4) [ inl w ↦ w | inr other ↦ absurd (never 32 (AddressWidth other) (omega arith)) ] in
      let o : (a : RawAddr) × (m.originator ≡ Some a) = elim (there_or m.originator) [ inl there ↦ there | inr none ↦ absurd (never 33 (NoOriginator none) (omega arith)) ] in
      let s : (n : ℕ) × (m.sequence ≡ Some n) = elim (there_or m.sequence) [ inl there ↦ there | inr none ↦ absurd (never 33 (NoSequence none) (omega arith)) ] in
      let v = of_either (never 34) (omega arith) (validity_or m (distance_of m.count)) NoValidity in
      let i = of_either (never 35) (omega arith) (interval_or m (distance_of m.count)) WrongInterval in
      let c = of_either (never 36) (omega arith) (content_or m) (λ none. Content (λ ansn complete. none (ansn, complete))) in
      outcome_of (tc_laws m) (record { originator = self_of o.0; sequence = s.0; content = record { ansn = c.0.0; complete = c.0.1 }; validity = v.0; interval = i.0 })
      (record { width = width; originator = self_is o.0 m.originator o.1; sequence = s.1; validity = v.1; interval = i.1; content = c.1 })
    where
      never : (k : ℕ) → BreaksTc m k None → k < 37 → ⊥
      never k h less = let least = kept k None h in omega (arith, least, less)

  outcome : Outcome (TcIs m) (BreaksTc m)
  outcome = elim (first_or_none (BreaksTc m) 32 5 (first_number m) decided) [ inl (k, first) ↦ inr (k, None, first) | inr kept ↦ of_kept kept ]

  pub tc_or_not : ReadsOrBreaks (TcIs m) (BreaksTc m)
  tc_or_not = (outcome, λ keeps n a f. keeps n a f.broken)
