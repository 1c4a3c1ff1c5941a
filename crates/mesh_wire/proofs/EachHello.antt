-- Each message reads as a HELLO or breaks a first rule of one.
use Rattle.mesh_wire.proofs.Common.{◌≡◌, ℕ, ◌<◌, ◌/◌, ◌%◌, inl, inr, refl, arith, None, cases_eq, MessageFields, HelloIs, BreaksHello, HopLimit, HopCount, WrongWilling, HasOctets, ReadsOrBreaks}
use Rattle.mesh_wire.specs.HelloRules.{AddressWidth, NoValidity, WrongInterval}
use Rattle.mesh_wire.proofs.Deciding.{other_or, validity_or, interval_or, willing_or, willing_octet}
use Rattle.mesh_wire.proofs.HelloHeading.{first_number, width_kept, limit_kept, count_kept, validity_kept, interval_kept, willing_kept}
use Rattle.mesh_wire.proofs.HelloRead.{hello_laws}
use Rattle.mesh_wire.proofs.Reading.{outcome_of}
use Rattle.mesh_wire.proofs.InOrder.{NoneBelow, Decided, Outcome, first_or_none, of_either}

-- ---- the rules in order

module _ (m : MessageFields) (octets : HasOctets m) where
  -- each rule on the header is broken or kept
  decided : Decided (BreaksHello m) 20 6
  decided = (
    elim (cases_eq m.width 4) [ inl w ↦ inr (width_kept m w) | inr other ↦ inl (AddressWidth other) ],
    (
      elim (other_or 1 m.limit) [ inl (limit, is, other) ↦ inl (HopLimit limit is other) | inr none ↦ inr (limit_kept m none) ],
      (
        elim (other_or 0 m.count) [ inl (count, is, other) ↦ inl (HopCount count is other) | inr none ↦ inr (count_kept m none) ],
        (
          elim (validity_or m 1) [ inl v ↦ inr (validity_kept m v.0 v.1) | inr none ↦ inl (NoValidity none) ],
          (
            elim (interval_or m 1) [ inl i ↦ inr (interval_kept m i.0 i.1) | inr none ↦ inl (WrongInterval none) ],
            (elim (willing_or m) [ inl w ↦ inr (willing_kept m w.0 w.1) | inr none ↦ inl (WrongWilling none) ], tt),
          ),
        ),
      ),
    ),
  )

  -- where each is kept, there is a header
  of_kept : NoneBelow (BreaksHello m) 26 → Outcome (HelloIs m) (BreaksHello m)
  of_kept kept =
      let width : m.width ≡ 4 = elim (cases_eq m.width 4) [ inl w ↦ w | inr other ↦ absurd (never 20 (AddressWidth other) (omega arith)) ] in
      let v = of_either (never 23) (omega arith) (validity_or m 1) NoValidity in
      let i = of_either (never 24) (omega arith) (interval_or m 1) WrongInterval in
      let w = of_either (never 25) (omega arith) (willing_or m) WrongWilling in
      let octet = willing_octet m octets w.0 w.1 in
      outcome_of (hello_laws m) (record {
        validity = v.0;
        interval = i.0;
        willing = record { flooding = w.0 / 16; routing = w.0 % 16; flooding_within = omega (arith, octet); routing_within = omega arith };
      }) (record {
        width = width;
        limit = λ (limit, is, other). never 21 (HopLimit limit is other) (omega arith);
        count = λ (count, is, other). never 22 (HopCount count is other) (omega arith);
        validity = v.1;
        interval = i.1;
        willing = (w.0, w.1, refl, refl);
      })
    where
      never : (k : ℕ) → BreaksHello m k None → k < 26 → ⊥
      never k h less = let least = kept k None h in omega (arith, least, less)

  outcome : Outcome (HelloIs m) (BreaksHello m)
  outcome = elim (first_or_none (BreaksHello m) 20 6 (first_number m) decided) [ inl (k, first) ↦ inr (k, None, first) | inr kept ↦ of_kept kept ]

  pub hello_or_not : ReadsOrBreaks (HelloIs m) (BreaksHello m)
  hello_or_not = (outcome, λ keeps n a f. keeps n a f.broken)
