use Rattle.mesh_bases.proofs.Common.{◌≡◌, ◌++◌, List, take, IsTrue, MessageFields, Fate, Frame, AreSpelled, TakesMessages, SameNear, SameAdvertised, kept_fates, AreReadAs}
use Rattle.mesh_bases.proofs.held.holding.InformationBases.take_typed.Given as goal

abbrev pub invariant-loop-i : goal.invariant-loop-i
invariant-loop-i g l = record {
  taken : (given : List Fate) × (sent : List Frame) × (l.fates ≡ kept_fates l.keeps_fates given) × (l.out ≡ l.initial.out ++ sent)
      × ((messages : List MessageFields) → AreSpelled l.bytes messages l.spans → AreReadAs messages l.typed
      → TakesMessages l.initial.self.settings l.own l.arrival l.bytes l.initial.self.bases (take l.i messages) (take l.i l.spans) l.self.bases sent given);
  settings : l.self.settings ≡ l.initial.self.settings;
  near : IsTrue l.quiet.near → SameNear l.initial.self.bases.neighbourhood l.arrival.now l.self.bases.neighbourhood l.arrival.now;
  advertised : IsTrue l.quiet.advertised → SameAdvertised l.initial.self.bases.topology l.self.bases.topology;
}
