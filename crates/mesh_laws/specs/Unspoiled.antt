-- States and answers that the definitions take. Of lost addresses, messages and TCs, spoiled ones come from these by one thing, as spoiled
-- neighbours do from those of the worked HELLOs.
use Rattle.std.specs.Prelude.{◌+◌, [], ◌∷◌, Some, None, true, false}
use Rattle.mesh_atoms.specs.declared.tc.Tc.{Tc}
use Rattle.mesh_atoms.specs.declared.tc.TcRow.{TcRow}
use Rattle.mesh_atoms.specs.declared.settings.Times.{Times}
use Rattle.mesh_atoms.specs.declared.settings.RouterSettings.{RouterSettings}
use Rattle.mesh_atoms.specs.Ascends.{one_ascends}
use Rattle.mesh_atoms.specs.AfterTc.{AfterTc}
use Rattle.mesh_atoms.specs.Base.{host}
use Rattle.mesh_atoms.specs.Live.{LiveNeighbourhood}
use Rattle.mesh_atoms.specs.State.{Neighbourhood, TopologyBase, NotedMessages}
use Rattle.mesh_flood.specs.declared.verdict.Heading.{Heading}
use Rattle.mesh_flood.specs.declared.verdict.Forward.TheVariants as forward
use Rattle.mesh_flood.specs.Noting.{AfterNote}
use Rattle.mesh_flood.specs.Verdict.{key_of}
use Rattle.mesh_laws.specs.WorkedHello.{peer, me, third, one, three}

-- Lost addresses

-- 10.0.0.1 is told as lost until 49452, and nothing else is known
abbrev pub silent : Neighbourhood
silent = record { links = [] ∷ []; two_hops = [] ∷ []; neighbours = []; losts = (peer, (record {}, 49452)) ∷ [] }

-- at 400 it is still told so
abbrev pub LostIsKept : Type 0
LostIsKept = (settings : RouterSettings) → LiveNeighbourhood settings 400 silent silent

-- Messages

-- a TC of 10.0.0.1
abbrev pub heading : Heading
heading = record { kind = 1; originator = peer; sequence = 7; limit = Some 3; count = Some 0 }

-- nothing is noted
abbrev pub quiet : NotedMessages
quiet = record { received = [] ∷ []; processed = []; forwarded = [] }

-- the TC is noted from 200 on, as received, processed and forwarded
abbrev pub noted : Times → NotedMessages
noted times = record {
  received = ((key_of heading, (record {}, 200 + times.received_hold)) ∷ []) ∷ [];
  processed = (key_of heading, (record {}, 200 + times.processed_hold)) ∷ [];
  forwarded = (key_of heading, (record {}, 200 + times.forwarded_hold)) ∷ [];
}

-- so it is at 200 where it is processed and forwarded
abbrev pub MessageIsNoted : Type 0
MessageIsNoted = (times : Times) → AfterNote times 200 0 heading true forward.Do quiet (noted times)

-- and not at all where it isn't processed, and came from no symmetric link
abbrev pub MessageIsPassedOver : Type 0
MessageIsPassedOver = (times : Times) → AfterNote times 200 0 heading false forward.NoSender quiet quiet

-- TCs

-- 10.0.0.3 as a router, as an address, and as a network two hops beyond, at the metric 3
abbrev pub row : TcRow
row = record { dest = host third; origin = true; routable = true; gateway = Some 2; metric = Some three }

-- the complete TC of 10.0.0.1 with the number 7
abbrev pub tc : Tc
tc = record {
  originator = peer;
  sequence = 7;
  ansn = 7;
  complete = true;
  validity = 49152;
  interval = None;
  rows = row ∷ [];
  ascending = one_ascends (λ (r : TcRow). r.dest) row;
}

-- what 10.0.0.1 advertised with the number 6
abbrev pub outdated : TopologyBase
outdated = record {
  advertisers = (peer, (record { ansn = 6 }, 500)) ∷ [];
  routers = (record { from = peer; to = me }, (record { ansn = 6; metric = one }, 500)) ∷ [];
  addresses = (record { from = peer; addr = me }, (record { ansn = 6; metric = one }, 500)) ∷ [];
  networks = (record { from = peer; net = host me }, (record { ansn = 6; distance = 1; metric = one }, 500)) ∷ [];
}

-- and what its TC leaves
abbrev pub advertised : TopologyBase
advertised = record {
  advertisers = (peer, (record { ansn = 7 }, 49352)) ∷ [];
  routers = (record { from = peer; to = third }, (record { ansn = 7; metric = three }, 49352)) ∷ [];
  addresses = (record { from = peer; addr = third }, (record { ansn = 7; metric = three }, 49352)) ∷ [];
  networks = (record { from = peer; net = host third }, (record { ansn = 7; distance = 2; metric = three }, 49352)) ∷ [];
}

-- the TC, at 200
abbrev pub TcIsTaken : Type 0
TcIsTaken = AfterTc 200 tc outdated advertised
