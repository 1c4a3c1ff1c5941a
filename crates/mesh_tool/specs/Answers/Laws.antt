-- What holds of all that the program tells.
use Rattle.mesh_emulate.specs.Laws.{RunsMachines, TellsSettled, PrintsLeastRoutes, PrintsNextHops, TripsAreOnly, TripsReachRouters, TripsReachNetworks, TripsNeverStray, ProbesReachJoined, ProbesTellAll, EmulatedProbesSendOnce}
use Rattle.mesh_emulate.specs.Making.Made.{MadeNetworksRunMachines, MadeNetworksTellSettled, TellsLeastRoutes}
use Rattle.mesh_replay.specs.trace.Positions.Laws.{WholeExactlyForRuns}
use Rattle.mesh_run.specs.Turns.Laws.{TurnsAreRuns, TurnsKeepSound}

-- of every emulation, trip, probe, run of a router, made network and trace, a law each
pub record ProgramLaws : Type 0 where
  -- In every emulation each router is a run of the machine, over the frames, losses and moments of its scenario's network.
  pub machines : RunsMachines
  -- A line of the text of an emulation is `settled yes` exactly where its network is settled at its end.
  pub settled : TellsSettled
  -- Then the routes under a router's name are exactly the least routes of the radio graph,
  pub routes : PrintsLeastRoutes
  -- and the next hop of each leads there.
  pub next_hops : PrintsNextHops
  -- The trip that the text states is the only one over the routes of the network's routers.
  pub trips : TripsAreOnly
  -- In a settled network a packet to another router's address, to which the radio graph has a way over routers that are willing to
  -- route, arrives there, at the least metric;
  pub trips_reach_routers : TripsReachRouters
  -- where all routers are willing to route, no router has the address and a joined router attaches a network that has it, a packet
  -- arrives at a router that attaches the longest such network;
  pub trips_reach_networks : TripsReachNetworks
  -- and none of these packets ends for want of an arc, or goes too far.
  pub trips_never_stray : TripsNeverStray
  -- In a settled network whose routers are all willing to flood and have room for messages, a probe that has a number, and whose hop
  -- limit is no less than the number of routers, reaches each router that is joined with its own,
  pub probes_reach : ProbesReachJoined
  -- and the text says so.
  pub probes_tell : ProbesTellAll
  -- Whatever the network, no router sends twice on an interface in a probe.
  pub probes_once : EmulatedProbesSendOnce
  -- Wherever a router stands in its turns, it has come there by a run of its machine, over whatever an air tells,
  pub turns : TurnsAreRuns
  -- and is sound.
  pub sound_turns : TurnsKeepSound
  -- In every run of a made network each router is a run of the machine.
  pub made_machines : MadeNetworksRunMachines
  -- A line of the text of one is `settled yes` exactly where the network is settled at its end.
  pub made_settled : MadeNetworksTellSettled
  -- Then the text counts the least routes of the radio graph.
  pub made_routes : TellsLeastRoutes
  -- A trace is whole exactly where it is, line by line, that of a run of the scenario's network, from its opening to its end.
  pub traces : WholeExactlyForRuns
