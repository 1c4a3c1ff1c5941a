use Rattle.mesh_machine.proofs.Opening.{empties}
use Rattle.mesh_bases.proofs.held.holding.InformationBases.new.Goals as goal

pub returns-clause-empty : goal.returns-clause-empty
returns-clause-empty g c = empties _ _ c.in_ok-nhdp.ensures.empty
    c.in_ok-topology.ensures.advertisers c.in_ok-topology.ensures.routers c.in_ok-topology.ensures.addresses c.in_ok-topology.ensures.networks
    c.in_ok-flood.ensures.interfaces c.in_ok-flood.ensures.received c.in_ok-flood.ensures.processed c.in_ok-flood.ensures.forwarded
