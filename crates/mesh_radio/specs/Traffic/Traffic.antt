-- The traffic of a network as it is kept.
use Rattle.mesh_machine.specs.Traffic as net
use Rattle.mesh_radio.specs.declared.traffic.traffic.RadioTraffic.{RadioTraffic}

-- the traffic that is meant
abbrev pub traffic_of : RadioTraffic → net.Traffic
traffic_of t = record { air = t.air; counts = t.counts; draws = t.draws.drawn }
