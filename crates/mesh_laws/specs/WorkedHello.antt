-- Two HELLOs that are taken, worked out: the router with the address 10.0.0.2 hears 10.0.0.1 for the first time, and then hears that
-- 10.0.0.1 has lost it.
use Rattle.std.specs.Prelude.{◌≡◌, [], ◌∷◌, AllPairs, Some, None, true, false}
use Rattle.std.proofs.Common.{lit≤, inl}
use Rattle.mesh_atoms.specs.declared.addr.Addr4.{Addr4}
use Rattle.mesh_atoms.specs.declared.codes.metric.Metric.{Metric}
use Rattle.mesh_atoms.specs.declared.hello.Willing.{Willing}
use Rattle.mesh_atoms.specs.declared.hello.LocalIf.TheVariants.{This}
use Rattle.mesh_atoms.specs.declared.hello.LinkStatus.TheVariants.{Lost as Down, Symmetric, Heard}
use Rattle.mesh_atoms.specs.declared.hello.Mpr.{Mpr}
use Rattle.mesh_atoms.specs.declared.hello.HelloRow.{HelloRow}
use Rattle.mesh_atoms.specs.declared.hello.Hello.{Hello}
use Rattle.mesh_atoms.specs.declared.tuples.Link.{Link}
use Rattle.mesh_atoms.specs.declared.tuples.Neighbour.{Neighbour}
use Rattle.mesh_atoms.specs.declared.settings.Interface.{Interface}
use Rattle.mesh_atoms.specs.declared.settings.RouterSettings.{RouterSettings}
use Rattle.mesh_atoms.specs.declared.addr.NetAddr.{NetAddr}
use Rattle.mesh_atoms.specs.Ascends.{more_ascend, one_ascends}
use Rattle.mesh_atoms.specs.Base.{host}
use Rattle.mesh_atoms.specs.Nodes.{IsBefore}
use Rattle.mesh_atoms.specs.State.{Neighbourhood}
use Rattle.mesh_atoms.specs.Live.{LiveNeighbourhood}
use Rattle.mesh_atoms.specs.TakesHello.{TakesHello, Taken}

-- 10.0.0.1, which sends
abbrev pub peer : Addr4
peer = record { 0 = 167772161 }

-- 10.0.0.2, which hears
abbrev pub me : Addr4
me = record { 0 = 167772162 }

-- 10.0.0.3, beyond
abbrev pub third : Addr4
third = record { 0 = 167772163 }

-- the metrics 1, 3 and 5
abbrev pub one : Metric
one = record { code = 0; in_range = lit≤ tt }

abbrev pub three : Metric
three = record { code = 2; in_range = lit≤ tt }

abbrev pub five : Metric
five = record { code = 4; in_range = lit≤ tt }

abbrev pub seven : Willing
seven = record { flooding = 7; routing = 7; flooding_within = lit≤ tt; routing_within = lit≤ tt }

abbrev pub no_relay : Mpr
no_relay = record { flooding = false; routing = false }

-- the sender's own address
abbrev pub own_row : HelloRow
own_row = record { addr = host peer; local = Some This; link = None; other = None; metrics = record { link_in = None; link_out = None; near_in = None; near_out = None }; mpr = no_relay }

-- the receiver, heard at the metric 3
abbrev pub my_row : HelloRow
my_row = record { addr = host me; local = None; link = Some Heard; other = None; metrics = record { link_in = Some three; link_out = None; near_in = None; near_out = None }; mpr = no_relay }

-- a symmetric neighbour of the sender, at the metric 5
abbrev pub third_row : HelloRow
third_row = record { addr = host third; local = None; link = Some Symmetric; other = None; metrics = record { link_in = Some five; link_out = None; near_in = None; near_out = None }; mpr = no_relay }

abbrev pub node : HelloRow → NetAddr
node row = row.addr

pub three_ascend : AllPairs (λ r t. IsBefore r.addr t.addr) (own_row ∷ my_row ∷ third_row ∷ [])
three_ascend = more_ascend node own_row my_row (third_row ∷ []) (inl (lit≤ tt)) (more_ascend node my_row third_row [] (inl (lit≤ tt)) (one_ascends node third_row))

abbrev pub hello : Hello
hello = record { originator = Some peer; validity = 49152; interval = Some 16384; willing = seven; rows = own_row ∷ my_row ∷ third_row ∷ []; ascending = three_ascend }

-- the receiver has one interface, with the in-metric 1, and hold times of 49152 ticks
pub record IsReceiver (settings : RouterSettings) : Type 0 where
  pub face : Interface
  pub interfaces : settings.interfaces ≡ face ∷ []
  pub addrs : face.addrs ≡ me ∷ []
  pub metric : face.metric ≡ one
  pub senders : face.senders ≡ []
  pub link_hold : settings.times.link_hold ≡ 49152
  pub neighbour_hold : settings.times.neighbour_hold ≡ 49152

-- it knows of nothing
abbrev pub nothing : Neighbourhood
nothing = record { links = [] ∷ []; two_hops = [] ∷ []; neighbours = []; losts = [] }

-- the link is SYMMETRIC, at the metrics 1 and 3
abbrev pub link : Link
link = record { addrs = peer ∷ []; heard = 49352; sym = 49352; quality = 100; pending = false; lost = false; link_in = one; link_out = Some three; selector = false }

abbrev pub neighbour : Neighbour
neighbour = record { addrs = peer ∷ []; symmetric = true; metric_in = Some one; metric_out = Some three; willing = seven; selector = false }

-- afterwards it knows of the link, the neighbour, and the address beyond
abbrev pub after : Neighbourhood
after = record {
  links = ((record { addr = peer }, (link, 98504)) ∷ []) ∷ [];
  two_hops = ((record { link = record { addr = peer }; addr = third }, (record { metric_in = Some five; metric_out = None }, 49352)) ∷ []) ∷ [];
  neighbours = (peer, (neighbour, 98504)) ∷ [];
  losts = [];
}

-- the first HELLO, heard at 200, is taken
abbrev pub FirstHelloIsTaken : Type 0
FirstHelloIsTaken = (settings : RouterSettings) → IsReceiver settings → TakesHello settings 200 0 peer hello nothing after Taken

-- the receiver, lost
abbrev pub lost_row : HelloRow
lost_row = record { addr = host me; local = None; link = Some Down; other = None; metrics = record { link_in = None; link_out = None; near_in = None; near_out = None }; mpr = no_relay }

pub loss_ascends : AllPairs (λ r t. IsBefore r.addr t.addr) (own_row ∷ lost_row ∷ [])
loss_ascends = more_ascend node own_row lost_row [] (inl (lit≤ tt)) (one_ascends node lost_row)

-- the second HELLO
abbrev pub later_hello : Hello
later_hello = record { originator = Some peer; validity = 49152; interval = Some 16384; willing = seven; rows = own_row ∷ lost_row ∷ []; ascending = loss_ascends }

-- the link is HEARD
abbrev pub heard_link : Link
heard_link = record { addrs = peer ∷ []; heard = 49452; sym = 0; quality = 100; pending = false; lost = false; link_in = one; link_out = None; selector = false }

abbrev pub heard_neighbour : Neighbour
heard_neighbour = record { addrs = peer ∷ []; symmetric = false; metric_in = None; metric_out = None; willing = seven; selector = false }

-- then the neighbour isn't symmetric, its address is lost, and the address beyond is gone
abbrev pub later : Neighbourhood
later = record {
  links = ((record { addr = peer }, (heard_link, 98604)) ∷ []) ∷ [];
  two_hops = [] ∷ [];
  neighbours = (peer, (heard_neighbour, 98604)) ∷ [];
  losts = (peer, (record {}, 49452)) ∷ [];
}

-- at 300 nothing is expired, and the second HELLO is taken
abbrev pub SecondHelloIsTaken : Type 0
SecondHelloIsTaken =
    (settings : RouterSettings) → IsReceiver settings → LiveNeighbourhood settings 300 after after × TakesHello settings 300 0 peer later_hello after later Taken
