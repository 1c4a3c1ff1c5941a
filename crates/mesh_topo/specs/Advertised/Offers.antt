-- What is offered of each node by the selectors and attached networks of a router, one after the other.
use Rattle.std.specs.Prelude.{◌≡◌, List, [], ◌∷◌, map, Option, Some, None, is_some, is_none, Bool, true, false, cond, nat_lt, ◌||◌}
use Rattle.std.specs.Ordering.{is_eq}
use Rattle.std.specs.BTreeMap.{BTreeMap, get}
use Rattle.mesh_atoms.specs.declared.addr.Addr4.{Addr4}
use Rattle.mesh_atoms.specs.declared.addr.NetAddr.{NetAddr}
use Rattle.mesh_atoms.specs.declared.codes.metric.Metric.{Metric}
use Rattle.mesh_atoms.specs.declared.settings.Attached4.{Attached4}
use Rattle.mesh_atoms.specs.declared.tc.TcRow.{TcRow}
use Rattle.mesh_atoms.specs.Base.{host}
use Rattle.mesh_atoms.specs.Nodes.{net_cmp}
use Rattle.mesh_topo.specs.declared.advertised.rows.Offer.{Offer}
use Rattle.mesh_topo.specs.declared.advertised.rows.Selector.{Selector}

-- of two metrics, the one of the lesser cost
abbrev pub lesser : Metric → Metric → Metric
lesser a b = cond (nat_lt b.code a.code) b a

-- one offer more: an originator's once it is one's, at the lesser metric; a network gives way to what is there
abbrev pub put_offer : Option Offer → Offer → Offer
put_offer None new = new
put_offer (Some old) new = cond (is_some new.gateway) old (record { origin = old.origin || new.origin; gateway = old.gateway; metric = lesser old.metric new.metric })

-- what is offered of a node after offers of nodes
abbrev pub offered : NetAddr → List (NetAddr × Offer) → Option Offer → Option Offer
offered net [] offer = offer
offered net (e ∷ es) offer = offered net es (cond (is_eq (net_cmp e.0 net)) (Some (put_offer offer e.1)) offer)

-- the new map has what the old one has with these offers
abbrev pub KeepsWithOffers : BTreeMap NetAddr Offer → List (NetAddr × Offer) → BTreeMap NetAddr Offer → Type 0
KeepsWithOffers old offers new = (net : NetAddr) → get net_cmp new net ≡ offered net offers (get net_cmp old net)

-- the offer of an address, maybe as an originator
abbrev pub of_address : Bool → Metric → Addr4 → NetAddr × Offer
of_address origin metric addr = (host addr, record { origin = origin; gateway = None; metric = metric })

-- the offers of a selector: its originator and its addresses
abbrev pub of_selector : Selector → List (NetAddr × Offer)
of_selector x = of_address true x.metric x.originator ∷ map (of_address false x.metric) x.addrs

-- the offer of an attached network
abbrev pub of_network : Attached4 → NetAddr × Offer
of_network a = (a.net, record { origin = false; gateway = Some a.distance; metric = a.metric })

-- the row of a node
abbrev pub row_of : NetAddr × Offer → TcRow
row_of e = record { dest = e.0; origin = e.1.origin; routable = is_none e.1.gateway; gateway = e.1.gateway; metric = Some e.1.metric }
