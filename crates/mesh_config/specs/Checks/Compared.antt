-- What the tables state, as the checks look at it.
use Rattle.std.specs.Prelude.{ℕ, List, [], ◌∷◌, map, position, Bool, not, codes, Option, Some}
use Rattle.std.specs.List.{list_all, list_any, flat_map, slice_get}
use Rattle.mesh_atoms.specs.Literals.{◌>>=◌}
use Rattle.mesh_atoms.specs.declared.addr.Addr4.{Addr4}
use Rattle.mesh_atoms.specs.declared.settings.Attached4.{Attached4}
use Rattle.mesh_atoms.specs.Base.{addr_eq, net_eq}
use Rattle.mesh_atoms.specs.Settings.{name_eq, are_distinct, is_host, Ends}
use Rattle.mesh_config.specs.declared.stated.stated.StatedInterface.{StatedInterface}
use Rattle.mesh_config.specs.declared.stated.stated.StatedRouter.{StatedRouter}
use Rattle.mesh_config.specs.declared.stated.stated.StatedArc.{StatedArc}
use Rattle.mesh_config.specs.Stated.Scenario.{ArcFields}
use Rattle.mesh_atoms.specs.declared.settings.RadioArc.{RadioArc}
use Rattle.mesh_config.specs.Keys.Faults.{Visits}
use Rattle.mesh_config.specs.Checks.Checks.{Identifiers, NamedInterface, duplicate_unless}

-- two of a kind are taken for the same: routers by their names
abbrev pub same_router : StatedRouter → StatedRouter → Bool
same_router a b = name_eq a.head.name b.head.name

-- interfaces by their names
abbrev pub same_interface : StatedInterface → StatedInterface → Bool
same_interface a b = name_eq a.name b.name

-- attached networks by their address and prefix, whatever their metric and distance
abbrev pub same_attached : Attached4 → Attached4 → Bool
same_attached a b = net_eq a.net b.net

-- all addresses of a stated router, in order of its interfaces
abbrev pub router_addrs : StatedRouter → List Addr4
router_addrs router = flat_map (λ i. i.addrs) router.interfaces

-- all addresses of all stated routers
abbrev pub all_addrs : List StatedRouter → List Addr4
all_addrs routers = flat_map router_addrs routers

-- no network that the router attaches is one of these addresses alone
abbrev pub attaches_no_host : List Addr4 → StatedRouter → Bool
attaches_no_host addrs router = list_all (λ a. not (list_any (is_host a.net) addrs)) router.attached

-- what of a stated router must not stand twice
abbrev pub stated_identifiers : StatedRouter → Identifiers
stated_identifiers router = record {
  router_name = router.head.name;
  interface_names = map (λ i. i.name) router.interfaces;
  addrs = router_addrs router;
  nets = map (λ a. (a.net.addr, a.net.prefix)) router.attached;
}

-- the checks for duplicates, of stated routers
abbrev pub stated_duplicates : List StatedRouter → Visits
stated_duplicates routers =
    duplicate_unless (are_distinct same_router routers) (codes "name")
    ∷ duplicate_unless (list_all (λ r. are_distinct same_interface r.interfaces) routers) (codes "name")
    ∷ duplicate_unless (are_distinct addr_eq (all_addrs routers)) (codes "addresses")
    ∷ duplicate_unless (list_all (λ r. are_distinct same_attached r.attached) routers) (codes "net")
    ∷ duplicate_unless (list_all (attaches_no_host (all_addrs routers)) routers) (codes "net")
    ∷ []

-- the places that a stated arc names, from which and to which it leads
abbrev pub arc_places : StatedArc → NamedInterface × NamedInterface
arc_places arc = ((arc.ends.from.router, arc.ends.from.iface), (arc.ends.to.router, arc.ends.to.iface))

-- what an arc of a scenario joins
abbrev pub ends_of : RadioArc → Ends
ends_of arc = record { from = arc.from; from_iface = arc.from_iface; to = arc.to; to_iface = arc.to_iface }

-- what the table of an arc says besides its ends, as the settings have it
abbrev pub arc_fields : RadioArc → ArcFields
arc_fields arc = record { metric = arc.metric; loss = arc.loss; delay = arc.delay }

-- the numbers of a router and of one of its interfaces, among stated routers
abbrev pub stated_place : List StatedRouter → NamedInterface → Option (ℕ × ℕ)
stated_place routers p =
    position (λ r. name_eq p.0 r.head.name) routers >>= λ router. slice_get routers router >>= λ r.
    position (λ i. name_eq p.1 i.name) r.interfaces >>= λ iface. Some (router, iface)

-- the addresses of each interface of each stated router
abbrev pub stated_lists : List StatedRouter → List (List (List Addr4))
stated_lists routers = map (λ r. map (λ i. i.addrs) r.interfaces) routers
