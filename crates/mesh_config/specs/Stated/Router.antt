-- The tables of a router: its interfaces, and the networks that it attaches.
use Rattle.std.specs.Prelude.{◌≡◌, ◌≤◌, ℕ, List, [], ◌∷◌, codes, Ok, Err}
use Rattle.toml.specs.Data.{Data, Members, no_members, member, string}
use Rattle.mesh_atoms.specs.declared.addr.Addr4.{Addr4}
use Rattle.mesh_atoms.specs.declared.hello.Willing.{Willing}
use Rattle.mesh_atoms.specs.declared.codes.metric.Metric.{Metric}
use Rattle.mesh_atoms.specs.declared.settings.Attached4.{Attached4}
use Rattle.mesh_atoms.specs.declared.settings.NearHold.{NearHold}
use Rattle.mesh_atoms.specs.declared.settings.RouterSettings.{RouterSettings}
use Rattle.mesh_atoms.specs.declared.settings.TheConstants.{DEFAULT_TC_ROWS}
use Rattle.mesh_atoms.specs.Codes.Codes.{metric_value}
use Rattle.mesh_atoms.specs.Literals.{name_of, address_of, net_of}
use Rattle.mesh_config.specs.declared.stated.stated.StatedRouter.{StatedRouter}
use Rattle.mesh_config.specs.declared.stated.router_head.RouterHead.{RouterHead}
use Rattle.mesh_config.specs.declared.stated.stated.StatedInterface.{StatedInterface}
use Rattle.mesh_config.specs.Keys.Faults.{ReadValue, Visits, visit, first, listed, then_turned}
use Rattle.mesh_config.specs.Keys.Values.{optional, required, whole, text, array, array_or_none, each_turned, table_visits, ticks}
use Rattle.mesh_config.specs.Stated.Tables.{tables_visits, Each}
use Rattle.mesh_config.specs.Stated.Rules.{threshold_visits, AreThresholds, plain_thresholds, NearHoldIs, tc_rows, near_holds, near_holds_visits}

-- a moment up to an hour, in ticks; 0 where it is absent
abbrev pub moment : List ℕ → Members → ReadValue ℕ
moment key table = then_turned ticks (optional 0 (whole 0 3600000) key table)

-- a name
abbrev pub name : Members → ReadValue (List ℕ)
name = required (text name_of) (codes "name")

-- the metric is the least that is at least the number asked for
pub record RoundsUp (asked : ℕ) (metric : Metric) : Type 0 where
  pub enough : asked ≤ metric_value metric
  pub least : (other : Metric) → asked ≤ metric_value other → metric.code ≤ other.code

-- the metric rounds up the number that is read; none does where a fault stands
abbrev pub IsMetricRead : ReadValue ℕ → Metric → Type 0
IsMetricRead (Ok asked) metric = RoundsUp asked metric
IsMetricRead (Err f) metric = ⊥

-- the number that a metric must be at least; it must stand
abbrev pub metric_asked : Members → ReadValue ℕ
metric_asked = required (whole 1 16776960) (codes "metric")

-- ---- an interface

-- its 1 to 4 addresses, none of them 0.0.0.0
abbrev pub addresses : Members → ReadValue (List Addr4)
addresses table = each_turned (text address_of) (codes "addresses") (array 1 4 (codes "addresses") table)

-- its name is visited, and then its addresses
abbrev pub named_visits : Members → Visits
named_visits table = visit (name table) ∷ visit (addresses table) ∷ []

-- the visits of the table of an interface, in a scenario
abbrev pub interface_visits : Members → Visits
interface_visits table = table_visits (codes "name" ∷ codes "addresses" ∷ []) table (named_visits table)

-- what the table of an interface says
pub record InterfaceFields : Type 0 where
  pub interface_name : List ℕ
  pub addrs : List Addr4

-- the fields hold the name and the addresses that the table has, both without a fault
pub record AreInterfaceFields (table : Members) (fields : InterfaceFields) : Type 0 where
  pub is_name : name table ≡ Ok fields.interface_name
  pub is_addrs : addresses table ≡ Ok fields.addrs

-- what a stated interface keeps of its table
abbrev pub stated_interface_fields : StatedInterface → InterfaceFields
stated_interface_fields stated = record { interface_name = stated.name; addrs = stated.addrs }

-- the stated interface is what the table of an interface says
abbrev pub InterfaceIs : Members → StatedInterface → Type 0
InterfaceIs table stated = AreInterfaceFields table (stated_interface_fields stated)

-- ---- an attached network

-- a network: its address, and its prefix of 0 to 32 bits; it must stand
abbrev pub net : Members → ReadValue (Addr4 × ℕ)
net = required (text net_of) (codes "net")

-- how far it is behind the router, from 0 to 255 hops (AL_dist of RFC 7181, section 7.2); 1 where it is absent
abbrev pub distance : Members → ReadValue ℕ
distance = optional 1 (whole 0 255) (codes "distance")

-- the visits of the table of an attached network
abbrev pub attached_visits : Members → Visits
attached_visits table =
    table_visits (codes "net" ∷ codes "metric" ∷ codes "distance" ∷ []) table
    (visit (net table) ∷ visit (metric_asked table) ∷ visit (distance table) ∷ [])

-- the attached network is what its table says, with its metric rounded up
pub record AttachedIs (table : Members) (attached : Attached4) : Type 0 where
  pub is_net : net table ≡ Ok (attached.net.addr, attached.net.prefix)
  pub is_metric : IsMetricRead (metric_asked table) attached.metric
  pub is_distance : distance table ≡ Ok attached.distance

-- ---- a router

-- the willingness for flooding, from 0 (WILL_NEVER) to 15 (WILL_ALWAYS); 7 (WILL_DEFAULT) where it is absent
abbrev pub flooding : Members → ReadValue ℕ
flooding = optional 7 (whole 0 15) (codes "flooding")

-- the willingness for routing, in the same range and with the same default
abbrev pub routing : Members → ReadValue ℕ
routing = optional 7 (whole 0 15) (codes "routing")

-- the moment of the first HELLO, in ticks; 0 where it is absent
abbrev pub hello_at : Members → ReadValue ℕ
hello_at = moment (codes "hello_at_ms")

-- the moment of the first TC, in ticks; 0 where it is absent
abbrev pub tc_at : Members → ReadValue ℕ
tc_at = moment (codes "tc_at_ms")

-- the elements that are to be the tables of its interfaces, from 1 to 8; they must stand
abbrev pub interfaces : Members → ReadValue (List Data)
interfaces = array 1 8 (codes "interface")

-- the elements that are to be the tables of the networks that it attaches, at most 64; none where they are absent
abbrev pub attached : Members → ReadValue (List Data)
attached = array_or_none 64 (codes "attached")

-- the keys that the table of a router may have
abbrev pub router_keys : List (List ℕ)
router_keys =
    codes "name" ∷ codes "flooding" ∷ codes "routing" ∷ codes "hyst_accept" ∷ codes "hyst_reject" ∷ codes "tc_rows" ∷ codes "near_hold"
    ∷ codes "hello_at_ms" ∷ codes "tc_at_ms" ∷ codes "interface" ∷ codes "attached" ∷ []

-- the visits of the table of a router before its interfaces
abbrev pub head_visits : Members → Visits
head_visits table =
    table_visits router_keys table
    (visit (name table)
    ∷ visit (flooding table)
    ∷ visit (routing table)
    ∷ first (threshold_visits table)
    ∷ visit (tc_rows table)
    ∷ first (near_holds_visits table)
    ∷ visit (hello_at table)
    ∷ visit (tc_at table)
    ∷ [])

-- the number of the interfaces is visited, and then the table of each
abbrev pub interfaces_visits : Members → Visits
interfaces_visits table = visit (interfaces table) ∷ tables_visits interface_visits (codes "interface") (listed (interfaces table))

-- the number of the attached networks is visited, and then the table of each
abbrev pub networks_visits : Members → Visits
networks_visits table = visit (attached table) ∷ tables_visits attached_visits (codes "attached") (listed (attached table))

-- the table of a router is visited: what comes before its interfaces, these, and the networks that it attaches
abbrev pub router_visits : Members → Visits
router_visits table = first (head_visits table) ∷ first (interfaces_visits table) ∷ first (networks_visits table) ∷ []

-- what the table of a router says of the router itself, but for the thresholds of its links
pub record RouterFields : Type 0 where
  pub router_name : List ℕ
  pub willing : Willing
  pub tc_rows : ℕ
  pub near_hold : List NearHold
  pub hello_at : ℕ
  pub tc_at : ℕ

-- the table says these fields, each without a fault
pub record AreRouterFields (table : Members) (fields : RouterFields) : Type 0 where
  pub is_name : name table ≡ Ok fields.router_name
  pub is_flooding : flooding table ≡ Ok fields.willing.flooding
  pub is_routing : routing table ≡ Ok fields.willing.routing
  pub is_tc_rows : tc_rows table ≡ Ok fields.tc_rows
  pub are_near_holds : Each NearHoldIs (listed (near_holds table)) fields.near_hold
  pub is_hello_at : hello_at table ≡ Ok fields.hello_at
  pub is_tc_at : tc_at table ≡ Ok fields.tc_at

-- the fields of what a stated router keeps of itself
abbrev pub head_fields : RouterHead → RouterFields
head_fields head = record {
  router_name = head.name;
  willing = head.rules.willing;
  tc_rows = head.rules.tc.rows;
  near_hold = head.rules.tc.near_hold;
  hello_at = head.rules.hello_at;
  tc_at = head.rules.tc_at;
}

-- the same fields, as the settings have them
abbrev pub router_fields : RouterSettings → RouterFields
router_fields r = record {
  router_name = r.name;
  willing = r.willing;
  tc_rows = r.tc_rows;
  near_hold = r.near_hold;
  hello_at = r.hello_at;
  tc_at = r.tc_at;
}

-- what is kept of the router itself is what the table says: its fields, and the thresholds of its links
pub record HeadIs (table : Members) (head : RouterHead) : Type 0 where
  pub are_fields : AreRouterFields table (head_fields head)
  pub are_thresholds : AreThresholds table head.rules.thresholds.accept head.rules.thresholds.reject

-- a table that has only this name
abbrev pub only_name : List ℕ → Members
only_name text = member (codes "name") (string text) no_members

-- the fields have this name, and each of the others is as where its key is absent
pub record ArePlainFields (text : List ℕ) (fields : RouterFields) : Type 0 where
  pub is_name : fields.router_name ≡ text
  pub is_flooding : fields.willing.flooding ≡ 7
  pub is_routing : fields.willing.routing ≡ 7
  pub is_tc_rows : fields.tc_rows ≡ DEFAULT_TC_ROWS
  pub no_near_hold : fields.near_hold ≡ []
  pub is_hello_at : fields.hello_at ≡ 0
  pub is_tc_at : fields.tc_at ≡ 0

-- what is kept of a router whose table has only this name
pub record IsPlainHead (text : List ℕ) (head : RouterHead) : Type 0 where
  pub are_fields : ArePlainFields text (head_fields head)
  pub are_thresholds : (head.rules.thresholds.accept, head.rules.thresholds.reject) ≡ plain_thresholds

-- the stated router is what its table says, with each interface and each attached network as its own table says it
pub record RouterIs (table : Members) (router : StatedRouter) : Type 0 where
  pub is_head : HeadIs table router.head
  pub are_interfaces : Each InterfaceIs (listed (interfaces table)) router.interfaces
  pub are_attached : Each AttachedIs (listed (attached table)) router.attached
