-- Stated routers and settings, part by part.
use Rattle.std.specs.Prelude.{◌≡◌, ◌≤◌, ℕ, List, length, map, true, IsTrue}
use Rattle.mesh_atoms.specs.declared.addr.Addr4.{Addr4}
use Rattle.mesh_atoms.specs.declared.addr.NetAddr.{NetAddr}
use Rattle.mesh_atoms.specs.declared.admit.SenderQuality.{SenderQuality}
use Rattle.mesh_atoms.specs.declared.codes.metric.Metric.{Metric}
use Rattle.mesh_atoms.specs.declared.settings.Attached4.{Attached4}
use Rattle.mesh_atoms.specs.declared.settings.Interface.{Interface}
use Rattle.mesh_atoms.specs.declared.settings.RouterSettings.{RouterSettings}
use Rattle.mesh_atoms.specs.declared.settings.SenderMetric.{SenderMetric}
use Rattle.mesh_atoms.specs.declared.settings.Times.{Times}
use Rattle.mesh_atoms.specs.Base.{addr_eq, net_eq}
use Rattle.mesh_atoms.specs.Settings.{IsCount, are_distinct, are_no_hosts, name_eq}
use Rattle.mesh_config.specs.declared.stated.stated.StatedRouter.{StatedRouter}
use Rattle.mesh_config.specs.declared.stated.stated.Thresholds.{Thresholds}
use Rattle.mesh_config.specs.Stated.Router.{InterfaceFields, stated_interface_fields, RouterFields, head_fields, router_fields}
use Rattle.mesh_config.specs.Checks.Compared.{same_interface, same_attached, router_addrs, attaches_no_host}

-- what the table of an interface says, as the settings have it
abbrev pub interface_fields : Interface → InterfaceFields
interface_fields i = record { interface_name = i.name; addrs = i.addrs }

-- the thresholds of an interface: accepted from the first quality on, rejected below the second
abbrev pub thresholds_of : Interface → ℕ × ℕ
thresholds_of i = (i.admit.accept, i.admit.reject)

-- those that are stated for each interface of a router
abbrev pub threshold_pair : Thresholds → ℕ × ℕ
threshold_pair t = (t.accept, t.reject)

-- of an interface its own metric, and the metrics and the qualities of its senders
abbrev pub CostFields : Type 0
CostFields = Metric × (List SenderMetric × List SenderQuality)

-- these of an interface of the settings
abbrev pub interface_costs : Interface → CostFields
interface_costs i = (i.metric, (i.senders, i.admit.senders))

-- the parts of a router, but for the senders of its interfaces
pub record RouterParts : Type 0 where
  pub fields : RouterFields
  pub thresholds : List (ℕ × ℕ)
  pub times : Times
  pub interfaces : List InterfaceFields
  pub attached : List Attached4

-- these parts of a stated router, with the times that are stated at the top
abbrev pub stated_parts : Times → StatedRouter → RouterParts
stated_parts times d = record {
  fields = head_fields d.head;
  thresholds = map (λ i. threshold_pair d.head.rules.thresholds) d.interfaces;
  times = times;
  interfaces = map stated_interface_fields d.interfaces;
  attached = d.attached;
}

-- these parts of the settings of a router
abbrev pub settings_parts : RouterSettings → RouterParts
settings_parts r = record {
  fields = router_fields r;
  thresholds = map thresholds_of r.interfaces;
  times = r.times;
  interfaces = map interface_fields r.interfaces;
  attached = r.attached;
}

-- nothing stands twice within the router
pub record IsClear (d : StatedRouter) : Type 0 where
  pub names : are_distinct same_interface d.interfaces ≡ true
  pub addrs : are_distinct addr_eq (router_addrs d) ≡ true
  pub nets : are_distinct same_attached d.attached ≡ true
  pub hosts : attaches_no_host (router_addrs d) d ≡ true

-- the names and the addresses of the interfaces of one router, and the networks that it attaches: from 1 to 8 interfaces, at most 64
-- networks, nothing twice, and no network is one of the addresses
pub record AreOfOneRouter (names : List (List ℕ)) (addrs : List Addr4) (nets : List NetAddr) : Type 0 where
  pub interfaces : IsCount 1 8 (length names)
  pub attached : length nets ≤ 64
  pub distinct_names : IsTrue (are_distinct name_eq names)
  pub distinct_addrs : IsTrue (are_distinct addr_eq addrs)
  pub distinct_nets : IsTrue (are_distinct net_eq nets)
  pub no_hosts : IsTrue (are_no_hosts nets addrs)
