-- The state of a router (RFC 7181, sections 5 to 10), of what it holds and what is derived of it.
use Rattle.mesh_atoms.specs.State.{State}
use Rattle.mesh_bases.specs.Held.Held.{Held}
use Rattle.mesh_bases.specs.declared.derived.Derived.{Derived}

-- the state of a router that holds this, with what is derived
abbrev pub router_state : Held → Derived → State
router_state held derived = record {
  settings = held.settings;
  bases = held.bases;
  relays = derived.relays;
  routes = derived.routes;
  rows = derived.rows;
  ansn = derived.ansn;
  emptied = derived.emptied;
  sequence = derived.sequence;
  next_hello = derived.next_hello;
  next_tc = derived.next_tc;
  last = derived.last;
}
