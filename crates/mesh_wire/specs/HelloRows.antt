-- How the row of a HELLO is made of what is kept of its address.
use Rattle.std.proofs.Common.{zero, suc}
use Rattle.std.specs.Prelude.{ℕ, Option, Some, None, false}
use Rattle.std.specs.Option.{option_map}
use Rattle.mesh_atoms.specs.declared.addr.NetAddr.{NetAddr}
use Rattle.mesh_atoms.specs.declared.hello.LocalIf.{LocalIf}
use Rattle.mesh_atoms.specs.declared.hello.LocalIf.TheVariants.{This, Other}
use Rattle.mesh_atoms.specs.declared.hello.LinkStatus.{LinkStatus}
use Rattle.mesh_atoms.specs.declared.hello.LinkStatus.TheVariants as link
use Rattle.mesh_atoms.specs.declared.hello.OtherStatus.{OtherStatus}
use Rattle.mesh_atoms.specs.declared.hello.OtherStatus.TheVariants as other
use Rattle.mesh_atoms.specs.declared.hello.HelloRow.{HelloRow}
use Rattle.mesh_wire.specs.declared.collect.AddressParts.{AddressParts}
use Rattle.mesh_wire.specs.Singles.{value_from}

-- LOCAL_IF of a value
abbrev pub local_from : ℕ → LocalIf
local_from zero = This
local_from (suc n) = Other

-- LINK_STATUS of a value
abbrev pub link_from : ℕ → LinkStatus
link_from zero = link.Lost
link_from (suc zero) = link.Symmetric
link_from (suc (suc n)) = link.Heard

-- OTHER_NEIGHB of a value
abbrev pub other_from : ℕ → OtherStatus
other_from zero = other.Lost
other_from (suc n) = other.Symmetric

-- a row of which nothing is said but whether its address is the sender's
abbrev pub sender_row : NetAddr → Option LocalIf → HelloRow
sender_row addr local = record {
  addr = addr;
  local = local;
  link = None;
  other = None;
  metrics = record { link_in = None; link_out = None; near_in = None; near_out = None };
  mpr = record { flooding = false; routing = false };
}

-- the row of what is kept of an address, by its LOCAL_IF: what else is said of an address of the sender's is left out
abbrev pub row_with : AddressParts → Option LocalIf → HelloRow
row_with told (Some local) = sender_row told.net (Some local)
row_with told None = record {
  addr = told.net;
  local = None;
  link = option_map link_from (value_from told.parts.octets.link.one);
  other = option_map other_from (value_from told.parts.octets.other.one);
  metrics = record {
    link_in = value_from told.parts.metrics.link_in;
    link_out = value_from told.parts.metrics.link_out;
    near_in = value_from told.parts.metrics.near_in;
    near_out = value_from told.parts.metrics.near_out;
  };
  mpr = record { flooding = told.parts.octets.mpr.first; routing = told.parts.octets.mpr.second };
}

-- the row of what is kept of an address
abbrev pub hello_row : AddressParts → HelloRow
hello_row told = row_with told (option_map local_from (value_from told.parts.octets.local.one))
