-- What a rule of admittance makes of one link.
use Rattle.std.specs.Prelude.{ℕ, Bool, nat_eq, length}
use Rattle.std.specs.List.{list_all}
use Rattle.mesh_atoms.specs.declared.admit.Admit.{Admit}
use Rattle.mesh_atoms.specs.declared.tuples.Link.{Link}
use Rattle.mesh_links.specs.declared.admittance.Ruling.{Ruling}

-- the link as the ruling has it, with its moment
abbrev pub ruled : Ruling → Link → Link × ℕ
ruled ruling link = (record link { quality = ruling.quality; pending = ruling.pending; lost = ruling.lost }, ruling.until)

-- no sender has a step, so that every quality is 100
abbrev pub is_steady : Admit → Bool
is_steady rule = list_all (λ s. nat_eq (length s.steps) 0) rule.senders
