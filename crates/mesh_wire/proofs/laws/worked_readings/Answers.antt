use Rattle.mesh_wire.proofs.Examples.{lone_is, lone_keeps, bare_broken, heard_of_last}
use Rattle.mesh_wire.proofs.ExamplesTc.{types_broken}
use Rattle.mesh_wire.proofs.laws.worked_readings.Goals as goal

pub returns-clause-lone : goal.returns-clause-lone
returns-clause-lone c = lone_is

pub returns-clause-lone_keeps : goal.returns-clause-lone_keeps
returns-clause-lone_keeps c = λ n a breaks. lone_keeps n a breaks

pub returns-clause-bare : goal.returns-clause-bare
returns-clause-bare c = bare_broken

pub returns-clause-multivalue : goal.returns-clause-multivalue
returns-clause-multivalue c = heard_of_last

pub returns-clause-least : goal.returns-clause-least
returns-clause-least c = types_broken
