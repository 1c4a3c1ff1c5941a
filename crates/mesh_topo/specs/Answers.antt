-- What is answered to a TC.
use Rattle.mesh_atoms.specs.AfterTc.{TcAnswer, Taken, Too_old, Full_of}
use Rattle.mesh_topo.specs.declared.topology.TcTaken.{TcTaken}
use Rattle.mesh_topo.specs.declared.topology.TcTaken.TheVariants.{Done, Old, Full}

-- the answer in the model's words
abbrev pub answer_of : TcTaken → TcAnswer
answer_of Done = Taken
answer_of (Old kept) = Too_old kept
answer_of (Full base) = Full_of base
