use Rattle.mesh_trace.proofs.PositionsLemmas.Fixed.{leads_from_alike, leads_alike}
use Rattle.mesh_trace.proofs.PositionsLemmas.MessagesFixed.{messages_are_fixed}
use Rattle.mesh_trace.proofs.positions.lines_lead_alike.Goals as goal

pub returns-clause-messages : goal.returns-clause-messages
returns-clause-messages c = messages_are_fixed

pub returns-clause-from : goal.returns-clause-from
returns-clause-from c = leads_from_alike

pub returns-clause-alike : goal.returns-clause-alike
returns-clause-alike c = leads_alike
