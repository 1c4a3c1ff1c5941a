use Rattle.mesh_laws.proofs.Unspoiled as unspoiled
use Rattle.mesh_laws.proofs.unspoiled_states_are_taken.Goals as goal

pub returns-clause-lost_kept : goal.returns-clause-lost_kept
returns-clause-lost_kept c = unspoiled.lost_is_kept

pub returns-clause-message_noted : goal.returns-clause-message_noted
returns-clause-message_noted c = unspoiled.message_is_noted

pub returns-clause-message_passed_over : goal.returns-clause-message_passed_over
returns-clause-message_passed_over c = unspoiled.message_is_passed_over

pub returns-clause-tc_taken : goal.returns-clause-tc_taken
returns-clause-tc_taken c = unspoiled.tc_is_taken
