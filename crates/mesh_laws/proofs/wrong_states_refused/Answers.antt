use Rattle.mesh_laws.proofs.WrongStates as wrong
use Rattle.mesh_laws.proofs.wrong_states_refused.Goals as goal

pub returns-clause-expired_link : goal.returns-clause-expired_link
returns-clause-expired_link c = wrong.expired_link

pub returns-clause-own_two_hop : goal.returns-clause-own_two_hop
returns-clause-own_two_hop c = wrong.own_two_hop

pub returns-clause-two_hop_of_ended_link : goal.returns-clause-two_hop_of_ended_link
returns-clause-two_hop_of_ended_link c = wrong.two_hop_of_ended_link

pub returns-clause-tuple_of_old_number : goal.returns-clause-tuple_of_old_number
returns-clause-tuple_of_old_number c = wrong.tuple_of_old_number

pub returns-clause-hidden_neighbour : goal.returns-clause-hidden_neighbour
returns-clause-hidden_neighbour c = wrong.hidden_neighbour

pub returns-clause-pending_told : goal.returns-clause-pending_told
returns-clause-pending_told c = wrong.pending_told

pub returns-clause-row_of_no_selector : goal.returns-clause-row_of_no_selector
returns-clause-row_of_no_selector c = wrong.row_of_no_selector

pub returns-clause-two_hop_on_heard_link : goal.returns-clause-two_hop_on_heard_link
returns-clause-two_hop_on_heard_link c = wrong.two_hop_on_heard_link

pub returns-clause-neighbour_without_link : goal.returns-clause-neighbour_without_link
returns-clause-neighbour_without_link c = wrong.neighbour_without_link

pub returns-clause-dearer_relays : goal.returns-clause-dearer_relays
returns-clause-dearer_relays c = wrong.dearer_relays

pub returns-clause-greater_parent : goal.returns-clause-greater_parent
returns-clause-greater_parent c = wrong.greater_parent

pub returns-clause-route_twice : goal.returns-clause-route_twice
returns-clause-route_twice c = wrong.route_twice

pub returns-clause-tuple_too_many : goal.returns-clause-tuple_too_many
returns-clause-tuple_too_many c = wrong.tuple_too_many

pub returns-clause-stale_tuple : goal.returns-clause-stale_tuple
returns-clause-stale_tuple c = wrong.stale_tuple
