use Rattle.mesh_laws.proofs.Spoiled as spoiled
use Rattle.mesh_laws.proofs.SpoiledNeighbours as neighbours
use Rattle.mesh_laws.proofs.SpoiledTables as tables
use Rattle.mesh_laws.proofs.spoiled_states_are_refused.Goals as goal

pub returns-clause-neighbour_out_of_nothing : goal.returns-clause-neighbour_out_of_nothing
returns-clause-neighbour_out_of_nothing c = neighbours.neighbour_out_of_nothing

pub returns-clause-neighbour_gone : goal.returns-clause-neighbour_gone
returns-clause-neighbour_gone c = neighbours.neighbour_gone

pub returns-clause-selector_kept : goal.returns-clause-selector_kept
returns-clause-selector_kept c = neighbours.selector_kept

pub returns-clause-neighbour_too_short : goal.returns-clause-neighbour_too_short
returns-clause-neighbour_too_short c = neighbours.neighbour_too_short

pub returns-clause-neighbour_too_long : goal.returns-clause-neighbour_too_long
returns-clause-neighbour_too_long c = neighbours.neighbour_too_long

pub returns-clause-other_addresses : goal.returns-clause-other_addresses
returns-clause-other_addresses c = neighbours.other_addresses

pub returns-clause-other_willingness : goal.returns-clause-other_willingness
returns-clause-other_willingness c = neighbours.other_willingness

pub returns-clause-selector_cleared : goal.returns-clause-selector_cleared
returns-clause-selector_cleared c = neighbours.selector_cleared

pub returns-clause-symmetric_untold : goal.returns-clause-symmetric_untold
returns-clause-symmetric_untold c = neighbours.symmetric_untold

pub returns-clause-symmetric_out_of_nothing : goal.returns-clause-symmetric_out_of_nothing
returns-clause-symmetric_out_of_nothing c = neighbours.symmetric_out_of_nothing

pub returns-clause-other_metric_in : goal.returns-clause-other_metric_in
returns-clause-other_metric_in c = neighbours.other_metric_in

pub returns-clause-other_metric_out : goal.returns-clause-other_metric_out
returns-clause-other_metric_out c = neighbours.other_metric_out

pub returns-clause-lost_though_back : goal.returns-clause-lost_though_back
returns-clause-lost_though_back c = neighbours.lost_though_back

pub returns-clause-loss_untold : goal.returns-clause-loss_untold
returns-clause-loss_untold c = neighbours.loss_untold

pub returns-clause-lost_out_of_nothing : goal.returns-clause-lost_out_of_nothing
returns-clause-lost_out_of_nothing c = neighbours.lost_out_of_nothing

pub returns-clause-lost_at_another_moment : goal.returns-clause-lost_at_another_moment
returns-clause-lost_at_another_moment c = neighbours.lost_at_another_moment

pub returns-clause-lost_gone : goal.returns-clause-lost_gone
returns-clause-lost_gone c = neighbours.lost_gone

pub returns-clause-lost_moved : goal.returns-clause-lost_moved
returns-clause-lost_moved c = neighbours.lost_moved

pub returns-clause-lost_symmetric : goal.returns-clause-lost_symmetric
returns-clause-lost_symmetric c = neighbours.lost_symmetric

pub returns-clause-own_lost : goal.returns-clause-own_lost
returns-clause-own_lost c = neighbours.own_lost

pub returns-clause-links_together : goal.returns-clause-links_together
returns-clause-links_together c = spoiled.links_together

pub returns-clause-link_of_unlisted : goal.returns-clause-link_of_unlisted
returns-clause-link_of_unlisted c = spoiled.link_of_unlisted

pub returns-clause-link_of_shared_address : goal.returns-clause-link_of_shared_address
returns-clause-link_of_shared_address c = spoiled.link_of_shared_address

pub returns-clause-link_gone : goal.returns-clause-link_gone
returns-clause-link_gone c = spoiled.link_gone

pub returns-clause-other_quality : goal.returns-clause-other_quality
returns-clause-other_quality c = spoiled.other_quality

pub returns-clause-lost_link_kept : goal.returns-clause-lost_link_kept
returns-clause-lost_link_kept c = spoiled.lost_link_kept

pub returns-clause-made_unadmitted : goal.returns-clause-made_unadmitted
returns-clause-made_unadmitted c = spoiled.made_unadmitted

pub returns-clause-full_of_one : goal.returns-clause-full_of_one
returns-clause-full_of_one c = spoiled.full_of_one

pub returns-clause-taken_though_full : goal.returns-clause-taken_though_full
returns-clause-taken_though_full c = spoiled.taken_though_full

pub returns-clause-taken_though_many_rows : goal.returns-clause-taken_though_many_rows
returns-clause-taken_though_many_rows c = spoiled.taken_though_many_rows

pub returns-clause-full_though_fits : goal.returns-clause-full_though_fits
returns-clause-full_though_fits c = spoiled.full_though_fits

pub returns-clause-link_metric_first : goal.returns-clause-link_metric_first
returns-clause-link_metric_first c = spoiled.link_metric_first

pub returns-clause-metric_unsaid : goal.returns-clause-metric_unsaid
returns-clause-metric_unsaid c = spoiled.metric_unsaid

pub returns-clause-row_by_link_metric : goal.returns-clause-row_by_link_metric
returns-clause-row_by_link_metric c = spoiled.row_by_link_metric

pub returns-clause-row_without_metric : goal.returns-clause-row_without_metric
returns-clause-row_without_metric c = spoiled.row_without_metric

pub returns-clause-number_unnoted : goal.returns-clause-number_unnoted
returns-clause-number_unnoted c = tables.number_unnoted

pub returns-clause-number_at_another_moment : goal.returns-clause-number_at_another_moment
returns-clause-number_at_another_moment c = tables.number_at_another_moment

pub returns-clause-given_otherwise : goal.returns-clause-given_otherwise
returns-clause-given_otherwise c = tables.given_otherwise

pub returns-clause-given_at_another_moment : goal.returns-clause-given_at_another_moment
returns-clause-given_at_another_moment c = tables.given_at_another_moment

pub returns-clause-router_untaken : goal.returns-clause-router_untaken
returns-clause-router_untaken c = tables.router_untaken

pub returns-clause-network_untaken : goal.returns-clause-network_untaken
returns-clause-network_untaken c = tables.network_untaken

pub returns-clause-router_of_old_number : goal.returns-clause-router_of_old_number
returns-clause-router_of_old_number c = tables.router_of_old_number

pub returns-clause-network_of_old_number : goal.returns-clause-network_of_old_number
returns-clause-network_of_old_number c = tables.network_of_old_number

pub returns-clause-tuple_gone_by_part : goal.returns-clause-tuple_gone_by_part
returns-clause-tuple_gone_by_part c = tables.tuple_gone_by_part

pub returns-clause-tuple_gone_of_another : goal.returns-clause-tuple_gone_of_another
returns-clause-tuple_gone_of_another c = tables.tuple_gone_of_another

pub returns-clause-processed_unnoted : goal.returns-clause-processed_unnoted
returns-clause-processed_unnoted c = tables.processed_unnoted

pub returns-clause-processed_out_of_nothing : goal.returns-clause-processed_out_of_nothing
returns-clause-processed_out_of_nothing c = tables.processed_out_of_nothing

pub returns-clause-processed_at_another_moment : goal.returns-clause-processed_at_another_moment
returns-clause-processed_at_another_moment c = tables.processed_at_another_moment

pub returns-clause-received_out_of_nothing : goal.returns-clause-received_out_of_nothing
returns-clause-received_out_of_nothing c = tables.received_out_of_nothing

pub returns-clause-received_at_another_moment : goal.returns-clause-received_at_another_moment
returns-clause-received_at_another_moment c = tables.received_at_another_moment

pub returns-clause-received_elsewhere : goal.returns-clause-received_elsewhere
returns-clause-received_elsewhere c = tables.received_elsewhere

pub returns-clause-forwarded_unsent : goal.returns-clause-forwarded_unsent
returns-clause-forwarded_unsent c = tables.forwarded_unsent

pub returns-clause-forwarded_at_another_moment : goal.returns-clause-forwarded_at_another_moment
returns-clause-forwarded_at_another_moment c = tables.forwarded_at_another_moment
