use Rattle.mesh_atoms.proofs.Lookups.{tests_symmetric, tests_heard, looks_up_links, looks_up_two_hops, looks_up_neighbours, looks_up_losts, looks_up_advertisers, looks_up_routers, looks_up_addresses, looks_up_networks, shows_status}
use Rattle.mesh_atoms.proofs.agreement.definitions_agree.Goals as goal

pub returns-clause-symmetric : goal.returns-clause-symmetric
returns-clause-symmetric c = tests_symmetric

pub returns-clause-heard : goal.returns-clause-heard
returns-clause-heard c = tests_heard

pub returns-clause-links : goal.returns-clause-links
returns-clause-links c = looks_up_links

pub returns-clause-two_hops : goal.returns-clause-two_hops
returns-clause-two_hops c = looks_up_two_hops

pub returns-clause-neighbours : goal.returns-clause-neighbours
returns-clause-neighbours c = looks_up_neighbours

pub returns-clause-status : goal.returns-clause-status
returns-clause-status c = shows_status

pub returns-clause-losts : goal.returns-clause-losts
returns-clause-losts c = looks_up_losts

pub returns-clause-advertisers : goal.returns-clause-advertisers
returns-clause-advertisers c = looks_up_advertisers

pub returns-clause-routers : goal.returns-clause-routers
returns-clause-routers c = looks_up_routers

pub returns-clause-addresses : goal.returns-clause-addresses
returns-clause-addresses c = looks_up_addresses

pub returns-clause-networks : goal.returns-clause-networks
returns-clause-networks c = looks_up_networks
