use Rattle.mesh_trace.proofs.PositionsLemmas.Addresses.{positions_have_addresses}
use Rattle.mesh_trace.proofs.PositionsLemmas.Fixed.{all_else_is_fixed, one_decides_fit, one_decides_end, unfit_is_not_whole, one_unfit}
use Rattle.mesh_trace.proofs.PositionsLemmas.SoundPositions.{positions_are_sound}
use Rattle.mesh_trace.proofs.positions.all_else_is_fixed.Goals as goal

pub returns-clause-sound : goal.returns-clause-sound
returns-clause-sound c = positions_are_sound

pub returns-clause-addresses : goal.returns-clause-addresses
returns-clause-addresses c = positions_have_addresses

pub returns-clause-fixed : goal.returns-clause-fixed
returns-clause-fixed c = all_else_is_fixed

pub returns-clause-fit : goal.returns-clause-fit
returns-clause-fit c = one_decides_fit

pub returns-clause-end : goal.returns-clause-end
returns-clause-end c = one_decides_end

pub returns-clause-unfit : goal.returns-clause-unfit
returns-clause-unfit c = unfit_is_not_whole

pub returns-clause-one : goal.returns-clause-one
returns-clause-one c = one_unfit
