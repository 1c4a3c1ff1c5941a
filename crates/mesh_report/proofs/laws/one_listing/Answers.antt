use Rattle.mesh_report.proofs.OneListing.{one_way, one_listing}
use Rattle.mesh_report.proofs.laws.one_listing.Goals as goal

pub returns-clause-reading : goal.returns-clause-reading
returns-clause-reading c = λ message a b here there. one_way message a b here there

pub returns-clause-listing : goal.returns-clause-listing
returns-clause-listing c = λ recode number read a b here there. one_listing recode number read a b here there
