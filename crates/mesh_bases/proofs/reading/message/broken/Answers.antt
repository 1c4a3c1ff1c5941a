use Rattle.mesh_bases.proofs.reading.message.broken.Goals as goal

pub returns-in-Broken : goal.returns-in-Broken
returns-in-Broken c = λ message h. rw c.in-Broken.is at h
