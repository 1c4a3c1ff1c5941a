use Rattle.mesh_bases.proofs.reading.content.read_content.Goals as goal

pub returns-in-Err-clause-content : goal.returns-in-Err-clause-content
returns-in-Err-clause-content c = c.refused.ensures c.args.bytes.now c.in-Err.ensures.refused
