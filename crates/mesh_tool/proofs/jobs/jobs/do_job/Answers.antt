use Rattle.mesh_tool.proofs.Common.{[], refl, sym, ◌∙◌, keeps_same, air_use, command_of, Unread, Worked, texts}
use Rattle.mesh_tool.proofs.AnswersLemmas.Reads.{works_whole, works_on_none}
use Rattle.mesh_tool.proofs.jobs.jobs.do_job.Goals as goal

pub returns-in-Ok-clause-does : goal.returns-in-Ok-clause-does
returns-in-Ok-clause-does g c = λ err.
    let air = air_use g.A.Air g.C.Clock c.args.air.now c.work_on.new.air c.args.clock.now c.work_on.new.clock in
    let reads = sym (c.most_octets.ensures (texts c.args.words.now) air) ∙ c.in-Some.is in
    Worked c.in-Ok.octets (works_whole (command_of (texts c.args.words.now) air c.args.job).most reads c.in-Ok.ensures.whole) (rw c.as_slice.ensures at c.work_on.ensures.leaves) (rw c.as_slice.ensures at c.work_on.ensures.uses_air)

pub returns-in-Err-clause-does : goal.returns-in-Err-clause-does
returns-in-Err-clause-does g c = λ err.
    let air = air_use g.A.Air g.C.Clock c.args.air.now c.args.air.now c.args.clock.now c.args.clock.now in
    let reads = sym (c.most_octets.ensures (texts c.args.words.now) air) ∙ c.in-Some.is in
    Unread c.in-Some.most reads c.in-Err.ensures.stopped (keeps_same _) (record { moments = refl; reports = refl; attached = c.requires.unattached })

pub returns-in-None-clause-does : goal.returns-in-None-clause-does
returns-in-None-clause-does g c = λ err.
    let air = air_use g.A.Air g.C.Clock c.args.air.now c.work_on-in-None.new.air c.args.clock.now c.work_on-in-None.new.clock in
    let reads = sym (c.most_octets.ensures (texts c.args.words.now) air) ∙ c.in-None.is in
    Worked [] (works_on_none (command_of (texts c.args.words.now) air c.args.job).most reads refl (record { left = keeps_same _; taken = refl })) c.work_on-in-None.ensures.leaves c.work_on-in-None.ensures.uses_air
