use Rattle.std.proofs.Common.{◌≡◌, ◌⊎◌, inl, inr, [], ap, ◌∙◌}
use Rattle.std.specs.Process.{exit_status}
use Rattle.std.specs.declared.process.ExitCode.{ExitCode}
use Rattle.mesh_tool.specs.Jobs.Status.{code_of}
use Rattle.mesh_tool.specs.declared.jobs.status.Status.{Status}
use Rattle.mesh_tool.specs.declared.jobs.status.Status.TheVariants.{Write}
use Rattle.mesh_cmd.proofs.run_program.Goals as goal
use Rattle.mesh_cmd.proofs.run_program.Goals.{in-Ok, in-Err}

-- the number of what ends a run is that of its answer, or of a failed write
number : (exit : ExitCode) {status answer : Status} → exit_status exit ≡ code_of status → (status ≡ answer) ⊎ (status ≡ Write) →
    (exit_status exit ≡ code_of answer) ⊎ (exit_status exit ≡ code_of Write)
number exit e (inl h) = inl (e ∙ ap code_of h)
number exit e (inr h) = inr (e ∙ ap code_of h)

pub returns : goal.returns
returns c = elim c.match-new.branch [
  | in-Ok w ↦ record {
    words = w.run-status.ensures.0;
    out = _;
    err = _;
    answer = w.run-status.result;
    runs = w.run-status.ensures.1;
    code = number c.from.result (c.from.ensures ∙ (c.code.ensures ∙ ap code_of w.status-is)) w.finish-status.ensures.status;
  }
  | in-Err w ↦ record {
    words = [];
    out = _;
    err = _;
    answer = w.no_memory_for_out-status.result;
    runs = w.no_memory_for_out-status.ensures;
    code = inl (c.from.ensures ∙ (c.code.ensures ∙ ap code_of w.status-is));
  }
]
