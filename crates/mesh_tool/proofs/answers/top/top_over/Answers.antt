use Rattle.mesh_tool.proofs.Common.{sink_use}
use Rattle.mesh_tool.proofs.AnswersLemmas.Answering.{answers}
use Rattle.mesh_tool.proofs.answers.top.top_over.Goals as goal

pub returns : goal.returns
returns g c =
    let does = c.do_asked-how.ensures.does (sink_use g.E.Sink c.args.err.now c.tell.new.err) in
    record {
      answers = answers _ c.do_asked-how.result c.tell.result does c.tell.ensures.tells c.do_asked-how.ensures.later_input c.do_asked-how.ensures.later_out c.tell.ensures.later c.do_asked-how.ensures.later_air;
      laws = record {
        machines = c.emulations_tell.ensures.machines;
        settled = c.emulations_tell.ensures.settled;
        routes = c.emulations_tell.ensures.routes;
        next_hops = c.emulations_tell.ensures.next_hops;
        trips = c.emulations_tell.ensures.trips;
        trips_reach_routers = c.emulations_tell.ensures.trips_reach_routers;
        trips_reach_networks = c.emulations_tell.ensures.trips_reach_networks;
        trips_never_stray = c.emulations_tell.ensures.trips_never_stray;
        probes_reach = c.emulations_tell.ensures.probes_reach;
        probes_tell = c.emulations_tell.ensures.probes_tell;
        probes_once = c.emulations_tell.ensures.probes_once;
        turns = c.turns_are_runs.ensures.runs;
        sound_turns = c.turns_are_runs.ensures.sound;
        made_machines = c.made_networks_tell.ensures.machines;
        made_settled = c.made_networks_tell.ensures.settled;
        made_routes = c.made_networks_tell.ensures.routes;
        traces = c.traces_are_runs.ensures;
      };
    }
