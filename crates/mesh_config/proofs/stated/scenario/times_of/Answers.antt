use Rattle.mesh_config.proofs.Common.{table_view, times_visits, TimesIs, times_table}
use Rattle.mesh_config.proofs.KeysLemmas.Parts.{part_answers}
use Rattle.mesh_config.proofs.stated.scenario.times_of.Goals as goal

pub returns : goal.returns
returns c = part_answers TimesIs times_visits (times_table (table_view c.args.table.now)) (table_view c.in_ok-inner.inner.now) c.times_in.result c.in_ok-inner.ensures c.times_in.ensures
