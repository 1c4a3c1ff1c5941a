use Rattle.mesh_topo.proofs.Common.{is_some, sym, ap, ◌∙◌, renewed, renewed-none}
use Rattle.mesh_topo.proofs.TcSetsLemmas.Laws.{keys_held, put_same}
use Rattle.mesh_topo.proofs.tc_sets.keyed_set.put_tuple.Goals as goal

pub returns-in-Some-clause-keys : goal.returns-in-Some-clause-keys
returns-in-Some-clause-keys g c =
    let base = g.T.Table.content c.args.table.now in
    let (was, found, sets) = renewed g.met.K.Eq.laws c.args.key (c.args.tuple, c.args.until) c.in-Some.before base (g.T.Table.content c.renew.new.self) (sym c.in-Some.is ∙ c.in_ok-before.ensures.before) c.in_ok-before.ensures.ok in
    keys_held g.met.K.Eq.laws g.K.Ord.cmp c.args.key (c.args.tuple, c.args.until) c.args.keys.now base (g.T.Table.content c.renew.new.self) (sym (ap is_some found)) sets c.requires

pub returns-in-Some-clause-ok : goal.returns-in-Some-clause-ok
returns-in-Some-clause-ok g c =
    (renewed g.met.K.Eq.laws c.args.key (c.args.tuple, c.args.until) c.in-Some.before (g.T.Table.content c.args.table.now) _ (sym c.in-Some.is ∙ c.in_ok-before.ensures.before) c.in_ok-before.ensures.ok).2

pub returns-in-Some-clause-same : goal.returns-in-Some-clause-same
returns-in-Some-clause-same g c =
    let base = g.T.Table.content c.args.table.now in
    let stood = sym c.in-Some.is ∙ c.in_ok-before.ensures.before in
    let sets = (renewed g.met.K.Eq.laws c.args.key (c.args.tuple, c.args.until) c.in-Some.before base (g.T.Table.content c.renew.new.self) stood c.in_ok-before.ensures.ok).2 in
    put_same g.K.PartialEq.eq g.V.KeyedTuple.kind.says g.met.K.Eq.laws g.met.K.Key.exact c.args.key c.in-Some.before c.args.tuple c.args.until base (g.T.Table.content c.renew.new.self) c.is_same_but_number.result stood c.is_same_but_number.ensures sets

pub put_keyed-requires : goal.put_keyed-requires
put_keyed-requires g c =
    let same = renewed-none g.met.K.Eq.laws c.args.key (c.args.tuple, c.args.until) (g.T.Table.content c.args.table.now) _ (sym c.in_default.is ∙ c.in_ok-before.ensures.before) c.in_ok-before.ensures.ok in
    rw same c.requires

pub returns-clause-ok : goal.returns-clause-ok
returns-clause-ok g c =
    let same = renewed-none g.met.K.Eq.laws c.args.key (c.args.tuple, c.args.until) (g.T.Table.content c.args.table.now) _ (sym c.in_default.is ∙ c.in_ok-before.ensures.before) c.in_ok-before.ensures.ok in
    rw (← same) c.in_ok-put_keyed.ensures.ok
