use Rattle.mesh_nhdp.proofs.Common.{◌≡◌, IsTrue, ◌≢◌, Addr4, TwoHopKey, find, two_hop_eq, SameTuples}
use Rattle.mesh_nhdp.proofs.RowWalks.{RowsTell}
use Rattle.mesh_nhdp.proofs.RowsRepeat.{RowsRepeat}
use Rattle.mesh_nhdp.proofs.two_hop_rows.tell_two_hops.Given as goal

abbrev pub invariant-loop-row : goal.invariant-loop-row
invariant-loop-row g l = record {
  one : (a : Addr4) → RowsTell l.rows.own.now l.rows.listed.now l.rows.hello.now.rows l.row-index l.rows.until a (find two_hop_eq l.initial.two_hops (record { link = l.rows.link; addr = a })) (find two_hop_eq l.two_hops (record { link = l.rows.link; addr = a }));
  others : (key : TwoHopKey) → key.link ≢ l.rows.link → find two_hop_eq l.two_hops key ≡ find two_hop_eq l.initial.two_hops key;
  same : IsTrue l.repeated → SameTuples two_hop_eq l.initial.two_hops l.two_hops;
  repeats : IsTrue l.repeated → RowsRepeat l.rows.own.now l.rows.listed.now l.rows.link l.rows.hello.now.rows l.row-index l.initial.two_hops;
}
