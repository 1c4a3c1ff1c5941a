use Rattle.mesh_tlv.proofs.Common.{◌≡◌, ◌-◌, ◌≤◌, map, items_at}
use Rattle.mesh_tlv.proofs.Loop.{with_front}
use Rattle.mesh_tlv.proofs.reader.read_items.Given as goal

abbrev pub invariant-loop : goal.invariant-loop
invariant-loop g l =
    let one = g.R.ItemReader.item_at l.reader l.frame in
    record {
      reads : with_front (map g.R.ItemReader.fields l.items) (items_at one ((l.fn.end - l.fn.at) - l.counter) l.place l.fn.end) ≡ items_at one (l.fn.end - l.fn.at) l.fn.at l.fn.end;
      onward : l.fn.at ≤ l.place;
      within : l.place ≤ l.fn.end;
    }
