use Rattle.mesh_bases.proofs.Common.{ap, subst, sym, List, ◌∙◌, ℕ, TcRow, AreTcRows, Bases, no_relays}
use Rattle.mesh_bases.proofs.start.opening.Goals as goal

pub returns : goal.returns
returns c = λ s settings bases derived next. record {
  settings_are = settings;
  bases = bases;
  relays = derived.relays ∙ (c.in_ok-relays.ensures ∙ ap (λ (n : ℕ). no_relays n) c.len.ensures);
  routes = derived.routes ∙ c.new.ensures;
  rows = subst (λ (rows : List TcRow). AreTcRows s rows) (sym derived.rows) (c.in_ok-rows.ensures s settings (ap (λ (b : Bases). b.neighbourhood.neighbours) bases));
  ansn = derived.ansn;
  emptied = derived.emptied;
  sequence = next.sequence;
  next_hello = next.next_hello;
  next_tc = next.next_tc;
  last = derived.last;
}
