-- Each line of a text is a line, and which of them are headings or routes.
use Rattle.mesh_texts.proofs.Common.{◌≡◌, ℕ, true, false, ltb, List, [], ◌∷◌, ◌++◌, length, map, get_or, Some, refl, sym, ap, ◌∙◌, arith, append_assoc, codes, decimal, nat_eq, slice_index_or, is_some, ◌≢◌, AllByRecursion, sum, eq-eqb, ltb-true, All-nil, All-append, All-from_recursion, Addr4, NetAddr, Route, Interface, RadioArc, RouterSettings, Scenario, LinkKey, Bases, state_of, Gap, router_name, joined, line_of, dotted, slashed, node_text, metric_text, choice_text, status_text, nearness_text, relays_text, face_name, faces_of, router_line, link_line, neighbour_line, held_line, flooding_line, routing_line, route_line, row_line, tick_line, heard_line, flooding_relays_line, routing_relays_line, sent_line, loss_line, counts_line, key_text, gap_line, IsLine, BeginsWith, IsPlain, ArePlain}
use Rattle.mesh_atoms.specs.declared.tuples.Link.{Link}
use Rattle.mesh_atoms.specs.declared.tuples.Neighbour.{Neighbour}
use Rattle.mesh_atoms.specs.declared.network.Counts.{Counts}
use Rattle.mesh_atoms.specs.declared.gap.GapKey.{GapKey}
use Rattle.mesh_atoms.specs.declared.gap.GapKey.TheVariants.{Link as Of_link, Neighbour as Of_neighbour, TwoHop as Of_two_hop, Router as Of_router, Address as Of_address, Network as Of_network}
use Rattle.mesh_texts.proofs.Cuts.{lacks, lacks_both, each_lacks, has_front}
use Rattle.mesh_texts.proofs.Marked.{decimal_lacks, dotted_lacks, slashed_lacks, node_lacks, metric_lacks, choice_lacks, status_lacks, nearness_lacks, relays_lack, face_name_lacks, own_name_lacks, router_name_lacks, hex_lacks, name_lacks}

-- Making lines

pub line_end : IsLine (codes "\n")
line_end = record { inside = []; one = All-nil (λ c. c ≢ 10); whole = refl }

pub line_after : (a l : List ℕ) → lacks 10 a ≡ true → IsLine l → IsLine (a ++ l)
line_after a l h is = record {
  inside = a ++ is.inside;
  one = All-append (λ c. c ≢ 10) a is.inside (All-from_recursion (λ c. c ≢ 10) a (each_lacks a h)) is.one;
  whole = ap (λ (t : List ℕ). a ++ t) is.whole ∙ sym (append_assoc a is.inside (codes "\n"));
}

-- at some place another octet stands
pub begins_otherwise : (front l : List ℕ) (k : ℕ) → ltb k (length front) ≡ true →
    nat_eq (get_or l k 0) (get_or front k 0) ≡ false → BeginsWith front l → ⊥
begins_otherwise front l k within differs (rest, e) = let yes = eq-eqb (get_or l k 0) (get_or front k 0) (has_front front rest l k (ltb-true k (length front) within) e) in cc

-- a line that is neither a heading nor a route
pub record IsNeither (l : List ℕ) : Type 0 where
  pub line : IsLine l
  pub no_heading : BeginsWith (codes "router ") l → ⊥
  pub no_route : BeginsWith (codes " route ") l → ⊥

pub plain_neither : (l : List ℕ) → IsPlain l → IsNeither l
plain_neither l is = record { line = is.line; no_heading = is.no_heading; no_route = is.no_route }

pub address : (a : Addr4) → lacks 10 (dotted a) ≡ true
address a = dotted_lacks 10 (omega arith) refl a

pub number : (n : ℕ) → lacks 10 (decimal n) ≡ true
number n = decimal_lacks 10 (omega arith) n

pub face : (faces : List Interface) (i : ℕ) → lacks 10 (face_name faces i) ≡ true
face faces i = face_name_lacks 10 (omega arith) faces i

-- Headings and routes

pub router_is_line : (r : RouterSettings) (originator : Addr4) → IsLine (router_line r.name originator)
unfolding router_line
router_is_line r originator =
    line_after (codes "router ") _ refl (line_after r.name _ (own_name_lacks 10 (omega arith) r) (line_after (codes " ") _ refl (line_after (dotted originator) _ (address originator) line_end)))

pub router_no_settled : (name : List ℕ) (originator : Addr4) → BeginsWith (codes "settled yes\n") (router_line name originator) → ⊥
unfolding router_line
router_no_settled name originator b = begins_otherwise (codes "settled yes\n") (router_line name originator) 0 refl refl b

pub router_no_route : (name : List ℕ) (originator : Addr4) → BeginsWith (codes " route ") (router_line name originator) → ⊥
unfolding router_line
router_no_route name originator b = begins_otherwise (codes " route ") (router_line name originator) 0 refl refl b

pub row_is_line : (faces : List Interface) (row : Route) → IsLine (row_line faces row)
unfolding route_line
row_is_line faces row =
    line_after (codes " route ") _ refl (line_after (slashed row.dest) _ (slashed_lacks 10 (omega arith) refl refl row.dest)
    (line_after (codes " metric ") _ refl (line_after (decimal row.metric) _ (number row.metric)
    (line_after (codes " next ") _ refl (line_after (dotted row.next) _ (address row.next)
    (line_after (codes " on ") _ refl (line_after (face_name faces row.iface) _ (face faces row.iface)
    (line_after (codes " parent ") _ refl (line_after (node_text row.parent) _ (node_lacks 10 (omega arith) refl refl row.parent) line_end)))))))))

pub row_no_heading : (faces : List Interface) (row : Route) → BeginsWith (codes "router ") (row_line faces row) → ⊥
unfolding route_line
row_no_heading faces row b = begins_otherwise (codes "router ") (row_line faces row) 0 refl refl b

pub row_no_settled : (faces : List Interface) (row : Route) → BeginsWith (codes "settled yes\n") (row_line faces row) → ⊥
unfolding route_line
row_no_settled faces row b = begins_otherwise (codes "settled yes\n") (row_line faces row) 0 refl refl b

pub route_begins : (dest : NetAddr) (metric : ℕ) (next : Addr4) (face : List ℕ) (parent : NetAddr) →
    BeginsWith (codes " route ") (route_line dest metric next face parent)
unfolding route_line
route_begins dest metric next face parent = (line_of (slashed dest ∷ codes " metric " ∷ decimal metric ∷ codes " next " ∷ dotted next ∷ codes " on " ∷ face ∷ codes " parent " ∷ node_text parent ∷ []), refl)

-- The other lines of a section

pub link_plain : (now : ℕ) (r : Interface) (t : LinkKey × Link) → IsPlain (link_line now r.name t)
unfolding link_line
link_plain now r t = record {
  line = line_after (codes " link ") _ refl (line_after r.name _ (name_lacks 10 (omega arith) r.name r.sound.named)
      (line_after (codes " ") _ refl (line_after (dotted t.0.addr) _ (address t.0.addr)
      (line_after (codes " ") _ refl (line_after (status_text (state_of t.1 now)) _ (status_lacks (state_of t.1 now))
      (line_after (codes " in ") _ refl (line_after (metric_text (Some t.1.link_in)) _ (metric_lacks (Some t.1.link_in))
      (line_after (codes " out ") _ refl (line_after (metric_text t.1.link_out) _ (metric_lacks t.1.link_out)
      (line_after (codes " selector ") _ refl (line_after (choice_text t.1.selector) _ (choice_lacks t.1.selector) line_end)))))))))));
  no_heading = begins_otherwise (codes "router ") (link_line now r.name t) 0 refl refl;
  no_route = begins_otherwise (codes " route ") (link_line now r.name t) 1 refl refl;
  no_settled = begins_otherwise (codes "settled yes\n") (link_line now r.name t) 0 refl refl;
}

pub neighbour_plain : (t : Addr4 × Neighbour) → IsPlain (neighbour_line t)
unfolding neighbour_line
neighbour_plain t = record {
  line = line_after (codes " neighbour ") _ refl (line_after (dotted t.0) _ (address t.0)
      (line_after (codes " ") _ refl (line_after (nearness_text t.1.symmetric) _ (nearness_lacks t.1.symmetric)
      (line_after (codes " in ") _ refl (line_after (metric_text t.1.metric_in) _ (metric_lacks t.1.metric_in)
      (line_after (codes " out ") _ refl (line_after (metric_text t.1.metric_out) _ (metric_lacks t.1.metric_out)
      (line_after (codes " flooding ") _ refl (line_after (decimal t.1.willing.flooding) _ (number t.1.willing.flooding)
      (line_after (codes " routing ") _ refl (line_after (decimal t.1.willing.routing) _ (number t.1.willing.routing)
      (line_after (codes " selector ") _ refl (line_after (choice_text t.1.selector) _ (choice_lacks t.1.selector) line_end)))))))))))));
  no_heading = begins_otherwise (codes "router ") (neighbour_line t) 0 refl refl;
  no_route = begins_otherwise (codes " route ") (neighbour_line t) 1 refl refl;
  no_settled = begins_otherwise (codes "settled yes\n") (neighbour_line t) 0 refl refl;
}

pub held_plain : (b : Bases) → IsPlain (held_line b)
unfolding held_line
held_plain b = record {
  line = line_after (codes " held twohop ") _ refl (line_after (decimal (sum (map length b.neighbourhood.two_hops))) _ (number (sum (map length b.neighbourhood.two_hops)))
      (line_after (codes " lost ") _ refl (line_after (decimal (length b.neighbourhood.losts)) _ (number (length b.neighbourhood.losts))
      (line_after (codes " topology ") _ refl (line_after (decimal (length b.topology.routers)) _ (number (length b.topology.routers))
      (line_after (codes " addresses ") _ refl (line_after (decimal (length b.topology.addresses)) _ (number (length b.topology.addresses))
      (line_after (codes " networks ") _ refl (line_after (decimal (length b.topology.networks)) _ (number (length b.topology.networks)) line_end)))))))));
  no_heading = begins_otherwise (codes "router ") (held_line b) 0 refl refl;
  no_route = begins_otherwise (codes " route ") (held_line b) 1 refl refl;
  no_settled = begins_otherwise (codes "settled yes\n") (held_line b) 0 refl refl;
}

pub flooding_plain : (relays : List (List Addr4)) (f : ℕ × Interface) → IsPlain (flooding_line relays f)
unfolding flooding_line
flooding_plain relays f = record {
  line = line_after (codes " flooding ") _ refl (line_after f.1.name _ (name_lacks 10 (omega arith) f.1.name f.1.sound.named)
      (line_after (relays_text (slice_index_or relays f.0 [])) _ (relays_lack (slice_index_or relays f.0 [])) line_end));
  no_heading = begins_otherwise (codes "router ") (flooding_line relays f) 0 refl refl;
  no_route = begins_otherwise (codes " route ") (flooding_line relays f) 1 refl refl;
  no_settled = begins_otherwise (codes "settled yes\n") (flooding_line relays f) 0 refl refl;
}

pub routing_plain : (relays : List Addr4) → IsPlain (routing_line relays)
unfolding routing_line
routing_plain relays = record {
  line = line_after (codes " routing") _ refl (line_after (relays_text relays) _ (relays_lack relays) line_end);
  no_heading = begins_otherwise (codes "router ") (routing_line relays) 0 refl refl;
  no_route = begins_otherwise (codes " route ") (routing_line relays) 5 refl refl;
  no_settled = begins_otherwise (codes "settled yes\n") (routing_line relays) 0 refl refl;
}

-- The lines of an event

pub tick_plain : (moment : ℕ) (r : RouterSettings) → IsPlain (tick_line moment r.name)
unfolding tick_line
tick_plain moment r = record {
  line = line_after (codes "tick ") _ refl (line_after (decimal moment) _ (number moment)
      (line_after (codes " ") _ refl (line_after r.name _ (own_name_lacks 10 (omega arith) r) line_end)));
  no_heading = begins_otherwise (codes "router ") (tick_line moment r.name) 0 refl refl;
  no_route = begins_otherwise (codes " route ") (tick_line moment r.name) 0 refl refl;
  no_settled = begins_otherwise (codes "settled yes\n") (tick_line moment r.name) 0 refl refl;
}

pub heard_plain : (moment : ℕ) (r : RouterSettings) (i : ℕ) (sender : Addr4) (frame : List ℕ) →
    IsPlain (heard_line moment r.name (face_name r.interfaces i) sender frame)
unfolding heard_line
heard_plain moment r i sender frame = record {
  line = line_after (codes "heard ") _ refl (line_after (decimal moment) _ (number moment)
      (line_after (codes " ") _ refl (line_after r.name _ (own_name_lacks 10 (omega arith) r)
      (line_after (codes " ") _ refl (line_after (face_name r.interfaces i) _ (face r.interfaces i)
      (line_after (codes " ") _ refl (line_after (dotted sender) _ (address sender)
      (line_after (codes " ") _ refl (line_after _ _ (hex_lacks frame) line_end)))))))));
  no_heading = begins_otherwise (codes "router ") (heard_line moment r.name (face_name r.interfaces i) sender frame) 0 refl refl;
  no_route = begins_otherwise (codes " route ") (heard_line moment r.name (face_name r.interfaces i) sender frame) 0 refl refl;
  no_settled = begins_otherwise (codes "settled yes\n") (heard_line moment r.name (face_name r.interfaces i) sender frame) 0 refl refl;
}

pub flooding_relays_plain : (r : RouterSettings) (relays : List (List Addr4)) (f : ℕ × Interface) →
    IsPlain (flooding_relays_line r.name relays f)
unfolding flooding_relays_line
flooding_relays_plain r relays f = record {
  line = line_after (codes "relays ") _ refl (line_after r.name _ (own_name_lacks 10 (omega arith) r)
      (line_after (codes " flooding ") _ refl (line_after f.1.name _ (name_lacks 10 (omega arith) f.1.name f.1.sound.named)
      (line_after (relays_text (slice_index_or relays f.0 [])) _ (relays_lack (slice_index_or relays f.0 [])) line_end))));
  no_heading = begins_otherwise (codes "router ") (flooding_relays_line r.name relays f) 1 refl refl;
  no_route = begins_otherwise (codes " route ") (flooding_relays_line r.name relays f) 0 refl refl;
  no_settled = begins_otherwise (codes "settled yes\n") (flooding_relays_line r.name relays f) 0 refl refl;
}

pub routing_relays_plain : (r : RouterSettings) (relays : List Addr4) → IsPlain (routing_relays_line r.name relays)
unfolding routing_relays_line
routing_relays_plain r relays = record {
  line = line_after (codes "relays ") _ refl (line_after r.name _ (own_name_lacks 10 (omega arith) r)
      (line_after (codes " routing") _ refl (line_after (relays_text relays) _ (relays_lack relays) line_end)));
  no_heading = begins_otherwise (codes "router ") (routing_relays_line r.name relays) 1 refl refl;
  no_route = begins_otherwise (codes " route ") (routing_relays_line r.name relays) 0 refl refl;
  no_settled = begins_otherwise (codes "settled yes\n") (routing_relays_line r.name relays) 0 refl refl;
}

pub sent_plain : (moment : ℕ) (r : RouterSettings) (i : ℕ) (frame : List ℕ) →
    IsPlain (sent_line moment r.name (face_name r.interfaces i) frame)
unfolding sent_line
sent_plain moment r i frame = record {
  line = line_after (codes "sent ") _ refl (line_after (decimal moment) _ (number moment)
      (line_after (codes " ") _ refl (line_after r.name _ (own_name_lacks 10 (omega arith) r)
      (line_after (codes " ") _ refl (line_after (face_name r.interfaces i) _ (face r.interfaces i)
      (line_after (codes " ") _ refl (line_after _ _ (hex_lacks frame) line_end)))))));
  no_heading = begins_otherwise (codes "router ") (sent_line moment r.name (face_name r.interfaces i) frame) 0 refl refl;
  no_route = begins_otherwise (codes " route ") (sent_line moment r.name (face_name r.interfaces i) frame) 0 refl refl;
  no_settled = begins_otherwise (codes "settled yes\n") (sent_line moment r.name (face_name r.interfaces i) frame) 2 refl refl;
}

pub loss_plain : (moment : ℕ) (routers : List RouterSettings) (a : RadioArc) →
    IsPlain (loss_line moment (router_name routers a.from) (face_name (faces_of routers a.from) a.from_iface) (router_name routers a.to) (face_name (faces_of routers a.to) a.to_iface))
unfolding loss_line
loss_plain moment routers a =
    let router = λ (x : ℕ). router_name_lacks 10 (omega arith) routers x in
    let from = router_name routers a.from in
    let from_face = face_name (faces_of routers a.from) a.from_iface in
    let to = router_name routers a.to in
    let to_face = face_name (faces_of routers a.to) a.to_iface in
    record {
      line = line_after (codes "lost ") _ refl (line_after (decimal moment) _ (number moment)
          (line_after (codes " ") _ refl (line_after from _ (router a.from)
          (line_after (codes ".") _ refl (line_after from_face _ (face (faces_of routers a.from) a.from_iface)
          (line_after (codes " ") _ refl (line_after to _ (router a.to)
          (line_after (codes ".") _ refl (line_after to_face _ (face (faces_of routers a.to) a.to_iface) line_end)))))))));
      no_heading = begins_otherwise (codes "router ") (loss_line moment from from_face to to_face) 0 refl refl;
      no_route = begins_otherwise (codes " route ") (loss_line moment from from_face to to_face) 0 refl refl;
      no_settled = begins_otherwise (codes "settled yes\n") (loss_line moment from from_face to to_face) 0 refl refl;
    }

-- The lines of a network

pub counts_plain : (s : Scenario) (counts : Counts) → IsPlain (counts_line s counts)
unfolding counts_line
counts_plain s counts = record {
  line = line_after (codes "emulate routers ") _ refl (line_after (decimal (length s.routers)) _ (number (length s.routers))
      (line_after (codes " arcs ") _ refl (line_after (decimal (length s.arcs)) _ (number (length s.arcs))
      (line_after (codes " end ") _ refl (line_after (decimal s.end) _ (number s.end)
      (line_after (codes " sent ") _ refl (line_after (decimal counts.sent) _ (number counts.sent)
      (line_after (codes " delivered ") _ refl (line_after (decimal counts.delivered) _ (number counts.delivered)
      (line_after (codes " lost ") _ refl (line_after (decimal counts.lost) _ (number counts.lost) line_end)))))))))));
  no_heading = begins_otherwise (codes "router ") (counts_line s counts) 0 refl refl;
  no_route = begins_otherwise (codes " route ") (counts_line s counts) 0 refl refl;
  no_settled = begins_otherwise (codes "settled yes\n") (counts_line s counts) 0 refl refl;
}

parts_lack : (parts : List (List ℕ)) → AllByRecursion (λ p. lacks 10 p ≡ true) parts → lacks 10 (joined parts) ≡ true
parts_lack [] a = refl
parts_lack (p ∷ parts) a = lacks_both 10 p (joined parts) a.0 (parts_lack parts a.1)

key_lacks : (faces : List Interface) (key : GapKey) → lacks 10 (key_text faces key) ≡ true
unfolding key_text
key_lacks faces (Of_link i key) = parts_lack (codes "link " ∷ face_name faces i ∷ codes " " ∷ dotted key.addr ∷ []) (refl, (face faces i, (refl, (address key.addr, tt))))
key_lacks faces (Of_neighbour originator) = parts_lack (codes "neighbour " ∷ dotted originator ∷ []) (refl, (address originator, tt))
key_lacks faces (Of_two_hop i key) =
    parts_lack (codes "twohop " ∷ face_name faces i ∷ codes " " ∷ dotted key.link.addr ∷ codes " " ∷ dotted key.addr ∷ []) (refl, (face faces i, (refl, (address key.link.addr, (refl, (address key.addr, tt))))))
key_lacks faces (Of_router from to) = parts_lack (codes "topology router " ∷ dotted from ∷ codes " " ∷ dotted to ∷ []) (refl, (address from, (refl, (address to, tt))))
key_lacks faces (Of_address from addr) = parts_lack (codes "topology address " ∷ dotted from ∷ codes " " ∷ dotted addr ∷ []) (refl, (address from, (refl, (address addr, tt))))
key_lacks faces (Of_network from net) = parts_lack (codes "topology network " ∷ dotted from ∷ codes " " ∷ slashed net ∷ []) (refl, (address from, (refl, (slashed_lacks 10 (omega arith) refl refl net, tt))))

pub gap_plain : (s : Scenario) (gap : Gap) → IsPlain (gap_line s gap)
unfolding gap_line
gap_plain s gap =
    let name = router_name s.routers gap.router in
    let head = joined (codes "gap " ∷ name ∷ codes " " ∷ []) in
    let key = key_text (faces_of s.routers gap.router) gap.key in
    record {
      line = line_after (head ++ key) _
          (lacks_both 10 head key (parts_lack (codes "gap " ∷ name ∷ codes " " ∷ []) (refl, (router_name_lacks 10 (omega arith) s.routers gap.router, (refl, tt)))) (key_lacks (faces_of s.routers gap.router) gap.key))
          (line_after (codes " held ") _ refl (line_after (choice_text (is_some gap.held)) _ (choice_lacks (is_some gap.held))
          (line_after (codes " present ") _ refl (line_after (choice_text (is_some gap.present)) _ (choice_lacks (is_some gap.present)) line_end))));
      no_heading = begins_otherwise (codes "router ") (gap_line s gap) 0 refl refl;
      no_route = begins_otherwise (codes " route ") (gap_line s gap) 0 refl refl;
      no_settled = begins_otherwise (codes "settled yes\n") (gap_line s gap) 0 refl refl;
    }

pub settled_neither : IsNeither (codes "settled yes\n")
settled_neither = record {
  line = line_after (codes "settled yes") (codes "\n") refl line_end;
  no_heading = begins_otherwise (codes "router ") (codes "settled yes\n") 0 refl refl;
  no_route = begins_otherwise (codes " route ") (codes "settled yes\n") 0 refl refl;
}

pub unsettled_plain : IsPlain (codes "settled no\n")
unsettled_plain = record {
  line = line_after (codes "settled no") (codes "\n") refl line_end;
  no_heading = begins_otherwise (codes "router ") (codes "settled no\n") 0 refl refl;
  no_route = begins_otherwise (codes " route ") (codes "settled no\n") 0 refl refl;
  no_settled = begins_otherwise (codes "settled yes\n") (codes "settled no\n") 8 refl refl;
}

-- no line at all
pub nothing_plain : (text : List ℕ) → text ≡ [] → ArePlain text
nothing_plain text none = record { lines = []; each = All-nil IsPlain; whole = none }
