-- Texts of whole lines, and the lines that they have.
use Rattle.mesh_trace.proofs.Common.{common_steps, ◌≡◌, ℕ, true, eqb, List, [], ◌∷◌, ◌++◌, refl, ap, ◌∙◌, arith, append_assoc, codes, decimal, slice_index_or, ne_eqb, Addr4, Interface, RadioArc, RouterSettings, dotted, relays_text, face_name, faces_of, tick_line, heard_line, flooding_relays_line, routing_relays_line, sent_line, loss_line, lacks, lacks_both, lacks_rest, not_here, relays_lack, own_name_lacks, router_name_lacks, hex_lacks, name_lacks, lines_of}
use Rattle.mesh_texts.specs.machine.Names.{router_name}
use Rattle.mesh_texts.proofs.LineTexts.{address, number, face}

-- a text that is one line
pub record OneLine (text : List ℕ) : Type 0 where
  pub inside : List ℕ
  pub lacking : lacks 10 inside ≡ true
  pub whole : inside ++ codes "\n" ≡ text

-- the first line
lines_front : (inside rest : List ℕ) → lacks 10 inside ≡ true → lines_of (inside ++ 10 ∷ rest) ≡ inside ∷ lines_of rest
lines_front [] rest h = refl
lines_front (x ∷ xs) rest h = grind (arith, common_steps, eqb, ne_eqb, not_here, lacks_rest, lines_front xs rest (lacks_rest 10 x xs h))

-- a text of such a line and more
pub lines_more : (text rest : List ℕ) → (one : OneLine text) → lines_of (text ++ rest) ≡ one.inside ∷ lines_of rest
lines_more text rest one = grind (arith, common_steps, lines_front)

-- Making lines

pub line_end : OneLine (codes "\n")
line_end = record { inside = []; lacking = refl; whole = refl }

pub line_after : (a l : List ℕ) → lacks 10 a ≡ true → OneLine l → OneLine (a ++ l)
line_after a l h is = record {
  inside = a ++ is.inside;
  lacking = lacks_both 10 a is.inside h is.lacking;
  whole = append_assoc a is.inside (codes "\n") ∙ ap (λ (t : List ℕ). a ++ t) is.whole;
}

-- The lines of an event

pub tick_one : (moment : ℕ) (r : RouterSettings) → OneLine (tick_line moment r.name)
unfolding tick_line
tick_one moment r = line_after (codes "tick ") _ refl (line_after (decimal moment) _ (number moment)
    (line_after (codes " ") _ refl (line_after r.name _ (own_name_lacks 10 (omega arith) r) line_end)))

pub heard_one : (moment : ℕ) (r : RouterSettings) (i : ℕ) (sender : Addr4) (frame : List ℕ) → OneLine (heard_line moment r.name (face_name r.interfaces i) sender frame)
unfolding heard_line
heard_one moment r i sender frame = line_after (codes "heard ") _ refl (line_after (decimal moment) _ (number moment)
    (line_after (codes " ") _ refl (line_after r.name _ (own_name_lacks 10 (omega arith) r)
    (line_after (codes " ") _ refl (line_after (face_name r.interfaces i) _ (face r.interfaces i)
    (line_after (codes " ") _ refl (line_after (dotted sender) _ (address sender)
    (line_after (codes " ") _ refl (line_after _ _ (hex_lacks frame) line_end)))))))))

pub flooding_one : (r : RouterSettings) (relays : List (List Addr4)) (f : ℕ × Interface) → OneLine (flooding_relays_line r.name relays f)
unfolding flooding_relays_line
flooding_one r relays f = line_after (codes "relays ") _ refl (line_after r.name _ (own_name_lacks 10 (omega arith) r)
    (line_after (codes " flooding ") _ refl (line_after f.1.name _ (name_lacks 10 (omega arith) f.1.name f.1.sound.named)
    (line_after (relays_text (slice_index_or relays f.0 [])) _ (relays_lack (slice_index_or relays f.0 [])) line_end))))

pub routing_one : (r : RouterSettings) (relays : List Addr4) → OneLine (routing_relays_line r.name relays)
unfolding routing_relays_line
routing_one r relays = line_after (codes "relays ") _ refl (line_after r.name _ (own_name_lacks 10 (omega arith) r)
    (line_after (codes " routing") _ refl (line_after (relays_text relays) _ (relays_lack relays) line_end)))

pub sent_one : (moment : ℕ) (r : RouterSettings) (i : ℕ) (frame : List ℕ) → OneLine (sent_line moment r.name (face_name r.interfaces i) frame)
unfolding sent_line
sent_one moment r i frame = line_after (codes "sent ") _ refl (line_after (decimal moment) _ (number moment)
    (line_after (codes " ") _ refl (line_after r.name _ (own_name_lacks 10 (omega arith) r)
    (line_after (codes " ") _ refl (line_after (face_name r.interfaces i) _ (face r.interfaces i)
    (line_after (codes " ") _ refl (line_after _ _ (hex_lacks frame) line_end)))))))

pub loss_one : (moment : ℕ) (routers : List RouterSettings) (a : RadioArc) →
    OneLine (loss_line moment (router_name routers a.from) (face_name (faces_of routers a.from) a.from_iface) (router_name routers a.to) (face_name (faces_of routers a.to) a.to_iface))
unfolding loss_line
loss_one moment routers a =
    let router = λ (x : ℕ). router_name_lacks 10 (omega arith) routers x in
    line_after (codes "lost ") _ refl (line_after (decimal moment) _ (number moment)
    (line_after (codes " ") _ refl (line_after (router_name routers a.from) _ (router a.from)
    (line_after (codes ".") _ refl (line_after (face_name (faces_of routers a.from) a.from_iface) _ (face (faces_of routers a.from) a.from_iface)
    (line_after (codes " ") _ refl (line_after (router_name routers a.to) _ (router a.to)
    (line_after (codes ".") _ refl (line_after (face_name (faces_of routers a.to) a.to_iface) _ (face (faces_of routers a.to) a.to_iface) line_end)))))))))
