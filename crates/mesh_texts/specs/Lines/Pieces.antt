-- The pieces that lines are put together from.
use Rattle.std.specs.Prelude.{ℕ, List, ◌++◌, decimal}
use Rattle.std.specs.Borrow.{Bor}
use Rattle.hex.specs.Hex.{encode_lower}
use Rattle.mesh_texts.specs.declared.lines.pieces.Piece.{Piece}
use Rattle.mesh_texts.specs.declared.lines.pieces.Piece.TheVariants.{Text, Number, Address, Network, Node, Cost, Choice, Relays, Hex}
use Rattle.mesh_texts.specs.Lines.Marks.{dotted, slashed, node_text, metric_text, choice_text, relays_text}

-- the octets of a piece
abbrev pub piece_text : Piece → List ℕ
piece_text (Text octets) = octets.now
piece_text (Number number) = decimal number
piece_text (Address addr) = dotted addr
piece_text (Network net) = slashed net
piece_text (Node node) = node_text node
piece_text (Cost metric) = metric_text metric
piece_text (Choice choice) = choice_text choice
piece_text (Relays addrs) = relays_text addrs.now
piece_text (Hex octets) = encode_lower octets.now

-- a piece behind its label
abbrev pub labelled_text : Bor (List ℕ) × Piece → List ℕ
labelled_text p = p.0.now ++ piece_text p.1
