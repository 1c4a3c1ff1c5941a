-- What an outbox lends, and what is done to one.
use Rattle.std.specs.Prelude.{◌≡◌, ◌++◌, ℕ, List, Option, Some, None}
use Rattle.std.specs.Borrow.{Bor}
use Rattle.mesh_machine.specs.declared.frame.Frame.{Frame}

-- a frame that is lent
abbrev pub frame_of : Option (ℕ × Bor (List ℕ)) → Option Frame
frame_of None = None
frame_of (Some e) = Some (record { iface = e.0; bytes = e.1.now })

-- some frames, or none, were put at the end, and none was taken out
abbrev pub OnlyAppends : List Frame → List Frame → Type 0
OnlyAppends before after = (sent : List Frame) × (after ≡ before ++ sent)
