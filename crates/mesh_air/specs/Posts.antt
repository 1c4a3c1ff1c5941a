-- What is handed to the operating system for the peers of an interface.
use Rattle.std.specs.Prelude.{ℕ, [], ◌∷◌, ◌++◌, List, Option}
use Rattle.mesh_atoms.specs.declared.addr.Endpoint.{Endpoint}
use Rattle.mesh_io.specs.Told.{TellsMore}
use Rattle.mesh_io.specs.declared.airs.Sent.{Sent}
use Rattle.mesh_io.specs.declared.airs.Sent.TheVariants.{Done, Failed}

-- a frame that was handed over for a peer, and the answer
pub record Posting : Type 0 where
  pub peer : Endpoint
  pub frame : List ℕ
  pub answer : Sent

-- the answer to two sends: Failed where one failed
abbrev pub both : Sent → Sent → Sent
both Done later = later
both Failed later = Failed

-- by these postings, told one after the other, the frame was handed over once for each of these peers, in order, whatever was
-- answered; the answer to it is Failed where one of the answers is
pub data PostsEach (frame : List ℕ) (log : Option (List Posting)) : List Endpoint → Option (List Posting) → Sent → Type 0 where
  To_none : PostsEach frame log [] log Done
  To_one_more : {peers : List Endpoint} {mid log' : Option (List Posting)} {sent : Sent} (peer : Endpoint) (answer : Sent) →
      PostsEach frame log peers mid sent → TellsMore mid log' (record { peer = peer; frame = frame; answer = answer } ∷ []) →
      PostsEach frame log (peers ++ peer ∷ []) log' (both sent answer)
