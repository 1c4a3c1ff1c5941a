use Rattle.std.proofs.Common.{◌≡◌, ◌+◌, [], ◌∷◌, ◌++◌, take, ap, sym, ◌∙◌}
use Rattle.std.proofs.lemmas.List.{take_more}
use Rattle.mesh_atoms.specs.declared.addr.Endpoint.{Endpoint}
use Rattle.mesh_air.specs.Posts.PostsEach.{To_none, To_one_more}
use Rattle.mesh_air.proofs.posts.post_to_each.Goals as goal

pub loop-i-init : goal.loop-i-init
loop-i-init g c = To_none

pub loop-i-preserved : goal.loop-i-preserved
loop-i-preserved g c =
    let peers = c.args.peers.now in
    let peer = c.index-peers-i.result in
    let one : take (c.loop-i.i + 1) peers ≡ take c.loop-i.i peers ++ peer ∷ [] =
    take_more peers c.loop-i.i peer c.loop-i-test.true ∙ ap (λ (p : Endpoint). take c.loop-i.i peers ++ p ∷ []) (sym c.index-peers-i.is) in
    rw (one, c.both-sent.ensures) (To_one_more peer c.post.result c.loop-i.invariant c.post.ensures)
