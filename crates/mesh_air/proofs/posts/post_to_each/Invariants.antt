use Rattle.std.proofs.Common.{take}
use Rattle.mesh_air.specs.Posts.{PostsEach}
use Rattle.mesh_air.proofs.posts.post_to_each.Given as goal

-- the frame was handed over for so many peers
abbrev pub invariant-loop-i : goal.invariant-loop-i
invariant-loop-i g l = PostsEach l.frame (g.P.Post.posted l.fn.post) (take l.i l.peers) (g.P.Post.posted l.post) l.sent
