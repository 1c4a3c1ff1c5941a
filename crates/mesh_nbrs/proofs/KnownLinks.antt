-- A set that has the link of each 2-hop tuple.
use Rattle.mesh_nbrs.proofs.Common.{arith, common_steps, ◌≡◌, ℕ, true, false, Option, Some, None, sym, ◌∙◌, IsTrue, LinkKey, TwoHopKey, TwoHop, Base, find, if_live, SetsOnly, Expires, two_hop_eq, same_two_hop, link_equiv, DropsLink, KnowsLinks, link_cmp, none_is_some}
use Rattle.std.specs.BTreeSet.{BTreeSet, contains, Updates}

-- what is live was there
live_was : (now : ℕ) (o : Option (TwoHop × ℕ)) (e : TwoHop × ℕ) → if_live now o ≡ Some e → o ≡ Some e
live_was now o e h = grind (arith, common_steps)

module _ (links : BTreeSet LinkKey) (base : Base TwoHopKey TwoHop) (knows : KnowsLinks links base) where
  -- the tuple of a key whose link the set has is made
  pub links_put : (key : TwoHopKey) (entry : TwoHop × ℕ) (base' : Base TwoHopKey TwoHop) → IsTrue (contains link_cmp links key.link) → SetsOnly two_hop_eq base base' key (Some entry) → KnowsLinks links base'
  links_put key entry base' has only q e found = grind (arith, common_steps, same_two_hop)

  -- the set gets one link more
  pub links_more : (links' : BTreeSet LinkKey) (link : LinkKey) → Updates link_cmp links links' link true → KnowsLinks links' base
  links_more links' link updates q e found = grind (arith, common_steps)

  -- a tuple is taken out
  pub links_removed : (key : TwoHopKey) (base' : Base TwoHopKey TwoHop) → SetsOnly two_hop_eq base base' key None → KnowsLinks links base'
  links_removed key base' only q e found = grind (arith, common_steps, none_is_some)

  -- tuples expire
  pub links_live : (now : ℕ) (base' : Base TwoHopKey TwoHop) → Expires two_hop_eq now base base' → KnowsLinks links base'
  links_live now base' expires q e found = knows q e (live_was now (find two_hop_eq base q) e (sym (expires q) ∙ found))

  -- a link goes from the set, and its tuples with it
  pub links_dropped : (links' : BTreeSet LinkKey) (base' : Base TwoHopKey TwoHop) (link : LinkKey) → Updates link_cmp links links' link false → DropsLink link base base' → KnowsLinks links' base'
  links_dropped links' base' link updates drops q e found = grind (arith, common_steps, none_is_some, link_equiv)
