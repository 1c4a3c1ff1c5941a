-- Links that leave room for a hold time still do after each change.
use Rattle.mesh_links.proofs.Common.{arith, common_steps, ◌≡◌, ℕ, ◌<◌, ◌^◌, refl, sym, subst, ◌∙◌, Bool, true, false, Option, Some, None, option_map, Link, LinkKey, Base, find, link_eq, SetsOnly, trimmed, link_equiv, changed_at, find-changed_at, HasRoom, ExpiresLinks}

-- a link with its moment
abbrev pub IsLow : Link × ℕ → Type 0
IsLow e = e.0.sym < 2 ^ 63

low_there : (o : Option (Link × ℕ)) (e f : Link × ℕ) → o ≡ Some f → o ≡ Some e → IsLow f → IsLow e
low_there o e f at found low = let same : Some f ≡ Some e = sym at ∙ found in let is : f ≡ e = cc in subst IsLow is low

-- after one link was set
pub room_set : (before after : Base LinkKey Link) (key : LinkKey) (entry : Link × ℕ) → HasRoom before → SetsOnly link_eq before after key (Some entry) → IsLow entry → HasRoom after
room_set before after key entry room sets low q e found = grind (arith, common_steps, low_there)

-- after one link was changed in its place
pub room_changed : (before : Base LinkKey Link) (key : LinkKey) (change : Link × ℕ → Link × ℕ) → HasRoom before → ((e : Link × ℕ) → IsLow e → IsLow (change e)) → HasRoom (changed_at link_eq before key change)
room_changed before key change room low q e found = by_key (link_eq key q) refl where
  by_old : (o : Option (Link × ℕ)) → find link_eq before q ≡ o → option_map change o ≡ Some e → IsLow e
  by_old None is h = absurd cc
  by_old (Some f) is h = let same : change f ≡ e = cc in subst IsLow same (low f (room q f is))

  by_key : (b : Bool) → link_eq key q ≡ b → IsLow e
  by_key true is =
      let at : find link_eq (changed_at link_eq before key change) q ≡ option_map change (find link_eq before q) = find-changed_at link_equiv key change q before ∙ rw is refl in
      by_old (find link_eq before q) refl (sym at ∙ found)
  by_key false is =
      let at : find link_eq (changed_at link_eq before key change) q ≡ find link_eq before q = find-changed_at link_equiv key change q before ∙ rw is refl in
      room q e (sym at ∙ found)

sym-trimmed : (now : ℕ) (e : Link × ℕ) → (trimmed now e).0.sym ≡ e.0.sym
sym-trimmed now e = grind (arith, common_steps)

-- after expiry
pub room_expired : (now : ℕ) (before after : Base LinkKey Link) → HasRoom before → ExpiresLinks now before after → HasRoom after
room_expired now before after room expired key e found = grind (arith, common_steps, low_there, sym-trimmed)
