-- At the moment of the last event neither the quality rule nor expiry changes a link, so that links stay as they are.
use Rattle.mesh_paths.proofs.Common.{arith, ◌≡◌, ℕ, refl, ◌∙◌, ap, Option, Some, None, Bool, true, cond, nat_lt, common_steps, LinkKey, Link, RouterSettings, if_live, admit_on, SoundNeighbourhood, IsSoundLink, Neighbourhood, link_at}
use Rattle.mesh_atoms.specs.Live.{trim, trimmed}

abbrev entry : Link → ℕ → Link × ℕ
entry link until = (link, until)

trimmed_sound : (now : ℕ) (key : LinkKey) (link : Link) (until : ℕ) → IsSoundLink now key link → trimmed now (entry link until) ≡ entry link until
trimmed_sound now key link until sound = grind (arith, common_steps)

-- what isn't expired stays
live_link : (settings : RouterSettings) (now : ℕ) (near : Neighbourhood) → SoundNeighbourhood settings now near → (i : ℕ) (key : LinkKey) →
    trim now (if_live now (link_at near i key)) ≡ link_at near i key
live_link settings now near sound i key = by_entry (link_at near i key) refl
  where
    by_entry : (o : Option (Link × ℕ)) → link_at near i key ≡ o → trim now (if_live now o) ≡ o
    by_entry None e = refl
    by_entry (Some (link, until)) e =
        let fresh : nat_lt now until ≡ true = sound.fresh_links i key link until e in
        let live : if_live now (Some (link, until)) ≡ Some (link, until) = ap (λ (b : Bool). cond b (Some (link, until)) None) fresh in
        ap (trim now) live ∙ ap (λ (x : Link × ℕ). Some x) (trimmed_sound now key link until (sound.link i key link until e))

-- the quality rule and expiry leave each link of a sound neighbourhood
pub link_stays : (settings : RouterSettings) (now : ℕ) (near : Neighbourhood) → SoundNeighbourhood settings now near → (i : ℕ) (key : LinkKey) →
    trim now (if_live now (admit_on settings i now (link_at near i key))) ≡ link_at near i key
link_stays settings now near sound i key = grind (arith, common_steps, live_link)
