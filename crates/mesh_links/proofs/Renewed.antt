-- What the steps of a HELLO leave of a link.
use Rattle.mesh_links.proofs.Common.{arith, common_steps, ◌≡◌, ℕ, ◌∙◌, Option, Shown, Link, trimmed, by_status, renewed}
use Rattle.mesh_atoms.specs.declared.hello.LinkStatus.{LinkStatus}

-- A link that is renewed keeps its addresses

pub addrs-trimmed : (now : ℕ) (e : Link × ℕ) → (trimmed now e).0.addrs ≡ e.0.addrs
addrs-trimmed now e = grind (arith, common_steps)

pub addrs-by_status : (shown : Shown) (hold now : ℕ) (status : Option LinkStatus) (e : Link × ℕ) → (by_status shown hold now status e).0.addrs ≡ e.0.addrs
addrs-by_status shown hold now status e = grind (arith, common_steps)

pub addrs-renewed : (shown : Shown) (hold now : ℕ) (e : Link × ℕ) → (renewed shown hold now e).0.addrs ≡ e.0.addrs
addrs-renewed shown hold now e = addrs-trimmed now (by_status shown hold now shown.status e) ∙ addrs-by_status shown hold now shown.status e
