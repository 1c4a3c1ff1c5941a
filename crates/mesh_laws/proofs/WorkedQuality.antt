-- The receiver of the worked HELLOs is told no quality of its senders, so that it admits whatever it hears.
use Rattle.mesh_laws.proofs.Common.{arith, common_steps, ◌≡◌, ℕ, refl, List, [], ◌∷◌, map, Some, None, Bool, false, Addr4, Admit, RouterSettings, Link, made, quality_at, rule_of, by_quality, admit_on, peer, one, link, IsReceiver}
use Rattle.mesh_laws.proofs.Qualities.{below_all}
use Rattle.mesh_laws.proofs.WorkedReceiver.{face_at}
use Rattle.mesh_laws.proofs.WorkedHello.{told}

mapped_none : {A B : Type 0} (f : A → B) (xs : List A) → map f xs ≡ [] → xs ≡ []
mapped_none f [] e = refl
mapped_none f (x ∷ xs) e = absurd (cc)

-- the link that is made, by its quality and whether it is PENDING
abbrev pub begun : ℕ → Bool → Link × ℕ
begun quality pending = (
  record {
    addrs = peer ∷ [];
    heard = 0;
    sym = 0;
    quality = quality;
    pending = pending;
    lost = false;
    link_in = one;
    link_out = None;
    selector = false;
  },
  49352,
)

module _ (settings : RouterSettings) (r : IsReceiver settings) where
  abbrev rule : Admit
  rule = rule_of settings 0

  no_qualities : rule.senders ≡ []
  no_qualities = grind (arith, common_steps, face_at, mapped_none)

  best : (addrs : List Addr4) (now : ℕ) → quality_at rule addrs now ≡ 100
  best addrs now = grind (arith, common_steps, no_qualities)

  pub made_is : made rule told.shown 200 ≡ begun 100 false
  made_is = grind (arith, common_steps, best, peer, below_all)

  pub link_admitted : admit_on settings 0 300 (Some (link, 98504)) ≡ Some (link, 98504)
  link_admitted = grind (arith, common_steps, below_all, by_quality, best, peer)
