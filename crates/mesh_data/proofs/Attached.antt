-- A router attaches a network once.
use Rattle.mesh_data.proofs.Common.{◌≡◌, ℕ, sym, ◌∙◌, ap, subst, List, [], ◌∷◌, Contains, true, Some, inl, inr, map, NetAddr, Attached4, RouterSettings, Scenario, net_eq, metric_value, Attaches, any_of, net_itself, and_parts, contains_cases, contains_map, contains_none as none_of}
use Rattle.mesh_atoms.specs.Settings.{are_distinct}
use Rattle.mesh_atoms.proofs.Options.{not_both}

one_attached : (xs : List Attached4) (t u : Attached4) → are_distinct net_eq (map (λ a. a.net) xs) ≡ true → Contains xs t → Contains xs u → net_eq t.net u.net ≡ true → net_eq u.net t.net ≡ true → t ≡ u
one_attached [] t u h (k, l, e) there same back = absurd (none_of t (k, l, e))
one_attached (x ∷ xs) t u h here there same back =
    let (new, rest) = and_parts _ (are_distinct net_eq (map (λ a. a.net) xs)) h in
    elim (contains_cases x xs t here) [
      | inl e ↦ elim (contains_cases x xs u there) [
        | inl f ↦ sym e ∙ f
        | inr f ↦ absurd (not_both _ (any_of (net_eq x.net) (map (λ a. a.net) xs) u.net (subst (λ (y : Attached4). net_eq y.net u.net ≡ true) (sym e) same) (contains_map (λ (a : Attached4). a.net) xs u f)) new)
      ]
      | inr e ↦ elim (contains_cases x xs u there) [
        | inl f ↦ absurd (not_both _ (any_of (net_eq x.net) (map (λ a. a.net) xs) t.net (subst (λ (y : Attached4). net_eq y.net t.net ≡ true) (sym f) back) (contains_map (λ (a : Attached4). a.net) xs t e)) new)
        | inr f ↦ one_attached xs t u rest e f same back
      ]
    ]

-- a router attaches a network at one metric
pub one_metric : (s : Scenario) (x c k : ℕ) (net : NetAddr) → Attaches s x net c → Attaches s x net k → c ≡ k
one_metric s x c k net (r, is, t, t_in, t_net, t_cost) (q, at, u, u_in, u_net, u_cost) =
    let same : q ≡ r = (let e : Some q ≡ Some r = sym at ∙ is in cc) in
    let u_here : Contains r.attached u = subst (λ (o : RouterSettings). Contains o.attached u) same u_in in
    let nets : t.net ≡ u.net = t_net ∙ sym u_net in
    let one : t ≡ u = one_attached r.attached t u r.sound.distinct_nets t_in u_here (net_itself t.net u.net nets) (net_itself u.net t.net (sym nets)) in
    sym t_cost ∙ ap (λ (a : Attached4). metric_value a.metric) one ∙ u_cost
