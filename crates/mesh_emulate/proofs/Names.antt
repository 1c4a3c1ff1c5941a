-- The scenario that an input states has one list of names.
use Rattle.mesh_emulate.proofs.Common.{◌≡◌, ℕ, zero, suc, List, [], ◌∷◌, refl, sym, ap, ◌∙◌, subst, codes, Data, Members, RouterSettings, Scenario, same_ok, RouterSays, States, Wants, HasName, IsNamed, IsUnknownName, FirstUnknown, Of_send, Of_probe, name, listed}
use Rattle.mesh_config.specs.Stated.Scenario.{sub_times, routers}
use Rattle.mesh_config.specs.Stated.Tables.{Each, table_of}
use Rattle.mesh_config.specs.Keys.Document.{document}

-- of two readings of the same tables, each router has the same name in both
named_in_both : (times times' : Members) (ds : List Data) (rs qs : List RouterSettings) → Each (RouterSays times) ds rs → Each (RouterSays times') ds qs →
    (wanted : List ℕ) (x : ℕ) → HasName rs wanted x → HasName qs wanted x
named_in_both times times' ds [] qs each each' wanted x (r, at, is) = absurd cc
named_in_both times times' [] (s ∷ rs) qs each each' wanted x has = absurd each
named_in_both times times' (d ∷ ds) (s ∷ rs) [] each each' wanted x has = absurd each'
named_in_both times times' (d ∷ ds) (s ∷ rs) (q ∷ qs) each each' wanted zero (r, at, is) =
    let same : s ≡ r = cc in
    (q, refl, same_ok {r = name (table_of d)} {a = q.name} {b = s.name} each'.0.are_fields.is_name each.0.are_fields.is_name ∙ ap (λ (k : RouterSettings). k.name) same ∙ is)
named_in_both times times' (d ∷ ds) (s ∷ rs) (q ∷ qs) each each' wanted (suc x) (r, at, is) =
    named_in_both times times' ds rs qs each.1 each'.1 wanted x (r, at, is)

pub named_as : (input : List ℕ) (s t : Scenario) → States input s → States input t → (wanted : List ℕ) (x : ℕ) → IsNamed s wanted x → IsNamed t wanted x
named_as input s t is it wanted x named =
    let (table, (read, says)) = is.says in
    let (table', (read', says')) = it.says in
    let same : table ≡ table' = same_ok {r = document input} {a = table} {b = table'} read read' in
    named_in_both (sub_times table) (sub_times table') (listed (routers table)) s.routers t.routers says.are_routers
    (subst (λ (m : Members). Each (RouterSays (sub_times table')) (listed (routers m)) t.routers) (sym same) says'.are_routers) wanted x named

-- so a name that no router of the one has no router of the other has
unknown_there : (input : List ℕ) (s t : Scenario) → States input s → States input t → (name option : List ℕ) (number : ℕ) (key : List ℕ) → IsUnknownName s name option number key → IsUnknownName t name option number key
unknown_there input s t is it name option number key u =
    record { none = λ x named. u.none x (named_as input t s it is name x named); is_number = u.is_number; is_key = u.is_key }

pub unknown_as : (input : List ℕ) (s t : Scenario) → States input s → States input t → (wants : Wants) (number : ℕ) (key : List ℕ) → FirstUnknown s wants number key → FirstUnknown t wants number key
unknown_as input s t is it wants number key (Of_send (name, wanted, u)) = Of_send (name, wanted, unknown_there input s t is it name (codes "send") number key u)
unknown_as input s t is it wants number key (Of_probe known (name, wanted, u)) =
    Of_probe (λ n e. let (x, named) = known n e in (x, named_as input s t is it n x named)) (name, wanted, unknown_there input s t is it name (codes "probe") number key u)
