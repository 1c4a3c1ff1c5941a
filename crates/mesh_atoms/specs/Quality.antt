-- The quality of links, and which of them are admitted by it (RFC 6130, section 14).
use Rattle.std.specs.Prelude.{refl, ℕ, ◌+◌, min, List, [], map, Option, Some, None, true, false, not, cond, nat_le, nat_lt, ◌&&◌, ◌||◌, slice_get}
use Rattle.std.specs.List.{fold, filter, list_any}
use Rattle.mesh_atoms.specs.declared.addr.Addr4.{Addr4}
use Rattle.mesh_atoms.specs.declared.admit.QualityStep.{QualityStep}
use Rattle.mesh_atoms.specs.declared.admit.Admit.{Admit}
use Rattle.mesh_atoms.specs.declared.settings.Interface.{Interface}
use Rattle.mesh_atoms.specs.declared.settings.RouterSettings.{RouterSettings}
use Rattle.mesh_atoms.specs.declared.tuples.Link.{Link}
use Rattle.mesh_atoms.specs.Base.{addr_eq}

-- the quality of a sender with these steps at a moment: 100, and then what the last step says that has begun
abbrev pub quality_of : List QualityStep → ℕ → ℕ
quality_of steps now = fold (λ quality step. cond (nat_le step.at now) step.quality quality) 100 steps

-- the quality of a link with these addresses: the least of the senders among them, and 100 where none is
abbrev pub quality_at : Admit → List Addr4 → ℕ → ℕ
quality_at rule addrs now =
    fold min 100 (map (λ s. quality_of s.steps now) (filter (λ s. list_any (addr_eq s.sender) addrs) rule.senders))

-- everything is admitted
abbrev pub admits_all : Admit
admits_all = record { accept = 0; reject = 0; senders = []; thresholds = refl }

-- the rule of an interface
abbrev pub rule_in : Option Interface → Admit
rule_in None = admits_all
rule_in (Some face) = face.admit

-- the rule of the router's interface i; everything is admitted where there is no such interface
abbrev pub rule_of : RouterSettings → ℕ → Admit
rule_of settings i = rule_in (slice_get settings.interfaces i)

-- a link by its quality at now: it is admitted where that is high enough; one that was admitted is lost where it is too low, and
-- then stays for the hold time at most, so that it is shown as LOST; between the thresholds it is what it was
abbrev pub by_quality : Admit → ℕ → ℕ → ℕ → Link × ℕ → Link × ℕ
by_quality rule hold now quality e =
    cond (nat_le rule.accept quality) (record e.0 { quality = quality; pending = false; lost = false }, e.1)
    (cond (nat_lt quality rule.reject && not (e.0.pending || e.0.lost))
    (record e.0 { quality = quality; lost = true }, min e.1 (now + hold))
    (record e.0 { quality = quality }, e.1))

-- the same by the quality of the link's addresses at now
abbrev pub admitted : Admit → ℕ → ℕ → Link × ℕ → Link × ℕ
admitted rule hold now e = by_quality rule hold now (quality_at rule e.0.addrs now) e

-- the link of interface i at a key by its quality, where there is one
abbrev pub admit_on : RouterSettings → ℕ → ℕ → Option (Link × ℕ) → Option (Link × ℕ)
admit_on settings i now None = None
admit_on settings i now (Some e) = Some (admitted (rule_of settings i) settings.times.link_hold now e)
