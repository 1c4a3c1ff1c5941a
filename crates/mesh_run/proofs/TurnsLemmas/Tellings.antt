-- What was told in all, and its counts.
use Rattle.mesh_run.proofs.Common.{common_steps, ◌≡◌, ℕ, ◌+◌, ◌<◌, List, All, length, [], ◌++◌, Option, arith, map-append, Report, TellsMore, Frame, Tally, handed, Hands, counted}
use Rattle.std.proofs.lemmas.List.Sums.{sum_by-append}
use Rattle.mesh_atoms.specs.declared.settings.RouterSettings.{RouterSettings}
use Rattle.mesh_texts.specs.machine.Sendable.{IsSendable}

-- nothing was told
pub tells_nothing : {A : Type 0} (a : Option (List A)) → TellsMore a a []
tells_nothing a = grind (arith, common_steps)

-- what was told, and then more
pub tells_more : {A : Type 0} (a b c : Option (List A)) (x y : List A) → TellsMore a b x → TellsMore b c y → TellsMore a c (x ++ y)
tells_more a b c x y h k = grind (arith, common_steps)

-- counts of nothing
pub counted_nothing : (t : Tally) → t ≡ counted t []
counted_nothing t = grind (arith, common_steps)

-- counts of more
pub counted_more : (t u v : Tally) (a b : List Report) → u ≡ counted t a → v ≡ counted u b → v ≡ counted t (a ++ b)
counted_more t u v a b h k = grind (arith, common_steps, sum_by-append)

-- frames, and then more
pub hands_more : (fs gs : List Frame) (a b c : Option (List Report)) (t u v : Tally) → Hands fs a b t u → Hands gs b c u v → Hands (fs ++ gs) a c t v
hands_more fs gs a b c t u v h k = grind (arith, common_steps, tells_more, map-append, handed, counted_more)

-- what a router sends goes out by its own interfaces
pub on_its_own : (settings : RouterSettings) (attached : ℕ) (frames : List Frame) → attached ≡ length settings.interfaces → All (IsSendable settings) frames → All (λ f. f.iface < attached) frames
on_its_own settings attached frames are sendable = λ k d less. rw are (sendable k d less).iface
