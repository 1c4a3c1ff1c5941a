use Rattle.mesh_expire.proofs.Common.{◌≡◌, length, arith, ap, ◌∙◌, rules, filter, IsDistinct-keys_filter}
use Rattle.std.proofs.lemmas.Fn.{filter_same}
use Rattle.mesh_expire.proofs.Places.{is_live, lives, none_filtered}
use Rattle.mesh_expire.proofs.list_table.drop_expired.Goals as goal

pub returns-clause-distinct : goal.returns-clause-distinct
returns-clause-distinct g c =
    let e : c.retain.new.self.items ≡ filter (λ e. is_live c.args.now e.1) c.args.entries.now.items = filter_same _ _ _ (λ x b f' k. search rules) _ _ c.retain.ensures.filtered in
    rw e (IsDistinct-keys_filter g.K.PartialEq.eq _ c.args.entries.now.items c.requires)

pub returns-clause-kept : goal.returns-clause-kept
returns-clause-kept g c =
    let e : c.retain.new.self.items ≡ filter (λ e. is_live c.args.now e.1) c.args.entries.now.items = filter_same _ _ _ (λ x b f' k. search rules) _ _ c.retain.ensures.filtered in
    λ q. rw e (lives g.met.K.Eq.laws c.args.now q c.args.entries.now.items c.requires)

pub returns-clause-none : goal.returns-clause-none
returns-clause-none g c none =
    let e : c.retain.new.self.items ≡ filter (λ e. is_live c.args.now e.1) c.args.entries.now.items = filter_same _ _ _ (λ x b f' k. search rules) _ _ c.retain.ensures.filtered in
    e ∙ none_filtered (λ e. is_live c.args.now e.1) c.args.entries.now.items (omega (arith, none, c.len-before.ensures, c.len.ensures, ap length e))
