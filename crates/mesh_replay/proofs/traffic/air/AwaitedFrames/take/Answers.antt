use Rattle.mesh_replay.proofs.Common.{◌≡◌, ◌∙◌, ap, refl, length, List, map, subst, sym, Option, Some, OnSome, remove, slice_get_within, IsHeardFirst, Delivered, delivery_of}
use Rattle.mesh_replay.proofs.TrafficLemmas.Hearing.{read_as, read_there, heard_first, all_later}
use Rattle.mesh_replay.proofs.traffic.air.AwaitedFrames.take.Goals as goal

pub returns-then-self-limit-clause-limit : goal.returns-then-self-limit-clause-limit
returns-then-self-limit-clause-limit c =
    let flights : List Delivered = c.self.inside.flights.items in
    let least = c.first_heard-first.ensures in
    let is : least.flight ≡ c.index.result.now = read_as flights (length flights) c.first_heard-first.result c.index.result.now least c.index.ensures in
    rw (← c.self.view_is) (all_later c.args.limit flights c.first_heard-first.result least (rw is c.if-self-limit.true))

pub returns-clause-first : goal.returns-clause-first
returns-clause-first c =
    let flights : List Delivered = c.self.inside.flights.items in
    let first = c.first_heard-first.result in
    let least = c.first_heard-first.ensures in
    let is : c.remove.result ≡ Some least.flight =
    c.remove.ensures.succeeds least.flight (rw c.self.inside.flights.ok.0 (slice_get_within flights first least.flight least.stands)) ∙ ap (λ (f : Delivered). Some f) (read_there flights (length flights) first least) in
    let left : c.remove.new.self.items ≡ remove flights first = subst (λ (r : Option Delivered). OnSome r (c.remove.new.self.items ≡ remove flights first)) is c.remove.ensures.items in
    rw is (subst (λ (l : List Delivered). IsHeardFirst c.args.self.now (delivery_of least.flight) (map delivery_of l)) (sym left) (rw (← c.self.view_is) (heard_first flights first least.flight least refl)))
