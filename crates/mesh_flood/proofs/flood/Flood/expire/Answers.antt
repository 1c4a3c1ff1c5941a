use Rattle.mesh_flood.proofs.Common.{refl, arith, LiveNoted, NotedMessages, AreWithin}
use Rattle.mesh_flood.proofs.Soundness.{sound_after_expiry, within_of}
use Rattle.mesh_flood.proofs.flood.Flood.expire.Goals as goal

pub returns : goal.returns
returns g c =
    let old : NotedMessages = record { received = c.self.inside.received.items; processed = c.self.inside.processed; forwarded = c.self.inside.forwarded } in
    let new : NotedMessages = record { received = c.expire_all.new.sets.items; processed = c.expire.new.self; forwarded = c.expire-2.new.self } in
    let live : LiveNoted c.args.now old new = record {
      interfaces = c.expire_all.ensures.count;
      distinct_received = c.expire_all.ensures.distinct;
      distinct_processed = c.expire.ensures.distinct;
      distinct_forwarded = c.expire-2.ensures.distinct;
      received = c.expire_all.ensures.kept;
      processed = c.expire.ensures.kept;
      forwarded = c.expire-2.ensures.kept;
    } in
    let within : AreWithin old → AreWithin new = λ few. record {
      received = λ i. omega (arith, c.expire_all.ensures.fewer i, few.received i);
      processed = omega (arith, c.expire.ensures.fewer, few.processed);
      forwarded = omega (arith, c.expire-2.ensures.fewer, few.forwarded);
    } in
    rw (← c.self.view_is) (record {
      live = live;
      times = refl {a = c.self.inside.times};
      within = within;
      sound = λ settings before sound. sound_after_expiry settings c.args.now old new sound.interfaces live (within (within_of settings before old sound));
    })
