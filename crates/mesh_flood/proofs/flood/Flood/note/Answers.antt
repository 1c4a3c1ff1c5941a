use Rattle.mesh_flood.proofs.Common.{◌≡◌, ◌+◌, ◌<◌, ◌≤◌, [], length, Bool, false, Option, refl, sym, ap, subst, ◌∙◌, IsTrue, OnOk, slice_set, length-set, get_or-set_other, Addr4, FloodKey, Noted, Base, HasDistinctKeys, base_of, find, flood_eq, NotedMessages, HeldSets, Notes, AfterNote, AreWithin, process_of, forward_of, is_full, key_of, is_received, is_forwarded}
use Rattle.std.proofs.lemmas.Result.{on_ok_weaker}
use Rattle.mesh_flood.proofs.Soundness.{sound_by_times, within_of}
use Rattle.mesh_flood.proofs.Room.{has_room_processed, has_room_received, has_room_forwarded, each_set, noted_at, base_there, on_ok_if, on_ok_both}
use Rattle.mesh_flood.proofs.flood.Flood.note.Goals as goal

pub returns : goal.returns
returns g c =
    let heading = c.args.heading.now in
    let i = c.args.iface in
    let times = c.self.inside.times in
    let sets = c.self.inside.received.items in
    let forwarded = c.self.inside.forwarded in
    let old : NotedMessages = record { received = sets; processed = c.self.inside.processed; forwarded = forwarded } in
    let new : NotedMessages = record { received = slice_set sets i c.note-2.new.self; processed = c.note.new.self; forwarded = c.note-3.new.self } in
    let found = c.index_mut.result.now in
    let (own, link, process, forward) = subst (λ (h : HeldSets). (own : Addr4) × (link : Option Bool) × (c.args.verdict.now.process ≡ process_of own heading h.noted) × (c.args.verdict.now.forward ≡ forward_of i own heading link h.noted)) (sym c.self.view_is) c.requires.judged in
    let here = subst (λ (h : HeldSets). i < length h.noted.received) (sym c.self.view_is) c.requires.iface in
    let there = base_there sets i found here c.index_mut.ensures.value in
    let room_received = λ (does : IsTrue c.is_received.result). subst (λ (b : Base FloodKey Noted). is_full b ≡ false) there (has_room_received own heading link (base_of sets i) forwarded c.args.verdict.now.forward forward (sym c.is_received.ensures ∙ does)) in
    let answer = c.args.verdict.now.forward in
    let key : c.key-key.result ≡ key_of heading = c.key-key.ensures in
    let set : Base FloodKey Noted = c.note-2.new.self in
    let answer = c.args.verdict.now.forward in
    let key : c.key-key.result ≡ key_of heading = c.key-key.ensures in
    let set : Base FloodKey Noted = c.note-2.new.self in
    let after : OnOk c.note-3.result (AfterNote times c.args.now i heading c.args.processed answer old new) = on_ok_weaker c.note-3.result (λ noted. record {
      tables = record {
        received = each_set (λ b. HasDistinctKeys flood_eq b) sets i set here c.self.invariant.received
            (c.note-2.ensures.distinct (subst (λ (b : Base FloodKey Noted). HasDistinctKeys flood_eq b) there (c.self.invariant.received i)));
        processed = c.note.ensures.distinct c.self.invariant.processed;
        forwarded = c.note-3.ensures.distinct c.self.invariant.forwarded;
      };
      interfaces = length-set sets i set;
      processed = subst (λ (k : FloodKey). Notes c.args.processed k (c.args.now + times.processed_hold) c.self.inside.processed c.note.new.self) key c.in_ok-note.ensures.ok;
      received = noted_at (is_received answer) (key_of heading) (c.args.now + times.received_hold) sets i found set here there
          (subst (λ (k : FloodKey). Notes (is_received answer) k (c.args.now + times.received_hold) found set) key
          (subst (λ (b : Bool). Notes b c.key-key.result (c.args.now + times.received_hold) found set) c.is_received.ensures c.in_ok-note-2.ensures.ok));
      others = λ j other q. ap (λ (b : Base FloodKey Noted). find flood_eq b q) (get_or-set_other sets i j set [] other);
      forwarded = subst (λ (k : FloodKey). Notes (is_forwarded answer) k (c.args.now + times.forwarded_hold) forwarded c.note-3.new.self) key
          (subst (λ (b : Bool). Notes b c.key-key.result (c.args.now + times.forwarded_hold) forwarded c.note-3.new.self) c.is_forwarded.ensures noted);
    }) c.note-3.ensures.ok in
    let within : OnOk c.note-3.result (AreWithin old → AreWithin new) = on_ok_if c.note-3.result _ _ (λ few. on_ok_weaker c.note-3.result (λ room. record {
      processed = c.in_ok-note.ensures.room (λ does. has_room_processed own heading old c.args.verdict.now.process process (c.requires.processed does)) few.processed;
      received = each_set (λ b. length b ≤ 16384) sets i set here few.received (c.in_ok-note-2.ensures.room room_received (subst (λ (b : Base FloodKey Noted). length b ≤ 16384) there (few.received i)));
      forwarded = room;
    }) (c.note-3.ensures.room (λ does. has_room_forwarded own heading link (base_of sets i) forwarded answer forward (sym c.is_forwarded.ensures ∙ does)) few.forwarded)) in
    rw (← c.self.view_is) (record {
      ok = after;
      times = refl {a = times};
      within = within;
      sound = on_ok_weaker c.note-3.result (λ both settings sound. sound_by_times settings times c.args.now i heading c.args.processed answer old new sound both.0 (both.1 (within_of settings c.args.now old sound)))
          (on_ok_both c.note-3.result _ _ after within);
    })
