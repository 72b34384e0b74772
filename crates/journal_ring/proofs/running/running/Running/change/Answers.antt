use Rattle.std.proofs.Common.{vec_capacity}
use Rattle.journal_ring.proofs.RunningLemmas.Notes.{spare_there, room_with, room_less}
use Rattle.journal_ring.proofs.running.running.Running.change.Goals as goal

pub invariant_of-self : goal.invariant_of-self
invariant_of-self c =
    let t = c.self.inside in
    let h = c.self.invariant in
    let some = spare_there _ c.args.self.now c.self.view_is c.requires in
    record {
      sound = h.sound;
      first = h.first;
      last = h.last;
      of_touched = room_less t.touched.items t.spare (vec_capacity t.touched) h.of_touched;
      of_revoked = room_less t.revoked.items t.spare (vec_capacity t.revoked) h.of_revoked;
      of_changed = room_with t.changed.items c.add_u64.new.numbers.items c.args.birth t.spare (vec_capacity t.changed) (vec_capacity c.add_u64.new.numbers) h.of_changed some c.add_u64.ensures.numbers c.add_u64.ensures.capacity;
    }
