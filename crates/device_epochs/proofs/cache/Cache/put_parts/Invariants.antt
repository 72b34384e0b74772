use Rattle.std.proofs.Common.{◌≡◌, ◌+◌, ◌≤◌, length, drop}
use Rattle.device_epochs.specs.Cache.{entries, put_all}
use Rattle.device_epochs.specs.code.Helpers.{IsPlain, EndsAt}
use Rattle.device_epochs.proofs.cache.Cache.put_parts.Given as goal

abbrev pub invariant-loop-part : goal.invariant-loop-part
invariant-loop-part l =
    record {
      place : l.place ≡ l.first + l.part-index;
      plain : IsPlain l.self.items;
      last : EndsAt l.epoch l.self.items;
      len : length l.self.items ≤ length l.initial.self.items + l.part-index;
      blocks : l.self.blocks ≡ l.initial.self.blocks;
      room : l.self.room ≡ l.initial.self.room;
      appended : l.self.appended ≤ l.initial.self.appended + l.part-index;
      rest : put_all (entries l.epoch l.place (drop l.part-index l.parts)) l.self.items ≡ put_all (entries l.epoch l.first l.parts) l.initial.self.items;
    }
