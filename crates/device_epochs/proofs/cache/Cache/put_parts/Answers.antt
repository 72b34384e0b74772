use Rattle.std.proofs.Common.{◌≡◌, ◌+◌, ◌<◌, Some, drop, length, refl, sym, ap, ◌∙◌, arith}
use Rattle.std.specs.Prelude.{slice_get}
use Rattle.std.proofs.lemmas.Option.{slice_get_read}
use Rattle.device_epochs.specs.declared.cache.Entry.{Entry}
use Rattle.device_epochs.specs.Cache.{entries, put_entry, put_all}
use Rattle.device_epochs.specs.laws.CacheLaws.{length-put_entry}
use Rattle.device_epochs.proofs.Searches.{IsPlain-put_entry, EndsAt-put_entry, entries_next}
use Rattle.device_epochs.proofs.cache.Cache.put_parts.Goals as goal

pub loop-part-preserved : goal.loop-part-preserved
loop-part-preserved c =
    let e : Entry = record { epoch = c.args.epoch; block = c.part-item.result.block; part = c.loop-part.place } in
    let inv = c.loop-part.invariant in
    let old = c.loop-part.self.items in
    let parts = c.args.parts.now in
    let i = c.loop-part.part-index in
    let lt : i < length parts = omega arith in
    let at : slice_get parts i ≡ Some c.part-item.result = slice_get_read parts (length parts) i c.part-item.result refl lt c.part-item.is in
    let items : c.put_entry.new.self.items ≡ put_entry e old = c.put_entry.ensures.items in
    let more = length-put_entry e old in
    let len = ap length items in
    record {
      place = omega arith;
      plain = rw items (IsPlain-put_entry e old inv.plain inv.last);
      last = rw items (EndsAt-put_entry e old c.args.epoch inv.last refl);
      len = omega (arith, inv.len, more, len);
      blocks = c.put_entry.ensures.blocks ∙ inv.blocks;
      room = c.put_entry.ensures.room ∙ inv.room;
      appended = omega (arith, inv.appended, c.put_entry.ensures.appended);
      rest =
          ap (put_all (entries c.args.epoch (c.loop-part.place + 1) (drop (i + 1) parts))) items
          ∙ sym (ap (λ es. put_all es old) (entries_next c.args.epoch c.loop-part.place i parts c.part-item.result at))
          ∙ inv.rest;
    }
