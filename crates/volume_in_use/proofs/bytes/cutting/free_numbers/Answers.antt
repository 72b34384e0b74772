use Rattle.std.proofs.Common.{rules, ap, sym, subst, ◌∙◌, ◌+◌, drop, ℕ, List}
use Rattle.std.proofs.lemmas.List.{drop_more}
use Rattle.volume_steps.specs.Now.{Change}
use Rattle.volume_in_use.specs.bytes.code.Cutting.{MayGive, numbers_freed}
use Rattle.volume_in_use.proofs.BytesLemmas.Freeing.{map_self, next_turn, zone_keeps}
use Rattle.volume_in_use.proofs.bytes.cutting.free_numbers.Goals as goal

pub loop-zone-init : goal.loop-zone-init
loop-zone-init c = record {
  sound = c.requires.sound;
  used = subst (λ (zs : List ℕ). MayGive c.args.tx c.args.v.now.zones zs) (sym (map_self c.args.gone.now)) c.requires.used;
  room = c.requires.room;
  balance = search rules;
  work = search rules;
}

pub loop-zone-preserved : goal.loop-zone-preserved
loop-zone-preserved c =
    next_turn c.args.tx (λ (zone : ℕ). zone) (numbers_freed c.args.tx) _ _ c.args.gone.now _ _ (record { volume = c.loop-zone.v; touched = c.loop-zone.touched.touched })
    (record { volume = c.free_number.new.v; touched = c.free_number.new.touched.touched }) c.loop-zone.touched.spare c.free_number.new.touched.spare c.args.touched.now.spare
    (drop_more c.args.gone.now c.loop-zone.zone-index _ c.loop-zone-test.true) c.loop-zone.invariant
    (ap (numbers_freed c.args.tx (drop (c.loop-zone.zone-index + 1) c.args.gone.now)) (sym c.free_number.ensures.change))
    (ap (λ (c : Change). c.volume.zones) c.free_number.ensures.change ∙ (zone_keeps c.args.tx _ (record { volume = c.loop-zone.v; touched = c.loop-zone.touched.touched })).0)
    (ap (λ (c : Change). c.volume.geometry) c.free_number.ensures.change ∙ (zone_keeps c.args.tx _ (record { volume = c.loop-zone.v; touched = c.loop-zone.touched.touched })).1)
    c.free_number.ensures.spare
