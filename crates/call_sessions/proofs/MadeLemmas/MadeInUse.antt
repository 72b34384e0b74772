-- The volume of an image that was made is plain in use, as a new volume is.
use Rattle.std.specs.Prelude.{◌≡◌, ℕ, Some, refl}
use Rattle.std.proofs.Common.{sym, ap, subst, ◌∙◌, arith}
use Rattle.minix_layout.specs.declared.division.Geometry.{Geometry}
use Rattle.minix_layout.specs.Geometry.{IsSound}
use Rattle.tree_model.specs.Calls.{used_zones}
use Rattle.tree_model.specs.Rooted.{HasEntry}
use Rattle.tree_model.specs.Maps.{at_number}
use Rattle.mount_make.specs.Made.{made_volume}
use Rattle.mount_make.proofs.MadeVolumes.{same, made_plain}
use Rattle.volume_model.specs.declared.placed.Placed.{Placed}
use Rattle.volume_model.specs.NewVolume.{new_blocks, new_volume}
use Rattle.volume_model.specs.Plain.{HasZone}
use Rattle.volume_model.specs.Trees.{tree_now}
use Rattle.volume_model.specs.Volume.{Place, zone_in}
use Rattle.volume_model.specs.laws.Zones.{zones_kept}
use Rattle.volume_steps.specs.Now.{tree_of_now}
use Rattle.volume_steps.specs.Plain.{IsInUse, IsPlainNow}
use Rattle.minix_host.specs.Runs.{new_now}
use Rattle.call_sessions.specs.made.MadeSessions.{made_now}

module _ (g : Geometry) (sound : IsSound g) (new : IsPlainNow (new_now g)) where
  -- each place of a node has the same zone
  zone_same : (birth : ℕ) (p : Placed) → at_number (new_volume g).nodes birth ≡ Some p → (x : Place) → zone_in (made_volume g) p.inode x ≡ zone_in (new_blocks g) p.inode x
  zone_same birth p at x =
      zones_kept (new_blocks g) (made_volume g) p.inode
      (λ x numbers some.
      let range = (new.in_use.volume.0.each birth p at).zones x some in
      let low = range.0 in
      let below = sound.tables_below in
      same g sound new.plain (zone_in (new_blocks g) p.inode x) (omega arith))
      x

  to_made : (zone : ℕ) → HasZone (new_volume g) zone → HasZone (made_now g).contents zone
  to_made zone z = record { birth = z.birth; placed = z.placed; place = z.place; stands = z.stands; zone_is = zone_same z.birth z.placed z.stands z.place ∙ z.zone_is; some = z.some }

  from_made : (zone : ℕ) → HasZone (made_now g).contents zone → HasZone (new_volume g) zone
  from_made zone z = record { birth = z.birth; placed = z.placed; place = z.place; stands = z.stands; zone_is = sym (zone_same z.birth z.placed z.stands z.place) ∙ z.zone_is; some = z.some }

  tree_same : tree_of_now (new_now g) ≡ tree_of_now (made_now g)
  unfolding tree_now
  tree_same = refl

  in_use : IsInUse (made_now g)
  in_use = record {
    sound = sound;
    volume = (made_plain g sound new.plain).volume;
    first = refl;
    size = new.in_use.size;
    used = λ zone. (λ used. to_made zone ((new.in_use.used zone).0 used), λ has. (new.in_use.used zone).1 (from_made zone has));
    counted = new.in_use.counted ∙ ap used_zones tree_same;
  }

  pub made_in_use : IsPlainNow (made_now g)
  made_in_use = record {
    in_use = in_use;
    plain = made_plain g sound new.plain;
    path_names = λ parent name birth gives. new.path_names parent name birth (subst (λ tree. HasEntry tree parent name birth) (sym tree_same) gives);
  }
