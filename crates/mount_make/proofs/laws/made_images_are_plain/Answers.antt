use Rattle.std.proofs.Common.{ℕ, List, sym, ap, ◌∙◌, subst, arith}
use Rattle.minix_layout.specs.declared.division.Geometry.{Geometry}
use Rattle.minix_layout.specs.Geometry.{IsSound}
use Rattle.volume_ops.specs.Volume.{disk_of}
use Rattle.volume_ops.specs.VolumeTrees.{IsVolumeTree}
use Rattle.volume_ops.proofs.TreeUnique.{tree_walked}
use Rattle.volume_model.specs.NewVolume.{root_alone}
use Rattle.volume_model.specs.Plain.{IsPlainVolume}
use Rattle.mount_make.specs.Made.{made_volume, made_image}
use Rattle.mount_make.specs.laws.ImageLaws.{image_has_tree}
use Rattle.mount_make.proofs.MadeVolumes.{made_contents, made_plain, made_tree, same}
use Rattle.mount_make.proofs.MadeImages.{image_fine, image_journal, image_features, made_kind, image_divided, image_stays, image_volume}
use Rattle.mount_make.proofs.laws.made_images_are_plain.Goals as goal

pub returns : goal.returns
returns c =
    let new = c.new_volumes_are_plain.ensures in
    let back = c.plain_volumes_are_read_back.ensures in
    let plain = λ (g : Geometry) (sound : IsSound g). made_plain g sound (new g sound) in
    let tree = λ (g : Geometry) (sound : IsSound g). made_tree g sound (new g sound) (back.no_fault g (made_contents g) (plain g sound)) in
    record {
      tree = λ g journal wide sound low high.
          (image_has_tree (made_image g journal wide) (root_alone g.width)).1 (record {
            geometry = g;
            is_divided = image_divided g journal wide sound (omega (arith, low)) (omega (arith, high));
            journal = image_fine g journal wide sound (omega (arith, low)) (omega (arith, high));
            tree_is = subst (λ (v : List (List ℕ)). IsVolumeTree g v (root_alone g.width)) (sym (image_volume g journal wide sound (omega (arith, low)) (omega (arith, high)))) (tree g sound);
          });
      journal = λ g journal wide sound low high. (image_journal g journal wide sound (omega (arith, low)) (omega (arith, high)), image_stays g journal wide sound (omega (arith, low)) (omega (arith, high)));
      features = λ g journal wide sound low high. (image_features g journal wide sound (omega (arith, low)) (omega (arith, high)), made_kind journal wide);
      plain = λ g journal wide sound low high. (
        image_divided g journal wide sound (omega (arith, low)) (omega (arith, high)),
        subst (λ (v : List (List ℕ)). IsPlainVolume g v (root_alone g.width)) (sym (image_volume g journal wide sound (omega (arith, low)) (omega (arith, high))))
            (back.plain g (made_contents g) (root_alone g.width) (plain g sound) (tree_walked g (made_volume g) (root_alone g.width) sound.some_inode (tree g sound))),
      );
      new = λ g journal wide b sound low high behind. ap (λ (v : List (List ℕ)). disk_of v b) (image_volume g journal wide sound (omega (arith, low)) (omega (arith, high))) ∙ same g sound (new g sound) b behind;
    }
