-- An inode that is written with the zones that it had.
use Rattle.std.specs.Prelude.{◌≡◌, ◌≤◌, ◌<◌, ℕ, [], Some, refl}
use Rattle.std.proofs.Common.{sym, subst, inl, ◌∙◌}
use Rattle.minix_layout.specs.declared.division.Geometry.{Geometry}
use Rattle.minix_layout.specs.declared.inode.Inode.{Inode}
use Rattle.minix_layout.specs.Inodes.{FitInode}
use Rattle.tree_model.specs.Maps.{at_number}
use Rattle.volume_model.specs.declared.placed.Placed.{Placed}
use Rattle.volume_model.specs.Volume.{Place, zone_in, IsPart}
use Rattle.volume_model.specs.MapBlock.{OpenInode, own_of}
use Rattle.volume_model.specs.Moves.{IsVolume, closed, back_told}
use Rattle.volume_model.specs.laws.Back.{told_table}
use Rattle.volume_model.specs.laws.Changes.{changes_none}
use Rattle.volume_model.specs.laws.OnWay.{just_same}
use Rattle.volume_model.specs.laws.ZoneMoves.{MayMove, moved_stands, moved_just, theirs_apart, fit_before}
use Rattle.volume_steps.specs.Now.{VolumeNow}
use Rattle.volume_steps.specs.Plain.{IsInUse}
use Rattle.volume_steps.proofs.NodeSteps.{MayGrow}

module _ (v : VolumeNow) (in_use : IsInUse v) (n : ℕ) (p : Placed) (at : at_number v.contents.nodes n ≡ Some p) (i : Inode) (same : (x : Place) → zone_in v.contents.blocks i x ≡ zone_in v.contents.blocks p.inode x)
    (fits : FitInode i) (part : IsPart v.geometry v.contents.blocks i p.part) where
  abbrev g : Geometry
  g = v.geometry

  abbrev u : OpenInode
  u = record { blocks = v.contents.blocks; inode = i }

  pub same_move : MayMove g in_use.sound v.contents.blocks v.contents.nodes n p in_use.volume.0 at u p.part (λ _. ⊥)
  same_move =
      let old = fit_before g in_use.sound v.contents.blocks v.contents.nodes n p in_use.volume.0 at in
      record {
        fit = record {
          whole = in_use.volume.0.whole;
          size = in_use.volume.0.size;
          fits = fits;
          within = λ x some. subst (λ z. (g.first ≤ z) × (z < g.zones)) (sym (same x)) (old.within x (λ none. some (same x ∙ none)));
          apart = λ x y e some. old.apart x y (sym (same x) ∙ (e ∙ same y)) (λ none. some (same x ∙ none));
        };
        changes = changes_none g v.contents.blocks in_use.volume.0.whole;
        not_theirs = λ a r x found apart some z. z;
        none_of_theirs = λ a r x y found apart e some. theirs_apart g in_use.sound v.contents.blocks v.contents.nodes n p in_use.volume.0 at a r x y found apart (sym (same x) ∙ e) (λ none. some (same x ∙ none));
        part_is = part;
        names = λ d is. in_use.volume.0.names n p d at is;
      }

  pub same_grow : MayGrow g in_use.sound v.contents n p in_use.volume at u p.part (λ _. ⊥) same_move (back_told g p i) []
  same_grow = record {
    kind = refl;
    stays_as = λ x some. same x;
    was = λ x some. inl (same x);
    bytes = λ b none. refl;
    table = λ b j. j;
    meta = λ b j. inl (told_table g p i b j);
    told = λ zone i. absurd i;
    mapped = λ zone i. absurd i;
  }

  pub same_stands : IsVolume g (closed g v.contents n p u p.part)
  same_stands = (
    moved_stands g in_use.sound v.contents.blocks v.contents.nodes n p in_use.volume.0 at u p.part (λ _. ⊥) same_move,
    moved_just g in_use.sound v.contents.blocks v.contents.nodes n p in_use.volume.0 at u p.part (λ _. ⊥) same_move in_use.volume.1
        (just_same (λ x. zone_in v.contents.blocks p.inode x) (own_of u) same (in_use.volume.1 n p at)),
  )
