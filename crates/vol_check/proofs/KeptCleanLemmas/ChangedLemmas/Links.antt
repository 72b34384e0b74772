-- A step that changes the links of a node.
use Rattle.std.specs.Prelude.{◌≡◌, ◌≤◌, ℕ, List, Some, refl}
use Rattle.std.proofs.Common.{sym, ◌∙◌}
use Rattle.blk_base.specs.Members.{In}
use Rattle.minix_layout.specs.declared.inode.Inode.{Inode}
use Rattle.tree_model.specs.Maps.{at_number}
use Rattle.tree_model.specs.laws.MapsLaws.{at_put_number}
use Rattle.volume_ops.specs.Places.{table_block}
use Rattle.volume_ops.specs.Volume.{disk_of}
use Rattle.volume_model.specs.declared.placed.Placed.{Placed}
use Rattle.volume_model.specs.Moves.{back_told}
use Rattle.volume_model.specs.Volume.{Place, block, indirect, double, inner, zone_in}
use Rattle.volume_model.specs.laws.Back.{told_table}
use Rattle.volume_model.specs.laws.Zones.{zones_kept}
use Rattle.volume_steps.specs.Now.{VolumeNow, Change, tells_blocks}
use Rattle.volume_steps.specs.Plain.{IsInUse}
use Rattle.volume_steps.specs.Steps.{set_links, inode_put, with_links}
use Rattle.volume_steps.proofs.QuietSteps.{at_node_is}
use Rattle.vol_check.proofs.KeptCleanLemmas.ChangedLemmas.Rising.{own, Rises}
use Rattle.vol_check.proofs.KeptCleanLemmas.ChangedLemmas.Steps.{back_high}

same_place : (blocks : List (List ℕ)) (i : Inode) (links : ℕ) (y : Place) → zone_in blocks (with_links i links) y ≡ zone_in blocks i y
same_place blocks i links (block index) = refl
same_place blocks i links indirect = refl
same_place blocks i links double = refl
same_place blocks i links (inner k) = refl

module _ (v : VolumeNow) (h : IsInUse v) (n : ℕ) (p : Placed) (at : at_number v.contents.nodes n ≡ Some p) (change : ℕ → ℕ) where
  abbrev now : Inode
  now = with_links p.inode (change p.inode.links)

  abbrev pub links_placed : Placed
  links_placed = record { number = p.number; inode = now; part = p.part }

  -- the step
  abbrev pub links_set : Change
  links_set = record { volume = inode_put v n p now; touched = tells_blocks (back_told v.geometry p now) }

  pub links_is : set_links v n change ≡ links_set
  links_is = at_node_is v n p (λ p. record {
    volume = inode_put v n p (with_links p.inode (change p.inode.links));
    touched = tells_blocks (back_told v.geometry p (with_links p.inode (change p.inode.links)));
  }) at

  pub links_stands : at_number links_set.volume.contents.nodes n ≡ Some links_placed
  links_stands = at_put_number v.contents.nodes n links_placed

  -- no zone of data changes
  pub links_high : (b : ℕ) → v.geometry.first ≤ b → disk_of links_set.volume.contents.blocks b ≡ disk_of v.contents.blocks b
  links_high = let told = h.volume.0.each n p at in back_high v.geometry v.contents.blocks p now h.sound told.some told.within

  -- nor a zone of a node
  pub others_zones : (a : ℕ) (r : Placed) → at_number v.contents.nodes a ≡ Some r → (y : Place) → own links_set.volume r y ≡ own v r y
  others_zones a r found = zones_kept v.contents.blocks links_set.volume.contents.blocks r.inode
      (λ x numbers there. links_high (zone_in v.contents.blocks r.inode x) ((h.volume.0.each a r found).zones x there).0)

  pub links_zones : (y : Place) → own links_set.volume links_placed y ≡ own v p y
  links_zones y = same_place links_set.volume.contents.blocks p.inode (change p.inode.links) y ∙ others_zones n p at y

  pub links_rises : Rises v links_set.volume p links_placed
  links_rises = record {
    number = refl;
    kept = λ y some. links_zones y;
    taken = λ y none some. absurd (some (links_zones y ∙ none));
    free = λ z state. state;
    used = λ z state. state;
  }

  pub others_rise : (a : ℕ) (r : Placed) → at_number v.contents.nodes a ≡ Some r → Rises v links_set.volume r r
  others_rise a r found = record {
    number = refl;
    kept = λ y some. others_zones a r found y;
    taken = λ y none some. absurd (some (others_zones a r found y ∙ none));
    free = λ z state. state;
    used = λ z state. state;
  }

  -- what is told
  pub links_told : (b : ℕ) → In b links_set.touched.blocks → table_block v.geometry p.number ≡ b
  links_told b i = sym (told_table v.geometry p now b i)
