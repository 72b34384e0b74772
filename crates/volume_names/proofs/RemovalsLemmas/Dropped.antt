-- A node that goes: what the code did is the step.
use Rattle.std.specs.Prelude.{◌≡◌, ℕ, Bool, false, List, [], ◌∷◌, ◌++◌, map, Some, refl}
use Rattle.std.specs.BTreeMap.{is_at}
use Rattle.std.specs.Map.{remove_entry}
use Rattle.std.specs.Ordering.{nat_cmp}
use Rattle.std.proofs.Common.{sym, ap, subst, ◌∙◌, append_assoc}
use Rattle.std.proofs.lemmas.List.{append-nil}
use Rattle.std.proofs.lemmas.Option.{same_Some}
use Rattle.minix_layout.specs.declared.division.Geometry.{Geometry}
use Rattle.minix_layout.specs.declared.inode.Inode.{Inode}
use Rattle.minix_layout.specs.Inodes.{zero_inode}
use Rattle.tree_model.specs.Maps.{at_number}
use Rattle.volume_ops.specs.declared.found.Mapped.{Mapped}
use Rattle.volume_ops.specs.Places.{table_block}
use Rattle.minix_tables.specs.zones.Zones.{Zones}
use Rattle.volume_model.specs.declared.placed.Placed.{Placed}
use Rattle.volume_model.specs.declared.placed.Part.{Part}
use Rattle.volume_model.specs.declared.placed.Part.TheVariants as parts
use Rattle.volume_model.specs.Edits.{put_inode, edited, edited_all, touched_by}
use Rattle.volume_model.specs.Volume.{zone_in}
use Rattle.volume_model.specs.Moves.{page_of}
use Rattle.volume_model.specs.Touched.{Page, Touched, and_then}
use Rattle.volume_in_use.specs.now.Noted.{Noted, with_block, with_node}
use Rattle.volume_steps.specs.Now.{VolumeNow, Change, tells_writes}
use Rattle.volume_steps.specs.Plain.{IsInUse}
use Rattle.volume_steps.specs.Steps.{all_numbers, block_zones, drop_node, metadata_gone, node_dropped, pages_gone, tells_node}
use Rattle.volume_steps.specs.Zones.{all_given, inode_bit}
use Rattle.volume_steps.proofs.Drops.{IsGone}
use Rattle.volume_steps.proofs.QuietSteps.{at_node_is}
use Rattle.volume_names.specs.code.Steps.{After}
use Rattle.volume_names.proofs.Changed.{volume_of}
use Rattle.volume_in_use.specs.bytes.code.Cutting.{MayGive, blocks_freed, numbers_freed}
use Rattle.volume_in_use.proofs.BytesLemmas.Freeing.{all_come_to, bits_told, blocks_leave, give_first, give_rest, may_give, tells_gone, volume_freed, zones_of}
use Rattle.volume_names.specs.removals.code.Dropping.{MayDrop, blocks_in}

-- the zones of a node, in the order in which they go
gone_by : (v : VolumeNow) (p : Placed) (part : Part) → zones_of (blocks_in part) ++ metadata_gone v.contents p part ≡ block_zones v.contents p part ++ all_numbers v.contents p
gone_by v p (parts.File zones) = refl
gone_by v p (parts.Directory d) = refl

pages_by : (n : ℕ) (part : Part) → map (page_of n) (blocks_in part) ≡ pages_gone n part
pages_by n (parts.File zones) = refl
pages_by n (parts.Directory d) = refl

-- ---- what is asked

-- a node of a volume in use may go, as its zones are listed
pub may_drop : (tx : ℕ) (v : VolumeNow) (h : IsInUse v) (n : ℕ) (p : Placed) → at_number v.contents.nodes n ≡ Some p → (metadata : List ℕ) → metadata ≡ metadata_gone v.contents p p.part →
    (directory : Bool) (revoked : List ℕ) (dropped : List Page) → IsGone (λ x. zone_in v.contents.blocks p.inode x) n directory (block_zones v.contents p p.part ++ all_numbers v.contents p) revoked dropped → MayDrop v tx n metadata
may_drop tx v h n p at metadata listed directory revoked dropped gone = record {
  sound = h.sound;
  placed = p;
  stands = at;
  number = (h.volume.0.each n p at).some;
  listed = listed;
  used = subst (MayGive tx v.zones) (sym (ap (λ (zs : List ℕ). zones_of (blocks_in p.part) ++ zs) listed ∙ gone_by v p p.part))
      (may_give tx (block_zones v.contents p p.part ++ all_numbers v.contents p) v.zones gone.once
      (λ z i. let x = gone.has z i in (h.used z).1 (record { birth = n; placed = p; place = x.0; stands = at; zone_is = x.2; some = λ none. x.1 (x.2 ∙ none) })));
}

-- ---- what is noted

pub noted_node : (s u w : Noted) (b x n : ℕ) → u ≡ with_block s b → b ≡ x → w ≡ with_node u n → w.touched ≡ and_then s.touched (tells_node n (x ∷ []))
noted_node s u w b x n e same f = ap (λ (w : Noted). w.touched) (f ∙ ap (λ u. with_node u n) (e ∙ ap (with_block s) same)) ∙ told s.touched x n
  where
    told : (t : Touched) (x n : ℕ) → record t { blocks = t.blocks ++ x ∷ []; nodes = t.nodes ++ n ∷ [] } ≡ and_then t (tells_node n (x ∷ []))
    told t x n = simp append-nil

-- in one piece
told_as : (t : Touched) (bit table n : ℕ) (bits freed revoked : List ℕ) (dropped : List Page) →
    and_then (and_then (and_then t (record { blocks = bit ∷ []; freed = []; revoked = []; pages = []; dropped = []; nodes = [] })) (tells_gone bits freed revoked dropped)) (tells_node n (table ∷ [])) ≡
    and_then t (record { blocks = (bit ∷ bits) ++ table ∷ []; freed = freed; revoked = revoked; pages = []; dropped = dropped; nodes = n ∷ [] })
told_as t bit table n bits freed revoked dropped = simp (append_assoc, append-nil)

-- ---- the step

module _ (v : VolumeNow) (tx n : ℕ) (metadata : List ℕ) (h : MayDrop v tx n metadata) where
  module _ (node : Placed) (at : at_number v.contents.nodes n ≡ Some node) where
    node_is : h.placed ≡ node
    node_is = same_Some h.placed node (sym h.stands ∙ at)

    pub all_used : MayGive tx v.zones (zones_of (blocks_in node.part) ++ metadata)
    all_used = subst (λ (p : Placed). MayGive tx v.zones (zones_of (blocks_in p.part) ++ metadata)) node_is h.used

    listed : metadata ≡ metadata_gone v.contents node node.part
    listed = h.listed ∙ ap (λ (p : Placed). metadata_gone v.contents p p.part) node_is

    gone_is : zones_of (blocks_in node.part) ++ metadata ≡ block_zones v.contents node node.part ++ all_numbers v.contents node
    gone_is = ap (λ (zs : List ℕ). zones_of (blocks_in node.part) ++ zs) listed ∙ gone_by v node node.part

    module _ (ms : List Mapped) (ms_are : ms ≡ blocks_in node.part) (first : List (List ℕ)) (nodes : List (ℕ × Placed)) (one two three : Change) (one_volume : one.volume ≡ volume_of v.geometry first nodes v.zones)
        (two_is : two ≡ blocks_freed tx n ms one) where
      pub blocks_used : MayGive tx one.volume.zones (zones_of ms)
      blocks_used = subst (λ (m : Zones). MayGive tx m (zones_of ms)) (sym (ap (λ (v : VolumeNow). v.zones) one_volume))
          (subst (λ (ms : List Mapped). MayGive tx v.zones (zones_of ms)) (sym ms_are) (give_first tx (zones_of (blocks_in node.part)) metadata v.zones all_used))

      left : (two.volume.geometry ≡ one.volume.geometry) × (two.volume.zones ≡ all_given tx (zones_of (blocks_in node.part)) one.volume.zones)
      left = blocks_leave tx n (blocks_in node.part) ms one two two_is ms_are

      pub same_geometry : two.volume.geometry ≡ v.geometry
      same_geometry = left.0 ∙ ap (λ (v : VolumeNow). v.geometry) one_volume

      pub metadata_used : MayGive tx two.volume.zones metadata
      metadata_used = subst (λ (m : Zones). MayGive tx m metadata) (sym (left.1 ∙ ap (λ (v : VolumeNow). all_given tx (zones_of (blocks_in node.part)) v.zones) one_volume))
          (give_rest tx (zones_of (blocks_in node.part)) metadata v.zones all_used)

      module _ (before : Touched) (one_touched : one.touched ≡ and_then before (tells_writes v.geometry (inode_bit node.number false ∷ []))) (first_is : first ≡ edited_all v.geometry v.contents.blocks (inode_bit node.number false ∷ []))
          (nodes_are : nodes ≡ remove_entry (is_at (nat_cmp n)) v.contents.nodes) (three_is : three ≡ numbers_freed tx metadata two) (inode : Inode) (inode_is : inode ≡ zero_inode) (last : List (List ℕ))
          (last_is : last ≡ edited three.volume.geometry three.volume.contents.blocks (put_inode node.number inode)) (touched : Touched) (told : touched ≡ and_then three.touched (tells_node n (table_block three.volume.geometry node.number ∷ []))) where
        abbrev g : Geometry
        g = v.geometry

        abbrev gone : List ℕ
        gone = block_zones v.contents node node.part ++ all_numbers v.contents node

        abbrev start : Change
        start = record {
          volume = volume_of g (edited_all g v.contents.blocks (inode_bit node.number false ∷ [])) (remove_entry (is_at (nat_cmp n)) v.contents.nodes) v.zones;
          touched = and_then before (tells_writes g (inode_bit node.number false ∷ []));
        }

        start_is : one ≡ start
        start_is = λ i. record { volume = (one_volume ∙ (λ i. volume_of g (first_is i) (nodes_are i) v.zones)) i; touched = one_touched i }

        abbrev freed : Change
        freed = record { volume = volume_freed start.volume tx gone; touched = and_then start.touched (tells_gone (bits_told g gone) gone (metadata_gone v.contents node node.part) (pages_gone n node.part)) }

        three_as : three ≡ freed
        three_as =
            three_is
            ∙ (ap (numbers_freed tx metadata) (two_is ∙ (λ i. blocks_freed tx n (ms_are i) (start_is i)))
            ∙ (all_come_to tx n (blocks_in node.part) metadata start
            ∙ (λ i. record { volume = volume_freed start.volume tx (gone_is i); touched = and_then start.touched (tells_gone (bits_told g (gone_is i)) (gone_is i) (listed i) (pages_by n node.part i)) })))

        -- The node goes.
        pub node_gone : After before (drop_node v tx n) (volume_of three.volume.geometry last three.volume.contents.nodes three.volume.zones) touched
        node_gone = subst (λ c. After before c (volume_of three.volume.geometry last three.volume.contents.nodes three.volume.zones) touched) (sym (at_node_is v n node (node_dropped v tx n) at)) (record {
          volume_is =
              ap (λ last. volume_of three.volume.geometry last three.volume.contents.nodes three.volume.zones) (last_is ∙ ap (λ inode. edited three.volume.geometry three.volume.contents.blocks (put_inode node.number inode)) inode_is)
              ∙ ap (λ (c : Change). volume_of c.volume.geometry (edited c.volume.geometry c.volume.contents.blocks (put_inode node.number zero_inode)) c.volume.contents.nodes c.volume.zones) three_as;
          touched_is =
              told
              ∙ (ap (λ (c : Change). and_then c.touched (tells_node n (table_block c.volume.geometry node.number ∷ []))) three_as
              ∙ told_as before (touched_by g (inode_bit node.number false)) (table_block g node.number) n (bits_told g gone) gone (metadata_gone v.contents node node.part) (pages_gone n node.part));
        })
