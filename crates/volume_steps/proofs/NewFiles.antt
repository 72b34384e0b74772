-- A file comes, in the lowest inode that is free.
use Rattle.std.specs.Prelude.{◌≡◌, ◌≢◌, ◌<◌, ◌+◌, ◌/◌, ◌^◌, ℕ, true, List, [], ◌∷◌, length, None, refl}
use Rattle.std.specs.List.Sorted.{IsStrictlySortedBy}
use Rattle.std.proofs.Common.{sym, ap, subst, inl, inr, ◌∙◌, arith}
use Rattle.minix_layout.specs.declared.division.Geometry.{Geometry}
use Rattle.minix_layout.specs.Inodes.{FitInode}
use Rattle.tree_model.specs.Maps.{at_number, put_number}
use Rattle.tree_model.specs.Calls.{new_file, node_zones, used_zones, file_zones, mapped_groups}
use Rattle.volume_ops.specs.Places.{table_block}
use Rattle.volume_ops.specs.VolumeFields.{inode_at}
use Rattle.volume_model.specs.declared.placed.Placed.{Placed}
use Rattle.volume_model.specs.declared.placed.Part.TheVariants as parts
use Rattle.volume_model.specs.Changes.{Changes}
use Rattle.volume_model.specs.Edits.{put_inode, edited}
use Rattle.volume_model.specs.laws.Edits.{untouched, inode_here, edited_elsewhere}
use Rattle.volume_model.specs.laws.Changes.{changes_then, changes_bit, changes_inode, table_below}
use Rattle.volume_model.specs.laws.FirstZone.{no_number, first_zone}
use Rattle.volume_model.specs.laws.MapBlock.{changes_wider}
use Rattle.volume_model.specs.Volume.{Place, block, zone_in}
use Rattle.volume_model.specs.Moves.{IsVolume}
use Rattle.volume_steps.specs.Now.{VolumeNow, tree_of_now}
use Rattle.volume_steps.specs.Zones.{inode_bit, new_number}
use Rattle.volume_steps.specs.Steps.{new_file_inode, make_file}
use Rattle.volume_steps.specs.Plain.{IsInUse}
use Rattle.volume_steps.specs.laws.Steady.{IsSteady}
use Rattle.volume_steps.specs.UsedInodes.{IsInodeUsed}
use Rattle.volume_steps.proofs.Grows.{GrowsTo, takes_none, grown_steady}
use Rattle.volume_steps.proofs.NodeSteps.{IsSettled, AreSlotted}
use Rattle.volume_steps.proofs.NewNumbers.{IsNewNumber, number_is_new}
use Rattle.volume_steps.proofs.Comes.{MayCome, ComesTold, come, come_stands, come_grows, come_settled, come_slotted}
use Rattle.volume_steps.proofs.TreeSteps.{grown_pages, tree_put, tree_none, tree_in_order, used_put_new}
use Rattle.volume_steps.proofs.Listed.{put_told}
use Rattle.volume_steps.proofs.Marked.{marks_inode, number_comes, numbers_come}

-- ---- a file

module _ (tx : ℕ) (v : VolumeNow) (in_use : IsInUse v) (n : ℕ) (none : at_number v.contents.nodes n ≡ None) (few : length v.contents.nodes < v.geometry.inodes) where
  abbrev g : Geometry
  g = v.geometry

  abbrev number : ℕ
  number = new_number g v.contents.nodes

  new : IsNewNumber g v.contents.nodes number
  new = number_is_new g v.contents.nodes few

  file_fits : FitInode new_file_inode
  file_fits = record { mode = omega arith; uid = omega arith; size = omega arith; time = omega arith; gid = omega arith; links = omega arith; nine = refl; zones = λ k. subst (λ z. z < 2 ^ 16) (sym (no_number 9 k)) (omega arith) }

  abbrev bits : List (List ℕ)
  bits = edited g v.contents.blocks (inode_bit number true)

  abbrev after : List (List ℕ)
  after = edited g bits (put_inode number new_file_inode)

  bits_change : Changes g (λ _. ⊥) (λ _. ⊥) v.contents.blocks bits
  bits_change =
      let high = new.within in
      let room = in_use.sound.inode_bits in
      changes_bit g v.contents.blocks 2 number true in_use.sound in_use.volume.0.whole in_use.volume.0.size (omega arith)

  table_change : Changes g (λ j. j ≡ number) (λ _. ⊥) bits after
  table_change = changes_inode g bits number new_file_inode in_use.sound bits_change.whole (bits_change.size ∙ in_use.volume.0.size) new.some new.within file_fits

  changes : Changes g (λ j. j ≡ number) (λ _. ⊥) v.contents.blocks after
  changes = changes_wider g (λ j i. elim i [ inl w ↦ absurd w | inr e ↦ e ]) (λ b i. elim i [ inl w ↦ w | inr w ↦ w ]) (changes_then g bits_change table_change)

  abbrev q : Placed
  q = record { number = number; inode = new_file_inode; part = parts.File [] }

  no_zone : (x : Place) → zone_in after new_file_inode x ≢ 0 → ⊥
  no_zone x some = some (first_zone after changes.whole new_file_inode 0 refl x some)

  table_here : inode_at g after number ≡ new_file_inode
  table_here =
      let t = table_below g number in_use.sound new.some new.within in
      let low = t.1 in
      let some = in_use.sound.some_zone in
      let size = bits_change.size ∙ in_use.volume.0.size in
      inode_here g bits number new_file_inode bits_change.whole (omega arith) file_fits

  may : MayCome g v.contents after n q (λ _. ⊥)
  unfolding IsStrictlySortedBy
  may = record {
    birth = none;
    unused = new.unused;
    changes = changes;
    not_theirs = λ a r x at some z. z;
    stored = record {
      some = new.some;
      within = new.within;
      fits = file_fits;
      inode = table_here;
      zones = λ x some. absurd (no_zone x some);
      part = record { kind = refl; listed = λ m i. absurd i; full = λ index some. absurd (no_zone (block index) some); rising = tt };
    };
    apart = λ x y same some. absurd (no_zone x some);
    none_of_theirs = λ a r x y at same some. no_zone x some;
    names = λ d is. absurd (cc is);
    just = λ x some. absurd (no_zone x some);
  }

  abbrev blocks : List ℕ
  blocks = (2 + number / 8192) ∷ table_block g number ∷ []

  told : ComesTold g v.contents after n q (λ _. ⊥) in_use.volume may in_use.sound blocks []
  told = record {
    zones = λ x some. absurd (no_zone x some);
    bytes = λ b out. untouched g (inode_bit number true ∷ put_inode number new_file_inode ∷ []) v.contents.blocks b out;
    meta = λ b i.
        let t = table_below g number in_use.sound new.some new.within in
        let low = t.0 in
        let high = t.1 in
        let within = new.within in
        let room = in_use.sound.inode_bits in
        let tables = in_use.sound.tables_below in
        inl (elim i [ inl e ↦ ((omega arith), (omega arith)) | inr j ↦ elim j [ inl e ↦ ((omega arith), (omega arith)) | inr w ↦ absurd w ] ]);
    mapped = λ zone i. absurd i;
  }

  grows : GrowsTo g v.contents (come g v.contents after n q (λ _. ⊥) in_use.volume may) blocks []
  grows = come_grows g v.contents after n q (λ _. ⊥) in_use.volume may in_use.sound blocks [] told

  stands : IsVolume g (come g v.contents after n q (λ _. ⊥) in_use.volume may)
  stands = come_stands g v.contents after n q (λ _. ⊥) in_use.volume may

  pub file_made_tree : tree_of_now (make_file v n).volume ≡ put_number (tree_of_now v) n new_file
  file_made_tree = tree_put v.contents.blocks after v.contents.nodes in_use.volume.0.in_order
      (grown_pages g v.contents (come g v.contents after n q (λ _. ⊥) in_use.volume may) blocks [] [] grows in_use.volume.0 stands.0) n q

  pub no_zones : node_zones new_file ≡ 0
  unfolding file_zones mapped_groups
  no_zones = refl

  not_before : IsInodeUsed v.contents.nodes number → ⊥
  not_before has = new.unused has.birth has.placed has.stands has.is

  pub file_made_steady : IsSteady tx v (make_file v n) (λ birth index. ⊥)
  file_made_steady = grown_steady tx v (come g v.contents after n q (λ _. ⊥) in_use.volume may) v.zones blocks [] (n ∷ []) in_use stands grows (takes_none v.zones)
      (let all = used_put_new (tree_of_now v) n new_file (tree_in_order v.contents.blocks v.contents.nodes in_use.volume.0.in_order) (tree_none v.contents.blocks v.contents.nodes n none) in
      let same = ap used_zones file_made_tree in
      let zero = no_zones in
      let was = in_use.counted in
      omega arith)
      (put_told g v.contents (come g v.contents after n q (λ _. ⊥) in_use.volume may) (make_file v n).touched n q refl (inl refl) (λ b i. elim i [ inl e ↦ sym e | inr z ↦ absurd z ]) (λ zones is. (table_block g number, inr (inl refl), (table_below g number in_use.sound new.some new.within).1)))
      (marks_inode g in_use.sound v.contents (come g v.contents after n q (λ _. ⊥) in_use.volume may) v.zones number true in_use.volume.0.whole in_use.volume.0.size new.some new.within
      (λ b low high. edited_elsewhere g bits (put_inode number new_file_inode) b (λ e. (let far = (table_below g number in_use.sound new.some new.within).0 in omega arith)))
      ((λ t. number_comes v.contents.nodes n q), (λ has. refl)) (λ alike. not_before (alike.0 (number_comes v.contents.nodes n q))) (λ other apart. numbers_come v.contents.nodes n q none other apart))

  pub file_made_settled : IsSettled v.contents → (n ≡ 0 → ⊥) → IsSettled (make_file v n).volume.contents
  file_made_settled old apart = come_settled g v.contents after n q (λ _. ⊥) in_use.volume may old apart (λ zones is. omega arith) (omega arith) (λ d is. absurd (cc is))

  pub file_made_slotted : AreSlotted v.geometry (λ a. ⊥) v.contents → AreSlotted v.geometry (λ a. ⊥) (make_file v n).volume.contents
  file_made_slotted old = come_slotted g v.contents after n q (λ _. ⊥) in_use.volume may old (λ d is. absurd (cc is))
