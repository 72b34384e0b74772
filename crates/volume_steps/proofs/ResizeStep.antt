-- A file gets another size.
use Rattle.std.specs.Prelude.{◌≡◌, ◌≢◌, ◌≤◌, ◌==◌, ℕ, if◌then◌else◌, List, [], ◌∷◌, Some, refl}
use Rattle.std.proofs.Common.{sym, ap, subst, inl, inr, ◌∙◌, arith}
use Rattle.std.proofs.lemmas.Bool.{cases_Bool, eqb-true, eqb-false}
use Rattle.minix_layout.specs.declared.division.Geometry.{Geometry}
use Rattle.minix_layout.specs.declared.inode.Inode.{Inode}
use Rattle.tree_model.specs.declared.node.File.{File}
use Rattle.tree_model.specs.declared.node.Node.TheVariants as nodes
use Rattle.tree_model.specs.Maps.{at_number, put_number}
use Rattle.tree_model.specs.Calls.{node_zones}
use Rattle.volume_ops.specs.declared.found.Mapped.{Mapped}
use Rattle.volume_ops.specs.Places.{table_block, largest_size}
use Rattle.volume_ops.specs.Volume.{bodies_of}
use Rattle.volume_model.specs.declared.placed.Placed.{Placed}
use Rattle.volume_model.specs.declared.placed.Part.TheVariants as parts
use Rattle.volume_model.specs.MapBlock.{OpenInode}
use Rattle.volume_model.specs.Moves.{IsVolume, closed, with_size, back_told}
use Rattle.volume_model.specs.laws.Back.{told_here}
use Rattle.volume_model.specs.laws.Changes.{table_below}
use Rattle.volume_model.specs.Trees.{node_from, node_now}
use Rattle.volume_model.specs.Volume.{Place, block, indirect, double, inner, zone_in, IsPart, IsFilePart}
use Rattle.volume_model.specs.laws.NodeMoves.{changed, other}
use Rattle.volume_model.specs.laws.ZoneMoves.{MayMove}
use Rattle.volume_steps.specs.Now.{VolumeNow, Change, tree_of_now, unchanged}
use Rattle.volume_steps.specs.Plain.{IsInUse}
use Rattle.volume_steps.specs.Steps.{inode_put, resize, tells_node}
use Rattle.volume_steps.proofs.FileSteps.{IsFileStep, IsFileAt, file_at}
use Rattle.volume_steps.proofs.Files.{in_order_same, bodies_in_order, node_is_file}
use Rattle.volume_steps.proofs.NodeSteps.{MayGrow, cases, closed_settled, closed_slotted, closed_numbers}
use Rattle.volume_steps.proofs.PageStep.{unchanged_step}
use Rattle.volume_steps.proofs.Listed.{put_told}
use Rattle.volume_steps.proofs.QuietSteps.{at_node_is, quiet_pages, quiet_steady, quiet_tree}
use Rattle.volume_steps.proofs.SameZones.{same_move, same_grow, same_stands}
use Rattle.minix_layout.specs.Inodes.{FitInode}
use Rattle.volume_steps.proofs.TreeSteps.{node_same}
use Rattle.volume_steps.proofs.WriteSteps.{IsWriteStep}

sized_zone : (blocks : List (List ℕ)) (i : Inode) (size : ℕ) (x : Place) → zone_in blocks (with_size i size) x ≡ zone_in blocks i x
sized_zone blocks i size (block index) = refl
sized_zone blocks i size indirect = refl
sized_zone blocks i size double = refl
sized_zone blocks i size (inner k) = refl

module _ (tx : ℕ) (v : VolumeNow) (in_use : IsInUse v) (n : ℕ) (p : Placed) (zones : List Mapped) (at : at_number v.contents.nodes n ≡ Some p) (is : p.part ≡ parts.File zones) (size : ℕ) (fits : size ≤ largest_size) (other_size : size ≢ p.inode.size) where
  abbrev g : Geometry
  g = v.geometry

  abbrev u : OpenInode
  u = record { blocks = v.contents.blocks; inode = with_size p.inode size }

  part : IsFilePart v.contents.blocks p.inode zones
  part = subst (IsPart v.geometry v.contents.blocks p.inode) is (in_use.volume.0.each n p at).part

  fit : FitInode (with_size p.inode size)
  fit = (let f = (in_use.volume.0.each n p at).fits in record { mode = f.mode; uid = f.uid; size = omega arith; time = f.time; gid = f.gid; links = f.links; nine = f.nine; zones = f.zones })

  sized_part : IsPart v.geometry v.contents.blocks (with_size p.inode size) p.part
  sized_part = subst (IsPart v.geometry v.contents.blocks (with_size p.inode size)) (sym is) (record { kind = part.kind; listed = part.listed; full = part.full; rising = part.rising })

  abbrev may : MayMove g in_use.sound v.contents.blocks v.contents.nodes n p in_use.volume.0 at u p.part (λ _. ⊥)
  may = same_move v in_use n p at (with_size p.inode size) (sized_zone v.contents.blocks p.inode size) fit sized_part

  abbrev written : List ℕ
  written = back_told g p (with_size p.inode size)

  abbrev grow : MayGrow g in_use.sound v.contents n p in_use.volume at u p.part (λ _. ⊥) may written []
  grow = same_grow v in_use n p at (with_size p.inode size) (sized_zone v.contents.blocks p.inode size) fit sized_part

  stands : IsVolume g (closed g v.contents n p u p.part)
  stands = same_stands v in_use n p at (with_size p.inode size) (sized_zone v.contents.blocks p.inode size) fit sized_part

  abbrev pub sized : Change
  sized = record { volume = inode_put v n p (with_size p.inode size); touched = tells_node n written }

  abbrev pub sized_file : File
  sized_file = record { size = size; links = p.inode.links; blocks = bodies_of v.contents.blocks zones }

  node : node_from sized.volume.contents.blocks (with_size p.inode size) p.part ≡ nodes.File sized_file
  node =
      node_same v.contents.blocks sized.volume.contents.blocks (with_size p.inode size) p.part
      (λ zs file m i. quiet_pages tx v in_use n p at u p.part (λ _. ⊥) may written (n ∷ []) grow stands n p zs at file m i)
      ∙ (ap (node_from v.contents.blocks (with_size p.inode size)) is
      ∙ ap (λ (es : List (ℕ × List ℕ)). nodes.File (record { size = size; links = p.inode.links; blocks = es })) (in_order_same (bodies_of v.contents.blocks zones) (bodies_in_order v.contents.blocks zones part.rising)))

  same_needs : node_zones (node_from sized.volume.contents.blocks (with_size p.inode size) p.part) ≡ node_zones (node_now v.contents.blocks p)
  same_needs = ap node_zones node ∙ sym (ap node_zones (node_is_file v.contents.blocks p zones is part.rising))

  -- The file has the size.
  pub sized_step : IsFileStep tx v n sized sized_file (λ birth index. ⊥)
  sized_step = record {
    steady = quiet_steady tx v in_use n p at u p.part (λ _. ⊥) may written (n ∷ []) grow stands same_needs
        (put_told g v.contents sized.volume.contents sized.touched n (record { number = p.number; inode = with_size p.inode size; part = p.part }) refl (inl refl) (λ b i. elim i [ inl e ↦ sym e | inr z ↦ absurd z ]) (λ zones is. (table_block g p.number, told_here g p (with_size p.inode size) (λ e. other_size (ap (λ (i : Inode). i.size) e)), (let told = in_use.volume.0.each n p at in (table_below g p.number in_use.sound told.some told.within).1))));
    settled = λ old. closed_settled g in_use.sound v.contents n p in_use.volume at u p.part (λ _. ⊥) may written [] grow
        (record { sizes = λ zs file. fits; dots = λ d file. old.dots n p d at file; few_links = old.few_links n p at }) old;
    slotted = λ old. closed_slotted g in_use.sound v.contents n p in_use.volume at u p.part (λ _. ⊥) may written [] grow
        (λ a r d found file apart. old a r d found file (λ z. z)) (λ d file. absurd (cc (sym is ∙ file)));
    tree = quiet_tree tx v in_use n p at u p.part (λ _. ⊥) may written (n ∷ []) grow stands ∙ ap (λ node. put_number (tree_of_now v) n node) node;
    waiting = (omega arith);
    directories = λ a r d found file. elim (cases g in_use.sound v.contents n p in_use.volume at u p.part (λ _. ⊥) may written [] grow a r found) [
      | changed e same ↦ absurd (cc (sym is ∙ (ap (λ (r : Placed). r.part) same ∙ file)))
      | other apart was ↦ was
    ];
    numbers = closed_numbers g in_use.sound v.contents n p in_use.volume at u p.part (λ _. ⊥) may written [] grow;
  }

-- ---- the step

abbrev pub with_file_size : File → ℕ → File
with_file_size f size = record { size = size; links = f.links; blocks = f.blocks }

module _ (tx : ℕ) (v : VolumeNow) (h : IsInUse v) (n : ℕ) (f : File) (found : at_number (tree_of_now v) n ≡ Some (nodes.File f)) (change : ℕ → ℕ) (fits : change f.size ≤ largest_size) where
  x : IsFileAt v n f
  x = file_at v h n f found

  size_is : f.size ≡ x.placed.inode.size
  size_is = ap (λ (f : File). f.size) x.file

  low : change x.placed.inode.size ≤ largest_size
  low = subst (λ size. change size ≤ largest_size) size_is fits

  abbrev after : File
  after = with_file_size f (change f.size)

  abbrev resized : Placed → Change
  resized p =
      if change p.inode.size == p.inode.size then unchanged v
      else record { volume = inode_put v n p (with_size p.inode (change p.inode.size)); touched = tells_node n (back_told v.geometry p (with_size p.inode (change p.inode.size))) }

  file_is : record { size = change x.placed.inode.size; links = x.placed.inode.links; blocks = bodies_of v.contents.blocks x.zones } ≡ after
  file_is = sym (ap (λ (f : File). with_file_size f (change f.size)) x.file)

  pub resize_step : IsWriteStep tx v n (resize v n change) after (λ birth index. ⊥)
  resize_step = subst (λ c. IsWriteStep tx v n c after (λ birth index. ⊥)) (sym (at_node_is v n x.placed resized x.stands)) (elim (cases_Bool (change x.placed.inode.size == x.placed.inode.size)) [
    | inl y ↦
        let same : f ≡ after = ap (λ size. with_file_size f size) (size_is ∙ (sym (eqb-true _ _ y) ∙ sym (ap change size_is))) in
        subst (λ c. IsWriteStep tx v n c after (λ birth index. ⊥)) (let e : unchanged v ≡ resized x.placed = rw y refl in e)
        (subst (λ f. IsWriteStep tx v n (unchanged v) f (λ birth index. ⊥)) same (record { step = unchanged_step tx v h n f found; none_freed = refl; none_dropped = refl }))
    | inr z ↦
        subst (λ c. IsWriteStep tx v n c after (λ birth index. ⊥)) (let e : sized tx v h n x.placed x.zones x.stands x.is_file (change x.placed.inode.size) low (eqb-false _ _ z) ≡ resized x.placed = rw z refl in e)
        (subst (λ f. IsWriteStep tx v n (sized tx v h n x.placed x.zones x.stands x.is_file (change x.placed.inode.size) low (eqb-false _ _ z)) f (λ birth index. ⊥)) file_is
        (record { step = sized_step tx v h n x.placed x.zones x.stands x.is_file (change x.placed.inode.size) low (eqb-false _ _ z); none_freed = refl; none_dropped = refl }))
  ])
