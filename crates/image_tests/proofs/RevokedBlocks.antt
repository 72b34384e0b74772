-- What calls revoke: steps that revoke nothing, nodes that go and files that are cut, and each call.
use Rattle.std.specs.Prelude.{◌≡◌, ◌≢◌, ℕ, ◌+◌, ◌-◌, ◌%◌, ◌/◌, ◌≤◌, ◌==◌, nat_eq, nat_le, Bool, true, false, not, ◌&&◌, ◌||◌, if◌then◌else◌, List, [], ◌∷◌, ◌++◌, length, filter, replicate, Option, Some, None, Result, Ok, Err, refl}
use Rattle.std.specs.Int.{div_ceil}
use Rattle.std.specs.List.{list_any, slice_get}
use Rattle.std.proofs.Common.{sym, ap, subst, ◌∙◌, inl, inr, ⊎_elim, arith}
use Rattle.std.proofs.lemmas.Bool.{cases_lt, and_parts, true≢false, eqb-false}
use Rattle.std.proofs.lemmas.Option.{same_Some}
use Rattle.blk_base.specs.Members.{In}
use Rattle.blk_base.specs.laws.Members.{In-append_cases, In-map, In-filter}
use Rattle.minix_layout.specs.Widths.{slots_a_block}
use Rattle.minix_layout.specs.declared.division.Geometry.{Geometry}
use Rattle.minix_layout.specs.declared.slot.Slot.{Slot}
use Rattle.tree_model.specs.declared.call.Call.{Call}
use Rattle.tree_model.specs.declared.call.Call.TheVariants as calls
use Rattle.tree_model.specs.declared.call.Reply.{Reply}
use Rattle.tree_model.specs.declared.call.Reply.TheVariants as replies
use Rattle.tree_model.specs.declared.node.File.{File}
use Rattle.tree_model.specs.declared.node.Node.TheVariants as nodes
use Rattle.tree_model.specs.Maps.{at_number, at_name}
use Rattle.tree_model.specs.laws.MapsLaws.{at_put_number}
use Rattle.tree_model.specs.Plain.{AreBornBefore}
use Rattle.tree_model.specs.Calls.{Done, Found, Move, Place as NamePlace, Row, outcome, names_in, parent_of, walk_path, and_then as and_then_row, used_zones, take_name as tree_take_name, without_name as tree_without_name, stays, moves_directory, changes_parent, touched_blocks, max}
use Rattle.minix_tables.specs.directories.Slots.{room}
use Rattle.minix_tables.specs.zones.Zones.{state_of}
use Rattle.volume_ops.specs.declared.found.Mapped.{Mapped}
use Rattle.volume_model.specs.declared.placed.Placed.{Placed}
use Rattle.volume_model.specs.declared.placed.Part.{Part}
use Rattle.volume_model.specs.declared.placed.Part.TheVariants as parts
use Rattle.volume_model.specs.declared.placed.DirectoryPart.{DirectoryPart}
use Rattle.volume_model.specs.Counts.{keeps_below, indices_of, number_places}
use Rattle.volume_model.specs.Moves.{IsVolume, numbers_gone, name_removed, without_name}
use Rattle.volume_model.specs.Touched.{Page, IsMeta, HasPage}
use Rattle.volume_model.specs.Touched.IsMeta.{of_tables, of_numbers, of_directory}
use Rattle.volume_model.specs.Volume.{Place, block, indirect, double, inner, zone_in, IsOfNumbers, at_indirect, at_double, at_inner}
use Rattle.volume_steps.specs.Now.{VolumeNow, Change, tree_of_now, room_of, unchanged, followed_by, with_contents}
use Rattle.volume_steps.specs.Steps.{at_node, at_directory, at_file, set_links, resize, make_file, make_directory, make_room, put_name_slot, add_name, take_name, place_of, set_parent, lead_name, metadata_gone, node_dropped, drop_node, tells_node, slot_told, write_block, write_blocks, blocks_cut, cut_blocks, clear_tail}
use Rattle.volume_steps.specs.Calls.{at_place, at_path, mkdir_in, mkdir, create_in, create, rmdir_in, lose_link, unlink_in, link_in, link, move_in, move_below, replace_in, rename, write_at, write, truncate_at, truncate, unlink, rmdir, changed, called, called_by}
use Rattle.volume_steps.specs.Called.{FindsRoom}
use Rattle.volume_steps.specs.Plain.{IsInUse, IsPlainNow}
use Rattle.volume_steps.specs.laws.Steady.{IsSteady}
use Rattle.volume_steps.proofs.CallPaths.{DirectoryAt, directory_at, at_place_is, at_path_is}
use Rattle.volume_steps.proofs.Called.{needs_are}
use Rattle.volume_steps.proofs.CutStep.{of_numbers_place}
use Rattle.volume_steps.proofs.GoneDirectories.{lists_of_directory}
use Rattle.volume_steps.proofs.NameGoes.{name_goes, name_goes_is, name_goes_step}
use Rattle.volume_steps.proofs.NodeSteps.{AreSlotted}
use Rattle.volume_steps.proofs.QuietSteps.{linked, linked_steady, linked_slotted, set_links_is}
use Rattle.volume_steps.proofs.SlotChanges.{lead_name_is}
use Rattle.volume_steps.proofs.StepsTo.{StepsTo, links_at}
use Rattle.volume_steps.proofs.Taking.{frees}
use Rattle.volume_steps.proofs.Together.{meta_has_zone}
use Rattle.volume_steps.proofs.RenameCall as renames
use Rattle.volume_steps.proofs.RenameTree.{Met, none_met, file_met, itself, met}
use Rattle.volume_steps.proofs.RmdirCall as rmdirs
use Rattle.volume_steps.proofs.UnlinkCall as unlinks

-- ---- steps that revoke nothing

abbrev RevokesNone : Change → Type 0
RevokesNone c = c.touched.revoked ≡ []

none_then : (c : Change) (next : VolumeNow → Change) → RevokesNone c → RevokesNone (next c.volume) → RevokesNone (followed_by c next)
none_then c next first second = ap (λ xs. xs ++ (next c.volume).touched.revoked) first ∙ second

node_none : (v : VolumeNow) (n : ℕ) (change : Placed → Change) → ((p : Placed) → RevokesNone (change p)) → RevokesNone (at_node v n change)
node_none v n change each = by (at_number v.contents.nodes n)
  where
    by : (o : Option Placed) → RevokesNone (elim o as (λ _. Change) [ None ↦ unchanged v | Some p ↦ change p ])
    by None = refl
    by (Some p) = each p

directory_none : (v : VolumeNow) (n : ℕ) (change : Placed → DirectoryPart → Change) → ((p : Placed) (d : DirectoryPart) → RevokesNone (change p d)) → RevokesNone (at_directory v n change)
directory_none v n change each = node_none v n (λ p. elim p.part as (λ _. Change) [ parts.Directory d ↦ change p d | parts.File zones ↦ unchanged v ]) (λ p. by p p.part)
  where
    by : (p : Placed) (part : Part) → RevokesNone (elim part as (λ _. Change) [ parts.Directory d ↦ change p d | parts.File zones ↦ unchanged v ])
    by p (parts.Directory d) = each p d
    by p (parts.File zones) = refl

file_none : (v : VolumeNow) (n : ℕ) (change : Placed → List Mapped → Change) → ((p : Placed) (zones : List Mapped) → RevokesNone (change p zones)) → RevokesNone (at_file v n change)
file_none v n change each = node_none v n (λ p. elim p.part as (λ _. Change) [ parts.Directory d ↦ unchanged v | parts.File zones ↦ change p zones ]) (λ p. by p p.part)
  where
    by : (p : Placed) (part : Part) → RevokesNone (elim part as (λ _. Change) [ parts.Directory d ↦ unchanged v | parts.File zones ↦ change p zones ])
    by p (parts.Directory d) = refl
    by p (parts.File zones) = each p zones

if_none : (b : Bool) (c d : Change) → RevokesNone c → RevokesNone d → RevokesNone (if b then c else d)
if_none true c d first second = first
if_none false c d first second = second

links_none : (v : VolumeNow) (n : ℕ) (change : ℕ → ℕ) → RevokesNone (set_links v n change)
links_none v n change = node_none v n _ (λ p. refl)

resize_none : (v : VolumeNow) (n : ℕ) (change : ℕ → ℕ) → RevokesNone (resize v n change)
resize_none v n change = node_none v n _ (λ p. if_none (change p.inode.size == p.inode.size) _ _ refl refl)

made_none : (v : VolumeNow) (n parent : ℕ) → RevokesNone (make_directory v n parent)
made_none v n parent = node_none v parent _ (λ p. refl)

room_none : (v : VolumeNow) (n : ℕ) → RevokesNone (make_room v n)
room_none v n = directory_none v n _ (λ p d. if_none (nat_eq (room d.slots) (length d.slots) && nat_eq (length d.slots % slots_a_block v.geometry.width) 0) _ _ refl refl)

slot_none : (v : VolumeNow) (n : ℕ) (name : List ℕ) (birth : ℕ) → RevokesNone (put_name_slot v n name birth)
slot_none v n name birth = directory_none v n _ (λ p d. node_none v birth _ (λ child. refl))

name_none : (v : VolumeNow) (n : ℕ) (name : List ℕ) (birth : ℕ) → RevokesNone (add_name v n name birth)
name_none v n name birth = none_then (make_room v n) (λ w. put_name_slot w n name birth) (room_none v n) (slot_none (make_room v n).volume n name birth)

abbrev taken_slot : VolumeNow → ℕ → Placed → DirectoryPart → ℕ → Slot → Change
taken_slot v n p d k s = record {
  volume = with_contents v (name_removed v.geometry v.contents n p d k s);
  touched = tells_node n (slot_told v p k (without_name d k s));
}

taken_none : (v : VolumeNow) (n : ℕ) (name : List ℕ) → RevokesNone (take_name v n name)
taken_none v n name = directory_none v n _ (λ p d. by p d (slice_get d.slots (place_of name d.slots)))
  where
    by : (p : Placed) (d : DirectoryPart) (o : Option (Option Slot)) → RevokesNone (elim o as (λ _. Change) [
      | None ↦ unchanged v
      | Some o ↦ elim o as (λ _. Change) [ None ↦ unchanged v | Some s ↦ taken_slot v n p d (place_of name d.slots) s ]
    ])
    by p d None = refl
    by p d (Some None) = refl
    by p d (Some (Some s)) = refl

parent_none : (v : VolumeNow) (n parent : ℕ) → RevokesNone (set_parent v n parent)
parent_none v n parent = directory_none v n _ (λ p d. node_none v parent _ (λ above. refl))

led_none : (v : VolumeNow) (n : ℕ) (name : List ℕ) (birth : ℕ) → RevokesNone (lead_name v n name birth)
led_none v n name birth = directory_none v n _ (λ p d. node_none v birth _ (λ child. refl))

write_none : (v : VolumeNow) (n off : ℕ) (bytes : List ℕ) (index : ℕ) → RevokesNone (write_block v n off bytes index)
write_none v n off bytes index = file_none v n _ (λ p zones. if_none (nat_eq (zone_in v.contents.blocks p.inode (block index)) 0) _ _ refl refl)

writes_none : (v : VolumeNow) (n off : ℕ) (bytes : List ℕ) (indices : List ℕ) → RevokesNone (write_blocks v n off bytes indices)
writes_none v n off bytes [] = refl
writes_none v n off bytes (index ∷ indices) =
    none_then (write_block v n off bytes index) (λ w. write_blocks w n off bytes indices) (write_none v n off bytes index) (writes_none (write_block v n off bytes index).volume n off bytes indices)

tail_none : (v : VolumeNow) (n size : ℕ) → RevokesNone (clear_tail v n size)
tail_none v n size = file_none v n _ (λ p zones. if_none (nat_eq (size % 1024) 0 || nat_eq (zone_in v.contents.blocks p.inode (block (size / 1024))) 0) _ _ refl refl)

-- ---- calls that revoke nothing

place_none : (v : VolumeNow) (path : List ℕ) (change : NamePlace → Change) → ((place : NamePlace) → RevokesNone (change place)) → RevokesNone (at_place v path change)
place_none v path change each = by (and_then_row (names_in path) (parent_of replies.Invalid (tree_of_now v)))
  where
    by : (r : Result NamePlace Reply) → RevokesNone (elim r as (λ _. Change) [ Err reply ↦ unchanged v | Ok place ↦ change place ])
    by (Err reply) = refl
    by (Ok place) = each place

path_none : (v : VolumeNow) (path : List ℕ) (change : ℕ → Change) → ((birth : ℕ) → RevokesNone (change birth)) → RevokesNone (at_path v path change)
path_none v path change each = by (walk_path (tree_of_now v) path)
  where
    by : (r : Result Found Reply) → RevokesNone (elim r as (λ _. Change) [ Err reply ↦ unchanged v | Ok found ↦ change found.birth ])
    by (Err reply) = refl
    by (Ok found) = each found.birth

mkdir_none : (v : VolumeNow) (n parent : ℕ) (name : List ℕ) → RevokesNone (mkdir_in v n parent name)
mkdir_none v n parent name =
    let u = (make_directory v n parent).volume in
    let w = (add_name u parent name n).volume in
    none_then (make_directory v n parent) (λ u. followed_by (add_name u parent name n) (λ w. set_links w parent (λ links. links + 1))) (made_none v n parent)
    (none_then (add_name u parent name n) (λ w. set_links w parent (λ links. links + 1)) (name_none u parent name n) (links_none w parent (λ links. links + 1)))

create_none : (v : VolumeNow) (n parent : ℕ) (name : List ℕ) → RevokesNone (create_in v n parent name)
create_none v n parent name = none_then (make_file v n) (λ w. add_name w parent name n) refl (name_none (make_file v n).volume parent name n)

link_none : (v : VolumeNow) (birth parent : ℕ) (name : List ℕ) → RevokesNone (link_in v birth parent name)
link_none v birth parent name =
    none_then (set_links v birth (λ links. links + 1)) (λ w. add_name w parent name birth) (links_none v birth (λ links. links + 1)) (name_none (set_links v birth (λ links. links + 1)).volume parent name birth)

move_none : (v : VolumeNow) (from : ℕ) (name : List ℕ) (to : ℕ) (other : List ℕ) (birth : ℕ) → RevokesNone (move_in v from name to other birth)
move_none v from name to other birth = none_then (take_name v from name) (λ w. add_name w to other birth) (taken_none v from name) (name_none (take_name v from name).volume to other birth)

below_none : (v : VolumeNow) (from : ℕ) (name : List ℕ) (to : ℕ) (other : List ℕ) (birth : ℕ) → RevokesNone (move_below v from name to other birth)
below_none v from name to other birth =
    let u = (take_name v from name).volume in
    let w = (set_links u from (λ links. links - 1)).volume in
    let x = (set_parent w birth to).volume in
    let y = (set_links x to (λ links. links + 1)).volume in
    none_then (take_name v from name)
    (λ u. followed_by (set_links u from (λ links. links - 1)) (λ w. followed_by (set_parent w birth to) (λ x. followed_by (set_links x to (λ links. links + 1)) (λ y. add_name y to other birth))))
    (taken_none v from name)
    (none_then (set_links u from (λ links. links - 1))
    (λ w. followed_by (set_parent w birth to) (λ x. followed_by (set_links x to (λ links. links + 1)) (λ y. add_name y to other birth)))
    (links_none u from (λ links. links - 1))
    (none_then (set_parent w birth to) (λ x. followed_by (set_links x to (λ links. links + 1)) (λ y. add_name y to other birth)) (parent_none w birth to)
    (none_then (set_links x to (λ links. links + 1)) (λ y. add_name y to other birth) (links_none x to (λ links. links + 1)) (name_none y to other birth))))

writing_none : (v : VolumeNow) (birth off : ℕ) (bytes : List ℕ) → RevokesNone (write_at v birth off bytes)
writing_none v birth off bytes =
    let indices = touched_blocks off (length bytes) in
    none_then (write_blocks v birth off bytes indices) (λ w. resize w birth (λ size. max size (off + length bytes))) (writes_none v birth off bytes indices)
    (resize_none (write_blocks v birth off bytes indices).volume birth (λ size. max size (off + length bytes)))

-- ---- a node that goes, and a file that is cut

-- what holds of all blocks that a step revokes
abbrev Revokes : Change → (ℕ → Type 0) → Type 0
Revokes c P = (b : ℕ) → In b c.touched.revoked → P b

nothing : (c : Change) (P : ℕ → Type 0) → RevokesNone c → Revokes c P
nothing c P none b i = absurd (in_none b (subst (In b) none i))
  where
    in_none : (b : ℕ) → In b [] → ⊥
    in_none b i = i

abbrev IsMetaNow : VolumeNow → ℕ → Type 0
IsMetaNow v b = IsMeta v.geometry v.contents b

some_zone : (zone : ℕ) (keeps : Bool) → (not (nat_eq zone 0) && not keeps) ≡ true → zone ≢ 0
some_zone zone keeps t = by (nat_eq zone 0) refl (and_parts (not (nat_eq zone 0)) (not keeps) t).0
  where
    by : (b : Bool) → nat_eq zone 0 ≡ b → not b ≡ true → zone ≢ 0
    by true e t = absurd (true≢false (sym t))
    by false e t = eqb-false zone 0 e

numbers_are_meta : (v : VolumeNow) (n : ℕ) (p : Placed) → at_number v.contents.nodes n ≡ Some p → (keeps : Place → Bool) (b : ℕ) → In b (numbers_gone v.contents p keeps) → IsMetaNow v b
numbers_are_meta v n p at keeps b i =
    let own = λ (x : Place). zone_in v.contents.blocks p.inode x in
    let w = In-map own (filter (λ x. not (nat_eq (own x) 0) && not (keeps x)) number_places) b i in
    let f = In-filter (λ x. not (nat_eq (own x) 0) && not (keeps x)) number_places w.0 w.1 in
    of_numbers n p w.0 at (of_numbers_place w.0 f.0) w.2 (λ none. some_zone (own w.0) (keeps w.0) f.1 (w.2 ∙ none))

-- each zone of a directory is metadata
directory_is_meta : (v : VolumeNow) (n : ℕ) (p : Placed) (d : DirectoryPart) → at_number v.contents.nodes n ≡ Some p → p.part ≡ parts.Directory d → (x : Place) (b : ℕ)
    → zone_in v.contents.blocks p.inode x ≡ b → b ≢ 0 → IsMetaNow v b
directory_is_meta v n p d at is (block i) b zone some = of_directory n p d i at is zone some
directory_is_meta v n p d at is indirect b zone some = of_numbers n p indirect at at_indirect zone some
directory_is_meta v n p d at is double b zone some = of_numbers n p double at at_double zone some
directory_is_meta v n p d at is (inner k) b zone some = of_numbers n p (inner k) at at_inner zone some

gone_is_meta : (v : VolumeNow) (h : IsVolume v.geometry v.contents) → AreSlotted v.geometry (λ a. ⊥) v.contents → (n : ℕ) (p : Placed) → at_number v.contents.nodes n ≡ Some p
    → (b : ℕ) → In b (metadata_gone v.contents p p.part) → IsMetaNow v b
gone_is_meta v h slotted n p at b = by p.part refl
  where
    by : (part : Part) → p.part ≡ part → In b (metadata_gone v.contents p part) → IsMetaNow v b
    by (parts.File zones) is i = numbers_are_meta v n p at (λ x. false) b i
    by (parts.Directory d) is i =
        let gone = lists_of_directory v h n p at d is (slotted n p d at is (λ z. z)) in
        let w = gone.meta_has b (subst (λ part. In b (metadata_gone v.contents p part)) (sym is) i) in
        directory_is_meta v n p d at is w.0 b w.2 (λ none. w.1 (w.2 ∙ none))

drop_meta : (v : VolumeNow) → IsVolume v.geometry v.contents → AreSlotted v.geometry (λ a. ⊥) v.contents → (tx n : ℕ) → Revokes (drop_node v tx n) (IsMetaNow v)
drop_meta v h slotted tx n b = by (at_number v.contents.nodes n) refl
  where
    by : (o : Option Placed) → at_number v.contents.nodes n ≡ o → In b (elim o as (λ _. Change) [ None ↦ unchanged v | Some p ↦ node_dropped v tx n p ]).touched.revoked → IsMetaNow v b
    by None at i = absurd i
    by (Some p) at i = gone_is_meta v h slotted n p at b i

lose_meta : (v : VolumeNow) → IsVolume v.geometry v.contents → AreSlotted v.geometry (λ a. ⊥) v.contents → (tx n : ℕ) → Revokes (lose_link v tx n) (IsMetaNow v)
lose_meta v h slotted tx n b = by (at_number v.contents.nodes n)
  where
    last : (p : Placed) (t : Bool) → Revokes (if t then drop_node v tx n else set_links v n (λ links. links - 1)) (IsMetaNow v)
    last p true = drop_meta v h slotted tx n
    last p false = nothing (set_links v n (λ links. links - 1)) (IsMetaNow v) (links_none v n (λ links. links - 1))

    by : (o : Option Placed) → In b (elim o as (λ _. Change) [ None ↦ unchanged v | Some p ↦ if nat_le p.inode.links 1 then drop_node v tx n else set_links v n (λ links. links - 1) ]).touched.revoked → IsMetaNow v b
    by None i = absurd i
    by (Some p) i = last p (nat_le p.inode.links 1) b i

cut_meta : (v : VolumeNow) (tx n from : ℕ) → Revokes (cut_blocks v tx n from) (IsMetaNow v)
cut_meta v tx n from b = by (at_number v.contents.nodes n) refl
  where
    in_file : (p : Placed) → at_number v.contents.nodes n ≡ Some p → (zones : List Mapped) (t : Bool)
        → In b (if t then blocks_cut v tx n p zones (keeps_below (indices_of zones) from) from else unchanged v).touched.revoked → IsMetaNow v b
    in_file p at zones true i = numbers_are_meta v n p at (keeps_below (indices_of zones) from) b i
    in_file p at zones false i = absurd i

    in_part : (p : Placed) → at_number v.contents.nodes n ≡ Some p → (part : Part) → In b (elim part as (λ _. Change) [
      | parts.Directory d ↦ unchanged v
      | parts.File zones ↦ if list_any (λ (m : Mapped). nat_le from m.index) zones then blocks_cut v tx n p zones (keeps_below (indices_of zones) from) from else unchanged v
    ]).touched.revoked → IsMetaNow v b
    in_part p at (parts.Directory d) i = absurd i
    in_part p at (parts.File zones) i = in_file p at zones (list_any (λ (m : Mapped). nat_le from m.index) zones) i

    by : (o : Option Placed) → at_number v.contents.nodes n ≡ o → In b (elim o as (λ _. Change) [
      | None ↦ unchanged v
      | Some p ↦ elim p.part as (λ _. Change) [
        | parts.Directory d ↦ unchanged v
        | parts.File zones ↦ if list_any (λ (m : Mapped). nat_le from m.index) zones then blocks_cut v tx n p zones (keeps_below (indices_of zones) from) from else unchanged v
      ]
    ]).touched.revoked → IsMetaNow v b
    by None at i = absurd i
    by (Some p) at i = in_part p at p.part i

-- ---- back over a step that keeps pages and zones

block_is_none : (i : ℕ) → IsOfNumbers (block i) → ⊥
block_is_none i numbers = elim numbers [ ]

module _ (tx : ℕ) (v : VolumeNow) (c : Change) (Writes : ℕ → ℕ → Type 0) (h : IsInUse v) (k : IsSteady tx v c Writes) (no_page_goes : c.touched.dropped ≡ []) (zones_stay : c.volume.zones ≡ v.zones) where
  -- a zone has one use
  no_page : (b : ℕ) → IsMeta v.geometry c.volume.contents b → v.geometry.first ≤ b → (x : Page) → x.zone ≡ b → HasPage c.volume.contents x → ⊥
  no_page b (of_tables low) high x zone page = omega (arith, low, high)
  no_page b (of_numbers birth p place at numbers is some) high x zone page =
      let one = k.in_use.volume.0.zones x.birth birth page.placed p (block x.index) place page.stands at (page.zone ∙ (zone ∙ sym is)) (λ none. page.some (sym page.zone ∙ none)) in
      block_is_none x.index (subst IsOfNumbers (sym one.1) numbers)
  no_page b (of_directory birth p d i at part is some) high x zone page =
      let one = k.in_use.volume.0.zones x.birth birth page.placed p (block x.index) (block i) page.stands at (page.zone ∙ (zone ∙ sym is)) (λ none. page.some (sym page.zone ∙ none)) in
      let same : page.placed ≡ p = same_Some page.placed p (sym page.stands ∙ (ap (at_number c.volume.contents.nodes) one.0 ∙ at)) in
      two_kinds d page.zones (sym part ∙ (sym (ap (λ (p : Placed). p.part) same) ∙ page.is_file))
    where
      two_kinds : (d : DirectoryPart) (zones : List Mapped) → parts.Directory d ≡ parts.File zones → ⊥
      two_kinds d zones e = cc

  of_zone : (b : ℕ) → IsMeta v.geometry c.volume.contents b → v.geometry.first ≤ b → (birth : ℕ) (p : Placed) → at_number v.contents.nodes birth ≡ Some p
      → (x : Place) → zone_in v.contents.blocks p.inode x ≡ b → b ≢ 0 → IsMetaNow v b
  of_zone b meta high birth p at indirect zone some = of_numbers birth p indirect at at_indirect zone some
  of_zone b meta high birth p at double zone some = of_numbers birth p double at at_double zone some
  of_zone b meta high birth p at (inner j) zone some = of_numbers birth p (inner j) at at_inner zone some
  of_zone b meta high birth p at (block i) zone some = by p.part refl
    where
      page : Page
      page = record { birth = birth; index = i; zone = b }

      none_goes : In page c.touched.dropped → ⊥
      none_goes j = in_none page (subst (In page) no_page_goes j)
        where
          in_none : (x : Page) → In x [] → ⊥
          in_none x j = j

      by : (part : Part) → p.part ≡ part → IsMetaNow v b
      by (parts.Directory d) is = of_directory birth p d i at is zone some
      by (parts.File zones) is =
          let had : HasPage v.contents page = record { placed = p; zones = zones; stands = at; is_file = is; zone = zone; some = some } in
          ⊎_elim (λ still. absurd (no_page b meta high page refl still)) (λ gone. absurd (none_goes gone)) (k.told.stays_or_dropped page had)

  meta_before : (b : ℕ) → IsMetaNow c.volume b → IsMetaNow v b
  meta_before b now =
      let meta : IsMeta v.geometry c.volume.contents b = subst (λ (g : Geometry). IsMeta g c.volume.contents b) k.geometry now in
      elim (cases_lt b v.geometry.first) [
        | inl low ↦ of_tables low
        | inr high ↦
            let used = (k.in_use.used b).1 (meta_has_zone v.geometry c.volume.contents b meta high) in
            let had = (h.used b).0 (ap (λ zones. state_of zones b) (sym zones_stay) ∙ used) in
            of_zone b meta high had.birth had.placed had.stands had.place had.zone_is had.some
      ]

-- ---- calls that revoke

module _ (tx : ℕ) (v : VolumeNow) (h : IsPlainNow v) (n : ℕ) (born : AreBornBefore n (tree_of_now v)) where
  module _ (path : List ℕ) (d : Done) (done : outcome (room_of v.geometry) (tree_of_now v) n (calls.Unlink path) ≡ Ok d) where
    abbrev place : NamePlace
    place = (unlinks.said tx v h n born path d done).place

    abbrev birth : ℕ
    birth = (unlinks.said tx v h n born path d done).found.birth

    stands : at_number (tree_of_now v) place.parent ≡ Some (nodes.Directory place.directory)
    stands = (unlinks.is_place tx v h n born path d done).stands

    gives : at_name place.directory.names place.name ≡ Some birth
    gives = unlinks.gives tx v h n born path d done

    abbrev less : Change
    less = name_goes tx v h place birth stands gives

    unlink_is : unlink v tx path ≡ followed_by less (λ w. lose_link w tx birth)
    unlink_is =
        let said = unlinks.said tx v h n born path d done in
        at_place_is v path said.names place replies.Invalid (λ place. at_path v path (λ birth. unlink_in v tx place.parent place.name birth)) said.named said.parent
        ∙ (at_path_is v path said.names said.found (λ birth. unlink_in v tx place.parent place.name birth) said.named said.walked
        ∙ ap (λ c. followed_by c (λ w. lose_link w tx birth)) (name_goes_is tx v h place birth stands gives))

    unlink_meta : Revokes (unlink v tx path) (IsMetaNow v)
    unlink_meta b i =
        let first = name_goes_step tx v h place birth stands gives in
        let j : In b (lose_link less.volume tx birth).touched.revoked = subst (λ (c : Change). In b c.touched.revoked) unlink_is i in
        meta_before tx v less (λ birth index. ⊥) h.in_use first.steady refl refl b (lose_meta less.volume first.steady.in_use.volume first.slotted tx birth b j)

  module _ (path : List ℕ) (d : Done) (done : outcome (room_of v.geometry) (tree_of_now v) n (calls.Rmdir path) ≡ Ok d) where
    abbrev above : NamePlace
    above = (rmdirs.said tx v h n born path d done).place

    abbrev child : ℕ
    child = (rmdirs.said tx v h n born path d done).found.birth

    above_stands : at_number (tree_of_now v) above.parent ≡ Some (nodes.Directory above.directory)
    above_stands = (rmdirs.is_place tx v h n born path d done).stands

    leads : at_name above.directory.names above.name ≡ Some child
    leads = rmdirs.gives tx v h n born path d done

    abbrev fewer : Change
    fewer = name_goes tx v h above child above_stands leads

    first : StepsTo tx v fewer (tree_take_name (tree_of_now v) above) (links_at v.contents.nodes)
    first = name_goes_step tx v h above child above_stands leads

    x : DirectoryAt fewer.volume above.parent (tree_without_name above.directory above.name)
    x = directory_at fewer.volume above.parent (tree_without_name above.directory above.name)
        (ap (λ tree. at_number tree above.parent) first.tree_is ∙ at_put_number (tree_of_now v) above.parent (nodes.Directory (tree_without_name above.directory above.name)))

    few : x.placed.inode.links - 1 ≤ 250
    few = let most = first.settled.few_links above.parent x.placed x.stands in omega arith

    abbrev unlinked : Change
    unlinked = linked tx fewer.volume first.steady.in_use above.parent x.placed x.stands (x.placed.inode.links - 1) few

    second : IsSteady tx fewer.volume unlinked (λ birth index. ⊥)
    second = linked_steady tx fewer.volume first.steady.in_use above.parent x.placed x.stands (x.placed.inode.links - 1) few

    rmdir_is : rmdir v tx path ≡ followed_by fewer (λ u. followed_by unlinked (λ w. drop_node w tx child))
    rmdir_is =
        let said = rmdirs.said tx v h n born path d done in
        at_place_is v path said.names above replies.Invalid (λ place. at_path v path (λ birth. rmdir_in v tx place.parent place.name birth)) said.named said.parent
        ∙ (at_path_is v path said.names said.found (λ birth. rmdir_in v tx above.parent above.name birth) said.named said.walked
        ∙ (ap (λ c. followed_by c (λ u. followed_by (set_links u above.parent (λ links. links - 1)) (λ w. drop_node w tx child))) (name_goes_is tx v h above child above_stands leads)
        ∙ ap (λ c. followed_by fewer (λ u. followed_by c (λ w. drop_node w tx child)))
        (set_links_is tx fewer.volume first.steady.in_use above.parent x.placed x.stands (x.placed.inode.links - 1) few (λ links. links - 1) refl)))

    rmdir_meta : Revokes (rmdir v tx path) (IsMetaNow v)
    rmdir_meta b i =
        let slotted = linked_slotted tx fewer.volume first.steady.in_use above.parent x.placed x.stands (x.placed.inode.links - 1) few first.slotted in
        let j : In b (drop_node unlinked.volume tx child).touched.revoked = subst (λ (c : Change). In b c.touched.revoked) rmdir_is i in
        meta_before tx v fewer (λ birth index. ⊥) h.in_use first.steady refl refl b
        (meta_before tx fewer.volume unlinked (λ birth index. ⊥) first.steady.in_use second refl refl b (drop_meta unlinked.volume second.in_use.volume slotted tx child b j))

  module _ (path other : List ℕ) (d : Done) (done : outcome (room_of v.geometry) (tree_of_now v) n (calls.Rename path other) ≡ Ok d) (enough : used_zones d.tree - used_zones (tree_of_now v) ≤ frees v.zones) where
    abbrev m : Move
    m = renames.m tx v h n born path other d done enough

    abbrev from : NamePlace
    from = renames.from tx v h n born path other d done enough

    abbrev to : NamePlace
    to = renames.to tx v h n born path other d done enough

    abbrev moved : ℕ
    moved = renames.birth tx v h n born path other d done enough

    abbrev by_target : Option Found → Change
    by_target o = elim o as (λ _. Change) [
      | Some t ↦ replace_in v tx from.parent from.name to.parent to.name moved t.birth
      | None ↦ if moves_directory m && changes_parent m then move_below v from.parent from.name to.parent to.name moved else move_in v from.parent from.name to.parent to.name moved
    ]

    free_none : RevokesNone (by_target None)
    free_none = if_none (moves_directory m && changes_parent m) _ _ (below_none v from.parent from.name to.parent to.name moved) (move_none v from.parent from.name to.parent to.name moved)

    module _ (not_same : stays m ≡ false) (t : Found) (f : File) (target : m.target ≡ Some t) (is : t.node ≡ nodes.File f) (led_to : at_name to.directory.names to.name ≡ Some t.birth) (apart : t.birth ≢ moved) (g : File)
        (file : (renames.r tx v h n born path other d done enough).found.node ≡ nodes.File g) where
      abbrev old_goes : Change
      old_goes = renames.less tx v h n born path other d done enough

      abbrev led : Change
      led = renames.led tx v h n born path other d done enough not_same t f target is led_to apart g file

      replaced_is : by_target (Some t) ≡ followed_by old_goes (λ u. followed_by led (λ w. lose_link w tx t.birth))
      replaced_is =
          let one = renames.first tx v h n born path other d done enough in
          let at = renames.m1 tx v h n born path other d done enough not_same t f target is led_to apart g file in
          let node = renames.moved1 tx v h n born path other d done enough not_same t f target is led_to apart g file in
          let found = renames.found1 tx v h n born path other d done enough not_same t f target is led_to apart g file in
          let sorted = renames.sorted1 tx v h n born path other d done enough not_same t f target is led_to apart g file in
          ap (λ c. followed_by c (λ u. followed_by (lead_name u to.parent to.name moved) (λ w. lose_link w tx t.birth)))
          (name_goes_is tx v h from moved (renames.from_stands tx v h n born path other d done enough) (renames.gives tx v h n born path other d done enough))
          ∙ ap (λ c. followed_by old_goes (λ u. followed_by c (λ w. lose_link w tx t.birth)))
          (lead_name_is tx old_goes.volume one.steady.in_use one.settled one.slotted to.parent at.placed at.stands at.part at.is to.name t.birth found sorted moved node.0 node.1
          (renames.entry tx v h n born path other d done enough old_goes.volume one.steady.in_use (renames.to_short tx v h n born path other d done enough) node.0 node.1))

      replaced_meta : Revokes (by_target (Some t)) (IsMetaNow v)
      replaced_meta b i =
          let one = renames.first tx v h n born path other d done enough in
          let two = renames.met2 tx v h n born path other d done enough not_same t f target is led_to apart g file in
          let j : In b (lose_link led.volume tx t.birth).touched.revoked = subst (λ (c : Change). In b c.touched.revoked) replaced_is i in
          meta_before tx v old_goes (λ birth index. ⊥) h.in_use one.steady refl refl b
          (meta_before tx old_goes.volume led (λ birth index. ⊥) one.steady.in_use two.steady refl refl b (lose_meta led.volume two.steady.in_use.volume two.slotted tx t.birth b j))

    moved_meta : stays m ≡ false → Revokes (by_target m.target) (IsMetaNow v)
    moved_meta not_same = by (met (tree_of_now v) (renames.plain tx v h n born path other d done enough) path other d (renames.r tx v h n born path other d done enough))
      where
        by : Met (tree_of_now v) (renames.plain tx v h n born path other d done enough) path other d (renames.r tx v h n born path other d done enough) → Revokes (by_target m.target) (IsMetaNow v)
        by (itself same) = absurd (true≢false (sym same ∙ not_same))
        by (none_met none unnamed) = subst (λ o. Revokes (by_target o) (IsMetaNow v)) (sym none) (nothing (by_target None) (IsMetaNow v) free_none)
        by (file_met t f target is led_to apart) =
            let w = renames.file_moves tx v h n born path other d done enough t f target is in
            subst (λ o. Revokes (by_target o) (IsMetaNow v)) (sym target) (replaced_meta not_same t f target is led_to apart w.0 w.1)

    rename_meta : Revokes (rename v tx path other) (IsMetaNow v)
    rename_meta = subst (λ c. Revokes c (IsMetaNow v)) (sym (renames.rename_by tx v h n born path other d done enough)) (by (stays m) refl)
      where
        by : (same : Bool) → stays m ≡ same → Revokes (if same then unchanged v else by_target m.target) (IsMetaNow v)
        by true e = nothing (unchanged v) (IsMetaNow v) refl
        by false e = moved_meta e

truncate_meta : (tx : ℕ) (v : VolumeNow) (path : List ℕ) (size : ℕ) → Revokes (truncate v tx path size) (IsMetaNow v)
truncate_meta tx v path size b = by (walk_path (tree_of_now v) path)
  where
    rest_none : (u : VolumeNow) (birth : ℕ) → RevokesNone (followed_by (clear_tail u birth size) (λ w. resize w birth (λ old. size)))
    rest_none u birth = none_then (clear_tail u birth size) (λ w. resize w birth (λ old. size)) (tail_none u birth size) (resize_none (clear_tail u birth size).volume birth (λ old. size))

    at : (birth : ℕ) → In b (truncate_at v tx birth size).touched.revoked → IsMetaNow v b
    at birth i =
        let first = cut_blocks v tx birth (div_ceil size 1024) in
        let rest = followed_by (clear_tail first.volume birth size) (λ w. resize w birth (λ old. size)) in
        ⊎_elim (cut_meta v tx birth (div_ceil size 1024) b) (nothing rest (IsMetaNow v) (rest_none first.volume birth) b) (In-append_cases first.touched.revoked rest.touched.revoked b i)

    by : (r : Result Found Reply) → In b (elim r as (λ _. Change) [ Err reply ↦ unchanged v | Ok found ↦ truncate_at v tx found.birth size ]).touched.revoked → IsMetaNow v b
    by (Err reply) i = absurd i
    by (Ok found) i = at found.birth i

-- ---- each call

done_meta : (tx : ℕ) (v : VolumeNow) (n : ℕ) (c : Call) → FindsRoom v n c → (d : Done) → outcome (room_of v.geometry) (tree_of_now v) n c ≡ Ok d → used_zones d.tree - used_zones (tree_of_now v) ≤ frees v.zones
    → Revokes (changed v n tx c) (IsMetaNow v)
unfolding changed
done_meta tx v n (calls.Mkdir path) room d done enough = nothing (mkdir v n path) (IsMetaNow v) (place_none v path (λ place. mkdir_in v n place.parent place.name) (λ place. mkdir_none v n place.parent place.name))
done_meta tx v n (calls.Create path) room d done enough = nothing (create v n path) (IsMetaNow v) (place_none v path (λ place. create_in v n place.parent place.name) (λ place. create_none v n place.parent place.name))
done_meta tx v n (calls.Rmdir path) room d done enough = rmdir_meta tx v room.plain n room.born path d done
done_meta tx v n (calls.Unlink path) room d done enough = unlink_meta tx v room.plain n room.born path d done
done_meta tx v n (calls.Link path other) room d done enough = nothing (link v path other) (IsMetaNow v)
    (path_none v path (λ birth. at_place v other (λ place. link_in v birth place.parent place.name)) (λ birth. place_none v other (λ place. link_in v birth place.parent place.name) (λ place. link_none v birth place.parent place.name)))
done_meta tx v n (calls.Rename path other) room d done enough = rename_meta tx v room.plain n room.born path other d done enough
done_meta tx v n (calls.Write path off len value) room d done enough = nothing (write v path off (replicate len value)) (IsMetaNow v) (path_none v path (λ birth. write_at v birth off (replicate len value)) (λ birth. writing_none v birth off (replicate len value)))
done_meta tx v n (calls.Bytes path off bytes) room d done enough = nothing (write v path off bytes) (IsMetaNow v) (path_none v path (λ birth. write_at v birth off bytes) (λ birth. writing_none v birth off bytes))
done_meta tx v n (calls.Truncate path size) room d done enough = truncate_meta tx v path size
done_meta tx v n (calls.Read path off len) room d done enough = nothing (unchanged v) (IsMetaNow v) refl
done_meta tx v n (calls.List path) room d done enough = nothing (unchanged v) (IsMetaNow v) refl
done_meta tx v n (calls.Stat path) room d done enough = nothing (unchanged v) (IsMetaNow v) refl
done_meta tx v n (calls.Fsync path) room d done enough = nothing (unchanged v) (IsMetaNow v) refl
done_meta tx v n (calls.Fdatasync path) room d done enough = nothing (unchanged v) (IsMetaNow v) refl
done_meta tx v n (calls.Fbarrier path) room d done enough = nothing (unchanged v) (IsMetaNow v) refl
done_meta tx v n (calls.Fdatabarrier path) room d done enough = nothing (unchanged v) (IsMetaNow v) refl
done_meta tx v n calls.Sync room d done enough = nothing (unchanged v) (IsMetaNow v) refl

pub revoked_were_meta : (v : VolumeNow) (n tx : ℕ) (c : Call) (b : ℕ) → FindsRoom v n c → In b (called v n tx c).change.touched.revoked → IsMeta v.geometry v.contents b
unfolding called
revoked_were_meta v n tx c b room = by (outcome (room_of v.geometry) (tree_of_now v) n c) refl b
  where
    by : (r : Row) → outcome (room_of v.geometry) (tree_of_now v) n c ≡ r → Revokes (called_by v n tx c r).change (IsMetaNow v)
    by (Err why) e = nothing (unchanged v) (IsMetaNow v) refl
    by (Ok d) e = done_meta tx v n c room d e (subst (λ k. k ≤ frees v.zones) (needs_are v n c d e) room.enough)
