-- Steps that keep a volume bare: an inode gets other fields, a slot is written, and blocks come and go.
use Rattle.std.specs.Prelude.{◌≡◌, ◌≢◌, ◌⊎◌, ◌+◌, ◌*◌, ◌/◌, ◌%◌, ◌^◌, ◌<◌, ◌≤◌, ◌==◌, ℕ, Bool, true, false, if◌then◌else◌, List, codes, length, Option, Some, None, IfSome, refl}
use Rattle.std.specs.List.{slice_get}
use Rattle.std.specs.List.Sorted.{IsStrictlySortedBy}
use Rattle.std.specs.Map.{keys_of}
use Rattle.std.proofs.Common.{sym, ap, subst, ◌∙◌, inl, inr, arith}
use Rattle.std.proofs.Math.Nat.{mul-le-mul_left}
use Rattle.std.proofs.lemmas.Bool.{cases_lt}
use Rattle.std.proofs.lemmas.List.{length-set}
use Rattle.blk_base.specs.laws.Members.{slice_get-length}
use Rattle.byte_fields.specs.Fields.{record_at}
use Rattle.minix_tables.specs.directories.Slots.{room}
use Rattle.minix_tables.specs.directories.laws.Slots.{room-within, with_slot-here, length-with_slot, length-with_slot_more, length-with_slot_most}
use Rattle.minix_layout.specs.declared.division.Geometry.{Geometry}
use Rattle.minix_layout.specs.declared.inode.Inode.{Inode}
use Rattle.minix_layout.specs.declared.slot.Slot.{Slot}
use Rattle.minix_layout.specs.Geometry.{IsSound}
use Rattle.minix_layout.specs.Inodes.{FitInode}
use Rattle.minix_layout.specs.Slots.{slot_of, IsEntry}
use Rattle.minix_layout.specs.Widths.{IsWidth, of_14, of_30, slot_size, slots_a_block}
use Rattle.minix_layout.specs.laws.Places.{form_is, place_low, same_slot}
use Rattle.tree_model.specs.Maps.{at_number, at_name, name_cmp}
use Rattle.tree_model.specs.laws.MapsLaws.{at_put_number}
use Rattle.volume_ops.specs.declared.found.Mapped.{Mapped}
use Rattle.volume_ops.specs.Volume.{disk_of}
use Rattle.volume_model.specs.declared.placed.DirectoryPart.{DirectoryPart}
use Rattle.volume_model.specs.declared.placed.Part.TheVariants as parts
use Rattle.volume_model.specs.declared.placed.Placed.{Placed}
use Rattle.volume_model.specs.Changes.{Changes}
use Rattle.volume_model.specs.Edits.{put_slot, put_body, edited}
use Rattle.volume_model.specs.Moves.{IsVolume, slot_put, with_size, with_name, inode_back, name_added}
use Rattle.volume_model.specs.Touched.{Contents}
use Rattle.volume_model.specs.Volume.{Place, block, indirect, double, inner, zone_in, HasSlot, IsPart, IsDirectoryPart}
use Rattle.volume_model.specs.laws.Back.{changes_back}
use Rattle.volume_model.specs.laws.Changes.{changes_slot, changes_then}
use Rattle.volume_model.specs.laws.Edits.{slot_elsewhere}
use Rattle.volume_model.specs.laws.MapBlock.{changes_wider, changes_zone}
use Rattle.volume_model.specs.laws.Written.{zone_kept}
use Rattle.volume_model.specs.laws.ZoneMoves.{no_numbers}
use Rattle.volume_model.specs.laws.Zones.{zones_kept}
use Rattle.volume_steps.specs.Now.{VolumeNow, Change, unchanged}
use Rattle.volume_steps.specs.Plain.{IsInUse}
use Rattle.volume_steps.specs.Steps.{with_links, inode_put, resize, tells_node, put_page, place_of}
use Rattle.volume_model.specs.Moves.{back_told}
use Rattle.volume_steps.proofs.NameSteps.{k as taken_place, w as taken_stands, taken}
use Rattle.volume_steps.proofs.QuietSteps.{at_node_is}
use Rattle.vol_check.proofs.KeptCleanLemmas.ChangedLemmas.BareFrames.{AreFreeFrom, IsBare, IsBareNow, free_stays, node_bare}

-- ---- an inode gets other fields

pub linked_zone : (blocks : List (List ℕ)) (i : Inode) (links : ℕ) (y : Place) → zone_in blocks (with_links i links) y ≡ zone_in blocks i y
linked_zone blocks i links (block index) = refl
linked_zone blocks i links indirect = refl
linked_zone blocks i links double = refl
linked_zone blocks i links (inner k) = refl

sized_zone : (blocks : List (List ℕ)) (i : Inode) (size : ℕ) (y : Place) → zone_in blocks (with_size i size) y ≡ zone_in blocks i y
sized_zone blocks i size (block index) = refl
sized_zone blocks i size indirect = refl
sized_zone blocks i size double = refl
sized_zone blocks i size (inner k) = refl

module _ (v : VolumeNow) (h : IsInUse v) (n : ℕ) (p : Placed) (at : at_number v.contents.nodes n ≡ Some p) (i : Inode) (fits : FitInode i)
    (same : (x : Place) → zone_in v.contents.blocks i x ≡ zone_in v.contents.blocks p.inode x) where
  abbrev g : Geometry
  g = v.geometry

  abbrev after : List (List ℕ)
  after = inode_back g v.contents.blocks p i

  changes : Changes g (λ j. j ≡ p.number) (λ _. ⊥) v.contents.blocks after
  changes = let told = h.volume.0.each n p at in changes_back g v.contents.blocks p i h.sound h.volume.0.whole h.volume.0.size told.some told.within fits

  own_bytes : (x : Place) → zone_in v.contents.blocks p.inode x ≢ 0 → disk_of after (zone_in v.contents.blocks p.inode x) ≡ disk_of v.contents.blocks (zone_in v.contents.blocks p.inode x)
  own_bytes x some = changes.zones _ ((h.volume.0.each n p at).zones x some).0 (λ z. z)

  zones : (x : Place) → zone_in after i x ≡ zone_in v.contents.blocks p.inode x
  zones x =
      zone_kept v.contents.blocks after i (λ x some. subst (λ z. disk_of after z ≡ disk_of v.contents.blocks z) (sym (same x)) (own_bytes x (λ none. some (same x ∙ none)))) x
      ∙ same x

  pub inode_bare : IsBare g v.contents → IsBare g (inode_put v n p i).contents
  inode_bare bare = node_bare g v.contents after n p (record { number = p.number; inode = i; part = p.part }) (λ _. ⊥) h.volume.0 at refl changes (λ a r x found far some z. z)
      (λ d is. free_stays g v.contents.blocks after p.inode i zones (λ index some. own_bytes (block index) some) (length d.slots) (bare.behind n p d at is)) bare

pub links_bare : (v : VolumeNow) (h : IsInUse v) (n : ℕ) (p : Placed) (at : at_number v.contents.nodes n ≡ Some p) (links : ℕ) → links ≤ 250 → IsBare v.geometry v.contents →
    IsBare v.geometry (inode_put v n p (with_links p.inode links)).contents
links_bare v h n p at links few =
    let f = (h.volume.0.each n p at).fits in
    inode_bare v h n p at (with_links p.inode links) (record { mode = f.mode; uid = f.uid; size = f.size; time = f.time; gid = f.gid; links = omega arith; nine = f.nine; zones = f.zones })
    (linked_zone v.contents.blocks p.inode links)

-- a size that fits, as it does where the volume is in use afterwards
pub resize_bare : (v : VolumeNow) (h : IsInUse v) (n : ℕ) (p : Placed) (at : at_number v.contents.nodes n ≡ Some p) (change : ℕ → ℕ) → IsInUse (resize v n change).volume → IsBare v.geometry v.contents →
    IsBareNow (resize v n change).volume
resize_bare v h n p at change live bare =
    subst (λ (c : Change). IsBareNow c.volume) (sym (at_node_is v n p by_size at))
    (by (change p.inode.size == p.inode.size) (subst (λ (c : Change). IsInUse c.volume) (at_node_is v n p by_size at) live))
  where
    by_size : Placed → Change
    by_size p = if change p.inode.size == p.inode.size then unchanged v
        else record { volume = inode_put v n p (with_size p.inode (change p.inode.size)); touched = tells_node n (back_told v.geometry p (with_size p.inode (change p.inode.size))) }

    put : Change
    put = record { volume = inode_put v n p (with_size p.inode (change p.inode.size)); touched = tells_node n (back_told v.geometry p (with_size p.inode (change p.inode.size))) }

    by : (b : Bool) → IsInUse (if b then unchanged v else put).volume → IsBareNow (if b then unchanged v else put).volume
    by true live = bare
    by false live = inode_bare v h n p at (with_size p.inode (change p.inode.size)) (live.volume.0.each n _ (at_put_number v.contents.nodes n _)).fits (sized_zone v.contents.blocks p.inode (change p.inode.size)) bare

-- ---- a slot is written

same_directory : (d e : DirectoryPart) → parts.Directory d ≡ parts.Directory e → d ≡ e
same_directory d e same = cc

same_block : (i j : ℕ) → block i ≡ block j → i ≡ j
same_block i j e = cc

module _ (g : Geometry) (sound : IsSound g) (v : Contents) (h : IsVolume g v) (n : ℕ) (p : Placed) (at : at_number v.nodes n ≡ Some p) (d : DirectoryPart) (is : p.part ≡ parts.Directory d)
    (k : ℕ) (o : Option Slot) (next : DirectoryPart) (mapped : zone_in v.blocks p.inode (block (k / slots_a_block g.width)) ≢ 0) (entry : IfSome o (λ e. IsEntry g.width e))
    (size : slot_size g.width * length next.slots < 2 ^ 32) (inside : k < length next.slots) (longer : length d.slots ≤ length next.slots) where
  abbrev z : ℕ
  z = zone_in v.blocks p.inode (block (k / slots_a_block g.width))

  abbrev mid : List (List ℕ)
  mid = edited g v.blocks (put_slot z (k % slots_a_block g.width) o)

  abbrev i : Inode
  i = with_size p.inode (slot_size g.width * length next.slots)

  abbrev last : List (List ℕ)
  last = inode_back g mid p i

  range : (g.first ≤ z) × (z < g.zones)
  range = (h.0.each n p at).zones (block (k / slots_a_block g.width)) mapped

  low : (j : ℕ) → j % slots_a_block g.width < slots_a_block g.width
  low j = place_low (slot_size g.width) (slots_a_block g.width) (form_is g.width) j

  within : z < length v.blocks
  within = let size = h.0.size in let high = range.1 in omega arith

  first : Changes g (λ _. ⊥) (λ b. b ≡ z) v.blocks mid
  first = changes_slot g v.blocks z (k % slots_a_block g.width) o sound h.0.whole h.0.size range.0 range.1 (low k) entry

  fits : FitInode i
  fits = let f = (h.0.each n p at).fits in record { mode = f.mode; uid = f.uid; size = size; time = f.time; gid = f.gid; links = f.links; nine = f.nine; zones = f.zones }

  second : Changes g (λ j. j ≡ p.number) (λ _. ⊥) mid last
  second = let told = h.0.each n p at in changes_back g mid p i sound first.whole (first.size ∙ h.0.size) told.some told.within fits

  both : Changes g (λ j. j ≡ p.number) (λ b. (b ≡ z) ⊎ ⊥) v.blocks last
  both = changes_wider g (λ j w. elim w [ inl w ↦ absurd w | inr e ↦ e ]) (λ b w. w) (changes_then g first second)

  apart : (a : ℕ) (r : Placed) (x : Place) → at_number v.nodes a ≡ Some r → a ≢ n → zone_in v.blocks r.inode x ≢ 0 → (zone_in v.blocks r.inode x ≡ z) ⊎ ⊥ → ⊥
  apart a r x found far some w = elim w [ inl e ↦ far (h.0.zones a n r p x (block (k / slots_a_block g.width)) found at e some).0 | inr w ↦ w ]

  -- no zone of numbers is the one that is written
  mid_zone : (x : Place) → zone_in mid p.inode x ≡ zone_in v.blocks p.inode x
  mid_zone = zones_kept v.blocks mid p.inode (λ x numbers some. first.zones (zone_in v.blocks p.inode x) ((h.0.each n p at).zones x some).0
      (λ same. no_numbers x (k / slots_a_block g.width) (h.0.zones n n p p x (block (k / slots_a_block g.width)) at at same some).1 numbers))

  sized_mid : (x : Place) → zone_in mid i x ≡ zone_in v.blocks p.inode x
  sized_mid x = sized_zone mid p.inode (slot_size g.width * length next.slots) x ∙ mid_zone x

  other_slot : (j : ℕ) → j ≢ k → HasSlot g v.blocks p.inode j None → HasSlot g mid i j None
  other_slot j far old = record {
    mapped = λ none. old.mapped (sym (sized_mid (block (j / slots_a_block g.width))) ∙ none);
    stands = ap (λ zone. slot_of g.width (record_at (slot_size g.width) (j % slots_a_block g.width) (disk_of mid zone))) (sized_mid (block (j / slots_a_block g.width)))
        ∙ (slot_elsewhere g sound.width v.blocks z (k % slots_a_block g.width) (zone_in v.blocks p.inode (block (j / slots_a_block g.width))) (j % slots_a_block g.width) o h.0.whole within (low k) (low j) entry other
        ∙ old.stands);
  }
    where
      other : zone_in v.blocks p.inode (block (j / slots_a_block g.width)) ≡ z → j % slots_a_block g.width ≡ k % slots_a_block g.width → ⊥
      other same place =
          let group : j / slots_a_block g.width ≡ k / slots_a_block g.width = same_block (j / slots_a_block g.width) (k / slots_a_block g.width) (h.0.zones n n p p (block (j / slots_a_block g.width)) (block (k / slots_a_block g.width)) at at same old.mapped).1 in
          far (same_slot (slot_size g.width) (slots_a_block g.width) (form_is g.width) j k group place)

  free_mid : AreFreeFrom g v.blocks p.inode (length d.slots) → AreFreeFrom g mid i (length next.slots)
  free_mid free j past some = other_slot j (λ e. (omega arith)) (free j (omega arith) (λ none. some (sized_mid (block (j / slots_a_block g.width)) ∙ none)))

  mid_bytes : (x : Place) → zone_in mid i x ≢ 0 → disk_of last (zone_in mid i x) ≡ disk_of mid (zone_in mid i x)
  mid_bytes x some = second.zones _ (subst (λ b. g.first ≤ b) (sym (sized_mid x)) ((h.0.each n p at).zones x (λ none. some (sized_mid x ∙ none))).0) (λ z. z)

  pub slot_bare : IsBare g v → IsBare g (slot_put g v n p k o next)
  slot_bare bare = node_bare g v last n p (record { number = p.number; inode = i; part = parts.Directory next }) (λ b. (b ≡ z) ⊎ ⊥) h.0 at refl both apart
      (λ e same. subst (λ (e : DirectoryPart). AreFreeFrom g last i (length e.slots)) (same_directory next e same)
      (free_stays g mid last i i (zone_kept mid last i mid_bytes) (λ index some. mid_bytes (block index) some) (length next.slots) (free_mid (bare.behind n p d at is)))) bare

-- one that is in use, where the directory keeps as many slots
pub set_bare : (v : VolumeNow) (h : IsInUse v) (n : ℕ) (p : Placed) (at : at_number v.contents.nodes n ≡ Some p) (d : DirectoryPart) (is : p.part ≡ parts.Directory d)
    (k : ℕ) (was : Slot) → slice_get d.slots k ≡ Some (Some was) → (o : Option Slot) → IfSome o (λ e. IsEntry v.geometry.width e) → (next : DirectoryPart) → length next.slots ≡ length d.slots →
    IsBare v.geometry v.contents → IsBare v.geometry (slot_put v.geometry v.contents n p k o next)
set_bare v h n p at d is k was there o entry next long =
    let told = h.volume.0.each n p at in
    let part : IsDirectoryPart v.geometry v.contents.blocks p.inode d = subst (IsPart v.geometry v.contents.blocks p.inode) is told.part in
    let low = slice_get-length d.slots k (Some was) there in
    slot_bare v.geometry h.sound v.contents h.volume n p at d is k o next (part.slots k (Some was) there).mapped entry
    (subst (λ k. slot_size v.geometry.width * k < 2 ^ 32) (sym long) (subst (λ size. size < 2 ^ 32) part.size told.fits.size)) (omega arith) (omega arith)

-- a slot `..` is one
pub dots_fit : (width number : ℕ) → IsWidth width → 0 < number → number < 2 ^ 16 → IsEntry width (record { inode = number; name = codes ".." })
dots_fit width number of_14 some fits = record { used = some; fits = fits; name = refl; short = omega arith; no_slash = refl }
dots_fit width number of_30 some fits = record { used = some; fits = fits; name = refl; short = omega arith; no_slash = refl }

-- a name goes
pub take_bare : (tx : ℕ) (v : VolumeNow) (h : IsInUse v) (n : ℕ) (p : Placed) (at : at_number v.contents.nodes n ≡ Some p) (d : DirectoryPart) (is : p.part ≡ parts.Directory d)
    (name : List ℕ) (birth : ℕ) (found : at_name d.names name ≡ Some birth) (sorted : IsStrictlySortedBy name_cmp (keys_of d.names)) → IsBare v.geometry v.contents →
    IsBare v.geometry (taken tx v h n p at d is name birth found sorted).volume.contents
take_bare tx v h n p at d is name birth found sorted =
    let w = taken_stands tx v h n p at d is name birth found sorted in
    set_bare v h n p at d is (taken_place tx v h n p at d is name birth found sorted) w.slot w.stands None tt _ (length-set d.slots (place_of name d.slots) None)

-- a name comes, in a block that the directory has
pub name_bare : (g : Geometry) (sound : IsSound g) (v : Contents) (h : IsVolume g v) (n : ℕ) (p : Placed) (at : at_number v.nodes n ≡ Some p) (d : DirectoryPart) (is : p.part ≡ parts.Directory d)
    (s : Slot) (birth : ℕ) → zone_in v.blocks p.inode (block (room d.slots / slots_a_block g.width)) ≢ 0 → IsEntry g.width s → slot_size g.width * (length d.slots + 1) < 2 ^ 32 →
    IsBare g v → IsBare g (name_added g v n p d s birth)
name_bare g sound v h n p at d is s birth mapped entry few =
    slot_bare g sound v h n p at d is (room d.slots) (Some s) (with_name d s birth) mapped entry
    (let most = mul-le-mul_left (slot_size g.width) (length-with_slot_most d.slots s) in omega arith)
    (slice_get-length (with_name d s birth).slots (room d.slots) (Some s) (with_slot-here d.slots (room d.slots) s (room-within d.slots)))
    (elim (cases_lt (room d.slots) (length d.slots)) [
      | inl low ↦ (let same = length-with_slot d.slots (room d.slots) s low in omega arith)
      | inr high ↦ (let all = room-within d.slots in let more = length-with_slot_more d.slots (room d.slots) s (omega arith) in omega arith)
    ])

-- ---- a page is written

module _ (v : VolumeNow) (h : IsInUse v) (n : ℕ) (p : Placed) (zones : List Mapped) (at : at_number v.contents.nodes n ≡ Some p) (is : p.part ≡ parts.File zones)
    (content : List ℕ) (size : length content ≡ 1024) (index : ℕ) (some : zone_in v.contents.blocks p.inode (block index) ≢ 0) where
  abbrev page : ℕ
  page = zone_in v.contents.blocks p.inode (block index)

  abbrev paged : List (List ℕ)
  paged = edited v.geometry v.contents.blocks (put_body page content)

  page_changes : Changes v.geometry (λ _. ⊥) (λ b. b ≡ page) v.contents.blocks paged
  page_changes = let range = (h.volume.0.each n p at).zones (block index) some in changes_zone v.geometry v.contents.blocks (put_body page content) h.sound h.volume.0.whole h.volume.0.size range.0 range.1 size

  -- a directory's zones are others
  directory_bytes : (a : ℕ) (r : Placed) (d : DirectoryPart) → at_number v.contents.nodes a ≡ Some r → r.part ≡ parts.Directory d → (x : Place) → zone_in v.contents.blocks r.inode x ≢ 0 →
      disk_of paged (zone_in v.contents.blocks r.inode x) ≡ disk_of v.contents.blocks (zone_in v.contents.blocks r.inode x)
  directory_bytes a r d found part x there = page_changes.zones _ ((h.volume.0.each a r found).zones x there).0 (λ e.
      let one = (h.volume.0.zones a n r p x (block index) found at e there).0 in
      no_file (sym part ∙ (ap (λ (p : Placed). p.part) (same_node (sym found ∙ (ap (at_number v.contents.nodes) one ∙ at))) ∙ is)))
    where
      no_file : parts.Directory d ≡ parts.File zones → ⊥
      no_file e = cc

      same_node : ◌≡◌ {A = Option Placed} (Some r) (Some p) → r ≡ p
      same_node e = cc

  pub page_bare : IsBare v.geometry v.contents → IsBare v.geometry (put_page v n index page content).volume.contents
  page_bare bare = record {
    unused = λ m some within none. page_changes.inodes m some within (λ z. z) ∙ bare.unused m some within none;
    behind = λ a r d found part. free_stays v.geometry v.contents.blocks paged r.inode r.inode (zone_kept v.contents.blocks paged r.inode (directory_bytes a r d found part))
        (λ index some. directory_bytes a r d found part (block index) some) (length d.slots) (bare.behind a r d found part);
  }
