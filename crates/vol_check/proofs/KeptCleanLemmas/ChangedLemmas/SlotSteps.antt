-- A step that writes a slot which is in use, and keeps the number of slots.
use Rattle.std.specs.Prelude.{◌≡◌, ◌≢◌, ◌*◌, ◌/◌, ℕ, length, Option, Some, refl}
use Rattle.std.proofs.Common.{sym, ap, subst, ◌∙◌, inl, inr, ⊎_elim}
use Rattle.blk_base.specs.Members.{In}
use Rattle.minix_layout.specs.declared.slot.Slot.{Slot}
use Rattle.minix_layout.specs.Widths.{slot_size, slots_a_block}
use Rattle.tree_model.specs.Maps.{at_number}
use Rattle.tree_model.specs.laws.MapsLaws.{at_put_number, at_put_number_apart}
use Rattle.volume_model.specs.declared.placed.DirectoryPart.{DirectoryPart}
use Rattle.volume_model.specs.declared.placed.Part.TheVariants as parts
use Rattle.volume_model.specs.declared.placed.Placed.{Placed}
use Rattle.volume_model.specs.Moves.{slot_put, with_size}
use Rattle.volume_model.specs.Touched.{IsMeta}
use Rattle.volume_model.specs.Touched.IsMeta.{of_numbers}
use Rattle.volume_model.specs.Volume.{Place, block, zone_in, IsDirectoryPart, IsPart}
use Rattle.volume_model.specs.laws.Zones.{zones_kept}
use Rattle.volume_model.specs.laws.ZoneMoves.{no_numbers}
use Rattle.volume_steps.specs.Now.{VolumeNow, Change, with_contents}
use Rattle.volume_steps.specs.Plain.{IsInUse}
use Rattle.volume_steps.specs.Steps.{tells_node, slot_told}
use Rattle.volume_steps.specs.laws.Steady.{IsSteady}
use Rattle.minix_tables.specs.declared.zones.zone_state.ZoneState.TheVariants as states
use Rattle.minix_tables.specs.zones.Zones.{state_of}
use Rattle.vol_check.proofs.KeptCleanLemmas.ChangedLemmas.Ends.{told_differs}
use Rattle.vol_check.proofs.KeptCleanLemmas.ChangedLemmas.Rising.{own, Rises}
use Rattle.vol_check.proofs.KeptCleanLemmas.ChangedLemmas.SlotBlocks.{slot_zone}

-- where each zone stays as it is
pub rises_same : (v w : VolumeNow) (p q : Placed) → q.number ≡ p.number → ((y : Place) → own w q y ≡ own v p y) →
    ((z : ℕ) → state_of w.zones z ≡ Some states.Free → state_of v.zones z ≡ Some states.Free) → ((z : ℕ) → state_of v.zones z ≡ Some states.Used → state_of w.zones z ≡ Some states.Used) → Rises v w p q
rises_same v w p q number same free used = record {
  number = number;
  kept = λ y some. same y;
  taken = λ y none some. absurd (some (same y ∙ none));
  free = free;
  used = used;
}

-- What is had of such a step: no node loses or gets a zone, no inode changes, and one block is told.
pub record IsSlotSet (v : VolumeNow) (n : ℕ) (p : Placed) (k : ℕ) (next : DirectoryPart) (c : Change) : Type 0 where
  pub placed : Placed
  pub stands : at_number c.volume.contents.nodes n ≡ Some placed
  pub part : placed.part ≡ parts.Directory next
  pub number : placed.number ≡ p.number
  pub inode : placed.inode ≡ p.inode
  pub geometry : c.volume.geometry ≡ v.geometry
  pub states_same : c.volume.zones ≡ v.zones
  pub others : (a : ℕ) → a ≢ n → at_number c.volume.contents.nodes a ≡ at_number v.contents.nodes a
  pub zones : (a : ℕ) (r : Placed) → at_number v.contents.nodes a ≡ Some r → (y : Place) → own c.volume r y ≡ own v r y
  pub told : (b : ℕ) → In b c.touched.blocks → b ≡ slot_zone v p k

module _ (tx : ℕ) (v : VolumeNow) (h : IsInUse v) (n : ℕ) (p : Placed) (at : at_number v.contents.nodes n ≡ Some p) (d : DirectoryPart) (is : p.part ≡ parts.Directory d)
    (k : ℕ) (o : Option Slot) (next : DirectoryPart) (long : length next.slots ≡ length d.slots)
    (steady : IsSteady tx v (record { volume = with_contents v (slot_put v.geometry v.contents n p k o next); touched = tells_node n (slot_told v p k next) }) (λ birth index. ⊥)) where
  abbrev change : Change
  change = record { volume = with_contents v (slot_put v.geometry v.contents n p k o next); touched = tells_node n (slot_told v p k next) }

  abbrev size : ℕ
  size = slot_size v.geometry.width * length next.slots

  same_inode : with_size p.inode size ≡ p.inode
  same_inode = by (ap (λ slots. slot_size v.geometry.width * slots) long ∙ sym part.size)
    where
      part : IsDirectoryPart v.geometry v.contents.blocks p.inode d
      part = subst (IsPart v.geometry v.contents.blocks p.inode) is (h.volume.0.each n p at).part

      by : size ≡ p.inode.size → with_size p.inode size ≡ p.inode
      by e = λ i. record { mode = p.inode.mode; uid = p.inode.uid; size = e i; time = p.inode.time; gid = p.inode.gid; links = p.inode.links; zones = p.inode.zones }

  one_told : (b : ℕ) → In b change.touched.blocks → b ≡ slot_zone v p k
  one_told b (inl e) = sym e
  one_told b (inr j) = absurd (told_differs v.geometry p _ b j same_inode)

  same_zones : (a : ℕ) (r : Placed) → at_number v.contents.nodes a ≡ Some r → (y : Place) → own change.volume r y ≡ own v r y
  same_zones a r found = zones_kept v.contents.blocks change.volume.contents.blocks r.inode (λ x numbers there.
      let b = zone_in v.contents.blocks r.inode x in
      let meta : IsMeta v.geometry v.contents b = of_numbers a r x found numbers refl there in
      steady.told.kept b (λ i. no_numbers x (k / slots_a_block v.geometry.width) (h.volume.0.zones a n r p x (block (k / slots_a_block v.geometry.width)) found at (one_told b i) there).1 numbers) meta
      (⊎_elim (λ still. still) (λ gone. absurd gone) (steady.told.stays_or_revoked b meta)))

  pub slot_set : IsSlotSet v n p k next change
  slot_set = record {
    placed = record { number = p.number; inode = with_size p.inode size; part = parts.Directory next };
    stands = at_put_number v.contents.nodes n _;
    part = refl;
    number = refl;
    inode = same_inode;
    geometry = refl;
    states_same = refl;
    others = λ a apart. at_put_number_apart v.contents.nodes n _ a apart;
    zones = same_zones;
    told = one_told;
  }
