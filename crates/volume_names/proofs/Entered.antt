-- A name that came into its directory in memory.
use Rattle.std.specs.Prelude.{◌≡◌, ◌<◌, ℕ, true, map, List, Option, Some, None, Result, Ok, Err, IfOk, OnErr, refl}
use Rattle.std.proofs.Common.{sym, ap, ◌∙◌, arith}
use Rattle.std.proofs.lemmas.Option.{same_Some}
use Rattle.std.proofs.lemmas.Map.Steps.{set_value_same}
use Rattle.std.specs.Ordering.{nat_cmp}
use Rattle.std.specs.BTreeMap.{is_at}
use Rattle.std.specs.Map.{set_value, remove_entry}
use Rattle.blk_base.specs.declared.memory.NoMemory.{NoMemory}
use Rattle.byte_fields.specs.Fields.{zeros}
use Rattle.minix_layout.specs.declared.slot.Slot.{Slot}
use Rattle.tree_model.specs.Maps.{at_number, put_number}
use Rattle.tree_model.specs.laws.MapsLaws.{at_put_number}
use Rattle.tree_model.specs.laws.MapOrder.{InOrder}
use Rattle.volume_model.specs.declared.placed.Placed.{Placed}
use Rattle.volume_model.specs.declared.placed.Part.TheVariants as parts
use Rattle.volume_model.specs.declared.placed.DirectoryPart.{DirectoryPart}
use Rattle.volume_model.specs.Moves.{opened, with_name}
use Rattle.volume_model.specs.MapBlock.{own_of, map_block}
use Rattle.volume_model.specs.laws.Trees.{set_is_put}
use Rattle.volume_steps.specs.Now.{VolumeNow, Change, unchanged, written}
use Rattle.volume_steps.specs.Zones.{zone_bit, take_zones}
use Rattle.volume_names.specs.declared.directories.NewSlot.{NewSlot}
use Rattle.volume_names.specs.code.NewSlot.{new_slot}
use Rattle.volume_names.specs.code.Steps.{entered, block_step, block_added}
use Rattle.volume_names.proofs.NameMaps.{number_undone}

pub same_directory : (d e : DirectoryPart) → parts.Directory d ≡ parts.Directory e → d ≡ e
same_directory d e h = cc

module _ (nodes later : List (ℕ × Placed)) (n : ℕ) (p : Placed) (d e : DirectoryPart) (at : at_number nodes n ≡ Some p) (is : p.part ≡ parts.Directory d)
    (set : later ≡ set_value (is_at (nat_cmp n)) nodes (record { number = p.number; inode = p.inode; part = parts.Directory e })) where
  pub entered_ok : (order : InOrder nodes) (r : Result NewSlot NoMemory) (slot : Slot) (birth : ℕ) → IfOk r (λ new. (new ≡ new_slot d slot) × (e ≡ with_name d slot birth)) →
      IfOk r (λ new. (q : Placed) (f : DirectoryPart) → at_number nodes n ≡ Some q → q.part ≡ parts.Directory f → later ≡ entered nodes n q f slot birth)
  entered_ok order (Err fault) slot birth h = h
  entered_ok order (Ok new) slot birth h = λ q f there also.
      let one : p ≡ q = same_Some p q (sym at ∙ there) in
      let two : d ≡ f = same_directory d f (sym is ∙ (ap (λ (p : Placed). p.part) one ∙ also)) in
      set
      ∙ (set_is_put nodes n (record { number = p.number; inode = p.inode; part = parts.Directory e }) p order at
      ∙ (ap (λ e. put_number nodes n (record { number = p.number; inode = p.inode; part = parts.Directory e })) h.1
      ∙ (ap (λ (q : Placed). entered nodes n q d slot birth) one ∙ ap (λ f. entered nodes n q f slot birth) two)))

  pub entered_err : (r : Result NewSlot NoMemory) → OnErr r (e ≡ d) → OnErr r (later ≡ nodes)
  entered_err (Ok new) h = h
  entered_err (Err fault) h =
      set
      ∙ (ap (λ part. set_value (is_at (nat_cmp n)) nodes (record { number = p.number; inode = p.inode; part = part })) (ap parts.Directory h ∙ sym is)
      ∙ set_value_same (is_at (nat_cmp n)) nodes p at)

-- a node that came and went again
pub gone_again : (nodes put kept after : List (ℕ × Placed)) (n : ℕ) (q : Placed) → at_number nodes n ≡ None → put ≡ put_number nodes n q → kept ≡ put → after ≡ remove_entry (is_at (nat_cmp n)) kept → after ≡ nodes
gone_again nodes put kept after n q none e f g = g ∙ (ap (remove_entry (is_at (nat_cmp n))) (f ∙ e) ∙ number_undone nodes n q none)

abbrev block_placed : VolumeNow → ℕ → ℕ → Placed → Placed
block_placed v n index p =
    let t = take_zones (own_of (opened v.contents p)) index v.zones in
    record {
      number = p.number;
      inode = (map_block v.geometry t.taken (zeros 1024) (opened (written v.geometry v.contents (map (zone_bit v.geometry true) t.numbers)) p) index).inode;
      part = p.part;
    }

-- a directory keeps its inode where it gets a block
pub number_stays : (v w : VolumeNow) (n index : ℕ) → ((p : Placed) → at_number v.contents.nodes n ≡ Some p → 0 < p.number) → w ≡ (block_added v n index).volume →
    (q : Placed) → at_number w.contents.nodes n ≡ Some q → 0 < q.number
number_stays v w n index some same q there =
    by (at_number v.contents.nodes n) refl (ap (λ (w : VolumeNow). at_number w.contents.nodes n) (sym same) ∙ there)
  where
    by : (o : Option Placed) → at_number v.contents.nodes n ≡ o → at_number (elim o as (λ _. Change) [ None ↦ unchanged v | Some p ↦ block_step v n index p ]).volume.contents.nodes n ≡ Some q → 0 < q.number
    by None e h = some q h
    by (Some r) e h =
        let one : (block_placed v n index r).number ≡ q.number = ap (λ (q : Placed). q.number) (same_Some (block_placed v n index r) q (sym (at_put_number v.contents.nodes n (block_placed v n index r)) ∙ h)) in
        let two = some r e in
        omega arith
