-- Steps after which each node is there as before, of its kind and with its zones: what they tell, and what they keep.
use Rattle.std.specs.Prelude.{◌≡◌, ◌≢◌, ◌≤◌, ◌<◌, ℕ, ◌⊎◌, Bool, true, false, List, [], length, count_by, Some, refl}
use Rattle.std.proofs.Common.{sym, ap, subst, inl, inr, ⊎_elim, ◌∙◌, arith}
use Rattle.std.proofs.lemmas.Bool.{true≢false, false≢true}
use Rattle.blk_base.specs.Members.{In}
use Rattle.minix_layout.specs.declared.division.Geometry.{Geometry}
use Rattle.tree_model.specs.Maps.{at_number}
use Rattle.tree_model.specs.Calls.{used_zones}
use Rattle.volume_ops.specs.declared.found.Mapped.{Mapped}
use Rattle.volume_ops.specs.Volume.{disk_of}
use Rattle.minix_tables.specs.declared.zones.zone_state.ZoneState.TheVariants as states
use Rattle.minix_tables.specs.zones.Zones.{Zones, state_of, is_used}
use Rattle.volume_model.specs.declared.placed.Placed.{Placed}
use Rattle.volume_model.specs.declared.placed.Part.{Part}
use Rattle.volume_model.specs.declared.placed.Part.TheVariants as parts
use Rattle.volume_model.specs.declared.placed.DirectoryPart.{DirectoryPart}
use Rattle.volume_model.specs.Volume.{Place, block, zone_in, IsVolumeOf}
use Rattle.volume_model.specs.Moves.{IsVolume}
use Rattle.volume_model.specs.Touched.{Contents, Touched, Page, Tells, IsMeta, of_tables, of_numbers, of_directory, HasPage}
use Rattle.volume_model.specs.Plain.{HasZone}
use Rattle.volume_model.specs.laws.ZoneMoves.{no_numbers}
use Rattle.volume_steps.specs.Now.{VolumeNow, Change, tree_of_now}
use Rattle.volume_steps.specs.Plain.{IsInUse}
use Rattle.volume_steps.specs.laws.Steady.{IsSteady, TakesLowest, TellsNodes, KeepsMarks}
use Rattle.volume_steps.proofs.Taking.{lowest_none}

-- ---- kinds of nodes

abbrev pub is_directory_part : Part → Bool
is_directory_part (parts.Directory d) = true
is_directory_part (parts.File zones) = false

pub directory_of : (part : Part) → is_directory_part part ≡ true → (d : DirectoryPart) × (part ≡ parts.Directory d)
directory_of (parts.Directory d) h = (d, refl)
directory_of (parts.File zones) h = absurd (false≢true h)

pub file_of : (part : Part) → is_directory_part part ≡ false → (zones : List Mapped) × (part ≡ parts.File zones)
file_of (parts.Directory d) h = absurd (true≢false h)
file_of (parts.File zones) h = (zones, refl)

-- ---- how a step grows a volume

-- a node that was there is there, of the same kind and with the same zones
pub record StaysIn (v w : Contents) (a : ℕ) (p : Placed) : Type 0 where
  pub placed : Placed
  pub stands : at_number w.nodes a ≡ Some placed
  pub kind : is_directory_part placed.part ≡ is_directory_part p.part
  pub zones : (x : Place) → zone_in v.blocks p.inode x ≢ 0 → zone_in w.blocks placed.inode x ≡ zone_in v.blocks p.inode x

-- a place of a node had this zone before
pub record HadZone (v : Contents) (a : ℕ) (q : Placed) (x : Place) (zone : ℕ) : Type 0 where
  pub placed : Placed
  pub stands : at_number v.nodes a ≡ Some placed
  pub kind : is_directory_part placed.part ≡ is_directory_part q.part
  pub zone_is : zone_in v.blocks placed.inode x ≡ zone

-- no node goes or loses a zone; those that come are zones of directories
pub record GrowsTo (g : Geometry) (v w : Contents) (blocks new : List ℕ) : Type 0 where
  pub kept : (a : ℕ) (p : Placed) → at_number v.nodes a ≡ Some p → StaysIn v w a p
  pub had : (a : ℕ) (q : Placed) (x : Place) → at_number w.nodes a ≡ Some q → zone_in w.blocks q.inode x ≢ 0 →
      HadZone v a q x (zone_in w.blocks q.inode x) ⊎ (In (zone_in w.blocks q.inode x) new × (is_directory_part q.part ≡ true))
  pub bytes : (b : ℕ) → (In b blocks → ⊥) → disk_of w.blocks b ≡ disk_of v.blocks b
  pub meta : (b : ℕ) → In b blocks → IsMeta g w b × (2 ≤ b) × (b < g.zones)
  pub told : (zone : ℕ) → In zone new → In zone blocks
  pub mapped : (zone : ℕ) → In zone new → HasZone w zone

-- no page lies in metadata
pub meta_no_page : (g : Geometry) (w : Contents) (x : Page) → IsVolumeOf g w.blocks w.nodes → IsMeta g w x.zone → HasPage w x → ⊥
meta_no_page g w x h (of_tables low) page =
    let range = (h.each x.birth page.placed page.stands).zones (block x.index) (λ none. page.some (sym page.zone ∙ none)) in
    let high = range.0 in
    let is = page.zone in
    omega arith
meta_no_page g w x h (of_numbers a q y at numbers is some) page =
    no_numbers y x.index (h.zones a x.birth q page.placed y (block x.index) at page.stands (is ∙ sym page.zone) (λ none. some (sym is ∙ none))).1 numbers
meta_no_page g w x h (of_directory a q d i at part is some) page =
    let same = h.zones a x.birth q page.placed (block i) (block x.index) at page.stands (is ∙ sym page.zone) (λ none. some (sym is ∙ none)) in
    let one : Some q ≡ Some page.placed = sym at ∙ (ap (at_number w.nodes) same.0 ∙ page.stands) in
    cc (sym part ∙ (ap (λ (p : Placed). p.part) (let e : q ≡ page.placed = cc in e) ∙ page.is_file))

module _ (g : Geometry) (v w : Contents) (blocks new nodes : List ℕ) (h : GrowsTo g v w blocks new) (stands : IsVolumeOf g w.blocks w.nodes) where
  fresh : (b : ℕ) → IsMeta g w b → IsMeta g v b ⊎ In b blocks
  fresh b (of_tables low) = inl (of_tables low)
  fresh b (of_numbers a q x at numbers is some) = ⊎_elim
      (λ was. inl (of_numbers a was.placed x was.stands numbers (was.zone_is ∙ is) some))
      (λ came. inr (subst (λ z. In z blocks) is (h.told _ came.0)))
      (h.had a q x at (λ none. some (sym is ∙ none)))
  fresh b (of_directory a q d i at part is some) = ⊎_elim
      (λ was. let e = directory_of was.placed.part (was.kind ∙ ap is_directory_part part) in
      inl (of_directory a was.placed e.0 i was.stands e.1 (was.zone_is ∙ is) some))
      (λ came. inr (subst (λ z. In z blocks) is (h.told _ came.0)))
      (h.had a q (block i) at (λ none. some (sym is ∙ none)))

  pub stays : (b : ℕ) → IsMeta g v b → IsMeta g w b
  stays b (of_tables low) = of_tables low
  stays b (of_numbers a p x at numbers is some) =
      let k = h.kept a p at in
      of_numbers a k.placed x k.stands numbers (k.zones x (λ none. some (sym is ∙ none)) ∙ is) some
  stays b (of_directory a p d i at part is some) =
      let k = h.kept a p at in
      let e = directory_of k.placed.part (k.kind ∙ ap is_directory_part part) in
      of_directory a k.placed e.0 i k.stands e.1 (k.zones (block i) (λ none. some (sym is ∙ none)) ∙ is) some

  pub page_kept : (x : Page) → HasPage v x → HasPage w x
  page_kept x page =
      let k = h.kept x.birth page.placed page.stands in
      let e = file_of k.placed.part (k.kind ∙ ap is_directory_part page.is_file) in
      record { placed = k.placed; zones = e.0; stands = k.stands; is_file = e.1; zone = k.zones (block x.index) (λ none. page.some (sym page.zone ∙ none)) ∙ page.zone; some = page.some }

  page_was : (x : Page) → HasPage w x → HasPage v x
  page_was x page = ⊎_elim
      (λ was. let e = file_of was.placed.part (was.kind ∙ ap is_directory_part page.is_file) in
      record { placed = was.placed; zones = e.0; stands = was.stands; is_file = e.1; zone = was.zone_is ∙ page.zone; some = page.some })
      (λ came. absurd (true≢false (sym came.1 ∙ ap is_directory_part page.is_file)))
      (h.had x.birth page.placed (block x.index) page.stands (λ none. page.some (sym page.zone ∙ none)))

  abbrev pub grown_touched : Touched
  grown_touched = record { blocks = blocks; freed = []; revoked = []; pages = []; dropped = []; nodes = nodes }

  pub grown_tells : Tells g v w grown_touched (λ birth index. ⊥)
  grown_tells = record {
    fresh_are_touched = fresh;
    stays_or_revoked = λ b old. inl (stays b old);
    revoked_are_left = λ b i. absurd i;
    kept = λ b none old new_meta. h.bytes b none;
    touched_are_meta = λ b i. inr (h.meta b i);
    pages_are_written = λ x i. absurd i;
    was_or_written = λ x page. inl (page_was x page);
    written_are_pages = λ birth index i. absurd i;
    dropped_were_mapped = λ x i. absurd i;
    stays_or_dropped = λ x page. inl (page_kept x page);
    data_kept = λ x page was none. h.bytes x.zone (λ i. meta_no_page g w x stands (h.meta x.zone i).0 page);
  }

  pub zone_kept : (zone : ℕ) → HasZone v zone → HasZone w zone
  zone_kept zone z =
      let k = h.kept z.birth z.placed z.stands in
      record { birth = z.birth; placed = k.placed; place = z.place; stands = k.stands; zone_is = k.zones z.place (λ none. z.some (sym z.zone_is ∙ none)) ∙ z.zone_is; some = z.some }

  pub zone_was : (zone : ℕ) → HasZone w zone → HasZone v zone ⊎ In zone new
  zone_was zone z = ⊎_elim
      (λ was. inl (record { birth = z.birth; placed = was.placed; place = z.place; stands = was.stands; zone_is = was.zone_is ∙ z.zone_is; some = z.some }))
      (λ came. inr (subst (λ b. In b new) z.zone_is came.0))
      (h.had z.birth z.placed z.place z.stands (λ none. z.some (sym z.zone_is ∙ none)))

-- ---- zones that come into use

pub record TakesTo (m n : Zones) (new : List ℕ) : Type 0 where
  pub first : n.first ≡ m.first
  pub size : length n.states ≡ length m.states
  pub was : (zone : ℕ) → state_of n zone ≡ Some states.Used → (state_of m zone ≡ Some states.Used) ⊎ In zone new
  pub stays : (zone : ℕ) → state_of m zone ≡ Some states.Used → state_of n zone ≡ Some states.Used
  pub taken : (zone : ℕ) → In zone new → state_of n zone ≡ Some states.Used
  pub waits_on : (zone freed_by : ℕ) → state_of m zone ≡ Some (states.Quarantined freed_by) → state_of n zone ≡ Some (states.Quarantined freed_by)
  pub waited : (zone freed_by : ℕ) → state_of n zone ≡ Some (states.Quarantined freed_by) → state_of m zone ≡ Some (states.Quarantined freed_by)
  pub lowest : TakesLowest m n

pub takes_none : (m : Zones) → TakesTo m m []
takes_none m = record {
  first = refl;
  size = refl;
  was = λ zone used. inl used;
  stays = λ zone used. used;
  taken = λ zone i. absurd i;
  waits_on = λ zone freed_by waits. waits;
  waited = λ zone freed_by waits. waits;
  lowest = lowest_none m;
}

-- ---- the step

module _ (tx : ℕ) (v : VolumeNow) (w : Contents) (zones : Zones) (blocks new nodes : List ℕ) (in_use : IsInUse v) (stands : IsVolume v.geometry w)
    (h : GrowsTo v.geometry v.contents w blocks new) (takes : TakesTo v.zones zones new)
    (counted : count_by is_used zones.states ≡ used_zones (tree_of_now (record { geometry = v.geometry; contents = w; zones = zones })))
    (listed : TellsNodes v.geometry v.contents w (record { blocks = blocks; freed = []; revoked = []; pages = []; dropped = []; nodes = nodes })) (marked : KeepsMarks v.geometry v.contents w v.zones zones) where
  abbrev pub grown : Change
  grown = record { volume = record { geometry = v.geometry; contents = w; zones = zones }; touched = record { blocks = blocks; freed = []; revoked = []; pages = []; dropped = []; nodes = nodes } }

  grown_in_use : IsInUse grown.volume
  grown_in_use = record {
    sound = in_use.sound;
    volume = stands;
    first = takes.first ∙ in_use.first;
    size = takes.size ∙ in_use.size;
    used = λ zone. (
      λ used. ⊎_elim (λ was. zone_kept v.geometry v.contents w blocks new nodes h stands.0 zone ((in_use.used zone).0 was)) (λ came. h.mapped zone came) (takes.was zone used),
      λ has. ⊎_elim (λ had. takes.stays zone ((in_use.used zone).1 had)) (λ came. takes.taken zone came) (zone_was v.geometry v.contents w blocks new nodes h stands.0 zone has),
    );
    counted = counted;
  }

  pub grown_steady : IsSteady tx v grown (λ birth index. ⊥)
  grown_steady = record {
    geometry = refl;
    in_use = grown_in_use;
    told = grown_tells v.geometry v.contents w blocks new nodes h stands.0;
    nodes = listed;
    lowest = takes.lowest;
    marks = marked;
    freed = λ zone i. absurd i;
    was_used = λ zone i. absurd i;
    waits_on = takes.waits_on;
    waited = λ zone freed_by none waits. takes.waited zone freed_by waits;
  }
