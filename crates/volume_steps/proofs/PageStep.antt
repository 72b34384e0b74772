-- Bytes are put into a block of a file that has a zone, and steps that change nothing.
use Rattle.std.specs.Prelude.{◌≡◌, ◌≢◌, ℕ, ◌<◌, ◌≤◌, List, [], length, Some, refl}
use Rattle.std.proofs.Common.{sym, ap, subst, ◌∙◌, inl, inr, arith}
use Rattle.std.proofs.lemmas.Bool.{cases_eq}
use Rattle.std.proofs.lemmas.Option.{same_Some}
use Rattle.blk_base.specs.Members.{In}
use Rattle.minix_layout.specs.declared.division.Geometry.{Geometry}
use Rattle.tree_model.specs.declared.node.File.{File}
use Rattle.tree_model.specs.declared.node.Node.TheVariants as nodes
use Rattle.tree_model.specs.Maps.{at_number, put_number}
use Rattle.tree_model.specs.Calls.{used_zones, node_zones}
use Rattle.volume_ops.specs.declared.found.Mapped.{Mapped}
use Rattle.volume_ops.specs.Volume.{disk_of, bodies_of}
use Rattle.volume_model.specs.declared.placed.Placed.{Placed}
use Rattle.volume_model.specs.declared.placed.Part.TheVariants as parts
use Rattle.volume_model.specs.Changes.{Changes}
use Rattle.volume_model.specs.Edits.{put_body, edited}
use Rattle.volume_model.specs.Moves.{IsVolume}
use Rattle.volume_model.specs.Plain.{HasZone}
use Rattle.volume_model.specs.Touched.{Contents, Page, IsMeta, HasPage, Tells}
use Rattle.volume_model.specs.Touched.IsMeta.{of_tables, of_numbers, of_directory}
use Rattle.volume_model.specs.Trees.{node_now}
use Rattle.volume_model.specs.Volume.{Place, block, zone_in, IsPart, IsFilePart, IsStored}
use Rattle.volume_model.specs.laws.Changes.{changes_none}
use Rattle.volume_model.specs.laws.Edits.{edited_here, edited_elsewhere}
use Rattle.volume_model.specs.laws.MapBlock.{changes_zone}
use Rattle.volume_model.specs.laws.OnWay.{just_same}
use Rattle.volume_model.specs.laws.Written.{stored_kept}
use Rattle.volume_model.specs.laws.ZoneMoves.{no_numbers}
use Rattle.volume_model.specs.laws.Zones.{zones_kept}
use Rattle.volume_steps.specs.Now.{VolumeNow, Change, tree_of_now, unchanged}
use Rattle.volume_steps.specs.Plain.{IsInUse}
use Rattle.volume_steps.specs.Steps.{put_page}
use Rattle.volume_steps.proofs.Bits.{kept_tells, node_kept}
use Rattle.volume_steps.proofs.FileSteps.{IsFileStep}
use Rattle.volume_steps.proofs.Listed.{none_told}
use Rattle.volume_steps.proofs.Taking.{lowest_none}
use Rattle.volume_steps.proofs.Files.{bodies_put, node_is_file, node_zones_are, put_itself, tree_rewritten}
use Rattle.volume_steps.proofs.NodeSteps.{zones_settled}
use Rattle.volume_steps.proofs.TreeSteps.{tree_at, tree_in_order, used_put_same}
use Rattle.volume_steps.proofs.Marked.{SameMaps, marks_same, numbers_same}

-- ---- nothing changes

pub unchanged_step : (tx : ℕ) (v : VolumeNow) → IsInUse v → (n : ℕ) (f : File) → at_number (tree_of_now v) n ≡ Some (nodes.File f) → IsFileStep tx v n (unchanged v) f (λ birth index. ⊥)
unchanged_step tx v h n f found = record {
  steady = record {
    geometry = refl;
    in_use = h;
    told = kept_tells v.geometry v.contents h.volume v.contents.blocks (changes_none v.geometry v.contents.blocks h.volume.0.whole) h.sound [] (λ b none. refl) (λ b i. absurd i);
    nodes = none_told v.geometry v.contents v.contents (unchanged v).touched refl refl;
    lowest = lowest_none v.zones;
    marks = marks_same v.geometry h.sound v.contents v.contents v.zones h.volume.0.whole h.volume.0.size (λ b low high. refl) (numbers_same v.contents.nodes v.contents.nodes refl);
    freed = λ z i. absurd i;
    was_used = λ z i. absurd i;
    waits_on = λ z freed_by waits. waits;
    waited = λ z freed_by none waits. waits;
  };
  settled = λ old. old;
  slotted = λ old. old;
  tree = sym (put_itself (tree_of_now v) n (nodes.File f) (tree_in_order v.contents.blocks v.contents.nodes h.volume.0.in_order) found);
  waiting = (omega arith);
  directories = λ a r d found file. found;
  numbers = numbers_same v.contents.nodes v.contents.nodes refl;
}

-- ---- a page is written

module _ (tx : ℕ) (v : VolumeNow) (h : IsInUse v) (n : ℕ) (p : Placed) (zones : List Mapped) (at : at_number v.contents.nodes n ≡ Some p) (is : p.part ≡ parts.File zones)
    (content : List ℕ) (size : length content ≡ 1024) (index : ℕ) (some : zone_in v.contents.blocks p.inode (block index) ≢ 0) where
  abbrev g : Geometry
  g = v.geometry

  abbrev blocks : List (List ℕ)
  blocks = v.contents.blocks

  abbrev zone : ℕ
  zone = zone_in blocks p.inode (block index)

  abbrev after : List (List ℕ)
  after = edited g blocks (put_body zone content)

  abbrev w : Contents
  w = record { blocks = after; nodes = v.contents.nodes }

  range : (g.first ≤ zone) × (zone < g.zones)
  range = (h.volume.0.each n p at).zones (block index) some

  change : Changes g (λ _. ⊥) (λ b. b ≡ zone) blocks after
  change = changes_zone g blocks (put_body zone content) h.sound h.volume.0.whole h.volume.0.size range.0 range.1 size

  part : IsFilePart blocks p.inode zones
  part = subst (IsPart v.geometry blocks p.inode) is (h.volume.0.each n p at).part

  -- a zone of another place keeps its bytes
  elsewhere : (a : ℕ) (r : Placed) (x : Place) → at_number v.contents.nodes a ≡ Some r → zone_in blocks r.inode x ≢ 0 → ((a ≡ n) → (x ≡ block index) → ⊥) → disk_of after (zone_in blocks r.inode x) ≡ disk_of blocks (zone_in blocks r.inode x)
  elsewhere a r x found there apart =
      change.zones _ ((h.volume.0.each a r found).zones x there).0
      (λ e. (let one = h.volume.0.zones a n r p x (block index) found at e there in apart one.0 one.1))

  same_zone : (a : ℕ) (r : Placed) → at_number v.contents.nodes a ≡ Some r → (x : Place) → zone_in after r.inode x ≡ zone_in blocks r.inode x
  same_zone a r found = zones_kept blocks after r.inode (λ x m there. elsewhere a r x found there (λ e f. no_numbers x index f m))

  written_part : IsFilePart after p.inode zones
  written_part = record {
    kind = part.kind;
    listed = λ m i. (let told = part.listed m i in (same_zone n p at (block m.index) ∙ told.0, told.1));
    full = λ j there. subst (λ z. In (record { index = j; zone = z }) zones) (sym (same_zone n p at (block j))) (part.full j (λ none. there (same_zone n p at (block j) ∙ none)));
    rising = part.rising;
  }

  mine : IsStored g after p
  mine =
      let told = h.volume.0.each n p at in
      record {
        some = told.some;
        within = told.within;
        fits = told.fits;
        inode = change.inodes p.number told.some told.within (λ z. z) ∙ told.inode;
        zones = λ x there. subst (λ z. (g.first ≤ z) × (z < g.zones)) (sym (same_zone n p at x)) (told.zones x (λ none. there (same_zone n p at x ∙ none)));
        part = subst (IsPart v.geometry after p.inode) (sym is) written_part;
      }

  each : (a : ℕ) (r : Placed) → at_number v.contents.nodes a ≡ Some r → IsStored g after r
  each a r found = elim (cases_eq a n) [
    | inl e ↦ subst (IsStored g after) (same_Some p r (sym at ∙ subst (λ b. at_number v.contents.nodes b ≡ Some r) e found)) mine
    | inr apart ↦ (let told = h.volume.0.each a r found in stored_kept g blocks after r told (change.inodes r.number told.some told.within (λ z. z)) (λ x there. elsewhere a r x found there (λ e f. apart e)))
  ]

  stands : IsVolume g w
  stands = (
    record {
      whole = change.whole;
      size = change.size ∙ h.volume.0.size;
      in_order = h.volume.0.in_order;
      each = each;
      names = h.volume.0.names;
      numbers = h.volume.0.numbers;
      zones = λ a b r s x y found too same there. h.volume.0.zones a b r s x y found too (sym (same_zone a r found x) ∙ (same ∙ same_zone b s too y)) (λ none. there (same_zone a r found x ∙ none));
    },
    λ a r found. just_same (λ x. zone_in blocks r.inode x) (λ x. zone_in after r.inode x) (same_zone a r found) (h.volume.1 a r found),
  )

  has_after : (z : ℕ) → HasZone v.contents z → HasZone w z
  has_after z k = record { birth = k.birth; placed = k.placed; place = k.place; stands = k.stands; zone_is = same_zone k.birth k.placed k.stands k.place ∙ k.zone_is; some = k.some }

  has_before : (z : ℕ) → HasZone w z → HasZone v.contents z
  has_before z k = record { birth = k.birth; placed = k.placed; place = k.place; stands = k.stands; zone_is = sym (same_zone k.birth k.placed k.stands k.place) ∙ k.zone_is; some = k.some }

  -- ---- what is told

  abbrev page : Page
  page = record { birth = n; index = index; zone = zone }

  meta_after : (b : ℕ) → IsMeta g v.contents b → IsMeta g w b
  meta_after b (of_tables low) = of_tables low
  meta_after b (of_numbers a r x found m e there) = of_numbers a r x found m (same_zone a r found x ∙ e) there
  meta_after b (of_directory a r d i found file e there) = of_directory a r d i found file (same_zone a r found (block i) ∙ e) there

  meta_before : (b : ℕ) → IsMeta g w b → IsMeta g v.contents b
  meta_before b (of_tables low) = of_tables low
  meta_before b (of_numbers a r x found m e there) = of_numbers a r x found m (sym (same_zone a r found x) ∙ e) there
  meta_before b (of_directory a r d i found file e there) = of_directory a r d i found file (sym (same_zone a r found (block i)) ∙ e) there

  meta_apart : (b : ℕ) → IsMeta g v.contents b → b ≢ zone
  meta_apart b (of_tables low) e = (let low_zone = range.0 in omega arith)
  meta_apart b (of_numbers a r x found m e there) same = no_numbers x index (h.volume.0.zones a n r p x (block index) found at (e ∙ same) (λ none. there (sym e ∙ none))).1 m
  meta_apart b (of_directory a r d i found file e there) same =
      let one = h.volume.0.zones a n r p (block i) (block index) found at (e ∙ same) (λ none. there (sym e ∙ none)) in
      let node : r ≡ p = same_Some r p (sym (subst (λ b. at_number v.contents.nodes b ≡ Some r) one.0 found) ∙ at) in
      cc (sym file ∙ (ap (λ (r : Placed). r.part) node ∙ is))

  page_after : (x : Page) → HasPage v.contents x → HasPage w x
  page_after x k = record { placed = k.placed; zones = k.zones; stands = k.stands; is_file = k.is_file; zone = same_zone x.birth k.placed k.stands (block x.index) ∙ k.zone; some = k.some }

  page_before : (x : Page) → HasPage w x → HasPage v.contents x
  page_before x k = record { placed = k.placed; zones = k.zones; stands = k.stands; is_file = k.is_file; zone = sym (same_zone x.birth k.placed k.stands (block x.index)) ∙ k.zone; some = k.some }

  abbrev pub paged : Change
  paged = put_page v n index zone content

  abbrev pub IsPaged : ℕ → ℕ → Type 0
  IsPaged birth at = (birth ≡ n) × (at ≡ index)

  page_there : HasPage w page
  page_there = record { placed = p; zones = zones; stands = at; is_file = is; zone = same_zone n p at (block index); some = some }

  other_page : (x : Page) → HasPage v.contents x → (In x paged.touched.pages → ⊥) → disk_of after x.zone ≡ disk_of blocks x.zone
  other_page x k out =
      let there : zone_in blocks k.placed.inode (block x.index) ≢ 0 = λ none. k.some (sym k.zone ∙ none) in
      subst (λ z. disk_of after z ≡ disk_of blocks z) k.zone
      (change.zones _ ((h.volume.0.each x.birth k.placed k.stands).zones (block x.index) there).0
      (λ e.
      let one = h.volume.0.zones x.birth n k.placed p (block x.index) (block index) k.stands at e there in
      let place : x.index ≡ index = cc one.1 in
      out (inl (λ j. record { birth = sym one.0 j; index = sym place j; zone = (sym e ∙ k.zone) j }))))

  told : Tells g v.contents w paged.touched IsPaged
  told = record {
    fresh_are_touched = λ b new. inl (meta_before b new);
    stays_or_revoked = λ b old. inl (meta_after b old);
    revoked_are_left = λ b i. absurd i;
    kept = λ b none old new. edited_elsewhere g blocks (put_body zone content) b (meta_apart b old);
    touched_are_meta = λ b i. absurd i;
    pages_are_written = λ x i. elim i [
      | inl e ↦ (subst (HasPage w) e page_there, (sym (ap (λ (x : Page). x.birth) e), sym (ap (λ (x : Page). x.index) e)))
      | inr z ↦ absurd z
    ];
    was_or_written = λ x k. inl (page_before x k);
    written_are_pages = λ birth at e. (zone, inl (λ k. record { birth = sym e.0 k; index = sym e.1 k; zone = zone }));
    dropped_were_mapped = λ x i. absurd i;
    stays_or_dropped = λ x k. inl (page_after x k);
    data_kept = λ x new old out. other_page x old out;
  }

  -- ---- the tree

  abbrev pub page_file : File
  page_file = record { size = p.inode.size; links = p.inode.links; blocks = put_number (bodies_of blocks zones) index content }

  bytes_here : disk_of after zone ≡ content
  bytes_here = edited_here g blocks (put_body zone content) (let high = range.1 in let all = h.volume.0.size in omega arith)

  others_same : (a : ℕ) (r : Placed) → at_number v.contents.nodes a ≡ Some r → a ≢ n → node_now after r ≡ node_now blocks r
  others_same a r found apart = node_kept blocks after r (λ zs m file i.
      let told = (subst (IsPart v.geometry blocks r.inode) file (h.volume.0.each a r found).part).listed m i in
      subst (λ z. disk_of after z ≡ disk_of blocks z) told.0 (elsewhere a r (block m.index) found (λ none. told.1 (sym told.0 ∙ none)) (λ e f. apart e)))

  bodies : bodies_of after zones ≡ put_number (bodies_of blocks zones) index content
  bodies = bodies_put blocks after zones (record { index = index; zone = zone }) content part.rising (part.full index some) bytes_here (λ m i apart.
      let told = part.listed m i in
      subst (λ z. disk_of after z ≡ disk_of blocks z) told.0 (elsewhere n p (block m.index) at (λ none. told.1 (sym told.0 ∙ none)) (λ e f. apart (cc f))))

  node : node_now after p ≡ nodes.File page_file
  node = node_is_file after p zones is part.rising ∙ ap (λ (es : List (ℕ × List ℕ)). nodes.File (record { size = p.inode.size; links = p.inode.links; blocks = es })) bodies

  tree : tree_of_now paged.volume ≡ put_number (tree_of_now v) n (nodes.File page_file)
  tree = tree_rewritten blocks after v.contents.nodes n p h.volume.0.in_order at others_same ∙ ap (λ node. put_number (tree_of_now v) n node) node

  same_needs : node_zones (nodes.File page_file) ≡ node_zones (node_now blocks p)
  same_needs = ap node_zones (sym node) ∙ (node_zones_are after p zones is part.rising ∙ sym (node_zones_are blocks p zones is part.rising))

  in_use : IsInUse paged.volume
  in_use = record {
    sound = h.sound;
    volume = stands;
    first = h.first;
    size = h.size;
    used = λ z. ((λ used. has_after z ((h.used z).0 used)), (λ k. (h.used z).1 (has_before z k)));
    counted = h.counted ∙ sym (ap used_zones tree ∙ used_put_same (tree_of_now v) n (node_now blocks p) (nodes.File page_file) (tree_in_order blocks v.contents.nodes h.volume.0.in_order) (tree_at blocks v.contents.nodes n p at) same_needs);
  }

  maps_stay : SameMaps v.geometry blocks after
  maps_stay b low high =
      let from = range.0 in
      let tables = h.sound.tables_below in
      edited_elsewhere v.geometry blocks (put_body zone content) b (omega arith)

  -- The page has the bytes.
  pub page_step : IsFileStep tx v n paged page_file IsPaged
  page_step = record {
    steady = record {
      geometry = refl;
      in_use = in_use;
      told = told;
      nodes = none_told v.geometry v.contents paged.volume.contents paged.touched refl refl;
      lowest = lowest_none v.zones;
      marks = marks_same v.geometry h.sound v.contents paged.volume.contents v.zones h.volume.0.whole h.volume.0.size maps_stay (numbers_same v.contents.nodes v.contents.nodes refl);
      freed = λ z i. absurd i;
      was_used = λ z i. absurd i;
      waits_on = λ z freed_by waits. waits;
      waited = λ z freed_by none waits. waits;
    };
    settled = λ old. record { root_number = old.root_number; sizes = old.sizes; dots = old.dots; few_links = old.few_links };
    slotted = λ old a r d found file none. zones_settled v.geometry blocks after r.inode r.inode (length d.slots) (same_zone a r found) (old a r d found file none);
    tree = tree;
    waiting = (omega arith);
    directories = λ a r d found file. found;
    numbers = numbers_same v.contents.nodes v.contents.nodes refl;
  }
