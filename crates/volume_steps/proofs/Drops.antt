-- A node without a name goes, and its zones wait for the transaction: what this keeps and tells.
use Rattle.std.specs.Prelude.{◌≡◌, ◌≢◌, ◌≤◌, ◌<◌, ℕ, ◌⊎◌, Bool, true, false, List, [], ◌∷◌, ◌++◌, length, Some, refl}
use Rattle.std.proofs.Common.{sym, ap, subst, inl, inr, ⊎_elim, ◌∙◌, arith}
use Rattle.std.proofs.lemmas.Bool.{cases_eq, false≢true}
use Rattle.std.proofs.lemmas.Option.{same_Some, none-some}
use Rattle.blk_base.specs.Members.{In}
use Rattle.blk_base.specs.laws.Members.{In-append_left, In-append_right, In-append_cases}
use Rattle.minix_layout.specs.declared.division.Geometry.{Geometry}
use Rattle.minix_layout.specs.Inodes.{zero_inode}
use Rattle.tree_model.specs.Maps.{at_number, at_name, without_number}
use Rattle.tree_model.specs.laws.MapOrder.{at_without_here, at_without_apart}
use Rattle.tree_model.specs.Calls.{node_zones, used_zones}
use Rattle.volume_ops.specs.Places.{table_block}
use Rattle.volume_ops.specs.Volume.{disk_of}
use Rattle.minix_tables.specs.declared.zones.zone_state.ZoneState.TheVariants as states
use Rattle.minix_tables.specs.zones.Zones.{state_of}
use Rattle.volume_model.specs.declared.placed.Placed.{Placed}
use Rattle.volume_model.specs.declared.placed.Part.TheVariants as parts
use Rattle.volume_model.specs.declared.placed.DirectoryPart.{DirectoryPart}
use Rattle.volume_model.specs.Edits.{Edit, put_inode, edited, touched_by_all}
use Rattle.volume_model.specs.laws.Edits.{edited_elsewhere, untouched}
use Rattle.volume_model.specs.laws.Changes.{changes_then, changes_bit, table_below}
use Rattle.volume_model.specs.laws.MapBlock.{changes_wider}
use Rattle.volume_model.specs.laws.Written.{zone_kept}
use Rattle.volume_model.specs.laws.Removed.{removed_stands}
use Rattle.volume_model.specs.Volume.{Place, block, zone_in, IsOfNumbers, IsPart}
use Rattle.volume_model.specs.Moves.{IsVolume, node_removed}
use Rattle.volume_model.specs.Touched.{Contents, Touched, Page, Tells, IsMeta, of_tables, of_numbers, of_directory, HasPage}
use Rattle.volume_model.specs.Trees.{node_now}
use Rattle.volume_steps.specs.Now.{VolumeNow, Change, tree_of_now, written}
use Rattle.volume_steps.specs.Zones.{inode_bit, all_given}
use Rattle.volume_steps.specs.Plain.{IsInUse}
use Rattle.volume_steps.specs.Steps.{drop_edits}
use Rattle.volume_steps.specs.laws.Steady.{IsSteady, KeepsMarks}
use Rattle.volume_steps.proofs.Together.{used_waits}
use Rattle.volume_steps.proofs.Bits.{ChangesNone, AreZones, bits_change, bits_before, kept_zone, kept_volume}
use Rattle.volume_steps.proofs.Taking.{frees, AreApart, AreGiven, all_are_given, in_zones, given_lowest}
use Rattle.volume_steps.proofs.Listed.{gone_told}
use Rattle.volume_steps.proofs.Grows.{is_directory_part, file_of}
use Rattle.volume_steps.proofs.NodeSteps.{IsSettled, AreSlotted, zones_settled}
use Rattle.volume_steps.proofs.StepsTo.{StepsTo, links_at}
use Rattle.volume_steps.proofs.TreeSteps.{KeepsPages, tree_without, tree_at, used_without_one}
use Rattle.volume_steps.proofs.Marked.{marks_then, marks_inode, marks_given, numbers_same, number_goes, numbers_stay}

-- What is asked of the lists: all zones of the node, each once; those of metadata; and the pages of a file.
pub record IsGone (own : Place → ℕ) (n : ℕ) (directory : Bool) (gone revoked : List ℕ) (dropped : List Page) : Type 0 where
  pub all : (x : Place) → own x ≢ 0 → In (own x) gone
  pub has : (z : ℕ) → In z gone → (x : Place) × (own x ≢ 0) × (own x ≡ z)
  pub once : AreApart gone
  pub meta : (x : Place) → own x ≢ 0 → IsOfNumbers x ⊎ (directory ≡ true) → In (own x) revoked
  pub meta_has : (z : ℕ) → In z revoked → (x : Place) × (own x ≢ 0) × (own x ≡ z)
  pub pages : (y : Page) → In y dropped → (y.birth ≡ n) × (own (block y.index) ≡ y.zone) × (y.zone ≢ 0) × (directory ≡ false)
  pub pages_all : directory ≡ false → (index : ℕ) → own (block index) ≢ 0 → In (record { birth = n; index = index; zone = own (block index) }) dropped

module _ (tx : ℕ) (v : VolumeNow) (in_use : IsInUse v) (n : ℕ) (p : Placed) (at : at_number v.contents.nodes n ≡ Some p) (gone revoked : List ℕ) (dropped : List Page)
    (lists : IsGone (λ x. zone_in v.contents.blocks p.inode x) n (is_directory_part p.part) gone revoked dropped)
    (counted : length gone ≡ node_zones (node_now v.contents.blocks p))
    (unnamed : (a : ℕ) (q : Placed) (d : DirectoryPart) (name : List ℕ) → at_number v.contents.nodes a ≡ Some q → q.part ≡ parts.Directory d → at_name d.names name ≢ Some n) where
  abbrev g : Geometry
  g = v.geometry

  abbrev own : Place → ℕ
  own x = zone_in v.contents.blocks p.inode x

  abbrev es : List Edit
  es = drop_edits g p gone

  abbrev c : Contents
  c = written g v.contents es

  abbrev w : Contents
  w = node_removed g c n p

  gone_zones : AreZones g gone
  gone_zones z i = let x = lists.has z i in subst (λ z. (g.first ≤ z) × (z < g.zones)) x.2 ((in_use.volume.0.each n p at).zones x.0 x.1)

  none : ChangesNone g v.contents.blocks c.blocks
  none =
      let told = in_use.volume.0.each n p at in
      let within = told.within in
      let room = in_use.sound.inode_bits in
      let one = changes_bit g v.contents.blocks 2 p.number false in_use.sound in_use.volume.0.whole in_use.volume.0.size (omega arith) in
      let rest = bits_change g in_use.sound _ gone (edited g v.contents.blocks (inode_bit p.number false)) one.whole (one.size ∙ in_use.volume.0.size) gone_zones in
      changes_wider g (λ j i. elim i [ inl z ↦ z | inr z ↦ z ]) (λ b i. elim i [ inl z ↦ z | inr z ↦ z ]) (changes_then g one rest)

  volume : IsVolume g c
  volume = kept_volume g v.contents in_use.volume c.blocks none

  stands : IsVolume g w
  stands = removed_stands g in_use.sound c n p volume at unnamed

  -- ---- the nodes that are left

  left : (b : ℕ) (r : Placed) → at_number w.nodes b ≡ Some r → (b ≢ n) × (at_number v.contents.nodes b ≡ Some r)
  left b r found = elim (cases_eq b n) [
    | inl e ↦ absurd (none-some r (sym (at_without_here v.contents.nodes n in_use.volume.0.in_order) ∙ subst (λ b. at_number w.nodes b ≡ Some r) e found))
    | inr far ↦ (far, sym (at_without_apart v.contents.nodes n b in_use.volume.0.in_order far) ∙ found)
  ]

  there : (b : ℕ) (r : Placed) → b ≢ n → at_number v.contents.nodes b ≡ Some r → at_number w.nodes b ≡ Some r
  there b r far found = at_without_apart v.contents.nodes n b in_use.volume.0.in_order far ∙ found

  one : (b : ℕ) (r : Placed) → b ≡ n → at_number v.contents.nodes b ≡ Some r → p ≡ r
  one b r e found = same_Some p r (sym at ∙ subst (λ b. at_number v.contents.nodes b ≡ Some r) e found)

  table_low : (2 ≤ table_block g p.number) × (table_block g p.number < g.first)
  table_low = let told = in_use.volume.0.each n p at in let t = table_below g p.number in_use.sound told.some told.within in let low = t.0 in let high = t.1 in ((omega arith), (omega arith))

  zones_same : (b : ℕ) (r : Placed) → at_number v.contents.nodes b ≡ Some r → (x : Place) → zone_in w.blocks r.inode x ≡ zone_in v.contents.blocks r.inode x
  zones_same b r found x =
      zone_kept c.blocks w.blocks r.inode (λ x some. edited_elsewhere g c.blocks (put_inode p.number zero_inode) _
      (let low = ((volume.0.each b r found).zones x some).0 in let table = table_low in let high = table.1 in omega arith)) x
      ∙ kept_zone g v.contents in_use.volume c.blocks none b r found x

  abbrev blocks : List ℕ
  blocks = touched_by_all g es ++ table_block g p.number ∷ []

  blocks_low : (b : ℕ) → In b blocks → (2 ≤ b) × (b < g.first)
  blocks_low b i = ⊎_elim
      (λ j. elim j [
        | inl e ↦
            let told = in_use.volume.0.each n p at in
            let within = told.within in
            let room = in_use.sound.inode_bits in
            let tables = in_use.sound.tables_below in
            ((omega arith), (omega arith))
        | inr k ↦ bits_before g in_use.sound _ gone gone_zones b k
      ])
      (λ j. elim j [ inl e ↦ (let t = table_low in let low = t.0 in let high = t.1 in ((omega arith), (omega arith))) | inr z ↦ absurd z ])
      (In-append_cases (touched_by_all g es) (table_block g p.number ∷ []) b i)

  bytes : (b : ℕ) → (In b blocks → ⊥) → disk_of w.blocks b ≡ disk_of v.contents.blocks b
  bytes b out = edited_elsewhere g c.blocks (put_inode p.number zero_inode) b (λ e. out (In-append_right (touched_by_all g es) (table_block g p.number ∷ []) b (inl (sym e))))
      ∙ untouched g es v.contents.blocks b (λ i. out (In-append_left (touched_by_all g es) (table_block g p.number ∷ []) b i))

  high_bytes : (b : ℕ) → g.first ≤ b → disk_of w.blocks b ≡ disk_of v.contents.blocks b
  high_bytes b high = bytes b (λ i. let range = blocks_low b i in let low = range.1 in omega arith)

  not_theirs : (a : ℕ) (r : Placed) (x y : Place) → at_number w.nodes a ≡ Some r → own x ≢ 0 → own x ≡ zone_in w.blocks r.inode y → ⊥
  not_theirs a r x y found some same =
      let was = left a r found in
      was.0 (sym (in_use.volume.0.zones n a p r x y at was.1 (same ∙ zones_same a r was.1 y) some).0)

  -- ---- what is told

  page_was : (y : Page) → HasPage w y → HasPage v.contents y
  page_was y page =
      let was = left y.birth page.placed page.stands in
      record { placed = page.placed; zones = page.zones; stands = was.1; is_file = page.is_file; zone = sym (zones_same y.birth page.placed was.1 (block y.index)) ∙ page.zone; some = page.some }

  meta_was : (b : ℕ) → IsMeta g w b → IsMeta g v.contents b
  meta_was b (of_tables low) = of_tables low
  meta_was b (of_numbers a r x found numbers is some) = (let was = left a r found in of_numbers a r x was.1 numbers (sym (zones_same a r was.1 x) ∙ is) some)
  meta_was b (of_directory a r d i found part is some) = (let was = left a r found in of_directory a r d i was.1 part (sym (zones_same a r was.1 (block i)) ∙ is) some)

  meta_stays : (b : ℕ) → IsMeta g v.contents b → IsMeta g w b ⊎ In b revoked
  meta_stays b (of_tables low) = inl (of_tables low)
  meta_stays b (of_numbers a r x found numbers is some) = elim (cases_eq a n) [
    | inr far ↦ inl (of_numbers a r x (there a r far found) numbers (zones_same a r found x ∙ is) some)
    | inl e ↦
        let zone : own x ≡ b = ap (λ (r : Placed). zone_in v.contents.blocks r.inode x) (one a r e found) ∙ is in
        inr (subst (λ b. In b revoked) zone (lists.meta x (λ no_zone. some (sym zone ∙ no_zone)) (inl numbers)))
  ]
  meta_stays b (of_directory a r d i found part is some) = elim (cases_eq a n) [
    | inr far ↦ inl (of_directory a r d i (there a r far found) part (zones_same a r found (block i) ∙ is) some)
    | inl e ↦
        let zone : own (block i) ≡ b = ap (λ (r : Placed). zone_in v.contents.blocks r.inode (block i)) (one a r e found) ∙ is in
        let kind : is_directory_part p.part ≡ true = ap (λ (r : Placed). is_directory_part r.part) (one a r e found) ∙ ap is_directory_part part in
        inr (subst (λ b. In b revoked) zone (lists.meta (block i) (λ no_zone. some (sym zone ∙ no_zone)) (inr kind)))
  ]

  no_meta : (x : Place) → own x ≢ 0 → IsMeta g w (own x) → ⊥
  no_meta x some m = by (own x) refl m
    where
      by : (b : ℕ) → own x ≡ b → IsMeta g w b → ⊥
      by b e (of_tables low) = let range = (in_use.volume.0.each n p at).zones x some in let high = range.0 in let same : zone_in v.contents.blocks p.inode x ≡ b = e in omega arith
      by b e (of_numbers a r y found numbers is some_too) = not_theirs a r x y found some (e ∙ sym is)
      by b e (of_directory a r d i found part is some_too) = not_theirs a r x (block i) found some (e ∙ sym is)

  abbrev touched : Touched
  touched = record { blocks = blocks; freed = gone; revoked = revoked; pages = []; dropped = dropped; nodes = n ∷ [] }

  told : Tells g v.contents w touched (λ birth index. ⊥)
  told = record {
    fresh_are_touched = λ b m. inl (meta_was b m);
    stays_or_revoked = meta_stays;
    revoked_are_left = λ b i.
        let x = lists.meta_has b i in
        (subst (λ b. In b gone) x.2 (lists.all x.0 x.1), (λ m. no_meta x.0 x.1 (subst (IsMeta g w) (sym x.2) m)), subst (λ b. g.first ≤ b) x.2 ((in_use.volume.0.each n p at).zones x.0 x.1).0);
    kept = λ b out old new. bytes b out;
    touched_are_meta = λ b i. inr (let range = blocks_low b i in let low = range.1 in let some = in_use.sound.some_zone in (of_tables low, range.0, (omega arith)));
    pages_are_written = λ y i. absurd i;
    was_or_written = λ y page. inl (page_was y page);
    written_are_pages = λ birth index z. absurd z;
    dropped_were_mapped = λ y i.
        let x = lists.pages y i in
        let file = file_of p.part x.3 in (
          record { placed = p; zones = file.0; stands = ap (at_number v.contents.nodes) x.0 ∙ at; is_file = file.1; zone = x.1; some = x.2 },
          subst (λ z. In z gone) x.1 (lists.all (block y.index) (λ no_zone. x.2 (sym x.1 ∙ no_zone))),
          λ zone page. (left y.birth page.placed page.stands).0 x.0,
        );
    stays_or_dropped = λ y page. elim (cases_eq y.birth n) [
      | inr far ↦ inl (record { placed = page.placed; zones = page.zones; stands = there y.birth page.placed far page.stands; is_file = page.is_file; zone = zones_same y.birth page.placed page.stands (block y.index) ∙ page.zone; some = page.some })
      | inl e ↦
          let same = one y.birth page.placed e page.stands in
          let zone : own (block y.index) ≡ y.zone = ap (λ (r : Placed). zone_in v.contents.blocks r.inode (block y.index)) same ∙ page.zone in
          let kind : is_directory_part p.part ≡ false = ap (λ (r : Placed). is_directory_part r.part) same ∙ ap is_directory_part page.is_file in
          inr (subst (λ (y : Page). In y dropped) (λ k. record { birth = sym e k; index = y.index; zone = zone k }) (lists.pages_all kind y.index (λ no_zone. page.some (sym zone ∙ no_zone))))
    ];
    data_kept = λ y page was out. high_bytes y.zone (subst (λ z. g.first ≤ z) was.zone ((in_use.volume.0.each y.birth was.placed was.stands).zones (block y.index) (λ no_zone. was.some (sym was.zone ∙ no_zone))).0);
  }

  -- ---- zones

  gone_used : (z : ℕ) → In z gone → state_of v.zones z ≡ Some states.Used
  gone_used z i = let x = lists.has z i in (in_use.used z).1 (record { birth = n; placed = p; place = x.0; stands = at; zone_is = x.2; some = λ no_zone. x.1 (x.2 ∙ no_zone) })

  given : AreGiven tx v.zones (all_given tx gone v.zones) gone
  given = all_are_given tx gone v.zones lists.once gone_used

  pages_kept : KeepsPages v.contents.blocks w.blocks v.contents.nodes
  pages_kept a r zones found is m i =
      let part = subst (IsPart v.geometry v.contents.blocks r.inode) is (in_use.volume.0.each a r found).part in
      let x = part.listed m i in
      high_bytes m.zone (subst (λ z. g.first ≤ z) x.0 ((in_use.volume.0.each a r found).zones (block m.index) (λ no_zone. x.1 (sym x.0 ∙ no_zone))).0)

  -- the volume without the node
  abbrev pub dropped_change : Change
  dropped_change = record { volume = record { geometry = g; contents = w; zones = all_given tx gone v.zones }; touched = touched }

  pub dropped_tree : tree_of_now dropped_change.volume ≡ without_number (tree_of_now v) n
  dropped_tree = tree_without v.contents.blocks w.blocks v.contents.nodes in_use.volume.0.in_order pages_kept n

  pub dropped_frees : frees dropped_change.volume.zones ≡ frees v.zones
  dropped_frees = given.same

  dropped_in_use : IsInUse dropped_change.volume
  dropped_in_use = record {
    sound = in_use.sound;
    volume = stands;
    first = given.first ∙ in_use.first;
    size = given.size ∙ in_use.size;
    used = λ z. (
      λ used. ⊎_elim (λ i. absurd (used_waits tx (sym used ∙ given.now z i)))
          (λ out. let has = (in_use.used z).0 (sym (given.others z out) ∙ used) in elim (cases_eq has.birth n) [
            | inr far ↦ record { birth = has.birth; placed = has.placed; place = has.place; stands = there has.birth has.placed far has.stands; zone_is = zones_same has.birth has.placed has.stands has.place ∙ has.zone_is; some = has.some }
            | inl e ↦
                let zone : own has.place ≡ z = ap (λ (r : Placed). zone_in v.contents.blocks r.inode has.place) (one has.birth has.placed e has.stands) ∙ has.zone_is in
                absurd (out (subst (λ z. In z gone) zone (lists.all has.place (λ no_zone. has.some (sym zone ∙ no_zone)))))
          ])
          (in_zones z gone),
      λ has.
          let was = left has.birth has.placed has.stands in
          given.others z (λ i. let x = lists.has z i in not_theirs has.birth has.placed x.0 has.place has.stands x.1 (x.2 ∙ sym has.zone_is))
          ∙ (in_use.used z).1 (record { birth = has.birth; placed = has.placed; place = has.place; stands = was.1; zone_is = sym (zones_same has.birth has.placed was.1 has.place) ∙ has.zone_is; some = has.some }),
    );
    counted =
        let less = given.fewer in
        let was = in_use.counted in
        let long = counted in
        let tree = ap used_zones dropped_tree in
        let all = used_without_one (tree_of_now v) n (node_now v.contents.blocks p) (tree_at v.contents.blocks v.contents.nodes n p at) in
        omega arith;
  }

  -- the inode's bit goes first, and then those of the zones
  abbrev unused : Contents
  unused = record { blocks = edited g v.contents.blocks (inode_bit p.number false); nodes = w.nodes }

  dropped_marks : KeepsMarks g v.contents w v.zones (all_given tx gone v.zones)
  dropped_marks =
      let old = in_use.volume.0.each n p at in
      let within = old.within in
      let room = in_use.sound.inode_bits in
      let one = changes_bit g v.contents.blocks 2 p.number false in_use.sound in_use.volume.0.whole in_use.volume.0.size (omega arith) in
      marks_then g v.contents unused w v.zones v.zones (all_given tx gone v.zones)
      (marks_inode g in_use.sound v.contents unused v.zones p.number false in_use.volume.0.whole in_use.volume.0.size old.some old.within (λ b low high. refl)
      ((λ t. absurd (false≢true t)), (λ has. absurd (number_goes v.contents.nodes n p in_use.volume.0.in_order at in_use.volume.0.numbers has)))
      (λ alike. number_goes v.contents.nodes n p in_use.volume.0.in_order at in_use.volume.0.numbers (alike.1 (record { birth = n; placed = p; stands = at; is = refl })))
      (numbers_stay v.contents.nodes n p in_use.volume.0.in_order at in_use.volume.0.numbers))
      (marks_given tx g in_use.sound unused w v.zones (all_given tx gone v.zones) gone one.whole (one.size ∙ in_use.volume.0.size) gone_zones given gone_used
      (λ b low high. edited_elsewhere g c.blocks (put_inode p.number zero_inode) b (λ e. (let far = (table_below g p.number in_use.sound old.some old.within).0 in omega arith)))
      (numbers_same w.nodes w.nodes refl))
      (inr (numbers_same w.nodes w.nodes refl)) (λ zone low high first second. first ((λ u. u), (λ u. u)))

  dropped_steady : IsSteady tx v dropped_change (λ birth index. ⊥)
  dropped_steady = record {
    geometry = refl;
    in_use = dropped_in_use;
    told = told;
    nodes = gone_told g v.contents w touched n refl in_use.volume.0.in_order refl;
    lowest = given_lowest tx v.zones (all_given tx gone v.zones) gone given gone_used;
    marks = dropped_marks;
    freed = given.now;
    was_used = gone_used;
    waits_on = λ z freed_by waits. given.others z (λ i. used_waits freed_by (sym (gone_used z i) ∙ waits)) ∙ waits;
    waited = λ z freed_by out waits. sym (given.others z out) ∙ waits;
  }

  -- It goes, where no other directory has it as its parent.
  pub drops : IsSettled v.contents → AreSlotted v.geometry (λ a. ⊥) v.contents →
      ((a : ℕ) (r : Placed) (d : DirectoryPart) → a ≢ n → at_number v.contents.nodes a ≡ Some r → r.part ≡ parts.Directory d → d.parent ≢ n) →
      StepsTo tx v dropped_change (without_number (tree_of_now v) n) (links_at w.nodes)
  drops settled slotted no_child = record {
    steady = dropped_steady;
    tree_is = dropped_tree;
    settled = record {
      root_number = λ r found. settled.root_number r (left 0 r found).1;
      sizes = λ a r zones found is. settled.sizes a r zones (left a r found).1 is;
      dots = λ a r d found is.
          let was = left a r found in
          let x = settled.dots a r d was.1 is in
          (x.0, there d.parent x.0 (no_child a r d was.0 was.1 is) x.1, x.2);
      few_links = λ a r found. settled.few_links a r (left a r found).1;
    };
    slotted = λ a r d found is out. (let was = left a r found in zones_settled v.geometry v.contents.blocks w.blocks r.inode r.inode (length d.slots) (zones_same a r was.1) (slotted a r d was.1 is (λ z. z)));
    links_are = λ a. refl;
    waiting = given.more;
  }
