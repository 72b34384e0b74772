-- Writes before the first zone that leave the inodes: nodes, their zones and the tree stay, and the writes are told.
use Rattle.std.specs.Prelude.{◌≡◌, ◌≢◌, ℕ, ◌+◌, ◌-◌, ◌<◌, ◌≤◌, Bool, List, [], ◌∷◌, length, map, Some, refl}
use Rattle.std.proofs.Common.{sym, ap, subst, ◌∙◌, inl, inr, arith}
use Rattle.blk_base.specs.Members.{In}
use Rattle.minix_layout.specs.declared.division.Geometry.{Geometry}
use Rattle.minix_layout.specs.Geometry.{IsSound}
use Rattle.tree_model.specs.Maps.{at_number}
use Rattle.tree_model.specs.declared.node.Node.{Node}
use Rattle.tree_model.specs.declared.node.Node.TheVariants as nodes
use Rattle.volume_ops.specs.declared.found.Mapped.{Mapped}
use Rattle.volume_ops.specs.Volume.{disk_of, bodies_of}
use Rattle.volume_model.specs.declared.placed.Placed.{Placed}
use Rattle.volume_model.specs.declared.placed.Part.{Part}
use Rattle.volume_model.specs.declared.placed.Part.TheVariants as parts
use Rattle.volume_model.specs.Changes.{Changes}
use Rattle.volume_model.specs.Edits.{edited, edited_all, touched_by_all}
use Rattle.volume_model.specs.Volume.{Place, block, zone_in, IsWhole, IsPart}
use Rattle.volume_model.specs.Touched.{Contents, Page, IsMeta, HasPage, Tells}
use Rattle.volume_model.specs.Touched.IsMeta.{of_tables, of_numbers, of_directory}
use Rattle.volume_model.specs.Moves.{IsVolume}
use Rattle.volume_model.specs.Trees.{in_order, node_from, node_now, tree_now}
use Rattle.volume_model.specs.laws.Changes.{changes_then, changes_none, changes_bit}
use Rattle.volume_model.specs.laws.Edits.{untouched}
use Rattle.volume_model.specs.laws.MapBlock.{changes_wider}
use Rattle.volume_model.specs.laws.OnWay.{just_same}
use Rattle.volume_model.specs.laws.Trees.{seen_same, In-at}
use Rattle.volume_model.specs.laws.Written.{stored_kept, zone_kept}
use Rattle.volume_steps.specs.Now.{written, tells_blocks}
use Rattle.volume_steps.specs.Zones.{zone_bit}

-- ---- bits of zones

-- no inode changes, and no zone
abbrev pub ChangesNone : Geometry → List (List ℕ) → List (List ℕ) → Type 0
ChangesNone g blocks after = Changes g (λ _. ⊥) (λ _. ⊥) blocks after

abbrev pub AreZones : Geometry → List ℕ → Type 0
AreZones g zones = (z : ℕ) → In z zones → (g.first ≤ z) × (z < g.zones)

pub bits_change : (g : Geometry) → IsSound g → (value : Bool) (zones : List ℕ) (blocks : List (List ℕ)) → IsWhole blocks → length blocks ≡ g.zones → AreZones g zones →
    ChangesNone g blocks (edited_all g blocks (map (zone_bit g value) zones))
bits_change g sound value [] blocks whole size within = changes_none g blocks whole
bits_change g sound value (z ∷ zones) blocks whole size within =
    let range = within z (inl refl) in
    let low = range.0 in
    let high = range.1 in
    let bits = sound.zone_bits in
    let one = changes_bit g blocks (2 + g.imap) (z - g.first + 1) value sound whole size (omega arith) in
    let rest = bits_change g sound value zones (edited g blocks (zone_bit g value z)) one.whole (one.size ∙ size) (λ z i. within z (inr i)) in
    changes_wider g (λ j i. elim i [ inl n ↦ n | inr n ↦ n ]) (λ b i. elim i [ inl n ↦ n | inr n ↦ n ]) (changes_then g one rest)

-- the blocks of bits lie before the first zone
pub bits_before : (g : Geometry) → IsSound g → (value : Bool) (zones : List ℕ) → AreZones g zones → (b : ℕ) → In b (touched_by_all g (map (zone_bit g value) zones)) → (2 ≤ b) × (b < g.first)
bits_before g sound value [] within b i = absurd i
bits_before g sound value (z ∷ zones) within b (inl e) =
    let range = within z (inl refl) in
    let low = range.0 in
    let high = range.1 in
    let bits = sound.zone_bits in
    let below = sound.tables_below in
    (omega arith, omega arith)
bits_before g sound value (z ∷ zones) within b (inr i) = bits_before g sound value zones (λ z j. within z (inr j)) b i

-- ---- what stays

-- a node stands for the same where the zones of its blocks keep their bytes
pub node_kept : (blocks after : List (List ℕ)) (p : Placed) → ((zones : List Mapped) (m : Mapped) → p.part ≡ parts.File zones → In m zones → disk_of after m.zone ≡ disk_of blocks m.zone) → node_now after p ≡ node_now blocks p
node_kept blocks after p same = by p.part same
  where
    bodies : (zones : List Mapped) → ((m : Mapped) → In m zones → disk_of after m.zone ≡ disk_of blocks m.zone) → bodies_of after zones ≡ bodies_of blocks zones
    bodies [] same = refl
    bodies (m ∷ zones) same = ap (λ body. (m.index, body) ∷ bodies_of after zones) (same m (inl refl)) ∙ ap (λ (es : List (ℕ × List ℕ)). (m.index, disk_of blocks m.zone) ∷ es) (bodies zones (λ m i. same m (inr i)))

    by : (part : Part) → ((zones : List Mapped) (m : Mapped) → part ≡ parts.File zones → In m zones → disk_of after m.zone ≡ disk_of blocks m.zone) → node_from after p.inode part ≡ node_from blocks p.inode part
    by (parts.Directory d) same = refl
    by (parts.File zones) same = ap (λ (es : List (ℕ × List ℕ)). node_of_file es) (bodies zones (λ m i. same zones m refl i))
      where
        node_of_file : List (ℕ × List ℕ) → Node
        node_of_file es = nodes.File (record { size = p.inode.size; links = p.inode.links; blocks = in_order es })

module _ (g : Geometry) (c : Contents) (h : IsVolume g c) (after : List (List ℕ)) (change : ChangesNone g c.blocks after) where
  abbrev pub kept : Contents
  kept = record { blocks = after; nodes = c.nodes }

  zone_bytes : (b : ℕ) (r : Placed) → at_number c.nodes b ≡ Some r → (x : Place) → zone_in c.blocks r.inode x ≢ 0 → disk_of after (zone_in c.blocks r.inode x) ≡ disk_of c.blocks (zone_in c.blocks r.inode x)
  zone_bytes b r at x some = change.zones _ ((h.0.each b r at).zones x some).0 (λ n. n)

  pub kept_zone : (b : ℕ) (r : Placed) → at_number c.nodes b ≡ Some r → (x : Place) → zone_in after r.inode x ≡ zone_in c.blocks r.inode x
  kept_zone b r at = zone_kept c.blocks after r.inode (zone_bytes b r at)

  pub kept_volume : IsVolume g kept
  kept_volume = (
    record {
      whole = change.whole;
      size = change.size ∙ h.0.size;
      in_order = h.0.in_order;
      each = λ b r at. (let told = h.0.each b r at in stored_kept g c.blocks after r told (change.inodes r.number told.some told.within (λ n. n)) (zone_bytes b r at));
      names = h.0.names;
      numbers = h.0.numbers;
      zones = λ a b p q x y at bt same some. h.0.zones a b p q x y at bt (sym (kept_zone a p at x) ∙ (same ∙ kept_zone b q bt y)) (λ none. some (kept_zone a p at x ∙ none));
    },
    λ b r at. just_same (λ x. zone_in c.blocks r.inode x) (λ x. zone_in after r.inode x) (kept_zone b r at) (h.1 b r at),
  )

  -- a page's zone is a zone of data, so it keeps its bytes
  pub kept_node : (b : ℕ) (r : Placed) → at_number c.nodes b ≡ Some r → node_now after r ≡ node_now c.blocks r
  kept_node b r at = node_kept c.blocks after r (λ zones m is i.
      let part = subst (IsPart g c.blocks r.inode) is (h.0.each b r at).part in
      let told = part.listed m i in
      subst (λ z. disk_of after z ≡ disk_of c.blocks z) told.0 (zone_bytes b r at (block m.index) (λ none. told.1 (sym told.0 ∙ none))))

  pub kept_tree : tree_now after c.nodes ≡ tree_now c.blocks c.nodes
  unfolding tree_now
  kept_tree = seen_same (node_now after) (node_now c.blocks) c.nodes (λ e i. kept_node e.0 e.1 (In-at c.nodes e.0 e.1 h.0.in_order i))

  meta_there : (b : ℕ) → IsMeta g c b → IsMeta g kept b
  meta_there b (of_tables low) = of_tables low
  meta_there b (of_numbers a r x at m e some) = of_numbers a r x at m (kept_zone a r at x ∙ e) some
  meta_there b (of_directory a r d i at part e some) = of_directory a r d i at part (kept_zone a r at (block i) ∙ e) some

  meta_back : (b : ℕ) → IsMeta g kept b → IsMeta g c b
  meta_back b (of_tables low) = of_tables low
  meta_back b (of_numbers a r x at m e some) = of_numbers a r x at m (sym (kept_zone a r at x) ∙ e) some
  meta_back b (of_directory a r d i at part e some) = of_directory a r d i at part (sym (kept_zone a r at (block i)) ∙ e) some

  page_there : (x : Page) → HasPage c x → HasPage kept x
  page_there x p = record { placed = p.placed; zones = p.zones; stands = p.stands; is_file = p.is_file; zone = kept_zone x.birth p.placed p.stands (block x.index) ∙ p.zone; some = p.some }

  page_back : (x : Page) → HasPage kept x → HasPage c x
  page_back x p = record { placed = p.placed; zones = p.zones; stands = p.stands; is_file = p.is_file; zone = sym (kept_zone x.birth p.placed p.stands (block x.index)) ∙ p.zone; some = p.some }

  -- Writes before the first zone are told by their blocks.
  pub kept_tells : IsSound g → (ts : List ℕ) → ((b : ℕ) → (In b ts → ⊥) → disk_of after b ≡ disk_of c.blocks b) → ((b : ℕ) → In b ts → (2 ≤ b) × (b < g.first)) →
      Tells g c kept (tells_blocks ts) (λ birth index. ⊥)
  kept_tells sound ts same before = record {
    fresh_are_touched = λ b new. inl (meta_back b new);
    stays_or_revoked = λ b old. inl (meta_there b old);
    revoked_are_left = λ b i. absurd i;
    kept = λ b none old new. same b none;
    touched_are_meta = λ b i. inr (let range = before b i in let low = range.1 in let some = sound.some_zone in (of_tables low, range.0, (omega arith)));
    pages_are_written = λ x i. absurd i;
    was_or_written = λ x page. inl (page_back x page);
    written_are_pages = λ birth index none. absurd none;
    dropped_were_mapped = λ x i. absurd i;
    stays_or_dropped = λ x page. inl (page_there x page);
    data_kept = λ x new old none. subst (λ z. disk_of after z ≡ disk_of c.blocks z) old.zone (zone_bytes x.birth old.placed old.stands (block x.index) (λ none. old.some (sym old.zone ∙ none)));
  }

-- Bits of zones that are written.
module _ (g : Geometry) (sound : IsSound g) (c : Contents) (h : IsVolume g c) (value : Bool) (zones : List ℕ) (within : AreZones g zones) where
  pub bits_none : ChangesNone g c.blocks (written g c (map (zone_bit g value) zones)).blocks
  bits_none = bits_change g sound value zones c.blocks h.0.whole h.0.size within

  pub bits_tell : Tells g c (written g c (map (zone_bit g value) zones)) (tells_blocks (touched_by_all g (map (zone_bit g value) zones))) (λ birth index. ⊥)
  bits_tell = kept_tells g c h _ bits_none sound (touched_by_all g (map (zone_bit g value) zones)) (λ b none. untouched g (map (zone_bit g value) zones) c.blocks b none) (bits_before g sound value zones within)
