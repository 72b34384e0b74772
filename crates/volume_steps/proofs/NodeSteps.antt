-- Steps by which one node changes, or bits of the maps: how they grow a volume.
use Rattle.std.specs.Prelude.{◌≡◌, ◌≢◌, ◌≤◌, ◌<◌, ℕ, ◌⊎◌, true, List, ◌++◌, length, Some, refl, ◌+◌}
use Rattle.std.proofs.Common.{sym, ap, subst, inl, inr, ⊎_elim, ◌∙◌, arith}
use Rattle.std.proofs.lemmas.Bool.{cases_eq}
use Rattle.std.proofs.lemmas.Option.{same_Some}
use Rattle.blk_base.specs.Members.{In}
use Rattle.blk_base.specs.laws.Members.{In-append_left, In-append_right, In-append_cases}
use Rattle.minix_layout.specs.declared.division.Geometry.{Geometry}
use Rattle.minix_layout.specs.declared.inode.Inode.{Inode}
use Rattle.minix_layout.specs.Geometry.{IsSound}
use Rattle.tree_model.specs.Maps.{at_number}
use Rattle.tree_model.specs.laws.MapsLaws.{at_put_number, at_put_number_apart}
use Rattle.volume_ops.specs.declared.found.Mapped.{Mapped}
use Rattle.volume_ops.specs.Places.{table_block, largest_size}
use Rattle.volume_ops.specs.Volume.{disk_of}
use Rattle.volume_model.specs.declared.placed.Placed.{Placed}
use Rattle.volume_model.specs.declared.placed.Part.{Part}
use Rattle.volume_model.specs.declared.placed.Part.TheVariants as parts
use Rattle.volume_model.specs.declared.placed.DirectoryPart.{DirectoryPart}
use Rattle.volume_model.specs.laws.Back.{back_elsewhere}
use Rattle.volume_model.specs.laws.Changes.{table_below}
use Rattle.volume_model.specs.Volume.{Place, block, indirect, double, inner, zone_in, at_indirect, at_double, at_inner, IsVolumeOf}
use Rattle.volume_model.specs.MapBlock.{OpenInode, own_of}
use Rattle.volume_model.specs.Moves.{IsVolume, closed, back_told}
use Rattle.volume_model.specs.Touched.{Contents, IsMeta, of_tables, of_numbers, of_directory}
use Rattle.volume_model.specs.Plain.{HasDots, HasSlotZones}
use Rattle.volume_model.specs.laws.NodeMoves.{Which, changed, other, which, same_zone as node_same_zone}
use Rattle.volume_model.specs.laws.ZoneMoves.{MayMove, may_change, same_zone as moved_same_zone}
use Rattle.volume_steps.proofs.Grows.{is_directory_part, directory_of, GrowsTo, StaysIn, HadZone, stays, zone_kept}
use Rattle.volume_steps.proofs.Marked.{SameMaps, SameNumbers, numbers_put}

-- ---- what the tree does not say

-- Between steps: what is plain of a volume, but for what its tree says, the zones of its slots and the links of its directories.
pub record IsSettled (v : Contents) : Type 0 where
  pub root_number : (p : Placed) → at_number v.nodes 0 ≡ Some p → p.number ≡ 1
  pub sizes : (birth : ℕ) (p : Placed) (zones : List Mapped) → at_number v.nodes birth ≡ Some p → p.part ≡ parts.File zones → p.inode.size ≤ largest_size
  pub dots : (birth : ℕ) (p : Placed) (d : DirectoryPart) → at_number v.nodes birth ≡ Some p → p.part ≡ parts.Directory d →
      (q : Placed) × (at_number v.nodes d.parent ≡ Some q) × HasDots d.slots p.number q.number
  pub few_links : (birth : ℕ) (p : Placed) → at_number v.nodes birth ≡ Some p → p.inode.links ≤ 250

-- directories have the zones that their slots need, but for some that are just changing
abbrev pub AreSlotted : Geometry → (ℕ → Type 0) → Contents → Type 0
AreSlotted g But v = (birth : ℕ) (p : Placed) (d : DirectoryPart) → at_number v.nodes birth ≡ Some p → p.part ≡ parts.Directory d → (But birth → ⊥) → HasSlotZones g v.blocks p.inode (length d.slots)

pub zones_settled : (g : Geometry) (blocks after : List (List ℕ)) (i j : Inode) (slots : ℕ) → ((x : Place) → zone_in after j x ≡ zone_in blocks i x) → HasSlotZones g blocks i slots → HasSlotZones g after j slots
zones_settled g blocks after i j slots same h = record {
  few = h.few;
  no_hole = λ index low none. h.no_hole index low (sym (same (block index)) ∙ none);
  no_more = λ index some. h.no_more index (λ none. some (same (block index) ∙ none));
}

-- ---- one after the other

module _ (g : Geometry) (v w z : Contents) (first second new more nodes others : List ℕ) (h : GrowsTo g v w first new) (k : GrowsTo g w z second more)
    (one : IsVolumeOf g w.blocks w.nodes) (two : IsVolumeOf g z.blocks z.nodes) where
  kept_twice : (a : ℕ) (p : Placed) → at_number v.nodes a ≡ Some p → StaysIn v z a p
  kept_twice a p at =
      let s = h.kept a p at in
      let t = k.kept a s.placed s.stands in
      record { placed = t.placed; stands = t.stands; kind = t.kind ∙ s.kind; zones = λ x some. t.zones x (λ none. some (sym (s.zones x some) ∙ none)) ∙ s.zones x some }

  had_once : (a : ℕ) (q : Placed) (x : Place) → at_number z.nodes a ≡ Some q → zone_in z.blocks q.inode x ≢ 0 →
      HadZone v a q x (zone_in z.blocks q.inode x) ⊎ (In (zone_in z.blocks q.inode x) (new ++ more) × (is_directory_part q.part ≡ true))
  had_once a q x at some = ⊎_elim
      (λ (was : HadZone w a q x (zone_in z.blocks q.inode x)). ⊎_elim
      (λ (before : HadZone v a was.placed x (zone_in w.blocks was.placed.inode x)). inl (record { placed = before.placed; stands = before.stands; kind = before.kind ∙ was.kind; zone_is = before.zone_is ∙ was.zone_is }))
      (λ came. inr (In-append_left new more _ (subst (λ b. In b new) was.zone_is came.0), sym was.kind ∙ came.1))
      (h.had a was.placed x was.stands (λ none. some (sym was.zone_is ∙ none))))
      (λ came. inr (In-append_right new more _ came.0, came.1))
      (k.had a q x at some)

  pub grows_then : GrowsTo g v z (first ++ second) (new ++ more)
  grows_then = record {
    kept = kept_twice;
    had = had_once;
    bytes = λ b none. k.bytes b (λ i. none (In-append_right first second b i)) ∙ h.bytes b (λ i. none (In-append_left first second b i));
    meta = λ b i. ⊎_elim
        (λ j. let m = h.meta b j in (stays g w z second more others k two b m.0, m.1, m.2))
        (λ j. k.meta b j)
        (In-append_cases first second b i);
    told = λ zone i. ⊎_elim (λ j. In-append_left first second zone (h.told zone j)) (λ j. In-append_right first second zone (k.told zone j)) (In-append_cases new more zone i);
    mapped = λ zone i. ⊎_elim (λ j. zone_kept g w z second more others k two zone (h.mapped zone j)) (λ j. k.mapped zone j) (In-append_cases new more zone i);
  }

-- ---- a node changes

-- each zone of a directory is metadata
pub directory_meta : (g : Geometry) (w : Contents) (a : ℕ) (q : Placed) (x : Place) → at_number w.nodes a ≡ Some q → is_directory_part q.part ≡ true → zone_in w.blocks q.inode x ≢ 0 →
    IsMeta g w (zone_in w.blocks q.inode x)
directory_meta g w a q (block i) at is some = let d = directory_of q.part is in of_directory a q d.0 i at d.1 refl some
directory_meta g w a q indirect at is some = of_numbers a q indirect at at_indirect refl some
directory_meta g w a q double at is some = of_numbers a q double at at_double refl some
directory_meta g w a q (inner k) at is some = of_numbers a q (inner k) at at_inner refl some

module _ (g : Geometry) (sound : IsSound g) (v : Contents) (n : ℕ) (p : Placed) (h : IsVolume g v) (at : at_number v.nodes n ≡ Some p) (u : OpenInode) (part : Part) (Z : ℕ → Type 0)
    (may : MayMove g sound v.blocks v.nodes n p h.0 at u part Z) (blocks new : List ℕ) where
  -- What is asked besides: its places stay, those that come are a directory's, and what is written is told.
  pub record MayGrow : Type 0 where
    pub kind : is_directory_part part ≡ is_directory_part p.part
    pub stays_as : (x : Place) → zone_in v.blocks p.inode x ≢ 0 → own_of u x ≡ zone_in v.blocks p.inode x
    pub was : (x : Place) → own_of u x ≢ 0 → (own_of u x ≡ zone_in v.blocks p.inode x) ⊎ (In (own_of u x) new × (is_directory_part part ≡ true))
    pub bytes : (b : ℕ) → (In b blocks → ⊥) → disk_of u.blocks b ≡ disk_of v.blocks b
    pub table : (b : ℕ) → In b (back_told g p u.inode) → In b blocks
    pub meta : (b : ℕ) → In b blocks → (b ≡ table_block g p.number) ⊎ ((y : Place) × (own_of u y ≢ 0) × (own_of u y ≡ b) × (is_directory_part part ≡ true))
    pub told : (zone : ℕ) → In zone new → In zone blocks
    pub mapped : (zone : ℕ) → In zone new → (y : Place) × (own_of u y ≢ 0) × (own_of u y ≡ zone)

  module _ (grow : MayGrow) where
    abbrev q : Placed
    q = record { number = p.number; inode = u.inode; part = part }

    abbrev after : Contents
    after = closed g v n p u part

    pub cases : (b : ℕ) (r : Placed) → at_number after.nodes b ≡ Some r → Which g v.blocks after.blocks v.nodes n p q (λ z. Z z ⊎ ⊥) h.0 (may_change g sound v.blocks v.nodes n p h.0 at u part Z may) b r
    cases b r found = which g v.blocks after.blocks v.nodes n p q (λ z. Z z ⊎ ⊥) h.0 (may_change g sound v.blocks v.nodes n p h.0 at u part Z may) b r found

    theirs : (b : ℕ) (r : Placed) → at_number v.nodes b ≡ Some r → b ≢ n → (x : Place) → zone_in after.blocks r.inode x ≡ zone_in v.blocks r.inode x
    theirs b r found apart = node_same_zone g v.blocks after.blocks v.nodes n p q (λ z. Z z ⊎ ⊥) h.0 (may_change g sound v.blocks v.nodes n p h.0 at u part Z may) b r found apart

    mine : (x : Place) → zone_in after.blocks u.inode x ≡ own_of u x
    mine = moved_same_zone g sound v.blocks v.nodes n p h.0 at u part Z may

    here : at_number after.nodes n ≡ Some q
    here = at_put_number v.nodes n q

    kept : (a : ℕ) (r : Placed) → at_number v.nodes a ≡ Some r → StaysIn v after a r
    kept a r found = elim (cases_eq a n) [
      | inr apart ↦ record { placed = r; stands = at_put_number_apart v.nodes n q a apart ∙ found; kind = refl; zones = λ x some. theirs a r found apart x }
      | inl e ↦
          let same : p ≡ r = same_Some p r (sym at ∙ subst (λ b. at_number v.nodes b ≡ Some r) e found) in
          record {
            placed = q;
            stands = ap (at_number after.nodes) e ∙ here;
            kind = grow.kind ∙ ap (λ (r : Placed). is_directory_part r.part) same;
            zones = λ x some.
                let zone : zone_in v.blocks p.inode x ≡ zone_in v.blocks r.inode x = ap (λ (r : Placed). zone_in v.blocks r.inode x) same in
                mine x ∙ (grow.stays_as x (λ none. some (sym zone ∙ none)) ∙ zone);
          }
    ]

    had : (a : ℕ) (r : Placed) (x : Place) → at_number after.nodes a ≡ Some r → zone_in after.blocks r.inode x ≢ 0 →
        HadZone v a r x (zone_in after.blocks r.inode x) ⊎ (In (zone_in after.blocks r.inode x) new × (is_directory_part r.part ≡ true))
    had a r x found some = elim (cases a r found) [
      | other apart was ↦ inl (record { placed = r; stands = was; kind = refl; zone_is = sym (theirs a r was apart x) })
      | changed e same ↦
          let zone : own_of u x ≡ zone_in after.blocks r.inode x = sym (mine x) ∙ ap (λ (r : Placed). zone_in after.blocks r.inode x) same in
          let is : is_directory_part part ≡ is_directory_part r.part = ap (λ (r : Placed). is_directory_part r.part) same in
          ⊎_elim
          (λ was. inl (record { placed = p; stands = ap (at_number v.nodes) e ∙ at; kind = sym grow.kind ∙ is; zone_is = sym was ∙ zone }))
          (λ came. inr (subst (λ b. In b new) zone came.0, sym is ∙ came.1))
          (grow.was x (λ none. some (sym zone ∙ none)))
    ]

    meta_after : (b : ℕ) → In b blocks → IsMeta g after b × (2 ≤ b) × (b < g.zones)
    meta_after b i = ⊎_elim
        (λ table.
        let told = h.0.each n p at in
        let t = table_below g p.number sound told.some told.within in
        let low = t.0 in
        let high = t.1 in
        let some = sound.some_zone in
        (of_tables (omega arith), (omega arith), (omega arith)))
        (λ (w : (y : Place) × (own_of u y ≢ 0) × (own_of u y ≡ b) × (is_directory_part part ≡ true)).
        let range = may.fit.within w.0 w.1 in
        let low = range.0 in
        let high = range.1 in
        let e = w.2 in
        let t = sound.tables_below in
        (subst (IsMeta g after) (mine w.0 ∙ w.2) (directory_meta g after n q w.0 here w.3 (λ none. w.1 (sym (mine w.0) ∙ none))), (omega arith), (omega arith)))
        (grow.meta b i)

    -- what is asked of the node, for what the tree does not say
    pub record MaySettle : Type 0 where
      pub sizes : (zones : List Mapped) → part ≡ parts.File zones → u.inode.size ≤ largest_size
      pub dots : (d : DirectoryPart) → part ≡ parts.Directory d → (r : Placed) × (at_number v.nodes d.parent ≡ Some r) × HasDots d.slots p.number r.number
      pub few_links : u.inode.links ≤ 250

    -- a node has the number that it had
    number_at : (a : ℕ) (r : Placed) → at_number v.nodes a ≡ Some r → (s : Placed) × (at_number after.nodes a ≡ Some s) × (r.number ≡ s.number)
    number_at a r found = elim (cases_eq a n) [
      | inr apart ↦ (r, at_put_number_apart v.nodes n q a apart ∙ found, refl)
      | inl e ↦ (q, ap (at_number after.nodes) e ∙ here, sym (ap (λ (r : Placed). r.number) (same_Some p r (sym at ∙ subst (λ b. at_number v.nodes b ≡ Some r) e found))))
    ]

    dots_after : (d : DirectoryPart) (number : ℕ) → (r : Placed) × (at_number v.nodes d.parent ≡ Some r) × HasDots d.slots number r.number →
        (r : Placed) × (at_number after.nodes d.parent ≡ Some r) × HasDots d.slots number r.number
    dots_after d number old = let s = number_at d.parent old.0 old.1 in (s.0, s.1, subst (HasDots d.slots number) s.2 old.2)

    pub closed_settled : MaySettle → IsSettled v → IsSettled after
    closed_settled may_settle old = record {
      root_number = λ r found. elim (cases 0 r found) [
        | other apart was ↦ old.root_number r was
        | changed e same ↦ sym (ap (λ (r : Placed). r.number) same) ∙ old.root_number p (ap (at_number v.nodes) e ∙ at)
      ];
      sizes = λ a r zones found is. elim (cases a r found) [
        | other apart was ↦ old.sizes a r zones was is
        | changed e same ↦ subst (λ (r : Placed). r.inode.size ≤ largest_size) same (may_settle.sizes zones (ap (λ (r : Placed). r.part) same ∙ is))
      ];
      dots = λ a r d found is. elim (cases a r found) [
        | other apart was ↦ dots_after d r.number (old.dots a r d was is)
        | changed e same ↦ dots_after d r.number (subst (λ number. (s : Placed) × (at_number v.nodes d.parent ≡ Some s) × HasDots d.slots number s.number) (ap (λ (r : Placed). r.number) same)
            (may_settle.dots d (ap (λ (r : Placed). r.part) same ∙ is)))
      ];
      few_links = λ a r found. elim (cases a r found) [
        | other apart was ↦ old.few_links a r was
        | changed e same ↦ subst (λ (r : Placed). r.inode.links ≤ 250) same may_settle.few_links
      ];
    }

    pub closed_slotted : AreSlotted g (λ a. a ≡ n) v → ((d : DirectoryPart) → part ≡ parts.Directory d → HasSlotZones g u.blocks u.inode (length d.slots)) → AreSlotted g (λ a. ⊥) after
    closed_slotted old new_zones a r d found is none = elim (cases a r found) [
      | other apart was ↦ zones_settled g v.blocks after.blocks r.inode r.inode (length d.slots) (theirs a r was apart) (old a r d was is apart)
      | changed e same ↦ subst (λ (r : Placed). HasSlotZones g after.blocks r.inode (length d.slots)) same
          (zones_settled g u.blocks after.blocks u.inode u.inode (length d.slots) mine (new_zones d (ap (λ (r : Placed). r.part) same ∙ is)))
    ]

    pub closed_slotted_but : AreSlotted g (λ a. a ≡ n) v → AreSlotted g (λ a. a ≡ n) after
    closed_slotted_but old a r d found is apart = elim (cases a r found) [
      | other _ was ↦ zones_settled g v.blocks after.blocks r.inode r.inode (length d.slots) (theirs a r was apart) (old a r d was is apart)
      | changed e same ↦ absurd (apart e)
    ]

    -- no block of the maps is written, and its inode is the same
    pub closed_maps : SameMaps g v.blocks after.blocks
    closed_maps b low high =
        let out = no_map b high in
        back_elsewhere g u.blocks p u.inode b (λ j. out (grow.table b j)) ∙ grow.bytes b out
      where
        no_map : (b : ℕ) → b < 2 + g.imap + g.zmap → In b blocks → ⊥
        no_map b high i = ⊎_elim
            (λ e.
            let told = h.0.each n p at in
            let far = (table_below g p.number sound told.some told.within).0 in
            omega arith)
            (λ (w : (y : Place) × (own_of u y ≢ 0) × (own_of u y ≡ b) × (is_directory_part part ≡ true)).
            let far = (may.fit.within w.0 w.1).0 in
            let e = w.2 in
            let tables = sound.tables_below in
            omega arith)
            (grow.meta b i)

    pub closed_numbers : SameNumbers v.nodes after.nodes
    closed_numbers = numbers_put v.nodes after.nodes n p q refl at refl

    pub closed_grows : GrowsTo g v after blocks new
    closed_grows = record {
      kept = kept;
      had = had;
      bytes = λ b none. back_elsewhere g u.blocks p u.inode b (λ j. none (grow.table b j)) ∙ grow.bytes b none;
      meta = meta_after;
      told = grow.told;
      mapped = λ zone i. let w = grow.mapped zone i in record { birth = n; placed = q; place = w.0; stands = here; zone_is = mine w.0 ∙ w.2; some = λ none. w.1 (w.2 ∙ none) };
    }
