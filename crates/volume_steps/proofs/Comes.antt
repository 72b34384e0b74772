-- A node comes, with zones that no other node has or with none: the volume stands, and it has grown.
use Rattle.std.specs.Prelude.{◌≡◌, ◌≢◌, ◌≤◌, ◌<◌, ℕ, ◌⊎◌, true, List, length, Some, None, refl}
use Rattle.std.proofs.Common.{sym, ap, subst, inl, inr, ⊎_elim, ◌∙◌, arith}
use Rattle.std.proofs.lemmas.Bool.{cases_eq}
use Rattle.std.proofs.lemmas.Cmp.{nat_cmp_total}
use Rattle.std.proofs.lemmas.Option.{same_Some, none-some}
use Rattle.blk_base.specs.Members.{In}
use Rattle.minix_layout.specs.declared.division.Geometry.{Geometry}
use Rattle.minix_layout.specs.Geometry.{IsSound}
use Rattle.tree_model.specs.Maps.{at_number, put_number}
use Rattle.tree_model.specs.laws.MapsLaws.{at_put_number, at_put_number_apart}
use Rattle.volume_ops.specs.Volume.{disk_of}
use Rattle.volume_ops.specs.Places.{largest_size}
use Rattle.volume_ops.specs.declared.found.Mapped.{Mapped}
use Rattle.tree_model.specs.laws.MapOrder.{sorted_put}
use Rattle.volume_model.specs.declared.placed.Placed.{Placed}
use Rattle.volume_model.specs.declared.placed.Part.TheVariants as parts
use Rattle.volume_model.specs.declared.placed.DirectoryPart.{DirectoryPart}
use Rattle.volume_model.specs.Changes.{Changes}
use Rattle.volume_model.specs.Volume.{Place, zone_in, IsStored, HasNumber, HasNames}
use Rattle.volume_model.specs.Ways.{IsJust}
use Rattle.volume_model.specs.laws.OnWay.{just_same}
use Rattle.volume_model.specs.laws.Written.{stored_kept, zone_kept}
use Rattle.volume_model.specs.Moves.{IsVolume}
use Rattle.volume_model.specs.Touched.{Contents, IsMeta, of_tables}
use Rattle.volume_model.specs.Plain.{HasDots, HasSlotZones}
use Rattle.volume_steps.proofs.Grows.{is_directory_part, GrowsTo}
use Rattle.volume_steps.proofs.NodeSteps.{IsSettled, AreSlotted, zones_settled, directory_meta}

-- What is asked: a new birth, an inode and zones that no node has, and the node stands in the blocks afterwards.
pub record MayCome (g : Geometry) (v : Contents) (after : List (List ℕ)) (n : ℕ) (q : Placed) (Z : ℕ → Type 0) : Type 0 where
  pub birth : at_number v.nodes n ≡ None
  pub unused : (b : ℕ) (p : Placed) → at_number v.nodes b ≡ Some p → p.number ≢ q.number
  pub changes : Changes g (λ j. j ≡ q.number) Z v.blocks after
  pub not_theirs : (a : ℕ) (r : Placed) (x : Place) → at_number v.nodes a ≡ Some r → zone_in v.blocks r.inode x ≢ 0 → Z (zone_in v.blocks r.inode x) → ⊥
  pub stored : IsStored g after q
  pub apart : (x y : Place) → zone_in after q.inode x ≡ zone_in after q.inode y → zone_in after q.inode x ≢ 0 → x ≡ y
  pub none_of_theirs : (a : ℕ) (r : Placed) (x y : Place) → at_number v.nodes a ≡ Some r → zone_in after q.inode x ≡ zone_in v.blocks r.inode y → zone_in after q.inode x ≢ 0 → ⊥
  pub names : (d : DirectoryPart) → q.part ≡ parts.Directory d → HasNames (put_number v.nodes n q) d
  pub just : IsJust (λ x. zone_in after q.inode x)

module _ (g : Geometry) (v : Contents) (after : List (List ℕ)) (n : ℕ) (q : Placed) (Z : ℕ → Type 0) (h : IsVolume g v) (may : MayCome g v after n q Z) where
  abbrev pub come : Contents
  come = record { blocks = after; nodes = put_number v.nodes n q }

  same_disk : (b : ℕ) (r : Placed) → at_number v.nodes b ≡ Some r → (x : Place) → zone_in v.blocks r.inode x ≢ 0 → disk_of after (zone_in v.blocks r.inode x) ≡ disk_of v.blocks (zone_in v.blocks r.inode x)
  same_disk b r at x some = may.changes.zones _ ((h.0.each b r at).zones x some).0 (may.not_theirs b r x at some)

  pub theirs : (b : ℕ) (r : Placed) → at_number v.nodes b ≡ Some r → (x : Place) → zone_in after r.inode x ≡ zone_in v.blocks r.inode x
  theirs b r at = zone_kept v.blocks after r.inode (same_disk b r at)

  -- a node is the new one or an old one
  pub data Which (b : ℕ) (p : Placed) : Type 0 where
    new : b ≡ n → q ≡ p → Which b p
    old : b ≢ n → at_number v.nodes b ≡ Some p → Which b p

  pub which : (b : ℕ) (p : Placed) → at_number come.nodes b ≡ Some p → Which b p
  which b p at = elim (cases_eq b n) [
    | inl e ↦ new e (same_Some q p (sym (at_put_number v.nodes n q) ∙ subst (λ b. at_number come.nodes b ≡ Some p) e at))
    | inr a ↦ old a (sym (at_put_number_apart v.nodes n q b a) ∙ at)
  ]

  pub there : (b : ℕ) (p : Placed) → at_number v.nodes b ≡ Some p → at_number come.nodes b ≡ Some p
  there b p at = at_put_number_apart v.nodes n q b (λ e. none-some p (sym may.birth ∙ (ap (at_number v.nodes) (sym e) ∙ at))) ∙ at

  pub here : at_number come.nodes n ≡ Some q
  here = at_put_number v.nodes n q

  old_number : (b number : ℕ) → HasNumber v.nodes b number → HasNumber come.nodes b number
  old_number b number x = (x.0, there b x.0 x.1, x.2)

  names_kept : (d : DirectoryPart) → HasNames v.nodes d → HasNames come.nodes d
  names_kept d x = record {
    named = λ name b at. (let m = x.named name b at in record { place = m.place; slot = m.slot; stands = m.stands; name_is = m.name_is; no_dot = m.no_dot; number = old_number b m.slot.inode m.number });
    full = λ k s at dot. (let f = x.full k s at dot in (f.0, f.1, old_number f.0 s.inode f.2));
    count = x.count;
    once = x.once;
  }

  mine : (p : Placed) (x : Place) → q ≡ p → zone_in after q.inode x ≡ zone_in after p.inode x
  mine p x is = ap (λ (p : Placed). zone_in after p.inode x) is

  pub come_stands : IsVolume g come
  come_stands = (
    record {
      whole = may.changes.whole;
      size = may.changes.size ∙ h.0.size;
      in_order = sorted_put nat_cmp_total v.nodes n q h.0.in_order;
      each = λ b p at. elim (which b p at) [
        | new e same ↦ subst (IsStored g after) same may.stored
        | old a was ↦ (let told = h.0.each b p was in stored_kept g v.blocks after p told (may.changes.inodes p.number told.some told.within (may.unused b p was)) (same_disk b p was))
      ];
      names = λ b p d at is. elim (which b p at) [
        | new e same ↦ may.names d (ap (λ (p : Placed). p.part) same ∙ is)
        | old a was ↦ names_kept d (h.0.names b p d was is)
      ];
      numbers = λ a b p r at bt same. elim (which a p at) [
        | new e is ↦ elim (which b r bt) [
          | new f it ↦ e ∙ sym f
          | old x was ↦ absurd (may.unused b r was (sym same ∙ sym (ap (λ (p : Placed). p.number) is)))
        ]
        | old x was ↦ elim (which b r bt) [
          | new f it ↦ absurd (may.unused a p was (same ∙ sym (ap (λ (p : Placed). p.number) it)))
          | old y also ↦ h.0.numbers a b p r was also same
        ]
      ];
      zones = λ a b p r x y at bt same some. elim (which a p at) [
        | new e is ↦ elim (which b r bt) [
          | new f it ↦ (e ∙ sym f, may.apart x y (mine p x is ∙ (same ∙ sym (mine r y it))) (λ none. some (sym (mine p x is) ∙ none)))
          | old w was ↦ absurd (may.none_of_theirs b r x y was (mine p x is ∙ (same ∙ theirs b r was y)) (λ none. some (sym (mine p x is) ∙ none)))
        ]
        | old u was ↦ elim (which b r bt) [
          | new f it ↦ absurd (may.none_of_theirs a p y x was (mine r y it ∙ (sym same ∙ theirs a p was x)) (λ none. some (same ∙ (sym (mine r y it) ∙ none))))
          | old w also ↦ h.0.zones a b p r x y was also (sym (theirs a p was x) ∙ (same ∙ theirs b r also y)) (λ none. some (theirs a p was x ∙ none))
        ]
      ];
    },
    λ b p at. elim (which b p at) [
      | new e same ↦ subst (λ (p : Placed). IsJust (λ x. zone_in after p.inode x)) same may.just
      | old a was ↦ just_same (λ x. zone_in v.blocks p.inode x) (λ x. zone_in after p.inode x) (theirs b p was) (h.1 b p was)
    ],
  )

  -- What is asked besides: its zones are told where it is a directory, and so is what is written.
  pub record ComesTold (sound : IsSound g) (blocks came : List ℕ) : Type 0 where
    pub zones : (x : Place) → zone_in after q.inode x ≢ 0 → In (zone_in after q.inode x) came × (is_directory_part q.part ≡ true)
    pub bytes : (b : ℕ) → (In b blocks → ⊥) → disk_of after b ≡ disk_of v.blocks b
    pub meta : (b : ℕ) → In b blocks → ((2 ≤ b) × (b < g.first)) ⊎ In b came
    pub mapped : (zone : ℕ) → In zone came → In zone blocks × ((y : Place) × (zone_in after q.inode y ≢ 0) × (zone_in after q.inode y ≡ zone))

  pub come_grows : (sound : IsSound g) (blocks came : List ℕ) → ComesTold sound blocks came → GrowsTo g v come blocks came
  come_grows sound blocks came told = record {
    kept = λ a p at. record { placed = p; stands = there a p at; kind = refl; zones = λ x some. theirs a p at x };
    had = λ a r x at some. elim (which a r at) [
      | old u was ↦ inl (record { placed = r; stands = was; kind = refl; zone_is = sym (theirs a r was x) })
      | new e same ↦
          let zone : zone_in after q.inode x ≡ zone_in after r.inode x = mine r x same in
          let t = told.zones x (λ none. some (sym zone ∙ none)) in
          inr (subst (λ z. In z came) zone t.0, sym (ap (λ (p : Placed). is_directory_part p.part) same) ∙ t.1)
    ];
    bytes = told.bytes;
    meta = λ b i. ⊎_elim
        (λ range. let low = range.0 in let high = range.1 in let some = sound.some_zone in (of_tables high, low, (omega arith)))
        (λ j.
        let w = (told.mapped b j).1 in
        let range = may.stored.zones w.0 w.1 in
        let low = range.0 in
        let high = range.1 in
        let e = w.2 in
        let t = sound.tables_below in
        (subst (IsMeta g come) w.2 (directory_meta g come n q w.0 here (told.zones w.0 w.1).1 w.1), (omega arith), (omega arith)))
        (told.meta b i);
    told = λ zone i. (told.mapped zone i).0;
    mapped = λ zone i. let w = (told.mapped zone i).1 in record { birth = n; placed = q; place = w.0; stands = here; zone_is = w.2; some = λ none. w.1 (w.2 ∙ none) };
  }

  -- what the tree does not say
  pub come_settled : IsSettled v → (n ≡ 0 → ⊥) → ((zones : List Mapped) → q.part ≡ parts.File zones → q.inode.size ≤ largest_size) → q.inode.links ≤ 250 →
      ((d : DirectoryPart) → q.part ≡ parts.Directory d → (r : Placed) × (at_number v.nodes d.parent ≡ Some r) × HasDots d.slots q.number r.number) → IsSettled come
  come_settled was apart sizes few dots = record {
    root_number = λ r at. elim (which 0 r at) [ new e same ↦ absurd (apart (sym e)) | old a found ↦ was.root_number r found ];
    sizes = λ a r zones at is. elim (which a r at) [
      | new e same ↦ subst (λ (r : Placed). r.inode.size ≤ largest_size) same (sizes zones (ap (λ (r : Placed). r.part) same ∙ is))
      | old u found ↦ was.sizes a r zones found is
    ];
    dots = λ a r d at is. elim (which a r at) [
      | new e same ↦ (let w = dots d (ap (λ (r : Placed). r.part) same ∙ is) in (w.0, there d.parent w.0 w.1, subst (λ (r : Placed). HasDots d.slots r.number w.0.number) same w.2))
      | old u found ↦ (let w = was.dots a r d found is in (w.0, there d.parent w.0 w.1, w.2))
    ];
    few_links = λ a r at. elim (which a r at) [
      | new e same ↦ subst (λ (r : Placed). r.inode.links ≤ 250) same few
      | old u found ↦ was.few_links a r found
    ];
  }

  pub come_slotted : AreSlotted g (λ a. ⊥) v → ((d : DirectoryPart) → q.part ≡ parts.Directory d → HasSlotZones g after q.inode (length d.slots)) → AreSlotted g (λ a. ⊥) come
  come_slotted was mine_too a r d at is none = elim (which a r at) [
    | new e same ↦ subst (λ (r : Placed). HasSlotZones g after r.inode (length d.slots)) same (mine_too d (ap (λ (r : Placed). r.part) same ∙ is))
    | old u found ↦ zones_settled g v.blocks after r.inode r.inode (length d.slots) (theirs a r found) (was a r d found is none)
  ]
