-- The blocks of a block that is mapped, for a file as for a directory.
use Rattle.std.specs.Prelude.{◌≡◌, ◌≢◌, ◌<◌, ◌≤◌, ℕ, true, List, map, length, Some, refl}
use Rattle.std.proofs.Common.{sym, subst, ◌∙◌, inl, inr, ⊎_elim}
use Rattle.blk_base.specs.Members.{In}
use Rattle.minix_layout.specs.declared.division.Geometry.{Geometry}
use Rattle.tree_model.specs.Maps.{at_number}
use Rattle.minix_tables.specs.declared.zones.zone_state.ZoneState.TheVariants as states
use Rattle.minix_tables.specs.zones.Zones.{state_of}
use Rattle.volume_model.specs.declared.placed.Placed.{Placed}
use Rattle.volume_model.specs.declared.placed.Part.{Part}
use Rattle.volume_model.specs.Edits.{Edit, touched_by_all}
use Rattle.volume_model.specs.MapBlock.{OpenInode, own_of, taken_at, map_block, all_edits}
use Rattle.volume_model.specs.Moves.{IsVolume, AreFree, opened, back_told}
use Rattle.volume_model.specs.Touched.{Contents}
use Rattle.volume_model.specs.Volume.{Place, zone_in}
use Rattle.volume_model.specs.Ways.{way}
use Rattle.volume_model.specs.laws.Back.{told_table}
use Rattle.volume_model.specs.laws.MapBlock.{Outcome, IsFresh}
use Rattle.volume_model.specs.laws.OnWay.{in_list}
use Rattle.volume_model.specs.laws.ZoneMoves.{fit_before, grown, map_outcome}
use Rattle.volume_steps.specs.Now.{VolumeNow, written}
use Rattle.volume_steps.specs.Plain.{IsInUse}
use Rattle.volume_steps.specs.Zones.{TakenFor, take_zones, zone_bit}
use Rattle.volume_steps.proofs.Taking.{AreTaken, frees, in_zones}
use Rattle.volume_steps.proofs.TakeZones.{are_taken, turn, turn_in, volume_marked, own_marked, free_marked}
use Rattle.vol_check.proofs.KeptCleanLemmas.ChangedLemmas.Ends.{told_differs, bits_told}
use Rattle.vol_check.proofs.KeptCleanLemmas.ChangedLemmas.Filling.{way_fills, way_inode}
use Rattle.vol_check.proofs.KeptCleanLemmas.ChangedLemmas.Rising.{Rises, Told}
use Rattle.vol_check.proofs.KeptCleanLemmas.ChangedLemmas.Rising.Told.{bit_of, fresh, number_in, in_inode}

module _ (v : VolumeNow) (h : IsInUse v) (n : ℕ) (p : Placed) (at : at_number v.contents.nodes n ≡ Some p) (content : List ℕ) (size : length content ≡ 1024) (index : ℕ) (high : index < 262663)
    (enough : length (take_zones (λ x. zone_in v.contents.blocks p.inode x) index v.zones).numbers ≤ frees v.zones) where
  abbrev g : Geometry
  g = v.geometry

  abbrev own : Place → ℕ
  own x = zone_in v.contents.blocks p.inode x

  abbrev t : TakenFor
  t = take_zones own index v.zones

  abbrev es : List Edit
  es = map (zone_bit g true) t.numbers

  abbrev pub c : Contents
  c = written g v.contents es

  taken : AreTaken v.zones t.zones t.numbers
  taken = are_taken v h p.inode index enough

  pub volume : IsVolume g c
  volume = volume_marked v h n p at index enough

  pub own_kept : (x : Place) → zone_in c.blocks p.inode x ≡ own x
  own_kept = own_marked v h n p at index enough

  pub free : AreFree g c.blocks c.nodes p.inode t.taken (way index)
  free = free_marked v h n p at index enough

  abbrev pub u : OpenInode
  u = grown g h.sound c.blocks c.nodes n p volume.0 at t.taken content size index high free

  pub outcome : Outcome g t.taken (record { blocks = c.blocks; inode = p.inode }) u (way index)
  outcome = map_outcome g h.sound c.blocks c.nodes n p volume.0 at t.taken content size index high free

  all_fresh : IsFresh g (own_of (opened c p)) t.taken (way index)
  all_fresh = record { some = free.some; low = free.low; high = free.high; fits = free.fits; fresh = λ x y i none. free.free n p x y at i none; differ = free.differ }

  taken_in : (x : Place) → In x (way index) → own x ≡ 0 → In (taken_at t.taken x) t.numbers
  taken_in x i none = turn_in own index v.zones x (turn own index v.zones x i none)

  -- the contents in which the node has its new inode
  module _ (w : Contents) (part : Part) (mine : (x : Place) → zone_in w.blocks u.inode x ≡ own_of u x) where
    abbrev pub q : Placed
    q = record { number = p.number; inode = u.inode; part = part }

    abbrev mapped : VolumeNow
    mapped = record { geometry = g; contents = w; zones = t.zones }

    gets : (x : Place) → In x (way index) → own x ≡ 0 → zone_in w.blocks u.inode x ≡ taken_at t.taken x
    gets x i none = mine x ∙ outcome.got.taken x i (own_kept x ∙ none)

    some_now : (x : Place) → In x (way index) → own x ≡ 0 → zone_in w.blocks u.inode x ≢ 0
    some_now x i none zero = free.some x i (own_kept x ∙ none) (sym (gets x i none) ∙ zero)

    pub rises : Rises v mapped p q
    rises = record {
      number = refl;
      kept = λ y some. mine y ∙ (outcome.got.kept y (λ e. some (sym (own_kept y) ∙ e)) ∙ own_kept y);
      taken = λ y none some. elim (in_list y (way index)) [
        | inl i ↦ subst (λ z. state_of v.zones z ≡ Some states.Free) (sym (gets y i none)) (taken.was (taken_at t.taken y) (taken_in y i none))
        | inr out ↦ absurd (some (mine y ∙ (outcome.got.others y out ∙ (own_kept y ∙ none))))
      ];
      free = taken.lowest.was_free;
      used = λ z state. ⊎_elim (λ i. taken.now z i) (λ out. taken.others z out ∙ state) (in_zones z t.numbers);
    }

    -- bits of the zones that are taken
    pub bits : (b : ℕ) → In b (touched_by_all g es) → Told v mapped p q b
    bits b i = let z = bits_told g true t.numbers b i in bit_of z.0 (taken.was z.0 z.1) (taken.now z.0 z.1) z.2

    -- what is written on the way to the block
    pub filled : (b : ℕ) → In b (touched_by_all g (all_edits g t.taken content (opened c p) (way index))) → Told v mapped p q b
    unfolding map_block
    filled b i =
        let f = way_fills g h.sound t.taken content size index high (opened c p) (fit_before g h.sound c.blocks c.nodes n p volume.0 at) all_fresh b i in
        let none : own f.0 ≡ 0 = sym (own_kept f.0) ∙ f.2 in
        elim f.3 [
          | inl e ↦ fresh (subst (λ z. state_of v.zones z ≡ Some states.Free) e (taken.was (taken_at t.taken f.0) (taken_in f.0 f.1 none)))
          | inr m ↦ number_in f.0 m.0 m.1 m.2 none (some_now f.0 f.1 none) (λ zero. m.3 (sym (mine m.0) ∙ zero)) (mine m.0 ∙ m.4)
        ]

    -- the inode in its table
    pub in_table : (b : ℕ) → In b (back_told g p u.inode) → Told v mapped p q b
    unfolding map_block
    in_table b i =
        let f = way_inode g h.sound t.taken content size index high (opened c p) (fit_before g h.sound c.blocks c.nodes n p volume.0 at) all_fresh (told_differs g p u.inode b i) in
        let none : own f.0 ≡ 0 = sym (own_kept f.0) ∙ f.3 in
        in_inode f.0 f.1 f.4 none (some_now f.0 f.2 none) (sym (told_table g p u.inode b i))
