-- The walk so far, while it found no fault: the inodes that were met have none, and the marks are what they have and name.
use Rattle.std.specs.Prelude.{◌≡◌, ◌≢◌, ℕ, ◌+◌, ◌%◌, ◌<◌, ◌≤◌, ◌⊎◌, Bool, true, false, List, [], ◌∷◌, ◌++◌, length, Option, Ok, refl}
use Rattle.std.proofs.Common.{sym, subst, ◌∙◌, inl, inr, ⊎_elim, arith}
use Rattle.std.proofs.lemmas.Bool.{true≢false, cases_Bool, cases_eq, cases_lt}
use Rattle.blk_base.specs.Members.{In}
use Rattle.blk_base.specs.laws.Members.{In-push, In-push_left, In-push_cases, In-append_left, In-append_right, In-append_cases}
use Rattle.minix_layout.specs.Widths.{slot_size}
use Rattle.minix_layout.specs.declared.division.Geometry.{Geometry}
use Rattle.minix_layout.specs.declared.slot.Slot.{Slot}
use Rattle.volume_ops.specs.declared.found.FoundNode.{FoundNode}
use Rattle.volume_ops.specs.Places.{largest_size, is_directory}
use Rattle.volume_ops.specs.Marks.{is_marked, marked}
use Rattle.volume_ops.specs.laws.MarksLaws.{is_marked_same, is_marked_kept, is_marked_new, length-marked}
use Rattle.volume_ops.specs.VolumeFields.{inode_at, slot_behind}
use Rattle.volume_ops.specs.Walk.{WalkState}
use Rattle.volume_ops.specs.ZonePlaces.{ZonePlace}
use Rattle.volume_ops.specs.Faultless.{IsDirectory, HasZones, zone_at_place, slots_of, NamesAt, IsReached, by_name, AreFaultless}
use Rattle.volume_ops.specs.FirstFault.{IsBadInode, root_is_none, size_too_large, part_of_a_slot, AreNamed, AreMet, next}

-- the walk so far: the inodes `met` have no fault, what is marked is what they have and name, and `ahead` is to be met
pub record IsSoFar (g : Geometry) (blocks : List (List ℕ)) (met ahead : List ℕ) (w : WalkState) : Type 0 where
  pub order : AreMet g blocks met ahead
  pub faultless : AreFaultless g blocks (λ k. In k met)
  pub some : (k : ℕ) → In k met → 0 < k
  pub marks : (k : ℕ) → In k met → is_marked w.inodes k ≡ true
  pub by_mark : (k : ℕ) → is_marked w.inodes k ≡ true → In k met
  pub reached : (k : ℕ) → In k met → IsReached g blocks k
  pub ahead_reached : (k : ℕ) → In k ahead → IsReached g blocks k
  pub ahead_some : (k : ℕ) → In k ahead → 0 < k
  pub ahead_within : (k : ℕ) → In k ahead → k ≤ g.inodes
  pub zones_marked : (inode : ℕ) (x : ZonePlace) → In inode met → HasZones g blocks inode → zone_at_place g blocks inode x ≢ 0 → is_marked w.zones (zone_at_place g blocks inode x) ≡ true
  pub zones_by : (z : ℕ) → is_marked w.zones z ≡ true → (inode : ℕ) × (x : ZonePlace) × In inode met × HasZones g blocks inode × (zone_at_place g blocks inode x ≢ 0) × (zone_at_place g blocks inode x ≡ z)
  pub named_marked : (inode place : ℕ) (slot : Slot) → In inode met → NamesAt g blocks inode place slot → IsDirectory g blocks slot.inode → is_marked w.named slot.inode ≡ true
  pub named_by : (k : ℕ) → is_marked w.named k ≡ true → (k ≡ 1) ⊎ ((inode : ℕ) × (place : ℕ) × (slot : Slot) × In inode met × NamesAt g blocks inode place slot × (slot.inode ≡ k))
  pub root_named : is_marked w.named 1 ≡ true
  pub root_is : ((k : ℕ) → In k ahead → k ≡ 1) ⊎ IsDirectory g blocks 1
  pub leads : (inode place : ℕ) (slot : Slot) → In inode met → NamesAt g blocks inode place slot → In slot.inode met ⊎ In slot.inode ahead
  pub zones_size : length w.zones ≡ g.zones
  pub inodes_size : length w.inodes ≡ g.inodes + 1
  pub named_size : length w.named ≡ g.inodes + 1

-- the zones of an inode were taken
pub record AddsZones (g : Geometry) (blocks : List (List ℕ)) (inode : ℕ) (old new : List Bool) : Type 0 where
  pub size : length new ≡ g.zones
  pub kept : (z : ℕ) → is_marked old z ≡ true → is_marked new z ≡ true
  pub within : (x : ZonePlace) → HasZones g blocks inode → zone_at_place g blocks inode x ≢ 0 → (g.first ≤ zone_at_place g blocks inode x) × (zone_at_place g blocks inode x < g.zones)
  pub fresh : (x : ZonePlace) → HasZones g blocks inode → zone_at_place g blocks inode x ≢ 0 → is_marked old (zone_at_place g blocks inode x) ≡ false
  pub marks : (x : ZonePlace) → HasZones g blocks inode → zone_at_place g blocks inode x ≢ 0 → is_marked new (zone_at_place g blocks inode x) ≡ true
  pub once : (x y : ZonePlace) → HasZones g blocks inode → zone_at_place g blocks inode x ≢ 0 → zone_at_place g blocks inode x ≡ zone_at_place g blocks inode y → x ≡ y
  pub from : (z : ℕ) → is_marked new z ≡ true → (is_marked old z ≡ true) ⊎ ((x : ZonePlace) × HasZones g blocks inode × (zone_at_place g blocks inode x ≢ 0) × (zone_at_place g blocks inode x ≡ z))

-- the slots of an inode were scanned, which names these
pub record AddsNames (g : Geometry) (blocks : List (List ℕ)) (inode : ℕ) (old new : List Bool) (named : List ℕ) : Type 0 where
  pub size : length new ≡ g.inodes + 1
  pub kept : (k : ℕ) → is_marked old k ≡ true → is_marked new k ≡ true
  pub read : (place : ℕ) → IsDirectory g blocks inode → place < slots_of g blocks inode → (slot : Option Slot) × (slot_behind g blocks (inode_at g blocks inode) place ≡ Ok slot)
  pub within : (place : ℕ) (slot : Slot) → NamesAt g blocks inode place slot → slot.inode ≤ g.inodes
  pub some : (place : ℕ) (slot : Slot) → NamesAt g blocks inode place slot → 0 < slot.inode
  pub once : (place other : ℕ) (slot more : Slot) → NamesAt g blocks inode place slot → NamesAt g blocks inode other more → slot.name ≡ more.name → place ≡ other
  pub fresh : (place : ℕ) (slot : Slot) → NamesAt g blocks inode place slot → IsDirectory g blocks slot.inode → is_marked old slot.inode ≡ false
  pub marks : (place : ℕ) (slot : Slot) → NamesAt g blocks inode place slot → IsDirectory g blocks slot.inode → is_marked new slot.inode ≡ true
  pub alone : (place other : ℕ) (slot more : Slot) → NamesAt g blocks inode place slot → NamesAt g blocks inode other more → slot.inode ≡ more.inode → IsDirectory g blocks slot.inode → place ≡ other
  pub by_mark : (k : ℕ) → is_marked new k ≡ true → (is_marked old k ≡ true) ⊎ ((place : ℕ) × (slot : Slot) × NamesAt g blocks inode place slot × (slot.inode ≡ k))
  pub order : AreNamed g blocks inode named
  pub to : (place : ℕ) (slot : Slot) → NamesAt g blocks inode place slot → In slot.inode named
  pub from : (k : ℕ) → In k named → (place : ℕ) × (slot : Slot) × NamesAt g blocks inode place slot × (slot.inode ≡ k)

-- ---- one inode more

module _ (g : Geometry) (blocks : List (List ℕ)) (met ahead : List ℕ) (w : WalkState) (n : ℕ) (h : IsSoFar g blocks met (n ∷ ahead) w) (new : In n met → ⊥)
    (good : IsBadInode g blocks n → ⊥) (zones named : List Bool) (names : List ℕ) (nodes : List FoundNode)
    (zs : AddsZones g blocks n w.zones zones) (ns : AddsNames g blocks n w.named named names) where
  -- each inode that was met, those before and the new one
  each : (P : ℕ → Type 0) → ((k : ℕ) → In k met → P k) → P n → (k : ℕ) → In k (met ++ n ∷ []) → P k
  each P old here k i = ⊎_elim (old k) (λ e. subst P e here) (In-push_cases met n k i)

  root_kind : IsDirectory g blocks 1
  root_kind =
      ⊎_elim
      (λ first.
      let one : n ≡ 1 = first n (inl refl) in
      elim (cases_Bool (is_directory (inode_at g blocks n).mode)) [
        | inl t ↦ subst (λ k. IsDirectory g blocks k) one t
        | inr f ↦ absurd (good (root_is_none one (λ t. true≢false (sym t ∙ f))))
      ])
      (λ d. d)
      h.root_is

  size_of : HasZones g blocks n → (inode_at g blocks n).size ≤ largest_size
  size_of z = ⊎_elim (λ great. absurd (good (size_too_large z great))) (λ low. low) (cases_lt largest_size (inode_at g blocks n).size)

  whole_of : IsDirectory g blocks n → (inode_at g blocks n).size % slot_size g.width ≡ 0
  whole_of d = ⊎_elim (λ none. none) (λ some. absurd (good (part_of_a_slot d some))) (cases_eq ((inode_at g blocks n).size % slot_size g.width) 0)

  zone_apart : (other : ℕ) (x y : ZonePlace) → In other met → HasZones g blocks other → HasZones g blocks n → zone_at_place g blocks other y ≢ 0 →
      zone_at_place g blocks other y ≡ zone_at_place g blocks n x → ⊥
  zone_apart other x y i z here some e =
      let there : zone_at_place g blocks n x ≢ 0 = λ none. some (e ∙ none) in
      true≢false (sym (h.zones_marked other y i z some) ∙ subst (λ k. is_marked w.zones k ≡ false) (sym e) (zs.fresh x here there))

  name_apart : (other place at : ℕ) (slot more : Slot) → In other met → NamesAt g blocks other at more → NamesAt g blocks n place slot → more.inode ≡ slot.inode →
      IsDirectory g blocks slot.inode → ⊥
  name_apart other place at slot more i m s e d =
      true≢false (sym (h.named_marked other at more i m (subst (λ k. IsDirectory g blocks k) (sym e) d))
      ∙ subst (λ k. is_marked w.named k ≡ false) (sym e) (ns.fresh place slot s d))

  more_faultless : AreFaultless g blocks (λ k. In k (met ++ n ∷ []))
  more_faultless = record {
    root = λ i. root_kind;
    size = each (λ k. HasZones g blocks k → (inode_at g blocks k).size ≤ largest_size) h.faultless.size size_of;
    whole_slots = each (λ k. IsDirectory g blocks k → (inode_at g blocks k).size % slot_size g.width ≡ 0) h.faultless.whole_slots whole_of;
    zone_within = λ k x i. each (λ k. HasZones g blocks k → zone_at_place g blocks k x ≢ 0 → (g.first ≤ zone_at_place g blocks k x) × (zone_at_place g blocks k x < g.zones))
        (λ k i. h.faultless.zone_within k x i) (zs.within x) k i;
    zone_once = λ k other x y i j. zone_once_more x y k i other j;
    slot_read = λ k place i. each (λ k. IsDirectory g blocks k → place < slots_of g blocks k → (slot : Option Slot) × (slot_behind g blocks (inode_at g blocks k) place ≡ Ok slot))
        (λ k i. h.faultless.slot_read k place i) (ns.read place) k i;
    inode_within = λ k place slot i. each (λ k. NamesAt g blocks k place slot → slot.inode ≤ g.inodes) (λ k i. h.faultless.inode_within k place slot i) (ns.within place slot) k i;
    name_once = λ k place other slot more i. each (λ k. NamesAt g blocks k place slot → NamesAt g blocks k other more → slot.name ≡ more.name → place ≡ other)
        (λ k i. h.faultless.name_once k place other slot more i) (ns.once place other slot more) k i;
    directory_once = λ k other place at slot more i j. directory_once_more place at slot more k i other j;
    root_unnamed = λ k place slot i. each (λ k. NamesAt g blocks k place slot → slot.inode ≢ 1) (λ k i. h.faultless.root_unnamed k place slot i)
        (λ m one. true≢false (sym h.root_named ∙ subst (λ k. is_marked w.named k ≡ false) one (ns.fresh place slot m (subst (λ k. IsDirectory g blocks k) (sym one) root_kind)))) k i;
  }
    where
      zone_once_more : (x y : ZonePlace) (k : ℕ) → In k (met ++ n ∷ []) → (other : ℕ) → In other (met ++ n ∷ []) → HasZones g blocks k → HasZones g blocks other →
          zone_at_place g blocks k x ≢ 0 → zone_at_place g blocks k x ≡ zone_at_place g blocks other y → (k ≡ other) × (x ≡ y)
      zone_once_more x y =
          each (λ k. (other : ℕ) → In other (met ++ n ∷ []) → HasZones g blocks k → HasZones g blocks other →
          zone_at_place g blocks k x ≢ 0 → zone_at_place g blocks k x ≡ zone_at_place g blocks other y → (k ≡ other) × (x ≡ y))
          (λ k i. each (λ other. HasZones g blocks k → HasZones g blocks other → zone_at_place g blocks k x ≢ 0 → zone_at_place g blocks k x ≡ zone_at_place g blocks other y → (k ≡ other) × (x ≡ y))
          (λ other j. h.faultless.zone_once k other x y i j)
          (λ a b some e. absurd (zone_apart k y x i a b some e)))
          (each (λ other. HasZones g blocks n → HasZones g blocks other → zone_at_place g blocks n x ≢ 0 → zone_at_place g blocks n x ≡ zone_at_place g blocks other y → (n ≡ other) × (x ≡ y))
          (λ other j a b some e. absurd (zone_apart other x y j b a (λ none. some (e ∙ none)) (sym e)))
          (λ a b some e. (refl, zs.once x y a some e)))

      directory_once_more : (place at : ℕ) (slot more : Slot) (k : ℕ) → In k (met ++ n ∷ []) → (other : ℕ) → In other (met ++ n ∷ []) → NamesAt g blocks k place slot → NamesAt g blocks other at more →
          slot.inode ≡ more.inode → IsDirectory g blocks slot.inode → (k ≡ other) × (place ≡ at)
      directory_once_more place at slot more =
          each (λ k. (other : ℕ) → In other (met ++ n ∷ []) → NamesAt g blocks k place slot → NamesAt g blocks other at more → slot.inode ≡ more.inode → IsDirectory g blocks slot.inode → (k ≡ other) × (place ≡ at))
          (λ k i. each (λ other. NamesAt g blocks k place slot → NamesAt g blocks other at more → slot.inode ≡ more.inode → IsDirectory g blocks slot.inode → (k ≡ other) × (place ≡ at))
          (λ other j. h.faultless.directory_once k other place at slot more i j)
          (λ a b e d. absurd (name_apart k at place more slot i a b e (subst (λ k. IsDirectory g blocks k) e d))))
          (each (λ other. NamesAt g blocks n place slot → NamesAt g blocks other at more → slot.inode ≡ more.inode → IsDirectory g blocks slot.inode → (n ≡ other) × (place ≡ at))
          (λ other j a b e d. absurd (name_apart other place at slot more j b a (sym e) d))
          (λ a b e d. (refl, ns.alone place at slot more a b e d)))

  leads_more : (k place : ℕ) (slot : Slot) → In k (met ++ n ∷ []) → NamesAt g blocks k place slot → In slot.inode (met ++ n ∷ []) ⊎ In slot.inode (names ++ ahead)
  leads_more k place slot i =
      each (λ k. NamesAt g blocks k place slot → In slot.inode (met ++ n ∷ []) ⊎ In slot.inode (names ++ ahead))
      (λ k i m.
      ⊎_elim
      (λ old. inl (In-push_left met n slot.inode old))
      (λ next. ⊎_elim (λ same. inl (subst (λ k. In k (met ++ n ∷ [])) same (In-push met n))) (λ later. inr (In-append_right names ahead slot.inode later)) next)
      (h.leads k place slot i m))
      (λ m. inr (In-append_left names ahead slot.inode (ns.to place slot m))) k i

  -- what is ahead: what the inode names, and what was
  ahead_cases : (P : ℕ → Type 0) → ((place : ℕ) (slot : Slot) → NamesAt g blocks n place slot → P slot.inode) → ((k : ℕ) → In k ahead → P k) → (k : ℕ) → In k (names ++ ahead) → P k
  ahead_cases P here old k i = ⊎_elim (λ j. let x = ns.from k j in subst P x.3 (here x.0 x.1 x.2)) (old k) (In-append_cases names ahead k i)

  inside : n ≤ g.inodes
  inside = h.ahead_within n (inl refl)

  -- so the walk is so far
  pub further : IsSoFar g blocks (met ++ n ∷ []) (names ++ ahead) (record { zones = zones; inodes = marked w.inodes n; named = named; nodes = nodes })
  further = record {
    order = next new h.order ns.order;
    faultless = more_faultless;
    some = each (λ k. 0 < k) h.some (h.ahead_some n (inl refl));
    marks = each (λ k. is_marked (marked w.inodes n) k ≡ true) (λ k i. is_marked_kept w.inodes n k (h.marks k i)) (is_marked_same w.inodes n (let low = inside in omega (arith, h.inodes_size)));
    by_mark = λ k t.
        ⊎_elim
        (λ old. In-push_left met n k (h.by_mark k old))
        (λ f. subst (λ k. In k (met ++ n ∷ [])) (sym (is_marked_new w.inodes n k f t)) (In-push met n))
        (cases_Bool (is_marked w.inodes k));
    reached = each (λ k. IsReached g blocks k) h.reached (h.ahead_reached n (inl refl));
    ahead_reached = ahead_cases (λ k. IsReached g blocks k) (λ place slot m. by_name (h.ahead_reached n (inl refl)) m) (λ k i. h.ahead_reached k (inr i));
    ahead_some = ahead_cases (λ k. 0 < k) ns.some (λ k i. h.ahead_some k (inr i));
    ahead_within = ahead_cases (λ k. k ≤ g.inodes) ns.within (λ k i. h.ahead_within k (inr i));
    zones_marked = λ k x i. each (λ k. HasZones g blocks k → zone_at_place g blocks k x ≢ 0 → is_marked zones (zone_at_place g blocks k x) ≡ true)
        (λ k i z some. zs.kept (zone_at_place g blocks k x) (h.zones_marked k x i z some)) (zs.marks x) k i;
    zones_by = λ z t.
        ⊎_elim
        (λ old. let x = h.zones_by z old in (x.0, x.1, In-push_left met n x.0 x.2, x.3, x.4, x.5))
        (λ x. (n, x.0, In-push met n, x.1, x.2, x.3))
        (zs.from z t);
    named_marked = λ k place slot i. each (λ k. NamesAt g blocks k place slot → IsDirectory g blocks slot.inode → is_marked named slot.inode ≡ true)
        (λ k i m d. ns.kept slot.inode (h.named_marked k place slot i m d)) (ns.marks place slot) k i;
    named_by = λ k t.
        ⊎_elim
        (λ old. ⊎_elim inl (λ x. inr (x.0, x.1, x.2, In-push_left met n x.0 x.3, x.4, x.5)) (h.named_by k old))
        (λ x. inr (n, x.0, x.1, In-push met n, x.2, x.3))
        (ns.by_mark k t);
    root_named = ns.kept 1 h.root_named;
    root_is = inr root_kind;
    leads = leads_more;
    zones_size = zs.size;
    inodes_size = length-marked w.inodes n ∙ h.inodes_size;
    named_size = ns.size;
  }
