-- The first fault of a volume is one, and the one that the walk tells.
use Rattle.std.specs.Prelude.{◌≡◌, ◌≢◌, ℕ, ◌<◌, ◌⊎◌, false, List, [], ◌∷◌, ◌++◌, map, Some, Result, Ok, Err, refl}
use Rattle.std.specs.List.Sorted.{IsStrictlySortedBy}
use Rattle.std.specs.Map.{keys_of}
use Rattle.std.proofs.Common.{sym, ap, subst, ◌∙◌, inl, inr, ⊎_elim, arith}
use Rattle.std.proofs.lemmas.Bool.{cases_lt}
use Rattle.std.proofs.lemmas.Cmp.{nat_list_cmp_total}
use Rattle.std.proofs.lemmas.Map.Keys.{sorted_tail}
use Rattle.blk_base.specs.Members.{In}
use Rattle.blk_base.specs.laws.Members.{In-push, In-push_left, In-push_cases, In-append_cases, In-map}
use Rattle.minix_layout.specs.declared.division.Geometry.{Geometry}
use Rattle.minix_layout.specs.declared.fault.LayoutFault.{LayoutFault}
use Rattle.minix_layout.specs.declared.fault.LayoutFault.TheVariants.{BadZone, BadSlot}
use Rattle.tree_model.specs.Maps.{at_name, name_cmp}
use Rattle.tree_model.specs.laws.MapsLaws.{name_here, name_same}
use Rattle.tree_model.specs.Paths.{is_dot}
use Rattle.volume_ops.specs.laws.ReadsLaws.{err-ok}
use Rattle.volume_ops.specs.Places.{inode_of_birth}
use Rattle.volume_ops.specs.VolumeFields.{inode_at}
use Rattle.volume_ops.proofs.SlotsLaws.{inode_of_birth_of}
use Rattle.volume_ops.specs.Volume.{walked}
use Rattle.volume_ops.specs.Walk.{Walked}
use Rattle.volume_ops.specs.Zones.{Fault}
use Rattle.volume_ops.specs.ZonePlaces.{ZonePlace, rank}
use Rattle.volume_ops.specs.Faultless.{IsDirectory, HasZones, zone_at_place, slots_of, NamesAt, IsReached, at_root, by_name, AreFaultless}
use Rattle.volume_ops.specs.FirstFault.{pointer_block_of, slot_zone, IsBadInode, root_is_none, size_too_large, part_of_a_slot, IsBadZone, too_low, too_high, had_by, had_here, IsBadSlot, no_name, no_inode, name_before, names_root, named_by, named_here, AreNamed, by_directory, by_none, AreMet, at_start, again, next, IsFirstHere, of_inode, of_zone, of_slot, IsFirstFault}
use Rattle.volume_ops.proofs.ZoneTests.{same_rank}
use Rattle.volume_ops.proofs.VisitTests.{slot_used}
use Rattle.volume_ops.proofs.TreeUnique.{same_maps, found_first, found_later, same_options}
use Rattle.volume_ops.proofs.WalkTests.{Ends, walked_tested, walked_faultless, first_defect, no_defect}

head_same : {X : Type 0} (x y : X) (xs ys : List X) → x ∷ xs ≡ y ∷ ys → x ≡ y
head_same x y xs ys e = cc

tail_same : {X : Type 0} (x y : X) (xs ys : List X) → x ∷ xs ≡ y ∷ ys → xs ≡ ys
tail_same x y xs ys e = cc

-- ---- what an inode names

module _ (g : Geometry) (blocks : List (List ℕ)) where
  -- the inodes that an inode names are one list
  named_once : (k : ℕ) (xs ys : List ℕ) → AreNamed g blocks k xs → AreNamed g blocks k ys → xs ≡ ys
  named_once k xs ys (by_directory a d s h) (by_directory b e t i) =
      ap (λ names. map (λ (e : List ℕ × ℕ). inode_of_birth e.1) names)
      (same_maps name_cmp nat_list_cmp_total name_here name_same a b s t
      (λ name. same_options (at_name a name) (at_name b name) (λ birth q. (i name birth).1 ((h name birth).0 q)) (λ birth q. (h name birth).1 ((i name birth).0 q))))
  named_once k xs ys (by_directory a d s h) (by_none none) = absurd (none d)
  named_once k xs ys (by_none none) (by_directory b e t i) = absurd (none e)
  named_once k xs ys (by_none none) (by_none more) = refl

  -- what stands in a map in order is found
  in_found : (names : List (List ℕ × ℕ)) (e : List ℕ × ℕ) → IsStrictlySortedBy name_cmp (keys_of names) → In e names → at_name names e.0 ≡ Some e.1
  in_found [] e s i = absurd i
  in_found (x ∷ xs) e s (inl same) = subst (λ (e : List ℕ × ℕ). at_name (x ∷ xs) e.0 ≡ Some e.1) same (found_first name_cmp nat_list_cmp_total name_here name_same x xs)
  in_found (x ∷ xs) e s (inr i) = found_later name_cmp nat_list_cmp_total name_here name_same x xs e.0 e.1 s (in_found xs e (sorted_tail name_cmp x.0 (keys_of xs) s) i)

  -- and names lead to them
  named_reached : (k : ℕ) (xs : List ℕ) → AreNamed g blocks k xs → IsReached g blocks k → (n : ℕ) → In n xs → IsReached g blocks n
  named_reached k xs (by_none none) r n i = absurd i
  named_reached k xs (by_directory names d s h) r n i =
      let x = In-map (λ (e : List ℕ × ℕ). inode_of_birth e.1) names n i in
      let y = (h x.0.0 x.0.1).0 (in_found names x.0 s x.1) in
      let m : NamesAt g blocks k y.place y.slot =
      record { directory = d; entry = record { below = y.below; stands = y.stands; no_dot = subst (λ name. is_dot name ≡ false) (sym y.name_is) y.no_dot } } in
      let same : y.slot.inode ≡ n = sym (inode_of_birth_of y.slot.inode (slot_used g blocks (inode_at g blocks k) y.place y.slot m.entry)) ∙ (ap inode_of_birth y.birth_is ∙ x.2) in
      subst (λ n. IsReached g blocks n) same (by_name r m)

  met_reached : (met ahead : List ℕ) → AreMet g blocks met ahead → ((k : ℕ) → In k met → IsReached g blocks k) × ((k : ℕ) → In k ahead → IsReached g blocks k)
  met_reached met ahead at_start = (λ k i. absurd i, λ k i. ⊎_elim (λ e. subst (λ k. IsReached g blocks k) e at_root) (λ none. absurd none) i)
  met_reached met ahead (again was order) = let h = met_reached met _ order in (h.0, λ k i. h.1 k (inr i))
  met_reached met ahead (next {met = earlier} {ahead = later} {named} {inode} new order names) =
      let h = met_reached earlier (inode ∷ later) order in (
        λ k i. ⊎_elim (h.0 k) (λ e. subst (λ k. IsReached g blocks k) e (h.1 inode (inl refl))) (In-push_cases earlier inode k i),
        λ k i. ⊎_elim (named_reached inode named names (h.1 inode (inl refl)) k) (λ j. h.1 k (inr j)) (In-append_cases named later k i),
      )

  -- ---- from one turn to later ones

  -- from these inodes on, `met` comes to be met, with `ahead` to come
  data Comes (m a : List ℕ) : List ℕ → List ℕ → Type 0 where
    here : Comes m a m a
    over : {met ahead : List ℕ} {inode : ℕ} → In inode met → Comes m a met (inode ∷ ahead) → Comes m a met ahead
    on : {met ahead named : List ℕ} {inode : ℕ} → (In inode met → ⊥) → Comes m a met (inode ∷ ahead) → AreNamed g blocks inode named → Comes m a (met ++ inode ∷ []) (named ++ ahead)

  still_met : (m a met ahead : List ℕ) → Comes m a met ahead → (k : ℕ) → In k m → In k met
  still_met m a met ahead here k i = i
  still_met m a met ahead (over was c) k i = still_met m a met _ c k i
  still_met m a met ahead (on {met = earlier} {inode} new c names) k i = In-push_left earlier inode k (still_met m a earlier _ c k i)

  from_start : (met ahead : List ℕ) → AreMet g blocks met ahead → Comes [] (1 ∷ []) met ahead
  from_start met ahead at_start = here
  from_start met ahead (again was order) = over was (from_start met _ order)
  from_start met ahead (next {met = earlier} new order names) = on new (from_start earlier _ order) names

  -- the first turn of several: there is none, the next inode was met, or it is met now
  data FirstTurn (m : List ℕ) (i : ℕ) (a : List ℕ) (met ahead : List ℕ) : Type 0 where
    none_yet : m ≡ met → i ∷ a ≡ ahead → FirstTurn m i a met ahead
    first_over : In i m → Comes m a met ahead → FirstTurn m i a met ahead
    first_on : (named : List ℕ) → (In i m → ⊥) → AreNamed g blocks i named → Comes (m ++ i ∷ []) (named ++ a) met ahead → FirstTurn m i a met ahead

  turned_over : (m : List ℕ) (i : ℕ) (a met ahead : List ℕ) (inode : ℕ) → In inode met → FirstTurn m i a met (inode ∷ ahead) → FirstTurn m i a met ahead
  turned_over m i a met ahead inode was (none_yet e f) =
      let first : i ≡ inode = head_same i inode a ahead f in
      first_over (subst (λ k. In k m) (sym first) (subst (λ met. In inode met) (sym e) was))
      (subst (λ ahead. Comes m a met ahead) (tail_same i inode a ahead f) (subst (λ met. Comes m a met a) e here))
  turned_over m i a met ahead inode was (first_over h c) = first_over h (over was c)
  turned_over m i a met ahead inode was (first_on named h names c) = first_on named h names (over was c)

  turned_on : (m : List ℕ) (i : ℕ) (a met ahead named : List ℕ) (inode : ℕ) → (In inode met → ⊥) → AreNamed g blocks inode named → FirstTurn m i a met (inode ∷ ahead) →
      FirstTurn m i a (met ++ inode ∷ []) (named ++ ahead)
  turned_on m i a met ahead named inode new names (none_yet e f) =
      let first : i ≡ inode = head_same i inode a ahead f in
      let rest : a ≡ ahead = tail_same i inode a ahead f in
      first_on named (λ h. new (subst (λ k. In k met) first (subst (λ m. In i m) e h))) (subst (λ k. AreNamed g blocks k named) (sym first) names)
      (subst (λ ahead. Comes (m ++ i ∷ []) (named ++ a) (met ++ inode ∷ []) (named ++ ahead)) rest
      (subst (λ k. Comes (m ++ i ∷ []) (named ++ a) (met ++ k ∷ []) (named ++ a)) first
      (subst (λ met. Comes (m ++ i ∷ []) (named ++ a) (met ++ i ∷ []) (named ++ a)) e here)))
  turned_on m i a met ahead named inode new names (first_over h c) = first_over h (on new c names)
  turned_on m i a met ahead named inode new names (first_on more h theirs c) = first_on more h theirs (on new c names)

  first_turn : (m : List ℕ) (i : ℕ) (a met ahead : List ℕ) → Comes m (i ∷ a) met ahead → FirstTurn m i a met ahead
  first_turn m i a met ahead here = none_yet refl refl
  first_turn m i a met ahead (over {inode} was c) = turned_over m i a met ahead inode was (first_turn m i a met (inode ∷ ahead) c)
  first_turn m i a met ahead (on {met = earlier} {ahead = later} {named} {inode} new c names) =
      turned_on m i a earlier later named inode new names (first_turn m i a earlier (inode ∷ later) c)

  -- of two turns one comes from the other
  one_way : (m a met ahead : List ℕ) → AreMet g blocks m a → Comes [] (1 ∷ []) met ahead → Comes m a met ahead ⊎ Comes met ahead m a
  one_way m a met ahead order here = inr (from_start m a order)
  one_way m a met ahead order (over {inode} was c) =
      ⊎_elim (λ later. inl (over was later))
      (λ earlier. by (first_turn met inode ahead m a earlier))
      (one_way m a met (inode ∷ ahead) order c)
    where
      by : FirstTurn met inode ahead m a → Comes m a met ahead ⊎ Comes met ahead m a
      by (none_yet e f) = inl (over was (subst (λ a. Comes m a met (inode ∷ ahead)) f (subst (λ m. Comes m (inode ∷ ahead) met (inode ∷ ahead)) e here)))
      by (first_over h c) = inr c
      by (first_on named h names c) = absurd (h was)
  one_way m a met ahead order (on {met = earlier} {ahead = later} {named} {inode} new c names) =
      ⊎_elim (λ k. inl (on new k names))
      (λ k. by (first_turn earlier inode later m a k))
      (one_way m a earlier (inode ∷ later) order c)
    where
      by : FirstTurn earlier inode later m a → Comes m a (earlier ++ inode ∷ []) (named ++ later) ⊎ Comes (earlier ++ inode ∷ []) (named ++ later) m a
      by (none_yet e f) = inl (on new (subst (λ a. Comes m a earlier (inode ∷ later)) f (subst (λ m. Comes m (inode ∷ later) earlier (inode ∷ later)) e here)) names)
      by (first_over h c) = absurd (new h)
      by (first_on more h theirs c) = inr (subst (λ named. Comes (earlier ++ inode ∷ []) (named ++ later) m a) (named_once inode more named theirs names) c)

  -- ---- an inode with a fault is none of those without

  module _ (P : ℕ → Type 0) (h : AreFaultless g blocks P) (met : ℕ → Type 0) (within : (k : ℕ) → met k → P k) (n : ℕ) (is : P n) (new : met n → ⊥) where
    no_bad_inode : IsBadInode g blocks n → ⊥
    no_bad_inode (root_is_none one none) = none (subst (λ k. IsDirectory g blocks k) (sym one) (h.root (subst P one is)))
    no_bad_inode (size_too_large z great) = let low = h.size n is z in omega (arith, great, low)
    no_bad_inode (part_of_a_slot d some) = some (h.whole_slots n is d)

    no_bad_zone : (x : ZonePlace) → HasZones g blocks n → zone_at_place g blocks n x ≢ 0 → IsBadZone g blocks met n x → ⊥
    no_bad_zone x z some (too_low low) = let w = (h.zone_within n x is z some).0 in omega (arith, low, w)
    no_bad_zone x z some (too_high high) = let w = (h.zone_within n x is z some).1 in omega (arith, high, w)
    no_bad_zone x z some (had_by other y was kind same) =
        new (subst met (sym (h.zone_once n other x y is (within other was) z kind some (sym same)).0) was)
    no_bad_zone x z some (had_here y before same) =
        let one : rank x ≡ rank y = ap rank (h.zone_once n n x y is is z z some (sym same)).1 in omega arith

    no_bad_slot : (p : ℕ) → IsDirectory g blocks n → p < slots_of g blocks n → IsBadSlot g blocks met n p → ⊥
    no_bad_slot p d below (no_name none) = let r = h.slot_read n p is d below in err-ok BadSlot r.0 (sym none ∙ r.1)
    no_bad_slot p d below (no_inode slot m past) = let w = h.inode_within n p slot is m in omega (arith, past, w)
    no_bad_slot p d below (name_before slot more other m before k same) = let one = h.name_once n other p more slot is k m same in omega (arith, one, before)
    no_bad_slot p d below (names_root slot m one kind) = h.root_unnamed n p slot is m one
    no_bad_slot p d below (named_by slot more other at m kind was k same) =
        new (subst met (sym (h.directory_once n other p at slot more is (within other was) m k (sym same) kind).0) was)
    no_bad_slot p d below (named_here slot more at m kind before k same) =
        let one = (h.directory_once n n p at slot more is is m k (sym same) kind).1 in omega (arith, one, before)

    no_first : (fault : LayoutFault) (block : ℕ) → IsFirstHere g blocks met n fault block → ⊥
    no_first fault block (of_inode bad) = no_bad_inode bad
    no_first fault block (of_zone x good z earlier some bad) = no_bad_zone x z some bad
    no_first fault block (of_slot p good d zones earlier below bad) = no_bad_slot p d below bad

  -- ---- an inode has one first fault

  same_here : (met : ℕ → Type 0) (n : ℕ) (fault other : LayoutFault) (block more : ℕ) → IsFirstHere g blocks met n fault block → IsFirstHere g blocks met n other more →
      ◌≡◌ {A = Fault} (fault, block) (other, more)
  same_here met n fault other block more (of_inode bad) (of_inode b) = refl
  same_here met n fault other block more (of_inode bad) (of_zone x good z earlier some b) = absurd (good bad)
  same_here met n fault other block more (of_inode bad) (of_slot p good d zones earlier below b) = absurd (good bad)
  same_here met n fault other block more (of_zone x good z earlier some bad) (of_inode b) = absurd (good b)
  same_here met n fault other block more (of_zone x good z earlier some bad) (of_zone y fine w before there b) =
      ⊎_elim
      (λ low. absurd (before x low some bad))
      (λ high.
      ⊎_elim
      (λ lower. absurd (earlier y lower there b))
      (λ higher. ap (λ x. (BadZone, pointer_block_of g blocks n x)) (same_rank x y (omega arith)))
      (cases_lt (rank y) (rank x)))
      (cases_lt (rank x) (rank y))
  same_here met n fault other block more (of_zone x good z earlier some bad) (of_slot p fine d zones before below b) = absurd (zones x some bad)
  same_here met n fault other block more (of_slot p good d zones earlier below bad) (of_inode b) = absurd (good b)
  same_here met n fault other block more (of_slot p good d zones earlier below bad) (of_zone y fine w before there b) = absurd (zones y there b)
  same_here met n fault other block more (of_slot p good d zones earlier below bad) (of_slot q fine e all before under b) =
      ⊎_elim
      (λ low. absurd (before p low bad))
      (λ high.
      ⊎_elim
      (λ lower. absurd (earlier q lower b))
      (λ higher. ap (λ p. (BadSlot, slot_zone g blocks n p)) (let same : p ≡ q = omega arith in same))
      (cases_lt q p))
      (cases_lt p q)

  -- ---- a volume has one first fault

  module _ (fault other : LayoutFault) (block more : ℕ) (a : IsFirstFault g blocks fault block) (b : IsFirstFault g blocks other more) where
    one_by : FirstTurn a.met a.inode a.ahead b.met (b.inode ∷ b.ahead) → ◌≡◌ {A = Fault} (fault, block) (other, more)
    one_by (none_yet e f) =
        let inode : a.inode ≡ b.inode = head_same a.inode b.inode a.ahead b.ahead f in
        same_here (λ k. In k b.met) b.inode fault other block more
        (subst (λ n. IsFirstHere g blocks (λ k. In k b.met) n fault block) inode (subst (λ met. IsFirstHere g blocks (λ k. In k met) a.inode fault block) e a.here)) b.here
    one_by (first_over h c) = absurd (a.new h)
    one_by (first_on named h names c) =
        let kept : (k : ℕ) → In k (a.met ++ a.inode ∷ []) → In k b.met = still_met (a.met ++ a.inode ∷ []) (named ++ a.ahead) b.met (b.inode ∷ b.ahead) c in
        absurd (no_first (λ k. In k b.met) b.before (λ k. In k a.met) (λ k i. kept k (In-push_left a.met a.inode k i)) a.inode (kept a.inode (In-push a.met a.inode)) a.new fault block a.here)

  pub one_first : (fault other : LayoutFault) (block more : ℕ) → IsFirstFault g blocks fault block → IsFirstFault g blocks other more → ◌≡◌ {A = Fault} (fault, block) (other, more)
  one_first fault other block more a b =
      ⊎_elim
      (λ c. one_by fault other block more a b (first_turn a.met a.inode a.ahead b.met (b.inode ∷ b.ahead) c))
      (λ c. sym (one_by other fault more block b a (first_turn b.met b.inode b.ahead a.met (a.inode ∷ a.ahead) c)))
      (one_way a.met (a.inode ∷ a.ahead) b.met (b.inode ∷ b.ahead) a.order (from_start b.met (b.inode ∷ b.ahead) b.order))

  told_by : (r : Result Walked Fault) → walked g blocks ≡ r → Ends g blocks r → 0 < g.inodes → (fault : LayoutFault) (block : ℕ) → IsFirstFault g blocks fault block → walked g blocks ≡ Err (fault, block)
  told_by (Err told) is ends some fault block a = is ∙ ap Err (one_first told.0 fault told.1 block ends.0 a)
  told_by (Ok all) is ends some fault block a =
      let reached = met_reached a.met (a.inode ∷ a.ahead) a.order in
      absurd (no_defect g blocks (walked_faultless g blocks all some is) fault block
      (first_defect g blocks (λ k. In k a.met) a.inode (reached.1 a.inode (inl refl)) reached.0 a.new fault block a.here))

  -- the walk tells the first fault, where there is one
  pub first_told : 0 < g.inodes → (fault : LayoutFault) (block : ℕ) → IsFirstFault g blocks fault block → walked g blocks ≡ Err (fault, block)
  first_told some fault block a = told_by (walked g blocks) refl (walked_tested g blocks some) some fault block a
