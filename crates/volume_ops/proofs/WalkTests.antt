-- What the walk through a volume finds: no fault, and all inodes that names lead to, or the first fault.
use Rattle.std.specs.Prelude.{◌≡◌, ℕ, zero, suc, ◌+◌, ◌<◌, ◌≤◌, ◌⊎◌, ◌↔◌, Bool, true, false, if◌then◌else◌, List, [], ◌∷◌, ◌++◌, Result, Ok, Err, refl}
use Rattle.std.proofs.Common.{sym, ap, subst, ◌∙◌, inl, inr, ⊎_elim, arith}
use Rattle.std.proofs.lemmas.Bool.{true≢false, cases_Bool}
use Rattle.blk_base.specs.Members.{In}
use Rattle.blk_base.specs.laws.Members.{In-push, In-push_left, In-append_right}
use Rattle.minix_layout.specs.declared.division.Geometry.{Geometry}
use Rattle.minix_layout.specs.declared.fault.LayoutFault.{LayoutFault}
use Rattle.minix_layout.specs.declared.fault.LayoutFault.TheVariants.{BadZone, BadSlot}
use Rattle.volume_ops.specs.Reads.{Reads, Ret, answer, if_ok, go_on}
use Rattle.volume_ops.specs.laws.ReadsLaws.{answer-and_then, err-ok, same_Ok}
use Rattle.volume_ops.specs.Marks.{no_marks, is_marked, unmet}
use Rattle.volume_ops.specs.laws.MarksLaws.{is_marked_same, is_marked_new, length-marked, no_mark, length-no_marks, unmet-no_marks, unmet-marked}
use Rattle.volume_ops.specs.Volume.{disk_of, walked}
use Rattle.volume_ops.specs.Zones.{Fault}
use Rattle.volume_ops.specs.Walk.{WalkState, Walked, found_in, Pending, Visit, visit, walk_through, walk, at_start, root, walk_volume}
use Rattle.volume_ops.specs.Faultless.{IsDirectory, IsUsed, IsReached, at_root, by_name, AreFaultless, IsFaultless}
use Rattle.volume_ops.specs.ZonePlaces.{rank}
use Rattle.volume_ops.specs.FirstFault.{pointer_block_of, slot_zone, IsBadInode, root_is_none, size_too_large, part_of_a_slot, IsBadZone, too_low, too_high, had_by, had_here, IsBadSlot, no_name, no_inode, name_before, names_root, named_by, named_here, AreMet, again, next as next_met, at_start as met_none, IsFirstFault, IsFirstHere, of_inode, of_zone, of_slot}
use Rattle.volume_ops.specs.Defects.{IsDefect, bad_inode, zone_outside, zone_twice, slot_without_name, slot_without_inode, name_twice, root_named, directory_twice}
use Rattle.volume_ops.proofs.SoFar.{IsSoFar}
use Rattle.volume_ops.proofs.VisitTests as visit_tests
use Rattle.volume_ops.proofs.VisitTests.{numbers_of, visit_tested}

-- the walk ended well, with what was found in this state, or told the first fault
pub record EndsWell (g : Geometry) (blocks : List (List ℕ)) (all : Walked) : Type 0 where
  pub met : List ℕ
  pub state : WalkState
  pub so_far : IsSoFar g blocks met [] state
  pub all_is : found_in state ≡ all

abbrev pub Ends : Geometry → List (List ℕ) → Result Walked Fault → Type 0
Ends g blocks (Ok all) = EndsWell g blocks all
Ends g blocks (Err fault) = IsFirstFault g blocks fault.0 fault.1 × IsDefect g blocks fault.0 fault.1

pub numbers_append : (xs ys : List Pending) → numbers_of (xs ++ ys) ≡ numbers_of xs ++ numbers_of ys
numbers_append [] ys = refl
numbers_append (x ∷ xs) ys = ap (λ ks. x.inode ∷ ks) (numbers_append xs ys)

module _ (g : Geometry) (blocks : List (List ℕ)) where
  abbrev disk : ℕ → List ℕ
  disk = disk_of blocks

  -- an inode that was met is passed over
  pub passed : (met ahead : List ℕ) (n : ℕ) (w : WalkState) → IsSoFar g blocks met (n ∷ ahead) w → In n met → IsSoFar g blocks met ahead w
  passed met ahead n w h was = record {
    order = again was h.order;
    faultless = h.faultless;
    some = h.some;
    marks = h.marks;
    by_mark = h.by_mark;
    reached = h.reached;
    ahead_reached = λ k i. h.ahead_reached k (inr i);
    ahead_some = λ k i. h.ahead_some k (inr i);
    ahead_within = λ k i. h.ahead_within k (inr i);
    zones_marked = h.zones_marked;
    zones_by = h.zones_by;
    named_marked = h.named_marked;
    named_by = h.named_by;
    root_named = h.root_named;
    root_is = ⊎_elim (λ first. inl (λ k i. first k (inr i))) inr h.root_is;
    leads = λ k place slot i m.
        ⊎_elim inl
        (λ later. ⊎_elim (λ same. inl (subst (λ k. In k met) same was)) inr later)
        (h.leads k place slot i m);
    zones_size = h.zones_size;
    inodes_size = h.inodes_size;
    named_size = h.named_size;
  }

  -- the first fault of an inode that names lead to is a defect
  pub first_defect : (met : ℕ → Type 0) (n : ℕ) → IsReached g blocks n → ((k : ℕ) → met k → IsReached g blocks k) → (met n → ⊥) → (fault : LayoutFault) (block : ℕ) →
      IsFirstHere g blocks met n fault block → IsDefect g blocks fault block
  first_defect met n r reached new fault block (of_inode bad) = bad_inode r bad
  first_defect met n r reached new fault block (of_zone x good zoned earlier some bad) = by bad
    where
      by : IsBadZone g blocks met n x → IsDefect g blocks BadZone (pointer_block_of g blocks n x)
      by (too_low low) = zone_outside x r zoned some (inl low)
      by (too_high high) = zone_outside x r zoned some (inr high)
      by (had_by other y was z same) = zone_twice x y r (reached other was) zoned z some (sym same) (λ e _. new (subst met (sym e) was))
      by (had_here y before same) = zone_twice x y r r zoned zoned some (sym same) (λ _ e. let one : rank x ≡ rank y = ap rank e in omega arith)
  first_defect met n r reached new fault block (of_slot place good d zones earlier below bad) = by bad
    where
      by : IsBadSlot g blocks met n place → IsDefect g blocks BadSlot (slot_zone g blocks n place)
      by (no_name none) = slot_without_name place r d below none
      by (no_inode slot m past) = slot_without_inode place slot r m past
      by (name_before slot more other m before k same) = name_twice place other slot more r m k (sym same) (λ e. omega arith)
      by (names_root slot m one kind) = root_named place slot r m one
      by (named_by slot more other at m kind was k same) =
          directory_twice place at slot more r (reached other was) m k (sym same) kind (λ e _. new (subst met (sym e) was))
      by (named_here slot more at m kind before k same) = directory_twice place at slot more r r m k (sym same) kind (λ _ e. omega arith)

  module _ (n : ℕ) (next : WalkState → List Pending → Reads (Result Walked Fault))
      (goes : (met : List ℕ) (w : WalkState) (rest : List Pending) → IsSoFar g blocks met (numbers_of rest) w → unmet w.inodes ≤ n → Ends g blocks (answer disk (next w rest))) where
    visited : (met : List ℕ) (w : WalkState) (e : Pending) (rest : List Pending) (h : IsSoFar g blocks met (e.inode ∷ numbers_of rest) w) (new : In e.inode met → ⊥) →
        unmet w.inodes ≤ n + 1 → (r : Result Visit Fault) → visit_tests.IsTested g blocks met (numbers_of rest) w e h new r →
        Ends g blocks (answer disk (go_on (λ v. next v.state (v.names ++ rest)) r))
    visited met w e rest h new budget (Ok v) good =
        let few : unmet w.inodes ≡ unmet v.state.inodes + 1 =
        subst (λ marks. unmet w.inodes ≡ unmet marks + 1) (sym good.1)
        (unmet-marked w.inodes e.inode (let low = h.ahead_within e.inode (inl refl) in omega (arith, h.inodes_size))
        (⊎_elim (λ t. absurd (new (h.by_mark e.inode t))) (λ f. f) (cases_Bool (is_marked w.inodes e.inode)))) in
        goes (met ++ e.inode ∷ []) v.state (v.names ++ rest)
        (subst (λ ks. IsSoFar g blocks (met ++ e.inode ∷ []) ks v.state) (sym (numbers_append v.names rest)) good.0) (omega arith)
    visited met w e rest h new budget (Err fault) first = (
      record {
        met = met;
        ahead = numbers_of rest;
        inode = e.inode;
        order = h.order;
        new = new;
        before = h.faultless;
        here = first;
      },
      first_defect (λ k. In k met) e.inode (h.ahead_reached e.inode (inl refl)) h.reached new fault.0 fault.1 first,
    )

    through_by : (met : List ℕ) (w : WalkState) (e : Pending) (rest : List Pending) (was : Bool) → is_marked w.inodes e.inode ≡ was →
        IsSoFar g blocks met (e.inode ∷ numbers_of rest) w → unmet w.inodes ≤ n + 1 →
        (IsSoFar g blocks met (numbers_of rest) w → Ends g blocks (answer disk (walk_through g next w rest))) →
        Ends g blocks (answer disk (if was then walk_through g next w rest else if_ok (visit g w e) (λ v. next v.state (v.names ++ rest))))
    through_by met w e rest true was h budget past = past (passed met (numbers_of rest) e.inode w h (h.by_mark e.inode was))
    through_by met w e rest false was h budget past =
        let new : In e.inode met → ⊥ = λ i. true≢false (sym (h.marks e.inode i) ∙ was) in
        subst (λ r. Ends g blocks r) (sym (answer-and_then disk (visit g w e) (go_on (λ v. next v.state (v.names ++ rest)))))
        (visited met w e rest h new budget (answer disk (visit g w e)) (visit_tested g blocks met (numbers_of rest) w e h new))

    through : (met : List ℕ) (w : WalkState) (pending : List Pending) → IsSoFar g blocks met (numbers_of pending) w → unmet w.inodes ≤ n + 1 →
        Ends g blocks (answer disk (walk_through g next w pending))
    through met w [] h budget = record { met = met; state = w; so_far = h; all_is = refl }
    through met w (e ∷ rest) h budget = through_by met w e rest (is_marked w.inodes e.inode) refl h budget (λ h. through met w rest h budget)

  walk_tested : (n : ℕ) (met : List ℕ) (w : WalkState) (pending : List Pending) → IsSoFar g blocks met (numbers_of pending) w → unmet w.inodes ≤ n + 1 →
      Ends g blocks (answer disk (walk n g w pending))
  walk_tested zero met w pending h budget =
      through 0 (λ w rest. Ret (Ok (found_in w)))
      (λ met w rest h none.
      let no_zero : is_marked w.inodes 0 ≡ false = ⊎_elim (λ t. let low = h.some 0 (h.by_mark 0 t) in absurd (omega arith)) (λ f. f) (cases_Bool (is_marked w.inodes 0)) in
      let left = unmet-marked w.inodes 0 (omega (arith, h.inodes_size)) no_zero in absurd (omega arith))
      met w pending h budget
  walk_tested (suc n) met w pending h budget =
      through (n + 1) (walk n g) (λ met w rest h left. walk_tested n met w rest h left) met w pending h (omega arith)

  none_met : AreFaultless g blocks (λ k. In k [])
  none_met = record {
    root = λ i. absurd i;
    size = λ k i. absurd i;
    whole_slots = λ k i. absurd i;
    zone_within = λ k x i. absurd i;
    zone_once = λ k other x y i. absurd i;
    slot_read = λ k place i. absurd i;
    inode_within = λ k place slot i. absurd i;
    name_once = λ k place other slot more i. absurd i;
    directory_once = λ k other place at slot more i. absurd i;
    root_unnamed = λ k place slot i. absurd i;
  }

  pub starts : 0 < g.inodes → IsSoFar g blocks [] (numbers_of (root ∷ [])) (at_start g)
  starts some = record {
    order = met_none;
    faultless = none_met;
    some = λ k i. absurd i;
    marks = λ k i. absurd i;
    by_mark = λ k t. absurd (true≢false (sym t ∙ no_mark (g.inodes + 1) k));
    reached = λ k i. absurd i;
    ahead_reached = λ k i. ⊎_elim (λ e. subst (λ k. IsReached g blocks k) e at_root) (λ i. absurd i) i;
    ahead_some = λ k i. ⊎_elim (λ e. subst (λ k. 0 < k) e (omega arith)) (λ i. absurd i) i;
    ahead_within = λ k i. ⊎_elim (λ e. subst (λ k. k ≤ g.inodes) e (omega arith)) (λ i. absurd i) i;
    zones_marked = λ k x i. absurd i;
    zones_by = λ z t. absurd (true≢false (sym t ∙ no_mark g.zones z));
    named_marked = λ k place slot i. absurd i;
    named_by = λ k t. ⊎_elim (λ old. absurd (true≢false (sym old ∙ no_mark (g.inodes + 1) k))) (λ f. inl (is_marked_new (no_marks (g.inodes + 1)) 1 k f t)) (cases_Bool (is_marked (no_marks (g.inodes + 1)) k));
    root_named = is_marked_same (no_marks (g.inodes + 1)) 1 (omega (arith, length-no_marks (g.inodes + 1)));
    root_is = inl (λ k i. ⊎_elim sym (λ i. absurd i) i);
    leads = λ k place slot i. absurd i;
    zones_size = length-no_marks g.zones;
    inodes_size = length-no_marks (g.inodes + 1);
    named_size = length-marked (no_marks (g.inodes + 1)) 1 ∙ length-no_marks (g.inodes + 1);
  }

  -- the walk through a volume ends well or tells the first fault
  pub walked_tested : 0 < g.inodes → Ends g blocks (walked g blocks)
  unfolding walked walk_volume
  walked_tested some =
      walk_tested g.inodes [] (at_start g) (root ∷ []) (starts some) (omega (arith, unmet-no_marks (g.inodes + 1)))

same_Err : {A E : Type 0} (a b : E) → ◌≡◌ {A = Result A E} (Err a) (Err b) → a ≡ b
same_Err a b h = cc

-- ---- where it ends well

module _ (g : Geometry) (blocks : List (List ℕ)) (all : Walked) (ends : EndsWell g blocks all) where
  abbrev h : IsSoFar g blocks ends.met [] ends.state
  h = ends.so_far

  root_in : (met ahead : List ℕ) → AreMet g blocks met ahead → In 1 met ⊎ In 1 ahead
  root_in met ahead met_none = inr (inl refl)
  root_in met ahead (again {inode} was order) =
      ⊎_elim inl (λ i. ⊎_elim (λ e. inl (subst (λ k. In k met) e was)) inr i) (root_in met (inode ∷ ahead) order)
  root_in met ahead (next_met {met = earlier} {ahead = later} {named} {inode} new order names) =
      ⊎_elim
      (λ i. inl (In-push_left earlier inode 1 i))
      (λ i. ⊎_elim (λ e. inl (subst (λ k. In k (earlier ++ inode ∷ [])) e (In-push earlier inode))) (λ i. inr (In-append_right named later 1 i)) i)
      (root_in earlier (inode ∷ later) order)

  root_met : In 1 ends.met
  root_met = ⊎_elim (λ i. i) (λ i. absurd i) (root_in ends.met [] h.order)

  -- names lead to no other inodes than those that were met
  pub all_met : {k : ℕ} → IsReached g blocks k → In k ends.met
  all_met at_root = root_met
  all_met (by_name {inode} {place} {slot} r m) = ⊎_elim (λ i. i) (λ i. absurd i) (h.leads inode place slot (all_met r) m)

  pub no_fault : IsFaultless g blocks
  no_fault = record {
    root = λ r. h.faultless.root (all_met r);
    size = λ k r. h.faultless.size k (all_met r);
    whole_slots = λ k r. h.faultless.whole_slots k (all_met r);
    zone_within = λ k x r. h.faultless.zone_within k x (all_met r);
    zone_once = λ k other x y r s. h.faultless.zone_once k other x y (all_met r) (all_met s);
    slot_read = λ k place r. h.faultless.slot_read k place (all_met r);
    inode_within = λ k place slot r. h.faultless.inode_within k place slot (all_met r);
    name_once = λ k place other slot more r. h.faultless.name_once k place other slot more (all_met r);
    directory_once = λ k other place at slot more r s. h.faultless.directory_once k other place at slot more (all_met r) (all_met s);
    root_unnamed = λ k place slot r. h.faultless.root_unnamed k place slot (all_met r);
  }

  -- what was marked is what is used
  pub used_marked : (z : ℕ) → (is_marked ends.state.zones z ≡ true) ↔ IsUsed g blocks z
  used_marked z = (
    λ t. let x = h.zones_by z t in record { inode = x.0; place = x.1; reached = h.reached x.0 x.2; kind = x.3; some = λ none. x.4 (x.5 ∙ none); stands = x.5 },
    λ u. subst (λ z. is_marked ends.state.zones z ≡ true) u.stands (h.zones_marked u.inode u.place (all_met u.reached) u.kind (λ none. u.some (sym u.stands ∙ none))),
  )

-- ---- a volume without a fault has no defect

no_bad_inode : (g : Geometry) (blocks : List (List ℕ)) → IsFaultless g blocks → (k : ℕ) → IsReached g blocks k → IsBadInode g blocks k → ⊥
no_bad_inode g blocks h k r (root_is_none one none) = none (subst (λ k. IsDirectory g blocks k) (sym one) (h.root at_root))
no_bad_inode g blocks h k r (size_too_large z great) = let low = h.size k r z in omega (arith, great, low)
no_bad_inode g blocks h k r (part_of_a_slot d some) = some (h.whole_slots k r d)

pub no_defect : (g : Geometry) (blocks : List (List ℕ)) → IsFaultless g blocks → (fault : LayoutFault) (block : ℕ) → IsDefect g blocks fault block → ⊥
no_defect g blocks h fault block (bad_inode {inode} r bad) = no_bad_inode g blocks h inode r bad
no_defect g blocks h fault block (zone_outside {inode} x r z some out) =
    let within = h.zone_within inode x r z some in
    ⊎_elim (λ low. let from = within.0 in omega (arith, low, from)) (λ high. let to = within.1 in omega (arith, high, to)) out
no_defect g blocks h fault block (zone_twice {inode} {other} x y r s z zz some same apart) =
    let one = h.zone_once inode other x y r s z zz some same in apart one.0 one.1
no_defect g blocks h fault block (slot_without_name {inode} place r d below none) =
    let read = h.slot_read inode place r d below in err-ok BadSlot read.0 (sym none ∙ read.1)
no_defect g blocks h fault block (slot_without_inode {inode} place slot r m past) =
    let within = h.inode_within inode place slot r m in omega (arith, past, within)
no_defect g blocks h fault block (name_twice {inode} place other slot more r m k same apart) = apart (h.name_once inode place other slot more r m k same)
no_defect g blocks h fault block (root_named {inode} place slot r m one) = h.root_unnamed inode place slot r m one
no_defect g blocks h fault block (directory_twice {inode} {other} place at slot more r s m k same d apart) =
    let one = h.directory_once inode other place at slot more r s m k same d in apart one.0 one.1

-- ---- both ways

ok_faultless : (g : Geometry) (blocks : List (List ℕ)) (r : Result Walked Fault) → Ends g blocks r → (all : Walked) → r ≡ Ok all → IsFaultless g blocks
ok_faultless g blocks (Ok found) ends all e = no_fault g blocks found ends
ok_faultless g blocks (Err fault) ends all e = absurd (err-ok fault all e)

-- where the walk ends well there is no fault
pub walked_faultless : (g : Geometry) (blocks : List (List ℕ)) (all : Walked) → 0 < g.inodes → walked g blocks ≡ Ok all → IsFaultless g blocks
walked_faultless g blocks all some e = ok_faultless g blocks (walked g blocks) (walked_tested g blocks some) all e

ok_used : (g : Geometry) (blocks : List (List ℕ)) (r : Result Walked Fault) → Ends g blocks r → (all : Walked) → r ≡ Ok all → (z : ℕ) → (is_marked all.zones z ≡ true) ↔ IsUsed g blocks z
ok_used g blocks (Ok found) ends all e z =
    subst (λ (w : Walked). (is_marked w.zones z ≡ true) ↔ IsUsed g blocks z) (ends.all_is ∙ same_Ok found all e) (used_marked g blocks found ends z)
ok_used g blocks (Err fault) ends all e z = absurd (err-ok fault all e)

-- and the zones that were met are those that are used
pub walked_used : (g : Geometry) (blocks : List (List ℕ)) (all : Walked) → 0 < g.inodes → walked g blocks ≡ Ok all → (z : ℕ) → (is_marked all.zones z ≡ true) ↔ IsUsed g blocks z
walked_used g blocks all some e = ok_used g blocks (walked g blocks) (walked_tested g blocks some) all e

faultless_ok : (g : Geometry) (blocks : List (List ℕ)) (r : Result Walked Fault) → Ends g blocks r → IsFaultless g blocks → (all : Walked) × (r ≡ Ok all)
faultless_ok g blocks (Ok all) ends h = (all, refl)
faultless_ok g blocks (Err fault) ends h = absurd (no_defect g blocks h fault.0 fault.1 ends.1)

-- where there is no fault the walk ends well
pub faultless_walked : (g : Geometry) (blocks : List (List ℕ)) → 0 < g.inodes → IsFaultless g blocks → (all : Walked) × (walked g blocks ≡ Ok all)
faultless_walked g blocks some h = faultless_ok g blocks (walked g blocks) (walked_tested g blocks some) h

fault_first : (g : Geometry) (blocks : List (List ℕ)) (r : Result Walked Fault) → Ends g blocks r → (fault : LayoutFault) (block : ℕ) → r ≡ Err (fault, block) →
    IsFirstFault g blocks fault block × IsDefect g blocks fault block
fault_first g blocks (Ok all) ends fault block e = absurd (err-ok (fault, block) all (sym e))
fault_first g blocks (Err told) ends fault block e = subst (λ (f : Fault). IsFirstFault g blocks f.0 f.1 × IsDefect g blocks f.0 f.1) (same_Err told (fault, block) e) ends

-- a fault that the walk tells is the first, and a defect
pub walked_first : (g : Geometry) (blocks : List (List ℕ)) (fault : LayoutFault) (block : ℕ) → 0 < g.inodes → walked g blocks ≡ Err (fault, block) →
    IsFirstFault g blocks fault block × IsDefect g blocks fault block
walked_first g blocks fault block some e = fault_first g blocks (walked g blocks) (walked_tested g blocks some) fault block e
