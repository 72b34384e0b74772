-- What is had of a call that is done: the volume is plain, its tree is the call's, and what was touched is told.
use Rattle.std.specs.Prelude.{◌≡◌, ◌-◌, ◌+◌, ◌≤◌, ℕ, ◌⊎◌, List, [], ◌∷◌, length, Option, Some, None, Ok, refl}
use Rattle.std.proofs.Common.{sym, ap, subst, ◌∙◌, inl, ⊎_elim, arith}
use Rattle.blk_base.specs.Members.{In}
use Rattle.tree_model.specs.declared.call.Call.{Call}
use Rattle.tree_model.specs.Maps.{at_number}
use Rattle.tree_model.specs.Plain.{IsPlain, AreBornBefore}
use Rattle.tree_model.specs.Calls.{Tree, Done, outcome, tree_after, tree_from, used_zones}
use Rattle.tree_model.proofs.PlainTrees.{call_plain}
use Rattle.volume_model.specs.declared.placed.Placed.{Placed}
use Rattle.volume_steps.specs.Now.{VolumeNow, Change, tree_of_now, room_of}
use Rattle.minix_layout.specs.declared.division.Geometry.{Geometry}
use Rattle.minix_tables.specs.zones.laws.Counts.{all_counted}
use Rattle.volume_steps.proofs.Taking.{frees, uses, waits, fewer_free}
use Rattle.volume_steps.specs.Plain.{IsInUse, IsPlainNow}
use Rattle.volume_steps.specs.laws.Steady.{IsSteady}
use Rattle.volume_steps.proofs.DirectoryLinks.{AreLinked, linked_after}
use Rattle.volume_steps.proofs.PlainNow.{tree_is_plain, plain_now}
use Rattle.volume_steps.proofs.StepsTo.{StepsTo, links_at}
use Rattle.volume_steps.proofs.TreeSteps.{tree_at}

-- it frees nothing, or takes nothing
abbrev pub IsOneWay : VolumeNow → Change → Type 0
IsOneWay v c = (c.touched.freed ≡ []) ⊎ (frees c.volume.zones ≡ frees v.zones)

pub none_freed : (zones : List ℕ) → ((zone : ℕ) → In zone zones → ⊥) → zones ≡ []
none_freed [] none = refl
none_freed (zone ∷ zones) none = absurd (none zone (inl refl))

-- of a call that writes no page
pub record IsDone (tx : ℕ) (v : VolumeNow) (c : Change) (tree : Tree) : Type 0 where
  pub steady : IsSteady tx v c (λ birth index. ⊥)
  pub tree_is : tree_of_now c.volume ≡ tree
  pub plain : IsPlainNow c.volume
  pub waiting : waits c.volume.zones ≡ waits v.zones + length c.touched.freed
  pub one_way : IsOneWay v c

-- a birth that is above all others is new
pub birth_is_new : (v : VolumeNow) (n : ℕ) → AreBornBefore n (tree_of_now v) → at_number v.contents.nodes n ≡ None
birth_is_new v n before = by (at_number v.contents.nodes n) refl
  where
    by : (o : Option Placed) → at_number v.contents.nodes n ≡ o → o ≡ None
    by None e = refl
    by (Some p) e = absurd (let low = before n _ (tree_at v.contents.blocks v.contents.nodes n p e) in omega arith)

-- and is not the root's
pub birth_not_root : (v : VolumeNow) (n : ℕ) → IsPlain (tree_of_now v) → AreBornBefore n (tree_of_now v) → n ≡ 0 → ⊥
birth_not_root v n plain before e = let low = before 0 _ plain.rooted.root.1 in omega arith

-- the tree that a call leaves is plain
pub done_plain : (v : VolumeNow) (n : ℕ) (c : Call) (d : Done) → IsPlainNow v → AreBornBefore n (tree_of_now v) → outcome (room_of v.geometry) (tree_of_now v) n c ≡ Ok d → IsPlain d.tree
unfolding tree_after
done_plain v n c d h before e = subst IsPlain (ap (tree_from (tree_of_now v)) e) (call_plain (room_of v.geometry) (tree_of_now v) n c (tree_is_plain v h) before)

-- What is free, what the tree uses and what was freed are as many as before.
pub balance : (v : VolumeNow) (c : Change) → IsInUse v → IsInUse c.volume → c.volume.geometry ≡ v.geometry → waits c.volume.zones ≡ waits v.zones + length c.touched.freed →
    frees c.volume.zones + used_zones (tree_of_now c.volume) + length c.touched.freed ≡ frees v.zones + used_zones (tree_of_now v)
balance v c h k same waiting =
    by (frees v.zones) (uses v.zones) (waits v.zones) (length v.zones.states) (frees c.volume.zones) (uses c.volume.zones) (waits c.volume.zones) (length c.volume.zones.states) (length c.touched.freed)
    (used_zones (tree_of_now v)) (used_zones (tree_of_now c.volume)) (all_counted v.zones.states) (all_counted c.volume.zones.states)
    (k.size ∙ (ap (λ (g : Geometry). g.zones - g.first) same ∙ sym h.size)) waiting h.counted k.counted
  where
    by : (f u w l g x y m d t s : ℕ) → f + u + w ≡ l → g + x + y ≡ m → m ≡ l → y ≡ w + d → u ≡ t → x ≡ s → g + s + d ≡ f + t
    by f u w l g x y m d t s a b e h p q = omega arith

-- so is the volume
pub call_ends : (tx : ℕ) (v : VolumeNow) (c : Change) (tree : Tree) (links : ℕ → Option ℕ) → StepsTo tx v c tree links → IsPlain tree → AreLinked tree links → IsOneWay v c → IsDone tx v c tree
call_ends tx v c tree links s plain linked way = record {
  one_way = way;
  steady = s.steady;
  tree_is = s.tree_is;
  waiting = s.waiting;
  plain = plain_now c.volume s.steady.in_use (subst IsPlain (sym s.tree_is) plain) s.settled s.slotted
      (linked_after c.volume (subst (λ tree. AreLinked tree (links_at c.volume.contents.nodes)) (sym s.tree_is) (λ a d at. s.links_are a ∙ linked a d at)));
}

-- it takes as many free zones as its tree uses more
pub done_takes : (tx : ℕ) (v : VolumeNow) (c : Change) (tree : Tree) → IsInUse v → IsDone tx v c tree → frees c.volume.zones + (used_zones tree - used_zones (tree_of_now v)) ≡ frees v.zones
done_takes tx v c tree h k =
    let first : c.volume.zones.first ≡ v.zones.first = k.plain.in_use.first ∙ (ap (λ (g : Geometry). g.first) k.steady.geometry ∙ sym h.first) in
    let size : length c.volume.zones.states ≡ length v.zones.states = k.plain.in_use.size ∙ (ap (λ (g : Geometry). g.zones - g.first) k.steady.geometry ∙ sym h.size) in
    ⊎_elim
    (λ none. freeing (frees v.zones) (frees c.volume.zones) (used_zones (tree_of_now v)) (used_zones (tree_of_now c.volume)) (used_zones tree) (length c.touched.freed)
    (balance v c h k.plain.in_use k.steady.geometry k.waiting) (ap used_zones k.tree_is) (ap length none) (fewer_free v.zones c.volume.zones first size k.steady.lowest))
    (λ same. taking (frees v.zones) (frees c.volume.zones) (used_zones (tree_of_now v)) (used_zones (tree_of_now c.volume)) (used_zones tree) (length c.touched.freed)
    (balance v c h k.plain.in_use k.steady.geometry k.waiting) (ap used_zones k.tree_is) same)
    k.one_way
  where
    freeing : (f g u w t d : ℕ) → g + w + d ≡ f + u → w ≡ t → d ≡ 0 → g ≤ f → g + (t - u) ≡ f
    freeing f g u w t d a b c e = omega arith

    taking : (f g u w t d : ℕ) → g + w + d ≡ f + u → w ≡ t → g ≡ f → g + (t - u) ≡ f
    taking f g u w t d a b c = omega arith
