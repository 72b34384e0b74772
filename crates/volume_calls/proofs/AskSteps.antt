-- From what a row says to what is answered.
use Rattle.std.proofs.Common.{◌≡◌, ◌≤◌, ◌<◌, ℕ, List, ◌+◌, ◌-◌, nat_le, nat_lt, Bool, true, false, ◌&&◌, length, count_by, Ok, Err, refl, sym, ap, subst, ◌∙◌, arith}
use Rattle.tree_model.specs.declared.call.Call.{Call}
use Rattle.tree_model.specs.declared.call.Reply.{Reply}
use Rattle.tree_model.specs.declared.call.Reply.TheVariants as replies
use Rattle.tree_model.specs.declared.call.Room.{Room}
use Rattle.tree_model.specs.Calls.{Tree, Row, Done, and_then, refuse_if, if_room, used_zones, needs, outcome, row, takes_no_zone}
use Rattle.tree_model.specs.Plain.{IsPlain}
use Rattle.tree_model.proofs.Zones.{needs_none}
use Rattle.minix_tables.specs.zones.Zones.{is_free, is_used, is_quarantined}
use Rattle.minix_tables.specs.zones.laws.Counts.{all_counted}
use Rattle.volume_model.specs.declared.placed.Placed.{Placed}
use Rattle.volume_model.specs.Trees.{tree_now}
use Rattle.volume_steps.proofs.TreeSteps.{tree_length}
use Rattle.volume_steps.specs.Now.{VolumeNow, tree_of_now, room_of}
use Rattle.volume_steps.specs.Plain.{IsInUse}
use Rattle.volume_calls.specs.declared.answer.Answer.{Answer}
use Rattle.volume_calls.specs.declared.answer.Answer.TheVariants.{Refused, Change}
use Rattle.volume_calls.specs.declared.takes.Wants.{Wants}
use Rattle.volume_calls.specs.Asked.{Answers}
use Rattle.volume_calls.specs.code.Asked.{IsAsked}
use Rattle.volume_calls.specs.code.Rows.{Agrees}

abbrev pub nothing : Wants
nothing = record { inode = false; zones = 0 }

-- ---- zones

abbrev needs_by : Tree → Row → ℕ
needs_by tree (Err reply) = 0
needs_by tree (Ok d) = used_zones d.tree - used_zones tree

needs_as : (tree : Tree) (n : ℕ) (c : Call) → needs tree n c ≡ needs_by tree (row tree n c)
unfolding needs
needs_as tree n c = by (row tree n c)
  where
    by : (r : Row) → (elim r as (λ _. ℕ) [ Err reply ↦ 0 | Ok d ↦ used_zones d.tree - used_zones tree ]) ≡ needs_by tree r
    by (Err reply) = refl
    by (Ok d) = refl

-- a call that takes no zone
pub takes_none : (tree : Tree) → IsPlain tree → (n : ℕ) (c : Call) → takes_no_zone c ≡ true → Agrees (Ok tt) (row tree n c) → IsAsked tree (Ok nothing) (row tree n c)
takes_none tree plain n c none agrees = by (row tree n c) (sym (needs_as tree n c) ∙ needs_none tree plain n c none) agrees
  where
    by : (r : Row) → needs_by tree r ≡ 0 → Agrees (Ok tt) r → IsAsked tree (Ok nothing) r
    by (Err reply) e agrees = agrees
    by (Ok d) e agrees = (sym agrees, sym e)

pub needs_wanted : (tree : Tree) (n : ℕ) (c : Call) (wants : Wants) → IsAsked tree (Ok wants) (row tree n c) → wants.zones ≡ needs tree n c
needs_wanted tree n c wants asked = by (row tree n c) asked ∙ sym (needs_as tree n c)
  where
    by : (r : Row) → IsAsked tree (Ok wants) r → wants.zones ≡ needs_by tree r
    by (Err reply) asked = absurd asked
    by (Ok d) asked = asked.1

pub needs_refused : (tree : Tree) (n : ℕ) (c : Call) (reply : Reply) → IsAsked tree (Err reply) (row tree n c) → 0 ≡ needs tree n c
needs_refused tree n c reply asked = by (row tree n c) asked ∙ sym (needs_as tree n c)
  where
    by : (r : Row) → IsAsked tree (Err reply) r → 0 ≡ needs_by tree r
    by (Err why) asked = refl
    by (Ok d) asked = absurd asked

-- ---- answers

pub answers_done : (room : Room) (tree : Tree) (n : ℕ) (c : Call) (wants : Wants) (answer : Answer) → IsAsked tree (Ok wants) (row tree n c) →
    ((d : Done) → IsAsked tree (Ok wants) (Ok d) → Answers answer (if_room room tree d)) → Answers answer (outcome room tree n c)
unfolding outcome
answers_done room tree n c wants answer asked done = by (row tree n c) asked
  where
    by : (r : Row) → IsAsked tree (Ok wants) r → Answers answer (and_then r (if_room room tree))
    by (Err reply) asked = absurd asked
    by (Ok d) asked = done d asked

pub answers_refused : (room : Room) (tree : Tree) (n : ℕ) (c : Call) (reply : Reply) → IsAsked tree (Err reply) (row tree n c) → Answers (Refused reply) (outcome room tree n c)
unfolding outcome
answers_refused room tree n c reply asked = by (row tree n c) asked
  where
    by : (r : Row) → IsAsked tree (Err reply) r → Answers (Refused reply) (and_then r (if_room room tree))
    by (Err why) asked = asked
    by (Ok d) asked = absurd asked

-- ---- room

-- what the tree does not use is free or waits
pub left_counted : (v : VolumeNow) → IsInUse v → count_by is_free v.zones.states + count_by is_quarantined v.zones.states ≡ (room_of v.geometry).capacity - used_zones (tree_of_now v)
left_counted v h =
    by (count_by is_free v.zones.states) (count_by is_used v.zones.states) (count_by is_quarantined v.zones.states) (length v.zones.states) (v.geometry.zones - v.geometry.first) (used_zones (tree_of_now v))
    (all_counted v.zones.states) h.size h.counted
  where
    by : (f u w l c t : ℕ) → f + u + w ≡ l → l ≡ c → u ≡ t → f + w ≡ c - t
    by f u w l c t all size counted = omega arith

module _ (room : Room) (tree : Tree) (d : Done) (wants : Wants) (asked : IsAsked tree (Ok wants) (Ok d)) where
  abbrev space : Row
  space = refuse_if (nat_lt (room.capacity - used_zones tree) (used_zones d.tree - used_zones tree)) replies.NoSpace (Ok d)

  test_is : (wants.inode && nat_le room.inodes (length tree)) ≡ (d.takes_inode && nat_le room.inodes (length tree))
  test_is = ap (λ takes. takes && nat_le room.inodes (length tree)) asked.0

  pub no_inode : (wants.inode && nat_le room.inodes (length tree)) ≡ true → Answers (Refused replies.NoInode) (if_room room tree d)
  no_inode t = subst (λ (test : Bool). Answers (Refused replies.NoInode) (refuse_if test replies.NoInode space)) (sym (sym test_is ∙ t)) refl

  pub no_space : (wants.inode && nat_le room.inodes (length tree)) ≡ false → room.capacity - used_zones tree < wants.zones → Answers (Refused replies.NoSpace) (if_room room tree d)
  no_space f less =
      let few : nat_lt (room.capacity - used_zones tree) (used_zones d.tree - used_zones tree) ≡ true = (let e = asked.1 in grind arith) in
      subst (λ (test : Bool). Answers (Refused replies.NoSpace) (refuse_if test replies.NoInode space)) (sym (sym test_is ∙ f))
      (subst (λ (test : Bool). Answers (Refused replies.NoSpace) (refuse_if test replies.NoSpace (Ok d))) (sym few) refl)

  pub may_change : (wants.inode && nat_le room.inodes (length tree)) ≡ false → wants.zones ≤ room.capacity - used_zones tree → Answers Change (if_room room tree d)
  may_change f enough =
      let few : nat_lt (room.capacity - used_zones tree) (used_zones d.tree - used_zones tree) ≡ false = (let e = asked.1 in grind arith) in
      subst (λ (test : Bool). Answers Change (refuse_if test replies.NoInode space)) (sym (sym test_is ∙ f))
      (subst (λ (test : Bool). Answers Change (refuse_if test replies.NoSpace (Ok d))) (sym few) tt)

-- as many nodes as inodes
pub no_inode_left : (blocks : List (List ℕ)) (placed : List (ℕ × Placed)) (takes : Bool) (inodes from len : ℕ) → takes ≡ true → from ≡ inodes → len ≡ length placed →
    nat_le from len ≡ (takes && nat_le inodes (length (tree_now blocks placed)))
no_inode_left blocks placed takes inodes from len t is counted =
    ap (λ k. nat_le k len) is ∙ ap (nat_le inodes) (counted ∙ sym (tree_length blocks placed)) ∙ ap (λ b. b && nat_le inodes (length (tree_now blocks placed))) (sym t)
