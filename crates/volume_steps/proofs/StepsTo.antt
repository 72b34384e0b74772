-- What is had of a step on nodes and names, and of two such steps as one.
use Rattle.std.specs.Prelude.{◌≡◌, ◌≢◌, ◌+◌, ℕ, ◌⊎◌, List, [], ◌∷◌, ◌++◌, length, Option, Some, option_map}
use Rattle.std.proofs.Common.{sym, ⊎_elim, inl, arith}
use Rattle.blk_base.specs.Members.{In}
use Rattle.tree_model.specs.Maps.{at_number, put_number}
use Rattle.tree_model.specs.laws.MapOrder.{at_put_cases}
use Rattle.tree_model.specs.Calls.{Tree}
use Rattle.minix_tables.specs.declared.zones.zone_state.ZoneState.TheVariants as states
use Rattle.minix_tables.specs.zones.Zones.{state_of}
use Rattle.volume_model.specs.declared.placed.Placed.{Placed}
use Rattle.volume_model.specs.Touched.{Page, and_then}
use Rattle.volume_steps.specs.Now.{VolumeNow, Change, tree_of_now}
use Rattle.volume_steps.specs.laws.Steady.{IsSteady}
use Rattle.volume_steps.proofs.Together.{steady_then, steady_as}
use Rattle.volume_steps.proofs.Taking.{waits}
use Rattle.volume_steps.proofs.NodeSteps.{IsSettled, AreSlotted}
use Rattle.volume_steps.proofs.Marked.{SameNumbers}

-- the links of a node, if it is there
abbrev pub links_at : List (ℕ × Placed) → ℕ → Option ℕ
links_at nodes a = option_map (λ (p : Placed). p.inode.links) (at_number nodes a)

-- where a node is put, its links are those of what is put
pub links_put : (nodes : List (ℕ × Placed)) (n : ℕ) (q : Placed) (a : ℕ) (links : ℕ → Option ℕ) → (a ≡ n → links a ≡ Some q.inode.links) → (a ≢ n → links_at nodes a ≡ links a) → links_at (put_number nodes n q) a ≡ links a
links_put nodes n q a links here there = at_put_cases (λ o. option_map (λ (p : Placed). p.inode.links) o ≡ links a) nodes n q a (λ e. sym (here e)) there

-- It is steady and writes no page, the tree is this one afterwards, and what the tree does not say is plain.
pub record StepsTo (tx : ℕ) (v : VolumeNow) (c : Change) (tree : Tree) (links : ℕ → Option ℕ) : Type 0 where
  pub steady : IsSteady tx v c (λ birth index. ⊥)
  pub tree_is : tree_of_now c.volume ≡ tree
  pub settled : IsSettled c.volume.contents
  pub slotted : AreSlotted c.volume.geometry (λ a. ⊥) c.volume.contents
  pub links_are : (a : ℕ) → links_at c.volume.contents.nodes a ≡ links a
  pub waiting : waits c.volume.zones ≡ waits v.zones + length c.touched.freed

length_both : (xs ys : List ℕ) → length (xs ++ ys) ≡ length xs + length ys
length_both [] ys = omega arith
length_both (x ∷ xs) ys = let rest = length_both xs ys in omega arith

add_up : (a b c : ℕ) (xs ys : List ℕ) → b ≡ a + length xs → c ≡ b + length ys → c ≡ a + length (xs ++ ys)
add_up a b c xs ys e f = let long = length_both xs ys in omega arith

-- one after the other, told as one
abbrev pub joined : Change → Change → Change
joined c d = record { volume = d.volume; touched = and_then c.touched d.touched }

-- the second writes no page and frees only what was in use before the first
pub steps_then : (tx : ℕ) (v : VolumeNow) (c d : Change) (between tree : Tree) (first links : ℕ → Option ℕ) → StepsTo tx v c between first → StepsTo tx c.volume d tree links →
    ((zone : ℕ) → In zone d.touched.freed → state_of c.volume.zones zone ≡ Some states.Used → state_of v.zones zone ≡ Some states.Used) →
    ((x : Page) → In x c.touched.pages → ⊥) →
    SameNumbers v.contents.nodes c.volume.contents.nodes ⊎ SameNumbers c.volume.contents.nodes d.volume.contents.nodes → StepsTo tx v (joined c d) tree links
steps_then tx v c d between tree first links h k not_new no_page numbers = record {
  steady = steady_as tx v (joined c d) (λ birth index. ⊥ ⊎ ⊥) (λ birth index. ⊥)
      (steady_then tx v c d (λ birth index. ⊥) (λ birth index. ⊥) h.steady k.steady (record {
        not_dropped = λ x i j. no_page x i;
        not_written = λ x y dropped i same also. (k.steady.told.pages_are_written y i).1;
        not_new = not_new;
      }) numbers)
      (λ birth index w. ⊎_elim (λ z. z) (λ z. z) w) (λ birth index z. inl z);
  tree_is = k.tree_is;
  settled = k.settled;
  slotted = k.slotted;
  links_are = k.links_are;
  waiting = add_up (waits v.zones) (waits c.volume.zones) (waits d.volume.zones) c.touched.freed d.touched.freed h.waiting k.waiting;
}
