-- The rows of room: slots, inodes and zones.
use Rattle.std.specs.Prelude.{◌≡◌, ◌≢◌, ℕ, ◌+◌, ◌-◌, ◌*◌, ◌<◌, ◌≤◌, ◌==◌, Bool, true, false, not, ◌&&◌, nat_lt, nat_le, if◌then◌else◌, List, [], ◌∷◌, length, Option, Some, None, Ok, is_some, unwrap_or, option_map, refl}
use Rattle.std.proofs.Common.{sym, ap, subst, ◌∙◌, arith}
use Rattle.std.specs.Int.{div_ceil}
use Rattle.std.specs.BTreeMap.{is_at}
use Rattle.std.specs.Ordering.{nat_cmp}
use Rattle.std.proofs.lemmas.Bool.{true≢false, and_parts, and_from, not-true, ltb-true, ltb-false, lt-ltb, le-ltb, leb-true, le-leb}
use Rattle.std.proofs.lemmas.Cmp.{nat_cmp_total}
use Rattle.std.proofs.lemmas.Map.Entries.{sum_by-insert_entry, sum_by-remove_entry}
use Rattle.std.proofs.lemmas.Option.{none-some}
use Rattle.minix_layout.specs.Widths.{most_slots}
use Rattle.tree_model.specs.declared.call.Reply.TheVariants as replies
use Rattle.tree_model.specs.declared.call.Room.{Room}
use Rattle.tree_model.specs.declared.node.Node.{Node}
use Rattle.tree_model.specs.declared.node.Node.TheVariants as nodes
use Rattle.tree_model.specs.declared.node.Directory.{Directory}
use Rattle.tree_model.specs.declared.node.File.{File}
use Rattle.tree_model.specs.Maps.{at_number, at_name, put_number, without_number}
use Rattle.tree_model.specs.Plain.{AreBornBefore}
use Rattle.tree_model.specs.Calls.{Tree, Done, Place, refuse_if, needs_slot, slots_with, with_name, give_name, put_file, with_links, lose_link, new_directory, directory_zones, node_zones, used_zones}
use Rattle.tree_model.specs.laws.MapsLaws.{at_put_number_apart}
use Rattle.tree_model.specs.laws.MapOrder.{InOrder, in_order_put, in_order_without, at_put_cases, at_without_apart}
use Rattle.tree_model.proofs.Outcomes.{slot_needs}
use Rattle.call_refusals.specs.Conditions.{Condition, Holds, zones_left, slots_at_most, IsFull, slot_zones, name_zones}
use Rattle.call_refusals.specs.Tables.{when}
use Rattle.call_refusals.proofs.Told.{Told, told_if}

-- ---- slots

most_is : (width : ℕ) → most_slots width ≡ slots_at_most width
most_is width = by (width == 30)
  where
    by : (b : Bool) → 519 * (if b then 32 else 64) ≡ (if b then 16608 else 33216)
    by true = refl
    by false = refl

-- a directory with so many names has no free slot, and as many as can be
abbrev pub is_full_with : Directory → ℕ → Bool
is_full_with d names = not (nat_lt (names + 2) d.slots) && nat_le (most_slots d.width) d.slots

pub full_holds : (d : Directory) (names : ℕ) → is_full_with d names ≡ true → IsFull d names
full_holds d names t =
    let parts = and_parts (not (nat_lt (names + 2) d.slots)) (nat_le (most_slots d.width) d.slots) t in
    record {
      most = subst (λ m. m ≤ d.slots) (most_is d.width) (leb-true (most_slots d.width) d.slots parts.1);
      none_free = ltb-false (names + 2) d.slots (not-true (nat_lt (names + 2) d.slots) parts.0);
    }

pub full_is : (d : Directory) (names : ℕ) → IsFull d names → is_full_with d names ≡ true
full_is d names h =
    and_from (not (nat_lt (names + 2) d.slots)) (nat_le (most_slots d.width) d.slots) (ap not (le-ltb (names + 2) d.slots h.none_free))
    (le-leb (most_slots d.width) d.slots (subst (λ m. m ≤ d.slots) (sym (most_is d.width)) h.most))

-- one name more takes the zones of one slot more, where none is free
pub grown : (d : Directory) (name : List ℕ) → is_some (at_name d.names name) ≡ false → directory_zones d.width (slots_with d name) ≡ directory_zones d.width d.slots + name_zones d (length d.names)
grown d name free =
    ap (λ b. directory_zones d.width (if not b && needs_slot d then d.slots + 1 else d.slots)) free
    ∙ by (nat_lt (length d.names + 2) d.slots)
  where
    by : (b : Bool) → directory_zones d.width (if not false && not b then d.slots + 1 else d.slots) ≡ directory_zones d.width d.slots + (if b then 0 else slot_zones d)
    by true = omega arith
    by false = let e = slot_needs d.width d.slots in omega arith

-- ---- zones

abbrev pub zones_at : Tree → ℕ → ℕ
zones_at tree p = unwrap_or (option_map node_zones (at_number tree p)) 0

pub zones_of : (tree : Tree) (p : ℕ) (node : Node) → at_number tree p ≡ Some node → zones_at tree p ≡ node_zones node
zones_of tree p node stands = ap (λ o. unwrap_or (option_map node_zones o) 0) stands

pub used_put : (tree : Tree) (p : ℕ) (node : Node) → InOrder tree → used_zones (put_number tree p node) + zones_at tree p ≡ used_zones tree + node_zones node
unfolding used_zones
used_put tree p node order = sum_by-insert_entry node_zones nat_cmp_total tree p node order

used_without : (tree : Tree) (p : ℕ) → used_zones (without_number tree p) + zones_at tree p ≡ used_zones tree
unfolding used_zones
used_without tree p = sum_by-remove_entry node_zones (is_at (nat_cmp p)) tree

-- A tree with no more zones, and at each birth but one with as many. Where it has just as many, that is said apart.
pub record HasZones (tree after : Tree) (but : ℕ → Type 0) : Type 0 where
  pub order : InOrder after
  pub at : (q : ℕ) → (but q → ⊥) → zones_at after q ≡ zones_at tree q
  pub used : used_zones after ≤ used_zones tree

-- a node goes where one with as many zones stood
pub put_same : (tree after : Tree) (but : ℕ → Type 0) → HasZones tree after but → (p : ℕ) (node : Node) → (but p → ⊥) → zones_at tree p ≡ node_zones node →
    HasZones tree (put_number after p node) but × (used_zones (put_number after p node) ≡ used_zones after)
put_same tree after but h p node apart same =
    let was : zones_at after p ≡ node_zones node = h.at p apart ∙ same in
    let all = used_put after p node h.order in
    let used : used_zones (put_number after p node) ≡ used_zones after = omega arith in
    let le = h.used in (
      record {
        order = in_order_put after p node h.order;
        at = λ q there.
            at_put_cases (λ o. unwrap_or (option_map node_zones o) 0 ≡ zones_at tree q) after p node q (λ e. sym same ∙ ap (zones_at tree) (sym e)) (λ other. h.at q there);
        used = omega arith;
      },
      used,
    )

-- ---- rows

module _ (room : Room) (tree : Tree) where
  pub space_told : (C : Condition) (d : Done) (k : ℕ) → used_zones d.tree - used_zones tree ≡ k → (zones_left room tree < k → Holds room tree C) → (Holds room tree C → zones_left room tree < k) →
      Told room tree (when C replies.NoSpace ∷ []) (refuse_if {A = Done} (nat_lt (room.capacity - used_zones tree) (used_zones d.tree - used_zones tree)) replies.NoSpace (Ok d))
  space_told C d k e put take =
      told_if room tree (when C replies.NoSpace) [] (nat_lt (room.capacity - used_zones tree) (used_zones d.tree - used_zones tree)) (Ok d)
      (λ t. put (subst (λ m. zones_left room tree < m) e (ltb-true (room.capacity - used_zones tree) (used_zones d.tree - used_zones tree) t)))
      (λ t held. true≢false (sym (lt-ltb (room.capacity - used_zones tree) (used_zones d.tree - used_zones tree) (subst (λ m. zones_left room tree < m) (sym e) (take held))) ∙ t))
      (λ t. tt)

  -- where no zone is needed, there is room
  pub no_zone_needed : (d : Done) → used_zones d.tree - used_zones tree ≡ 0 →
      Told room tree [] (refuse_if {A = Done} (nat_lt (room.capacity - used_zones tree) (used_zones d.tree - used_zones tree)) replies.NoSpace (Ok d))
  no_zone_needed d e =
      let fits : nat_lt (room.capacity - used_zones tree) (used_zones d.tree - used_zones tree) ≡ false =
      le-ltb (room.capacity - used_zones tree) (used_zones d.tree - used_zones tree) (omega arith)
      in
      subst (λ b. Told room tree [] (refuse_if {A = Done} b replies.NoSpace (Ok d))) (sym fits) tt

-- ---- a node more

module _ (tree : Tree) (order : InOrder tree) (n : ℕ) (born : AreBornBefore n tree) where
  free_birth : at_number tree n ≡ None
  free_birth = by (at_number tree n) refl
    where
      by : (o : Option Node) → at_number tree n ≡ o → o ≡ None
      by None e = refl
      by (Some node) e = absurd (let lt = born n node e in omega arith)

  pub made_zones : (node : Node) (p : Place) → at_number tree p.parent ≡ Some (nodes.Directory p.directory) → is_some (at_name p.directory.names p.name) ≡ false →
      used_zones (give_name (put_number tree n node) p n) - used_zones tree ≡ node_zones node + name_zones p.directory (length p.directory.names)
  made_zones node p stands free =
      let new = with_name p.directory p.name n in
      let apart : p.parent ≢ n = λ e. none-some (nodes.Directory p.directory) (sym free_birth ∙ (ap (at_number tree) (sym e) ∙ stands)) in
      let first = used_put tree n node order in
      let zero : zones_at tree n ≡ 0 = ap (λ o. unwrap_or (option_map node_zones o) 0) free_birth in
      let second = used_put (put_number tree n node) p.parent (nodes.Directory new) (in_order_put tree n node order) in
      let was : zones_at (put_number tree n node) p.parent ≡ directory_zones p.directory.width p.directory.slots =
      zones_of (put_number tree n node) p.parent (nodes.Directory p.directory) (at_put_number_apart tree n node p.parent apart ∙ stands)
      in
      let more : node_zones (nodes.Directory new) ≡ directory_zones p.directory.width p.directory.slots + name_zones p.directory (length p.directory.names) = grown p.directory p.name free in
      omega arith

-- a name more of a node that has another
pub named_zones : (tree after : Tree) → HasZones tree after (λ q. ⊥) → used_zones after ≡ used_zones tree → (p : Place) (b : ℕ) → zones_at tree p.parent ≡ directory_zones p.directory.width p.directory.slots →
    is_some (at_name p.directory.names p.name) ≡ false → used_zones (give_name after p b) - used_zones tree ≡ name_zones p.directory (length p.directory.names)
named_zones tree after h used p b was free =
    let new = with_name p.directory p.name b in
    let all = used_put after p.parent (nodes.Directory new) h.order in
    let at : zones_at after p.parent ≡ directory_zones p.directory.width p.directory.slots = h.at p.parent (λ e. e) ∙ was in
    let more : node_zones (nodes.Directory new) ≡ directory_zones p.directory.width p.directory.slots + name_zones p.directory (length p.directory.names) = grown p.directory p.name free in
    omega arith

-- the zone of a new directory
pub new_zone : (width parent : ℕ) → node_zones (new_directory width parent) ≡ 1
new_zone width parent = by (width == 30)
  where
    by : (b : Bool) → div_ceil 2 (if b then 32 else 64) + (if nat_lt (7 * (if b then 32 else 64)) 2 then 1 else 0) ≡ 1
    by true = refl
    by false = refl

pub itself : (tree : Tree) (but : ℕ → Type 0) → InOrder tree → HasZones tree tree but
itself tree but order = record { order = order; at = λ q there. refl; used = omega arith }

-- a file that loses a link, and may be gone
pub lost : (tree after : Tree) → HasZones tree after (λ q. ⊥) → (b : ℕ) (f : File) → at_number tree b ≡ Some (nodes.File f) → HasZones tree (lose_link after b f) (λ q. q ≡ b)
lost tree after h b f stands = by (nat_le f.links 1)
  where
    by : (few : Bool) → HasZones tree (if few then without_number after b else put_file after b (with_links f (f.links - 1))) (λ q. q ≡ b)
    by true =
        let all = used_without after b in
        let le = h.used in
        record {
          order = in_order_without after b h.order;
          at = λ q there. ap (λ o. unwrap_or (option_map node_zones o) 0) (at_without_apart after b q h.order there) ∙ h.at q (λ e. e);
          used = omega arith;
        }
    by false =
        let x = (put_same tree after (λ q. ⊥) h b (nodes.File (with_links f (f.links - 1))) (λ e. e) (zones_of tree b (nodes.File f) stands)).0 in
        record { order = x.order; at = λ q there. x.at q (λ e. e); used = x.used }

-- a node that is gone
pub fewer_without : (tree after : Tree) (but : ℕ → Type 0) → HasZones tree after but → (b : ℕ) → used_zones (without_number after b) ≤ used_zones tree
fewer_without tree after but h b =
    let all = used_without after b in
    let le = h.used in
    omega arith
