-- Steps on one file: what they keep of a volume, and how they hang together.
use Rattle.std.specs.Prelude.{◌≡◌, ◌≢◌, ℕ, ◌+◌, ◌-◌, ◌≤◌, List, length, Some, refl, ◌⊎◌}
use Rattle.std.proofs.Common.{sym, ap, subst, ◌∙◌, inl, inr, arith}
use Rattle.std.proofs.lemmas.Bool.{cases_eq}
use Rattle.std.proofs.lemmas.List.{length-append}
use Rattle.std.proofs.lemmas.Option.{same_Some}
use Rattle.minix_layout.specs.declared.division.Geometry.{Geometry}
use Rattle.tree_model.specs.declared.node.File.{File}
use Rattle.tree_model.specs.declared.node.Node.TheVariants as nodes
use Rattle.tree_model.specs.Maps.{at_number, put_number}
use Rattle.tree_model.specs.laws.MapsLaws.{at_put_number, at_put_number_apart}
use Rattle.tree_model.specs.Calls.{used_zones}
use Rattle.volume_ops.specs.declared.found.Mapped.{Mapped}
use Rattle.volume_ops.specs.Places.{largest_size}
use Rattle.volume_model.specs.declared.placed.Placed.{Placed}
use Rattle.volume_model.specs.declared.placed.Part.{Part}
use Rattle.volume_model.specs.declared.placed.Part.TheVariants as parts
use Rattle.volume_model.specs.declared.placed.DirectoryPart.{DirectoryPart}
use Rattle.volume_model.specs.Plain.{HasDots}
use Rattle.volume_model.specs.Touched.{Contents}
use Rattle.volume_model.specs.Trees.{node_from, node_now}
use Rattle.volume_model.specs.Volume.{Place, zone_in, IsPart, IsFilePart}
use Rattle.minix_tables.specs.zones.laws.Counts.{all_counted}
use Rattle.volume_steps.specs.Now.{VolumeNow, Change, tree_of_now, followed_by, unchanged}
use Rattle.volume_steps.specs.Plain.{IsInUse}
use Rattle.volume_steps.specs.Steps.{at_file}
use Rattle.volume_steps.specs.laws.Steady.{IsSteady}
use Rattle.volume_steps.proofs.NodeSteps.{IsSettled, AreSlotted, zones_settled}
use Rattle.volume_steps.proofs.QuietSteps.{at_node_is}
use Rattle.volume_steps.proofs.Taking.{frees, uses, waits}
use Rattle.volume_steps.proofs.TreeSteps.{tree_back, tree_in_order}
use Rattle.volume_steps.proofs.Together.{ComesAfter, steady_then}
use Rattle.volume_steps.proofs.Files.{file_now, node_is_file, put_twice}
use Rattle.volume_steps.proofs.Marked.{SameNumbers, numbers_both}

-- each directory is there as before
abbrev pub KeepsDirectories : Contents → Contents → Type 0
KeepsDirectories v w = (a : ℕ) (r : Placed) (d : DirectoryPart) → at_number w.nodes a ≡ Some r → r.part ≡ parts.Directory d → at_number v.nodes a ≡ Some r

-- In transaction tx: the step is steady and keeps what the tree does not say. The tree has this file then, and what was
-- freed waits.
pub record IsFileStep (tx : ℕ) (v : VolumeNow) (n : ℕ) (c : Change) (f : File) (Writes : ℕ → ℕ → Type 0) : Type 0 where
  pub steady : IsSteady tx v c Writes
  pub settled : IsSettled v.contents → IsSettled c.volume.contents
  pub slotted : AreSlotted v.geometry (λ a. ⊥) v.contents → AreSlotted c.volume.geometry (λ a. ⊥) c.volume.contents
  pub tree : tree_of_now c.volume ≡ put_number (tree_of_now v) n (nodes.File f)
  pub waiting : waits c.volume.zones ≡ waits v.zones + length c.touched.freed
  pub directories : KeepsDirectories v.contents c.volume.contents
  pub numbers : SameNumbers v.contents.nodes c.volume.contents.nodes

-- ---- a file of the tree, as a node of the volume

pub record IsFileAt (v : VolumeNow) (n : ℕ) (f : File) : Type 0 where
  pub placed : Placed
  pub zones : List Mapped
  pub stands : at_number v.contents.nodes n ≡ Some placed
  pub is_file : placed.part ≡ parts.File zones
  pub part : IsFilePart v.contents.blocks placed.inode zones
  pub file : f ≡ file_now v.contents.blocks placed zones

pub file_at : (v : VolumeNow) → IsInUse v → (n : ℕ) (f : File) → at_number (tree_of_now v) n ≡ Some (nodes.File f) → IsFileAt v n f
file_at v h n f found =
    let w = tree_back v.contents.blocks v.contents.nodes n (nodes.File f) found in
    by w.0 w.1 w.2 w.0.part refl
  where
    by : (p : Placed) → at_number v.contents.nodes n ≡ Some p → node_now v.contents.blocks p ≡ nodes.File f → (part : Part) → p.part ≡ part → IsFileAt v n f
    by p at node (parts.Directory d) is = absurd (cc (sym (ap (node_from v.contents.blocks p.inode) is) ∙ node))
    by p at node (parts.File zones) is =
        let part = subst (IsPart v.geometry v.contents.blocks p.inode) is (h.volume.0.each n p at).part in
        let same : nodes.File f ≡ nodes.File (file_now v.contents.blocks p zones) = sym node ∙ node_is_file v.contents.blocks p zones is part.rising in
        record { placed = p; zones = zones; stands = at; is_file = is; part = part; file = cc same }

pub at_file_is : (v : VolumeNow) (n : ℕ) (p : Placed) (zones : List Mapped) (change : Placed → List Mapped → Change) → at_number v.contents.nodes n ≡ Some p → p.part ≡ parts.File zones → at_file v n change ≡ change p zones
at_file_is v n p zones change at is =
    at_node_is v n p (λ p. elim p.part as (λ _. Change) [ parts.Directory d ↦ unchanged v | parts.File zones ↦ change p zones ]) at
    ∙ ap (λ (part : Part). elim part as (λ _. Change) [ parts.Directory d ↦ unchanged v | parts.File zones ↦ change p zones ]) is

-- a file that the tree has after a step stands at its birth
pub file_stands : (tx : ℕ) (v : VolumeNow) (n : ℕ) (c : Change) (f : File) (Writes : ℕ → ℕ → Type 0) → IsFileStep tx v n c f Writes → at_number (tree_of_now c.volume) n ≡ Some (nodes.File f)
file_stands tx v n c f Writes s = ap (λ tree. at_number tree n) s.tree ∙ at_put_number (tree_of_now v) n (nodes.File f)

-- ---- one after the other

module _ (tx : ℕ) (v : VolumeNow) (h : IsInUse v) (n : ℕ) (c d : Change) (f e : File) (Writes More : ℕ → ℕ → Type 0) (one : IsFileStep tx v n c f Writes) (two : IsFileStep tx c.volume n d e More) (after : ComesAfter v c.volume c.touched d.touched) where
  pub file_step_then : IsFileStep tx v n (followed_by c (λ w. d)) e (λ birth index. Writes birth index ⊎ More birth index)
  file_step_then = record {
    steady = steady_then tx v c d Writes More one.steady two.steady after (inl one.numbers);
    settled = λ old. two.settled (one.settled old);
    slotted = λ old. two.slotted (one.slotted old);
    tree = two.tree ∙ (ap (λ tree. put_number tree n (nodes.File e)) one.tree ∙ put_twice (tree_of_now v) n (nodes.File f) (nodes.File e) (tree_in_order v.contents.blocks v.contents.nodes h.volume.0.in_order));
    waiting =
        let a = one.waiting in
        let b = two.waiting in
        let all = length-append c.touched.freed d.touched.freed in
        omega arith;
    directories = λ a r e found file. one.directories a r e (two.directories a r e found file) file;
    numbers = numbers_both v.contents.nodes c.volume.contents.nodes d.volume.contents.nodes one.numbers two.numbers;
  }

-- ---- free zones

-- all zones of data are free, in use or waiting
pub all_zones : (v : VolumeNow) → frees v.zones + uses v.zones + waits v.zones ≡ length v.zones.states
all_zones v = all_counted v.zones.states

-- what a step frees and takes is what the tree uses less and more
pub room_kept : (tx : ℕ) (v : VolumeNow) → IsInUse v → (n : ℕ) (c : Change) (f : File) (Writes : ℕ → ℕ → Type 0) → IsFileStep tx v n c f Writes →
    frees c.volume.zones + used_zones (tree_of_now c.volume) + length c.touched.freed ≡ frees v.zones + used_zones (tree_of_now v)
room_kept tx v h n c f Writes s =
    let before = all_zones v in
    let after = all_zones c.volume in
    let waiting = s.waiting in
    let old = h.counted in
    let new = s.steady.in_use.counted in
    let first = h.size in
    let last = s.steady.in_use.size in
    let same : c.volume.geometry.zones - c.volume.geometry.first ≡ v.geometry.zones - v.geometry.first = ap (λ (g : Geometry). g.zones - g.first) s.steady.geometry in
    omega arith

-- ---- one file changes

pub record IsFileChange (v w : Contents) (n : ℕ) (p q : Placed) : Type 0 where
  pub nodes_are : w.nodes ≡ put_number v.nodes n q
  pub stands : at_number v.nodes n ≡ Some p
  pub no_directory : (d : DirectoryPart) → q.part ≡ parts.Directory d → ⊥
  pub number : q.number ≡ p.number
  pub links : q.inode.links ≡ p.inode.links
  pub size : (IsSettled v) → q.inode.size ≤ largest_size
  pub theirs : (a : ℕ) (r : Placed) → at_number v.nodes a ≡ Some r → a ≢ n → (x : Place) → zone_in w.blocks r.inode x ≡ zone_in v.blocks r.inode x

module _ (v w : Contents) (n : ℕ) (p q : Placed) (h : IsFileChange v w n p q) where
  data IsWhich (a : ℕ) (r : Placed) : Type 0 where
    changed : a ≡ n → q ≡ r → IsWhich a r
    other : a ≢ n → at_number v.nodes a ≡ Some r → IsWhich a r

  which : (a : ℕ) (r : Placed) → at_number w.nodes a ≡ Some r → IsWhich a r
  which a r at =
      let found : at_number (put_number v.nodes n q) a ≡ Some r = ap (λ (es : List (ℕ × Placed)). at_number es a) (sym h.nodes_are) ∙ at in
      elim (cases_eq a n) [
        | inl e ↦ changed e (same_Some q r (sym (at_put_number v.nodes n q) ∙ subst (λ b. at_number (put_number v.nodes n q) b ≡ Some r) e found))
        | inr apart ↦ other apart (sym (at_put_number_apart v.nodes n q a apart) ∙ found)
      ]

  number_at : (a : ℕ) (r : Placed) → at_number v.nodes a ≡ Some r → (s : Placed) × (at_number w.nodes a ≡ Some s) × (r.number ≡ s.number)
  number_at a r found = elim (cases_eq a n) [
    | inr apart ↦ (r, ap (λ (es : List (ℕ × Placed)). at_number es a) h.nodes_are ∙ (at_put_number_apart v.nodes n q a apart ∙ found), refl)
    | inl e ↦ (
      q,
      ap (λ (es : List (ℕ × Placed)). at_number es a) h.nodes_are ∙ (ap (at_number (put_number v.nodes n q)) e ∙ at_put_number v.nodes n q),
      sym (h.number ∙ ap (λ (r : Placed). r.number) (same_Some p r (sym h.stands ∙ subst (λ b. at_number v.nodes b ≡ Some r) e found))),
    )
  ]

  pub change_settled : IsSettled v → IsSettled w
  change_settled old = record {
    root_number = λ r found. elim (which 0 r found) [
      | other apart was ↦ old.root_number r was
      | changed e same ↦ sym (ap (λ (r : Placed). r.number) same) ∙ (h.number ∙ old.root_number p (ap (at_number v.nodes) e ∙ h.stands))
    ];
    sizes = λ a r zones found is. elim (which a r found) [
      | other apart was ↦ old.sizes a r zones was is
      | changed e same ↦ subst (λ (r : Placed). r.inode.size ≤ largest_size) same (h.size old)
    ];
    dots = λ a r d found is. elim (which a r found) [
      | changed e same ↦ absurd (h.no_directory d (ap (λ (r : Placed). r.part) same ∙ is))
      | other apart was ↦
          let was_there = old.dots a r d was is in
          let s = number_at d.parent was_there.0 was_there.1 in
          (s.0, s.1, subst (HasDots d.slots r.number) s.2 was_there.2)
    ];
    few_links = λ a r found. elim (which a r found) [
      | other apart was ↦ old.few_links a r was
      | changed e same ↦ subst (λ (r : Placed). r.inode.links ≤ 250) same (subst (λ links. links ≤ 250) (sym h.links) (old.few_links n p h.stands))
    ];
  }

  pub change_directories : KeepsDirectories v w
  change_directories a r d found is = elim (which a r found) [
    | changed e same ↦ absurd (h.no_directory d (ap (λ (r : Placed). r.part) same ∙ is))
    | other apart was ↦ was
  ]

  pub change_slotted : (g : Geometry) → AreSlotted g (λ a. ⊥) v → AreSlotted g (λ a. ⊥) w
  change_slotted g old a r d found is none = elim (which a r found) [
    | changed e same ↦ absurd (h.no_directory d (ap (λ (r : Placed). r.part) same ∙ is))
    | other apart was ↦ zones_settled g v.blocks w.blocks r.inode r.inode (length d.slots) (h.theirs a r was apart) (old a r d was is none)
  ]
