-- What the calls of the model do to plain trees.
use Rattle.std.specs.Prelude.{◌≡◌, ℕ, ◌+◌, ◌==◌, Bool, true, false, not, ◌&&◌, if◌then◌else◌, List, [], Option, Some, None, is_some, Ok, Err, refl}
use Rattle.std.specs.Map.{keys_of}
use Rattle.std.specs.Ordering.{nat_cmp}
use Rattle.std.specs.Str.{bytes_eq}
use Rattle.std.proofs.Common.{arith, sym, ap, subst, ◌∙◌}
use Rattle.std.proofs.lemmas.Bool.{and_parts, true≢false, false≢true, eq-eqb}
use Rattle.std.proofs.lemmas.Slice.Eq.{bytes_eq-Decides}
use Rattle.blk_base.specs.Members.{In}
use Rattle.tree_model.specs.declared.call.Call.{Call}
use Rattle.tree_model.specs.declared.call.Call.TheVariants as calls
use Rattle.tree_model.specs.declared.call.Reply.{Reply}
use Rattle.tree_model.specs.declared.call.Room.{Room}
use Rattle.tree_model.specs.declared.node.File.{File}
use Rattle.tree_model.specs.declared.node.Node.{Node}
use Rattle.tree_model.specs.declared.node.Node.TheVariants as nodes
use Rattle.tree_model.specs.Calls.{Row, outcome, tree_from, tree_after, leaves_tree, reply_of, reply_from}
use Rattle.tree_model.specs.Histories.{block_in, maps_block, same_file, writes, touches, is_ok}
use Rattle.tree_model.specs.Maps.{at_number}
use Rattle.tree_model.specs.Plain.{IsPlain}
use Rattle.tree_model.specs.laws.MapsLaws.{number_here, number_same}
use Rattle.tree_model.proofs.Blocks.{quiet_touches}
use Rattle.tree_model.proofs.Causes.{refused_for, cause_not_ok}
use Rattle.tree_model.proofs.Histories.{only_writes_map, written_is_mapped}
use Rattle.tree_model.proofs.Outcomes.{quiet_stays}
use Rattle.volume_model.proofs.ImageSlots.{key_found, found_key}
use Rattle.host_machine.specs.laws.Contract.{TreeLaws}
use Rattle.flush_actor.specs.Kinds.{is_begun}
use Rattle.volume_steps.specs.Now.{room_of}
use Rattle.minix_host.specs.Calls.{kind_of}
use Rattle.minix_host.specs.Numbers.{next_birth, number_in}
use Rattle.minix_host.specs.PlainTrees.{PlainTree, left_by, tree_after_call, call_writes, call_alters}
use Rattle.minix_host.specs.Sessions.{Opening, over}
use Rattle.minix_host.specs.laws.Numbers.{outcome_plain}
use Rattle.minix_host.proofs.SameRows.{writes_same}

-- ---- kinds of calls

pub begun_quiet : (c : Call) → is_begun (kind_of c) ≡ true → leaves_tree c ≡ true
begun_quiet (calls.Fsync path) e = refl
begun_quiet (calls.Fdatasync path) e = refl
begun_quiet (calls.Fbarrier path) e = refl
begun_quiet (calls.Fdatabarrier path) e = refl
begun_quiet calls.Sync e = refl
begun_quiet other e = absurd (true≢false (sym e))

and_none : (a b : Bool) → b ≡ false → (a && b) ≡ false
and_none true b e = e
and_none false b e = refl

-- ---- the tree after a call

module _ (room : Room) (t : PlainTree) (n : ℕ) (c : Call) where
  abbrev N : ℕ
  N = number_in t.tree n

  left_tree : (r : Row) (h : IsPlain (tree_from t.tree r)) → (left_by t r h).tree ≡ tree_from t.tree r
  left_tree (Err why) h = refl
  left_tree (Ok d) h = refl

  left_same : (r : Row) (h : IsPlain (tree_from t.tree r)) (why : Reply) → r ≡ Err why → left_by t r h ≡ t
  left_same (Err one) h why e = refl
  left_same (Ok d) h why e = (let never : ◌≡◌ {A = Row} (Ok d) (Err why) = e in absurd (cc never))

  pub quiet_same : leaves_tree c ≡ true → tree_after_call room t n c ≡ t
  unfolding tree_after_call
  quiet_same quiet = rw quiet refl

  pub refused_same_tree : (why : Reply) → outcome room t.tree N c ≡ Err why → tree_after_call room t n c ≡ t
  unfolding tree_after_call
  refused_same_tree why e = by (leaves_tree c)
    where
      by : (b : Bool) → (if b then t else left_by t (outcome room t.tree N c) (outcome_plain room t.tree n c t.plain)) ≡ t
      by true = refl
      by false = left_same (outcome room t.tree N c) (outcome_plain room t.tree n c t.plain) why e

  -- it is the tree model's
  pub after_is : (tree_after_call room t n c).tree ≡ tree_after room t.tree N c
  unfolding tree_after_call tree_after
  after_is = by (leaves_tree c) refl
    where
      by : (b : Bool) → leaves_tree c ≡ b → (if b then t else left_by t (outcome room t.tree N c) (outcome_plain room t.tree n c t.plain)).tree ≡ tree_from t.tree (outcome room t.tree N c)
      by true e = sym (quiet_stays room t.tree N c e)
      by false e = left_tree (outcome room t.tree N c) (outcome_plain room t.tree n c t.plain)

  -- ---- what it writes

  pub quiet_writes : leaves_tree c ≡ true → (birth index : ℕ) → call_writes room t c birth index ≡ false
  unfolding writes
  quiet_writes quiet birth index = and_none (is_ok (reply_of room t.tree (next_birth t.tree) c)) (touches t.tree c birth index) (quiet_touches t.tree c birth index quiet)

  pub refused_writes : (why : Reply) → outcome room t.tree (next_birth t.tree) c ≡ Err why → (birth index : ℕ) → call_writes room t c birth index ≡ false
  unfolding writes reply_of
  refused_writes why e birth index =
      ap (λ r. is_ok (reply_from r) && touches t.tree c birth index) e
      ∙ ap (λ b. b && touches t.tree c birth index) (cause_not_ok room t.tree (next_birth t.tree) c why (refused_for room t.tree t.plain.rooted (next_birth t.tree) c why e))

  mapped_by : (birth index : ℕ) → maps_block t.tree birth index ≡ false → maps_block (tree_after_call room t n c).tree birth index ≡ true → call_writes room t c birth index ≡ true
  mapped_by birth index none there =
      writes_same room t.tree (next_birth t.tree) N c birth index
      ∙ only_writes_map room t.tree t.plain.rooted N c birth index none (ap (λ tree. maps_block tree birth index) (sym after_is) ∙ there)

  written_by : (birth index : ℕ) → call_writes room t c birth index ≡ true → maps_block (tree_after_call room t n c).tree birth index ≡ true
  written_by birth index wrote =
      ap (λ tree. maps_block tree birth index) after_is
      ∙ written_is_mapped room t.tree t.plain.rooted N c birth index (writes_same room t.tree N (next_birth t.tree) c birth index ∙ wrote)

-- ---- files that stay

same_mapped : (f h : File) (index : ℕ) → keys_of f.blocks ≡ keys_of h.blocks → is_some (at_number f.blocks index) ≡ true → is_some (at_number h.blocks index) ≡ true
same_mapped f h index keys t = by (at_number f.blocks index) refl t
  where
    by : (o : Option (List ℕ)) → at_number f.blocks index ≡ o → is_some o ≡ true → is_some (at_number h.blocks index) ≡ true
    by None e t = absurd (false≢true t)
    by (Some body) e t =
        let i = subst (In index) keys (found_key nat_cmp number_here number_same f.blocks index body e) in
        ap is_some (key_found nat_cmp number_here number_same h.blocks index i).1

both_or_none : (a b : Bool) → (a ≡ true → b ≡ true) → (b ≡ true → a ≡ true) → a ≡ b
both_or_none true b f g = sym (f refl)
both_or_none false true f g = absurd (false≢true (g refl))
both_or_none false false f g = refl

pub file_maps : (one other : Option Node) (index : ℕ) → same_file one other ≡ true → is_some (block_in one index) ≡ is_some (block_in other index)
file_maps (Some (nodes.File f)) (Some (nodes.File h)) index t =
    let keys = (bytes_eq-Decides (keys_of f.blocks) (keys_of h.blocks)).0 (and_parts (f.size == h.size) (bytes_eq (keys_of f.blocks) (keys_of h.blocks)) t).1 in
    both_or_none (is_some (at_number f.blocks index)) (is_some (at_number h.blocks index)) (same_mapped f h index keys) (same_mapped h f index (sym keys))
file_maps (Some (nodes.File f)) other index t = absurd (false≢true t)
file_maps one (Some (nodes.File h)) index t = absurd (false≢true t)
file_maps one other index t = refl

pub not_false : (b : Bool) → not b ≡ false → b ≡ true
not_false true e = refl
not_false false e = absurd (true≢false e)

pub not_true : (b : Bool) → not b ≡ true → b ≡ false
not_true true e = absurd (false≢true e)
not_true false e = refl

-- a node is the same file as itself
pub same_itself : (o : Option Node) → same_file o o ≡ true
same_itself (Some (nodes.File f)) = rw (eq-eqb f.size f.size refl, (bytes_eq-Decides (keys_of f.blocks) (keys_of f.blocks)).1 refl) refl
same_itself (Some (nodes.Directory d)) = refl
same_itself (Some (nodes.Other mode)) = refl
same_itself None = refl

-- where the tree stays, no file is altered
pub stays_unaltered : (room : Room) (t : PlainTree) (n : ℕ) (c : Call) → tree_after_call room t n c ≡ t → (birth : ℕ) → call_alters room t n c birth ≡ false
stays_unaltered room t n c same birth =
    ap (λ (u : PlainTree). not (same_file (at_number t.tree birth) (at_number u.tree birth))) same ∙ ap not (same_itself (at_number t.tree birth))

-- ---- the laws of trees

pub tree_laws : (s : Opening) → TreeLaws (over s).model
tree_laws s = record {
  mapped = λ t n c f i none there. mapped_by (room_of s.geometry) t (s.first + n) c.call f i none there;
  written = λ t n c f i wrote. written_by (room_of s.geometry) t (s.first + n) c.call f i wrote;
  same = λ t n c f i unaltered.
      let same = not_false (same_file (at_number t.tree f) (at_number (tree_after_call (room_of s.geometry) t (s.first + n) c.call).tree f)) unaltered in
      sym (file_maps (at_number t.tree f) (at_number (tree_after_call (room_of s.geometry) t (s.first + n) c.call).tree f) i same);
}
