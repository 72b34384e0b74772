-- A call that would change nothing touches no block and revokes none.
use Rattle.std.specs.Prelude.{◌≡◌, ℕ, ◌-◌, ◌*◌, ◌/◌, ◌%◌, ◌≤◌, ◌==◌, ◌||◌, nat_eq, nat_le, not, Bool, true, false, if◌then◌else◌, List, [], ◌∷◌, ◌++◌, Option, Some, None, Result, Ok, Err, refl}
use Rattle.std.specs.Int.{div_ceil}
use Rattle.std.specs.List.{list_any}
use Rattle.std.proofs.Common.{sym, ap, subst, ◌∙◌, arith, eq-eqb, eqb-true}
use Rattle.std.proofs.lemmas.Bool.{false≢true, true≢false, and_parts, or_parts, leb-true, le-leb}
use Rattle.std.proofs.lemmas.Grind.{div_ceil_times}
use Rattle.tree_model.specs.declared.call.Call.{Call}
use Rattle.tree_model.specs.declared.call.Call.TheVariants as calls
use Rattle.tree_model.specs.declared.call.Reply.{Reply}
use Rattle.tree_model.specs.declared.call.Reply.TheVariants as replies
use Rattle.tree_model.specs.declared.node.File.{File}
use Rattle.tree_model.specs.declared.node.Node.{Node}
use Rattle.tree_model.specs.declared.node.Node.TheVariants as nodes
use Rattle.tree_model.specs.Calls.{Tree, Done, Row, Found, Move, outcome, used_zones, walk, walk_path, and_then, stays}
use Rattle.tree_model.specs.Histories.{is_found_at}
use Rattle.tree_model.specs.Maps.{at_number}
use Rattle.tree_model.specs.Plain.{AreBornBefore}
use Rattle.tree_model.proofs.Rows.{walk_ok, walk_path_ok, parent_ok, place_names}
use Rattle.volume_ops.specs.declared.found.Mapped.{Mapped}
use Rattle.volume_ops.specs.Volume.{bodies_of, disk_of}
use Rattle.volume_model.specs.Counts.{keeps_below, indices_of}
use Rattle.volume_model.specs.Touched.{and_then as both}
use Rattle.volume_model.specs.Volume.{block, zone_in}
use Rattle.volume_model.specs.declared.placed.Part.{Part}
use Rattle.volume_model.specs.declared.placed.Part.TheVariants as parts
use Rattle.volume_model.specs.declared.placed.Placed.{Placed}
use Rattle.tree_model.specs.Calls.{cut_body}
use Rattle.volume_steps.specs.Called.{FindsRoom}
use Rattle.volume_steps.specs.Calls.{called, called_by, changed, rename, truncate}
use Rattle.volume_steps.specs.Cuts.{keeps_file, keeps_size, cuts_nothing}
use Rattle.volume_steps.specs.Now.{VolumeNow, Change, tree_of_now, room_of, unchanged, followed_by}
use Rattle.volume_steps.specs.Plain.{IsInUse, IsPlainNow}
use Rattle.volume_steps.specs.Steps.{resize, put_page, blocks_cut, cut_blocks, clear_tail}
use Rattle.volume_steps.proofs.CallPaths.{done_row}
use Rattle.volume_steps.proofs.FileCalls.{called_is, needs_is}
use Rattle.volume_steps.proofs.FileSteps.{IsFileAt, file_at, at_file_is}
use Rattle.volume_steps.proofs.QuietSteps.{at_node_is}
use Rattle.volume_steps.proofs.RenameCall as call
use Rattle.volume_steps.proofs.RenameTree.{Renames}
use Rattle.volume_steps.proofs.Taking.{frees}
use Rattle.volume_steps.proofs.WriteCall.{at_path_is}
use Rattle.minix_host.specs.Calls.{names_one, would_change}
use Rattle.minix_host.proofs.SameNames.{target_is}
use Rattle.minix_host.proofs.TreeSteps.{not_true, not_false}

-- no metadata is written or revoked, and the nodes stay
pub record IsQuiet (v : VolumeNow) (c : Change) : Type 0 where
  pub nodes : c.volume.contents.nodes ≡ v.contents.nodes
  pub blocks : c.touched.blocks ≡ []
  pub revoked : c.touched.revoked ≡ []

pub unchanged_quiet : (v : VolumeNow) → IsQuiet v (unchanged v)
unchanged_quiet v = record { nodes = refl; blocks = refl; revoked = refl }

-- ---- a cut

tail_quiet : (v : VolumeNow) (n size : ℕ) → IsQuiet v (clear_tail v n size)
tail_quiet v n size = by (at_number v.contents.nodes n)
  where
    cleared : Placed → List Mapped → Change
    cleared p zones =
        if nat_eq (size % 1024) 0 || nat_eq (zone_in v.contents.blocks p.inode (block (size / 1024))) 0 then unchanged v
        else put_page v n (size / 1024) (zone_in v.contents.blocks p.inode (block (size / 1024))) (cut_body size (size / 1024) (disk_of v.contents.blocks (zone_in v.contents.blocks p.inode (block (size / 1024)))))

    by_test : (p : Placed) (b : Bool) → IsQuiet v (if b then unchanged v
        else put_page v n (size / 1024) (zone_in v.contents.blocks p.inode (block (size / 1024))) (cut_body size (size / 1024) (disk_of v.contents.blocks (zone_in v.contents.blocks p.inode (block (size / 1024))))))
    by_test p true = unchanged_quiet v
    by_test p false = record { nodes = refl; blocks = refl; revoked = refl }

    by_part : (p : Placed) (part : Part) → IsQuiet v (elim part as (λ _. Change) [ parts.Directory d ↦ unchanged v | parts.File zones ↦ cleared p zones ])
    by_part p (parts.Directory d) = unchanged_quiet v
    by_part p (parts.File zones) = by_test p (nat_eq (size % 1024) 0 || nat_eq (zone_in v.contents.blocks p.inode (block (size / 1024))) 0)

    by : (o : Option Placed) → IsQuiet v (elim o as (λ _. Change) [ None ↦ unchanged v | Some p ↦ elim p.part as (λ _. Change) [ parts.Directory d ↦ unchanged v | parts.File zones ↦ cleared p zones ] ])
    by None = unchanged_quiet v
    by (Some p) = by_part p p.part

-- no block begins where the file ends, or behind
none_behind : (blocks : List (List ℕ)) (size : ℕ) (zones : List Mapped) → list_any (λ (e : ℕ × List ℕ). nat_le size (1024 * e.0)) (bodies_of blocks zones) ≡ false →
    list_any (λ (m : Mapped). nat_le (div_ceil size 1024) m.index) zones ≡ false
none_behind blocks size [] none = refl
none_behind blocks size (m ∷ zones) none =
    let both = or_parts (nat_le size (1024 * m.index)) _ none in
    rw (before (nat_le (div_ceil size 1024) m.index) refl both.0) (none_behind blocks size zones both.1)
  where
    before : (b : Bool) → nat_le (div_ceil size 1024) m.index ≡ b → nat_le size (1024 * m.index) ≡ false → nat_le (div_ceil size 1024) m.index ≡ false
    before false e out = e
    before true e out =
        let ceil = div_ceil_times size 1024 (omega arith) in
        let low = leb-true (div_ceil size 1024) m.index e in
        absurd (true≢false (sym (le-leb size (1024 * m.index) (omega (arith, ceil, low))) ∙ out))

module _ (v : VolumeNow) (h : IsInUse v) (tx : ℕ) (path : List ℕ) (size : ℕ) where
  module _ (found : Found) (walked : walk_path (tree_of_now v) path ≡ Ok found) (f : File) (is : found.node ≡ nodes.File f) (keeps : keeps_file size f ≡ true) where
    x : IsFileAt v found.birth f
    x = file_at v h found.birth f ((walk_path_ok (tree_of_now v) path found walked).2.stands ∙ ap Some is)

    none : list_any (λ (m : Mapped). nat_le (div_ceil size 1024) m.index) x.zones ≡ false
    none =
        let rest = and_parts (f.size == size) _ keeps in
        let few = and_parts (not (list_any (λ (e : ℕ × List ℕ). nat_le size (1024 * e.0)) f.blocks)) _ rest.1 in
        none_behind v.contents.blocks size x.zones
        (subst (λ es. list_any (λ (e : ℕ × List ℕ). nat_le size (1024 * e.0)) es ≡ false) (ap (λ (f : File). f.blocks) x.file) (not_true (list_any (λ (e : ℕ × List ℕ). nat_le size (1024 * e.0)) f.blocks) few.0))

    uncut : cut_blocks v tx found.birth (div_ceil size 1024) ≡ unchanged v
    uncut =
        at_file_is v found.birth x.placed x.zones
        (λ p zones. if list_any (λ (m : Mapped). nat_le (div_ceil size 1024) m.index) zones then blocks_cut v tx found.birth p zones (keeps_below (indices_of zones) (div_ceil size 1024)) (div_ceil size 1024) else unchanged v) x.stands x.is_file
        ∙ ap (λ (b : Bool). if b then blocks_cut v tx found.birth x.placed x.zones (keeps_below (indices_of x.zones) (div_ceil size 1024)) (div_ceil size 1024) else unchanged v) none

    abbrev tail : Change
    tail = clear_tail v found.birth size

    same_size : (size == x.placed.inode.size) ≡ true
    same_size = eq-eqb size x.placed.inode.size (sym (eqb-true f.size size (and_parts (f.size == size) _ keeps).0) ∙ ap (λ (f : File). f.size) x.file)

    unsized : resize tail.volume found.birth (λ old. size) ≡ unchanged tail.volume
    unsized =
        at_node_is tail.volume found.birth x.placed _ (ap (λ nodes. at_number nodes found.birth) (tail_quiet v found.birth size).nodes ∙ x.stands)
        ∙ (rw same_size refl)

    cut_quiet : IsQuiet v (truncate v tx path size)
    cut_quiet =
        let q = tail_quiet v found.birth size in
        subst (IsQuiet v)
        (sym (at_path_is v path found (λ birth. followed_by (cut_blocks v tx birth (div_ceil size 1024)) (λ u. followed_by (clear_tail u birth size) (λ w. resize w birth (λ old. size)))) walked
        ∙ (ap (λ c. followed_by c (λ u. followed_by (clear_tail u found.birth size) (λ w. resize w found.birth (λ old. size)))) uncut
        ∙ ap (λ c. followed_by (unchanged v) (λ u. record { volume = c.volume; touched = both tail.touched c.touched })) unsized)))
        (record { nodes = q.nodes; blocks = ap (λ (bs : List ℕ). bs ++ []) q.blocks; revoked = ap (λ (bs : List ℕ). bs ++ []) q.revoked })

  truncate_quiet : cuts_nothing (tree_of_now v) path size ≡ true → IsQuiet v (truncate v tx path size)
  truncate_quiet still = by (walk_path (tree_of_now v) path) refl still
    where
      by_node : (found : Found) → walk_path (tree_of_now v) path ≡ Ok found → (node : Node) → found.node ≡ node → keeps_size size node ≡ true → IsQuiet v (truncate v tx path size)
      by_node found walked (nodes.File f) is keeps = cut_quiet found walked f is keeps
      by_node found walked (nodes.Directory d) is keeps = absurd (false≢true keeps)
      by_node found walked (nodes.Other mode) is keeps = absurd (false≢true keeps)

      by : (r : Result Found Reply) → walk_path (tree_of_now v) path ≡ r → (elim r as (λ _. Bool) [ Err reply ↦ false | Ok found ↦ keeps_size size found.node ]) ≡ true → IsQuiet v (truncate v tx path size)
      by (Err reply) e keeps = absurd (false≢true keeps)
      by (Ok found) e keeps = by_node found e found.node refl keeps

-- ---- a rename

module _ (tx : ℕ) (v : VolumeNow) (h : IsPlainNow v) (n : ℕ) (before : AreBornBefore n (tree_of_now v)) (path other : List ℕ) (d : Done)
    (done : outcome (room_of v.geometry) (tree_of_now v) n (calls.Rename path other) ≡ Ok d) (enough : used_zones d.tree - used_zones (tree_of_now v) ≤ frees v.zones) (same : names_one (tree_of_now v) path other ≡ true) where
  abbrev tree : Tree
  tree = tree_of_now v

  abbrev r : Renames tree path other d
  r = call.r tx v h n before path other d done enough

  abbrev m : Move
  m = call.m tx v h n before path other d done enough

  -- the second path leads to the node that is moved
  found_there : is_found_at (walk tree r.more) r.found.birth ≡ true
  found_there =
      sym (ap (λ (x : Result Found Reply). elim x as (λ _. Bool) [ Err reply ↦ false | Ok found ↦ is_found_at (walk_path tree other) found.birth ]) (ap (λ x. and_then x (walk tree)) r.named ∙ r.walked)
      ∙ ap (λ x. is_found_at (and_then x (walk tree)) r.found.birth) r.also) ∙ same

  it_stays : stays m ≡ true
  it_stays = by (walk tree r.more) refl found_there
    where
      by : (x : Result Found Reply) → walk tree r.more ≡ x → is_found_at x r.found.birth ≡ true → stays m ≡ true
      by (Err reply) e t = absurd (false≢true t)
      by (Ok found) e t =
          let w = walk_ok tree r.more found e in
          let p = parent_ok replies.Invalid tree r.more r.to r.to_is in
          ap (λ (o : Option Found). elim o as (λ _. Bool) [ None ↦ false | Some t ↦ t.birth == r.found.birth ]) (target_is tree r.to found.birth found.node (place_names tree r.more r.to found p w) w.stands) ∙ t

  rename_quiet : IsQuiet v (rename v tx path other)
  rename_quiet = subst (IsQuiet v) (sym (call.rename_by tx v h n before path other d done enough ∙ (rw it_stays refl))) (unchanged_quiet v)

-- ---- each of them

done_quiet : (tx : ℕ) (v : VolumeNow) (n : ℕ) (c : Call) → FindsRoom v n c → would_change v c ≡ false → (d : Done) → outcome (room_of v.geometry) (tree_of_now v) n c ≡ Ok d → IsQuiet v (changed v n tx c)
unfolding would_change changed
done_quiet tx v n (calls.Mkdir path) h still d done = absurd (true≢false still)
done_quiet tx v n (calls.Rmdir path) h still d done = absurd (true≢false still)
done_quiet tx v n (calls.Create path) h still d done = absurd (true≢false still)
done_quiet tx v n (calls.Unlink path) h still d done = absurd (true≢false still)
done_quiet tx v n (calls.Link path other) h still d done = absurd (true≢false still)
done_quiet tx v n (calls.Rename path other) h still d done =
    let needed = needs_is tx v n (calls.Rename path other) d (done_row (room_of v.geometry) (tree_of_now v) n (calls.Rename path other) d done).0 in
    let found = h.enough in
    rename_quiet tx v h.plain n h.born path other d done (omega (arith, needed, found)) (not_false (names_one (tree_of_now v) path other) still)
done_quiet tx v n (calls.Truncate path size) h still d done = truncate_quiet v h.plain.in_use tx path size (not_false (cuts_nothing (tree_of_now v) path size) still)
done_quiet tx v n (calls.Write path off len value) h still d done = absurd (true≢false still)
done_quiet tx v n (calls.Bytes path off bytes) h still d done = absurd (true≢false still)
done_quiet tx v n (calls.Read path off len) h still d done = unchanged_quiet v
done_quiet tx v n (calls.List path) h still d done = unchanged_quiet v
done_quiet tx v n (calls.Stat path) h still d done = unchanged_quiet v
done_quiet tx v n (calls.Fsync path) h still d done = unchanged_quiet v
done_quiet tx v n (calls.Fdatasync path) h still d done = unchanged_quiet v
done_quiet tx v n (calls.Fbarrier path) h still d done = unchanged_quiet v
done_quiet tx v n (calls.Fdatabarrier path) h still d done = unchanged_quiet v
done_quiet tx v n calls.Sync h still d done = unchanged_quiet v

-- a call that is not refused, and would change nothing
pub still_quiet : (tx : ℕ) (v : VolumeNow) (n : ℕ) (c : Call) → FindsRoom v n c → would_change v c ≡ false → IsQuiet v (called v n tx c).change
unfolding called
still_quiet tx v n c h still = by (outcome (room_of v.geometry) (tree_of_now v) n c) refl
  where
    by : (r : Row) → outcome (room_of v.geometry) (tree_of_now v) n c ≡ r → IsQuiet v (called_by v n tx c (outcome (room_of v.geometry) (tree_of_now v) n c)).change
    by (Err why) e = subst (IsQuiet v) (sym (ap (λ r. (called_by v n tx c r).change) e)) (unchanged_quiet v)
    by (Ok d) e = subst (IsQuiet v) (sym (called_is tx v n c d e)) (done_quiet tx v n c h still d e)
