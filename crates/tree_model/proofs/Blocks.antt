-- Which blocks of files a call maps, unmaps and writes.
use Rattle.std.specs.Prelude.{◌≡◌, ◌≢◌, ℕ, ◌+◌, ◌-◌, ◌*◌, ◌/◌, ◌%◌, ◌<◌, ◌⊎◌, ◌==◌, Bool, true, false, cond, not, ◌&&◌, if◌then◌else◌, nat_lt, nat_le, List, [], ◌∷◌, length, map, filter, replicate, Option, Some, None, Ok, Err, is_some, refl}
use Rattle.std.proofs.Common.{sym, ap, subst, ◌∙◌, inl, inr, ⊎_elim, arith}
use Rattle.std.specs.List.{list_any}
use Rattle.std.specs.Ordering.{nat_cmp, is_eq}
use Rattle.std.proofs.lemmas.List.{length-replicate}
use Rattle.std.proofs.lemmas.Bool.{cases_Bool, true≢false, false≢true, and_parts, and_cases, eqb-true, eq-eqb, eqb-false, le-leb, cond-true, lt-ltb, ltb-true, not-false, not-true, or_parts, or_cases, false_from_ne_true}
use Rattle.std.proofs.lemmas.Option.{none-some, same_Some}
use Rattle.tree_model.specs.declared.call.Call.{Call}
use Rattle.tree_model.specs.declared.call.Call.TheVariants as calls
use Rattle.tree_model.specs.declared.node.Node.{Node}
use Rattle.tree_model.specs.declared.node.Node.TheVariants as nodes
use Rattle.tree_model.specs.declared.node.Directory.{Directory}
use Rattle.tree_model.specs.declared.node.File.{File}
use Rattle.tree_model.specs.Maps.{at_number, put_number, without_number}
use Rattle.tree_model.specs.laws.MapsLaws.{number_same, at_put_number, at_put_number_apart}
use Rattle.tree_model.specs.Calls.{Tree, Done, Found, Place, Move, walk_path, a_file, take_name, put_file, lose_link, with_links, without_target, target_at, moved_node, place_after, tree_moved, stays, block_or_zeros, patched, touched_blocks, written_blocks, written_file, cut_body, cut_file, leaves_tree}
use Rattle.tree_model.specs.Histories.{block_in, block_at, maps_block, is_found_at, leads_to, is_touched, touches}
use Rattle.tree_model.specs.laws.MapOrder.{InOrder, in_order_put, in_order_without, at_put_cases, at_without_cases}
use Rattle.tree_model.proofs.Changes.{Change, stayed, made_directory, made_file, removed, unlinked, linked, renamed, written, written_bytes, truncated, IsPut, IsRenamed}

-- ---- a tree whose blocks are those of another, but for blocks that are gone

abbrev pub KeepsBlock : Tree → ℕ → ℕ → Option Node → Type 0
KeepsBlock tree birth index node = (block_in node index ≡ None) ⊎ (block_in node index ≡ block_at tree birth index)

pub record KeepsBlocks (tree after : Tree) : Type 0 where
  pub keeps : (birth index : ℕ) → KeepsBlock tree birth index (at_number after birth)
  pub order : InOrder after

pub keeps_itself : (tree : Tree) → InOrder tree → KeepsBlocks tree tree
keeps_itself tree order = record { keeps = λ birth index. inr refl; order = order }

module _ (tree after : Tree) (h : KeepsBlocks tree after) where
  put_keeps : (at : ℕ) (node : Node) → ((index : ℕ) → KeepsBlock tree at index (Some node)) → KeepsBlocks tree (put_number after at node)
  put_keeps at node here = record {
    keeps = λ birth index.
        at_put_cases (KeepsBlock tree birth index) after at node birth
        (λ e. subst (λ b. KeepsBlock tree b index (Some node)) (sym e) (here index))
        (λ apart. h.keeps birth index);
    order = in_order_put after at node h.order;
  }

  directory_keeps : (at : ℕ) (d : Directory) → KeepsBlocks tree (put_number after at (nodes.Directory d))
  directory_keeps at d = put_keeps at (nodes.Directory d) (λ index. inl refl)

  -- a file of the tree, with the same blocks
  file_keeps : (at : ℕ) (f new : File) → at_number tree at ≡ Some (nodes.File f) → new.blocks ≡ f.blocks → KeepsBlocks tree (put_file after at new)
  file_keeps at f new stands same =
      put_keeps at (nodes.File new) (λ index. inr (ap (λ bs. at_number bs index) same ∙ sym (ap (λ o. block_in o index) stands)))

  node_keeps : (at : ℕ) (node : Node) → at_number tree at ≡ Some node → KeepsBlocks tree (put_number after at node)
  node_keeps at node stands = put_keeps at node (λ index. inr (sym (ap (λ o. block_in o index) stands)))

  empty_keeps : (at : ℕ) (f : File) → f.blocks ≡ [] → KeepsBlocks tree (put_file after at f)
  empty_keeps at f none = put_keeps at (nodes.File f) (λ index. inl (ap (λ bs. at_number bs index) none))

  without_keeps : (at : ℕ) → KeepsBlocks tree (without_number after at)
  without_keeps at = record {
    keeps = λ birth index. at_without_cases (KeepsBlock tree birth index) after at birth h.order (λ e. inl refl) (λ apart. h.keeps birth index);
    order = in_order_without after at h.order;
  }

  lose_keeps : (at : ℕ) (f : File) → at_number tree at ≡ Some (nodes.File f) → KeepsBlocks tree (lose_link after at f)
  lose_keeps at f stands = by (nat_le f.links 1)
    where
      by : (b : Bool) → KeepsBlocks tree (if b then without_number after at else put_file after at (with_links f (f.links - 1)))
      by true = without_keeps at
      by false = file_keeps at f (with_links f (f.links - 1)) stands refl

  target_keeps_by : (t : Found) → at_number tree t.birth ≡ Some t.node → (node : Node) → t.node ≡ node →
      KeepsBlocks tree (elim (a_file node) as (λ _. Tree) [ Err reply ↦ after | Ok f ↦ lose_link after t.birth f ])
  target_keeps_by t stands (nodes.Directory d) e = h
  target_keeps_by t stands (nodes.File f) e = lose_keeps t.birth f (stands ∙ ap Some e)
  target_keeps_by t stands (nodes.Other mode) e = h

  target_keeps : (target : Option Found) → ((t : Found) → target ≡ Some t → at_number tree t.birth ≡ Some t.node) → KeepsBlocks tree (without_target after target)
  target_keeps None stands = h
  target_keeps (Some t) stands = target_keeps_by t (stands t refl) t.node refl

-- what stands at a place
found_target : (birth : ℕ) (tree : Tree) (node : Option Node) → at_number tree birth ≡ node → (t : Found) →
    ◌≡◌ {A = Option Found} (elim node as (λ _. Option Found) [ None ↦ None | Some n ↦ Some (record { birth = birth; node = n }) ]) (Some t) → at_number tree t.birth ≡ Some t.node
found_target birth tree None e t h = absurd (none-some t h)
found_target birth tree (Some node) e t h =
    subst (λ (t : Found). at_number tree t.birth ≡ Some t.node) (same_Some (record { birth = birth; node = node }) t h) e

target_by : (tree : Tree) (o : Option ℕ) (t : Found) →
    ◌≡◌ {A = Option Found}
    (elim o as (λ _. Option Found) [ None ↦ None | Some birth ↦ elim (at_number tree birth) as (λ _. Option Found) [ None ↦ None | Some n ↦ Some (record { birth = birth; node = n }) ] ])
    (Some t) → at_number tree t.birth ≡ Some t.node
target_by tree None t h = absurd (none-some t h)
target_by tree (Some birth) t h = found_target birth tree (at_number tree birth) refl t h

pub target_stands : (tree : Tree) (p : Place) (t : Found) → target_at tree p ≡ Some t → at_number tree t.birth ≡ Some t.node
target_stands tree p t h = target_by tree _ t h

moved_keeps : (tree after : Tree) (at parent : ℕ) (node : Node) → at_number tree at ≡ Some node → KeepsBlocks tree after → KeepsBlocks tree (put_number after at (moved_node parent node))
moved_keeps tree after at parent (nodes.Directory d) stands h = directory_keeps tree after h at _
moved_keeps tree after at parent (nodes.File f) stands h = node_keeps tree after h at (nodes.File f) stands
moved_keeps tree after at parent (nodes.Other mode) stands h = node_keeps tree after h at (nodes.Other mode) stands

rename_keeps : (tree : Tree) (d : Done) → InOrder tree → IsRenamed tree d → KeepsBlocks tree d.tree
rename_keeps tree d order r = subst (KeepsBlocks tree) (sym r.tree_is) (by (stays r.move))
  where
    m : Move
    m = r.move

    whole : KeepsBlocks tree (tree_moved tree r.move)
    whole =
        let taken = directory_keeps tree tree (keeps_itself tree order) r.move.from.parent _ in
        let lost = target_keeps tree (take_name tree r.move.from) taken r.move.target (λ t e. target_stands tree r.move.to t (sym r.target_is ∙ e)) in
        let left : Tree = without_target (take_name tree r.move.from) r.move.target in
        let moved = moved_keeps tree left r.move.moved.birth r.move.to.parent r.move.moved.node r.is_found.stands lost in
        directory_keeps tree (put_number left r.move.moved.birth (moved_node r.move.to.parent r.move.moved.node)) moved (place_after r.move).parent _

    by : (b : Bool) → KeepsBlocks tree (if b then tree else tree_moved tree r.move)
    by true = keeps_itself tree order
    by false = whole

-- ---- blocks that bytes touch

module _ (off : ℕ) (bytes : List ℕ) where
  pub written_untouched : (indices : List ℕ) (blocks : List (ℕ × List ℕ)) (index : ℕ) → list_any (λ i. i == index) indices ≡ false → at_number (written_blocks off bytes indices blocks) index ≡ at_number blocks index
  written_untouched [] blocks index h = refl
  written_untouched (i ∷ is) blocks index h =
      let parts = or_parts (i == index) (list_any (λ i. i == index) is) h in
      written_untouched is (put_number blocks i (patched i off bytes (block_or_zeros (at_number blocks i)))) index parts.1
      ∙ at_put_number_apart blocks i (patched i off bytes (block_or_zeros (at_number blocks i))) index (λ e. true≢false (sym (eq-eqb i index (sym e)) ∙ parts.0))

  written_kept : (indices : List ℕ) (blocks : List (ℕ × List ℕ)) (index : ℕ) → is_some (at_number blocks index) ≡ true → is_some (at_number (written_blocks off bytes indices blocks) index) ≡ true
  written_kept [] blocks index h = h
  written_kept (i ∷ is) blocks index h =
      written_kept is (put_number blocks i (patched i off bytes (block_or_zeros (at_number blocks i)))) index
      (at_put_cases (λ o. is_some o ≡ true) blocks i (patched i off bytes (block_or_zeros (at_number blocks i))) index (λ e. refl) (λ apart. h))

  pub written_touched : (indices : List ℕ) (blocks : List (ℕ × List ℕ)) (index : ℕ) → list_any (λ i. i == index) indices ≡ true → is_some (at_number (written_blocks off bytes indices blocks) index) ≡ true
  written_touched [] blocks index h = absurd (false≢true h)
  written_touched (i ∷ is) blocks index h =
      let next = put_number blocks i (patched i off bytes (block_or_zeros (at_number blocks i))) in
      ⊎_elim
      (λ here. written_kept is next index (ap is_some (ap (at_number next) (sym (eqb-true i index here)) ∙ at_put_number blocks i (patched i off bytes (block_or_zeros (at_number blocks i))))))
      (λ later. written_touched is next index later)
      (or_cases (i == index) (list_any (λ i. i == index) is) h)

-- ---- blocks that a size keeps

abbrev pub kept : ℕ → ℕ × List ℕ → Bool
kept size e = nat_lt (1024 * e.0) size

abbrev pub cut_entry : ℕ → ℕ × List ℕ → ℕ × List ℕ
cut_entry size e = (e.0, cut_body size e.0 e.1)

abbrev pub cut_blocks : ℕ → List (ℕ × List ℕ) → List (ℕ × List ℕ)
cut_blocks size blocks = map (cut_entry size) (filter (kept size) blocks)

-- what a cut leaves of a block
abbrev pub left_of : ℕ → ℕ → Option (List ℕ) → Option (List ℕ)
left_of size index None = None
left_of size index (Some body) = Some (cut_body size index body)

pub cut_out : (size : ℕ) (blocks : List (ℕ × List ℕ)) (index : ℕ) → nat_lt (1024 * index) size ≡ false → at_number (cut_blocks size blocks) index ≡ None
cut_out size [] index f = refl
cut_out size (e ∷ es) index f = by (kept size e) refl (cut_out size es index f)
  where
    by : (b : Bool) → kept size e ≡ b → at_number (cut_blocks size es) index ≡ None → at_number (map (cut_entry size) (cond b (e ∷ filter (kept size) es) (filter (kept size) es))) index ≡ None
    by true k more =
        let apart : is_eq (nat_cmp index e.0) ≡ false = false_from_ne_true (is_eq (nat_cmp index e.0)) (λ t. true≢false (sym k ∙ (ap (λ i. nat_lt (1024 * i) size) (sym (number_same index e.0 t)) ∙ f))) in
        rw apart more
    by false k more = more

pub cut_in : (size : ℕ) (blocks : List (ℕ × List ℕ)) (index : ℕ) → nat_lt (1024 * index) size ≡ true → at_number (cut_blocks size blocks) index ≡ left_of size index (at_number blocks index)
cut_in size [] index t = refl
cut_in size (e ∷ es) index t = by (kept size e) refl (cut_in size es index t)
  where
    here_or : (b : Bool) → is_eq (nat_cmp index e.0) ≡ b → at_number (cut_blocks size es) index ≡ left_of size index (at_number es index) →
        cond b (Some (cut_body size e.0 e.1)) (at_number (cut_blocks size es) index) ≡ left_of size index (cond b (Some e.1) (at_number es index))
    here_or true k more = ap (λ i. Some (cut_body size i e.1)) (sym (number_same index e.0 k))
    here_or false k more = more

    by : (b : Bool) → kept size e ≡ b → at_number (cut_blocks size es) index ≡ left_of size index (at_number es index) →
        at_number (map (cut_entry size) (cond b (e ∷ filter (kept size) es) (filter (kept size) es))) index ≡ left_of size index (at_number (e ∷ es) index)
    by true k more = here_or (is_eq (nat_cmp index e.0)) refl more
    by false k more =
        let apart : is_eq (nat_cmp index e.0) ≡ false = false_from_ne_true (is_eq (nat_cmp index e.0)) (λ s. true≢false (sym t ∙ (ap (λ i. nat_lt (1024 * i) size) (number_same index e.0 s) ∙ k))) in
        rw apart more

cut_whole : (size index : ℕ) (body : List ℕ) → nat_le (1024 * index + 1024) size ≡ true → cut_body size index body ≡ body
cut_whole size index body h = cond-true (nat_le (1024 * index + 1024) size) body _ h

-- a block that is not cut within it is gone or stays
cut_cases : (size : ℕ) (blocks : List (ℕ × List ℕ)) (index : ℕ) → (not (size % 1024 == 0) && ((size / 1024 == index) && is_some (at_number blocks index))) ≡ false →
    (at_number (cut_blocks size blocks) index ≡ None) ⊎ (at_number (cut_blocks size blocks) index ≡ at_number blocks index)
cut_cases size blocks index h = by (at_number blocks index) refl
  where
    uncut : (body : List ℕ) → (not (size % 1024 == 0) && ((size / 1024 == index) && true)) ≡ false → nat_lt (1024 * index) size ≡ true → cut_body size index body ≡ body
    uncut body none low =
        let below : 1024 * index < size = ltb-true (1024 * index) size low in
        cut_whole size index body
        (le-leb (1024 * index + 1024) size
        (⊎_elim
        (λ whole. let e = eqb-true (size % 1024) 0 (not-false (size % 1024 == 0) whole) in omega arith)
        (λ other.
        ⊎_elim
        (λ apart. let d : size / 1024 ≢ index = eqb-false (size / 1024) index apart in omega arith)
        (λ f. absurd (true≢false f))
        (and_cases (size / 1024 == index) true other))
        (and_cases (not (size % 1024 == 0)) _ none)))

    by_size : (body : List ℕ) → at_number blocks index ≡ Some body → (b : Bool) → nat_lt (1024 * index) size ≡ b →
        (at_number (cut_blocks size blocks) index ≡ None) ⊎ (at_number (cut_blocks size blocks) index ≡ Some body)
    by_size body e true low =
        inr (cut_in size blocks index low
        ∙ (ap (left_of size index) e
        ∙ ap Some (uncut body (subst (λ o. (not (size % 1024 == 0) && ((size / 1024 == index) && is_some o)) ≡ false) e h) low)))
    by_size body e false high = inl (cut_out size blocks index high)

    by : (o : Option (List ℕ)) → at_number blocks index ≡ o → (at_number (cut_blocks size blocks) index ≡ None) ⊎ (at_number (cut_blocks size blocks) index ≡ at_number blocks index)
    by None e =
        ⊎_elim
        (λ low. inl (cut_in size blocks index low ∙ ap (left_of size index) e))
        (λ high. inl (cut_out size blocks index high))
        (cases_Bool (nat_lt (1024 * index) size))
    by (Some body) e = ⊎_elim inl (λ same. inr (same ∙ sym e)) (by_size body e (nat_lt (1024 * index) size) refl)

left_some : (size index : ℕ) (o : Option (List ℕ)) → is_some o ≡ true → is_some (left_of size index o) ≡ true
left_some size index None h = h
left_some size index (Some body) h = refl

-- the block within which a file is cut stays
cut_mapped : (size : ℕ) (blocks : List (ℕ × List ℕ)) (index : ℕ) → not (size % 1024 == 0) ≡ true → (size / 1024 == index) ≡ true → is_some (at_number blocks index) ≡ true →
    is_some (at_number (cut_blocks size blocks) index) ≡ true
cut_mapped size blocks index part here mapped =
    let apart = eqb-false (size % 1024) 0 (not-true (size % 1024 == 0) part) in
    let same : size / 1024 ≡ index = eqb-true (size / 1024) index here in
    let low : 1024 * index < size = omega arith in
    ap is_some (cut_in size blocks index (lt-ltb (1024 * index) size low)) ∙ left_some size index (at_number blocks index) mapped

-- ---- calls that write

leads_by : (tree : Tree) (path : List ℕ) (found : Found) → walk_path tree path ≡ Ok found → leads_to tree path found.birth ≡ true
leads_by tree path found h = ap (λ r. is_found_at r found.birth) h ∙ eq-eqb found.birth found.birth refl

leads_from : (tree : Tree) (path : List ℕ) (found : Found) (birth : ℕ) → walk_path tree path ≡ Ok found → leads_to tree path birth ≡ true → birth ≡ found.birth
leads_from tree path found birth h t = sym (eqb-true found.birth birth (sym (ap (λ r. is_found_at r birth) h) ∙ t))

-- what a call keeps of the blocks that it does not write, and that it maps those that it writes
pub record WritesOnly (tree after : Tree) (wrote : ℕ → ℕ → Bool) : Type 0 where
  pub kept : (birth index : ℕ) → wrote birth index ≡ false → KeepsBlock tree birth index (at_number after birth)
  pub mapped : (birth index : ℕ) → wrote birth index ≡ true → maps_block after birth index ≡ true

module _ (tree : Tree) (d : Done) (path : List ℕ) where
  write_only : (off : ℕ) (bytes : List ℕ) (len : ℕ) → length bytes ≡ len → IsPut tree path (λ f. written_file f off bytes) d → WritesOnly tree d.tree (λ birth index. leads_to tree path birth && is_touched off len index)
  write_only off bytes len size p = subst (λ t. WritesOnly tree t (λ birth index. leads_to tree path birth && is_touched off len index)) (sym p.tree_is) (record {
    kept = λ birth index no.
        at_put_cases (KeepsBlock tree birth index) tree p.found.birth (nodes.File (written_file p.file off bytes)) birth
        (λ e. let untouched : is_touched off (length bytes) index ≡ false =
        ⊎_elim
        (λ none. absurd (true≢false (sym (ap (leads_to tree path) e ∙ leads_by tree path p.found p.walked) ∙ none)))
        (λ none. ap (λ n. is_touched off n index) size ∙ none)
        (and_cases (leads_to tree path birth) (is_touched off len index) no)
        in
        inr (written_untouched off bytes (touched_blocks off (length bytes)) p.file.blocks index untouched
        ∙ sym (ap (λ o. block_in o index) (ap (at_number tree) e ∙ (p.is_found.stands ∙ ap Some p.node_is)))))
        (λ apart. inr refl);
    mapped = λ birth index yes.
        let parts = and_parts (leads_to tree path birth) (is_touched off len index) yes in
        at_put_cases (λ o. is_some (block_in o index) ≡ true) tree p.found.birth (nodes.File (written_file p.file off bytes)) birth
        (λ e. written_touched off bytes (touched_blocks off (length bytes)) p.file.blocks index (ap (λ n. is_touched off n index) size ∙ parts.1))
        (λ apart. absurd (apart (leads_from tree path p.found birth p.walked parts.0)));
  })

  truncate_only : (size : ℕ) → IsPut tree path (λ f. cut_file f size) d →
      WritesOnly tree d.tree (λ birth index. leads_to tree path birth && (not (size % 1024 == 0) && ((size / 1024 == index) && maps_block tree birth index)))
  truncate_only size p = subst (λ t. WritesOnly tree t (λ birth index. leads_to tree path birth && (not (size % 1024 == 0) && ((size / 1024 == index) && maps_block tree birth index)))) (sym p.tree_is) (record {
    kept = λ birth index no.
        at_put_cases (KeepsBlock tree birth index) tree p.found.birth (nodes.File (cut_file p.file size)) birth
        (λ e.
        let is : block_at tree birth index ≡ at_number p.file.blocks index = ap (λ o. block_in o index) (ap (at_number tree) e ∙ (p.is_found.stands ∙ ap Some p.node_is)) in
        let rest : (not (size % 1024 == 0) && ((size / 1024 == index) && maps_block tree birth index)) ≡ false =
        ⊎_elim
        (λ none. absurd (true≢false (sym (ap (leads_to tree path) e ∙ leads_by tree path p.found p.walked) ∙ none)))
        (λ none. none)
        (and_cases (leads_to tree path birth) _ no)
        in
        subst (λ o. (at_number (cut_blocks size p.file.blocks) index ≡ None) ⊎ (at_number (cut_blocks size p.file.blocks) index ≡ o)) (sym is)
        (cut_cases size p.file.blocks index (subst (λ o. (not (size % 1024 == 0) && ((size / 1024 == index) && is_some o)) ≡ false) is rest)))
        (λ apart. inr refl);
    mapped = λ birth index yes.
        let first = and_parts (leads_to tree path birth) _ yes in
        let second = and_parts (not (size % 1024 == 0)) _ first.1 in
        let third = and_parts (size / 1024 == index) (maps_block tree birth index) second.1 in
        at_put_cases (λ o. is_some (block_in o index) ≡ true) tree p.found.birth (nodes.File (cut_file p.file size)) birth
        (λ e.
        let is : block_at tree birth index ≡ at_number p.file.blocks index = ap (λ o. block_in o index) (ap (at_number tree) e ∙ (p.is_found.stands ∙ ap Some p.node_is)) in
        cut_mapped size p.file.blocks index second.0 third.0 (ap is_some (sym is) ∙ third.1))
        (λ apart. absurd (apart (leads_from tree path p.found birth p.walked first.0)));
  })

-- ---- all calls

keeps_only : (tree after : Tree) (wrote : ℕ → ℕ → Bool) → KeepsBlocks tree after → ((birth index : ℕ) → wrote birth index ≡ false) → WritesOnly tree after wrote
keeps_only tree after wrote h none = record {
  kept = λ birth index no. h.keeps birth index;
  mapped = λ birth index yes. absurd (true≢false (sym yes ∙ none birth index));
}

pub quiet_touches : (tree : Tree) (c : Call) (birth index : ℕ) → leaves_tree c ≡ true → touches tree c birth index ≡ false
quiet_touches tree (calls.Mkdir path) birth index h = refl
quiet_touches tree (calls.Rmdir path) birth index h = refl
quiet_touches tree (calls.Create path) birth index h = refl
quiet_touches tree (calls.Unlink path) birth index h = refl
quiet_touches tree (calls.Link path other) birth index h = refl
quiet_touches tree (calls.Rename path other) birth index h = refl
quiet_touches tree (calls.Truncate path size) birth index h = absurd (false≢true h)
quiet_touches tree (calls.Write path off len value) birth index h = absurd (false≢true h)
quiet_touches tree (calls.Bytes path off bytes) birth index h = absurd (false≢true h)
quiet_touches tree (calls.Read path off len) birth index h = refl
quiet_touches tree (calls.List path) birth index h = refl
quiet_touches tree (calls.Stat path) birth index h = refl
quiet_touches tree (calls.Fsync path) birth index h = refl
quiet_touches tree (calls.Fdatasync path) birth index h = refl
quiet_touches tree (calls.Fbarrier path) birth index h = refl
quiet_touches tree (calls.Fdatabarrier path) birth index h = refl
quiet_touches tree calls.Sync birth index h = refl

pub change_writes : (tree : Tree) (n : ℕ) (c : Call) (d : Done) → InOrder tree → Change tree n d c → WritesOnly tree d.tree (touches tree c)
change_writes tree n c d order (stayed quiet same) =
    subst (λ t. WritesOnly tree t (touches tree c)) (sym same) (keeps_only tree tree (touches tree c) (keeps_itself tree order) (λ birth index. quiet_touches tree c birth index quiet))
change_writes tree n _ d order (made_directory parent h e g) =
    keeps_only tree d.tree (λ birth index. false)
    (subst (KeepsBlocks tree) (sym h.tree_is) (directory_keeps tree _ (directory_keeps tree tree (keeps_itself tree order) n _) h.place.parent _))
    (λ birth index. refl)
change_writes tree n _ d order (made_file h) =
    keeps_only tree d.tree (λ birth index. false)
    (subst (KeepsBlocks tree) (sym h.tree_is) (directory_keeps tree _ (empty_keeps tree tree (keeps_itself tree order) n _ refl) h.place.parent _))
    (λ birth index. refl)
change_writes tree n _ d order (removed h) =
    keeps_only tree d.tree (λ birth index. false)
    (subst (KeepsBlocks tree) (sym h.tree_is) (without_keeps tree _ (directory_keeps tree tree (keeps_itself tree order) h.place.parent _) h.found.birth))
    (λ birth index. refl)
change_writes tree n _ d order (unlinked h) =
    keeps_only tree d.tree (λ birth index. false)
    (subst (KeepsBlocks tree) (sym h.tree_is)
    (lose_keeps tree (take_name tree h.place) (directory_keeps tree tree (keeps_itself tree order) h.place.parent _) h.found.birth h.file (h.is_found.stands ∙ ap Some h.node_is)))
    (λ birth index. refl)
change_writes tree n _ d order (linked h) =
    keeps_only tree d.tree (λ birth index. false)
    (subst (KeepsBlocks tree) (sym h.tree_is)
    (directory_keeps tree (put_file tree h.found.birth (with_links h.file (h.file.links + 1)))
    (file_keeps tree tree (keeps_itself tree order) h.found.birth h.file (with_links h.file (h.file.links + 1)) (h.is_found.stands ∙ ap Some h.node_is) refl) h.place.parent _))
    (λ birth index. refl)
change_writes tree n _ d order (renamed h) = keeps_only tree d.tree (λ birth index. false) (rename_keeps tree d order h) (λ birth index. refl)
change_writes tree n _ d order (written {path} {off} {len} {value} h) = write_only tree d path off (replicate len value) len (length-replicate len value) h
change_writes tree n _ d order (written_bytes {path} {off} {bytes} h) = write_only tree d path off bytes (length bytes) refl h
change_writes tree n _ d order (truncated {path} {size} h) = truncate_only tree d path size h
