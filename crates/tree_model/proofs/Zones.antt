-- Which calls take zones.
use Rattle.std.specs.Prelude.{◌≡◌, ◌≤◌, ℕ, ◌+◌, ◌-◌, Bool, true, false, cond, if◌then◌else◌, nat_le, List, [], ◌∷◌, length, map, filter, Some, Ok, Err, unwrap_or, option_map, refl}
use Rattle.std.proofs.Common.{sym, ap, subst, ◌∙◌, ⊎_elim, arith}
use Rattle.std.specs.List.{list_any}
use Rattle.std.specs.Map.{keys_of}
use Rattle.std.specs.BTreeMap.{is_at}
use Rattle.std.specs.Ordering.{nat_cmp}
use Rattle.std.proofs.lemmas.Bool.{false≢true, or_cases, or_left, or_right}
use Rattle.std.proofs.lemmas.Cmp.{nat_cmp_total}
use Rattle.std.proofs.lemmas.Map.Entries.{sum_by-insert_entry, sum_by-remove_entry}
use Rattle.tree_model.specs.declared.call.Call.{Call}
use Rattle.tree_model.specs.declared.node.Node.{Node}
use Rattle.tree_model.specs.declared.node.Node.TheVariants as nodes
use Rattle.tree_model.specs.declared.node.File.{File}
use Rattle.tree_model.specs.Maps.{at_number, put_number, without_number}
use Rattle.tree_model.specs.laws.FewerZones.{zones_less}
use Rattle.tree_model.specs.laws.MapsLaws.{at_put_number_apart}
use Rattle.tree_model.specs.Calls.{Tree, Done, Row, Place, without_name, take_name, put_file, with_links, lose_link, cut_file, takes_no_zone, row, directory_zones, file_zones, node_zones, used_zones, needs}
use Rattle.tree_model.specs.Plain.{IsPlain}
use Rattle.tree_model.specs.laws.MapOrder.{InOrder, in_order_put}
use Rattle.tree_model.proofs.Changes.{Change, stayed, made_directory, made_file, removed, unlinked, linked, renamed, written, written_bytes, truncated, row_change}
use Rattle.tree_model.proofs.Blocks.{kept, cut_entry, cut_blocks}
use Rattle.tree_model.proofs.PlainNames.{directory_not_file}

-- ---- a file with fewer blocks uses no more zones

cut_short : (size : ℕ) (blocks : List (ℕ × List ℕ)) → length (keys_of (cut_blocks size blocks)) ≤ length (keys_of blocks)
cut_short size [] = omega arith
cut_short size (e ∷ es) = by (kept size e) (cut_short size es)
  where
    by : (b : Bool) → length (keys_of (cut_blocks size es)) ≤ length (keys_of es) → length (keys_of (map (cut_entry size) (cond b (e ∷ filter (kept size) es) (filter (kept size) es)))) ≤ length (keys_of (e ∷ es))
    by true h = omega arith
    by false h = omega arith

cut_any : (size : ℕ) (blocks : List (ℕ × List ℕ)) (p : ℕ → Bool) → list_any p (keys_of (cut_blocks size blocks)) ≡ true → list_any p (keys_of blocks) ≡ true
cut_any size [] p h = h
cut_any size (e ∷ es) p h = by (kept size e) (cut_any size es p) h
  where
    by : (b : Bool) → (list_any p (keys_of (cut_blocks size es)) ≡ true → list_any p (keys_of es) ≡ true) →
        list_any p (keys_of (map (cut_entry size) (cond b (e ∷ filter (kept size) es) (filter (kept size) es)))) ≡ true → list_any p (keys_of (e ∷ es)) ≡ true
    by true more h = ⊎_elim (λ t. or_left (p e.0) (list_any p (keys_of es)) t) (λ t. or_right (p e.0) (list_any p (keys_of es)) (more t)) (or_cases (p e.0) (list_any p (keys_of (cut_blocks size es))) h)
    by false more h = or_right (p e.0) (list_any p (keys_of es)) (more h)

-- ---- the zones that a tree uses

abbrev zones_at : Tree → ℕ → ℕ
zones_at tree p = unwrap_or (option_map node_zones (at_number tree p)) 0

used_put : (tree : Tree) (p : ℕ) (node : Node) → InOrder tree → used_zones (put_number tree p node) + zones_at tree p ≡ used_zones tree + node_zones node
unfolding used_zones
used_put tree p node order = sum_by-insert_entry node_zones nat_cmp_total tree p node order

used_without : (tree : Tree) (p : ℕ) → used_zones (without_number tree p) + zones_at tree p ≡ used_zones tree
unfolding used_zones
used_without tree p = sum_by-remove_entry node_zones (is_at (nat_cmp p)) tree

put_less : (tree : Tree) (p : ℕ) (old node : Node) → InOrder tree → at_number tree p ≡ Some old → node_zones node ≤ node_zones old → used_zones (put_number tree p node) ≤ used_zones tree
put_less tree p old node order stands less =
    let all = used_put tree p node order in
    let was : zones_at tree p ≡ node_zones old = ap (λ o. unwrap_or (option_map node_zones o) 0) stands in
    omega arith

without_less : (tree : Tree) (p : ℕ) → used_zones (without_number tree p) ≤ used_zones tree
without_less tree p = let all = used_without tree p in omega arith

no_more : (n : ℕ) → n ≤ n
no_more n = omega arith

take_less : (tree : Tree) (p : Place) → InOrder tree → at_number tree p.parent ≡ Some (nodes.Directory p.directory) → used_zones (take_name tree p) ≤ used_zones tree
take_less tree p order stands = put_less tree p.parent (nodes.Directory p.directory) (nodes.Directory (without_name p.directory p.name)) order stands (no_more (directory_zones p.directory.width p.directory.slots))

lose_less : (tree : Tree) (b : ℕ) (f : File) → InOrder tree → at_number tree b ≡ Some (nodes.File f) → used_zones (lose_link tree b f) ≤ used_zones tree
lose_less tree b f order stands = by (nat_le f.links 1)
  where
    by : (few : Bool) → used_zones (if few then without_number tree b else put_file tree b (with_links f (f.links - 1))) ≤ used_zones tree
    by true = without_less tree b
    by false = put_less tree b (nodes.File f) (nodes.File (with_links f (f.links - 1))) order stands (no_more (file_zones (keys_of f.blocks)))

chain : (a b c : ℕ) → a ≤ b → b ≤ c → a ≤ c
chain a b c h j = omega arith

-- ---- calls

change_less : (tree : Tree) → InOrder tree → (n : ℕ) (c : Call) (d : Done) → Change tree n d c → takes_no_zone c ≡ true → used_zones d.tree ≤ used_zones tree
change_less tree order n c d (stayed quiet same) t = subst (λ t. used_zones t ≤ used_zones tree) (sym same) (no_more (used_zones tree))
change_less tree order n _ d (made_directory parent h e g) t = absurd (false≢true t)
change_less tree order n _ d (made_file h) t = absurd (false≢true t)
change_less tree order n _ d (removed h) t =
    subst (λ t. used_zones t ≤ used_zones tree) (sym h.tree_is)
    (chain _ (used_zones (take_name tree h.place)) (used_zones tree) (without_less (take_name tree h.place) h.found.birth) (take_less tree h.place order h.is_place.stands))
change_less tree order n _ d (unlinked h) t =
    let stands = h.is_found.stands ∙ ap Some h.node_is in
    let apart = directory_not_file tree h.place.parent h.found.birth h.place.directory h.file h.is_place.stands stands in
    let there = at_put_number_apart tree h.place.parent (nodes.Directory (without_name h.place.directory h.place.name)) h.found.birth (λ e. apart (sym e)) ∙ stands in
    subst (λ t. used_zones t ≤ used_zones tree) (sym h.tree_is)
    (chain _ (used_zones (take_name tree h.place)) (used_zones tree)
    (lose_less (take_name tree h.place) h.found.birth h.file (in_order_put tree h.place.parent _ order) there) (take_less tree h.place order h.is_place.stands))
change_less tree order n _ d (linked h) t = absurd (false≢true t)
change_less tree order n _ d (renamed h) t = absurd (false≢true t)
change_less tree order n _ d (written h) t = absurd (false≢true t)
change_less tree order n _ d (written_bytes h) t = absurd (false≢true t)
change_less tree order n _ d (truncated {size = size} h) t =
    subst (λ t. used_zones t ≤ used_zones tree) (sym h.tree_is)
    (put_less tree h.found.birth (nodes.File h.file) (nodes.File (cut_file h.file size)) order (h.is_found.stands ∙ ap Some h.node_is)
    (zones_less (keys_of (cut_blocks size h.file.blocks)) (keys_of h.file.blocks) (cut_short size h.file.blocks) (cut_any size h.file.blocks)))

needs_by : (tree : Tree) → InOrder tree → (n : ℕ) (c : Call) → takes_no_zone c ≡ true → (r : Row) → row tree n c ≡ r →
    (elim r as (λ _. ℕ) [ Err reply ↦ 0 | Ok d ↦ used_zones d.tree - used_zones tree ]) ≡ 0
needs_by tree order n c t (Err reply) e = refl
needs_by tree order n c t (Ok d) e = let less = change_less tree order n c d (row_change tree n c d e) t in omega arith

-- removing, cutting and asking take no zone
pub needs_none : (tree : Tree) → IsPlain tree → (n : ℕ) (c : Call) → takes_no_zone c ≡ true → needs tree n c ≡ 0
unfolding needs
needs_none tree plain n c t = needs_by tree plain.rooted.in_order n c t (row tree n c) refl
