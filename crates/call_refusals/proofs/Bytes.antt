-- The rows of calls on bytes, and of calls that change nothing.
use Rattle.std.specs.Prelude.{◌≡◌, ⊤, ℕ, ◌+◌, ◌-◌, ◌<◌, false, nat_lt, List, [], ◌∷◌, ◌++◌, length, Ok, refl}
use Rattle.std.proofs.Common.{sym, ap, subst, ◌∙◌, arith}
use Rattle.std.proofs.lemmas.Bool.{true≢false, ltb-true, lt-ltb}
use Rattle.tree_model.specs.declared.call.Call.TheVariants as calls
use Rattle.tree_model.specs.declared.call.Reply.{Reply}
use Rattle.tree_model.specs.declared.call.Reply.TheVariants as replies
use Rattle.tree_model.specs.declared.call.Room.{Room}
use Rattle.tree_model.specs.declared.node.Node.{Node}
use Rattle.tree_model.specs.declared.node.Node.TheVariants as nodes
use Rattle.tree_model.specs.declared.node.File.{File}
use Rattle.tree_model.specs.Plain.{IsPlain}
use Rattle.tree_model.specs.Calls.{Tree, Row, Found, refuse_if, and_then, leaves, answers, walk_path, a_directory, a_file, put_file, largest_size, written_file, write, cut_file, truncate, read, list, stat_of, stat, barrier, row, used_zones, if_room}
use Rattle.tree_model.specs.CallWords.{StandsAt}
use Rattle.tree_model.proofs.Rows.{file_ok, walk_path_ok}
use Rattle.tree_model.proofs.Outcomes.{needs_done}
use Rattle.tree_model.proofs.Zones.{needs_none}
use Rattle.call_refusals.specs.Conditions.{zones_left, bytes_zones}
use Rattle.call_refusals.specs.Conditions.Condition.{no_directory, no_file, too_large, no_space_for_bytes}
use Rattle.call_refusals.specs.Tables.{TableRow, when, of_a_node, of_a_file, of_a_write, table}
use Rattle.call_refusals.proofs.Told.{Told, next_then, next_if}
use Rattle.call_refusals.proofs.Words.{only_node, is_node}
use Rattle.call_refusals.proofs.Walks.{node_told, directory_told, file_told}
use Rattle.call_refusals.proofs.Rooms.{zones_of, used_put, space_told, no_zone_needed}
use Rattle.call_refusals.proofs.Names.{last, no_file_at, no_directory_at}

module _ (room : Room) (tree : Tree) (plain : IsPlain tree) where
  -- ---- a node, a directory or a file

  found_at : (path : List ℕ) (found : Found) → walk_path tree path ≡ Ok found → StandsAt tree path found.birth found.node
  found_at path found e = let w = walk_path_ok tree path found e in is_node tree path w.0 found w.1 w.2

  pub with_node : (path : List ℕ) (rows : List TableRow) (next : Found → Row) → ((found : Found) → walk_path tree path ≡ Ok found → StandsAt tree path found.birth found.node → Told room tree rows (and_then (next found) (if_room room tree))) →
      Told room tree (of_a_node path ++ rows) (and_then (and_then (walk_path tree path) next) (if_room room tree))
  with_node path rows next go = next_then room tree (last room tree) (of_a_node path) rows (walk_path tree path) next (node_told room tree plain.rooted path) (λ found e. go found e (found_at path found e))

  file_row : (path : List ℕ) (found : Found) → StandsAt tree path found.birth found.node → Told room tree (when (no_file path) replies.IsDir ∷ []) (a_file found.node)
  file_row path found s = file_told room tree plain.rooted (no_file path) found.node (λ none. (found.birth, found.node, s, none)) (λ f kind. no_file_at room tree path found.birth found.node s f kind)

  with_file : (path : List ℕ) (rows : List TableRow) (next : Found → File → Row) →
      ((found : Found) → walk_path tree path ≡ Ok found → (f : File) → a_file found.node ≡ Ok f → StandsAt tree path found.birth (nodes.File f) → Told room tree rows (and_then (next found f) (if_room room tree))) →
      Told room tree (of_a_file path ++ rows) (and_then (and_then (walk_path tree path) (λ found. and_then (a_file found.node) (next found))) (if_room room tree))
  with_file path rows next go =
      with_node path (when (no_file path) replies.IsDir ∷ rows) (λ found. and_then (a_file found.node) (next found)) (λ found e s.
      next_then room tree (last room tree) (when (no_file path) replies.IsDir ∷ []) rows (a_file found.node) (next found) (file_row path found s)
      (λ f g. go found e f g (subst (StandsAt tree path found.birth) (file_ok found.node f g) s)))

  size_told : (end : ℕ) (rows : List TableRow) (x : Row) → (nat_lt largest_size end ≡ false → Told room tree rows (and_then x (if_room room tree))) →
      Told room tree (when (too_large end) replies.TooBig ∷ rows) (and_then (refuse_if (nat_lt largest_size end) replies.TooBig x) (if_room room tree))
  size_told end rows x go =
      next_if room tree (last room tree) (when (too_large end) replies.TooBig) rows (nat_lt largest_size end) x (ltb-true largest_size end) (λ t held. true≢false (sym (lt-ltb largest_size end held) ∙ t)) go

  -- ---- bytes

  abbrev LacksRoom : ℕ → List ℕ → ℕ → Node → Type 0
  LacksRoom off bytes b (nodes.File f) = zones_left room tree < bytes_zones f off bytes
  LacksRoom off bytes b other = ⊤

  pub write_told : (path : List ℕ) (off : ℕ) (bytes : List ℕ) → Told room tree (of_a_write path off bytes) (and_then (write tree path off bytes) (if_room room tree))
  write_told path off bytes =
      with_file path (when (too_large (off + length bytes)) replies.TooBig ∷ when (no_space_for_bytes path off bytes) replies.NoSpace ∷ []) _ (λ found e f g s.
      size_told (off + length bytes) (when (no_space_for_bytes path off bytes) replies.NoSpace ∷ []) _ (λ t.
      let all = used_put tree found.birth (nodes.File (written_file f off bytes)) plain.rooted.in_order in
      let was = zones_of tree found.birth (nodes.File f) s.leads.stands in
      space_told room tree (no_space_for_bytes path off bytes) _ (bytes_zones f off bytes) (more (used_zones (put_file tree found.birth (written_file f off bytes))) (used_zones tree) _ _ _ all was)
      (λ lt. (found.birth, f, s, lt))
      (λ held. only_node tree path (LacksRoom off bytes) found.birth held.0 (nodes.File f) (nodes.File held.1) s held.2 held.3)))
    where
      more : (now old was old_zones new_zones : ℕ) → now + was ≡ old + new_zones → was ≡ old_zones → now - old ≡ new_zones - old_zones
      more now old was old_zones new_zones all same = omega arith

  cut_row : (n : ℕ) (path : List ℕ) (size : ℕ) (found : Found) (f : File) → walk_path tree path ≡ Ok found → a_file found.node ≡ Ok f → nat_lt largest_size size ≡ false →
      row tree n (calls.Truncate path size) ≡ leaves (put_file tree found.birth (cut_file f size))
  unfolding row
  cut_row n path size found f a b t =
      ap (λ x. and_then x (λ found. and_then (a_file found.node) (λ f. refuse_if (nat_lt largest_size size) replies.TooBig (leaves (put_file tree found.birth (cut_file f size)))))) a
      ∙ (ap (λ x. and_then x (λ f. refuse_if (nat_lt largest_size size) replies.TooBig (leaves (put_file tree found.birth (cut_file f size))))) b
      ∙ ap (λ x. refuse_if x replies.TooBig (leaves (put_file tree found.birth (cut_file f size)))) t)

  pub truncate_told : (path : List ℕ) (size : ℕ) → Told room tree (table (calls.Truncate path size)) (and_then (truncate tree path size) (if_room room tree))
  truncate_told path size =
      with_file path (when (too_large size) replies.TooBig ∷ []) _ (λ found e f g s.
      size_told size [] _ (λ t.
      no_zone_needed room tree _ (sym (needs_done tree 0 (calls.Truncate path size) _ (cut_row 0 path size found f e g t)) ∙ needs_none tree plain 0 (calls.Truncate path size) refl)))

  -- ---- calls that change nothing

  nothing : (reply : Reply) → Told room tree [] (and_then (answers tree reply) (if_room room tree))
  nothing reply = no_zone_needed room tree (record { tree = tree; takes_inode = false; reply = reply }) (same (used_zones tree))
    where
      same : (a : ℕ) → a - a ≡ 0
      same a = omega arith

  pub read_told : (path : List ℕ) (off len : ℕ) → Told room tree (of_a_file path) (and_then (read tree path off len) (if_room room tree))
  read_told path off len = with_file path [] _ (λ found e f g s. nothing _)

  pub list_told : (path : List ℕ) → Told room tree (table (calls.List path)) (and_then (list tree path) (if_room room tree))
  list_told path =
      with_node path (when (no_directory path) replies.NotDir ∷ []) _ (λ found e s.
      next_then room tree (last room tree) (when (no_directory path) replies.NotDir ∷ []) [] (a_directory found.node) _
      (directory_told room tree plain.rooted (no_directory path) found.node (λ kind. (found.birth, found.node, s, kind)) (no_directory_at room tree path found.birth found.node s)) (λ d g. nothing _))

  stat_node : (path : List ℕ) (birth : ℕ) (node : Node) → StandsAt tree path birth node → Told room tree [] (and_then (and_then (stat_of tree node) (answers tree)) (if_room room tree))
  stat_node path birth (nodes.Directory d) s = nothing _
  stat_node path birth (nodes.File f) s = nothing _
  stat_node path birth (nodes.Other mode) s = absurd (plain.no_other birth mode s.leads.stands)

  pub stat_told : (path : List ℕ) → Told room tree (of_a_node path) (and_then (stat tree path) (if_room room tree))
  stat_told path = with_node path [] _ (λ found e s. stat_node path found.birth found.node s)

  pub barrier_told : (path : List ℕ) → Told room tree (of_a_node path) (and_then (barrier tree path) (if_room room tree))
  barrier_told path = with_node path [] _ (λ found e s. nothing replies.Ok)

  pub sync_told : Told room tree [] (and_then (answers tree replies.Ok) (if_room room tree))
  sync_told = nothing replies.Ok
