-- Histories: calls one after the other, which blocks of files they write, and what the trees between them have.
--
-- A history is a list of entries over the tree that was opened. The entry at place p, counted from 0, has the number
-- `first + p + 1`, where `first` is the greatest birth of that tree; so births and numbers of entries never meet.
use Rattle.std.specs.Prelude.{ℕ, zero, suc, ◌+◌, ◌-◌, ◌/◌, ◌%◌, ◌==◌, Bool, true, false, not, ◌&&◌, ◌||◌, if◌then◌else◌, List, [], length, is_some, Option, Some, None, Ok, Err, unwrap_or, Result, Ok, Err}
use Rattle.std.specs.List.{list_any, slice_get}
use Rattle.std.specs.Map.{keys_of}
use Rattle.std.specs.Str.{bytes_eq}
use Rattle.tree_model.specs.declared.call.Call.{Call}
use Rattle.tree_model.specs.declared.call.Call.TheVariants as calls
use Rattle.tree_model.specs.declared.call.Reply.{Reply}
use Rattle.tree_model.specs.declared.call.Reply.TheVariants as replies
use Rattle.tree_model.specs.declared.call.Room.{Room}
use Rattle.tree_model.specs.declared.node.Node.{Node}
use Rattle.tree_model.specs.declared.node.Node.TheVariants as nodes
use Rattle.tree_model.specs.Maps.{at_number}
use Rattle.tree_model.specs.Calls.{Tree, Found, walk_path, touched_blocks, tree_after, reply_of}

-- ---- blocks of files

-- the bytes of a node's block, where it is a file that maps it
abbrev pub block_in : Option Node → ℕ → Option (List ℕ)
block_in (Some (nodes.File f)) index = at_number f.blocks index
block_in other index = None

-- the bytes of a block of the file with this birth; None where it is not mapped, or there is no such file
abbrev pub block_at : Tree → ℕ → ℕ → Option (List ℕ)
block_at tree birth index = block_in (at_number tree birth) index

abbrev pub maps_block : Tree → ℕ → ℕ → Bool
maps_block tree birth index = is_some (block_at tree birth index)

-- ---- what a call writes

abbrev pub is_found_at : Result Found Reply → ℕ → Bool
is_found_at (Err reply) birth = false
is_found_at (Ok found) birth = found.birth == birth

-- the path leads to the node with this birth
abbrev pub leads_to : Tree → List ℕ → ℕ → Bool
leads_to tree path birth = is_found_at (walk_path tree path) birth

-- block `index` has one of `len` bytes from `off` on
abbrev pub is_touched : ℕ → ℕ → ℕ → Bool
is_touched off len index = list_any (λ i. i == index) (touched_blocks off len)

-- A call touches a block of a file where it writes bytes of it; or where it cuts the file within it, and the block is
-- mapped.
abbrev pub touches : Tree → Call → ℕ → ℕ → Bool
touches tree (calls.Write path off len value) birth index = leads_to tree path birth && is_touched off len index
touches tree (calls.Bytes path off bytes) birth index = leads_to tree path birth && is_touched off (length bytes) index
touches tree (calls.Truncate path size) birth index =
    leads_to tree path birth && (not (size % 1024 == 0) && ((size / 1024 == index) && maps_block tree birth index))
touches tree other birth index = false

abbrev pub is_ok : Reply → Bool
is_ok replies.Ok = true
is_ok other = false

-- a call that answers Ok writes the blocks that it touches
unfoldable pub writes : Room → Tree → ℕ → Call → ℕ → ℕ → Bool
writes room tree n c birth index = is_ok (reply_of room tree n c) && touches tree c birth index

-- ---- entries

-- an entry: a call that is done, or nothing, as where a call begins or is turned away
abbrev pub Entry : Type 0
Entry = Option Call

-- only an entry with a call that is done changes the tree
abbrev pub tree_after_entry : Room → Tree → ℕ → Option Entry → Tree
tree_after_entry room tree n (Some (Some c)) = tree_after room tree n c
tree_after_entry room tree n other = tree

-- the entry, with number `n`, writes block `index` of the file with this birth
abbrev pub entry_writes : Room → Tree → ℕ → Option Entry → ℕ → ℕ → Bool
entry_writes room tree n (Some (Some c)) birth index = writes room tree n c birth index
entry_writes room tree n other birth index = false

-- two files with the same size and the same mapped blocks, or no file in both
abbrev pub same_file : Option Node → Option Node → Bool
same_file (Some (nodes.File f)) (Some (nodes.File h)) = (f.size == h.size) && bytes_eq (keys_of f.blocks) (keys_of h.blocks)
same_file (Some (nodes.File f)) other = false
same_file other (Some (nodes.File h)) = false
same_file one other = true

module _ (room : Room) (opened : Tree) (first : ℕ) (entries : List Entry) where
  -- the tree after so many entries
  unfoldable pub tree_after_entries : ℕ → Tree
  tree_after_entries zero = opened
  tree_after_entries (suc k) = tree_after_entry room (tree_after_entries k) (first + suc k) (slice_get entries k)

  -- the tree after the entries numbered up to n
  abbrev pub tree_at : ℕ → Tree
  tree_at n = tree_after_entries (n - first)

  -- the last of so many entries wrote this block of this file
  unfoldable pub writes_among : ℕ → ℕ → ℕ → Bool
  writes_among zero birth index = false
  writes_among (suc k) birth index = entry_writes room (tree_after_entries k) (first + suc k) (slice_get entries k) birth index

  -- entry n wrote this block of this file
  abbrev pub wrote : ℕ → ℕ → ℕ → Bool
  wrote n birth index = writes_among (n - first) birth index

  -- the tree after entry n maps the block
  abbrev pub maps : ℕ → ℕ → ℕ → Bool
  maps n birth index = maps_block (tree_at n) birth index

  -- its bytes in that tree, or none where it is not mapped
  abbrev pub content : ℕ → ℕ → ℕ → List ℕ
  content n birth index = unwrap_or (block_at (tree_at n) birth index) []

  -- the last entry up to n that wrote the block, 0 where none did
  abbrev pub last : ℕ → ℕ → ℕ → ℕ
  last zero birth index = 0
  last (suc n) birth index = if wrote (suc n) birth index then suc n else last n birth index

  -- entry n changed the file's size or its mapped blocks, or made or removed it
  abbrev pub changed : ℕ → ℕ → Bool
  changed n birth = not (same_file (at_number (tree_at (n - 1)) birth) (at_number (tree_at n) birth))

  -- one of so many entries after entry n did
  abbrev pub changed_after : ℕ → ℕ → ℕ → Bool
  changed_after n zero birth = false
  changed_after n (suc d) birth = changed (n + suc d) birth || changed_after n d birth
