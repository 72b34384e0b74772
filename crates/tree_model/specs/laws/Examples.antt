-- Examples of calls: sessions on a new volume, call after call.
use Rattle.std.specs.Prelude.{ℕ, ◌+◌, ◌*◌, true, false, List, [], ◌∷◌, codes}
use Rattle.tree_model.specs.declared.call.Call.{Call}
use Rattle.tree_model.specs.declared.call.Call.TheVariants as calls
use Rattle.tree_model.specs.declared.call.Reply.{Reply}
use Rattle.tree_model.specs.declared.call.Reply.TheVariants as replies
use Rattle.tree_model.specs.declared.call.Room.{Room}
use Rattle.tree_model.specs.declared.node.Node.TheVariants as nodes
use Rattle.tree_model.specs.Calls.{Tree, tree_after, reply_of, needs}

-- the tree of a new volume, with names of this width
abbrev pub new_tree : ℕ → Tree
new_tree width = (0, nodes.Directory (record { parent = 0; width = width; slots = 2; names = [] })) ∷ []

-- a volume of 64 zones with 32 inodes, of which the first five blocks are no zones of data
abbrev pub small_room : Room
small_room = record { inodes = 32; capacity = 59 }

-- the replies of calls one after the other, the first with this number
abbrev pub replies_to : Room → Tree → ℕ → List Call → List Reply
replies_to room tree n [] = []
replies_to room tree n (c ∷ cs) = reply_of room tree n c ∷ replies_to room (tree_after room tree n c) (n + 1) cs

-- the tree after them
abbrev pub tree_after_calls : Room → Tree → ℕ → List Call → Tree
tree_after_calls room tree n [] = tree
tree_after_calls room tree n (c ∷ cs) = tree_after_calls room (tree_after room tree n c) (n + 1) cs

-- the zones that a call needs after others on a new volume
abbrev pub needs_after : List Call → Call → ℕ
needs_after before c = needs (tree_after_calls small_room (new_tree 14) 1 before) 20 c

-- a byte written to the block of a file at this index
abbrev pub write_block : ℕ → Call
write_block index = calls.Write (codes "/f") (1024 * index) 1 170

-- ---- a session with most replies

abbrev pub names_session : List Call
names_session =
    calls.Mkdir (codes "/a")
    ∷ calls.Mkdir (codes "/a")
    ∷ calls.Create (codes "/a/abcdefghijklmn")
    ∷ calls.Create (codes "/a/abcdefghijklmno")
    ∷ calls.Rmdir (codes "/a")
    ∷ calls.Unlink (codes "/a")
    ∷ calls.List (codes "/a")
    ∷ calls.Rename (codes "/a") (codes "/a/b")
    ∷ calls.Read (codes "/a/abcdefghijklmn") 0 5
    ∷ calls.Truncate (codes "/a/abcdefghijklmn") 3
    ∷ calls.Read (codes "/a/abcdefghijklmn") 0 5
    ∷ calls.Create (codes "a")
    ∷ calls.Create (codes "/a/abcdefghijklmn/z")
    ∷ calls.Create (codes "/b/z")
    ∷ calls.Rmdir (codes "/")
    ∷ calls.Stat (codes "/")
    ∷ []

abbrev pub names_replies : List Reply
names_replies =
    replies.Ok
    ∷ replies.Exists
    ∷ replies.Ok
    ∷ replies.NameTooLong
    ∷ replies.NotEmpty
    ∷ replies.IsDir
    ∷ replies.Names (codes "abcdefghijklmn" ∷ [])
    ∷ replies.Invalid
    ∷ replies.Bytes []
    ∷ replies.Ok
    ∷ replies.Bytes (0 ∷ 0 ∷ 0 ∷ [])
    ∷ replies.BadPath
    ∷ replies.NotDir
    ∷ replies.NotFound
    ∷ replies.Invalid
    ∷ replies.Stat true 48 3
    ∷ []

-- ---- the last block of the largest file

abbrev pub last_block_session : List Call
last_block_session =
    calls.Create (codes "/f")
    ∷ calls.Write (codes "/f") 268965888 1024 170
    ∷ calls.Write (codes "/f") 268966912 1 170
    ∷ calls.Stat (codes "/f")
    ∷ []

abbrev pub last_block_replies : List Reply
last_block_replies = replies.Ok ∷ replies.Ok ∷ replies.TooBig ∷ replies.Stat false 268966912 1 ∷ []

-- ---- a session with links and renames

abbrev pub moves_session : List Call
moves_session =
    calls.Create (codes "/f")
    ∷ calls.Mkdir (codes "/d")
    ∷ calls.Link (codes "/f") (codes "/g")
    ∷ calls.Stat (codes "/")
    ∷ calls.Stat (codes "/f")
    ∷ calls.Link (codes "/d") (codes "/h")
    ∷ calls.Unlink (codes "/f")
    ∷ calls.Rename (codes "/g") (codes "/d/f")
    ∷ calls.Stat (codes "/d")
    ∷ calls.Stat (codes "/d/f")
    ∷ calls.Rename (codes "/d") (codes "/d/f")
    ∷ calls.Create (codes "/x")
    ∷ calls.Stat (codes "/")
    ∷ calls.Rename (codes "/x") (codes "/d")
    ∷ calls.Rename (codes "/d") (codes "/x")
    ∷ calls.Rename (codes "/x") (codes "/d/f")
    ∷ calls.List (codes "/")
    ∷ calls.Mkdir (codes "/e")
    ∷ calls.Rename (codes "/d") (codes "/e")
    ∷ calls.Rename (codes "/d") (codes "/e/d")
    ∷ calls.List (codes "/e")
    ∷ calls.Stat (codes "/e")
    ∷ calls.Stat (codes "/e/d")
    ∷ []

-- The root has five slots after three names, and keeps them: names that come later take those of names that went.
abbrev pub moves_replies : List Reply
moves_replies =
    replies.Ok
    ∷ replies.Ok
    ∷ replies.Ok
    ∷ replies.Stat true 80 3
    ∷ replies.Stat false 0 2
    ∷ replies.IsDir
    ∷ replies.Ok
    ∷ replies.Ok
    ∷ replies.Stat true 48 2
    ∷ replies.Stat false 0 1
    ∷ replies.Invalid
    ∷ replies.Ok
    ∷ replies.Stat true 80 3
    ∷ replies.IsDir
    ∷ replies.NotDir
    ∷ replies.Ok
    ∷ replies.Names (codes "d" ∷ [])
    ∷ replies.Ok
    ∷ replies.Exists
    ∷ replies.Ok
    ∷ replies.Names (codes "d" ∷ [])
    ∷ replies.Stat true 48 3
    ∷ replies.Stat true 48 2
    ∷ []
