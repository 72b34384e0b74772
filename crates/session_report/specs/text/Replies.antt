-- The text of each reply.
use Rattle.std.specs.Prelude.{ℕ, Bool, true, false, List, [], ◌∷◌, ◌++◌, codes}
use Rattle.std.specs.Fmt.{decimal}
use Rattle.byte_text.specs.Runs.{runs_text}
use Rattle.tree_model.specs.Text.{name_text}
use Rattle.tree_model.specs.declared.call.Reply.{Reply}
use Rattle.tree_model.specs.declared.call.Reply.TheVariants as replies

-- each name behind a space
abbrev pub spaced : List (List ℕ) → List ℕ
spaced [] = []
spaced (name ∷ names) = codes " " ++ name_text name ++ spaced names

-- a dash where there is no name
abbrev pub names_text : List (List ℕ) → List ℕ
names_text [] = codes " -"
names_text (name ∷ names) = spaced (name ∷ names)

-- whether a node is a directory
abbrev pub kind_text : Bool → List ℕ
kind_text true = codes "dir"
kind_text false = codes "file"

abbrev pub reply_text : Reply → List ℕ
reply_text replies.Ok = codes "ok"
reply_text (replies.Bytes bytes) = codes "bytes " ++ runs_text bytes
reply_text (replies.Names names) = codes "names" ++ names_text names
reply_text (replies.Stat dir size links) = kind_text dir ++ codes " size " ++ decimal size ++ codes " links " ++ decimal links
reply_text replies.NotFound = codes "not found"
reply_text replies.Exists = codes "exists"
reply_text replies.NotDir = codes "not a directory"
reply_text replies.IsDir = codes "is a directory"
reply_text replies.NotEmpty = codes "not empty"
reply_text replies.NameTooLong = codes "name too long"
reply_text replies.TooManyLinks = codes "too many links"
reply_text replies.TooBig = codes "too big"
reply_text replies.NoSpace = codes "no space"
reply_text replies.NoInode = codes "no inode"
reply_text replies.BadPath = codes "bad path"
reply_text replies.Invalid = codes "invalid"
reply_text (replies.ReadOnly id) = codes "read-only " ++ decimal id
reply_text replies.Down = codes "down"
reply_text replies.SessionFull = codes "session full"
