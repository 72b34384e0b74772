-- The summary of a session that ran a workload.
use Rattle.std.specs.Prelude.{ℕ, ◌++◌, Bool, true, false, List, codes}
use Rattle.host_answers.specs.declared.entry.Entry.{Entry}
use Rattle.host_answers.specs.declared.entry.EntryKind.{EntryKind}
use Rattle.host_answers.specs.declared.entry.EntryKind.TheVariants.{Begin, End}
use Rattle.session_report.specs.text.Lines.{count_line}
use Rattle.tree_model.specs.declared.call.Reply.{Reply}
use Rattle.tree_model.specs.declared.call.Reply.TheVariants as replies
use Rattle.tree_model.specs.declared.node.Node.{Node}
use Rattle.tree_model.specs.declared.node.Node.TheVariants as nodes
use Rattle.session_report.specs.declared.bulk.summary.Summary.{Summary}

abbrev pub is_ok_reply : Reply → Bool
is_ok_reply replies.Ok = true
is_ok_reply r = false

abbrev pub ends_ok : EntryKind → Bool
ends_ok Begin = false
ends_ok (End reply) = is_ok_reply reply

-- the call was answered with `ok`
abbrev pub is_ok : Entry → Bool
is_ok e = ends_ok e.what

abbrev pub is_file_node : Node → Bool
is_file_node (nodes.File f) = true
is_file_node n = false

-- the node of this birth is a file
abbrev pub is_file : ℕ × Node → Bool
is_file node = is_file_node node.1

-- seven lines, each a word and a number
unfoldable pub summary_text : Summary → List ℕ
summary_text s =
    count_line (codes "bulk") s.number ++ count_line (codes "steps") s.steps ++ count_line (codes "requests") s.requests ++ count_line (codes "closed") s.closed
    ++ count_line (codes "found") s.found ++ count_line (codes "ok") s.ok ++ count_line (codes "files") s.files
