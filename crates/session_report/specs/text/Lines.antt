-- The lines of a session's report beside the tree.
use Rattle.std.specs.Prelude.{ℕ, ◌<◌, List, [], ◌++◌, codes}
use Rattle.std.specs.Fmt.{decimal}
use Rattle.tree_model.specs.declared.call.Reply.{Reply}
use Rattle.host_answers.specs.declared.standing.Stand.{Stand}
use Rattle.host_answers.specs.declared.standing.Stand.TheVariants as stands
use Rattle.host_answers.specs.declared.standing.Standing.{Standing}
use Rattle.session_report.specs.text.Replies.{reply_text}

abbrev pub is_ascii : ℕ → Type 0
is_ascii b = b < 128

-- the thread, the call's line in the script, and the reply
abbrev pub answer_line : ℕ → List ℕ → Reply → List ℕ
answer_line thread line reply = decimal thread ++ codes " " ++ line ++ codes ": " ++ reply_text reply ++ codes "\n"

unfoldable pub cause_text : List ℕ → ℕ → List ℕ
cause_text word number = codes " waiting " ++ word ++ codes " " ++ decimal number

unfoldable pub conflict_text : ℕ → ℕ → List ℕ
conflict_text block transaction = cause_text (codes "conflict") block ++ codes " " ++ decimal transaction

-- where the next call of a thread is, or what it waits for; nothing where it has not begun or there is none
abbrev pub state_text : Stand → List ℕ
state_text stands.Fresh = []
state_text stands.Sending = codes " sending"
state_text (stands.Conflict block transaction) = conflict_text block transaction
state_text (stands.Commit transaction) = cause_text (codes "commit") transaction
state_text (stands.Durable id) = cause_text (codes "durable") id

-- how many calls of a thread were answered, of how many, and what the next one is at
abbrev pub thread_line : ℕ → Standing → List ℕ
thread_line thread s = codes "thread " ++ decimal thread ++ codes ": " ++ decimal s.answered ++ codes " of " ++ decimal s.calls ++ state_text s.state ++ codes "\n"

abbrev pub count_line : List ℕ → ℕ → List ℕ
count_line word count = word ++ codes " " ++ decimal count ++ codes "\n"
