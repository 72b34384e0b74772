-- Each answer that is printed has its cause, since it is one of the host's history.
use Rattle.std.proofs.Common.{◌≡◌, ℕ, List, map, Some, slice_get, ap, ◌∙◌}
use Rattle.blk_base.specs.laws.Members.{slice_get-map_some}
use Rattle.tree_model.specs.declared.call.Call.{Call}
use Rattle.tree_model.specs.declared.call.Reply.{Reply}
use Rattle.tree_model.specs.declared.call.Reply.TheVariants as replies
use Rattle.host_answers.specs.declared.entry.Entry.{Entry}
use Rattle.host_answers.specs.declared.entry.EntryKind.{EntryKind}
use Rattle.host_answers.specs.declared.entry.EntryKind.TheVariants.{End}
use Rattle.session_grammar.specs.declared.session_script.SessionScript.{SessionScript}
use Rattle.session_core.specs.CallEnds.{Ending, Answered, Down, ReadOnly, SessionFull, EndsAt, HasCause}
use Rattle.session_core.specs.Core.{EndState, entry_in}
use Rattle.barrierfs_top.specs.Promise.{IsPrintedFor}

-- the ends of a session have their causes
abbrev AreCaused : SessionScript → EndState → Type 0
AreCaused s end = (i t : ℕ) (c : Call) (e : Ending Reply) → EndsAt end.host.history i t c e → HasCause s end i t c e

-- the same entry, but that this is noted
abbrev noted_as : Entry → EntryKind → Entry
noted_as x what = record { thread = x.thread; call = x.call; what = what }

module _ (s : SessionScript) (end : EndState) (is : AreCaused s end) (i : ℕ) (x : Entry) where
  -- the reply stands in the history as how the call ended
  by : (e : Ending Reply) → EndsAt end.host.history i (entry_in s.programs x).thread (entry_in s.programs x).call e → HasCause s end i (entry_in s.programs x).thread (entry_in s.programs x).call e
  by e there = is i (entry_in s.programs x).thread (entry_in s.programs x).call e there

  reply_caused : (reply : Reply) → slice_get end.host.history i ≡ Some (entry_in s.programs (noted_as x (End reply))) → IsPrintedFor s end i x reply
  reply_caused replies.Ok there = by (Answered replies.Ok) there
  reply_caused (replies.Bytes bytes) there = by (Answered (replies.Bytes bytes)) there
  reply_caused (replies.Names names) there = by (Answered (replies.Names names)) there
  reply_caused (replies.Stat dir size links) there = by (Answered (replies.Stat dir size links)) there
  reply_caused replies.NotFound there = by (Answered replies.NotFound) there
  reply_caused replies.Exists there = by (Answered replies.Exists) there
  reply_caused replies.NotDir there = by (Answered replies.NotDir) there
  reply_caused replies.IsDir there = by (Answered replies.IsDir) there
  reply_caused replies.NotEmpty there = by (Answered replies.NotEmpty) there
  reply_caused replies.NameTooLong there = by (Answered replies.NameTooLong) there
  reply_caused replies.TooManyLinks there = by (Answered replies.TooManyLinks) there
  reply_caused replies.TooBig there = by (Answered replies.TooBig) there
  reply_caused replies.NoSpace there = by (Answered replies.NoSpace) there
  reply_caused replies.NoInode there = by (Answered replies.NoInode) there
  reply_caused replies.BadPath there = by (Answered replies.BadPath) there
  reply_caused replies.Invalid there = by (Answered replies.Invalid) there
  reply_caused (replies.ReadOnly id) there = by (ReadOnly id) there
  reply_caused replies.Down there = by Down there
  reply_caused replies.SessionFull there = by SessionFull there

-- so it is of the entries that are printed
pub answers_caused : (s : SessionScript) (end : EndState) (history : List Entry) → end.host.history ≡ map (entry_in s.programs) history → AreCaused s end
    → (i : ℕ) (x : Entry) (reply : Reply) → slice_get history i ≡ Some x → x.what ≡ End reply → IsPrintedFor s end i x reply
answers_caused s end history noted is i x reply here e =
    reply_caused s end is i x reply
    (ap (λ h. slice_get h i) noted ∙ (slice_get-map_some (entry_in s.programs) history i x here ∙ ap (λ w. Some (entry_in s.programs (noted_as x w))) e))
