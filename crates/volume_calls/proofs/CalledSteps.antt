-- From what was done to what the call is.
use Rattle.std.proofs.Common.{◌≡◌, ℕ, true, false, Ok, Err, IsOk, refl, sym, ap, ◌∙◌}
use Rattle.std.proofs.lemmas.Bool.{true≢false}
use Rattle.tree_model.specs.declared.call.Call.{Call}
use Rattle.tree_model.specs.declared.call.Reply.{Reply}
use Rattle.tree_model.specs.declared.call.Reply.TheVariants as replies
use Rattle.tree_model.specs.Calls.{Tree, Row, Done, leaves_tree, outcome, reply_of, reply_from}
use Rattle.tree_model.proofs.Changes.{Change as TreeChange, stayed, made_directory, made_file, removed, unlinked, linked, renamed, written, written_bytes, truncated, outcome_change}
use Rattle.volume_steps.specs.Now.{VolumeNow, Change, tree_of_now, room_of, unchanged}
use Rattle.volume_steps.specs.Calls.{Called, called, called_by, changed}
use Rattle.volume_steps.proofs.Called.{quiet_changed}
use Rattle.volume_calls.specs.declared.answer.Answer.TheVariants.{Refused, Change as Changes}
use Rattle.volume_calls.specs.Asked.{Answers}

-- ---- nothing changes

abbrev told : Change → Reply → Called
told change reply = record { change = change; reply = reply }

pub quiet_called : (v : VolumeNow) (n tx : ℕ) (c : Call) (reply : Reply) → leaves_tree c ≡ true → reply ≡ reply_of (room_of v.geometry) (tree_of_now v) n c → told (unchanged v) reply ≡ called v n tx c
unfolding called reply_of
quiet_called v n tx c reply quiet is = by (outcome (room_of v.geometry) (tree_of_now v) n c) is
  where
    by : (r : Row) → reply ≡ reply_from r → told (unchanged v) reply ≡ called_by v n tx c r
    by (Err why) e = ap (told (unchanged v)) e
    by (Ok d) e = ap (told (unchanged v)) e ∙ ap (λ change. told change d.reply) (sym (quiet_changed v n tx c quiet))

pub refused_called : (v : VolumeNow) (n tx : ℕ) (c : Call) (reply : Reply) → Answers (Refused reply) (outcome (room_of v.geometry) (tree_of_now v) n c) → told (unchanged v) reply ≡ called v n tx c
unfolding called
refused_called v n tx c reply answers = by (outcome (room_of v.geometry) (tree_of_now v) n c) answers
  where
    by : (r : Row) → Answers (Refused reply) r → told (unchanged v) reply ≡ called_by v n tx c r
    by (Err why) e = ap (told (unchanged v)) e
    by (Ok d) e = absurd e

-- ---- something does

pub may_change : (r : Row) → Answers Changes r → IsOk r
may_change (Err why) e = absurd e
may_change (Ok d) e = refl

reply_is : (tree : Tree) (n : ℕ) (c : Call) (d : Done) → TreeChange tree n d c → leaves_tree c ≡ false → d.reply ≡ replies.Ok
reply_is tree n c d (stayed quiet same) f = absurd (true≢false (sym quiet ∙ f))
reply_is tree n _ d (made_directory parent h e g) f = h.reply_is
reply_is tree n _ d (made_file h) f = h.reply_is
reply_is tree n _ d (removed h) f = h.reply_is
reply_is tree n _ d (unlinked h) f = h.reply_is
reply_is tree n _ d (linked h) f = h.reply_is
reply_is tree n _ d (renamed h) f = h.reply_is
reply_is tree n _ d (written h) f = h.reply_is
reply_is tree n _ d (written_bytes h) f = h.reply_is
reply_is tree n _ d (truncated h) f = h.reply_is

pub changed_called : (v : VolumeNow) (n tx : ℕ) (c : Call) (change : Change) → leaves_tree c ≡ false → IsOk (outcome (room_of v.geometry) (tree_of_now v) n c) → change ≡ changed v n tx c → told change replies.Ok ≡ called v n tx c
unfolding called
changed_called v n tx c change changes may is = by (outcome (room_of v.geometry) (tree_of_now v) n c) refl may
  where
    by : (r : Row) → outcome (room_of v.geometry) (tree_of_now v) n c ≡ r → IsOk r → told change replies.Ok ≡ called_by v n tx c r
    by (Err why) e may = absurd (true≢false (sym may))
    by (Ok d) e may =
        ap (λ reply. told change reply) (sym (reply_is (tree_of_now v) n c d (outcome_change (room_of v.geometry) (tree_of_now v) n c d e) changes))
        ∙ ap (λ change. told change d.reply) is
