-- A call whose reply has a list changes nothing.
use Rattle.std.proofs.Common.{◌≡◌, ℕ, true, Ok, Err, refl, sym, ap, ◌∙◌}
use Rattle.std.proofs.lemmas.Bool.{false≢true}
use Rattle.tree_model.specs.declared.call.Call.{Call}
use Rattle.tree_model.specs.declared.call.Reply.{Reply}
use Rattle.tree_model.specs.declared.call.Reply.TheVariants as replies
use Rattle.tree_model.specs.Calls.{Row, Done, outcome}
use Rattle.tree_model.proofs.Changes.{Change as TreeChange, stayed, made_directory, made_file, removed, unlinked, linked, renamed, written, written_bytes, truncated, outcome_change}
use Rattle.volume_steps.specs.Now.{VolumeNow, tree_of_now, room_of, unchanged}
use Rattle.volume_steps.specs.Calls.{called, called_by, changed}
use Rattle.volume_steps.proofs.Called.{quiet_changed}
use Rattle.host_core.specs.code.Replies.{has_list}

no_list : (reply : Reply) → reply ≡ replies.Ok → has_list reply ≡ true → ⊥
no_list reply e h = false≢true (sym (ap has_list e) ∙ h)

of_change : (v : VolumeNow) (n tx : ℕ) (c : Call) (d : Done) → TreeChange (tree_of_now v) n d c → has_list d.reply ≡ true → changed v n tx c ≡ unchanged v
of_change v n tx c d (stayed e same) h = quiet_changed v n tx c e
of_change v n tx _ d (made_directory parent m e g) h = absurd (no_list d.reply m.reply_is h)
of_change v n tx _ d (made_file m) h = absurd (no_list d.reply m.reply_is h)
of_change v n tx _ d (removed m) h = absurd (no_list d.reply m.reply_is h)
of_change v n tx _ d (unlinked m) h = absurd (no_list d.reply m.reply_is h)
of_change v n tx _ d (linked m) h = absurd (no_list d.reply m.reply_is h)
of_change v n tx _ d (renamed m) h = absurd (no_list d.reply m.reply_is h)
of_change v n tx _ d (written m) h = absurd (no_list d.reply m.reply_is h)
of_change v n tx _ d (written_bytes m) h = absurd (no_list d.reply m.reply_is h)
of_change v n tx _ d (truncated m) h = absurd (no_list d.reply m.reply_is h)

pub list_keeps : (v : VolumeNow) (n tx : ℕ) (c : Call) → has_list (called v n tx c).reply ≡ true → (called v n tx c).change ≡ unchanged v
unfolding called
list_keeps v n tx c = by (outcome (room_of v.geometry) (tree_of_now v) n c) refl
  where
    by : (r : Row) → outcome (room_of v.geometry) (tree_of_now v) n c ≡ r → has_list (called_by v n tx c r).reply ≡ true → (called_by v n tx c r).change ≡ unchanged v
    by (Err reply) is h = refl
    by (Ok d) is h = of_change v n tx c d (outcome_change (room_of v.geometry) (tree_of_now v) n c d is) h
