-- A volume answers calls as its tree does.
use Rattle.std.proofs.Common.{◌≡◌, ◌≢◌, ℕ, ◌-◌, Bool, true, false, nat_lt, Some, None, Result, Ok, Err, refl, sym, ap, ◌∙◌}
use Rattle.std.proofs.lemmas.Bool.{true≢false}
use Rattle.std.proofs.lemmas.Option.{none-some, same_Some}
use Rattle.tree_model.specs.declared.call.Call.{Call}
use Rattle.tree_model.specs.declared.call.Call.TheVariants as calls
use Rattle.tree_model.specs.declared.call.Reply.{Reply}
use Rattle.tree_model.specs.declared.call.Reply.TheVariants as replies
use Rattle.tree_model.specs.declared.call.Room.{Room}
use Rattle.tree_model.specs.Calls.{Tree, Row, Done, Found, and_then, refuse_if, answers, walk_path, new_file, row, if_room, used_zones, outcome, reply_from, reply_of}
use Rattle.tree_model.specs.Histories.{is_ok}
use Rattle.tree_model.specs.Plain.{AreBornBefore, IsPlain}
use Rattle.tree_model.proofs.Causes.{refused_for, cause_not_ok}
use Rattle.volume_steps.specs.Calls.{called_by, called}
use Rattle.volume_steps.specs.Now.{VolumeNow, tree_of_now, room_of}
use Rattle.volume_steps.specs.Plain.{IsPlainNow}
use Rattle.volume_steps.proofs.PlainNow.{tree_is_plain}
use Rattle.crash_laws.specs.LegalHistory.{is_waiting, is_turned_away}
use Rattle.crash_laws.specs.LegalHistory as legal
use Rattle.flush_actor.specs.Kinds.{is_begun, is_reading}
use Rattle.minix_host.specs.Calls.{kind_of, refused_by, refusal, would_change, done_as}
use Rattle.minix_host.specs.Numbers.{next_birth, number_in}
use Rattle.minix_host.proofs.Asked.{refusal_is}
use Rattle.call_sessions.proofs.PromisesLemmas.TreeReplies.{never_turned_away}

-- ---- kinds of calls

pub waits_are : (c : Call) → is_waiting c ≡ is_begun (kind_of c)
waits_are (calls.Fsync path) = refl
waits_are (calls.Fdatasync path) = refl
waits_are (calls.Fbarrier path) = refl
waits_are (calls.Fdatabarrier path) = refl
waits_are calls.Sync = refl
waits_are (calls.Read path off len) = refl
waits_are (calls.List path) = refl
waits_are (calls.Stat path) = refl
waits_are other = refl

pub reads_are : (c : Call) → legal.is_reading c ≡ is_reading (kind_of c)
reads_are (calls.Read path off len) = refl
reads_are (calls.List path) = refl
reads_are (calls.Stat path) = refl
reads_are other = refl

pub reads_are_still : (v : VolumeNow) (c : Call) → is_reading (kind_of c) ≡ true → would_change v c ≡ false
unfolding would_change
reads_are_still v (calls.Read path off len) e = refl
reads_are_still v (calls.List path) e = refl
reads_are_still v (calls.Stat path) e = refl
reads_are_still v other e = absurd (true≢false (sym e))

-- ---- answers that are no tree's

row_refuses : (r : Row) (why : Reply) → refused_by r ≡ Some why → r ≡ Err why
row_refuses (Err one) why e = ap Err (same_Some one why e)
row_refuses (Ok d) why e = absurd (none-some why e)

row_goes_on : (r : Row) → refused_by r ≡ None → (d : Done) × (r ≡ Ok d)
row_goes_on (Ok d) e = (d, refl)
row_goes_on (Err why) e = absurd (none-some why (sym e))

outcome_own : (room : Room) (tree : Tree) (n : ℕ) (c : Call) (why : Reply) → outcome room tree n c ≡ Err why → is_turned_away why ≡ false
unfolding reply_of
outcome_own room tree n c why e = ap (λ r. is_turned_away (reply_from r)) (sym e) ∙ never_turned_away room tree n c

pub refusal_own : (v : VolumeNow) (c : Call) (why : Reply) → refusal v c ≡ Some why → is_turned_away why ≡ false
unfolding refusal
refusal_own v c why e =
    outcome_own (room_of v.geometry) (tree_of_now v) (next_birth (tree_of_now v)) c why (row_refuses (outcome (room_of v.geometry) (tree_of_now v) (next_birth (tree_of_now v)) c) why e)

-- a refusal is not Ok
outcome_not_ok : (room : Room) (tree : Tree) → IsPlain tree → (n : ℕ) (c : Call) (why : Reply) → outcome room tree n c ≡ Err why → is_ok why ≡ false
outcome_not_ok room tree plain n c why e = cause_not_ok room tree n c why (refused_for room tree plain.rooted n c why e)

pub refusal_not_ok : (v : VolumeNow) (c : Call) (why : Reply) → IsPlainNow v → refusal v c ≡ Some why → why ≢ replies.Ok
unfolding refusal
refusal_not_ok v c why h e ok =
    let row = row_refuses (outcome (room_of v.geometry) (tree_of_now v) (next_birth (tree_of_now v)) c) why e in
    true≢false (ap is_ok (sym ok) ∙ outcome_not_ok (room_of v.geometry) (tree_of_now v) (tree_is_plain v h) (next_birth (tree_of_now v)) c why row)

called_reply : (v : VolumeNow) (n k : ℕ) (c : Call) (r : Row) → (called_by v n k c r).reply ≡ reply_from r
called_reply v n k c (Err reply) = refl
called_reply v n k c (Ok d) = refl

pub done_reply : (v : VolumeNow) (n k : ℕ) (c : Call) → (done_as v n k c).reply ≡ reply_of (room_of v.geometry) (tree_of_now v) (number_in (tree_of_now v) n) c
unfolding done_as called reply_of
done_reply v n k c = called_reply v (number_in (tree_of_now v) n) k c (outcome (room_of v.geometry) (tree_of_now v) (number_in (tree_of_now v) n) c)

pub done_own : (v : VolumeNow) (n k : ℕ) (c : Call) → is_turned_away (done_as v n k c).reply ≡ false
done_own v n k c = ap is_turned_away (done_reply v n k c) ∙ never_turned_away (room_of v.geometry) (tree_of_now v) (number_in (tree_of_now v) n) c

-- ---- refusals and answers by the tree

module _ (v : VolumeNow) (n : ℕ) (c : Call) (h : IsPlainNow v) (born : AreBornBefore n (tree_of_now v)) where
  abbrev Outcome : Row
  Outcome = outcome (room_of v.geometry) (tree_of_now v) n c

  refused_row : (why : Reply) → refusal v c ≡ Some why → Outcome ≡ Err why
  refused_row why e = row_refuses Outcome why (sym (refusal_is v n c h born) ∙ e)

  pub refused_reply : (why : Reply) → refusal v c ≡ Some why → why ≡ reply_of (room_of v.geometry) (tree_of_now v) n c
  unfolding reply_of
  refused_reply why e = sym (ap reply_from (refused_row why e))

  pub free_row : refusal v c ≡ None → (d : Done) × (Outcome ≡ Ok d)
  free_row e = row_goes_on Outcome (sym (refusal_is v n c h born) ∙ e)

-- a barrier or sync call that is not refused answers Ok
room_ok : (room : Room) (tree : Tree) (test : Bool) (d : Done) (e : Done) → refuse_if test replies.NoSpace (Ok d) ≡ Ok e → d.reply ≡ e.reply
room_ok room tree true d e same = (let never : ◌≡◌ {A = Row} (Err replies.NoSpace) (Ok e) = same in absurd (cc never))
room_ok room tree false d e same = ap reply_from same

barrier_reply : (room : Room) (tree : Tree) (x : Result Found Reply) (d : Done) → and_then (and_then x (λ found. answers tree replies.Ok)) (if_room room tree) ≡ Ok d → d.reply ≡ replies.Ok
barrier_reply room tree (Err why) d same = (let never : ◌≡◌ {A = Row} (Err why) (Ok d) = same in absurd (cc never))
barrier_reply room tree (Ok found) d same =
    sym (room_ok room tree (nat_lt (room.capacity - used_zones tree) (used_zones tree - used_zones tree)) (record { tree = tree; takes_inode = false; reply = replies.Ok }) d same)

pub begun_reply : (room : Room) (tree : Tree) (n : ℕ) (c : Call) (d : Done) → is_begun (kind_of c) ≡ true → outcome room tree n c ≡ Ok d → reply_of room tree n c ≡ replies.Ok
unfolding reply_of outcome row
begun_reply room tree n c d kind is = ap reply_from is ∙ by c kind is
  where
    by : (c : Call) → is_begun (kind_of c) ≡ true → outcome room tree n c ≡ Ok d → d.reply ≡ replies.Ok
    by (calls.Fsync path) kind is = barrier_reply room tree (walk_path tree path) d is
    by (calls.Fdatasync path) kind is = barrier_reply room tree (walk_path tree path) d is
    by (calls.Fbarrier path) kind is = barrier_reply room tree (walk_path tree path) d is
    by (calls.Fdatabarrier path) kind is = barrier_reply room tree (walk_path tree path) d is
    by calls.Sync kind is = barrier_reply room tree (Ok (record { birth = 0; node = new_file })) d is
    by other kind is = absurd (true≢false (sym kind))
