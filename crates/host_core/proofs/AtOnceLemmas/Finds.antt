-- A call that need not wait finds room, and tells little.
use Rattle.std.proofs.Common.{◌≡◌, ℕ, ◌-◌, ◌≤◌, Bool, true, false, not, nat_lt, if◌then◌else◌, length, Option, Some, None, Ok, Err, IsOk, refl, sym, ap, subst, ◌∙◌, arith}
use Rattle.std.proofs.lemmas.Bool.{false≢true}
use Rattle.std.proofs.lemmas.Option.{none-some}
use Rattle.tree_model.specs.declared.call.Call.{Call}
use Rattle.tree_model.specs.declared.call.Call.TheVariants as calls
use Rattle.tree_model.specs.Calls.{Row, Tree, outcome}
use Rattle.tree_model.specs.Plain.{AreBornBefore}
use Rattle.journal_ring.specs.running.Closing.{writers}
use Rattle.journal_ring.specs.running.Open.{quota}
use Rattle.journal_ring.specs.running.Plan.{Writers}
use Rattle.journal_ring.specs.running.Running.{fits_in, log_needs}
use Rattle.flush_actor.specs.Kinds.{is_reading}
use Rattle.commit_actor.specs.Actor.{CommitActor}
use Rattle.commit_actor.specs.Journal.{JournalPart, is_closing}
use Rattle.volume_steps.specs.Now.{VolumeNow, Change, tree_of_now, room_of, unchanged}
use Rattle.volume_steps.specs.Plain.{IsPlainNow}
use Rattle.volume_steps.specs.Calls.{called, called_by, changed}
use Rattle.volume_steps.specs.Called.{FindsRoom}
use Rattle.volume_steps.specs.Numbers.{number_in}
use Rattle.host_machine.specs.Causes as causes
use Rattle.host_machine.specs.Causes.{Cause}
use Rattle.minix_host.specs.Calls.{kind_of, refusal, refused_by, needed, would_change}
use Rattle.minix_host.specs.Numbers.{next_birth}
use Rattle.minix_host.specs.laws.Numbers.{born_before, born_before_next}
use Rattle.minix_host.proofs.SameRows.{refused_same}
use Rattle.volume_steps.proofs.TakeSteps.{none_born}
use Rattle.minix_host.specs.Volumes.{zones_of}
use Rattle.minix_host.proofs.Telling.{finds_room}
use Rattle.host_core.specs.gates.Hindrances.{hindrance_by, hindrance_of}
use Rattle.host_core.specs.lengths.Lengths.{notes_in}

-- ---- it finds room

abbrev gate : Bool → Bool → Bool → Bool → Cause → Cause → Option Cause
gate changes closing fits lacks full waits =
    if not changes then None
    else if closing then Some causes.Closing
    else if not fits then Some full
    else if lacks then Some waits else None

open_gate : (changes closing fits lacks : Bool) (full waits : Cause) → gate changes closing fits lacks full waits ≡ None → changes ≡ true → lacks ≡ false
open_gate false closing fits lacks full waits e is = absurd (false≢true is)
open_gate true true fits lacks full waits e is = absurd (none-some causes.Closing (sym e))
open_gate true false false lacks full waits e is = absurd (none-some full (sym e))
open_gate true false true true full waits e is = absurd (none-some waits (sym e))
open_gate true false true false full waits e is = refl

enough_free : (w : Writers) (zmap most : ℕ) (j : JournalPart) (v : VolumeNow) (c : Call) → hindrance_by w zmap most j v c ≡ None → would_change v c ≡ true → nat_lt (length (zones_of v).free) (needed v c) ≡ false
enough_free w zmap most j v c none changes =
    open_gate (would_change v c) (is_closing j.phase) (fits_in w zmap most j.running) (nat_lt (length (zones_of v).free) (needed v c))
    (causes.TxFull (log_needs w j.running)) (causes.Quarantine (needed v c - length (zones_of v).free)) none changes

pub room_found : (a : CommitActor) (v : VolumeNow) (n number : ℕ) (c : Call) → IsPlainNow v → refusal v c ≡ None → hindrance_of a v c ≡ None → number ≡ number_in (tree_of_now v) n → FindsRoom v number c
room_found a v n number c plain refused none e =
    subst (λ k. FindsRoom v k c) (sym e) (finds_room v plain n c refused (enough_free (writers a.made_with) v.geometry.zmap (quota a.made_with) a.part v c none))

-- nothing refuses it, whatever its number
pub may_be_done : (v : VolumeNow) (n number : ℕ) (c : Call) → IsPlainNow v → refusal v c ≡ None → number ≡ number_in (tree_of_now v) n → IsOk (outcome (room_of v.geometry) (tree_of_now v) number c)
unfolding refusal
may_be_done v n number c plain none is = by (outcome (room_of v.geometry) (tree_of_now v) number c) refl
  where
    tree : Tree
    tree = tree_of_now v

    born : AreBornBefore number tree
    born = subst (λ k. AreBornBefore k tree) (sym is) (born_before tree n)

    by : (r : Row) → outcome (room_of v.geometry) (tree_of_now v) number c ≡ r → IsOk r
    by (Ok d) e = refl
    by (Err why) e =
        let next = refused_same tree plain.plain.rooted.in_order number (next_birth tree) (none_born tree number born) (none_born tree (next_birth tree) (born_before_next tree)) (room_of v.geometry) c why e in
        absurd (none-some why (sym none ∙ ap refused_by next))

-- ---- how much it tells

reading_changes : (v : VolumeNow) (n tx : ℕ) (c : Call) → is_reading (kind_of c) ≡ true → changed v n tx c ≡ unchanged v
unfolding changed
reading_changes v n tx (calls.Mkdir path) e = absurd (false≢true e)
reading_changes v n tx (calls.Create path) e = absurd (false≢true e)
reading_changes v n tx (calls.Rmdir path) e = absurd (false≢true e)
reading_changes v n tx (calls.Unlink path) e = absurd (false≢true e)
reading_changes v n tx (calls.Link path other) e = absurd (false≢true e)
reading_changes v n tx (calls.Write path off len value) e = absurd (false≢true e)
reading_changes v n tx (calls.Bytes path off bytes) e = absurd (false≢true e)
reading_changes v n tx (calls.Truncate path size) e = absurd (false≢true e)
reading_changes v n tx (calls.Rename path other) e = absurd (false≢true e)
reading_changes v n tx other e = refl

-- a call that reads leaves all as it was
pub reading_keeps : (v : VolumeNow) (n tx : ℕ) (c : Call) → is_reading (kind_of c) ≡ true → (called v n tx c).change ≡ unchanged v
unfolding called
reading_keeps v n tx c e = by (outcome (room_of v.geometry) (tree_of_now v) n c)
  where
    by : (r : Row) → (called_by v n tx c r).change ≡ unchanged v
    by (Err why) = refl
    by (Ok d) = reading_changes v n tx c e

pub reading_notes : (v : VolumeNow) (n tx : ℕ) (c : Call) → is_reading (kind_of c) ≡ true → notes_in (called v n tx c).change.touched ≤ 0
reading_notes v n tx c e = (let none = ap (λ (x : Change). notes_in x.touched) (reading_keeps v n tx c e) in omega (arith, none))

pub reading_pages : (v : VolumeNow) (n tx : ℕ) (c : Call) → is_reading (kind_of c) ≡ true → length (called v n tx c).change.touched.pages ≤ 0
reading_pages v n tx c e = (let none = ap (λ (x : Change). length x.touched.pages) (reading_keeps v n tx c e) in omega (arith, none))
