-- Why calls end with no answer of the tree: each such entry has its cause, in what was there when it was made.
use Rattle.std.specs.Prelude.{◌≡◌, ◌⊎◌, ◌<◌, ◌++◌, ℕ, false, List, length, take, Some}
use Rattle.blk_base.specs.Members.{In}
use Rattle.order_model.specs.declared.completion.Completion.TheVariants as completions
use Rattle.flush_actor.specs.Kinds.{is_reading}
use Rattle.flush_actor.specs.Part.{first_failed}
use Rattle.flush_actor.specs.declared.call_kind.CallKind.{CallKind}
use Rattle.host_machine.specs.State.{Ending, Down, ReadOnly, SessionFull, Host}
use Rattle.host_machine.specs.runs.Runs.{Event}
use Rattle.call_sessions.specs.promises.Entries.{EndsAt}

-- How far a session had come when entry e was made: after some of its steps, the first ones, the history had e entries, and
-- so many completions were taken and so many requests submitted. `host` is the host after a list of steps.
pub record HadCome {V C R : Type 0} (host : List Event → Host V C R) (events : List Event) (e taken submitted : ℕ) : Type 0 where
  pub before : List Event
  pub after : List Event
  pub split : events ≡ before ++ after
  pub entries : length (host before).history ≡ e
  pub took : length (host before).journal.flush.taken ≡ taken
  pub sent : length (host before).journal.flush.requests ≡ submitted

-- of a session that may submit so many requests, where `Had e n m` says that n completions were taken and m requests submitted
-- when entry e was made
pub record HaveCauses {V C R : Type 0} (kind : C → CallKind) (limit : ℕ) (Had : ℕ → ℕ → ℕ → Type 0) (h : Host V C R) : Type 0 where
  -- the power went: its completion was taken by then
  pub down : (e t : ℕ) (c : C) → EndsAt h.history e t c Down → (n m : ℕ) × Had e n m × In completions.Cut (take n h.journal.flush.taken)
  -- this request failed, as the first of all that were taken by then; a call that only reads does not end by that
  pub read_only : (e t id : ℕ) (c : C) → EndsAt h.history e t c (ReadOnly id) → (n m : ℕ) × Had e n m × (first_failed (take n h.journal.flush.taken) ≡ Some id)
  pub read_only_writes : (e t id : ℕ) (c : C) → EndsAt h.history e t c (ReadOnly id) → is_reading (kind c) ≡ false
  -- all requests that there may be were submitted by then, and no more came; nor does it end by that
  pub session_full : (e t : ℕ) (c : C) → EndsAt h.history e t c SessionFull → (n : ℕ) × Had e n limit × (length h.journal.flush.requests ≡ limit)
  pub session_full_writes : (e t : ℕ) (c : C) → EndsAt h.history e t c SessionFull → is_reading (kind c) ≡ false
  -- Down ends all calls behind it, and so does a request that failed, but for those that only read and those that Down ends
  pub down_stays : (i j t u : ℕ) (c d : C) (e : Ending R) → i < j → EndsAt h.history i t c Down → EndsAt h.history j u d e → e ≡ Down
  pub read_only_stays : (i j t u id : ℕ) (c d : C) (e : Ending R) → i < j → EndsAt h.history i t c (ReadOnly id) → EndsAt h.history j u d e → is_reading (kind d) ≡ false → (e ≡ ReadOnly id) ⊎ (e ≡ Down)
