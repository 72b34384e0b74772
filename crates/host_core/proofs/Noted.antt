-- What is noted of a thread's call: the host is the machine's with that entry, and that thread.
use Rattle.std.proofs.Common.{◌≡◌, ◌+◌, ◌-◌, ℕ, suc, zero, List, [], ◌∷◌, ◌++◌, map, set, drop, Option, Some, None, unwrap_or, slice_get, ap, arith, ◌∙◌}
use Rattle.std.proofs.lemmas.List.{map-set, map-append}
use Rattle.blk_base.specs.laws.Members.{slice_get-map_some, set-slice_get}
use Rattle.page_cache.specs.Pages.{Cache}
use Rattle.tree_model.specs.declared.call.Call.{Call}
use Rattle.tree_model.specs.declared.call.Call.TheVariants.{Sync}
use Rattle.tree_model.specs.declared.call.Reply.{Reply}
use Rattle.volume_steps.specs.Now.{VolumeNow}
use Rattle.flush_actor.specs.Waits.{no_wait}
use Rattle.flush_actor.specs.declared.wait.Wait.{Wait}
use Rattle.commit_actor.specs.Actor.{CommitActor}
use Rattle.commit_actor.specs.Calls.{with_flush}
use Rattle.host_machine.specs.State as machine
use Rattle.host_machine.specs.State.{Host, Begun}
use Rattle.host_core.specs.Entries.{entry_in, call_in, ending_of, what_of}
use Rattle.host_core.specs.code.Fields.{IsNext, host_of, program_of, thread_of}
use Rattle.host_core.specs.code.Progress.{noted}
use Rattle.host_answers.specs.declared.entry.Entry.{Entry}
use Rattle.host_answers.specs.declared.entry.EntryKind.{EntryKind}
use Rattle.host_answers.specs.declared.entry.EntryKind.TheVariants as kinds
use Rattle.host_core.specs.declared.thread.Thread.{Thread}

-- ---- lists

first_of : {X : Type 0} (n : ℕ) (xs : List X) (x : X) (rest : List X) → drop n xs ≡ x ∷ rest → slice_get xs n ≡ Some x
first_of n [] x rest e = by n e
  where
    by : (n : ℕ) → drop n [] ≡ x ∷ rest → slice_get [] n ≡ Some x
    by zero e = cc
    by (suc n) e = cc
first_of zero (y ∷ ys) x rest e = cc
first_of (suc n) (y ∷ ys) x rest e = first_of n ys x rest e

one_less : {X : Type 0} (n : ℕ) (xs : List X) (x : X) (rest : List X) → drop n xs ≡ x ∷ rest → drop (suc n) xs ≡ rest
one_less zero [] x rest e = cc
one_less (suc n) [] x rest e = cc
one_less zero (y ∷ ys) x rest e = cc
one_less (suc n) (y ∷ ys) x rest e = one_less n ys x rest e

rest_of : {X : Type 0} (n : ℕ) (xs : List X) (x : X) (rest : List X) → drop n xs ≡ x ∷ rest → drop (n + 1) xs ≡ rest
rest_of n xs x rest e = let more : n + 1 ≡ suc n = omega arith in ap (λ k. drop k xs) more ∙ one_less n xs x rest e

-- ---- a thread that changes, and an entry of its next call

pub same_programs : (ts : List Thread) (at : ℕ) (th new : Thread) → slice_get ts at ≡ Some th → new.program.items ≡ th.program.items → map program_of (set ts at new) ≡ map program_of ts
same_programs ts at th new there program =
    map-set program_of ts at new ∙ ap (λ p. set (map program_of ts) at p) program
    ∙ set-slice_get (map program_of ts) at (program_of th) (slice_get-map_some program_of ts at th there)

module _ (ts : List Thread) (at : ℕ) (th new : Thread) (c : Call) (rest : List Call) (next : IsNext ts at th c rest) (program : new.program.items ≡ th.program.items) where
  pub programs_same : map program_of (set ts at new) ≡ map program_of ts
  programs_same = same_programs ts at th new next.there program

  pub threads_set : map thread_of (set ts at new) ≡ set (map thread_of ts) at (thread_of new)
  threads_set = map-set thread_of ts at new

  -- what is left of its calls
  pub left_one : new.ended ≡ th.ended + 1 → drop new.ended new.program.items ≡ rest
  left_one e = ap (λ n. drop n new.program.items) e ∙ ap (λ p. drop (th.ended + 1) p) program ∙ rest_of th.ended th.program.items c rest next.calls

  pub left_all : new.ended ≡ th.ended → drop new.ended new.program.items ≡ c ∷ rest
  left_all e = ap (λ n. drop n new.program.items) e ∙ ap (λ p. drop th.ended p) program ∙ next.calls

  abbrev machine_entry : machine.What Reply → machine.Entry Call Reply
  machine_entry what = record { thread = at; call = c; what = what }

  entry_is : (n : ℕ) (kind : EntryKind) → n - 1 ≡ at → entry_in (map program_of ts) (record { thread = n; call = th.ended; what = kind }) ≡ machine_entry (what_of kind)
  entry_is n kind e =
      ap (λ k. let x : machine.Entry Call Reply = record { thread = k; call = call_in (map program_of ts) k th.ended; what = what_of kind } in x) e
      ∙ ap (λ o. let x : machine.Entry Call Reply = record { thread = at; call = unwrap_or (slice_get (unwrap_or o []) th.ended) Sync; what = what_of kind } in x) (slice_get-map_some program_of ts at th next.there)
      ∙ ap (λ o. let x : machine.Entry Call Reply = record { thread = at; call = unwrap_or o Sync; what = what_of kind } in x) (first_of th.ended th.program.items c rest next.calls)

  -- the history with that entry
  pub history_is : (h : List Entry) (n : ℕ) (kind : EntryKind) → n - 1 ≡ at
      → map (entry_in (map program_of (set ts at new))) (h ++ record { thread = n; call = th.ended; what = kind } ∷ []) ≡ map (entry_in (map program_of ts)) h ++ machine_entry (what_of kind) ∷ []
  history_is h n kind e =
      ap (λ ps. map (entry_in ps) (h ++ record { thread = n; call = th.ended; what = kind } ∷ [])) programs_same
      ∙ map-append (entry_in (map program_of ts)) h (record { thread = n; call = th.ended; what = kind } ∷ [])
      ∙ ap (λ x. map (entry_in (map program_of ts)) h ++ x ∷ []) (entry_is n kind e)

  module _ (j : CommitActor) (v : VolumeNow) (ps : Cache) (owners cuts : List ℕ) (h : List Entry) where
    abbrev before : Host VolumeNow Call Reply
    before = (host_of j v ps owners h cuts ts).host

    abbrev with_all : List (machine.Entry Call Reply) → List (machine.Thread Call) → CommitActor → Host VolumeNow Call Reply
    with_all entries threads part = record {
      journal = part.part;
      volume = v;
      pages = ps.pages;
      owners = owners;
      history = entries;
      cuts = cuts;
      threads = threads;
    }

    abbrev entries : EntryKind → List (machine.Entry Call Reply)
    entries kind = map (entry_in (map program_of ts)) h ++ machine_entry (what_of kind) ∷ []

    -- the host with the entry and the thread
    pub noted_is : (k : CommitActor) (g : List Entry) (n : ℕ) (kind : EntryKind) (w : Wait) (left : List Call) (begun : Option Begun) → n - 1 ≡ at
        → k ≡ with_flush j (record j.part.flush { waits = set j.part.flush.waits (n - 1) w }) → g ≡ h ++ record { thread = n; call = th.ended; what = kind } ∷ [] → drop new.ended new.program.items ≡ left → new.begun ≡ begun
        → (host_of k v ps owners g cuts (set ts at new)).host ≡ noted before at c (what_of kind) (record { calls = left; begun = begun }) w
    noted_is k g n kind w left begun e journal entry calls is_begun =
        ap (λ x. with_all (map (entry_in (map program_of (set ts at new))) x) (map thread_of (set ts at new)) k) entry
        ∙ ap (λ x. with_all x (map thread_of (set ts at new)) k) (history_is h n kind e)
        ∙ ap (λ x. with_all (entries kind) x k) threads_set
        ∙ ap (λ x. with_all (entries kind) (set (map thread_of ts) at (record { calls = x; begun = new.begun })) k) calls
        ∙ ap (λ x. with_all (entries kind) (set (map thread_of ts) at (record { calls = left; begun = x })) k) is_begun
        ∙ ap (λ x. with_all (entries kind) (set (map thread_of ts) at (record { calls = left; begun = begun })) x) journal
        ∙ ap (λ x. with_all (entries kind) (set (map thread_of ts) at (record { calls = left; begun = begun })) (with_flush j (record j.part.flush { waits = set j.part.flush.waits x w }))) e

    -- it ends with this reply
    pub ended_is : (k : CommitActor) (g : List Entry) (n : ℕ) (reply : Reply) → n - 1 ≡ at
        → k ≡ with_flush j (record j.part.flush { waits = set j.part.flush.waits (n - 1) no_wait }) → g ≡ h ++ record { thread = n; call = th.ended; what = kinds.End reply } ∷ [] → new.ended ≡ th.ended + 1 → new.begun ≡ None
        → (host_of k v ps owners g cuts (set ts at new)).host ≡ noted before at c (machine.Ends (ending_of reply)) (record { calls = rest; begun = None }) no_wait
    ended_is k g n reply e journal entry ended begun = noted_is k g n (kinds.End reply) no_wait rest None e journal entry (left_one ended) begun

    -- the host with the thread alone
    pub passed_is : (left : List Call) (begun : Option Begun) → drop new.ended new.program.items ≡ left → new.begun ≡ begun
        → (host_of j v ps owners h cuts (set ts at new)).host ≡ record before { threads = set (map thread_of ts) at (record { calls = left; begun = begun }) }
    passed_is left begun calls is_begun =
        ap (λ x. with_all (map (entry_in x) h) (map thread_of (set ts at new)) j) programs_same
        ∙ ap (λ x. with_all (map (entry_in (map program_of ts)) h) x j) threads_set
        ∙ ap (λ x. with_all (map (entry_in (map program_of ts)) h) (set (map thread_of ts) at (record { calls = x; begun = new.begun })) j) calls
        ∙ ap (λ x. with_all (map (entry_in (map program_of ts)) h) (set (map thread_of ts) at (record { calls = left; begun = x })) j) is_begun
