-- How the fields of a host make up the machine's.
use Rattle.std.specs.Prelude.{◌≡◌, ◌<◌, ◌≤◌, ◌^◌, ◌+◌, ◌-◌, ℕ, List, ◌∷◌, Some, None, drop, length, map, set, slice_get}
use Rattle.blk_base.specs.Members.{In}
use Rattle.commit_actor.specs.Actor.{CommitActor}
use Rattle.page_cache.specs.Pages.{Cache}
use Rattle.tree_model.specs.declared.call.Call.{Call}
use Rattle.volume_steps.specs.Now.{VolumeNow}
use Rattle.host_machine.specs.State as machine
use Rattle.host_core.specs.Now.{HostNow}
use Rattle.host_core.specs.Entries.{entry_in, ended_by, ArePlaced}
use Rattle.host_answers.specs.declared.entry.Entry.{Entry}
use Rattle.host_core.specs.code.Known.{IsKnown}
use Rattle.host_core.specs.declared.known.Known.{Known}
use Rattle.host_core.specs.declared.thread.Thread.{Thread}

-- the calls that are left
abbrev pub thread_of : Thread → machine.Thread Call
thread_of t = record { calls = drop t.ended t.program.items; begun = t.begun }

-- all calls of the thread, with those that have ended
abbrev pub program_of : Thread → List Call
program_of t = t.program.items

-- none of its calls has begun, and their places fit 32 bits
pub record IsFresh (t : Thread) : Type 0 where
  pub ended : t.ended ≡ 0
  pub begun : t.begun ≡ None
  pub short : length t.program.items < 2 ^ 32

abbrev pub AreFresh : List Thread → Type 0
AreFresh threads = (t : Thread) → In t threads → IsFresh t

-- no more calls have ended than there are, and their places fit 32 bits
pub record IsWithin (t : Thread) : Type 0 where
  pub ended : t.ended ≤ length t.program.items
  pub short : length t.program.items < 2 ^ 32

abbrev pub AreWithin : List Thread → Type 0
AreWithin threads = (t : Thread) → In t threads → IsWithin t

-- The entries so far are of calls of these threads, and those that they end are the threads' calls that have ended.
pub record AreNoted (threads : List Thread) (history : List Entry) : Type 0 where
  pub placed : ArePlaced (map program_of threads) history
  pub ended : (at : ℕ) (t : Thread) → slice_get threads at ≡ Some t → t.ended ≡ ended_by history (at + 1)

-- That stays so where this thread, counted from 1, and the history become these.
pub record KeepsNotes (thread : ℕ) (old new : Thread) (history more : List Entry) : Type 0 where
  pub noted : (threads : List Thread) → slice_get threads (thread - 1) ≡ Some old → AreNoted threads history → AreNoted (set threads (thread - 1) new) more

-- The journal is over the volume's blocks, and has a wait for each thread, the entries so far are noted, and what is known
-- of the volume is so.
pub record IsHost (j : CommitActor) (v : VolumeNow) (k : Known) (threads : List Thread) (history : List Entry) : Type 0 where
  pub blocks : j.blocks ≡ v.geometry.zones
  pub waits : length j.part.flush.waits ≡ length threads
  pub few : length threads < 2 ^ 32
  pub within : AreWithin threads
  pub noted : AreNoted threads history
  pub known : IsKnown (map program_of threads) v k

-- this is the thread at a place, and its next call, with the rest behind it
pub record IsNext (threads : List Thread) (at : ℕ) (t : Thread) (c : Call) (rest : List Call) : Type 0 where
  pub there : slice_get threads at ≡ Some t
  pub calls : drop t.ended t.program.items ≡ c ∷ rest

-- the host that these fields make up
abbrev pub host_of : CommitActor → VolumeNow → Cache → List ℕ → List Entry → List ℕ → List Thread → HostNow
host_of j v ps owners history cuts threads = record {
  made_with = j.made_with;
  journal = j.journal;
  programs = map program_of threads;
  host = record {
    journal = j.part;
    volume = v;
    pages = ps.pages;
    owners = owners;
    history = map (entry_in (map program_of threads)) history;
    cuts = cuts;
    threads = map thread_of threads;
  };
}
