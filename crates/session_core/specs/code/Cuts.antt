-- What the laws say of a script's session and of what a power cut left of it, for the code that reports it.
use Rattle.std.specs.Prelude.{◌≡◌, ℕ, false, true, List, [], Ok}
use Rattle.log_model.specs.Marks.{Transaction}
use Rattle.tree_model.specs.declared.call.Call.{Call}
use Rattle.tree_model.specs.declared.call.Reply.{Reply}
use Rattle.tree_model.specs.Calls.{Tree}
use Rattle.tree_model.specs.Trees.{AreAlike}
use Rattle.volume_ops.specs.Volume.{VolumeState, disk_of}
use Rattle.volume_steps.specs.Now.{VolumeNow, room_of}
use Rattle.mount_make.specs.Images.{divided, has_journal, mounted, recovered_image, image_tree}
use Rattle.crash_laws.specs.Found.{IsFound}
use Rattle.crash_laws.specs.LegalHistory.{root_alone, IsLegal}
use Rattle.crash_laws.specs.Recovery.{IsRecovered}
use Rattle.crash_laws.specs.Session.{Medium}
use Rattle.flush_actor.specs.Kinds.{is_data}
use Rattle.host_machine.specs.State.{Host}
use Rattle.host_machine.specs.runs.Flushes.{AreWaitedFor}
use Rattle.host_machine.specs.runs.Runs.{Event}
use Rattle.minix_host.specs.Calls.{kind_of}
use Rattle.call_sessions.specs.power_cuts.calls.CallImages.{found_in, made_session, submitted_by, kept_count, kept_tree, KeepsFiles, ShowsFiles}
use Rattle.call_sessions.specs.promises.Answers.{AnsweredAt, HasOkCause, KeepsPromises}
use Rattle.call_sessions.specs.promises.Causes.{HadCome, HaveCauses}
use Rattle.call_sessions.specs.promises.Legal.{events_in, program_of, FollowsTree}
use Rattle.session_grammar.specs.declared.session_script.SessionScript.{SessionScript}
use Rattle.session_core.specs.declared.run.session.SessionEnd.{SessionEnd}
use Rattle.session_core.specs.Core.{geometry_of, opening_of}

-- what the power cut left of a session
abbrev pub medium_left : SessionEnd → Medium
medium_left r = record { image = r.cut.image; origins = r.cut.origins }

-- what holds of the host of a script's session, and by which steps it came to be
pub record HostFacts (s : SessionScript) (h : Host VolumeNow Call Reply) : Type 0 where
  pub events : List Event
  pub host_is : h ≡ made_session (geometry_of s) s.journal s.wide s.header.limit s.programs events
  -- what the answers of its session promise
  pub promises : KeepsPromises (opening_of s) h
  -- the Ok of a call that covers metadata has its commit block
  pub ok_causes : (e t : ℕ) (c : Call) → AnsweredAt h e t c → is_data (kind_of c) ≡ false → HasOkCause h e t c
  -- calls that end with no answer of the tree have a cause
  pub causes : HaveCauses kind_of s.header.limit (HadCome (made_session (geometry_of s) s.journal s.wide s.header.limit s.programs) events) h
  -- a sync call waited for each flush
  pub waited_for : AreWaitedFor kind_of (made_session (geometry_of s) s.journal s.wide s.header.limit s.programs) events
  -- the history goes by the programs and by the tree of calls
  pub follows : FollowsTree (opening_of s) s.programs h
  pub legal : IsLegal (room_of (geometry_of s)) (root_alone s.width) 0 (program_of s.programs) (events_in h.history)

-- What holds of such a host and of a medium that a power cut left: it mounts as the script's volume was divided, its journal
-- tells how many transactions it has, and it has the tree and the files of these.
pub record CutFacts (s : SessionScript) (h : Host VolumeNow Call Reply) (m : Medium) : Type 0 where
  pub host : HostFacts s h
  -- the volume on it is divided as the script says
  pub volume : divided m.image ≡ Ok (geometry_of s)
  pub journal : has_journal (geometry_of s).zones m.image ≡ true
  pub mounts : (v : VolumeState) × (mounted m.image ≡ Ok v)
  -- its journal tells of as many transactions as have their commit block on the medium
  pub counted : found_in (geometry_of s).zones 1 m.image ≡ kept_count (geometry_of s) s.journal s.wide h m
  -- these are the first ones
  pub transactions : IsFound (submitted_by (geometry_of s) s.journal s.wide [] h) m (kept_count (geometry_of s) s.journal s.wide h m)
  -- the tree of the volume that mounts is alike to the one after them
  pub tree : (tree : Tree) × (image_tree m.image ≡ Ok tree) × AreAlike (kept_tree (geometry_of s) s.journal s.wide h m) tree
  -- before the journal, the image that mounting leaves is what a replay of the log makes of the medium
  pub recovered : (closed : List Transaction) → IsRecovered (submitted_by (geometry_of s) s.journal s.wide closed h) m (disk_of (recovered_image m.image))
  -- where that image keeps the files, the tree shows them
  pub shown : (closed : List Transaction) (tree : Tree) → KeepsFiles (geometry_of s) s.journal s.wide closed h m (disk_of (recovered_image m.image)) → image_tree m.image ≡ Ok tree
      → (alike : AreAlike (kept_tree (geometry_of s) s.journal s.wide h m) tree) → ShowsFiles (geometry_of s) s.journal s.wide closed h m tree alike.to
