-- A host over a volume in use.
use Rattle.std.specs.Prelude.{ℕ, List}
use Rattle.page_cache.specs.Pages.{Cache}
use Rattle.journal_ring.specs.Journal.{JournalRing}
use Rattle.journal_blocks.specs.declared.super_block.JournalSuper.{JournalSuper}
use Rattle.tree_model.specs.declared.call.Call.{Call}
use Rattle.tree_model.specs.declared.call.Reply.{Reply}
use Rattle.journal_ring.specs.running.Closing.{writers}
use Rattle.journal_ring.specs.running.Open.{quota}
use Rattle.volume_steps.specs.Now.{VolumeNow}
use Rattle.host_machine.specs.Host.{opened}
use Rattle.host_machine.specs.Model.{Model}
use Rattle.host_machine.specs.State.{Host, Setup}
use Rattle.minix_host.specs.PlainTrees.{PlainTree}
use Rattle.minix_host.specs.Sessions.{model_of}

-- the superblock that the journal was made from and its block, all calls of each thread, and the host
pub record HostNow : Type 0 where
  pub made_with : JournalSuper
  pub journal : ℕ
  pub programs : List (List Call)
  pub host : Host VolumeNow Call Reply

abbrev pub with_host : HostNow → Host VolumeNow Call Reply → HostNow
with_host h x = record { made_with = h.made_with; journal = h.journal; programs = h.programs; host = x }

-- a host that is made: with a volume, a cache of no pages, the ring of an empty log, and programs
abbrev pub host_made : VolumeNow → Cache → JournalRing → List (List Call) → HostNow
host_made v ps r programs =
    let u : Setup = record { journal = v.geometry.zones; sequence = r.made_with.sequence; writers = writers r.made_with; zmap = v.geometry.zmap; quota = quota r.made_with } in
    record {
      made_with = r.made_with;
      journal = v.geometry.zones;
      programs = programs;
      host = opened (model_of (λ (c : Call). c) v.geometry) u v r.ring v.geometry.zones r.limit programs;
    }

-- the machine that it is: over the volume's division, and with what does not change
abbrev pub model_now : HostNow → Model PlainTree VolumeNow Call Reply
model_now h = model_of (λ (c : Call). c) h.host.volume.geometry

-- what does not change in its steps
abbrev pub setup_now : HostNow → Setup
setup_now h = record {
  journal = h.journal;
  sequence = h.made_with.sequence;
  writers = writers h.made_with;
  zmap = h.host.volume.geometry.zmap;
  quota = quota h.made_with;
}
