use Rattle.std.specs.Prelude.{◌≡◌, ℕ, Bool, true, false, is_some, if◌then◌else◌, Some, None, [], refl}
use Rattle.tree_model.specs.declared.node.Node.TheVariants as nodes
use Rattle.tree_model.specs.Histories.{block_in, maps_block}
use Rattle.crash_laws.specs.LegalHistory.{root_alone}
use Rattle.mount_make.specs.Made.{new_journal}
use Rattle.mount_make.proofs.MadeImages.{made_kind}
use Rattle.minix_host.proofs.RealJournal.{kind_written}
use Rattle.call_sessions.specs.made.MadeSessions.{made_now, made_opening, made_ring}
use Rattle.call_sessions.proofs.MadeLemmas.MadeJournal.{made_opened, made_empty}
use Rattle.call_sessions.proofs.ZoneReuseLemmas.SessionRuns.{session_reuses}
use Rattle.call_sessions.proofs.zone_reuse.laws.sessions_reuse_zones_behind_commits.Goals as goal

-- the root alone has no file
root_maps : (width birth index : ℕ) → maps_block (root_alone width) birth index ≡ false
root_maps width birth index = by _
  where
    by : (here : Bool) → is_some (block_in (if here then Some (nodes.Directory (record { parent = 0; width = width; slots = 2; names = [] })) else None) index) ≡ false
    by true = refl
    by false = refl

pub returns : goal.returns
returns c = record {
  opened = λ s v ring limit programs events written opened journal bytes empty. session_reuses s v ring limit written opened journal empty programs bytes events;
  made = λ g journal wide quota limit programs events sound low high few bytes.
      let new = c.new_volumes_are_in_use.ensures g sound in
      session_reuses (made_opening g journal wide quota) (made_now g) (made_ring journal) limit (kind_written (new_journal journal wide) wide (made_kind journal wide)) (made_opened g sound journal wide low high quota new)
      (made_empty g sound journal wide low high quota new limit few) (root_maps g.width) programs bytes events;
}
