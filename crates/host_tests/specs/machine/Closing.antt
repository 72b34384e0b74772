-- What is asked while a transaction is closed.
use Rattle.std.specs.Prelude.{◌≡◌, ◌⊎◌, ◌<◌, ◌≤◌, ◌-◌, length}
use Rattle.blk_base.specs.Members.{In}
use Rattle.page_cache.specs.declared.cached_page.CachedPage.{CachedPage}
use Rattle.page_cache.specs.declared.cached_page.PageState.TheVariants.{Clean, Firm}
use Rattle.commit_actor.specs.Journal.{Phase}
use Rattle.host_machine.specs.State.{Host, Setup}
use Rattle.host_tests.specs.machine.Shares.{log_blocks}

-- each page of a file that the running transaction changed is sent in order, or was never written
abbrev pub AreSent : {V C R : Type 0} → Host V C R → Type 0
AreSent s = (p : CachedPage) → In p s.pages → In p.birth s.journal.running.changed → (p.state ≡ Clean) ⊎ (p.state ≡ Firm)

-- the phase is another one. All else is as it was.
abbrev pub with_phase : {V C R : Type 0} → Host V C R → Phase → Host V C R
with_phase s p = record s { journal = record s.journal { phase = p } }

-- the log blocks of the running transaction fit into the free places of the log, or are too many
abbrev pub FitsLog : {V C R : Type 0} → Setup → Host V C R → Type 0
FitsLog u s = log_blocks u (length s.journal.running.touched) (length s.journal.running.revoked) ≤ (s.journal.ring.places.past - s.journal.ring.places.first) - s.journal.ring.used

abbrev pub PassesLog : {V C R : Type 0} → Setup → Host V C R → Type 0
PassesLog u s = (s.journal.ring.places.past - s.journal.ring.places.first) - s.journal.ring.used < log_blocks u (length s.journal.running.touched) (length s.journal.running.revoked)
