-- What the code answers, as the steps have it.
use Rattle.std.specs.Prelude.{ℕ, Bool, true, false, List, drop}
use Rattle.commit_actor.specs.Journal.{JournalPart}
use Rattle.page_cache.specs.declared.cached_page.CachedPage.{CachedPage}
use Rattle.host_machine.specs.Host as machine
use Rattle.host_answers.specs.declared.step.Cause.TheVariants as answers
use Rattle.host_core.specs.begun.Causes.{cause_is}
use Rattle.host_core.specs.begun.Steps.{Went, Gone}
use Rattle.host_core.specs.begun.Steps as steps
use Rattle.host_core.specs.declared.begun.waiting.Goal.{Goal}
use Rattle.host_core.specs.declared.begun.waiting.Goal.TheVariants as goals
use Rattle.host_core.specs.declared.begun.waiting.BegunProgress.{BegunProgress}
use Rattle.host_core.specs.declared.begun.waiting.BegunProgress.TheVariants as told

-- what the call does when no page is left, as the host's machine has it
abbrev pub goal_is : Goal → machine.Goal
goal_is (goals.AwaitCommit k) = machine.AwaitCommit k
goal_is goals.AnswerOk = machine.AnswerOk
goal_is goals.AwaitLastPut = machine.AwaitLastPut

-- how far it came, with this list of pages
abbrev pub progress_on : List (ℕ × ℕ) → BegunProgress → steps.BegunProgress
progress_on list told.Answered = steps.Answered
progress_on list told.Full = steps.Full
progress_on list (told.Sent id passed barrier) = steps.Sent id (drop passed list) barrier
progress_on list (told.Waiting cause) = steps.Waits (cause_is cause)

-- where it changed no page
abbrev pub went_by : List (ℕ × ℕ) → JournalPart → BegunProgress → Went
went_by list part p = record { part = part; progress = progress_on list p }

-- where it may have sent one of this list
abbrev pub gone_by : List (ℕ × ℕ) → JournalPart → List CachedPage → BegunProgress → Gone
gone_by list part pages p = record { part = part; pages = pages; progress = progress_on list p }

abbrev pub found_queue_full : BegunProgress → Bool
found_queue_full (told.Waiting answers.QueueFull) = true
found_queue_full other = false
