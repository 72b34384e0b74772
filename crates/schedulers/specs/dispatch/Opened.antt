-- Three queues as they are made, and their passes.
use Rattle.std.specs.Prelude.{◌≡◌, ℕ, []}
use Rattle.atomic_table.specs.Seated.{TableId}
use Rattle.crossbeam_queue.specs.Passes.{view, IsPassOf, ruled_capacity}
use Rattle.schedulers.specs.dispatch.Rule.{producing, consuming}
use Rattle.schedulers.specs.declared.dispatch.queues.Queues.{Queues}
use Rattle.schedulers.specs.declared.dispatch.queues.Passes.{Passes}

-- each queue holds so many items at most
pub record HaveCapacity (capacity : ℕ) (q : Queues) : Type 0 where
  pub submission : ruled_capacity q.submission ≡ capacity
  pub dispatch : ruled_capacity q.dispatch ≡ capacity
  pub completion_is : ruled_capacity q.completion ≡ capacity

-- the passes are those of these queues
pub record ArePassesOf (q : Queues) (p : Passes) : Type 0 where
  pub submission : IsPassOf q.submission p.submit × IsPassOf q.submission p.request
  pub dispatch : IsPassOf q.dispatch p.send × IsPassOf q.dispatch p.command
  pub completion_is : IsPassOf q.completion p.post × IsPassOf q.completion p.completion

-- nothing went through them, and each may do what its end does
pub record AreNew (p : Passes) : Type 0 where
  pub requests : (view p.submit ≡ producing []) × (view p.request ≡ consuming [])
  pub commands : (view p.send ≡ producing []) × (view p.command ≡ consuming [])
  pub completions : (view p.post ≡ producing []) × (view p.completion ≡ consuming [])

-- the queues of these passes have these names
pub record AreNamed (submission dispatch completion : TableId) (p : Passes) : Type 0 where
  pub requests : p.submit.table_id ≡ submission
  pub commands : p.send.table_id ≡ dispatch
  pub completions : p.post.table_id ≡ completion

-- the name of no queue
abbrev pub no_queue : TableId
no_queue = record { words = 0; slots = 0; views_name = 0; atom = 0; block = 0; offset = 0; slot_names = [] }
