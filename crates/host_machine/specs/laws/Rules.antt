-- The order rules of a host's session, but for that of barrier and sync calls.
use Rattle.std.specs.Prelude.{ℕ, List}
use Rattle.log_model.specs.Marks.{Transaction}
use Rattle.volume_ops.specs.Reads.{Reads}
use Rattle.crash_laws.specs.History.{History}
use Rattle.crash_laws.specs.PageRules.{PageOrder, DataBeforeCommit}
use Rattle.crash_laws.specs.Rules.{OrderRules}
use Rattle.crash_laws.specs.Session.{Session}
use Rattle.host_machine.specs.State.{Host}
use Rattle.host_machine.specs.laws.Contract.{Over, noted_history, session, KeepsImages}

pub record AllRules {A : Type 0} (program : Reads A) (h : History A) (s : Session) : Type 0 where
  pub order : OrderRules program s
  pub pages : PageOrder program h s
  pub committed : DataBeforeCommit program h s

-- a host keeps the facts of images and these rules
abbrev pub Keeps : {A T V C R : Type 0} (o : Over A T V C R) (Stands : V → T → Type 0) → Host V C R → List Transaction → ℕ → Type 0
Keeps o Stands s txs N = KeepsImages o Stands s txs N × AllRules o.program (noted_history o Stands s.history s.cuts) (session o Stands txs s)
