-- All that the host keeps: the order rules of its session, and what it knows of its state.
use Rattle.std.specs.Prelude.{ℕ, ◌≤◌, List, length}
use Rattle.log_model.specs.Marks.{Transaction}
use Rattle.host_machine.specs.State.{Host}
use Rattle.host_machine.specs.laws.Contract.{Over, Contract, noted_history, session, KeepsImages}
use Rattle.host_machine.specs.laws.Rules.{AllRules}
use Rattle.host_machine.specs.runs.Runs.{AreBegun}
use Rattle.host_machine.specs.runs.laws.CallFacts.{AllCalls}
use Rattle.host_machine.specs.runs.laws.FlushFacts.{FlushFacts}
use Rattle.host_machine.specs.runs.laws.RingFacts.{RingKept}

-- `txs` are the bodies and revokes of its closed transactions, and N of them are submitted
pub record KeepsRules {A T V C R : Type 0} {o : Over A T V C R} {Stands : V → T → Type 0} (contract : Contract o Stands) (s : Host V C R) (txs : List Transaction) (N : ℕ) : Type 0 where
  pub rules : AllRules o.program (noted_history o Stands s.history s.cuts) (session o Stands txs s)
  pub images : KeepsImages o Stands s txs N
  pub ring : RingKept (session o Stands txs s) s.journal.ring N s.journal.phase

abbrev pub Calls : {A T V C R : Type 0} {o : Over A T V C R} {Stands : V → T → Type 0} (contract : Contract o Stands) → List Transaction → ℕ → Host V C R → Type 0
Calls {o = o} {Stands = Stands} contract txs N x = AllCalls (noted_history o Stands x.history x.cuts) (session o Stands txs x) x.pages (length x.history) x.journal.running.number x.threads x.journal.flush.waits

abbrev pub Flushes : {A T V C R : Type 0} {o : Over A T V C R} {Stands : V → T → Type 0} (contract : Contract o Stands) → List Transaction → ℕ → Host V C R → Type 0
Flushes {o = o} contract txs N x = FlushFacts o.model.kind x.journal.flush.notes x.journal.flush.waits x.history

abbrev pub HasRules : {A T V C R : Type 0} {o : Over A T V C R} {Stands : V → T → Type 0} (contract : Contract o Stands) → Host V C R → Type 0
HasRules contract s = (txs : List Transaction) × (N : ℕ) × KeepsRules contract s txs N × Calls contract txs N s × Flushes contract txs N s

-- what every step keeps
pub record IsSound {A T V C R : Type 0} {o : Over A T V C R} {Stands : V → T → Type 0} (contract : Contract o Stands) (s : Host V C R) : Type 0 where
  pub rules : HasRules contract s
  pub begun : AreBegun o.model.kind s.threads
  pub room : length s.journal.flush.requests ≤ s.journal.flush.limit
