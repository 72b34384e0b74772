use Rattle.host_machine.proofs.PlanNotes.{plan-rest, plan-barrier}
use Rattle.host_machine.proofs.RunsLemmas.PlanLaws.{plan_spells, plan_counted}
use Rattle.host_machine.proofs.runs.laws.plans.plans_spell_their_transaction.Goals as goal

pub returns : goal.returns
returns c = record {
  spells = λ w k sequence f t written writable fits. plan_spells w k sequence f written t writable fits;
  counted = λ w k sequence bodies revokes. plan_counted w k sequence bodies revokes;
  ends = λ w journal ring head started k sequence bodies revokes. plan-rest w journal ring head started k sequence bodies revokes;
  barrier = λ w journal ring head started k sequence l bodies revokes. plan-barrier w journal ring head started k sequence l bodies revokes;
}
