use Rattle.call_sessions.proofs.MadeLemmas.MadeInUse.{made_in_use}
use Rattle.call_sessions.proofs.MadeLemmas.MadeJournal.{made_runs}
use Rattle.call_sessions.proofs.made.laws.sessions_on_made_images_keep_rules_and_trees.Goals as goal

pub returns : goal.returns
returns c = record {
  plain = λ g sound. made_in_use g sound (c.new_volumes_are_in_use.ensures g sound);
  kept = λ g journal wide quota limit programs events sound low high few.
      made_runs g sound journal wide low high quota (c.new_volumes_are_in_use.ensures g sound) limit few programs events;
}
