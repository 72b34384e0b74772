-- The trees of a script's session, which opens a tree of the root alone.
use Rattle.std.specs.Prelude.{◌≡◌, ℕ, ◌+◌}
use Rattle.tree_model.specs.declared.call.Call.{Call}
use Rattle.tree_model.specs.declared.call.Reply.{Reply}
use Rattle.tree_model.specs.Plain.{AreBornBefore}
use Rattle.tree_model.proofs.PlainTrees.{new_born}
use Rattle.volume_steps.specs.Now.{VolumeNow}
use Rattle.host_machine.specs.State.{Host}
use Rattle.host_machine.specs.Views.{tree_after}
use Rattle.call_sessions.specs.promises.Trees.{tree_at}
use Rattle.call_sessions.proofs.PromisesLemmas.SessionTrees.{tree_told}
use Rattle.session_grammar.specs.declared.session_script.SessionScript.{SessionScript}
use Rattle.session_core.specs.Core.{geometry_of, opening_of}
use Rattle.session_core.specs.run.Beginning.{call_over}

-- no entry's number is the birth of the root
pub is_born : (s : SessionScript) → AreBornBefore ((opening_of s).first + 1) (opening_of s).tree.tree
is_born s = new_born (geometry_of s).width

-- the history is read over the trees that the tree model has
pub told_tree : (s : SessionScript) (h : Host VolumeNow Call Reply) (n : ℕ) → (tree_after (call_over (opening_of s)).model h.history n).tree ≡ tree_at (opening_of s) h n
told_tree s h n = tree_told (opening_of s) (is_born s) h n
