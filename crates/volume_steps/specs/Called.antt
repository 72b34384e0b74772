-- What a call finds, where it need not wait.
use Rattle.std.specs.Prelude.{◌≤◌, ℕ, count_by}
use Rattle.tree_model.specs.declared.call.Call.{Call}
use Rattle.tree_model.specs.Plain.{AreBornBefore}
use Rattle.tree_model.specs.Calls.{needs}
use Rattle.minix_tables.specs.zones.Zones.{is_free}
use Rattle.volume_steps.specs.Now.{VolumeNow, tree_of_now}
use Rattle.volume_steps.specs.Plain.{IsPlainNow}

-- The volume is plain, each node was born before the call's number, and as many zones are free as it needs.
pub record FindsRoom (v : VolumeNow) (n : ℕ) (c : Call) : Type 0 where
  pub plain : IsPlainNow v
  pub born : AreBornBefore n (tree_of_now v)
  pub enough : needs (tree_of_now v) n c ≤ count_by is_free v.zones.states
