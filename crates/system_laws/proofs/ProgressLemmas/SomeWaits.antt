-- A session in which a barrier call waits.
use Rattle.std.specs.Prelude.{false, List, [], ◌∷◌, ◌++◌, codes, refl}
use Rattle.minix_layout.specs.declared.division.Geometry.{Geometry}
use Rattle.minix_layout.specs.Geometry.{geometry_made}
use Rattle.tree_model.specs.declared.call.Call.{Call}
use Rattle.tree_model.specs.declared.call.Call.TheVariants as calls
use Rattle.tree_model.specs.declared.call.Reply.TheVariants as replies
use Rattle.host_machine.specs.State.{Answered}
use Rattle.call_sessions.specs.promises.Entries.{EndsAt}
use Rattle.host_machine.specs.runs.Runs.{Event, Call as CallStep}
use Rattle.minix_host.specs.Calls.{refusal}
use Rattle.tree_model.specs.Calls.{outcome, row, used_zones}
use Rattle.tree_model.specs.Paths.{path_of}
use Rattle.volume_model.specs.Trees.{tree_now}
use Rattle.call_sessions.specs.power_cuts.calls.CallImages.{made_session}
use Rattle.system_laws.specs.progress.Commits.{IsUnderWay, wanted, IsBarrierWaiting, host_moves}

abbrev g : Geometry
g = geometry_made 32 64 14

abbrev c : Call
c = calls.Fbarrier (codes "/")

abbrev events : List Event
events = CallStep false 0 ∷ CallStep false 0 ∷ []

pub waits : IsBarrierWaiting (made_session g 128 false 100 ((c ∷ []) ∷ []) events) 0 c 1
unfolding refusal outcome row path_of tree_now used_zones
waits = record { call = record { called = record { thread = _; rest = _; begun = _; stands = refl; calls = refl; has_begun = refl }; barrier = refl }; barrier = refl; target = refl }

pub under : IsUnderWay (made_session g 128 false 100 ((c ∷ []) ∷ []) events) 1
unfolding refusal outcome row path_of tree_now used_zones
under = wanted refl refl refl

pub ended : EndsAt (made_session g 128 false 100 ((c ∷ []) ∷ []) (events ++ (host_moves 0 0 4 ++ CallStep false 0 ∷ []))).history 1 0 c (Answered replies.Ok)
unfolding refusal outcome row path_of tree_now used_zones
ended = refl
