use Rattle.std.proofs.Common.{◌≡◌, ◌<◌, length, sym, subst, arith, rules}
use Rattle.std.specs.Prelude.{Some, slice_get, IfOk}
use Rattle.flog_device.specs.Log.{prefix, places}
use Rattle.flog_device.specs.Device.{FlogState, surface}
use Rattle.flog_device.specs.laws.LogFacts.{length-laid}
use Rattle.flog_device.specs.laws.BoundLaws.{all_parts-le}
use Rattle.flog_device.specs.code.Fields.{state_of}
use Rattle.flog_device.proofs.Moves.{kept_there, read_kept, read_data}
use Rattle.flog_device.proofs.device.FlogDeviceOrderedDev.read.Goals as goal
use Rattle.flog_device.proofs.device.FlogDeviceOrderedDev.read.Goals.{in-Some, in-None}

pub body_of-requires-clause-there : goal.body_of-requires-clause-there
body_of-requires-clause-there c =
    (kept_there (state_of c.self.inside) c.args.block c.in-Some.part c.self.invariant.valid c.in-Some.ensures).2

pub body_of-requires-clause-few : goal.body_of-requires-clause-few
body_of-requires-clause-few c =
    let s = state_of c.self.inside in
    let lt = (kept_there s c.args.block c.in-Some.part c.self.invariant.valid c.in-Some.ensures).2 in
    let all = all_parts-le s c.self.invariant.valid in
    let few = c.self.invariant.few in
    omega (arith, lt, all, few)

pub block-requires : goal.block-requires
block-requires c =
    let s = state_of c.self.inside in
    let lt : c.args.block < length (surface s) = subst (λ (t : FlogState). c.args.block < length (surface t)) (sym c.self.view_is) c.requires.within in
    let same = length-laid s.took (places (prefix s.log)) s.data_area in
    omega (arith, lt, same)

pub returns-clause-body : goal.returns-clause-body
returns-clause-body c =
    let s = state_of c.self.inside in
    let wide : c.args.block < length (surface s) = subst (λ (t : FlogState). c.args.block < length (surface t)) (sym c.self.view_is) c.requires.within in
    let same = length-laid s.took (places (prefix s.log)) s.data_area in
    let lt : c.args.block < length s.data_area = omega (arith, wide, same) in
    elim c.match-last_kept.branch [
      | in-Some w ↦
          let at = read_kept s c.args.block w.in-Some.part w.body_of.result lt w.in-Some.ensures w.body_of.ensures in
          subst (λ (t : FlogState). IfOk c.match-last_kept.result (λ body. slice_get (surface t) c.args.block ≡ Some body)) c.self.view_is
          (rw w.result-is at)
      | in-None w ↦
          let there : slice_get s.data_area c.args.block ≡ Some w.copy.result = search rules in
          let at = read_data s c.args.block w.copy.result lt w.in-None.ensures there in
          subst (λ (t : FlogState). IfOk c.match-last_kept.result (λ body. slice_get (surface t) c.args.block ≡ Some body)) c.self.view_is
          (rw w.result-is at)
    ]

pub last_kept-requires : goal.last_kept-requires
last_kept-requires c =
    let s = state_of c.self.inside in
    let wide : c.args.block < length (surface s) = subst (λ (t : FlogState). c.args.block < length (surface t)) (sym c.self.view_is) c.requires.within in
    let same = length-laid s.took (places (prefix s.log)) s.data_area in
    let area = c.self.invariant.area in
    omega (arith, wide, same, area)
