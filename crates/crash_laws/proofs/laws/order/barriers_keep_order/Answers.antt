use Rattle.crash_laws.proofs.Ordering.{before_kept_is_kept, barrier_before_kept, origin_of_kept, body_of_origin, origin_or_base}
use Rattle.crash_laws.proofs.laws.order.barriers_keep_order.Goals as goal

pub returns : goal.returns
returns c = record {
  before = λ base image requests origins i j closed put fenced kept. before_kept_is_kept closed i j put fenced kept;
  barrier = λ base image requests origins i j closed put fence lt kept. barrier_before_kept closed i j put fence lt kept;
  overwritten = λ base image requests origins i block closed kept put. origin_of_kept closed i block kept put;
  body = λ base image requests origins block id closed held. body_of_origin closed block id held;
  origin_or_base = λ base image requests origins block closed. origin_or_base closed block;
}
