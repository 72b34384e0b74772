use Rattle.std.proofs.Common.{inl, inr}
use Rattle.order_model.specs.declared.completion.Completion.TheVariants.{Flushed}
use Rattle.blk_base.specs.laws.Members.{In-append_left}
use Rattle.system_laws.proofs.covered.laws.writes_survive_in_order.Goals as goal

pub returns : goal.returns
returns c = record {
  order = λ s end r is i b j put ordered from fence to second kept. is.order.closed.closed i j (inl (record { first = put; ordered = ordered; second = second; fence = (b, from, to, fence) })) kept;
  across = λ s end r is i f j put from flush to second kept. is.order.closed.closed i j (inr (record { first = put; second = second; flush = (f, from, to, flush) })) kept;
  flushed = λ s end r is i flush put before sent. is.order.flushed flush i (In-append_left r.cut.trace.sent.items end.dev.waiting (Flushed flush) sent) before put;
}
