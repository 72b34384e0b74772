-- Requests that are sent alone.
use Rattle.order_model.proofs.Direct.{carries_alone}
use Rattle.order_model.proofs.order_law.carries_requests_sent_alone.Goals as goal

pub returns : goal.returns
returns c = carries_alone
