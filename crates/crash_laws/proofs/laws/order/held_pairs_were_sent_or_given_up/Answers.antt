use Rattle.std.specs.Prelude.{◌≤◌}
use Rattle.std.proofs.Common.{arith}
use Rattle.crash_laws.specs.PromiseRules.{Covers, CoversEntry}
use Rattle.crash_laws.proofs.PagesOrCommits.{page_or_commit}
use Rattle.crash_laws.proofs.laws.order.held_pairs_were_sent_or_given_up.Goals as goal

pub returns : goal.returns
returns c = record {
  sent_or_given_up = λ h s call barrier f i n trees order held pair. page_or_commit h s (λ o. o ≤ barrier) (Covers h call) (CoversEntry call) trees order (λ x y le at. omega arith) held f i n pair;
}
