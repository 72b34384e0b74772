use Rattle.std.proofs.Common.{sym, subst, ⊎_elim}
use Rattle.blk_base.specs.Members.{In}
use Rattle.journal_ring.specs.laws.Homes.{IsRisingHomes}
use Rattle.journal_ring.specs.laws.Waiting.{In-all_committed, all_committed-body, first_is_lowest, none_first, first_none, In-home_sent, home_sent-In}
use Rattle.journal_ring.proofs.laws.bodies_wait_until_they_are_sent.Goals as goal

pub returns-clause-waiting : goal.returns-clause-waiting
returns-clause-waiting c r txs l none apart = (
  λ i. ⊎_elim (λ set. set) (λ was. absurd (subst (λ hs. In l hs) none was.0)) (In-all_committed txs r l apart (subst IsRisingHomes (sym none) tt) i),
  λ set. all_committed-body txs r l.block l.body set,
)

pub returns-clause-lowest : goal.returns-clause-lowest
returns-clause-lowest c r l = first_is_lowest r r.homes l

pub returns-clause-sent : goal.returns-clause-sent
returns-clause-sent c r l h a e = (In-home_sent r r.homes l h a e, home_sent-In r r.homes l h e)

pub returns-clause-none : goal.returns-clause-none
returns-clause-none c r = (none_first r r.homes, first_none r r.homes)
