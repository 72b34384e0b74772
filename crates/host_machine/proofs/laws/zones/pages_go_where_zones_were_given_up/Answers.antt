use Rattle.host_machine.proofs.ReuseSteps.{send_reuses, send_orderless}
use Rattle.host_machine.proofs.laws.zones.pages_go_where_zones_were_given_up.Goals as goal

pub returns : goal.returns
returns g c = record {
  freed = λ o tree contract s txs N p ordered barrier frees facts here waits was. send_reuses contract s txs N facts p ordered barrier here {frees = frees} waits was;
  orderless = λ o tree contract s txs N p ordered barrier facts here submitted owned was. send_orderless contract s txs N facts p ordered barrier here submitted owned was;
}
