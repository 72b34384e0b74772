use Rattle.minix_host.proofs.Metadata.{meta_tested, tested_meta}
use Rattle.minix_host.proofs.Pages.{page_at, zone_page, page_zone}
use Rattle.minix_host.proofs.Waiting.{waits_state, free_listed, rising}
use Rattle.minix_host.proofs.laws.promises.volumes_are_seen_as_they_are.Goals as goal

pub returns : goal.returns
returns c = record {
  metadata = λ v h b. (tested_meta v h b, meta_tested v h b);
  zones = λ v birth index zone. (zone_page v birth index zone, page_zone v (page_at birth index zone));
  waiting = waits_state;
  free = free_listed;
  rising = rising;
}
