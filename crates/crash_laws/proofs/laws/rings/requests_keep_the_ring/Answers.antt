use Rattle.crash_laws.proofs.RingSteps.{home_ring_step, log_ring_step, commit_ring_step, super_ring_step, other_ring_step}
use Rattle.crash_laws.proofs.laws.rings.requests_keep_the_ring.Goals as goal

pub returns : goal.returns
returns c = record {
  home = λ p ring n b x homes facts agree note body waits others none last supers. home_ring_step p facts agree b x homes note body waits others none last supers;
  log = λ p ring n k head facts agree note other above next supers. log_ring_step p facts agree k head note other above next supers;
  commit = λ p ring n head homes facts agree note freed next barrier set clear keep supers. commit_ring_step p facts agree head homes note freed next barrier set clear keep supers;
  superblock = λ p ring n clause facts agree freed note there quiet. super_ring_step p facts agree clause freed note there quiet;
  other = λ p ring n facts agree note home supers. other_ring_step p facts agree note home supers;
}
