use Rattle.call_sessions.proofs.ZoneReuseLemmas.RunSteps.{run_reuses}
use Rattle.call_sessions.proofs.zone_reuse.laws.runs_reuse_zones_behind_commits.Goals as goal

pub returns : goal.returns
returns g c o tree contract v ring zones limit programs events written blocks at fits empty room = run_reuses contract written blocks v ring zones limit programs at fits empty room events
