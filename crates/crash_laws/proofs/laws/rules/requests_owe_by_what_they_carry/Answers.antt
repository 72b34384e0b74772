use Rattle.volume_ops.specs.Walk.{walk_volume}
use Rattle.crash_laws.proofs.RequestClauses.{page_request_clause, flush_request_clause, home_request_clause, super_request_clause, part_request_clause, commit_request_clause}
use Rattle.crash_laws.proofs.laws.rules.requests_owe_by_what_they_carry.Goals as goal

pub returns : goal.returns
returns c = record {
  page = λ g p f i v owes. page_request_clause (walk_volume g) p f i v owes;
  flush = λ g p owes. flush_request_clause (walk_volume g) p owes;
  home = λ g p b owes. home_request_clause (walk_volume g) p b owes;
  superblock = λ g p owes. super_request_clause (walk_volume g) p owes;
  log_block = λ g p k owes. part_request_clause (walk_volume g) p k owes;
  commit = λ g p k owes. commit_request_clause (walk_volume g) p k owes;
}
