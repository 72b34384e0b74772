-- The bits of both maps.
use Rattle.volume_steps.proofs.AllCalls.{any_call, taken_zone, freed_zone, other_zone, taken_inode, freed_inode, other_inode}
use Rattle.volume_steps.proofs.laws.calls_mark_what_is_in_use.Goals as goal

pub returns : goal.returns
returns c = record {
  taken_zones = λ v n tx call h zone was now. taken_zone tx v n call h zone was now;
  freed_zones = λ v n tx call h zone i. freed_zone tx v n call h zone i;
  other_zones = λ v n tx call h zone low high same. other_zone tx v n call h zone low high same;
  taken_inodes = λ v n tx call h number was now. taken_inode tx v n call h number was now;
  freed_inodes = λ v n tx call h number was now. freed_inode tx v n call h number was now;
  other_inodes = λ v n tx call h number some high same. other_inode tx v n call h number some high same;
  other_bits = λ v n tx call h p low high at inode zone. (any_call tx v n call h).steady.marks.others p low high at inode zone;
}
