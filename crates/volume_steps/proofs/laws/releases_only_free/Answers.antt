use Rattle.std.specs.Prelude.{refl}
use Rattle.minix_tables.specs.zones.laws.Lasting.{release_frees, release_keeps}
use Rattle.volume_steps.proofs.Release.{release_plain}
use Rattle.volume_steps.proofs.laws.releases_only_free.Goals as goal

pub returns : goal.returns
returns c = record {
  plain = release_plain;
  tree = λ v tx. refl;
  contents = λ v tx. refl;
  frees = λ v tx zone waits. release_frees v.zones zone tx waits;
  others = λ v tx zone other. release_keeps v.zones zone tx other;
}
