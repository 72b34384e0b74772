use Rattle.minix_host.proofs.FoundPaths.{places_on_paths}
use Rattle.minix_host.proofs.laws.histories.files_have_places.Goals as goal

pub returns : goal.returns
returns c = record { places = λ g t. places_on_paths t.tree t.plain.rooted g }
