use Rattle.image_tests.proofs.RevokedBlocks.{revoked_were_meta}
use Rattle.image_tests.proofs.calling.revoked_blocks_were_metadata.Goals as goal

pub returns : goal.returns
returns c = revoked_were_meta
