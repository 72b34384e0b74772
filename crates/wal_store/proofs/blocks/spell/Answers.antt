use Rattle.std.proofs.Common.{◌++◌, ◌∙◌, ap}
use Rattle.byte_fields.specs.Fields.{bytes_of}
use Rattle.wal_store.proofs.Spelled.{spelled-chain}
use Rattle.wal_store.proofs.blocks.spell.Goals as goal

pub returns : goal.returns
unfolding bytes_of
returns c =
    spelled-chain c.args.number c.args.key.now c.args.value.now _ _ _ _ _ _ _ c.new-front.ensures c.put.ensures.value
    (c.put-2.ensures.value ∙ ap (λ x. c.put.new.self ++ x) c.to_be_bytes.ensures)
    c.put-3.ensures.value c.put-4.ensures.value c.put-5.ensures.value c.block.ensures
