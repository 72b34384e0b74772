use Rattle.std.proofs.Common.{◌+◌, ℕ, List, slice_set, ap, ◌∙◌, subst, arith}
use Rattle.blk_base.specs.Image.{zeros}
use Rattle.journal_blocks.specs.Super.{super_block as journal_super}
use Rattle.mount_make.specs.Made.{made_block}
use Rattle.mount_make.specs.code.Making.{IsFilled}
use Rattle.mount_make.proofs.Filling.{made_is, filled_on}
use Rattle.mount_make.proofs.make.image_of.Goals as goal

pub returns : goal.returns
returns c =
    let g = c.args.g.now in
    let journal = c.args.journal in
    let image = c.put_volume.new.image in
    let blank = c.in-Ok.ensures ∙ ap (λ (n : ℕ). zeros (n + journal)) c.from-zones.ensures in
    let front = subst (λ (i : List (List ℕ)). IsFilled (made_block g) (g.first + 1) i image) blank c.put_volume.ensures in
    let filled = filled_on g c.requires.sound (g.zones + journal) image (omega arith) front in
    c.put.ensures ∙ (ap (λ (n : ℕ). slice_set image n c.write_super.result) c.from-zones.ensures
    ∙ (ap (slice_set image g.zones) (c.write_super.ensures.value ∙ ap journal_super c.new_journal.ensures)
    ∙ made_is g journal c.args.wide image c.requires.some filled))
