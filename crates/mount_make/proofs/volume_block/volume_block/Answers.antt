use Rattle.std.proofs.Common.{◌≡◌, ◌+◌, ◌-◌, ◌*◌, ℕ, sym, ap, ap₂, ◌∙◌, arith}
use Rattle.mount_make.specs.Made.{map_block, made_block}
use Rattle.mount_make.proofs.NewBlocks.{made_super, made_inodes, made_zones, made_boot, made_table, made_first, made_other}
use Rattle.mount_make.proofs.volume_block.volume_block.Goals as goal

pub returns-then-block-eq1 : goal.returns-then-block-eq1
returns-then-block-eq1 c =
    let g = c.args.g.now in
    let b = c.args.block in
    let i = c.from-zones_map.ensures in
    let z = c.from.ensures in
    let here = c.if-block-eq1.true in
    c.write_super.ensures.value ∙ (sym (made_super g c.requires.sound) ∙ ap (made_block g) (sym here))

pub returns-then-block-lt2 : goal.returns-then-block-lt2
returns-then-block-lt2 c =
    let g = c.args.g.now in
    let b = c.args.block in
    let i = c.from-zones_map.ensures in
    let z = c.from.ensures in
    let differ = c.if-block-eq1.false in
    let low = c.if-block-lt2.true in
    c.fill.ensures ∙ sym (made_boot g c.requires.sound b (λ e. differ e) (omega (arith, low)))

pub returns-then-block-zones_map : goal.returns-then-block-zones_map
returns-then-block-zones_map c =
    let g = c.args.g.now in
    let b = c.args.block in
    let i = c.from-zones_map.ensures in
    let z = c.from.ensures in
    let low = c.if-block-lt2.false in
    let high = c.if-block-zones_map.true in
    c.map_block.ensures ∙ (ap (λ (n : ℕ). map_block n (8192 * (b - 2))) c.from-then-block-zones_map.ensures ∙ sym (made_inodes g c.requires.sound b (omega (arith, low)) (omega (arith, high, i))))

pub returns-then-block-table : goal.returns-then-block-table
returns-then-block-table c =
    let g = c.args.g.now in
    let b = c.args.block in
    let i = c.from-zones_map.ensures in
    let z = c.from.ensures in
    let low = c.if-block-zones_map.false in
    let high = c.if-block-table.true in
    let at : 8192 * (b - (2 + c.from-zones_map.result)) ≡ 8192 * (b - (2 + g.imap)) = ap (λ (n : ℕ). 8192 * (b - (2 + n))) i in
    c.map_block-then-block-table.ensures ∙ (ap₂ map_block c.from-then-block-table.ensures at ∙ sym (made_zones g c.requires.sound b (omega (arith, low, i)) (omega (arith, high, i, z))))

pub returns-then-block-table-2 : goal.returns-then-block-table-2
returns-then-block-table-2 c =
    let g = c.args.g.now in
    let b = c.args.block in
    let i = c.from-zones_map.ensures in
    let z = c.from.ensures in
    let here = c.if-block-table-2.true in
    c.root_table.ensures ∙ sym (made_table g c.requires.sound b (omega (arith, here, i, z)))

pub returns-then-block-from : goal.returns-then-block-from
returns-then-block-from c =
    let g = c.args.g.now in
    let b = c.args.block in
    let i = c.from-zones_map.ensures in
    let z = c.from.ensures in
    let here = c.if-block-from.true in
    let f = c.from-2.ensures in
    c.root_zone.ensures ∙ sym (made_first g c.requires.sound b (omega (arith, here, f)))

pub returns : goal.returns
returns c =
    let g = c.args.g.now in
    let b = c.args.block in
    let i = c.from-zones_map.ensures in
    let z = c.from.ensures in
    let low = c.if-block-table.false in
    let no_table = c.if-block-table-2.false in
    let no_first = c.if-block-from.false in
    let f = c.from-2.ensures in
    c.fill-2.ensures ∙ sym (made_other g c.requires.sound b (omega (arith, low, i, z)) (λ e. no_table (omega (arith, e, i, z))) (λ e. no_first (omega (arith, e, f))))
