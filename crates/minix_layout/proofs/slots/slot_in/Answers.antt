use Rattle.std.proofs.Common.{ℕ, ◌≡◌, ◌+◌, ◌-◌, arith, ◌==◌, true, false, List, take, drop, sym, ap, ◌∙◌}
use Rattle.std.specs.List.{list_any, before_first}
use Rattle.byte_fields.specs.Fields.{bytes_at}
use Rattle.minix_layout.specs.Slots.{name_in, is_bad_name}
use Rattle.minix_layout.specs.Words.{is_name}
use Rattle.minix_layout.specs.laws.SlotLaws.{used_bad, used_good, name_some, name_none, bad_slash, bad_empty, good_name}
use Rattle.minix_layout.proofs.slots.slot_in.Goals as goal

-- what lies behind the number of the inode
name_front : (width : ℕ) (bytes name : List ℕ) → name ≡ before_first (λ b. b == 0) (take (width + 2 - 2) (drop 2 bytes)) → name ≡ name_in width bytes
unfolding bytes_at
name_front width bytes name is =
    let same : width + 2 - 2 ≡ width = omega arith in
    is ∙ ap (λ n. before_first (λ b. b == 0) (take n (drop 2 bytes))) same

pub returns-then-contains-clause-value : goal.returns-then-contains-clause-value
unfolding bytes_at
returns-then-contains-clause-value c =
    let slash : list_any (λ b. b == 47) c.before_zero-name.result.now ≡ true = sym c.contains.ensures.value ∙ c.if-contains.true in
    used_bad c.args.width c.args.bytes.now c.u16_at_le-inode.result c.before_zero-name.result.now c.u16_at_le-inode.ensures c.if-inode-eq0.false (name_front c.args.width c.args.bytes.now c.before_zero-name.result.now c.before_zero-name.ensures.value) (bad_slash c.before_zero-name.result.now slash)

pub returns-in-Some-clause-value : goal.returns-in-Some-clause-value
unfolding bytes_at
returns-in-Some-clause-value c =
    let slash : list_any (λ b. b == 47) c.before_zero-name.result.now ≡ false = sym c.contains.ensures.value ∙ c.if-contains.false in
    let named = name_some c.before_zero-name.result.now c.in-Some.name c.in-Some.ensures in
    used_good c.args.width c.args.bytes.now c.u16_at_le-inode.result c.in-Some.name c.u16_at_le-inode.ensures c.if-inode-eq0.false (named.0 ∙ (name_front c.args.width c.args.bytes.now c.before_zero-name.result.now c.before_zero-name.ensures.value)) (ap is_bad_name named.0 ∙ good_name c.before_zero-name.result.now named.1 slash)

pub returns-in-None-clause-value : goal.returns-in-None-clause-value
unfolding bytes_at
returns-in-None-clause-value c =
    let n = c.before_zero-name.result.now in
    let front : n ≡ name_in c.args.width c.args.bytes.now = (name_front c.args.width c.args.bytes.now c.before_zero-name.result.now c.before_zero-name.ensures.value) in
    let fails = ap is_name (sym front) ∙ name_none n c.in-None.ensures in
    used_bad c.args.width c.args.bytes.now c.u16_at_le-inode.result n c.u16_at_le-inode.ensures c.if-inode-eq0.false front (ap is_bad_name front ∙ bad_empty c.args.width c.args.bytes.now c.requires.narrow fails)
