use Rattle.std.proofs.Common.{◌≡◌, ◌+◌, ◌-◌, ◌++◌, ◌∷◌, [], List, ℕ, drop, take, length, sym, ap, ◌∙◌, arith}
use Rattle.std.proofs.lemmas.List.{take_rest}
use Rattle.journal_blocks.specs.declared.tag.Tag.{Tag}
use Rattle.journal_blocks.specs.Blocks.{tags_in, tags_of, tag_in, tag_size}
use Rattle.journal_blocks.specs.laws.Tags.{tags_next}
use Rattle.journal_blocks.proofs.tag.tags_in.Goals as goal

pub loop-i-init : goal.loop-i-init
unfolding tags_of
loop-i-init c =
    ap (λ (ts : List Tag). ts ++ tags_in c.args.wide 126 (take (length c.args.bytes.now - 12) (drop 12 c.args.bytes.now))) c.new-tags.ensures.items
    ∙ ap (tags_in c.args.wide 126) (take_rest c.args.bytes.now 12)

pub loop-i-preserved : goal.loop-i-preserved
loop-i-preserved c =
    let rest = c.loop-i.rest.now in
    let front = c.loop-i.tags.items in
    let pushed : c.push.new.self.items ≡ front ++ tag_in c.args.wide rest ∷ [] = c.in_ok-push.ensures.items ∙ ap (λ (t : Tag). front ++ t ∷ []) c.tag_in.ensures in
    let size : c.tag_size.result ≡ tag_size c.args.wide rest = c.tag_size.ensures in
    ap (λ (bytes : List ℕ). c.push.new.self.items ++ tags_in c.args.wide (126 - (c.loop-i.i + 1)) bytes) (take_rest rest c.tag_size.result)
    ∙ (ap (λ (n : ℕ). c.push.new.self.items ++ tags_in c.args.wide (126 - (c.loop-i.i + 1)) (drop n rest)) size
    ∙ (ap (λ (ts : List Tag). ts ++ tags_in c.args.wide (126 - (c.loop-i.i + 1)) (drop (tag_size c.args.wide rest) rest)) pushed
    ∙ tags_next c.args.wide front (tags_of c.args.wide c.args.bytes.now) c.loop-i.i rest (omega arith) c.loop-i.invariant (sym c.is_whole.ensures ∙ c.if-not-is_whole.false) (sym c.is_last.ensures ∙ c.if-is_last.false)))
