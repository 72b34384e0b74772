-- The blocks of a JBD2 journal are read as they are written.
use Rattle.std.specs.Prelude.{◌≡◌, ◌≢◌, ◌<◌, ◌≤◌, ◌^◌, ℕ, Bool, true, false, List, [], ◌∷◌, map, length, Result, Ok, refl}
use Rattle.std.proofs.Common.{ap, subst, ◌∙◌, lit<, arith}
use Rattle.std.proofs.lemmas.Bool.{ne_eqb}
use Rattle.blk_base.specs.Members.{In}
use Rattle.blk_base.specs.laws.Members.{In-All, In-map}
use Rattle.byte_fields.specs.Fields.{zeros, number_at, HaveFields}
use Rattle.byte_fields.specs.Fields.Order.{big}
use Rattle.byte_fields.specs.laws.ReadLaws.{fields_read, length-zeros}
use Rattle.journal_blocks.specs.declared.fault.JournalFault.{JournalFault}
use Rattle.journal_blocks.specs.declared.log_block.LogBlock.{LogBlock}
use Rattle.journal_blocks.specs.declared.log_block.LogBlock.TheVariants.{Descriptor, Revoke, Commit}
use Rattle.journal_blocks.specs.declared.super_block.JournalSuper.{JournalSuper}
use Rattle.journal_blocks.specs.declared.tag.Tag.{Tag}
use Rattle.journal_blocks.specs.Blocks.{log_block_of, number_size, escaped}
use Rattle.journal_blocks.specs.Header.{magic_of, sequence_of}
use Rattle.journal_blocks.specs.Readers.{tag_of, header_by, header_of, tail_of, format}
use Rattle.journal_blocks.specs.Super.{super_fields, super_block, is_wide}
use Rattle.journal_blocks.specs.Written.{descriptor_block, revoke_block, commit_block, most_tags, most_revokes}
use Rattle.journal_blocks.specs.laws.Escapes.{restored-escaped, unlike-escaped}
use Rattle.journal_blocks.specs.laws.Headers.{header_there}
use Rattle.journal_blocks.proofs.Descriptors.{descriptor_read}
use Rattle.journal_blocks.proofs.Revokes.{revoke_read, commit_read}
use Rattle.log_model.specs.Log as model
use Rattle.log_model.specs.Log.{Plain, Describes, Revokes, Commits}
use Rattle.journal_ring.specs.running.Closing.{written_tag, writers}
use Rattle.host_machine.specs.runs.laws.Written.{IsWord, AreWritten}

-- ---- headers

-- a block that begins without the magic number is no block of the log
pub no_header : (wide : Bool) (b : List ℕ) → magic_of b ≢ 0xC03B3998 → header_of wide b ≡ Plain
unfolding header_of log_block_of
no_header wide b apart = rw (ne_eqb (magic_of b) 0xC03B3998 apart) refl

header_as : (wide : Bool) (b : List ℕ) (sequence : ℕ) (r : Result LogBlock JournalFault) → sequence_of b ≡ sequence → log_block_of wide b ≡ r → header_of wide b ≡ header_by sequence r
unfolding header_of
header_as wide b sequence r s e = ap (λ n. header_by n (log_block_of wide b)) s ∙ ap (header_by sequence) e

tags_back : (tags : List model.Tag) → map tag_of (map written_tag tags) ≡ tags
tags_back [] = refl
tags_back (t ∷ ts) = ap (λ more. t ∷ more) (tags_back ts)

-- a number of 32 bits fits into the numbers of both kinds
word_fits : (wide : Bool) (n : ℕ) → IsWord n → n < 256 ^ number_size wide
word_fits true n low = omega (arith, low)
word_fits false n low = omega (arith, low)

tags_fit : (wide : Bool) (tags : List model.Tag) → ((t : model.Tag) → In t tags → IsWord t.block) → (t : Tag) → In t (map written_tag tags) → t.block < 256 ^ number_size wide
tags_fit wide tags h t i = (let x = In-map written_tag tags t i in word_fits wide t.block (subst IsWord (ap (λ (t : Tag). t.block) x.2) (h x.0 x.1)))

length_tags : (tags : List model.Tag) → length (map written_tag tags) ≡ length tags
length_tags [] = refl
length_tags (t ∷ ts) = (let rest = length_tags ts in omega arith)

-- a superblock has its fields
pub super_has : (s : JournalSuper) → HaveFields big (super_block s) (super_fields s)
unfolding super_block
super_has s = fields_read big 1024 (super_fields s) (zeros 1024) refl (length-zeros 1024)

descriptor_sequence : (wide : Bool) (seq : ℕ) (tags : List Tag) → seq < 256 ^ 4 → sequence_of (descriptor_block wide seq tags) ≡ seq
unfolding descriptor_block
descriptor_sequence wide seq tags fits = (header_there 1 seq _ (lit< tt) fits).2

revoke_sequence : (wide : Bool) (seq : ℕ) (blocks : List ℕ) → seq < 256 ^ 4 → sequence_of (revoke_block wide seq blocks) ≡ seq
unfolding revoke_block
revoke_sequence wide seq blocks fits = (header_there 5 seq _ (lit< tt) fits).2

commit_sequence : (seq : ℕ) → seq < 256 ^ 4 → sequence_of (commit_block seq) ≡ seq
unfolding commit_block
commit_sequence seq fits = (header_there 2 seq _ (lit< tt) fits).2

some_tags : (wide : Bool) → 1 ≤ most_tags wide
some_tags true = omega arith
some_tags false = omega arith

some_revokes : (wide : Bool) → 1 ≤ most_revokes wide
some_revokes true = omega arith
some_revokes false = omega arith

module _ (s : JournalSuper) where
  abbrev wide : Bool
  wide = is_wide s

  descriptor : (seq : ℕ) (tags : List model.Tag) → IsWord seq → 1 ≤ length tags → length tags ≤ most_tags wide → ((t : model.Tag) → In t tags → IsWord t.block) → header_of wide (descriptor_block wide seq (map written_tag tags)) ≡ Describes seq tags
  descriptor seq tags word some few fit =
      let counted = length_tags tags in
      header_as wide (descriptor_block wide seq (map written_tag tags)) seq (Ok (Descriptor seq (map written_tag tags))) (descriptor_sequence wide seq (map written_tag tags) (omega arith))
      (descriptor_read wide seq (map written_tag tags) (omega arith) (omega arith) (omega arith) (In-All (λ (t : Tag). t.block < 256 ^ number_size wide) (map written_tag tags) (tags_fit wide tags fit)))
      ∙ ap (Describes seq) (tags_back tags)

  revoke : (seq : ℕ) (blocks : List ℕ) → IsWord seq → 1 ≤ length blocks → length blocks ≤ most_revokes wide → ((b : ℕ) → In b blocks → IsWord b) → header_of wide (revoke_block wide seq blocks) ≡ Revokes seq blocks
  revoke seq blocks word some few fit =
      header_as wide (revoke_block wide seq blocks) seq (Ok (Revoke seq blocks)) (revoke_sequence wide seq blocks (omega arith))
      (revoke_read wide seq blocks (omega arith) few (In-All (λ n. n < 256 ^ number_size wide) blocks (λ b i. word_fits wide b (fit b i))))

  commit : (seq : ℕ) → IsWord seq → header_of wide (commit_block seq) ≡ Commits seq
  commit seq word = header_as wide (commit_block seq) seq (Ok (Commit seq)) (commit_sequence seq (omega arith)) (commit_read wide seq (omega arith))

  super : (seq start : ℕ) → IsWord seq → IsWord start → tail_of (super_block (record s { sequence = seq; start = start })) ≡ record { sequence = seq; start = start }
  super seq start word small =
      let have = super_has (record s { sequence = seq; start = start }) in
      let one : number_at big 4 0x18 (super_block (record s { sequence = seq; start = start })) ≡ seq = have.1.1.1.1.1.1.0 (omega arith) in
      let two : number_at big 4 0x1C (super_block (record s { sequence = seq; start = start })) ≡ start = have.1.1.1.1.1.1.1.0 (omega arith) in
      ap (λ n. record { sequence = n; start = number_at big 4 0x1C (super_block (record s { sequence = seq; start = start })) }) one ∙ ap (λ n. record { sequence = seq; start = n }) two

  -- So it is of this journal's format and writers.
  pub journal_written : AreWritten (format (is_wide s)) (writers s)
  journal_written = record {
    some_tags = some_tags (is_wide s);
    some_revokes = some_revokes (is_wide s);
    descriptor = descriptor;
    revoke = revoke;
    commit = commit;
    plain = λ body h. no_header (is_wide s) (escaped body).0 (unlike-escaped body);
    stored = λ b body h. restored-escaped body (let size = h.0 in omega arith) h.1;
    super = super;
  }

  -- and of the format of this kind
  pub kind_written : (kind : Bool) → is_wide s ≡ kind → AreWritten (format kind) (writers s)
  kind_written kind same = subst (λ k. AreWritten (format k) (writers s)) same journal_written
