use Rattle.std.proofs.Common.{Bool, ◌≡◌, ◌≢◌, ◌∙◌, ◌++◌, nat_lt, length, List, ℕ, true, false, Result, Ok, Err, sym, ap}
use Rattle.std.specs.Prelude.{IfOk}
use Rattle.journal_blocks.specs.declared.log_block.LogBlock.{LogBlock}
use Rattle.journal_blocks.specs.declared.log_block.LogBlock.TheVariants.{Descriptor, Commit, Revoke}
use Rattle.journal_blocks.specs.declared.fault.JournalFault.{JournalFault}
use Rattle.journal_blocks.specs.declared.fault.JournalFault.TheVariants.{NoMemory}
use Rattle.journal_blocks.specs.Header.{sequence_of}
use Rattle.journal_blocks.specs.Blocks.{log_block_of}
use Rattle.journal_blocks.specs.Log.{Reading, by_tags, by_said, said_by}
use Rattle.journal_replay.specs.code.Scans.{after}
use Rattle.journal_replay.specs.laws.Scans.{read_other, read_own}
use Rattle.journal_replay.proofs.scanning.Scan.read.Goals as goal

pub returns-then-sequence_in-self : goal.returns-then-sequence_in-self
returns-then-sequence_in-self c =
    let r = c.args.self.now in
    let none : nat_lt 0 (length r.tags) ≡ false = sym c.has_tag.ensures ∙ c.if-has_tag.false in
    read_other c.args.wide c.args.zones c.args.at r c.args.body.now none (λ e. c.if-sequence_in-self.true (c.sequence_in.ensures ∙ (e ∙ ap (λ (q : Reading). q.sequence) (sym c.self.view_is))))

-- a block of the sequence that is expected, by what it says
module _ (wide : Bool) (zones at : ℕ) (r : Reading) (b : List ℕ) (w : Result LogBlock JournalFault) where
  own : nat_lt 0 (length r.tags) ≡ false → sequence_of b ≡ r.sequence → (w ≢ Err NoMemory → w ≡ log_block_of wide b) → (v : Result LogBlock JournalFault) → w ≡ v → v ≢ Err NoMemory
      → by_tags wide zones r (record { at = at; body = b }) r.tags ≡ by_said zones r at (said_by v)
  own none same says v is other = read_own wide zones at r b v none same (sym is ∙ says (λ e. other (sym is ∙ e)))

other_err : (f : JournalFault) → f ≢ NoMemory → ◌≢◌ {A = Result LogBlock JournalFault} (Err f) (Err NoMemory)
other_err f other e = other (cc)

if_ok : {X E : Type 0} (r : Result X E) (P Q : X → Type 0) (S : X → Type 0) → IfOk r S → ((x : X) → S x → P x → Q x) → IfOk r P → IfOk r Q
if_ok (Ok x) P Q S s f h = f x s h
if_ok (Err e) P Q S s f h = tt

pub returns-in-Ok-Descriptor : goal.returns-in-Ok-Descriptor
returns-in-Ok-Descriptor c =
    let r = c.args.self.now in
    let none : nat_lt 0 (length r.tags) ≡ false = sym c.has_tag.ensures ∙ c.if-has_tag.false in
    let same : sequence_of c.args.body.now ≡ r.sequence = sym c.sequence_in.ensures ∙ (c.if-sequence_in-self.false ∙ ap (λ (q : Reading). q.sequence) c.self.view_is) in
    own c.args.wide c.args.zones c.args.at r c.args.body.now c.read_block.result none same c.read_block.ensures.value (Ok (Descriptor c.in-Ok-Descriptor.field-0-0 c.in-Ok-Descriptor.tags)) (c.in-Ok-Descriptor.is ∙ ap Ok c.in-Ok-Descriptor.field-0-is) (λ e. cc)
    ∙ ap (after true) (sym c.take_tags.ensures)

pub returns-in_ok-commit-in-Ok-Commit : goal.returns-in_ok-commit-in-Ok-Commit
returns-in_ok-commit-in-Ok-Commit c =
    let r = c.args.self.now in
    let none : nat_lt 0 (length r.tags) ≡ false = sym c.has_tag.ensures ∙ c.if-has_tag.false in
    let same : sequence_of c.args.body.now ≡ r.sequence = sym c.sequence_in.ensures ∙ (c.if-sequence_in-self.false ∙ ap (λ (q : Reading). q.sequence) c.self.view_is) in
    own c.args.wide c.args.zones c.args.at r c.args.body.now c.read_block.result none same c.read_block.ensures.value (Ok (Commit c.in-Ok-Commit.field-0-0)) (c.in-Ok-Commit.is ∙ ap Ok c.in-Ok-Commit.field-0-is) (λ e. cc)
    ∙ ap (after true) (sym c.in_ok-commit-in-Ok-Commit.ensures)

pub returns-in_ok-take_revokes-in-Ok-Revoke : goal.returns-in_ok-take_revokes-in-Ok-Revoke
returns-in_ok-take_revokes-in-Ok-Revoke c =
    let r = c.args.self.now in
    let none : nat_lt 0 (length r.tags) ≡ false = sym c.has_tag.ensures ∙ c.if-has_tag.false in
    let same : sequence_of c.args.body.now ≡ r.sequence = sym c.sequence_in.ensures ∙ (c.if-sequence_in-self.false ∙ ap (λ (q : Reading). q.sequence) c.self.view_is) in
    own c.args.wide c.args.zones c.args.at r c.args.body.now c.read_block.result none same c.read_block.ensures.value (Ok (Revoke c.in-Ok-Revoke.field-0-0 c.in-Ok-Revoke.blocks)) (c.in-Ok-Revoke.is ∙ ap Ok c.in-Ok-Revoke.field-0-is) (λ e. cc)
    ∙ (ap (λ (ns : List ℕ). let q : Reading = record r { revokes = r.revokes ++ ns } in after true q) (sym c.as_slice.ensures)
    ∙ ap (after true) (sym c.in_ok-take_revokes-in-Ok-Revoke.ensures))

pub returns-in-Err : goal.returns-in-Err
returns-in-Err c =
    let r = c.args.self.now in
    let none : nat_lt 0 (length r.tags) ≡ false = sym c.has_tag.ensures ∙ c.if-has_tag.false in
    let same : sequence_of c.args.body.now ≡ r.sequence = sym c.sequence_in.ensures ∙ (c.if-sequence_in-self.false ∙ ap (λ (q : Reading). q.sequence) c.self.view_is) in
    if_ok c.take_fault.result _ _ (λ _. c.in-Err.fault ≢ NoMemory) c.take_fault.ensures.memory
    (λ goes other h. own c.args.wide c.args.zones c.args.at r c.args.body.now c.read_block.result none same c.read_block.ensures.value (Err c.in-Err.fault) c.in-Err.is (other_err c.in-Err.fault other) ∙ h c.args.zones)
    c.take_fault.ensures.said
