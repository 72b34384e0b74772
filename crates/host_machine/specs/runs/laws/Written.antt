-- What the writers of the journal's blocks owe: what they write is read back.
use Rattle.std.specs.Prelude.{◌≡◌, ℕ, ◌<◌, ◌≤◌, List, length}
use Rattle.blk_base.specs.Members.{In}
use Rattle.log_model.specs.Log.{Tag, Plain, Describes, Revokes, Commits, Format}
use Rattle.log_model.specs.Marks.{Logged, Transaction}
use Rattle.journal_ring.specs.running.Plan.{Writers}
use Rattle.host_machine.specs.runs.Runs.{IsBlock}

abbrev pub IsWord : ℕ → Type 0
IsWord n = n < 4294967296

abbrev pub tag_of : Writers → Logged → Tag
tag_of w l = record { block = l.block; escaped = w.is_escaped l.body }

-- The journal's format reads what these write: with a tag or more, with a revoke or more, as many as there may be, and
-- whole blocks.
pub record AreWritten (f : Format) (w : Writers) : Type 0 where
  pub some_tags : 1 ≤ w.most_tags
  pub some_revokes : 1 ≤ w.most_revokes
  pub descriptor : (seq : ℕ) (tags : List Tag) → IsWord seq → 1 ≤ length tags → length tags ≤ w.most_tags → ((t : Tag) → In t tags → IsWord t.block) → f.header (w.descriptor seq tags) ≡ Describes seq tags
  pub revoke : (seq : ℕ) (blocks : List ℕ) → IsWord seq → 1 ≤ length blocks → length blocks ≤ w.most_revokes → ((b : ℕ) → In b blocks → IsWord b) → f.header (w.revoke seq blocks) ≡ Revokes seq blocks
  pub commit : (seq : ℕ) → IsWord seq → f.header (w.commit seq) ≡ Commits seq
  -- a stored body is escaped, so it never begins as a header does
  pub plain : (body : List ℕ) → IsBlock body → f.header (w.stored body) ≡ Plain
  pub stored : (b : ℕ) (body : List ℕ) → IsBlock body → f.restore (record { block = b; escaped = w.is_escaped body }) (w.stored body) ≡ body
  pub super : (seq start : ℕ) → IsWord seq → IsWord start → f.tail (w.super seq start) ≡ record { sequence = seq; start = start }

-- its numbers fit into words, and its bodies are whole blocks
pub record IsWritable (t : Transaction) : Type 0 where
  pub blocks : (l : Logged) → In l t.bodies → IsWord l.block
  pub bodies : (l : Logged) → In l t.bodies → IsBlock l.body
  pub revokes : (b : ℕ) → In b t.revokes → IsWord b
