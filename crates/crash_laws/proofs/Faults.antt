-- The blocks that say whether there is a volume and a journal, on the medium.
use Rattle.std.specs.Prelude.{◌≡◌, ℕ, ◌+◌, ◌-◌, ◌⊎◌, List}
use Rattle.std.proofs.Common.{sym, subst, inl, inr, ⊎_elim, arith}
use Rattle.blk_base.specs.Members.{In}
use Rattle.order_model.specs.OrderClosed.{IsOrderClosed}
use Rattle.volume_ops.specs.Volume.{disk_of}
use Rattle.volume_ops.specs.Reads.{Reads}
use Rattle.log_model.specs.Log.{log_of}
use Rattle.log_model.specs.Marks.{Transaction, Set, mark_in, transactions_from}
use Rattle.log_model.proofs.Marks.{In-transactions_from}
use Rattle.crash_laws.specs.Found.{IsFound}
use Rattle.crash_laws.specs.Rules.{OrderRules}
use Rattle.crash_laws.specs.Session.{Session, Medium, IsCommit, IsSubmitted, Submitted, IsSuperOf, body_at}
use Rattle.crash_laws.proofs.LogReads.{log_of_cut_is_tail_to_found}
use Rattle.crash_laws.proofs.Ordering.{same_block, origin_or_base, body_of_origin}
use Rattle.crash_laws.proofs.Origins.{put_of_volume, put_of_journal}
use Rattle.crash_laws.proofs.Superblocks.{written_body}

module _ {A : Type 0} {program : Reads A} {s : Session} {m : Medium} {F : ℕ} (rules : OrderRules program s) (closed : IsOrderClosed s.base s.requests m.image m.origins) (is_found : IsFound s m F) where
  -- A block of the base image's metadata for which no transaction has a body is never written.
  pub never_written : (b : ℕ) → In b s.reserved → ((k : ℕ) (x : List ℕ) → IsSubmitted s k → mark_in (transactions_from s.transactions 1 k) b ≡ Set x → ⊥) → disk_of m.image b ≡ disk_of s.base b
  never_written b old none =
      ⊎_elim
      (λ written.
      let put = closed.block_of b written.0 written.1 in
      ⊎_elim
      (λ page.
      let p = rules.fits.page written.0 page.0 page.1 page.2 page.3 in
      absurd (p.3 (subst (λ c. In c s.reserved) (same_block s.requests written.0 b p.0 put p.1) old)))
      (λ home.
      let of = rules.images.home written.0 b home in
      absurd (none of.k of.body (Submitted of.committed.0 of.committed.1) of.mark))
      (put_of_volume rules.fits rules.images written.0 b (rules.base.reserved b old) put))
      (λ same. same)
      (origin_or_base closed b)

  -- The journal superblock is the base image's or one that was submitted.
  pub superblock_known : (disk_of m.image s.journal ≡ disk_of s.base s.journal) ⊎ ((i freed : ℕ) × IsSuperOf s i freed × (disk_of m.image s.journal ≡ body_at s i))
  superblock_known =
      ⊎_elim
      (λ written.
      let note = put_of_journal rules.fits rules.images written.0 (closed.block_of s.journal written.0 written.1) in
      let t = rules.checkpoints.tail written.0 note in
      inr (written.0, t.0, t.1, sym (written_body s written.0 (disk_of m.image s.journal) (body_of_origin closed s.journal written.0 written.1))))
      (λ same. inl same)
      (origin_or_base closed s.journal)

  -- Each logged body that recovery reads is one of a submitted transaction.
  pub logged_known : (t : Transaction) → In t (log_of s.format s.ring s.journal (disk_of m.image)) → (k c : ℕ) × IsCommit s k c × (s.transactions k ≡ t)
  logged_known t i =
      let from = log_of_cut_is_tail_to_found rules closed is_found in
      let k = In-transactions_from s.transactions (1 + from.0) (F - from.0) t (subst (In t) from.1.log i) in
      let lo = k.1 in
      let hi = k.2 in
      let within = from.1.within in
      let c = is_found.there k.0 (omega arith) (omega arith) in
      (k.0, c.0, c.1, k.3)
