-- The journal superblock of a medium, and the log from its tail on.
use Rattle.std.specs.Prelude.{◌≡◌, ◌≢◌, ℕ, ◌+◌, ◌<◌, ◌≤◌, List, [], Some, refl}
use Rattle.std.specs.Option.{unwrap_or}
use Rattle.std.proofs.Common.{sym, ap, subst, ◌∙◌, ⊎_elim, arith}
use Rattle.std.proofs.lemmas.Bool.{cases_lt}
use Rattle.std.proofs.lemmas.Option.{none-some, same_Some}
use Rattle.order_model.specs.declared.note.Note.{Note}
use Rattle.order_model.specs.declared.note.Note.TheVariants.{Page, Super, Revoke, Descriptor, Body, Commit, Home, Flush, Raw}
use Rattle.order_model.specs.OrderClosed.{IsPutOf, IsPutWith, HasOrigin, IsKept, IsOrderClosed}
use Rattle.volume_ops.specs.Volume.{disk_of}
use Rattle.volume_ops.specs.Reads.{Reads}
use Rattle.log_model.specs.Log.{Tag, Header, Plain, Describes, Revokes, Commits, Tail}
use Rattle.log_model.specs.Ring.{IsPlace}
use Rattle.crash_laws.specs.Found.{IsFound}
use Rattle.crash_laws.specs.Ordering.{IsOrderedPut}
use Rattle.crash_laws.specs.Recovery.{IsTailOf}
use Rattle.crash_laws.specs.Rules.{FitsNotes, CommitOrder, LogLayout, CheckpointOrder, Images, BaseImage, HasHeader}
use Rattle.crash_laws.specs.Session.{Session, Medium, HasNote, log_transaction, IsLog, IsSuperOf, body_at, sequence_of}
use Rattle.crash_laws.proofs.Commits.{log_note, log_is_firm, commit_below, reached_by_kept}
use Rattle.crash_laws.proofs.Ordering.{same_block, same_origin, before_kept_is_kept, barrier_before_kept, origin_is_kept, origin_of_kept, body_of_origin, origin_or_base}
use Rattle.crash_laws.proofs.Origins.{put_of_journal, put_of_log}

-- a superblock has one tail
pub one_tail : (s : Session) (i freed other : ℕ) → IsSuperOf s i freed → IsSuperOf s i other → freed ≡ other
one_tail s i freed other h g =
    let e = ap (λ (t : Tail). t.sequence) (sym h.fields ∙ g.fields) in omega arith

pub super_is_firm : (s : Session) → FitsNotes s → (i : ℕ) → HasNote s i Super → IsOrderedPut s.requests i
super_is_firm s fits i h =
    record { put = (s.journal, fits.super i h); ordered = fits.ordered i Super h refl }

-- what a request writes, as a value
pub written_body : (s : Session) (i : ℕ) (x : List ℕ) → IsPutWith s.requests i x → body_at s i ≡ x
written_body s i x h = ap (λ o. unwrap_or o []) h

same_sequence : (q r : ℕ) → Commits q ≡ Commits r → q ≡ r
same_sequence q r e = cc

-- a log block that reads as a commit block is one
commit_header : (s : Session) (n : Note) (k q : ℕ) (h : Header) → log_transaction n ≡ Some k → HasHeader s.sequence n h → h ≡ Commits q → (n ≡ Commit k) × (q ≡ sequence_of s k)
commit_header s (Descriptor l) k q h e head reads = absurd (let f : ⊥ = described (sequence_of s l) head.0 q (sym head.1 ∙ reads) in f)
  where
    described : (a : ℕ) (tags : List Tag) (b : ℕ) → Describes a tags ≡ Commits b → ⊥
    described a tags b w = cc
commit_header s (Revoke l) k q h e head reads = absurd (let f : ⊥ = revoking (sequence_of s l) head.0 q (sym head.1 ∙ reads) in f)
  where
    revoking : (a : ℕ) (blocks : List ℕ) (b : ℕ) → Revokes a blocks ≡ Commits b → ⊥
    revoking a blocks b w = cc
commit_header s (Body l c) k q h e head reads = absurd (let f : ⊥ = plain q (sym head ∙ reads) in f)
  where
    plain : (b : ℕ) → Plain ≡ Commits b → ⊥
    plain b w = cc
commit_header s (Commit l) k q h e head reads =
    let same = same_Some l k e in
    let seq = same_sequence (sequence_of s l) q (sym head ∙ reads) in
    (ap Commit same, sym seq ∙ ap (sequence_of s) same)
commit_header s (Page f x v) k q h e head reads = absurd (none-some k e)
commit_header s Super k q h e head reads = absurd (none-some k e)
commit_header s (Home c) k q h e head reads = absurd (none-some k e)
commit_header s Flush k q h e head reads = absurd (none-some k e)
commit_header s Raw k q h e head reads = absurd (none-some k e)

module _ {s : Session} (order : CommitOrder s) (checkpoints : CheckpointOrder s) where
  -- tails never fall
  pub tails_rise : (x y freed more : ℕ) → x < y → IsSuperOf s x freed → IsSuperOf s y more → freed ≤ more
  tails_rise x y freed more lt hx hy =
      ⊎_elim
      (λ less.
      let c = checkpoints.behind x freed hx (omega arith) in
      let d = commit_below order (more + 1) freed c.0 c.1 (omega arith) (omega arith) in
      let f = checkpoints.before y more d.0 hy d.1 in
      let at = c.2 in let up = d.2 in let lo = f.1 in let hi = f.2 in
      absurd (omega arith))
      (λ le. le)
      (cases_lt more freed)

module _ {A : Type 0} {program : Reads A} {s : Session} {m : Medium} (closed : IsOrderClosed s.base s.requests m.image m.origins)
    (fits : FitsNotes s) (order : CommitOrder s) (layout : LogLayout s) (checkpoints : CheckpointOrder s) (images : Images program s) (fresh : BaseImage s)
    {F : ℕ} (is_found : IsFound s m F) where
  -- where no superblock was written, no commit block is kept
  pub no_super_no_commit : ((o : ℕ) → HasOrigin m.origins s.journal o → ⊥) → F ≡ 0
  no_super_no_commit none =
      ⊎_elim
      (λ pos.
      let c = is_found.there 1 (omega arith) (omega arith) in
      let x = checkpoints.first c.0 c.1 in
      let f = checkpoints.before x.0 0 c.0 x.1 c.1 in
      let firm = super_is_firm s fits x.0 x.1.note in
      let kept = before_kept_is_kept closed x.0 c.0 firm f c.2 in
      let o = origin_of_kept closed x.0 s.journal kept (fits.super x.0 x.1.note) in
      absurd (none o.0 o.1))
      (λ le. omega arith)
      (cases_lt 0 F)

  pub tail_within_found : (o : ℕ) → HasOrigin m.origins s.journal o → (freed : ℕ) × IsTailOf s m F freed
  tail_within_found o held =
      let note = put_of_journal fits images o (closed.block_of s.journal o held) in
      let t = checkpoints.tail o note in
      let kept = origin_is_kept closed s.journal o held in (
        t.0,
        record {
          place = o;
          held = held;
          super = t.1;
          within =
              ⊎_elim
              (λ pos. let c = checkpoints.behind o t.0 t.1 pos in reached_by_kept closed fits order is_found t.0 o c kept)
              (λ z. omega arith)
              (cases_lt 0 t.0);
          greatest = λ x other h kept.
              let p = origin_of_kept closed x s.journal kept (fits.super x h.note) in
              let same = same_origin m.origins s.journal p.0 o p.1 held in
              let le = p.2 in
              ⊎_elim
              (λ lt. tails_rise order checkpoints x o other t.0 lt h t.1)
              (λ ge. let e = one_tail s x other t.0 h (subst (λ i. IsSuperOf s i t.0) (let q : o ≡ x = omega arith in q) t.1) in omega arith)
              (cases_lt x o);
        },
      )

  -- a log block of a transaction up to F is kept
  pub log_is_kept : (k i : ℕ) → IsLog s k i → k ≤ F → IsKept s.requests m.origins i
  log_is_kept k i h le =
      let c = is_found.there k (order.numbered k i h) le in
      ⊎_elim
      (λ same. subst (IsKept s.requests m.origins) (sym same) c.2)
      (λ fenced. before_kept_is_kept closed i c.0 (log_is_firm s fits k i h) fenced c.2)
      (order.before k i c.0 h c.1)

  -- The log blocks from the tail to F stand on the medium as they were written.
  pub log_blocks_intact : (freed k i b : ℕ) → IsTailOf s m F freed → freed < k → k ≤ F → IsLog s k i → IsPutOf s.requests i b → HasOrigin m.origins b i
  log_blocks_intact freed k i b tail lt le h put =
      let p = fits.log k i h in
      let o = origin_of_kept closed i b (log_is_kept k i h le) put in
      let later = o.2 in
      let at = same_block s.requests i (s.journal + p.0) b p.2 put in
      let lo = p.1.0 in
      let one = fits.journal in
      ⊎_elim
      (λ after.
      let l = put_of_log fits images o.0 p.0 (omega arith) (subst (IsPutOf s.requests o.0) (sym at) (closed.block_of b o.0 o.1)) in
      let a = layout.again k l.0 i o.0 b after h l.1 put (closed.block_of b o.0 o.1) in
      let x = a.0 in
      let ge = a.5 in
      let kept = barrier_before_kept closed x o.0 (super_is_firm s fits x a.2.note) (checkpoints.barrier x a.1 a.2 (omega arith)) a.4 (origin_is_kept closed b o.0 o.1) in
      let no_more = tail.greatest x a.1 a.2 kept in
      absurd (omega arith))
      (λ ge. subst (HasOrigin m.origins b) (let q : o.0 ≡ i = omega arith in q) o.1)
      (cases_lt i o.0)

  -- No block of the log on the medium reads as the commit block of a transaction behind F.
  pub no_later_commit_header : (p seq : ℕ) → IsPlace s.ring p → s.sequence + F ≤ seq → s.format.header (disk_of m.image (s.journal + p)) ≢ Commits seq
  no_later_commit_header p seq at later reads =
      ⊎_elim
      (λ written.
      let o = written.0 in
      let lo = at.0 in
      let one = fits.journal in
      let l = put_of_log fits images o p (omega arith) (closed.block_of (s.journal + p) o written.1) in
      let n = log_note s l.0 o l.1 in
      let body = written_body s o (disk_of m.image (s.journal + p)) (body_of_origin closed (s.journal + p) o written.1) in
      let c = commit_header s n.0 l.0 seq (s.format.header (body_at s o)) n.2 (layout.header o n.0 n.1) (ap s.format.header body ∙ reads) in
      let within = is_found.reached l.0 o (subst (HasNote s o) c.0 n.1) (origin_is_kept closed (s.journal + p) o written.1) in
      let pos = order.numbered l.0 o l.1 in
      let same = c.1 in
      omega arith)
      (λ old. fresh.plain p seq at (omega arith) (ap s.format.header (sym old) ∙ reads))
      (origin_or_base closed (s.journal + p))

  -- So none reads as that of the next one.
  pub no_next_commit_header : (p : ℕ) → IsPlace s.ring p → s.format.header (disk_of m.image (s.journal + p)) ≢ Commits (s.sequence + F)
  no_next_commit_header p at = no_later_commit_header p (s.sequence + F) at (omega arith)
