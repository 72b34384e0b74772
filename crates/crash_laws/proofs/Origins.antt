-- Who wrote a block of a medium last.
use Rattle.std.specs.Prelude.{◌≡◌, ℕ, ◌+◌, ◌<◌, ◌≤◌, ◌⊎◌, Option, Some, None, slice_get, refl}
use Rattle.std.proofs.Common.{subst, inl, inr, arith}
use Rattle.blk_base.specs.laws.Members.{slice_get-in_range, slice_get-length}
use Rattle.order_model.specs.declared.request.Request.{Request}
use Rattle.order_model.specs.declared.note.Note.{Note}
use Rattle.order_model.specs.declared.note.Note.TheVariants.{Page, Super, Revoke, Descriptor, Body, Commit, Home, Flush, Raw}
use Rattle.order_model.specs.OrderClosed.{kind_block, IsPutOf}
use Rattle.std.specs.Option.{option_and_then}
use Rattle.std.proofs.lemmas.Option.{none-some}
use Rattle.volume_ops.specs.Reads.{Reads}
use Rattle.crash_laws.specs.Rules.{FitsNotes, Images}
use Rattle.crash_laws.specs.Session.{Session, HasNote, IsLog, Submitted}
use Rattle.crash_laws.proofs.Commits.{note_log}
use Rattle.crash_laws.proofs.Ordering.{same_block}

-- by its note, what a put is
pub data IsPutBy (s : Session) (i : ℕ) : Type 0 where
  ByPage : (birth index call : ℕ) → HasNote s i (Page birth index call) → IsPutBy s i
  BySuper : HasNote s i Super → IsPutBy s i
  ByLog : (k : ℕ) → IsLog s k i → IsPutBy s i
  ByHome : (b : ℕ) → HasNote s i (Home b) → IsPutBy s i

module _ {s : Session} (fits : FitsNotes s) where
  by_note : (i b : ℕ) (n : Note) → HasNote s i n → IsPutOf s.requests i b → IsPutBy s i
  by_note i b (Page f x v) h put = ByPage f x v h
  by_note i b Super h put = BySuper h
  by_note i b (Revoke k) h put = ByLog k (note_log s k i (Revoke k) h refl)
  by_note i b (Descriptor k) h put = ByLog k (note_log s k i (Descriptor k) h refl)
  by_note i b (Body k c) h put = ByLog k (note_log s k i (Body k c) h refl)
  by_note i b (Commit k) h put = ByLog k (note_log s k i (Commit k) h refl)
  by_note i b (Home c) h put = ByHome c h
  by_note i b Flush h put = absurd (fits.flush i h (b, put))
  by_note i b Raw h put = absurd (fits.raw i h)

  request_there : (i b : ℕ) (o : Option Request) → slice_get s.requests i ≡ o → option_and_then (λ (r : Request). kind_block r.kind) o ≡ Some b → (r : Request) × (slice_get s.requests i ≡ Some r)
  request_there i b None e put = absurd (none-some b put)
  request_there i b (Some r) e put = (r, e)

  -- each put is a page, a superblock, a log block or a home
  pub put_is_by : (i b : ℕ) → IsPutOf s.requests i b → IsPutBy s i
  put_is_by i b put =
      let r = request_there i b (slice_get s.requests i) refl put in
      let lt = slice_get-length s.requests i r.0 r.1 in
      let same = fits.counted in
      let n = slice_get-in_range s.notes i (omega arith) in
      by_note i b n.0 n.1 put

module _ {A : Type 0} {program : Reads A} {s : Session} (fits : FitsNotes s) (images : Images program s) where
  pub home_on_volume : (i b : ℕ) → HasNote s i (Home b) → b < s.journal
  home_on_volume i b h =
      let of = images.home i b h in
      images.bodies of.k b of.body (Submitted of.committed.0 of.committed.1) of.mark

  -- a put of the journal superblock is a superblock
  pub put_of_journal : (i : ℕ) → IsPutOf s.requests i s.journal → HasNote s i Super
  put_of_journal i put = by (put_is_by fits i s.journal put)
    where
      by : IsPutBy s i → HasNote s i Super
      by (ByPage f x v h) =
          let p = fits.page i f x v h in
          let e = same_block s.requests i p.0 s.journal p.1 put in
          let lt = p.2 in absurd (omega arith)
      by (BySuper h) = h
      by (ByLog k h) =
          let p = fits.log k i h in
          let e = same_block s.requests i (s.journal + p.0) s.journal p.2 put in
          let lo = p.1.0 in let one = fits.journal in absurd (omega arith)
      by (ByHome b h) =
          let e = same_block s.requests i b s.journal (fits.home i b h) put in
          let lt = home_on_volume i b h in absurd (omega arith)

  -- a put behind it is a log block
  pub put_of_log : (i p : ℕ) → 1 ≤ p → IsPutOf s.requests i (s.journal + p) → (k : ℕ) × IsLog s k i
  put_of_log i p pos put = by (put_is_by fits i (s.journal + p) put)
    where
      by : IsPutBy s i → (k : ℕ) × IsLog s k i
      by (ByPage f x v h) =
          let q = fits.page i f x v h in
          let e = same_block s.requests i q.0 (s.journal + p) q.1 put in
          let lt = q.2 in absurd (omega arith)
      by (BySuper h) =
          let e = same_block s.requests i s.journal (s.journal + p) (fits.super i h) put in absurd (omega arith)
      by (ByLog k h) = (k, h)
      by (ByHome b h) =
          let e = same_block s.requests i b (s.journal + p) (fits.home i b h) put in
          let lt = home_on_volume i b h in absurd (omega arith)

  -- a put of a block of the volume is a page or a home of that block
  pub put_of_volume : (i b : ℕ) → b < s.journal → IsPutOf s.requests i b → ((f x v : ℕ) × HasNote s i (Page f x v)) ⊎ HasNote s i (Home b)
  put_of_volume i b lt put = by (put_is_by fits i b put)
    where
      by : IsPutBy s i → ((f x v : ℕ) × HasNote s i (Page f x v)) ⊎ HasNote s i (Home b)
      by (ByPage f x v h) = inl (f, x, v, h)
      by (BySuper h) =
          let e = same_block s.requests i s.journal b (fits.super i h) put in absurd (omega arith)
      by (ByLog k h) =
          let p = fits.log k i h in
          let e = same_block s.requests i (s.journal + p.0) b p.2 put in absurd (omega arith)
      by (ByHome c h) =
          inr (subst (λ d. HasNote s i (Home d)) (same_block s.requests i c b (fits.home i c h) put) h)
