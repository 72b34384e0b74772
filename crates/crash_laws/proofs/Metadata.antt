-- The recovered metadata is that of the image of the last transaction found.
use Rattle.std.specs.Prelude.{◌≡◌, ℕ, zero, suc, ◌+◌, ◌-◌, ◌<◌, ◌≤◌, ◌⊎◌, List, refl}
use Rattle.std.proofs.Common.{sym, ap, subst, ◌∙◌, inl, inr, ⊎_elim, arith}
use Rattle.std.proofs.lemmas.Bool.{cases_lt}
use Rattle.blk_base.specs.Members.{In}
use Rattle.order_model.specs.declared.note.Note.TheVariants.{Page, Home}
use Rattle.order_model.specs.OrderClosed.{IsPutOf, IsKept, IsOrderClosed}
use Rattle.volume_ops.specs.Volume.{disk_of}
use Rattle.volume_ops.specs.Reads.{Reads, blocks_read}
use Rattle.log_model.specs.Marks.{Mark, Keep, Clear, Set, followed, mark_in, body_after, transactions_from, replayed}
use Rattle.log_model.proofs.Marks.{same_Set, keep≢set, keep≢clear, clear≢set, mark-split, mark-keep_before, mark-clear}
use Rattle.crash_laws.specs.Found.{IsFound}
use Rattle.crash_laws.specs.Ordering.{IsOrderedPut}
use Rattle.crash_laws.specs.Recovery.{IsTailOf, IsLogFrom}
use Rattle.crash_laws.specs.Rules.{IsSentHome, OrderRules}
use Rattle.crash_laws.specs.Session.{Session, Medium, HasNote, CommitBefore, IsSubmitted, Before, Submitted, image_of}
use Rattle.crash_laws.proofs.Commits.{commit_below, reached_by_kept}
use Rattle.crash_laws.proofs.Ordering.{same_block, same_body, before_kept_is_kept, origin_is_kept, origin_of_kept, body_of_origin, origin_or_base}
use Rattle.crash_laws.proofs.Origins.{put_of_volume}

module _ {A : Type 0} {program : Reads A} {s : Session} {m : Medium} {F : ℕ} (rules : OrderRules program s) (closed : IsOrderClosed s.base s.requests m.image m.origins) (is_found : IsFound s m F) where
  reached : (k j : ℕ) → CommitBefore s k j → IsKept s.requests m.origins j → k ≤ F
  reached k j c kept = reached_by_kept closed rules.fits rules.commits is_found k j c kept

  pub found_submitted : IsSubmitted s F
  found_submitted =
      ⊎_elim
      (λ pos. let c = is_found.there F pos (omega arith) in Submitted c.0 c.1)
      (λ z. Before (omega arith))
      (cases_lt 0 F)

  -- no block of metadata is cancelled
  pub never_cleared : (b : ℕ) → In b (blocks_read (image_of s F) program) → mark_in (transactions_from s.transactions 1 F) b ≡ Clear → ⊥
  never_cleared b read clear =
      ⊎_elim
      (λ old.
      let k = mark-clear s.transactions 1 F b clear in
      let hi = k.2 in
      let c = is_found.there k.0 k.1 (omega arith) in
      ⊎_elim (rules.images.revokes k.0 c.0 b c.1 k.3) (λ keep. keep≢clear (sym keep.1 ∙ clear)) old)
      (λ set. clear≢set set.0 (sym clear ∙ set.1))
      (rules.images.logged F b found_submitted read)

  -- A block of which no transaction up to F says anything, and that is the base image's metadata, is as there.
  base_stays : (b : ℕ) → In b s.reserved ⊎ In b s.freeable → mark_in (transactions_from s.transactions 1 F) b ≡ Keep → disk_of m.image b ≡ disk_of s.base b
  base_stays b old keep =
      ⊎_elim
      (λ written.
      let o = written.0 in
      let put = closed.block_of b o written.1 in
      let kept = origin_is_kept closed b o written.1 in
      ⊎_elim
      (λ page.
      let p = rules.fits.page o page.0 page.1 page.2 page.3 in
      ⊎_elim
      (λ reserved. absurd (p.3 (subst (λ c. In c s.reserved) (same_block s.requests o b p.0 put p.1) reserved)))
      (λ freeable.
      let freed = rules.images.freed o page.0 page.1 page.2 b page.3 put freeable in
      let within = reached freed.0 o freed.1 kept in
      let e : F ≡ freed.0 + (F - freed.0) = omega arith in
      absurd (keep≢clear (sym (mark-keep_before s.transactions 1 freed.0 (F - freed.0) b (ap (λ n. mark_in (transactions_from s.transactions 1 n) b) (sym e) ∙ keep)) ∙ freed.2)))
      old)
      (λ home.
      let of = rules.images.home o b home in
      let within = reached of.k o of.committed kept in
      let e : F ≡ of.k + (F - of.k) = omega arith in
      let none = mark-keep_before s.transactions 1 of.k (F - of.k) b (ap (λ n. mark_in (transactions_from s.transactions 1 n) b) (sym e) ∙ keep) in
      absurd (keep≢set of.body (sym none ∙ of.mark)))
      (put_of_volume rules.fits rules.images o b (⊎_elim (rules.base.reserved b) (rules.base.freeable b) old) put))
      (λ same. same)
      (origin_or_base closed b)

  -- A body below the tail of which no transaction from the tail on says anything is at home.
  module _ (freed b : ℕ) (x : List ℕ) (tail : IsTailOf s m F freed) (set : mark_in (transactions_from s.transactions 1 freed) b ≡ Set x) (keep : mark_in (transactions_from s.transactions (1 + freed) (F - freed)) b ≡ Keep) where
    sent : IsSentHome s b x freed tail.place
    sent = rules.checkpoints.homes tail.place freed b x tail.super set

    -- it is the body after each transaction since then
    stays : (k : ℕ) → (since : ℕ) → ((j : ℕ) → since ≤ j → j ≤ freed → mark_in (transactions_from s.transactions 1 j) b ≡ Set x) → since ≤ k → k ≤ F → mark_in (transactions_from s.transactions 1 k) b ≡ Set x
    stays k since old lo hi =
        ⊎_elim
        (λ above.
        let within = tail.within in
        let n = k - freed in
        let e : k ≡ freed + n = omega arith in
        let rest : F - freed ≡ n + (F - k) = omega arith in
        let none = mark-keep_before s.transactions (1 + freed) n (F - k) b (ap (λ r. mark_in (transactions_from s.transactions (1 + freed) r) b) (sym rest) ∙ keep) in
        ap (λ r. mark_in (transactions_from s.transactions 1 r) b) e
        ∙ mark-split s.transactions freed n b
        ∙ ap (followed (mark_in (transactions_from s.transactions 1 freed) b)) none
        ∙ set)
        (λ le. old k lo le)
        (cases_lt freed k)

    -- a page does not go there
    climbs : (o f i v : ℕ) → HasNote s o (Page f i v) → IsPutOf s.requests o b → (since : ℕ) → ((j : ℕ) → since ≤ j → j ≤ freed → mark_in (transactions_from s.transactions 1 j) b ≡ Set x) → CommitBefore s since o → (d : ℕ) → since + d ≤ F + 1 → CommitBefore s (since + d) o
    climbs o f i v note put since old c zero le =
        let e : since ≡ since + zero = omega arith in subst (λ k. CommitBefore s k o) e c
    climbs o f i v note put since old c (suc d) le =
        let before = climbs o f i v note put since old c d (omega arith) in
        let e : since + d + 1 ≡ since + suc d = omega arith in
        subst (λ k. CommitBefore s k o) e
        (rules.images.pages o f i v b (since + d) x note put (stays (since + d) since old (omega arith) (omega arith)) before)

    pub body_is_home : b < s.journal → disk_of m.image b ≡ x
    body_is_home lt =
        let firm : IsOrderedPut s.requests sent.home = record { put = (b, rules.fits.home sent.home b sent.note); ordered = rules.fits.ordered sent.home (Home b) sent.note refl } in
        let kept_home = before_kept_is_kept closed sent.home tail.place firm sent.fenced (origin_is_kept closed s.journal tail.place tail.held) in
        let w = origin_of_kept closed sent.home b kept_home (rules.fits.home sent.home b sent.note) in
        let o = w.0 in
        let later = w.2 in
        let put = closed.block_of b o w.1 in
        let kept = origin_is_kept closed b o w.1 in
        let c = sent.committed in
        let below = c.2 in
        let before : CommitBefore s sent.since o = (c.0, c.1, omega arith) in
        let up = sent.within in
        let within = tail.within in
        ⊎_elim
        (λ page.
        let next = climbs o page.0 page.1 page.2 page.3 put sent.since sent.stays before (F + 1 - sent.since) (omega arith) in
        let e : sent.since + (F + 1 - sent.since) ≡ F + 1 = omega arith in
        let more = reached (F + 1) o (subst (λ k. CommitBefore s k o) e next) kept in
        absurd (omega arith))
        (λ home.
        let of = rules.images.home o b home in
        let hi = reached of.k o of.committed kept in
        let lo : sent.since ≤ of.k =
        ⊎_elim
        (λ less.
        let d = commit_below rules.commits (of.k + 1) sent.since c.0 c.1 (omega arith) (omega arith) in
        let at = d.2 in
        let no_later = of.newest d.0 d.1 in
        absurd (omega arith))
        (λ le. le)
        (cases_lt of.k sent.since) in
        let same = same_Set of.body x (sym of.mark ∙ stays of.k sent.since sent.stays lo hi) in
        same_body s.requests o (disk_of m.image b) of.body (body_of_origin closed b o w.1) of.carried ∙ same)
        (put_of_volume rules.fits rules.images o b lt put)

  -- ---- the cases together

  pub metadata_recovered : (freed b : ℕ) → IsLogFrom s m F freed → In b (blocks_read (image_of s F) program)
      → replayed (transactions_from s.transactions (1 + freed) (F - freed)) (disk_of m.image) b ≡ image_of s F b
  metadata_recovered freed b from read =
      by (mark_in (transactions_from s.transactions 1 freed) b) refl (mark_in (transactions_from s.transactions (1 + freed) (F - freed)) b) refl
    where
      whole : (h t : Mark) → mark_in (transactions_from s.transactions 1 freed) b ≡ h → mark_in (transactions_from s.transactions (1 + freed) (F - freed)) b ≡ t → mark_in (transactions_from s.transactions 1 F) b ≡ followed h t
      whole h t eh et =
          let within = from.within in
          let e : F ≡ freed + (F - freed) = omega arith in
          ap (λ n. mark_in (transactions_from s.transactions 1 n) b) e ∙ mark-split s.transactions freed (F - freed) b ∙ ap (λ z. followed z (mark_in (transactions_from s.transactions (1 + freed) (F - freed)) b)) eh ∙ ap (followed h) et

      both : (w t : Mark) → mark_in (transactions_from s.transactions (1 + freed) (F - freed)) b ≡ t → mark_in (transactions_from s.transactions 1 F) b ≡ w → body_after t (disk_of m.image b) ≡ body_after w (disk_of s.base b)
          → replayed (transactions_from s.transactions (1 + freed) (F - freed)) (disk_of m.image) b ≡ image_of s F b
      both w t et ew same = ap (λ z. body_after z (disk_of m.image b)) et ∙ same ∙ sym (ap (λ z. body_after z (disk_of s.base b)) ew)

      by : (h : Mark) → mark_in (transactions_from s.transactions 1 freed) b ≡ h → (t : Mark) → mark_in (transactions_from s.transactions (1 + freed) (F - freed)) b ≡ t
          → replayed (transactions_from s.transactions (1 + freed) (F - freed)) (disk_of m.image) b ≡ image_of s F b
      by h eh (Set x) et = both (Set x) (Set x) et (whole h (Set x) eh et) refl
      by h eh Clear et = absurd (never_cleared b read (whole h Clear eh et))
      by Clear eh Keep et = absurd (never_cleared b read (whole Clear Keep eh et))
      by (Set x) eh Keep et =
          let w = whole (Set x) Keep eh et in
          let pos : 1 ≤ freed = ⊎_elim (λ p. p) (λ z. let e : freed ≡ 0 = omega arith in absurd (keep≢set x (sym (ap (λ n. mark_in (transactions_from s.transactions 1 n) b) e) ∙ eh))) (cases_lt 0 freed) in
          both (Set x) Keep et w (body_is_home freed b x (from.tail pos) eh et (rules.images.bodies F b x found_submitted w))
      by Keep eh Keep et =
          let w = whole Keep Keep eh et in
          ⊎_elim
          (λ old. both Keep Keep et w (base_stays b (⊎_elim inl (λ keep. inr keep.0) old) w))
          (λ set. absurd (keep≢set set.0 (sym w ∙ set.1)))
          (rules.images.logged F b found_submitted read)
