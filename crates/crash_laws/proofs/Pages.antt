-- A kept page is there, or a later version of it.
use Rattle.std.specs.Prelude.{◌≡◌, ◌≢◌, ℕ, ◌+◌, ◌-◌, ◌<◌, ◌≤◌, ◌==◌, ◌⊎◌, true, refl}
use Rattle.std.proofs.Common.{sym, ap, subst, ◌∙◌, inl, inr, ⊎_elim, arith, eqb-true, false-eqb}
use Rattle.std.proofs.lemmas.Bool.{cases_Bool, cases_lt}
use Rattle.order_model.specs.declared.note.Note.TheVariants.{Page, Home}
use Rattle.order_model.specs.OrderClosed.{IsPutOf, HasOrigin, IsKept, IsOrderClosed}
use Rattle.volume_ops.specs.Volume.{disk_of}
use Rattle.volume_ops.specs.Reads.{Reads}
use Rattle.log_model.specs.Marks.{mark_in, transactions_from}
use Rattle.crash_laws.specs.Found.{IsFound}
use Rattle.crash_laws.specs.History.{History, Calm, HasTrees}
use Rattle.crash_laws.specs.PageRules.{IsPageTo, PageOrder}
use Rattle.crash_laws.specs.PageRules.{place_at}
use Rattle.crash_laws.specs.Recovery.{IsOf, Sent, Opened, HasVersion}
use Rattle.crash_laws.specs.Rules.{OrderRules}
use Rattle.crash_laws.specs.Session.{Session, Medium, HasNote, IsCommit, CommitBefore, IsSubmitted, Submitted}
use Rattle.crash_laws.specs.laws.Submitting.{after}
use Rattle.crash_laws.proofs.Commits.{commit_positive, reached_by_kept}
use Rattle.crash_laws.proofs.Histories.{calm_within, calm_nothing, stays_mapped, cuts_rise}
use Rattle.crash_laws.proofs.Metadata.{found_submitted}
use Rattle.crash_laws.proofs.Ordering.{same_body, origin_is_kept, origin_of_kept, origin_or_none, body_of_origin}
use Rattle.crash_laws.proofs.Origins.{put_of_volume}

-- a number is another or not
pub same_or_not : (a b : ℕ) → (a ≡ b) ⊎ (a ≢ b)
same_or_not a b = elim (cases_Bool (a == b)) [ inl t ↦ inl (eqb-true a b t) | inr f ↦ inr (false-eqb a b (sym f)) ]

same_page : (f i g j : ℕ) → ((f ≡ g) × (i ≡ j)) ⊎ ((f ≡ g) × (i ≡ j) → ⊥)
same_page f i g j =
    ⊎_elim
    (λ a. ⊎_elim (λ b. inl (a, b)) (λ b. inr (λ both. b both.1)) (same_or_not i j))
    (λ a. inr (λ both. a both.0))
    (same_or_not f g)

module _ {A : Type 0} {program : Reads A} {h : History A} {s : Session} {m : Medium} {F : ℕ} (rules : OrderRules program s) (trees : HasTrees h) (pages : PageOrder program h s)
    (closed : IsOrderClosed s.base s.requests m.image m.origins) (is_found : IsFound s m F) where
  reached : (k j : ℕ) → CommitBefore s k j → IsKept s.requests m.origins j → k ≤ F
  reached k j c kept = reached_by_kept closed rules.fits rules.commits is_found k j c kept

  -- No home of its block stands behind a page that is not unmapped up to F.
  home_is_not_later : (p f i v o z : ℕ) → IsPageTo s p f i v z → p < o → HasNote s o (Home z) → IsKept s.requests m.origins o → Calm h f i v (h.cut F) → ⊥
  home_is_not_later p f i v o z page after home kept calm =
      let of = rules.images.home o z home in
      let hi = reached of.k o of.committed kept in
      let sub : IsSubmitted s of.k = Submitted of.committed.0 of.committed.1 in
      ⊎_elim {A = CommitBefore s (of.k + 1) p} {B = (c : ℕ) × IsCommit s (of.k - 1) c × (p < c) × (v ≤ h.cut (of.k - 1))}
      (λ next.
      let no_later = of.newest next.0 next.1 in
      let lt = next.2 in
      omega arith)
      (λ early.
      let below = early.3 in
      let step = cuts_rise trees (of.k - 1) of.k (omega arith) in
      let calm_k = calm_within f i v v (h.cut of.k) (h.cut F) calm (omega arith) (cuts_rise trees of.k F hi) in
      let there_k = stays_mapped f i v (h.cut of.k) (omega arith) calm_k (pages.there p f i v z page) in
      let at_k = pages.place p f i v z of.k page sub there_k calm_k (calm_nothing f i (h.cut of.k) v (omega arith)) in
      pages.files of.k f i of.body sub there_k (ap (λ y. mark_in (transactions_from s.transactions 1 of.k) y) (sym at_k) ∙ of.mark))
      (pages.logged p f i v z of.k of.body page (commit_positive rules.commits of.k of.committed.0 of.committed.1) sub of.mark)

  -- Nor one of another page.
  other_page_is_not_later : (p f i v o g j w z : ℕ) → IsPageTo s p f i v z → p < o → IsPageTo s o g j w z → IsKept s.requests m.origins o → ((f ≡ g) × (i ≡ j) → ⊥) → Calm h f i v (h.cut F) → ⊥
  other_page_is_not_later p f i v o g j w z page after other kept apart calm =
      let up = pages.another p o f i v g j w z after page other apart in
      let rise = cuts_rise trees up.k F (reached up.k o (up.commit, up.committed, up.before) kept) in
      let within = up.within in
      calm up.entry up.later (omega arith) up.unmapped

  -- So the origin of the block is that page, with this version or a later one.
  origin_is_page : (p f i v o z : ℕ) → IsPageTo s p f i v z → z < s.journal → p ≤ o → HasOrigin m.origins z o → Calm h f i v (h.cut F) → (w : ℕ) × IsPageTo s o f i w z × (v ≤ w)
  origin_is_page p f i v o z page low le held calm = by_place (cases_lt p o)
    where
      put : IsPutOf s.requests o z
      put = closed.block_of z o held

      kept : IsKept s.requests m.origins o
      kept = origin_is_kept closed z o held

      by_page : (after : p < o) (g j w : ℕ) → IsPageTo s o g j w z → ((f ≡ g) × (i ≡ j)) ⊎ ((f ≡ g) × (i ≡ j) → ⊥) → (w : ℕ) × IsPageTo s o f i w z × (v ≤ w)
      by_page after g j w other (inr apart) = absurd (other_page_is_not_later p f i v o g j w z page after other kept apart calm)
      by_page after g j w other (inl same) =
          let n : HasNote s o (Page f i w) = subst (λ a. HasNote s o (Page a i w)) (sym same.0) (subst (λ a. HasNote s o (Page g a w)) (sym same.1) other.note) in
          let t : IsPageTo s o f i w z = record { note = n; put = put } in
          (w, t, pages.versions p o f i v w z z after page t)

      by_note : (after : p < o) → ((g j w : ℕ) × HasNote s o (Page g j w)) ⊎ HasNote s o (Home z) → (w : ℕ) × IsPageTo s o f i w z × (v ≤ w)
      by_note after (inl other) = by_page after other.0 other.1 other.2 (record { note = other.3; put = put }) (same_page f i other.0 other.1)
      by_note after (inr home) = absurd (home_is_not_later p f i v o z page after home kept calm)

      by_place : (p < o) ⊎ (o ≤ p) → (w : ℕ) × IsPageTo s o f i w z × (v ≤ w)
      by_place (inl after) = by_note after (put_of_volume rules.fits rules.images o z low put)
      by_place (inr ge) = let e : p ≡ o = omega arith in (v, subst (λ q. IsPageTo s q f i v z) e page, omega arith)

  -- A kept page that is not unmapped up to F is on the medium, or a later version of it.
  pub page_stays : (p f i v : ℕ) → HasNote s p (Page f i v) → IsKept s.requests m.origins p → h.maps (h.cut F) f i ≡ true → Calm h f i v (h.cut F) → Calm h f i (h.cut F) v
      → HasVersion program h s m F f i v
  page_stays p f i v note kept there calm back =
      let to = rules.fits.page p f i v note in
      let page : IsPageTo s p f i v to.0 = record { note = note; put = to.1 } in
      let at = pages.place p f i v to.0 F page (found_submitted rules closed is_found) there calm back in
      let o = origin_of_kept closed p to.0 kept to.1 in
      let w = origin_is_page p f i v o.0 to.0 page to.2 o.2 o.1 calm in
      let body = same_body s.requests o.0 (disk_of m.image to.0) (h.content f i w.0) (body_of_origin closed to.0 o.0 o.1) (pages.content o.0 f i w.0 to.0 w.1) in
      record {
        version = w.0;
        mapped = pages.there o.0 f i w.0 to.0 w.1;
        source = Sent o.0 w.1.note (subst (λ z. HasOrigin m.origins z o.0) at o.1);
        body = subst (λ z. disk_of m.image z ≡ h.content f i w.0) at body;
        later = w.2;
        low = subst (λ z. z < s.journal) at to.2;
      }

  -- ---- blocks of the tree that was opened

  module _ (f i : ℕ) (there : h.maps 0 f i ≡ true) (calm : Calm h f i 0 (h.cut F)) where
    home_of_opened : (o : ℕ) → HasNote s o (Home (place_at program h s 0 f i)) → IsKept s.requests m.origins o → ⊥
    home_of_opened o home kept =
        let of = rules.images.home o (place_at program h s 0 f i) home in
        let hi = reached of.k o of.committed kept in
        let sub : IsSubmitted s of.k = Submitted of.committed.0 of.committed.1 in
        let calm_k = calm_within f i 0 0 (h.cut of.k) (h.cut F) calm (omega arith) (cuts_rise trees of.k F hi) in
        let there_k = stays_mapped f i 0 (h.cut of.k) (omega arith) calm_k there in
        pages.files of.k f i of.body sub there_k (ap (λ y. mark_in (transactions_from s.transactions 1 of.k) y) (sym (pages.stays f i of.k there sub calm_k)) ∙ of.mark)

    other_page_of_opened : (o g j w : ℕ) → IsPageTo s o g j w (place_at program h s 0 f i) → IsKept s.requests m.origins o → ((f ≡ g) × (i ≡ j) → ⊥) → ⊥
    other_page_of_opened o g j w other kept apart =
        let up = pages.given_up o f i g j w there other apart in
        let rise = cuts_rise trees up.k F (reached up.k o (up.commit, up.committed, up.before) kept) in
        let within = up.within in
        calm up.entry up.later (omega arith) up.unmapped

    -- One that is not unmapped up to F is on the medium as it was, or in a later version.
    pub opened_stays : HasVersion program h s m F f i 0
    opened_stays =
        ⊎_elim
        (λ o.
        let put = closed.block_of (place_at program h s 0 f i) o.0 o.1 in
        let kept = origin_is_kept closed (place_at program h s 0 f i) o.0 o.1 in
        ⊎_elim
        (λ page. by_page o.0 o.1 put kept page.0 page.1 page.2 page.3 (same_page f i page.0 page.1))
        (λ home. absurd (home_of_opened o.0 home kept))
        (put_of_volume rules.fits rules.images o.0 (place_at program h s 0 f i) (pages.opened f i there).0 put))
        (λ none. record {
          version = 0;
          mapped = there;
          source = Opened refl (subst (λ z. (o : ℕ) → HasOrigin m.origins z o → ⊥) at none.0);
          body = subst (λ z. disk_of m.image z ≡ h.content f i 0) at (none.1 ∙ (pages.opened f i there).1);
          later = omega arith;
          low = subst (λ z. z < s.journal) at (pages.opened f i there).0;
        })
        (origin_or_none closed (place_at program h s 0 f i))
      where
        at : place_at program h s 0 f i ≡ place_at program h s F f i
        at = pages.stays f i F there (found_submitted rules closed is_found) calm

        by_page : (o : ℕ) → HasOrigin m.origins (place_at program h s 0 f i) o → IsPutOf s.requests o (place_at program h s 0 f i) → IsKept s.requests m.origins o
            → (g j w : ℕ) → HasNote s o (Page g j w) → ((f ≡ g) × (i ≡ j)) ⊎ ((f ≡ g) × (i ≡ j) → ⊥) → HasVersion program h s m F f i 0
        by_page o held put kept g j w note (inr apart) = absurd (other_page_of_opened o g j w (record { note = note; put = put }) kept apart)
        by_page o held put kept g j w note (inl same) =
            let n : HasNote s o (Page f i w) = subst (λ a. HasNote s o (Page a i w)) (sym same.0) (subst (λ a. HasNote s o (Page g a w)) (sym same.1) note) in
            let t : IsPageTo s o f i w (place_at program h s 0 f i) = record { note = n; put = put } in
            let body = same_body s.requests o (disk_of m.image (place_at program h s 0 f i)) (h.content f i w) (body_of_origin closed (place_at program h s 0 f i) o held) (pages.content o f i w (place_at program h s 0 f i) t) in
            record {
              version = w;
              mapped = pages.there o f i w (place_at program h s 0 f i) t;
              source = Sent o n (subst (λ z. HasOrigin m.origins z o) at held);
              body = subst (λ z. disk_of m.image z ≡ h.content f i w) at body;
              later = omega arith;
              low = subst (λ z. z < s.journal) at (pages.opened f i there).0;
            }
