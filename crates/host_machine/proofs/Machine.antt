-- The steps of the host keep the facts of images.
use Rattle.std.proofs.Common.{sym, ap, subst, ◌∙◌, inl, inr, ⊎_elim, arith}
use Rattle.std.proofs.lemmas.Bool.{cases_lt}
use Rattle.std.specs.Prelude.{◌≡◌, ℕ, suc, ◌+◌, ◌-◌, ◌<◌, ◌≤◌, true, ◌&&◌, List, [], ◌∷◌, ◌++◌, length, refl}
use Rattle.blk_base.specs.Members.{In}
use Rattle.page_cache.specs.declared.cached_page.CachedPage.{CachedPage}
use Rattle.crash_laws.specs.Session.{Session}
use Rattle.host_machine.proofs.ChangeSteps.{IsEntry, numbers_grow, way_grows, present_changed, bodies_changed, plan_revokes_changed, places_changed, history_changed, opened_changed, altered_changed, pages_changed, sent_changed}
use Rattle.host_machine.proofs.Entries.{tree_old, entry_noted, changes_noted, trees_noted, length_new, cut_closed, cut_open}
use Rattle.host_machine.proofs.PagesRising.{dropped-rising, written-rising}
use Rattle.host_machine.specs.Host.{dropped_pages, written_pages}
use Rattle.host_machine.specs.Model.{Touched}
use Rattle.number_sets.specs.Sets.{with_all, without_all}
use Rattle.host_machine.specs.State.{Entry}
use Rattle.commit_actor.specs.Journal.{Phase, Idle, Closing, Committing}
use Rattle.host_machine.specs.Views.{is_answered, cut_of, tree_after}
use Rattle.host_machine.specs.laws.Contract.{Over, view_of, Contract, noted_history, InPhase, ImagesFacts}
use Rattle.host_machine.specs.laws.Facts.{IsPlain, IsChange, Numbers, KeepsPlaces, PagesMapped, ZoneHistory, OpenedZones}

module _ {A T V C R : Type 0} {o : Over A T V C R} {Stands : V → T → Type 0} (contract : Contract o Stands) where
  pub plain_at : (es : List (Entry C R)) (cuts : List ℕ) (s : Session) (v : V) (n : ℕ) → s.journal ≡ o.setup.journal → s.reserved ≡ o.reserved → Stands v (tree_after o.model es n) → IsPlain o.program (noted_history o Stands es cuts) s n (view_of o v)
  plain_at es cuts s v n journal reserved stands =
      let p = contract.plain v (tree_after o.model es n) stands in
      record {
        mapped = p.mapped;
        content = p.content;
        there = p.there;
        metadata_free = p.metadata_free;
        page_free = p.page_free;
        one_page = p.one_page;
        metadata_low = λ b m. subst (λ j. b < j) (sym journal) (p.metadata_low b m);
        page_low = λ f i b m. subst (λ j. b < j) (sym journal) (p.page_low f i b m);
        reserved = λ b i. p.reserved b (subst (In b) reserved i);
        walk = p.walk;
        places = p.places;
      }

  -- ---- one entry more

  module _ {es : List (Entry C R)} {cuts : List ℕ} {s : Session} {r : ℕ} {touched revoked changed : List ℕ} {phase : Phase} {v : V} {pages : List CachedPage} {N : ℕ}
      (journal : s.journal ≡ o.setup.journal) (reserved : s.reserved ≡ o.reserved) (facts : ImagesFacts o Stands es cuts s r touched revoked changed phase v pages N) where
    -- the next entry, and what it did to the volume
    module _ (e : Entry C R) (w : V) (d : Touched)
        (stands : Stands w (tree_after o.model (es ++ e ∷ []) (length es + 1)))
        (told : IsChange (noted_history o Stands (es ++ e ∷ []) cuts) s (length es) r (view_of o v) (view_of o w) d)
        (nodes : (f : ℕ) → (is_answered e.what && o.model.alters (tree_after o.model es (length es)) (suc (length es)) e.call f) ≡ true → In f d.nodes) where
      entry : IsEntry (noted_history o Stands es cuts) (noted_history o Stands (es ++ e ∷ []) cuts) (length es) r
      entry = entry_noted o.model es e o.place cuts r facts.closed facts.numbers.cuts

      grown : length es + 1 ≡ length (es ++ e ∷ [])
      grown = sym (length_new o.model es e)

      rises : (k : ℕ) → cut_of cuts (length (es ++ e ∷ [])) k ≤ cut_of cuts (length (es ++ e ∷ [])) (k + 1)
      rises k =
          let up = facts.rise k in
          let hi = facts.numbers.cuts k in
          let c = facts.closed in
          let g = grown in
          ⊎_elim
          (λ lt.
          let a = cut_closed cuts (length (es ++ e ∷ [])) (length es) k (omega arith) in
          let b = cut_closed cuts (length (es ++ e ∷ [])) (length es) (k + 1) (omega arith) in
          omega arith)
          (λ ge.
          let b = cut_open cuts (length (es ++ e ∷ [])) (k + 1) (omega arith) in
          ⊎_elim
          (λ past. let a = cut_open cuts (length (es ++ e ∷ [])) k past in omega arith)
          (λ le. let a = cut_closed cuts (length (es ++ e ∷ [])) (length es) k le in omega arith)
          (cases_lt (length cuts) k))
          (cases_lt k (length cuts))

      phase_stays : InPhase o Stands es cuts s r N phase → InPhase o Stands (es ++ e ∷ []) cuts s r N phase
      phase_stays = by phase
        where
          by : (p : Phase) → InPhase o Stands es cuts s r N p → InPhase o Stands (es ++ e ∷ []) cuts s r N p
          by Idle x = x
          by Closing x = x
          by (Committing p) x =
              let on = x.on_way in
              record {
                on_way = x.on_way;
                rest = x.rest;
                listed = λ f ch. x.listed f (sym (entry.changes (r - 1) f (omega arith)) ∙ ch);
                from = x.from;
                within = x.within;
                owed = way_grows entry facts.numbers (omega arith) x.owed;
                barred = λ f i l maps.
                    let cut = entry.cuts (r - 1) (omega arith) in
                    x.barred f i l (sym (entry.maps (cut_of cuts (length es) (r - 1)) f i (facts.numbers.cuts (r - 1))) ∙ ap (λ n. o.model.maps (tree_after o.model (es ++ e ∷ []) n) f i) (sym cut) ∙ maps);
              }

      -- the pages, the running transaction and the volume after it
      pub entry_keeps :
          ImagesFacts o Stands (es ++ e ∷ []) cuts s r (without_all (with_all touched d.blocks) d.revoked) (with_all revoked d.revoked) (with_all changed d.nodes) phase w
          (written_pages o.model o.setup w (length es + 1) (dropped_pages o.model o.setup pages d.dropped) d.pages) N
      entry_keeps =
          let before = plain_at es cuts s v (length es) journal reserved facts.stands in
          let after = plain_at (es ++ e ∷ []) cuts s w (length es + 1) journal reserved stands in
          let trees = trees_noted o.model contract.trees o.place (es ++ e ∷ []) cuts rises in
          record {
            counted = facts.counted;
            closed = facts.closed;
            rise = rises;
            stands = subst (λ n. Stands w (tree_after o.model (es ++ e ∷ []) n)) grown stands;
            numbers = subst (λ n. Numbers (noted_history o Stands (es ++ e ∷ []) cuts) s n r N) grown (numbers_grow entry facts.numbers);
            present = present_changed entry facts.numbers trees before after told touched facts.present;
            bodies = bodies_changed entry facts.numbers trees before after told touched revoked facts.bodies;
            plan_revokes = plan_revokes_changed entry facts.numbers trees before after told facts.plan_revokes;
            alike = λ k lt.
                let x = facts.alike k lt in
                (x.0, subst (λ t. Stands x.0 t) (sym (tree_old o.model es e (cut_of cuts (length es) k) (facts.numbers.cuts k)) ∙ ap (tree_after o.model (es ++ e ∷ [])) (sym (entry.cuts k lt))) x.1, x.2);
            places = subst (λ n. KeepsPlaces o.program (noted_history o Stands (es ++ e ∷ []) cuts) s n r (view_of o w)) grown (places_changed entry facts.numbers trees before after told facts.places);
            mapped = subst (λ n. PagesMapped (noted_history o Stands (es ++ e ∷ []) cuts) n (view_of o w) (written_pages o.model o.setup w (length es + 1) (dropped_pages o.model o.setup pages d.dropped) d.pages)) grown
                (pages_changed entry facts.numbers trees before after told o.model o.setup w (λ b. refl) pages facts.mapped);
            rising = written-rising o.model o.setup w (length es + 1) (dropped_pages o.model o.setup pages d.dropped) d.pages (dropped-rising o.model o.setup pages d.dropped facts.rising);
            sent = sent_changed entry facts.numbers trees before after told o.model o.setup w (λ b. refl) pages facts.sent;
            zones = subst (λ n. ZoneHistory (noted_history o Stands (es ++ e ∷ []) cuts) s n N (view_of o w)) grown (history_changed entry facts.numbers trees before after told facts.zones);
            opened = subst (λ n. OpenedZones o.program (noted_history o Stands (es ++ e ∷ []) cuts) s n r N (view_of o w) (with_all revoked d.revoked)) grown (opened_changed entry facts.numbers trees before after told revoked facts.opened);
            altered = altered_changed entry facts.numbers trees before after told touched changed
                (λ f ch. ⊎_elim inl (λ new. inr (nodes f new)) (changes_noted o.model es e o.place cuts r facts.closed facts.numbers.cuts f ch)) facts.altered;
            in_phase = phase_stays facts.in_phase;
          }
