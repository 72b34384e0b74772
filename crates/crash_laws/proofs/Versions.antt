-- What the blocks of files hold on a recovered disk.
use Rattle.std.specs.Prelude.{◌≡◌, ℕ, ◌+◌, ◌-◌, ◌<◌, ◌≤◌, true, List, refl}
use Rattle.std.proofs.Common.{sym, ap, subst, ◌∙◌, ⊎_elim, arith}
use Rattle.std.proofs.lemmas.Bool.{cases_lt}
use Rattle.blk_base.specs.Members.{In}
use Rattle.order_model.specs.OrderClosed.{IsOrderClosed}
use Rattle.volume_ops.specs.Volume.{disk_of}
use Rattle.volume_ops.specs.Reads.{Reads, answer, blocks_read, AgreeOn}
use Rattle.volume_ops.specs.laws.ReadsLaws.{answer-agrees, blocks_read-agree}
use Rattle.log_model.specs.Marks.{Mark, Keep, Clear, Set, followed, mark_in, body_after, transactions_from, replayed}
use Rattle.log_model.proofs.Marks.{mark-split}
use Rattle.crash_laws.specs.Found.{IsFound}
use Rattle.crash_laws.specs.History.{History, Calm, last_write, HasTrees, IsLastChange}
use Rattle.crash_laws.specs.Ordering.{IsOrderedPut}
use Rattle.crash_laws.specs.PageRules.{place_at, PageOrder, DataBeforeCommit}
use Rattle.crash_laws.specs.Recovery.{IsLogFrom, HasVersion, recovered_disk, IsRecovered}
use Rattle.crash_laws.specs.Rules.{OrderRules}
use Rattle.crash_laws.specs.Session.{Session, Medium, image_of}
use Rattle.crash_laws.proofs.Histories.{calm_nothing, mapped_was_written, cuts_rise, calm_since_change, mapped_since_change}
use Rattle.crash_laws.proofs.LogReads.{log_of_cut_is_tail_to_found}
use Rattle.crash_laws.proofs.Metadata.{found_submitted, metadata_recovered}
use Rattle.crash_laws.proofs.Ordering.{before_kept_is_kept}
use Rattle.crash_laws.proofs.Pages.{page_stays, opened_stays}

module _ {A : Type 0} {program : Reads A} {s : Session} {m : Medium} {F : ℕ} (rules : OrderRules program s) (closed : IsOrderClosed s.base s.requests m.image m.origins) (is_found : IsFound s m F) where
  recovered_by : (b freed : ℕ) → IsLogFrom s m F freed → recovered_disk s m b ≡ replayed (transactions_from s.transactions (1 + freed) (F - freed)) (disk_of m.image) b
  recovered_by b freed from = ap (λ txs. replayed txs (disk_of m.image) b) from.log

  metadata_before_journal : (b : ℕ) → In b (blocks_read (image_of s F) program) → b < s.journal
  metadata_before_journal b read =
      ⊎_elim
      (⊎_elim (rules.base.reserved b) (λ keep. rules.base.freeable b keep.0))
      (λ set. rules.images.bodies F b set.0 (found_submitted rules closed is_found) set.1)
      (rules.images.logged F b (found_submitted rules closed is_found) read)

  module _ {disk : ℕ → List ℕ} (recovers : IsRecovered s m disk) where
    -- The recovered disk has the metadata of the image of F.
    pub recovered_agrees : AgreeOn (blocks_read (image_of s F) program) (image_of s F) disk
    recovered_agrees b read =
        let from = log_of_cut_is_tail_to_found rules closed is_found in
        recovers b (metadata_before_journal b read) ∙ recovered_by b from.0 from.1 ∙ metadata_recovered rules closed is_found from.0 b from.1 read

    -- So the walk finds there what it finds in the image of F, by the same blocks.
    pub walk_recovered : answer disk program ≡ answer (image_of s F) program
    walk_recovered = answer-agrees (image_of s F) disk program recovered_agrees

    pub metadata_blocks_recovered : blocks_read disk program ≡ blocks_read (image_of s F) program
    metadata_blocks_recovered = blocks_read-agree (image_of s F) disk program recovered_agrees

  not_set_at_end : (h t : Mark) → ((x : List ℕ) → followed h t ≡ Set x → ⊥) → (old : List ℕ) → body_after t old ≡ old
  not_set_at_end h Keep none old = refl
  not_set_at_end h Clear none old = refl
  not_set_at_end h (Set x) none old = absurd (none x refl)

  -- Replay passes by a block that has no body in the image of F.
  pub file_blocks_untouched : (b : ℕ) → ((x : List ℕ) → mark_in (transactions_from s.transactions 1 F) b ≡ Set x → ⊥) → recovered_disk s m b ≡ disk_of m.image b
  file_blocks_untouched b none =
      let from = log_of_cut_is_tail_to_found rules closed is_found in
      let freed = from.0 in
      let within = from.1.within in
      let e : F ≡ freed + (F - freed) = omega arith in
      let whole = ap (λ n. mark_in (transactions_from s.transactions 1 n) b) e ∙ mark-split s.transactions freed (F - freed) b in
      recovered_by b freed from.1
      ∙ not_set_at_end (mark_in (transactions_from s.transactions 1 freed) b) (mark_in (transactions_from s.transactions (1 + freed) (F - freed)) b) (λ x set. none x (whole ∙ set)) (disk_of m.image b)

  module _ {disk : ℕ → List ℕ} (recovers : IsRecovered s m disk) {h : History A} (trees : HasTrees h) (pages : PageOrder program h s) where
    -- The walk has a file's page where the image of F has it; and recovery left that block as it was.
    pub place_recovered : (f i : ℕ) → h.place (answer disk program) (h.cut F) f i ≡ place_at program h s F f i
    place_recovered f i = ap (λ a. h.place a (h.cut F) f i) (walk_recovered recovers)

    pub page_block_untouched : (f i : ℕ) → h.maps (h.cut F) f i ≡ true → place_at program h s F f i < s.journal → disk (place_at program h s F f i) ≡ disk_of m.image (place_at program h s F f i)
    page_block_untouched f i there low =
        recovers (place_at program h s F f i) low
        ∙ file_blocks_untouched (place_at program h s F f i) (λ x set. pages.files F f i x (found_submitted rules closed is_found) there set)

    -- the last page that a transaction wrote before its commit block is there, or a later version of it
    last_page_there : DataBeforeCommit program h s → (f i k : ℕ) → 1 ≤ k → h.maps (h.cut F) f i ≡ true → IsLastChange h f F k → h.maps (h.cut k) f i ≡ true → 1 ≤ last_write h f i (h.cut k) → HasVersion program h s m F f i (last_write h f i (h.cut k))
    last_page_there order f i k pos there last before wrote =
        let written = mapped_was_written trees f i (h.cut k) before in
        let c = is_found.there k pos last.within in
        let p = order.sent k c.0 f i c.1 (last.changed pos) before wrote in
        let to = rules.fits.page p.0 f i (last_write h f i (h.cut k)) p.1 in
        let firm : IsOrderedPut s.requests p.0 = record { put = (to.0, to.1); ordered = p.2 } in
        let kept = before_kept_is_kept closed p.0 c.0 firm p.3 c.2 in
        let le = written.within in
        let rise = cuts_rise trees k F last.within in
        let since = calm_since_change trees f i F k last in
        let calm : Calm h f i (last_write h f i (h.cut k)) (h.cut F) =
        λ n lo hi un. ⊎_elim (λ lt. since n lt hi un) (λ ge. written.calm n lo ge un) (cases_lt (h.cut k) n) in
        page_stays rules trees pages closed is_found p.0 f i (last_write h f i (h.cut k)) p.1 kept there calm (calm_nothing f i (h.cut F) (last_write h f i (h.cut k)) (omega arith))

    -- Each block that a file maps after the last transaction found has on the recovered disk a version that is
    -- no older than the last one of the last transaction that changed the file's size or zones.
    pub versions_recovered : DataBeforeCommit program h s → (f i k : ℕ) → h.maps (h.cut F) f i ≡ true → IsLastChange h f F k
        → (t : HasVersion program h s m F f i (last_write h f i (h.cut k))) × (disk (h.place (answer disk program) (h.cut F) f i) ≡ h.content f i t.version)
    versions_recovered order f i k there last =
        let before = sym (mapped_since_change trees f i F k last) ∙ there in
        let written = mapped_was_written trees f i (h.cut k) before in
        let le = written.within in
        let since = calm_since_change trees f i F k last in
        with_place f i k there
        (⊎_elim
        (λ wrote.
        let pos : 1 ≤ k = ⊎_elim (λ p. p) (λ z. let e : k ≡ 0 = omega arith in let cut = ap h.cut e in let first = trees.first in absurd (omega arith)) (cases_lt 0 k) in
        last_page_there order f i k pos there last before wrote)
        (λ none.
        let e : last_write h f i (h.cut k) ≡ 0 = omega arith in
        let calm : Calm h f i 0 (h.cut F) = λ n lo hi un. ⊎_elim (λ lt. since n lt hi un) (λ ge. written.calm n (omega arith) ge un) (cases_lt (h.cut k) n) in
        subst (HasVersion program h s m F f i) (sym e) (opened_stays rules trees pages closed is_found f i (subst (λ n. h.maps n f i ≡ true) e written.there) calm))
        (cases_lt 0 (last_write h f i (h.cut k))))
      where
        with_place : (f i k : ℕ) → h.maps (h.cut F) f i ≡ true → HasVersion program h s m F f i (last_write h f i (h.cut k))
            → (t : HasVersion program h s m F f i (last_write h f i (h.cut k))) × (disk (h.place (answer disk program) (h.cut F) f i) ≡ h.content f i t.version)
        with_place f i k there t = (t, ap disk (place_recovered f i) ∙ page_block_untouched f i there t.low ∙ t.body)
