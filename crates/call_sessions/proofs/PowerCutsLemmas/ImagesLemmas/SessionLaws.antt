-- The laws of session images, for a session that is opened on an image that was made.
use Rattle.std.specs.Prelude.{◌≡◌, true, List, [], None, Ok}
use Rattle.std.proofs.Common.{sym, subst, ◌∙◌, arith}
use Rattle.log_model.specs.Marks.{Transaction}
use Rattle.journal_blocks.specs.declared.super_block.JournalSuper.{JournalSuper}
use Rattle.journal_blocks.specs.Readers.{format, ring_of}
use Rattle.journal_blocks.specs.Super.{super_of, is_wide}
use Rattle.journal_blocks.specs.laws.Supers.{read_parts}
use Rattle.journal_replay.specs.Recovered.{transactions_of}
use Rattle.tree_model.specs.Calls.{Tree}
use Rattle.tree_model.specs.Trees.{AreAlike}
use Rattle.volume_ops.specs.Volume.{VolumeState, disk_of}
use Rattle.volume_ops.specs.laws.ReadsLaws.{same_Ok}
use Rattle.volume_steps.specs.Plain.{IsPlainNow}
use Rattle.volume_steps.specs.NewNow.{new_now}
use Rattle.crash_laws.specs.Found.{IsFound}
use Rattle.crash_laws.specs.Recovery.{IsRecovered}
use Rattle.crash_laws.specs.Session.{Medium}
use Rattle.host_machine.specs.runs.Runs.{Event}
use Rattle.tree_model.proofs.PlainTrees.{new_born}
use Rattle.minix_host.proofs.RealJournal.{kind_written}
use Rattle.minix_host.proofs.SessionsKept.{session_kept}
use Rattle.mount_make.specs.Images.{divided, has_journal, fault_in_journal, mounted, recovered_image, image_tree}
use Rattle.mount_make.specs.Made.{new_journal, made_image}
use Rattle.mount_make.proofs.MadeImages.{made_kind}
use Rattle.call_sessions.specs.made.MadeSessions.{made_now, made_opening, made_ring}
use Rattle.call_sessions.proofs.MadeLemmas.MadeJournal.{made_opened, made_empty}
use Rattle.call_sessions.specs.power_cuts.images.SessionImages.{Start, HasSizes, host_of, IsCutOf, submitted, log_on, kept_transactions, kept_tree, HoldsKept}
use Rattle.call_sessions.proofs.PowerCutsLemmas.ImagesLemmas.CutImages.{HasSuper, cut_divided, cut_super, cut_has_journal, cut_log, cut_log_empty, cut_fine, cut_recovered, cut_tree, cut_mounts, cut_alike, cut_found}
use Rattle.call_sessions.proofs.PowerCutsLemmas.ImagesLemmas.JournalSupers.{tail_is, ring_by}
use Rattle.call_sessions.proofs.PowerCutsLemmas.ImagesLemmas.ReadableRuns.{IsKeptRun, run_kept}

module _ (s : Start) (sizes : HasSizes s) (new : IsPlainNow (new_now s.geometry)) (events : List Event) where
  pub kept_run : IsKeptRun (made_opening s.geometry s.journal s.wide s.quota) (made_ring s.journal) s.limit (host_of s events)
  kept_run =
      let words = sizes.words in
      let least = sizes.least in
      run_kept (made_opening s.geometry s.journal s.wide s.quota) (made_now s.geometry) (made_ring s.journal) s.limit s.programs (kind_written (new_journal s.journal s.wide) s.wide (made_kind s.journal s.wide))
      (made_opened s.geometry sizes.sound s.journal s.wide sizes.least sizes.most s.quota new)
      (made_empty s.geometry sizes.sound s.journal s.wide sizes.least sizes.most s.quota new s.limit (omega arith)) events

  module _ (m : Medium) (cut : IsCutOf s events m) (made : divided (made_image s.geometry s.journal s.wide) ≡ Ok s.geometry) where
    pub is_divided : divided m.image ≡ Ok s.geometry
    is_divided = cut_divided s.geometry sizes.sound s.journal s.wide sizes.least sizes.most s.quota s.limit sizes.words (host_of s events) kept_run m cut made

    pub found_super : HasSuper s.geometry s.journal s.wide m.image
    found_super = cut_super s.geometry sizes.sound s.journal s.wide sizes.least sizes.most s.quota s.limit sizes.words (host_of s events) kept_run m cut

    pub found_journal : has_journal s.geometry.zones m.image ≡ true
    found_journal = cut_has_journal s.geometry sizes.sound s.journal s.wide sizes.least sizes.most s.quota s.limit sizes.words (host_of s events) kept_run m cut

    pub found_ring : ring_of found_super.fields ≡ ring_of (new_journal s.journal s.wide)
    found_ring = ring_by found_super.fields.first found_super.fields.maxlen 1 s.journal found_super.first found_super.maxlen

    pub found_tail : (format s.wide).tail (disk_of m.image s.geometry.zones) ≡ record { sequence = found_super.fields.sequence; start = found_super.fields.start }
    found_tail = tail_is s.wide (disk_of m.image s.geometry.zones) found_super.fields (read_parts (disk_of m.image s.geometry.zones) found_super.fields found_super.read).3

    one_super : (j : JournalSuper) → super_of (disk_of m.image s.geometry.zones) ≡ Ok j → found_super.fields ≡ j
    one_super j read = same_Ok found_super.fields j (sym found_super.read ∙ read)

    pub found_kind : (j : JournalSuper) → super_of (disk_of m.image s.geometry.zones) ≡ Ok j → is_wide j ≡ s.wide
    found_kind j read = subst (λ k. is_wide k ≡ s.wide) (one_super j read) found_super.kind

    pub same_log : (j : JournalSuper) → super_of (disk_of m.image s.geometry.zones) ≡ Ok j → transactions_of s.geometry.zones j m.image ≡ log_on s m
    same_log j read =
        subst (λ k. transactions_of s.geometry.zones k m.image ≡ log_on s m) (one_super j read)
        (cut_log s.geometry sizes.sound s.journal s.wide sizes.least sizes.most s.quota s.limit sizes.words (host_of s events) kept_run m cut found_super)

    pub empty_log : (j : JournalSuper) → super_of (disk_of m.image s.geometry.zones) ≡ Ok j → j.start ≡ 0 → (transactions_of s.geometry.zones j m.image ≡ []) × (log_on s m ≡ [])
    empty_log j read =
        subst (λ (k : JournalSuper). k.start ≡ 0 → (transactions_of s.geometry.zones k m.image ≡ []) × (log_on s m ≡ [])) (one_super j read)
        (cut_log_empty s.geometry sizes.sound s.journal s.wide sizes.least sizes.most s.quota s.limit sizes.words (host_of s events) kept_run m cut found_super)

    pub no_fault : fault_in_journal s.geometry.zones m.image ≡ None
    no_fault = cut_fine s.geometry sizes.sound s.journal s.wide sizes.least sizes.most s.quota s.limit sizes.words (host_of s events) kept_run m cut found_super

    pub recovers : IsRecovered (submitted s events) m (disk_of (recovered_image m.image))
    recovers = cut_recovered s.geometry sizes.sound s.journal s.wide sizes.least sizes.most s.quota s.limit sizes.words (host_of s events) kept_run m cut found_super made []

    pub mounts : (v : VolumeState) × (mounted m.image ≡ Ok v)
    mounts = cut_mounts s.geometry sizes.sound s.journal s.wide sizes.least sizes.most s.quota s.limit sizes.words (host_of s events) kept_run m cut found_super made

    pub shows_a_prefix : (tree : Tree) × (image_tree m.image ≡ Ok tree) × AreAlike (kept_tree s events m) tree
    shows_a_prefix = (
      _,
      cut_tree s.geometry sizes.sound s.journal s.wide sizes.least sizes.most s.quota s.limit sizes.words (host_of s events) kept_run m cut found_super made,
      cut_alike s.geometry sizes.sound s.journal s.wide sizes.least sizes.most s.quota s.limit sizes.words (host_of s events) kept_run m cut found_super,
    )

    pub kept_first : IsFound (submitted s events) m (kept_transactions s events m)
    kept_first = cut_found s.geometry sizes.sound s.journal s.wide sizes.least sizes.most s.quota s.limit sizes.words (host_of s events) kept_run m cut []

    pub holds_kept : (closed : List Transaction) × HoldsKept s events m (disk_of (recovered_image m.image)) closed
    holds_kept =
        let keeps = session_kept (made_opening s.geometry s.journal s.wide s.quota) (new_born s.geometry.width) (host_of s events) kept_run.sound in (
          keeps.closed,
          keeps.sentences.prefix m (disk_of (recovered_image m.image)) cut
              (cut_recovered s.geometry sizes.sound s.journal s.wide sizes.least sizes.most s.quota s.limit sizes.words (host_of s events) kept_run m cut found_super made keeps.closed),
        )
