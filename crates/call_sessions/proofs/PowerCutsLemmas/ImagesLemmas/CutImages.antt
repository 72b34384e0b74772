-- What a power cut leaves of a session on an image that was made: volume and journal are found, the log is read, and recovery
-- and mounting find no fault.
use Rattle.std.specs.Prelude.{◌≡◌, ◌≢◌, ℕ, suc, ◌+◌, ◌-◌, ◌^◌, ◌<◌, ◌≤◌, ◌==◌, if◌then◌else◌, Bool, true, List, [], ◌∷◌, map, length, replicate, slice_get, None, Result, Ok, Err, refl}
use Rattle.std.specs.List.{range_with_len}
use Rattle.std.proofs.Common.{sym, ap, subst, ◌∙◌, inr, ⊎_elim, arith, eq-eqb}
use Rattle.std.proofs.lemmas.Bool.{cases_lt, ne_eqb}
use Rattle.std.proofs.lemmas.List.{get_or-take}
use Rattle.blk_base.specs.Block.{filled}
use Rattle.blk_base.specs.Members.{In}
use Rattle.blk_base.specs.laws.Members.{In-append_cases, slice_get-append_right, slice_get-in_range, slice_get-length, slice_get-replicate}
use Rattle.byte_fields.specs.Fields.{number_at, number_of}
use Rattle.minix_layout.specs.declared.division.Geometry.{Geometry}
use Rattle.minix_layout.specs.Geometry.{IsSound}
use Rattle.order_model.specs.declared.note.Note.TheVariants.{Super, Home}
use Rattle.order_model.specs.OrderClosed.{IsOrderClosed}
use Rattle.log_model.specs.Log as model
use Rattle.log_model.specs.Log.{Plain, done, take_blocks, from_sequence}
use Rattle.log_model.specs.Marks.{Transaction, body_after, replayed}
use Rattle.log_model.specs.Ring.{Ring, IsPlace, places_in, places_from}
use Rattle.log_model.proofs.Ring.{places_on-place}
use Rattle.journal_blocks.specs.declared.super_block.JournalSuper.{JournalSuper}
use Rattle.journal_blocks.specs.Header.{magic_of}
use Rattle.journal_blocks.specs.Log.{log_of, places, IsFaulty}
use Rattle.journal_blocks.specs.Readers.{format, header_of, tail_of, ring_of}
use Rattle.journal_blocks.specs.Super.{super_block, super_of, is_wide, has_places, IsSound as IsSoundSuper}
use Rattle.journal_blocks.specs.laws.Logs.{fault_there}
use Rattle.journal_blocks.specs.laws.Readers.{same_log}
use Rattle.journal_blocks.specs.laws.Supers.{read_parts, super_read}
use Rattle.journal_replay.specs.Recovered.{transactions_of, fault_of, log_mark, emptied, recovered}
use Rattle.journal_replay.specs.laws.Attempts.{body_at-some, recovered-empty, recovered-full}
use Rattle.journal_replay.specs.laws.Recoveries.{none_from, start_within, fault-log, transactions-full, transactions-empty, fault-full, fault-empty}
use Rattle.tree_model.specs.declared.call.Reply.{Reply}
use Rattle.tree_model.specs.declared.node.Node.{Node}
use Rattle.tree_model.specs.Trees.{AreAlike}
use Rattle.volume_ops.specs.Volume.{VolumeState, disk_of}
use Rattle.volume_ops.specs.Walk.{walk_volume}
use Rattle.volume_ops.specs.laws.ReadsLaws.{err-ok}
use Rattle.volume_ops.proofs.TreeUnique.{walked_tree}
use Rattle.volume_steps.specs.Now.{VolumeNow}
use Rattle.volume_steps.proofs.GoneFiles.{in_from}
use Rattle.crash_laws.specs.Found.{found, IsFound}
use Rattle.crash_laws.specs.Recovery.{IsRecovered}
use Rattle.crash_laws.specs.Rules.{OrderRules}
use Rattle.crash_laws.specs.Session.{Session, Medium, IsSuperOf, log_blocks, log_blocks_below, first_place, body_at as body_in}
use Rattle.crash_laws.proofs.Commits.{kept_commits_are_prefix, log_note}
use Rattle.crash_laws.proofs.Faults.{superblock_known}
use Rattle.crash_laws.proofs.Ordering.{same_block, origin_or_base, body_of_origin}
use Rattle.crash_laws.proofs.Origins.{put_of_volume, put_of_log}
use Rattle.crash_laws.proofs.Superblocks.{written_body}
use Rattle.host_machine.specs.State.{Host}
use Rattle.host_machine.specs.laws.Contract.{session}
use Rattle.minix_host.specs.ByteCalls.{ByteCall}
use Rattle.minix_host.specs.Runs.{HasTreeLike, KeepsSession, tree_after_transactions}
use Rattle.tree_model.proofs.PlainTrees.{new_born}
use Rattle.minix_host.specs.Sessions.{Opening, over, Stands}
use Rattle.minix_host.proofs.RealJournal.{no_header}
use Rattle.minix_host.proofs.SessionsKept.{session_kept}
use Rattle.mount_make.specs.Images.{FaultPlace, divided, has_journal, fault_in_journal, recovered_from, volume_in, mounted, recovered_by, recovered_image, tree_after, image_tree}
use Rattle.mount_make.specs.Made.{new_journal, made_volume, made_image}
use Rattle.mount_make.specs.laws.ImageLaws.{image_has_tree}
use Rattle.mount_make.specs.laws.Recovering.{is_super, has_super, emptied-at, found_fine, found_recovered, same_divided}
use Rattle.mount_make.proofs.Filling.{length-made, length-image, get_journal}
use Rattle.mount_make.proofs.MadeImages.{made_kind, sound_journal}
use Rattle.call_sessions.specs.made.MadeSessions.{made_opening, made_ring}
use Rattle.host_machine.proofs.RunsLemmas.Numbers.{commit_far}
use Rattle.call_sessions.proofs.PowerCutsLemmas.ImagesLemmas.JournalSupers.{IsClean, places_fit, super_as, tail_is, ring_by, range_in, not_faulty, clean_by}
use Rattle.call_sessions.proofs.PowerCutsLemmas.ImagesLemmas.ReadableRuns.{IsKeptRun}
use Rattle.call_sessions.proofs.PowerCutsLemmas.ImagesLemmas.ReadableSteps.{sent_body}

blank_magic : magic_of (filled 0) ≢ 0xC03B3998
unfolding filled number_at number_of
blank_magic e = absurd (omega arith)

-- ---- the journal superblock of a medium

pub record HasSuper (g : Geometry) (journal : ℕ) (wide : Bool) (image : List (List ℕ)) : Type 0 where
  pub fields : JournalSuper
  pub read : super_of (disk_of image g.zones) ≡ Ok fields
  pub maxlen : fields.maxlen ≡ journal
  pub first : fields.first ≡ 1
  pub kind : is_wide fields ≡ wide
  pub room : fields.sequence + journal < 2 ^ 32

module _ (g : Geometry) (sound : IsSound g) (journal : ℕ) (wide : Bool) (low : 128 ≤ journal) (high : journal ≤ 16384) (quota limit : ℕ) (few : limit + journal < 4294967296) where
  abbrev o : Opening
  o = made_opening g journal wide quota

  abbrev base : List (List ℕ)
  base = made_image g journal wide

  zones_low : 1 < g.first
  zones_low = let b = sound.tables_below in omega arith

  zones_high : g.first < g.zones
  zones_high = sound.some_zone

  -- ---- the image that was made

  base_long : length base ≡ g.zones + journal
  base_long = length-image g journal wide (omega arith)

  base_super : disk_of base g.zones ≡ super_block (new_journal journal wide)
  base_super = body_at-some base g.zones (super_block (new_journal journal wide)) (get_journal g journal wide)

  base_log : (p : ℕ) → 1 ≤ p → p < journal → disk_of base (g.zones + p) ≡ filled 0
  base_log p some less =
      let size = length-made g in
      let rest : List (List ℕ) = super_block (new_journal journal wide) ∷ replicate (journal - 1) (filled 0) in
      let at : g.zones + p - length (made_volume g) ≡ suc (p - 1) = omega arith in
      body_at-some base (g.zones + p) (filled 0)
      (slice_get-append_right (made_volume g) rest (g.zones + p) (omega arith) ∙ (ap (slice_get rest) at ∙ slice_get-replicate (journal - 1) (p - 1) (filled 0) (omega arith)))

  module _ (h : Host VolumeNow ByteCall Reply) (kept : IsKeptRun o (made_ring journal) limit h) (m : Medium) (closed : IsOrderClosed base h.journal.flush.requests m.image m.origins) where
    abbrev txs : List Transaction
    txs = kept.sound.rules.0

    abbrev sess : Session
    sess = session (over o) (Stands o) txs h

    rules : OrderRules (walk_volume g) sess
    rules = kept.sound.rules.2.rules.order

    is_found : IsFound sess m (found sess m)
    is_found = kept_commits_are_prefix closed rules.fits rules.commits

    -- the kept commit blocks, whatever is told of the transactions
    pub cut_found : (ts : List Transaction) → IsFound (session (over o) (Stands o) ts h) m (found (session (over o) (Stands o) ts h) m)
    cut_found ts = record { reached = is_found.reached; there = is_found.there }

    long : length m.image ≡ g.zones + journal
    long = closed.blocks ∙ base_long

    -- ---- the volume is found

    -- nobody writes the superblock of the volume
    super_stays : disk_of m.image 1 ≡ disk_of base 1
    super_stays =
        let lo = zones_low in
        let hi = zones_high in
        ⊎_elim
        (λ written.
        let put = closed.block_of 1 written.0 written.1 in
        ⊎_elim
        (λ page.
        let p = rules.fits.page written.0 page.0 page.1 page.2 page.3 in
        absurd (p.3 (subst (λ c. In c sess.reserved) (same_block sess.requests written.0 1 p.0 put p.1) (inr (in_from 0 g.first 1 (omega arith) (omega arith))))))
        (λ home. absurd (let two : 2 ≤ 1 = sent_body kept.readable written.0 (Home 1) home in omega arith))
        (put_of_volume rules.fits rules.images written.0 1 (omega arith) put))
        (λ same. same)
        (origin_or_base closed 1)

    pub cut_divided : divided base ≡ Ok g → divided m.image ≡ Ok g
    cut_divided is = same_divided base m.image closed.blocks super_stays ∙ is

    -- ---- the journal is found

    pub cut_super : HasSuper g journal wide m.image
    cut_super =
        ⊎_elim
        (λ same. record {
          fields = new_journal journal wide;
          read = ap super_of (same ∙ base_super) ∙ super_read (new_journal journal wide) sound_super;
          maxlen = refl;
          first = refl;
          kind = made_kind journal wide;
          room = omega arith;
        })
        (λ x. written_super x.0 x.1 x.2 x.3)
        (superblock_known rules closed is_found)
      where
        sound_super : IsSoundSuper (new_journal journal wide)
        sound_super = sound_journal journal wide (omega arith) (omega arith)

        written_super : (i freed : ℕ) → IsSuperOf sess i freed → disk_of m.image g.zones ≡ body_in sess i → HasSuper g journal wide m.image
        written_super i freed is at =
            let w = sent_body kept.readable i Super is.note in
            let start = first_place sess (freed + 1) in
            let place : IsPlace (ring_of (new_journal journal wide)) start = subst (λ r. IsPlace r start) kept.places_are (places_on-place sess.ring (length (log_blocks_below (freed + 1) (log_blocks sess))) sess.head rules.log.head) in
            let lo = place.0 in
            let hi = place.1 in
            let tail : tail_of (super_block (record (new_journal journal wide) { sequence = w.0; start = w.1 })) ≡ record { sequence = 1 + freed; start = start } = ap tail_of (sym w.2) ∙ is.fields in
            let behind = slice_get-length h.journal.flush.notes i Super is.note in
            let counted = kept.readable.counted in
            let room = kept.sound.room in
            let most = kept.limit_is in
            let far : freed ≤ i = ⊎_elim
            (λ some.
            let c = rules.checkpoints.behind i freed is some in
            let far = commit_far {s = sess} rules.commits freed c.0 c.1 in
            let lt = c.2 in
            omega arith)
            (λ none. omega arith)
            (cases_lt 0 freed) in
            record {
              fields = record (new_journal journal wide) { sequence = 1 + freed; start = start };
              read = ap super_of (at ∙ w.2) ∙ super_as (record (new_journal journal wide) { sequence = w.0; start = w.1 }) (1 + freed) start (omega arith) (omega arith) sound_super.fits.incompat tail sound_super.known
                  (places_fit (record (new_journal journal wide) { sequence = 1 + freed; start = start }) (omega arith) (omega arith) (λ some. place));
              maxlen = refl;
              first = refl;
              kind = made_kind journal wide;
              room = omega arith;
            }

    within : g.zones < length m.image
    within = let size = long in omega arith

    pub cut_has_journal : has_journal g.zones m.image ≡ true
    cut_has_journal = has_super g.zones m.image within (is_super (disk_of m.image g.zones) cut_super.fields cut_super.read)

    -- ---- the log

    module _ (f : HasSuper g journal wide m.image) where
      abbrev s : JournalSuper
      s = f.fields

      ring_is : ring_of s ≡ ring_of (new_journal journal wide)
      ring_is = ring_by s.first s.maxlen 1 journal f.first f.maxlen

      parts_places : has_places s ≡ true
      parts_places = (read_parts (disk_of m.image g.zones) s f.read).5

      tail_read : (format wide).tail (disk_of m.image g.zones) ≡ record { sequence = s.sequence; start = s.start }
      tail_read = tail_is wide (disk_of m.image g.zones) s (read_parts (disk_of m.image g.zones) s f.read).3

      -- the log that is read where it has this start
      log_from : (r : Ring) → model.log_of (format wide) r g.zones (disk_of m.image)
          ≡ (if s.start == 0 then [] else done (take_blocks (format wide) (from_sequence s.sequence) (map (λ p. disk_of m.image (g.zones + p)) (places_from r (places_in r) s.start))))
      log_from r =
          ap (λ (t : model.Tail). if t.start == 0 then [] else done (take_blocks (format wide) (from_sequence t.sequence) (map (λ p. disk_of m.image (g.zones + p)) (places_from r (places_in r) t.start)))) tail_read

      log_empty : s.start ≡ 0 → model.log_of (format wide) (ring_of (new_journal journal wide)) g.zones (disk_of m.image) ≡ []
      log_empty none =
          log_from (ring_of (new_journal journal wide))
          ∙ ap (λ (b : Bool). if b then [] else done (take_blocks (format wide) (from_sequence s.sequence) (map (λ p. disk_of m.image (g.zones + p)) (places_from (ring_of (new_journal journal wide)) (places_in (ring_of (new_journal journal wide))) s.start)))) (eq-eqb s.start 0 none)

      log_full : s.start ≢ 0 → (log_of g.zones s m.image).done ≡ model.log_of (format wide) (ring_of (new_journal journal wide)) g.zones (disk_of m.image)
      log_full some =
          let at = start_within s parts_places some in
          let lo = at.0 in
          let hi = at.1 in
          let one = f.first in
          let all = f.maxlen in
          let room = f.room in
          sym (same_log g.zones s m.image f.read lo hi (omega arith) (omega arith))
          ∙ ap (λ kind. model.log_of (format kind) (ring_of s) g.zones (disk_of m.image)) f.kind
          ∙ ap (λ r. model.log_of (format wide) r g.zones (disk_of m.image)) ring_is

      by_start : {P : Type 0} → (s.start ≡ 0 → P) → (s.start ≢ 0 → P) → P
      by_start p q = ⊎_elim (λ some. q (λ e. omega arith)) (λ none. p (omega arith)) (cases_lt 0 s.start)

      pub cut_log : transactions_of g.zones s m.image ≡ model.log_of (format wide) (ring_of (new_journal journal wide)) g.zones (disk_of m.image)
      cut_log =
          by_start
          (λ none. transactions-empty g.zones s m.image none ∙ sym (log_empty none))
          (λ some. transactions-full g.zones s m.image some ∙ log_full some)

      pub cut_log_empty : s.start ≡ 0 → (transactions_of g.zones s m.image ≡ []) × (model.log_of (format wide) (ring_of (new_journal journal wide)) g.zones (disk_of m.image) ≡ [])
      cut_log_empty none = (transactions-empty g.zones s m.image none, log_empty none)

      -- ---- no fault

      -- each block of the log is one that was written, or blank
      block_fine : (p : ℕ) → 1 ≤ p → p < journal → IsFaulty wide g.zones (disk_of m.image (g.zones + p)) → ⊥
      block_fine p some less faulty =
          ⊎_elim
          (λ written.
          let at = written.0 in
          let l = put_of_log rules.fits rules.images at p some (closed.block_of (g.zones + p) at written.1) in
          let n = log_note sess l.0 at l.1 in
          let body = written_body sess at (disk_of m.image (g.zones + p)) (body_of_origin closed (g.zones + p) at written.1) in
          let clean = clean_by wide (over o).setup.writers g.zones 1 l.0 n.0 (body_in sess at) n.2 (rules.log.header at n.0 n.1) (sent_body kept.readable at n.0 n.1) in
          not_faulty wide g.zones (disk_of m.image (g.zones + p)) (subst (λ b. IsClean g.zones (header_of wide b)) body clean) faulty)
          (λ old.
          let blank : header_of wide (disk_of m.image (g.zones + p)) ≡ Plain = ap (header_of wide) (old ∙ base_log p some less) ∙ no_header wide (filled 0) blank_magic in
          not_faulty wide g.zones (disk_of m.image (g.zones + p)) (subst (IsClean g.zones) (sym blank) tt) faulty)
          (origin_or_base closed (g.zones + p))

      place_in : s.start ≢ 0 → (p : ℕ) → In p (places s) → (1 ≤ p) × (p < journal)
      place_in some p i =
          let at = start_within s parts_places some in
          let lo = at.0 in
          let hi = at.1 in
          let one = f.first in
          let all = f.maxlen in
          ⊎_elim
          (λ j. let r = range_in s.start (s.maxlen - s.start) p j in let a = r.0 in let b = r.1 in (omega arith, omega arith))
          (λ j. let r = range_in s.first (s.start - s.first) p j in let a = r.0 in let b = r.1 in (omega arith, omega arith))
          (In-append_cases (range_with_len s.start (s.maxlen - s.start)) (range_with_len s.first (s.start - s.first)) p i)

      log_fine : s.start ≢ 0 → (log_of g.zones s m.image).fault ≡ None
      log_fine some =
          none_from (log_of g.zones s m.image).fault
          (λ at e.
          let x = fault_there g.zones s m.image at e in
          let p = place_in some x.0 x.1 in
          block_fine x.0 p.0 p.1 (subst (λ b. IsFaulty wide g.zones (disk_of m.image b)) (sym x.2) (subst (λ kind. IsFaulty kind g.zones (disk_of m.image at)) f.kind x.3)))

      no_fault : fault_of g.zones s m.image ≡ None
      no_fault =
          by_start
          (λ none. fault-empty g.zones s m.image none)
          (λ some. fault-full g.zones s m.image some ∙ log_fine some)

      pub cut_fine : fault_in_journal g.zones m.image ≡ None
      cut_fine =
          let size = long in
          let all = f.maxlen in
          found_fine g.zones m.image within (is_super (disk_of m.image g.zones) s f.read) (fault-log g.zones m.image s None f.read (omega arith) no_fault)

      -- ---- what is recovered

      recovered_at : (b : ℕ) → b < g.zones → disk_of (recovered g.zones m.image) b ≡ replayed (model.log_of (format wide) (ring_of (new_journal journal wide)) g.zones (disk_of m.image)) (disk_of m.image) b
      recovered_at b below =
          by_start
          (λ none.
          ap (λ i. disk_of i b) (recovered-empty g.zones m.image s f.read (eq-eqb s.start 0 none))
          ∙ ap (λ txs. replayed txs (disk_of m.image) b) (sym (log_empty none)))
          (λ some.
          let size = long in
          let a = slice_get-in_range m.image b (omega arith) in
          ap (λ i. disk_of i b) (recovered-full g.zones m.image s f.read (ne_eqb s.start 0 some))
          ∙ (body_at-some (emptied g.zones s m.image) b (body_after (log_mark g.zones s m.image b) a.0) (emptied-at g.zones m.image s b a.0 (λ e. omega arith) a.1)
          ∙ (ap (body_after (log_mark g.zones s m.image b)) (sym (body_at-some m.image b a.0 a.1))
          ∙ ap (λ txs. replayed txs (disk_of m.image) b) (log_full some))))

      is_recovered : recovered_from g.zones m.image ≡ recovered g.zones m.image
      is_recovered = found_recovered g.zones m.image within (is_super (disk_of m.image g.zones) s f.read)

      same_ring : model.log_of (format wide) (ring_of (new_journal journal wide)) g.zones (disk_of m.image) ≡ model.log_of (format wide) h.journal.ring.places g.zones (disk_of m.image)
      same_ring = ap (λ r. model.log_of (format wide) r g.zones (disk_of m.image)) (sym kept.places_are)

      -- for whatever is told of its transactions
      pub cut_recovered : divided base ≡ Ok g → (ts : List Transaction) → IsRecovered (session (over o) (Stands o) ts h) m (disk_of (recovered_image m.image))
      cut_recovered is ts b below =
          ap (λ i. disk_of i b) (ap (recovered_by m.image) (cut_divided is) ∙ is_recovered)
          ∙ (recovered_at b below ∙ ap (λ txs. replayed txs (disk_of m.image) b) same_ring)

      volume_recovered : IsRecovered sess m (disk_of (volume_in g m.image))
      volume_recovered b below =
          get_or-take g.zones (recovered_from g.zones m.image) b (filled 0) below
          ∙ (ap (λ i. disk_of i b) is_recovered
          ∙ (recovered_at b below ∙ ap (λ txs. replayed txs (disk_of m.image) b) same_ring))

      -- ---- its tree

      session_keeps : KeepsSession o h
      session_keeps = session_kept o (new_born g.width) h kept.sound

      pub tree_like : HasTreeLike o (volume_in g m.image) (tree_after_transactions o h (found sess m))
      tree_like = session_keeps.trees m (volume_in g m.image) closed volume_recovered

      mounted_by : (tree : List (ℕ × Node)) (r : Result VolumeState FaultPlace) → tree_after r ≡ Ok tree → (v : VolumeState) × (r ≡ Ok v)
      mounted_by tree (Ok v) e = (v, refl)
      mounted_by tree (Err told) e = absurd (err-ok told tree e)

      pub cut_tree : divided base ≡ Ok g → image_tree m.image ≡ Ok tree_like.tree
      cut_tree is =
          (image_has_tree m.image tree_like.tree).1
          (record {
            geometry = g;
            is_divided = cut_divided is;
            journal = cut_fine;
            tree_is = walked_tree g (volume_in g m.image) tree_like.tree sound.some_inode tree_like.found;
          })

      pub cut_mounts : divided base ≡ Ok g → (v : VolumeState) × (mounted m.image ≡ Ok v)
      cut_mounts is = mounted_by tree_like.tree (mounted m.image) (cut_tree is)

      pub cut_alike : AreAlike (tree_after_transactions o h (found sess m)) tree_like.tree
      cut_alike = tree_like.alike
