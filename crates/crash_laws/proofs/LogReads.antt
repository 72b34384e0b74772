-- The log that recovery reads from a medium.
use Rattle.std.specs.Prelude.{◌≡◌, ℕ, zero, suc, ◌+◌, ◌-◌, ◌<◌, ◌≤◌, ◌==◌, ◌⊎◌, List, [], ◌∷◌, ◌++◌, map, length, Option, Some, None, slice_get, if◌then◌else◌, refl}
use Rattle.std.proofs.Common.{sym, ap, subst, ◌∙◌, inl, inr, ⊎_elim, arith, ne_eqb, eq-eqb}
use Rattle.std.proofs.lemmas.Bool.{cases_lt, cond-true, cond-false}
use Rattle.std.proofs.lemmas.Option.{none-some, same_Some}
use Rattle.std.proofs.lemmas.List.{map-append, length-map}
use Rattle.blk_base.specs.Members.{In}
use Rattle.blk_base.specs.laws.Members.{In-map, slice_get-In, slice_get-in_range, map_some-slice_get, IsAscending-places}
use Rattle.order_model.specs.OrderClosed.{IsPutOf, HasOrigin, IsOrderClosed}
use Rattle.volume_ops.specs.Volume.{disk_of}
use Rattle.volume_ops.specs.Reads.{Reads}
use Rattle.log_model.specs.Log.{Tail, Reading, done, take_blocks, log_of}
use Rattle.log_model.specs.Marks.{transactions_from}
use Rattle.log_model.specs.Ring.{places_on, places_from, IsPlace}
use Rattle.log_model.proofs.Log.{Waits, take_blocks-append, nothing_more_done}
use Rattle.log_model.proofs.Ring.{places_on-add, places_from-add, places_on-place, places_from-place, read_places, once_round}
use Rattle.crash_laws.specs.Found.{IsFound}
use Rattle.crash_laws.specs.Recovery.{IsTailOf, IsLogFrom}
use Rattle.crash_laws.specs.Rules.{CommitOrder, OrderRules}
use Rattle.crash_laws.specs.Session.{Session, Medium, IsLog, LogBlock, log_blocks, log_blocks_below, log_blocks_of, bodies_of, body_at, sequence_of, first_place}
use Rattle.crash_laws.proofs.Commits.{commit_below}
use Rattle.crash_laws.proofs.LogBlocks.{IsRising, log_blocks_between, In-between, between-at, In-log_blocks, log_blocks_ascend, rising_by_ids}
use Rattle.crash_laws.proofs.Ordering.{same_origin, body_of_origin, origin_or_base}
use Rattle.crash_laws.proofs.Superblocks.{no_super_no_commit, tail_within_found, log_blocks_intact, no_next_commit_header, written_body}

-- ---- the list of log blocks

pub log_block_is_log : (s : Session) (e : LogBlock) → In e (log_blocks s) → IsLog s e.transaction e.id
log_block_is_log s e h =
    let r = In-log_blocks 0 s.notes e h in
    let at : r.0 ≡ e.id = let q = r.1 in omega arith in
    subst (λ i. IsLog s e.transaction i) at r.2

-- along the submitted list the transactions of log blocks never fall
logs_rise : (s : Session) → CommitOrder s → (k l i j : ℕ) → IsLog s k i → IsLog s l j → i < j → k ≤ l
logs_rise s order k l i j h g lt =
    ⊎_elim
    (λ less.
    let pos = order.numbered l j g in
    let e : k ≡ (k - 1) + 1 = omega arith in
    let b = order.behind (k - 1) i (subst (λ t. IsLog s t i) e h) (omega arith) in
    let c = commit_below order l (k - 1) b.0 b.1 pos (omega arith) in
    let up = b.2 in
    let at = c.2 in
    ⊎_elim
    (λ same. absurd (omega arith))
    (λ fenced. let lo = fenced.1 in let hi = fenced.2 in absurd (omega arith))
    (order.before l j c.0 g c.1))
    (λ le. le)
    (cases_lt l k)

pub log_blocks_rise : (s : Session) → CommitOrder s → IsRising (log_blocks s)
log_blocks_rise s order =
    rising_by_ids (log_blocks s) (log_blocks_ascend 0 s.notes)
    (λ x y i j lt. logs_rise s order x.transaction y.transaction x.id y.id (log_block_is_log s x i) (log_block_is_log s y j) lt)

-- ---- what recovery reads

module _ {A : Type 0} {program : Reads A} {s : Session} {m : Medium} {F : ℕ} (rules : OrderRules program s) (closed : IsOrderClosed s.base s.requests m.image m.origins) (is_found : IsFound s m F) where
  -- reading the blocks of n transactions behind the tail
  blocks_spell : (freed n : ℕ) → freed + n ≤ F
      → take_blocks s.format (Reading (s.sequence + freed) [] [] [] []) (bodies_of s (log_blocks_between (log_blocks s) (1 + freed) n)) ≡ Reading (s.sequence + (freed + n)) [] [] [] (transactions_from s.transactions (1 + freed) n)
  blocks_spell freed zero le =
      let e : freed + zero ≡ freed = omega arith in
      ap (λ q. Reading (s.sequence + q) [] [] [] []) (sym e)
  blocks_spell freed (suc n) le =
      let before = blocks_spell freed n (omega arith) in
      let c = is_found.there (1 + freed + n) (omega arith) (omega arith) in
      let spelled = rules.log.spells (1 + freed + n) c.0 c.1 (transactions_from s.transactions (1 + freed) n) in
      let seq : sequence_of s (1 + freed + n) ≡ s.sequence + (freed + n) = omega arith in
      let next : sequence_of s (1 + freed + n) + 1 ≡ s.sequence + (freed + suc n) = omega arith in
      ap (take_blocks s.format (Reading (s.sequence + freed) [] [] [] [])) (map-append (λ (e : LogBlock). body_at s e.id) (log_blocks_between (log_blocks s) (1 + freed) n) (log_blocks_of (1 + freed + n) (log_blocks s)))
      ∙ take_blocks-append s.format (Reading (s.sequence + freed) [] [] [] []) (bodies_of s (log_blocks_between (log_blocks s) (1 + freed) n)) (bodies_of s (log_blocks_of (1 + freed + n) (log_blocks s)))
      ∙ ap (λ r. take_blocks s.format r (bodies_of s (log_blocks_of (1 + freed + n) (log_blocks s)))) (before ∙ ap (λ q. Reading q [] [] [] (transactions_from s.transactions (1 + freed) n)) (sym seq))
      ∙ spelled
      ∙ ap (λ q. Reading q [] [] [] (transactions_from s.transactions (1 + freed) n ++ s.transactions (1 + freed + n) ∷ [])) next

  -- the log blocks from a tail to F
  abbrev kept_log_blocks : ℕ → List LogBlock
  kept_log_blocks freed = log_blocks_between (log_blocks s) (1 + freed) (F - freed)

  start_is_place : (freed : ℕ) → IsPlace s.ring (first_place s (1 + freed))
  start_is_place freed = places_on-place s.ring (length (log_blocks_below (1 + freed) (log_blocks s))) s.head rules.log.head

  -- each of them stands where it was written
  log_block_held : (freed t : ℕ) (e : LogBlock) → IsTailOf s m F freed → slice_get (kept_log_blocks freed) t ≡ Some e → HasOrigin m.origins (s.journal + places_on s.ring t (first_place s (1 + freed))) e.id
  log_block_held freed t e tail h =
      let a = length (log_blocks_below (1 + freed) (log_blocks s)) in
      let i = In-between (log_blocks s) (1 + freed) (F - freed) e (slice_get-In (kept_log_blocks freed) t e h) in
      let at = between-at (log_blocks s) (1 + freed) (F - freed) t e (log_blocks_rise s rules.commits) h in
      let lo = i.1 in
      let hi = i.2 in
      let within = tail.within in
      log_blocks_intact closed rules.fits rules.commits rules.log rules.checkpoints rules.images rules.base is_found
      freed e.transaction e.id (s.journal + places_on s.ring t (first_place s (1 + freed))) tail (omega arith) (omega arith)
      (log_block_is_log s e i.0)
      (subst (λ p. IsPutOf s.requests e.id (s.journal + p)) (places_on-add s.ring a t s.head) (rules.log.place (a + t) e at))

  log_block_read : (freed t : ℕ) (x : List ℕ) → IsTailOf s m F freed → slice_get (bodies_of s (kept_log_blocks freed)) t ≡ Some x → disk_of m.image (s.journal + places_on s.ring t (first_place s (1 + freed))) ≡ x
  log_block_read freed t x tail h =
      let e = map_some-slice_get (λ (e : LogBlock). body_at s e.id) (kept_log_blocks freed) t x h in
      let b = s.journal + places_on s.ring t (first_place s (1 + freed)) in
      sym (written_body s e.0.id (disk_of m.image b) (body_of_origin closed b e.0.id (log_block_held freed t e.0 tail e.1))) ∙ e.2

  -- so they are no more than the log has places
  fewer : (freed : ℕ) → IsTailOf s m F freed → length (kept_log_blocks freed) ≤ s.ring.past - s.ring.first
  fewer freed tail =
      ⊎_elim
      (λ more.
      let place = start_is_place freed in
      let lo = place.0 in
      let hi = place.1 in
      let x = slice_get-in_range (kept_log_blocks freed) 0 (omega arith) in
      let y = slice_get-in_range (kept_log_blocks freed) (s.ring.past - s.ring.first) more in
      let hx = log_block_held freed 0 x.0 tail x.1 in
      let hy = log_block_held freed (s.ring.past - s.ring.first) y.0 tail y.1 in
      let same = same_origin m.origins (s.journal + first_place s (1 + freed)) x.0.id y.0.id hx (subst (λ p. HasOrigin m.origins (s.journal + p) y.0.id) (once_round s.ring (first_place s (1 + freed)) place) hy) in
      let rise = log_blocks_rise s rules.commits in
      let a = length (log_blocks_below (1 + freed) (log_blocks s)) in
      let less = IsAscending-places (λ (e : LogBlock). e.id) (log_blocks s) (a + 0) (a + (s.ring.past - s.ring.first)) x.0 y.0 (log_blocks_ascend 0 s.notes) (omega arith)
      (between-at (log_blocks s) (1 + freed) (F - freed) 0 x.0 rise x.1) (between-at (log_blocks s) (1 + freed) (F - freed) (s.ring.past - s.ring.first) y.0 rise y.1) in
      absurd (omega arith))
      (λ le. le)
      (cases_lt (s.ring.past - s.ring.first) (length (kept_log_blocks freed)))

  -- reading once round from the tail on
  round_reads : (freed : ℕ) → IsTailOf s m F freed
      → done (take_blocks s.format (Reading (s.sequence + freed) [] [] [] []) (map (λ p. disk_of m.image (s.journal + p)) (places_from s.ring (s.ring.past - s.ring.first) (first_place s (1 + freed))))) ≡ transactions_from s.transactions (1 + freed) (F - freed)
  round_reads freed tail =
      let start = first_place s (1 + freed) in
      let read = λ (p : ℕ). disk_of m.image (s.journal + p) in
      let blocks = bodies_of s (kept_log_blocks freed) in
      let n = length blocks in
      let few = fewer freed tail in
      let same = length-map (kept_log_blocks freed) (λ (e : LogBlock). body_at s e.id) in
      let rest = (s.ring.past - s.ring.first) - n in
      let size : s.ring.past - s.ring.first ≡ n + rest = omega arith in
      let behind = places_on s.ring n start in
      let within = tail.within in
      let end : freed + (F - freed) ≡ F = omega arith in
      let begin = Reading (s.sequence + freed) [] [] [] [] in
      let waits : Waits (s.sequence + F) (transactions_from s.transactions (1 + freed) (F - freed)) (take_blocks s.format begin blocks) =
      subst (Waits (s.sequence + F) (transactions_from s.transactions (1 + freed) (F - freed))) (sym (blocks_spell freed (F - freed) (omega arith)))
      (ap (λ k. s.sequence + k) end, refl) in
      ap (λ k. done (take_blocks s.format begin (map read (places_from s.ring k start)))) size
      ∙ ap (λ ps. done (take_blocks s.format begin (map read ps))) (places_from-add s.ring n rest start)
      ∙ ap (λ bs. done (take_blocks s.format begin bs)) (map-append read (places_from s.ring n start) (places_from s.ring rest behind))
      ∙ ap (λ bs. done (take_blocks s.format begin (bs ++ map read (places_from s.ring rest behind)))) (read_places s.ring read blocks start (λ t x h. log_block_read freed t x tail h))
      ∙ ap done (take_blocks-append s.format begin blocks (map read (places_from s.ring rest behind)))
      ∙ nothing_more_done s.format (s.sequence + F) (transactions_from s.transactions (1 + freed) (F - freed)) (take_blocks s.format begin blocks) (map read (places_from s.ring rest behind))
      (λ b i.
      let p = In-map read (places_from s.ring rest behind) b i in
      let place = places_from-place s.ring rest behind p.0 (places_on-place s.ring n start (start_is_place freed)) p.1 in
      λ reads. no_next_commit_header closed rules.fits rules.commits rules.log rules.checkpoints rules.images rules.base is_found p.0 place (ap s.format.header p.2 ∙ reads))
      waits

  -- the log of a disk, by the fields of its journal superblock
  log_by_tail : (t : Tail) → s.format.tail (disk_of m.image s.journal) ≡ t
      → log_of s.format s.ring s.journal (disk_of m.image) ≡ (if t.start == 0 then [] else done (take_blocks s.format (Reading t.sequence [] [] [] []) (map (λ p. disk_of m.image (s.journal + p)) (places_from s.ring (s.ring.past - s.ring.first) t.start))))
  log_by_tail t e =
      ap (λ (u : Tail). if u.start == 0 then [] else done (take_blocks s.format (Reading u.sequence [] [] [] []) (map (λ p. disk_of m.image (s.journal + p)) (places_from s.ring (s.ring.past - s.ring.first) u.start)))) e

  log_behind_tail : (freed : ℕ) → IsTailOf s m F freed → log_of s.format s.ring s.journal (disk_of m.image) ≡ transactions_from s.transactions (1 + freed) (F - freed)
  log_behind_tail freed tail =
      let body = written_body s tail.place (disk_of m.image s.journal) (body_of_origin closed s.journal tail.place tail.held) in
      let next : freed + 1 ≡ 1 + freed = omega arith in
      let t : Tail = record { sequence = s.sequence + freed; start = first_place s (1 + freed) } in
      let fields : s.format.tail (disk_of m.image s.journal) ≡ t =
      ap s.format.tail (sym body) ∙ tail.super.fields ∙ ap (λ k. record { sequence = s.sequence + freed; start = first_place s k }) next in
      let lo = (start_is_place freed).0 in
      let one = rules.fits.journal in
      log_by_tail t fields
      ∙ cond-false (t.start == 0) [] _ (ne_eqb t.start 0 (λ z. omega arith))
      ∙ round_reads freed tail

  log_of_base : ((o : ℕ) → HasOrigin m.origins s.journal o → ⊥) → IsLogFrom s m F 0
  log_of_base none =
      let zero_found = no_super_no_commit closed rules.fits rules.commits rules.log rules.checkpoints rules.images rules.base is_found none in
      let same = ⊎_elim (λ o. absurd (none o.0 o.1)) (λ e. e) (origin_or_base closed s.journal) in
      let empty : F - 0 ≡ 0 = omega arith in
      let start : (s.format.tail (disk_of m.image s.journal)).start ≡ 0 = ap (λ x. (s.format.tail x).start) same ∙ rules.base.start in
      record {
        within = omega arith;
        log = cond-true ((s.format.tail (disk_of m.image s.journal)).start == 0) [] _ (eq-eqb _ 0 start) ∙ ap (transactions_from s.transactions (1 + 0)) (sym empty);
        tail = λ pos. absurd (omega arith);
      }

  journal_written : (o : Option (Option ℕ)) → slice_get m.origins s.journal ≡ o → ((p : ℕ) × HasOrigin m.origins s.journal p) ⊎ ((p : ℕ) → HasOrigin m.origins s.journal p → ⊥)
  journal_written (Some (Some p)) e = inl (p, e)
  journal_written (Some None) e = inr (λ p h. none-some p (same_Some None (Some p) (sym e ∙ h)))
  journal_written None e = inr (λ p h. none-some (Some p) (sym e ∙ h))

  -- The log of the medium is that of the transactions from its tail to F.
  pub log_of_cut_is_tail_to_found : (freed : ℕ) × IsLogFrom s m F freed
  log_of_cut_is_tail_to_found =
      ⊎_elim
      (λ o.
      let t = tail_within_found closed rules.fits rules.commits rules.log rules.checkpoints rules.images rules.base is_found o.0 o.1 in
      (t.0, record { within = t.1.within; log = log_behind_tail t.0 t.1; tail = λ pos. t.1 }))
      (λ none. (0, log_of_base none))
      (journal_written (slice_get m.origins s.journal) refl)
