-- What the plan of a transaction gives of its image, and of the pages that were sent before.
use Rattle.std.specs.Prelude.{◌≡◌, ℕ, ◌+◌, ◌-◌, ◌<◌, ◌≤◌, ◌==◌, ◌⊎◌, Bool, true, false, List, [], ◌∷◌, if◌then◌else◌, Some, refl}
use Rattle.std.specs.List.{list_any}
use Rattle.std.proofs.Common.{sym, ap, subst, ◌∙◌, inl, inr, ⊎_elim, arith, eq-eqb, eqb-true}
use Rattle.std.proofs.lemmas.Bool.{cases_Bool, false≢true}
use Rattle.std.proofs.lemmas.Option.{none-some}
use Rattle.blk_base.specs.Members.{In}
use Rattle.blk_base.specs.laws.Members.{list_any-In, In-list_any}
use Rattle.volume_ops.specs.Volume.{disk_of}
use Rattle.volume_ops.specs.Reads.{Reads, answer, blocks_read, AgreeOn}
use Rattle.volume_ops.specs.laws.ReadsLaws.{answer-agrees, blocks_read-agree}
use Rattle.log_model.specs.Marks.{Transaction, Mark, Keep, Clear, Set, followed, bodies_mark, mark_in, transaction_mark, body_after, transactions_from}
use Rattle.log_model.proofs.Marks.{clear≢set, mark-split}
use Rattle.crash_laws.specs.History.{History, Calm, HasTrees}
use Rattle.crash_laws.specs.laws.HostFacts.{Host, HostFacts}
use Rattle.crash_laws.specs.PageRules.{IsPageTo, place_at}
use Rattle.crash_laws.specs.laws.Plans.{PlanFacts}
use Rattle.crash_laws.specs.Rules.{CommitOrder, IsOlder}
use Rattle.crash_laws.specs.Session.{Session, IsCommit, image_of}
use Rattle.crash_laws.proofs.Commits.{commit_positive, commits_rise}
use Rattle.crash_laws.proofs.Histories.{cuts_rise}

-- What stands before the commit block of k, and within its cut, does so for each later transaction too.
pub behind_later : {A : Type 0} {h : History A} {s : Session} → HasTrees h → CommitOrder s → (k l c o v : ℕ) → k ≤ l → IsCommit s k c → o < c → v ≤ h.cut k
    → (1 ≤ l → (d : ℕ) × IsCommit s l d) → (d : ℕ) × IsCommit s l d × (o < d) × (v ≤ h.cut l)
behind_later trees order k l c o v le is before within committed =
    let pos = commit_positive order k c is in
    let last = committed (omega arith) in
    let rise = commits_rise order k l c last.0 is last.1 le in
    let cuts = cuts_rise trees k l le in
    (last.0, last.1, omega arith, omega arith)

module _ {A : Type 0} {program : Reads A} {h : History A} {s : Session} {host : Host} {N : ℕ} (trees : HasTrees h) (order : CommitOrder s) (facts : HostFacts program h s host N) (plan : PlanFacts program h s host) (all_closed : N + 1 ≡ host.running) where
  -- the mark after the plan
  mark_after : (b : ℕ) → mark_in (transactions_from s.transactions 1 host.running) b ≡ followed (mark_in (transactions_from s.transactions 1 (host.running - 1)) b) (transaction_mark (record { bodies = host.bodies; revokes = host.revokes }) b)
  mark_after b =
      let e : host.running ≡ host.running - 1 + 1 = omega arith in
      let q : 1 + (host.running - 1) + 0 ≡ host.running = omega arith in
      ap (λ n. mark_in (transactions_from s.transactions 1 n) b) e
      ∙ mark-split s.transactions (host.running - 1) 1 b
      ∙ ap (λ n. followed (mark_in (transactions_from s.transactions 1 (host.running - 1)) b) (mark_in (s.transactions n ∷ []) b)) q
      ∙ ap (λ t. followed (mark_in (transactions_from s.transactions 1 (host.running - 1)) b) (transaction_mark t b)) plan.planned

  not_revoked : (b : ℕ) → host.metadata b ≡ true → list_any (λ r. r == b) host.revokes ≡ false
  not_revoked b meta =
      ⊎_elim
      (λ t.
      let r = In-list_any (λ r. r == b) host.revokes t in
      absurd (revoked b meta (subst (λ c. In c host.revokes) (eqb-true r.0 b r.2) r.1)))
      (λ f. f)
      (cases_Bool (list_any (λ r. r == b) host.revokes))
    where
      revoked : (b : ℕ) → host.metadata b ≡ true → In b host.revokes → ⊥
      revoked b meta i = none-some host.running (sym (facts.metadata_free b meta) ∙ facts.revokes_wait b i)

  -- on metadata it is the running body, or the old mark
  pub mark_on_metadata : (b : ℕ) → host.metadata b ≡ true → mark_in (transactions_from s.transactions 1 host.running) b ≡ followed (mark_in (transactions_from s.transactions 1 (host.running - 1)) b) (bodies_mark host.bodies b)
  mark_on_metadata b meta =
      mark_after b ∙ ap (λ u. followed (mark_in (transactions_from s.transactions 1 (host.running - 1)) b) (followed (bodies_mark host.bodies b) (if u then Clear else Keep))) (not_revoked b meta)

  -- The new image has the volume's metadata.
  pub image_is_present : (b : ℕ) → host.metadata b ≡ true → image_of s host.running b ≡ host.volume b
  image_is_present b meta =
      ⊎_elim
      (λ body. ap (λ m. body_after m (disk_of s.base b)) (mark_on_metadata b meta ∙ ap (followed (mark_in (transactions_from s.transactions 1 (host.running - 1)) b)) body))
      (λ old. ap (λ m. body_after m (disk_of s.base b)) (mark_on_metadata b meta ∙ ap (followed (mark_in (transactions_from s.transactions 1 (host.running - 1)) b)) old.0) ∙ sym old.1)
      (plan.present b meta)

  agrees : AgreeOn (blocks_read host.volume program) host.volume (image_of s host.running)
  agrees b read = image_is_present b (plan.walk b read)

  pub walk_of_image : answer (image_of s host.running) program ≡ answer host.volume program
  walk_of_image = answer-agrees host.volume (image_of s host.running) program agrees

  -- and what is to be said of its blocks
  pub logged_after : (b : ℕ) → In b (blocks_read (image_of s host.running) program) → IsOlder s host.running b ⊎ ((x : List ℕ) × (mark_in (transactions_from s.transactions 1 host.running) b ≡ Set x))
  logged_after b read =
      let meta = plan.walk b (subst (In b) (blocks_read-agree host.volume (image_of s host.running) program agrees) read) in
      let here = mark_on_metadata b meta in
      ⊎_elim
      (λ body. inr (host.volume b, here ∙ ap (followed (mark_in (transactions_from s.transactions 1 (host.running - 1)) b)) body))
      (λ old. ⊎_elim (λ older. inl (⊎_elim inl (λ keep. inr (keep.0, here ∙ ap (followed (mark_in (transactions_from s.transactions 1 (host.running - 1)) b)) old.0 ∙ keep.1)) older)) (λ set. inr (set.0, here ∙ ap (followed (mark_in (transactions_from s.transactions 1 (host.running - 1)) b)) old.0 ∙ set.1)) old.2)
      (plan.present b meta)

  pub bodies_after : (b : ℕ) (x : List ℕ) → mark_in (transactions_from s.transactions 1 host.running) b ≡ Set x → host.metadata b ≡ true
  bodies_after b x set = by (bodies_mark host.bodies b) refl (list_any (λ r. r == b) host.revokes) refl (sym (mark_after b) ∙ set)
    where
      by : (m : Mark) → bodies_mark host.bodies b ≡ m → (u : Bool) → list_any (λ r. r == b) host.revokes ≡ u → followed (mark_in (transactions_from s.transactions 1 (host.running - 1)) b) (transaction_mark (record { bodies = host.bodies; revokes = host.revokes }) b) ≡ Set x → host.metadata b ≡ true
      by m em true eu e = absurd (clear≢set x (sym (ap (λ v. followed (mark_in (transactions_from s.transactions 1 (host.running - 1)) b) (followed (bodies_mark host.bodies b) (if v then Clear else Keep))) eu) ∙ e))
      by (Set y) em false eu e = plan.bodies_there b y em
      by Clear em false eu e =
          absurd (clear≢set x (sym (ap (λ v. followed (mark_in (transactions_from s.transactions 1 (host.running - 1)) b) (followed (bodies_mark host.bodies b) (if v then Clear else Keep))) eu ∙ ap (followed (mark_in (transactions_from s.transactions 1 (host.running - 1)) b)) em) ∙ e))
      by Keep em false eu e =
          let old = sym (ap (λ v. followed (mark_in (transactions_from s.transactions 1 (host.running - 1)) b) (followed (bodies_mark host.bodies b) (if v then Clear else Keep))) eu ∙ ap (followed (mark_in (transactions_from s.transactions 1 (host.running - 1)) b)) em) ∙ e in
          ⊎_elim (λ meta. meta)
          (λ r. absurd (false≢true (sym eu ∙ list_any-In (λ c. c == b) host.revokes b r (eq-eqb b b refl))))
          (facts.bodies_on_metadata b x old)

  pub revokes_after : (b : ℕ) → In b (s.transactions host.running).revokes → In b s.reserved → ⊥
  revokes_after b r = plan.base_stays b (subst (λ (t : Transaction). In b t.revokes) plan.planned r)

  -- A page before, whose block has a body now, was given up before the last commit block.
  pub page_given_up : (o f i v z : ℕ) (x : List ℕ) → IsPageTo s o f i v z → mark_in (transactions_from s.transactions 1 host.running) z ≡ Set x → (c : ℕ) × IsCommit s (host.running - 1) c × (o < c) × (v ≤ h.cut (host.running - 1))
  page_given_up o f i v z x page set =
      let meta = bodies_after z x set in
      ⊎_elim
      (λ live. absurd (false≢true (sym (facts.page_free f i z live.there).0 ∙ meta)))
      (λ dead.
      ⊎_elim
      (λ c.
      let le = facts.no_more dead.k c.0 c.1 in
      let later = dead.later in
      let hi = c.3 in
      behind_later trees order dead.k (host.running - 1) c.0 o v (omega arith) c.1 c.2 (omega arith) (λ pos. facts.committed (host.running - 1) pos (omega arith)))
      (λ waits. absurd (none-some dead.k (sym (facts.metadata_free z meta) ∙ waits.1)))
      dead.given_up)
      (facts.live_or_dead o f i v z page)

  pub place_of_page : (f i z : ℕ) → host.zone f i ≡ Some z → place_at program h s host.running f i ≡ z
  place_of_page f i z there =
      ap (λ a. h.place a (h.cut host.running) f i) walk_of_image ∙ ap (λ n. h.place (answer host.volume program) n f i) plan.cut ∙ plan.places f i z there

  -- One that is not unmapped stands where the new image has it.
  pub page_in_place : (o f i v z : ℕ) → IsPageTo s o f i v z → h.maps (h.cut host.running) f i ≡ true → Calm h f i v (h.cut host.running) → z ≡ place_at program h s host.running f i
  page_in_place o f i v z page maps calm =
      ⊎_elim
      (λ live. sym (place_of_page f i z live.there))
      (λ dead.
      let in_time = dead.in_time in
      let at = plan.cut in
      absurd (calm dead.entry dead.later (omega arith) dead.unmapped))
      (facts.live_or_dead o f i v z page)

  -- Nor does a block leave its place that the tree which was opened has.
  pub opened_in_place : (f i : ℕ) → h.maps 0 f i ≡ true → Calm h f i 0 (h.cut host.running) → place_at program h s 0 f i ≡ place_at program h s host.running f i
  opened_in_place f i maps calm =
      ⊎_elim
      (λ live. sym (place_of_page f i (place_at program h s 0 f i) live.there))
      (λ dead.
      let in_time = dead.in_time in
      let at = plan.cut in
      absurd (calm dead.entry dead.later (omega arith) dead.unmapped))
      (facts.opened_live_or_dead f i maps)

  -- And no block of a file has a body.
  pub files_after : (f i : ℕ) (x : List ℕ) → h.maps (h.cut host.running) f i ≡ true → mark_in (transactions_from s.transactions 1 host.running) (place_at program h s host.running f i) ≡ Set x → ⊥
  files_after f i x maps set =
      let z = facts.mapped_zone f i (ap (λ n. h.maps n f i) (sym plan.cut) ∙ maps) in
      let meta = bodies_after z.0 x (ap (mark_in (transactions_from s.transactions 1 host.running)) (sym (place_of_page f i z.0 z.1)) ∙ set) in
      false≢true (sym (facts.page_free f i z.0 z.1).0 ∙ meta)
