-- What two broken sessions leave after a power cut.
use Rattle.blk_base.specs.laws.Members.{slice_get-length}
use Rattle.order_model.specs.declared.note.Note.TheVariants.{Page, Super, Descriptor, Body, Commit}
use Rattle.order_model.specs.declared.note.Note.{Note}
use Rattle.std.specs.Prelude.{◌≡◌, ◌≢◌, ℕ, zero, suc, ◌≤◌, ◌<◌, List, Option, Some, None, slice_get, refl, length, true, false, [], ◌∷◌}
use Rattle.std.proofs.Common.{sym, subst, arith, inl, inr, ⊎_elim}
use Rattle.std.proofs.lemmas.Option.{none-some}
use Rattle.order_model.specs.declared.request.Request.{Request}
use Rattle.order_model.specs.OrderClosed.{IsPutOf, IsPutWith, IsPut, IsFence, IsFlushAt, IsOrderedBefore, HasOrigin, IsKept, IsOrderClosed}
use Rattle.log_model.proofs.Marks.{keep≢set}
use Rattle.crash_laws.specs.laws.BrokenExamples.{unfenced, without_body, late_with, page_late, without_page}
use Rattle.crash_laws.specs.laws.Clauses.{OrderClause}
use Rattle.crash_laws.specs.Rules.{OrderRules}
use Rattle.crash_laws.specs.laws.Submitting.{Submitting}
use Rattle.crash_laws.specs.laws.Example.{program, history, logged, put}
use Rattle.crash_laws.specs.Found.{found}
use Rattle.crash_laws.specs.PageRules.{place_at}
use Rattle.crash_laws.specs.Recovery.{recovered_disk, IsOf, Sent, Opened, HasVersion}
use Rattle.crash_laws.specs.Session.{image_of}
use Rattle.crash_laws.proofs.Example.{at_start, commit_listed, first_mark, page_unlogged, id_of, elsewhere}
use Rattle.crash_laws.proofs.OrderSteps.{order_rules_step}
use Rattle.crash_laws.proofs.RequestClauses.{page_request_clause, super_request_clause, part_request_clause, commit_request_clause}
use Rattle.crash_laws.proofs.RingSteps.{log_listed}

none≢id : (id : ℕ) → ◌≡◌ {A = Option (Option ℕ)} (Some None) (Some (Some id)) → ⊥
none≢id id e = cc

same_id : (a b : ℕ) → ◌≡◌ {A = Option (Option ℕ)} (Some (Some a)) (Some (Some b)) → a ≡ b
same_id a b e = cc

out≢ : (o : Option ℕ) → ◌≡◌ {A = Option (Option ℕ)} None (Some o) → ⊥
out≢ o e = cc

-- ---- the commit block in the epoch of its body

module _ where
  block_of : (block id : ℕ) → HasOrigin without_body.origins block id → IsPutOf unfenced.requests id block
  block_of zero id e = absurd (none≢id id e)
  block_of (suc zero) id e = absurd (none≢id id e)
  block_of (suc (suc zero)) id e = absurd (none≢id id e)
  block_of (suc (suc (suc zero))) id e = absurd (none≢id id e)
  block_of (suc (suc (suc (suc zero)))) id e = subst (λ k. IsPutOf unfenced.requests k 4) (same_id 0 id e) refl
  block_of (suc (suc (suc (suc (suc zero))))) id e = subst (λ k. IsPutOf unfenced.requests k 5) (same_id 1 id e) refl
  block_of (suc (suc (suc (suc (suc (suc zero)))))) id e = absurd (none≢id id e)
  block_of (suc (suc (suc (suc (suc (suc (suc zero))))))) id e = subst (λ k. IsPutOf unfenced.requests k 7) (same_id 3 id e) refl
  block_of (suc (suc (suc (suc (suc (suc (suc (suc block)))))))) id e = absurd (out≢ (Some id) e)

  body_of : (block id : ℕ) (body : List ℕ) → HasOrigin without_body.origins block id → slice_get without_body.image block ≡ Some body → IsPutWith unfenced.requests id body
  body_of zero id body e there = absurd (none≢id id e)
  body_of (suc zero) id body e there = absurd (none≢id id e)
  body_of (suc (suc zero)) id body e there = absurd (none≢id id e)
  body_of (suc (suc (suc zero))) id body e there = absurd (none≢id id e)
  body_of (suc (suc (suc (suc zero)))) id body e there = subst (λ k. IsPutWith unfenced.requests k body) (same_id 0 id e) there
  body_of (suc (suc (suc (suc (suc zero))))) id body e there = subst (λ k. IsPutWith unfenced.requests k body) (same_id 1 id e) there
  body_of (suc (suc (suc (suc (suc (suc zero)))))) id body e there = absurd (none≢id id e)
  body_of (suc (suc (suc (suc (suc (suc (suc zero))))))) id body e there = subst (λ k. IsPutWith unfenced.requests k body) (same_id 3 id e) there
  body_of (suc (suc (suc (suc (suc (suc (suc (suc block)))))))) id body e there = absurd (out≢ (Some id) e)

  base_of : (block : ℕ) → slice_get without_body.origins block ≡ Some None → slice_get without_body.image block ≡ slice_get unfenced.base block
  base_of zero e = refl
  base_of (suc zero) e = refl
  base_of (suc (suc zero)) e = refl
  base_of (suc (suc (suc zero))) e = refl
  base_of (suc (suc (suc (suc zero)))) e = absurd (none≢id 0 (sym e))
  base_of (suc (suc (suc (suc (suc zero))))) e = absurd (none≢id 1 (sym e))
  base_of (suc (suc (suc (suc (suc (suc zero)))))) e = refl
  base_of (suc (suc (suc (suc (suc (suc (suc zero))))))) e = absurd (none≢id 3 (sym e))
  base_of (suc (suc (suc (suc (suc (suc (suc (suc block)))))))) e = absurd (out≢ None e)

  superblock_kept : IsKept unfenced.requests without_body.origins 0
  superblock_kept = record { block = 4; put = refl; origin = 0; held = refl; later = omega arith }

  -- behind the last barrier stands no put
  no_put : (j : ℕ) → 3 < j → IsPut unfenced.requests j → ⊥
  no_put zero lt put = omega arith
  no_put (suc zero) lt put = omega arith
  no_put (suc (suc zero)) lt put = omega arith
  no_put (suc (suc (suc zero))) lt put = omega arith
  no_put (suc (suc (suc (suc j)))) lt put = none-some put.0 put.1

  behind : (b i j : ℕ) → i ≤ b → b < j → IsFence unfenced.requests b → IsPut unfenced.requests j → IsKept unfenced.requests without_body.origins i
  behind zero i j lo hi fence put = let e : 0 ≡ i = omega arith in subst (IsKept unfenced.requests without_body.origins) e superblock_kept
  behind (suc zero) i j lo hi fence put = absurd (let y : ⊥ = cc in y)
  behind (suc (suc zero)) i j lo hi fence put = absurd (let y : ⊥ = cc in y)
  behind (suc (suc (suc zero))) i j lo hi fence put = absurd (no_put j hi put)
  behind (suc (suc (suc (suc b)))) i j lo hi fence put = absurd fence

  no_flush : (f : ℕ) → IsFlushAt unfenced.requests f → ⊥
  no_flush zero flush = cc
  no_flush (suc zero) flush = cc
  no_flush (suc (suc zero)) flush = cc
  no_flush (suc (suc (suc zero))) flush = cc
  no_flush (suc (suc (suc (suc f)))) flush = flush

  closed : (i j : ℕ) → IsOrderedBefore unfenced.requests i j → IsKept unfenced.requests without_body.origins i
  closed i j (inl before) = behind before.fence.0 i j before.fence.1 before.fence.2 before.fence.3 before.second
  closed i j (inr before) = absurd (no_flush before.flush.0 before.flush.3)

pub unfenced_closed : IsOrderClosed unfenced.base unfenced.requests without_body.image without_body.origins
unfenced_closed = record {
  blocks = refl;
  places = refl;
  block_of = block_of;
  body_of = body_of;
  base_of = base_of;
  closed = λ i j before kept. closed i j before;
}

pub unfenced_found : found unfenced without_body ≡ 1
unfenced_found = refl

-- the body that recovery puts in place is none
pub unfenced_wrong : recovered_disk unfenced without_body 1 ≢ image_of unfenced 1 1
unfenced_wrong e = let y : ⊥ = cc in y

-- ---- the page behind the commit block

module _ where
  late_block_of : (block id : ℕ) → HasOrigin without_page.origins block id → IsPutOf page_late.requests id block
  late_block_of zero id e = absurd (none≢id id e)
  late_block_of (suc zero) id e = absurd (none≢id id e)
  late_block_of (suc (suc zero)) id e = absurd (none≢id id e)
  late_block_of (suc (suc (suc zero))) id e = absurd (none≢id id e)
  late_block_of (suc (suc (suc (suc zero)))) id e = subst (λ k. IsPutOf page_late.requests k 4) (same_id 0 id e) refl
  late_block_of (suc (suc (suc (suc (suc zero))))) id e = subst (λ k. IsPutOf page_late.requests k 5) (same_id 1 id e) refl
  late_block_of (suc (suc (suc (suc (suc (suc zero)))))) id e = subst (λ k. IsPutOf page_late.requests k 6) (same_id 2 id e) refl
  late_block_of (suc (suc (suc (suc (suc (suc (suc zero))))))) id e = subst (λ k. IsPutOf page_late.requests k 7) (same_id 3 id e) refl
  late_block_of (suc (suc (suc (suc (suc (suc (suc (suc block)))))))) id e = absurd (out≢ (Some id) e)

  late_body_of : (block id : ℕ) (body : List ℕ) → HasOrigin without_page.origins block id → slice_get without_page.image block ≡ Some body → IsPutWith page_late.requests id body
  late_body_of zero id body e there = absurd (none≢id id e)
  late_body_of (suc zero) id body e there = absurd (none≢id id e)
  late_body_of (suc (suc zero)) id body e there = absurd (none≢id id e)
  late_body_of (suc (suc (suc zero))) id body e there = absurd (none≢id id e)
  late_body_of (suc (suc (suc (suc zero)))) id body e there = subst (λ k. IsPutWith page_late.requests k body) (same_id 0 id e) there
  late_body_of (suc (suc (suc (suc (suc zero))))) id body e there = subst (λ k. IsPutWith page_late.requests k body) (same_id 1 id e) there
  late_body_of (suc (suc (suc (suc (suc (suc zero)))))) id body e there = subst (λ k. IsPutWith page_late.requests k body) (same_id 2 id e) there
  late_body_of (suc (suc (suc (suc (suc (suc (suc zero))))))) id body e there = subst (λ k. IsPutWith page_late.requests k body) (same_id 3 id e) there
  late_body_of (suc (suc (suc (suc (suc (suc (suc (suc block)))))))) id body e there = absurd (out≢ (Some id) e)

  late_base_of : (block : ℕ) → slice_get without_page.origins block ≡ Some None → slice_get without_page.image block ≡ slice_get page_late.base block
  late_base_of zero e = refl
  late_base_of (suc zero) e = refl
  late_base_of (suc (suc zero)) e = refl
  late_base_of (suc (suc (suc zero))) e = refl
  late_base_of (suc (suc (suc (suc zero)))) e = absurd (none≢id 0 (sym e))
  late_base_of (suc (suc (suc (suc (suc zero))))) e = absurd (none≢id 1 (sym e))
  late_base_of (suc (suc (suc (suc (suc (suc zero)))))) e = absurd (none≢id 2 (sym e))
  late_base_of (suc (suc (suc (suc (suc (suc (suc zero))))))) e = absurd (none≢id 3 (sym e))
  late_base_of (suc (suc (suc (suc (suc (suc (suc (suc block)))))))) e = absurd (out≢ None e)

  -- the first four requests are kept
  early_kept : (i : ℕ) → i < 4 → IsKept page_late.requests without_page.origins i
  early_kept zero lt = record { block = 4; put = refl; origin = 0; held = refl; later = omega arith }
  early_kept (suc zero) lt = record { block = 5; put = refl; origin = 1; held = refl; later = omega arith }
  early_kept (suc (suc zero)) lt = record { block = 6; put = refl; origin = 2; held = refl; later = omega arith }
  early_kept (suc (suc (suc zero))) lt = record { block = 7; put = refl; origin = 3; held = refl; later = omega arith }
  early_kept (suc (suc (suc (suc i)))) lt = absurd (omega arith)

  last_put : (j : ℕ) → IsPut page_late.requests j → j < 5
  last_put zero put = omega arith
  last_put (suc zero) put = omega arith
  last_put (suc (suc zero)) put = omega arith
  last_put (suc (suc (suc zero))) put = omega arith
  last_put (suc (suc (suc (suc zero)))) put = omega arith
  last_put (suc (suc (suc (suc (suc j))))) put = absurd (none-some put.0 put.1)

  late_before : (i j : ℕ) → IsOrderedBefore page_late.requests i j → i < 4
  late_before i j (inl before) = omega (arith, before.fence.1, before.fence.2, last_put j before.second)
  late_before i j (inr before) = omega (arith, before.flush.1, before.flush.2, last_put j before.second)

pub late_closed : IsOrderClosed page_late.base page_late.requests without_page.image without_page.origins
late_closed = record {
  blocks = refl;
  places = refl;
  block_of = late_block_of;
  body_of = late_body_of;
  base_of = late_base_of;
  closed = λ i j before kept. early_kept i (late_before i j before);
}

pub late_found : found page_late without_page ≡ 1
late_found = refl

-- no version of the page is there
pub late_missing : HasVersion program history page_late without_page 1 5 0 2 → ⊥
late_missing t = by t.source
  where
    by : IsOf page_late without_page 5 0 t.version (place_at program history page_late 1 5 0) → ⊥
    by (Sent origin note held) = none≢id origin held
    by (Opened e none) = let le = t.later in omega arith

-- ---- the order rules that the second session keeps

abbrev late_submit : (n : ℕ) → length (late_with n).notes ≡ length (late_with n).requests → Request → Note → Submitting
late_submit n counted request note = record { session = late_with n; counted = counted; request = request; note = note; transactions = logged; same = λ k i h. refl }

abbrev late_super : Submitting
late_super = late_submit 0 refl (put true true 0 4 (1 ∷ 1 ∷ [])) Super

abbrev late_descriptor : Submitting
late_descriptor = late_submit 1 refl (put true false 1 5 (2 ∷ 1 ∷ 1 ∷ [])) (Descriptor 1)

abbrev late_body : Submitting
late_body = late_submit 2 refl (put true true 2 6 (7 ∷ [])) (Body 1 1)

abbrev late_commit : Submitting
late_commit = late_submit 3 refl (put true true 3 7 (1 ∷ 1 ∷ [])) (Commit 1)

abbrev late_page : Submitting
late_page = late_submit 4 refl (put true true 4 2 (2 ∷ [])) (Page 5 0 2)

super_clause : OrderClause program late_super
super_clause = super_request_clause program late_super (record {
  note = refl;
  block = refl;
  ordered = refl;
  clause = record {
    freed = 0;
    fields = refl;
    last = λ c. commit_listed (late_with 0).notes 1 c.0 c.1;
    committed = λ pos. absurd (omega arith);
    barrier = λ pos. refl;
    homes = λ b x set. absurd (keep≢set x set);
  };
})

descriptor_clause : OrderClause program late_descriptor
descriptor_clause = part_request_clause program late_descriptor 1 (
  record {
    note = refl;
    ordered = refl;
    numbered = omega arith;
    unfinished = λ c. commit_listed (late_with 1).notes 1 c.0 c.1;
    behind = λ more. absurd (omega arith);
    head = (omega arith, omega arith);
    block = refl;
    again = λ l i b block log put. absurd (log_listed (late_with 1) l i log);
    header = (record { block = 1; escaped = false } ∷ [], refl);
  },
  λ l e. let f : ⊥ = cc in f,
)

body_clause : OrderClause program late_body
body_clause = part_request_clause program late_body 1 (
  record {
    note = refl;
    ordered = refl;
    numbered = omega arith;
    unfinished = λ c. commit_listed (late_with 2).notes 1 c.0 c.1;
    behind = λ more. absurd (omega arith);
    head = (omega arith, omega arith);
    block = refl;
    again = λ l i b block log put.
        ⊎_elim
        (λ e. let same = elsewhere (late_with 2) 1 1 i l b 5 6 e refl block put in absurd (omega arith))
        (λ none. absurd none)
        (log_listed (late_with 2) l i log);
    header = refl;
  },
  λ l e. let f : ⊥ = cc in f,
)

commit_clause : OrderClause program late_commit
commit_clause = commit_request_clause program late_commit 1 (record {
  note = refl;
  log = record {
    note = refl;
    ordered = refl;
    numbered = omega arith;
    unfinished = λ c. commit_listed (late_with 3).notes 1 c.0 c.1;
    behind = λ more. absurd (omega arith);
    head = (omega arith, omega arith);
    block = refl;
    again = λ l i b block log put.
        ⊎_elim
        (λ e. let same = elsewhere (late_with 3) 1 1 i l b 5 7 e refl block put in absurd (omega arith))
        (λ more. ⊎_elim (λ e. let same = elsewhere (late_with 3) 2 1 i l b 6 7 e refl block put in absurd (omega arith)) (λ none. absurd none) more)
        (log_listed (late_with 3) l i log);
    header = refl;
  };
  barrier = refl;
  closed = λ i log.
      ⊎_elim
      (λ e. let at = id_of 1 1 i 1 e in (2, omega arith, refl))
      (λ more. ⊎_elim (λ e. let at = id_of 2 1 i 1 e in (2, omega arith, refl)) (λ none. absurd none) more)
      (log_listed (late_with 3) 1 i log);
  spells = λ txs. refl;
  first = λ e. (0, record { note = refl; fields = refl });
  tail = λ i freed e h. let lt : i < 3 = slice_get-length (late_with 3).notes i Super h.note in (2, omega arith, refl);
  bodies = λ b x set. let m = (first_mark b x set).0 in omega arith;
  revokes = λ b i reserved. i;
  logged = λ b read. inl (inl read);
})

page_clause : OrderClause program late_page
page_clause = page_request_clause program late_page 5 0 2 (record {
  note = refl;
  zone = 2;
  block = refl;
  low = omega arith;
  free = λ i. ⊎_elim (λ e. omega arith) (λ none. none) i;
  unlogged = λ k x set c. absurd (page_unlogged k x set);
  freed = λ i. absurd i;
})

pub late_order : OrderRules program page_late
late_order =
    order_rules_step program late_page
    (order_rules_step program late_commit (order_rules_step program late_body (order_rules_step program late_descriptor
    (order_rules_step program late_super at_start super_clause) descriptor_clause) body_clause) commit_clause) page_clause
