-- The same session keeps the rules of pages, and that of an fsync which was answered.
use Rattle.std.specs.Prelude.{◌≡◌, ℕ, zero, suc, ◌+◌, ◌-◌, ◌<◌, ◌≤◌, ◌==◌, ◌&&◌, ◌||◌, nat_le, Bool, true, false, List, [], ◌∷◌, Some, slice_get, refl}
use Rattle.std.proofs.Common.{sym, subst, ◌∙◌, inl, inr, ⊎_elim, arith, eqb-true, leb-true, le-leb}
use Rattle.std.proofs.lemmas.Bool.{and_parts, and_right, and_from, cases_lt, false≢true}
use Rattle.std.proofs.lemmas.Option.{none-some, same_Some}
use Rattle.blk_base.specs.Members.{In}
use Rattle.order_model.specs.declared.note.Note.{Note}
use Rattle.order_model.specs.declared.note.Note.TheVariants.{Page, Commit}
use Rattle.order_model.specs.OrderClosed.{IsPutOf}
use Rattle.log_model.specs.Marks.{Set, mark_in, transactions_from}
use Rattle.crash_laws.specs.History.{HasTrees, last_write}
use Rattle.crash_laws.specs.laws.PageClauses.{PageClause}
use Rattle.crash_laws.specs.PageRules.{IsPageTo, PageOrder, DataBeforeCommit}
use Rattle.crash_laws.specs.PromiseRules.{Covers, CoversEntry, KeepsSync}
use Rattle.crash_laws.specs.Session.{Session, HasNote}
use Rattle.crash_laws.specs.laws.Submitting.{Submitting, after}
use Rattle.crash_laws.specs.laws.Clauses.{OrderClause}
use Rattle.crash_laws.specs.Rules.{OrderRules}
use Rattle.crash_laws.specs.laws.Example.{program, logged, cut, history, is_page, with_first, page_written, first_super, first_descriptor, first_body, first_commit, home_written, second_super, page_overwritten, second_descriptor, second_body, second_commit, flushed, synced, completions}
use Rattle.crash_laws.proofs.Example.{page_unlogged, at_start, one, two, three, four, five, six, seven, eight, nine, ten, eleven, twelve}
use Rattle.crash_laws.proofs.ImageSteps.{page_order_step, data_before_commit_step}
use Rattle.crash_laws.proofs.OrderSteps.{order_rules_step}
use Rattle.crash_laws.proofs.Ordering.{same_block}
use Rattle.crash_laws.proofs.Start.{pages_at_start}
use Rattle.crash_laws.proofs.RequestClauses.{other_page_clause, page_page_clause, commit_page_clause}

-- ---- the history

late : (n : ℕ) → 2 ≤ n → n < 4 → ((n == 2) || (n == 3)) ≡ true
late n lo hi =
    ⊎_elim
    (λ lt. let e : 2 ≡ n = omega arith in subst (λ m. ((m == 2) || (m == 3)) ≡ true) e refl)
    (λ le. let e : 3 ≡ n = omega arith in subst (λ m. ((m == 2) || (m == 3)) ≡ true) e refl)
    (cases_lt n 3)

mapped_by : (f i n : ℕ) → history.maps n f i ≡ false → history.maps (n + 1) f i ≡ true → history.writes (n + 1) f i ≡ true
mapped_by f i n none there =
    let now = and_parts (is_page f i) (nat_le 2 (n + 1)) there in
    let lo = leb-true 2 (n + 1) now.1 in
    ⊎_elim
    (λ lt. and_from (is_page f i) _ now.0 (late (n + 1) lo (omega arith)))
    (λ le. absurd (false≢true (sym none ∙ and_from (is_page f i) (nat_le 2 n) now.0 (le-leb 2 n le))))
    (cases_lt n 2)

written_there : (f i n : ℕ) → history.writes n f i ≡ true → history.maps n f i ≡ true
written_there f i n wrote =
    let now = and_parts (is_page f i) ((n == 2) || (n == 3)) wrote in
    and_from (is_page f i) (nat_le 2 n) now.0 (by (n == 2) refl now.1)
  where
    by : (two : Bool) → (n == 2) ≡ two → (two || (n == 3)) ≡ true → nat_le 2 n ≡ true
    by true e h = let q = eqb-true n 2 e in le-leb 2 n (omega arith)
    by false e h = let q = eqb-true n 3 h in le-leb 2 n (omega arith)

cuts_rise : (k : ℕ) → cut k ≤ cut (k + 1)
cuts_rise zero = omega arith
cuts_rise (suc zero) = omega arith
cuts_rise (suc (suc k)) = let e : suc (suc k) + 1 ≡ suc (suc (suc k)) = omega arith in subst (λ n. 3 ≤ cut n) (sym e) (omega arith)

not_page : (f i n : ℕ) → ((f == 5) && true) ≡ false → history.maps n f i ≡ false
not_page f i n h = by (f == 5) h
  where
    by : (five : Bool) → (five && true) ≡ false → ((five && (i == 0)) && nat_le 2 n) ≡ false
    by true e = absurd (false≢true (sym e))
    by false e = refl

same_maps : (k f i m : ℕ) → history.changes (k + 1) f ≡ false → cut k < m → m ≤ cut (k + 1) → history.maps m f i ≡ history.maps (m - 1) f i
same_maps zero f i m unchanged lo hi = not_page f i m unchanged ∙ sym (not_page f i (m - 1) unchanged)
same_maps (suc zero) f i m unchanged lo hi = let e : 3 ≡ m = omega arith in subst (λ n. history.maps n f i ≡ history.maps (n - 1) f i) e refl
same_maps (suc (suc k)) f i m unchanged lo hi =
    let e : suc (suc k) + 1 ≡ suc (suc (suc k)) = omega arith in
    let up = subst (λ n. m ≤ cut n) e hi in
    absurd (omega arith)

pub has_trees : HasTrees history
has_trees = record {
  unwritten = λ f i. and_right (is_page f i) ((0 == 2) || (0 == 3)) refl;
  mapped = mapped_by;
  written = written_there;
  first = refl;
  cuts = cuts_rise;
  same = same_maps;
}

nothing_before : (f i : ℕ) → history.maps 0 f i ≡ true → ⊥
nothing_before f i there = false≢true (sym (and_right (is_page f i) (nat_le 2 0) refl) ∙ there)

-- ---- the pages of the list

abbrev pages_from : ℕ → List Note → List ℕ
pages_from n [] = []
pages_from n (Page f i v ∷ ns) = n ∷ pages_from (suc n) ns
pages_from n (x ∷ ns) = pages_from (suc n) ns

page_listed : (n : ℕ) (ns : List Note) (f i v o : ℕ) → slice_get ns o ≡ Some (Page f i v) → In (n + o) (pages_from n ns)
page_listed n [] f i v o e = absurd (none-some (Page f i v) e)
page_listed n (Page g j w ∷ ns) f i v zero e = inl (omega arith)
page_listed n (Page g j w ∷ ns) f i v (suc o) e = let q : suc n + o ≡ n + suc o = omega arith in inr (subst (λ m. In m (pages_from (suc n) ns)) q (page_listed (suc n) ns f i v o e))
page_listed n (x ∷ ns) f i v zero e = absurd (let y : ⊥ = cc in y)
page_listed n (x ∷ ns) f i v (suc o) e = let q : suc n + o ≡ n + suc o = omega arith in subst (λ m. In m (pages_from (suc n) ns)) q (page_listed (suc n) ns f i v o e)

-- a page at this place of the list is this one
page_is : (n at f i v o z g j w : ℕ) → at ≡ 0 + o → slice_get (with_first n).notes at ≡ Some (Page g j w) → IsPageTo (with_first n) o f i v z → (g ≡ f) × (j ≡ i) × (w ≡ v)
page_is n at f i v o z g j w e there t =
    let q : o ≡ at = omega arith in
    same_page g j w f i v (same_Some (Page g j w) (Page f i v) (sym there ∙ subst (λ k. slice_get (with_first n).notes k ≡ Some (Page f i v)) q t.note))
  where
    same_page : (g j w f i v : ℕ) → Page g j w ≡ Page f i v → (g ≡ f) × (j ≡ i) × (w ≡ v)
    same_page g j w f i v h = (cc, cc, cc)

zone_of : (n at f i v o z : ℕ) → at ≡ 0 + o → IsPutOf (with_first n).requests at 2 → IsPageTo (with_first n) o f i v z → z ≡ 2
zone_of n at f i v o z e there t =
    let q : o ≡ at = omega arith in
    same_block (with_first n).requests at z 2 (subst (λ k. IsPutOf (with_first n).requests k z) q t.put) there

early_zone : (o f i v z : ℕ) → IsPageTo (with_first 4) o f i v z → z ≡ 2
early_zone o f i v z t =
    ⊎_elim (λ e. zone_of 4 0 f i v o z e refl t) (λ none. absurd none) (page_listed 0 (with_first 4).notes f i v o t.note)

late_zone : (o f i v z : ℕ) → IsPageTo (with_first 10) o f i v z → z ≡ 2
late_zone o f i v z t =
    ⊎_elim (λ e. zone_of 10 0 f i v o z e refl t)
    (λ m. ⊎_elim (λ e. zone_of 10 7 f i v o z e refl t) (λ none. absurd none) m)
    (page_listed 0 (with_first 10).notes f i v o t.note)

only_page : (o f i v z : ℕ) → IsPageTo (with_first 7) o f i v z → (5 ≡ f) × (0 ≡ i) × (2 ≡ v)
only_page o f i v z t =
    ⊎_elim (λ e. page_is 7 0 f i v o z 5 0 2 e refl t) (λ none. absurd none) (page_listed 0 (with_first 7).notes f i v o t.note)

-- ---- the clauses

none_yet : (o f i v z : ℕ) → IsPageTo (with_first 0) o f i v z → ⊥
none_yet o f i v z t = none-some (Page f i v) t.note

first_page : PageClause program history page_written
first_page = page_page_clause program history page_written 5 0 2 2 refl refl (record {
  content = refl;
  there = refl;
  place = λ k sub mapped before behind. refl;
  versions = λ o w y t. absurd (none_yet o 5 0 w y t);
  another = λ o g j w t other. absurd (none_yet o g j w 2 t);
  logged = λ k x c set. absurd (page_unlogged k x set);
  given_up = λ g j there at apart. absurd (nothing_before g j there);
})

second_page : PageClause program history page_overwritten
second_page = page_page_clause program history page_overwritten 5 0 3 2 refl refl (record {
  content = refl;
  there = refl;
  place = λ k sub mapped before behind. refl;
  versions = λ o w y t. let e = (only_page o 5 0 w y t).2 in omega arith;
  another = λ o g j w t other. let e = only_page o g j w 2 t in absurd (other (sym e.0, sym e.1));
  logged = λ k x c set. absurd (page_unlogged k x set);
  given_up = λ g j there at apart. absurd (nothing_before g j there);
})

-- the page that the first transaction needs
sent_first : (f i : ℕ) → history.maps 2 f i ≡ true → HasNote (with_first 4) 0 (Page f i (last_write history f i 2))
sent_first f i mapped =
    let here = and_parts (f == 5) (i == 0) (and_parts (is_page f i) (nat_le 2 2) mapped).0 in
    subst (λ g. HasNote (with_first 4) 0 (Page g i (last_write history g i 2))) (sym (eqb-true f 5 here.0))
    (subst (λ j. HasNote (with_first 4) 0 (Page 5 j (last_write history 5 j 2))) (sym (eqb-true i 0 here.1)) refl)

first_commit_pages : PageClause program history first_commit
first_commit_pages = commit_page_clause program history first_commit 1 refl (record {
  place = λ o f i v z t mapped before behind. early_zone o f i v z t;
  logged = λ o f i v z x t set. absurd (page_unlogged 1 x (subst (λ y. mark_in (transactions_from logged 1 1) y ≡ Set x) (early_zone o f i v z t) set));
  files = λ f i x mapped set. page_unlogged 1 x set;
  stays = λ f i there calm. absurd (nothing_before f i there);
  sent = λ f i changed mapped wrote. (0, sent_first f i mapped, refl, (3, omega arith, refl));
})

second_commit_pages : PageClause program history second_commit
second_commit_pages = commit_page_clause program history second_commit 2 refl (record {
  place = λ o f i v z t mapped before behind. late_zone o f i v z t;
  logged = λ o f i v z x t set. absurd (page_unlogged 2 x (subst (λ y. mark_in (transactions_from logged 1 2) y ≡ Set x) (late_zone o f i v z t) set));
  files = λ f i x mapped set. page_unlogged 2 x set;
  stays = λ f i there calm. absurd (nothing_before f i there);
  sent = λ f i changed mapped wrote. absurd (false≢true (sym (and_right (f == 5) (2 == 1) refl) ∙ changed));
})

-- ---- all of it

record IsKept (s : Session) : Type 0 where
  order : OrderRules program s
  pages : PageOrder program history s
  versions : DataBeforeCommit program history s

one_more : (p : Submitting) → IsKept p.session → OrderClause program p → PageClause program history p → IsKept (after p)
one_more p old order pages = record {
  order = order_rules_step program p old.order order;
  pages = page_order_step program history p old.order.commits order.commits old.pages pages;
  versions = data_before_commit_step program history p old.order.commits order.commits old.versions pages;
}

nothing_kept : IsKept (with_first 0)
nothing_kept = record {
  order = at_start;
  pages = pages_at_start program (with_first 0) refl history (λ f i there. absurd (nothing_before f i there));
  versions = record { sent = λ k c f i commit changed mapped wrote. absurd (none-some (Commit k) commit) };
}

is_other : (p : Submitting) → ((f i v : ℕ) → p.note ≡ Page f i v → ⊥) → ((k : ℕ) → p.note ≡ Commit k → ⊥) → PageClause program history p
is_other p no_page no_commit = other_page_clause program history p no_page no_commit

six_kept : IsKept (with_first 6)
six_kept =
    one_more home_written
    (one_more first_commit
    (one_more first_body
    (one_more first_descriptor
    (one_more first_super (one_more page_written nothing_kept one first_page)
    two (is_other first_super (λ f i v e. let y : ⊥ = cc in y) (λ k e. let y : ⊥ = cc in y)))
    three (is_other first_descriptor (λ f i v e. let y : ⊥ = cc in y) (λ k e. let y : ⊥ = cc in y)))
    four (is_other first_body (λ f i v e. let y : ⊥ = cc in y) (λ k e. let y : ⊥ = cc in y)))
    five first_commit_pages)
    six (is_other home_written (λ f i v e. let y : ⊥ = cc in y) (λ k e. let y : ⊥ = cc in y))

all_kept : IsKept (with_first 12)
all_kept =
    one_more flushed
    (one_more second_commit
    (one_more second_body
    (one_more second_descriptor
    (one_more page_overwritten
    (one_more second_super six_kept
    seven (is_other second_super (λ f i v e. let y : ⊥ = cc in y) (λ k e. let y : ⊥ = cc in y)))
    eight second_page)
    nine (is_other second_descriptor (λ f i v e. let y : ⊥ = cc in y) (λ k e. let y : ⊥ = cc in y)))
    ten (is_other second_body (λ f i v e. let y : ⊥ = cc in y) (λ k e. let y : ⊥ = cc in y)))
    eleven second_commit_pages)
    twelve (is_other flushed (λ f i v e. let y : ⊥ = cc in y) (λ k e. let y : ⊥ = cc in y))

pub order_kept : OrderRules program (with_first 12)
order_kept = all_kept.order

pub pages_kept : PageOrder program history (with_first 12)
pages_kept = all_kept.pages

pub versions_kept : DataBeforeCommit program history (with_first 12)
versions_kept = all_kept.versions

-- ---- the fsync

covered : (f i n : ℕ) → Covers history synced f i n → (5 ≡ f) × (0 ≡ i) × (n ≡ 2)
covered f i n c =
    let parts = and_parts (is_page f i) ((n == 2) || (n == 3)) c.2 in
    let index = and_parts (f == 5) (i == 0) parts.0 in
    let lt = c.1 in
    (c.0, sym (eqb-true i 0 index.1), by (n == 2) refl parts.1 lt)
  where
    by : (two : Bool) → (n == 2) ≡ two → (two || (n == 3)) ≡ true → n < 3 → n ≡ 2
    by true e h lt = eqb-true n 2 e
    by false e h lt = let q = eqb-true n 3 h in absurd (omega arith)

pub sync_kept : KeepsSync history (with_first 12) completions (Covers history synced) (CoversEntry synced)
sync_kept = record {
  flush = 11;
  flushed = inl refl;
  held = record {
    K = 2;
    commit = inr (10, refl, omega arith);
    pairs = λ f i n c.
        let at = covered f i n c in
        inr (record {
          place = 0;
          version = 2;
          note = subst (λ g. HasNote (with_first 12) 0 (Page g i 2)) at.0 (subst (λ j. HasNote (with_first 12) 0 (Page 5 j 2)) at.1 refl);
          ordered = refl;
          good = omega arith;
          later = let e = at.2 in omega arith;
          mapped = subst (λ g. history.maps 3 g i ≡ true) at.0 (subst (λ j. history.maps 3 5 j ≡ true) at.1 refl);
          calm = λ m lo hi un. omega arith;
        });
    metadata = λ n c. let lt = c.1 in (1, 4, refl, omega arith, omega arith);
  };
}
