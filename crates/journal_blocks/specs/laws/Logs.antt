-- Laws of the log as a fold.
use Rattle.std.specs.Prelude.{◌≡◌, ℕ, ◌+◌, ◌-◌, ◌<◌, ◌≤◌, ◌^◌, ◌%◌, ◌==◌, nat_lt, nat_le, Bool, true, false, if◌then◌else◌, List, [], ◌∷◌, ◌++◌, length, map, Option, Some, None, ◌⊎◌, refl, Result, Ok, Err}
use Rattle.std.specs.List.{list_any, range_with_len}
use Rattle.std.proofs.Common.{sym, ap, ◌∙◌, subst, inl, inr, ⊎_elim, arith, length-append}
use Rattle.std.proofs.lemmas.Bool.{eq-eqb, or_parts, ltb-false, leb-false}
use Rattle.std.proofs.lemmas.List.{length-map}
use Rattle.std.proofs.lemmas.List.FromFn.{length-range_with_len}
use Rattle.blk_base.specs.Members.{In}
use Rattle.blk_base.specs.laws.Members.{In-map, In-append_right, In-push_cases, none-list_any}
use Rattle.log_model.specs.Marks.{Logged, Transaction, Set, mark_in}
use Rattle.log_model.proofs.LastLogged.{mark-last_logged}
use Rattle.journal_blocks.specs.declared.super_block.JournalSuper.{JournalSuper}
use Rattle.journal_blocks.specs.declared.tag.Tag.{Tag}
use Rattle.journal_blocks.specs.declared.log_block.LogBlock.{LogBlock}
use Rattle.journal_blocks.specs.declared.log_block.LogBlock.TheVariants.{Descriptor, Commit, Revoke}
use Rattle.journal_blocks.specs.declared.fault.JournalFault.{JournalFault}
use Rattle.journal_blocks.specs.declared.fault.JournalFault.TheVariants.{NotMagic, BadKind, BadCount, Feature, NoMemory}
use Rattle.journal_blocks.specs.Header.{sequence_of}
use Rattle.journal_blocks.specs.Super.{is_wide}
use Rattle.journal_blocks.specs.Blocks.{restored, log_block_of}
use Rattle.journal_blocks.specs.Log.{Said, Tags, Ends, Revokes, BadRevoke, Nothing, said, Entry, Reading, Log, GoesOn, HasEnded, found, first_of, is_outside, committed, by_said, by_tags, read_entry, read_log, beginning, places, entry_at, log_of, said_by, body_at, IsFaulty}

-- the log that ended stays
pub stopped-stays : (wide : Bool) (zones : ℕ) (r : Reading) (es : List Entry) → read_log wide zones (HasEnded r) es ≡ HasEnded r
stopped-stays wide zones r [] = refl
stopped-stays wide zones r (e ∷ es) = stopped-stays wide zones r es

-- one list of blocks, and then another
pub read_log-append : (wide : Bool) (zones : ℕ) (l : Log) (xs ys : List Entry) → read_log wide zones l (xs ++ ys) ≡ read_log wide zones (read_log wide zones l xs) ys
read_log-append wide zones l [] ys = refl
read_log-append wide zones l (e ∷ es) ys = read_log-append wide zones (read_entry wide zones l e) es ys

-- ---- the end of the log

-- the log goes on with as much done and the same sequence, or it has ended
abbrev Continues : Reading → Log → Type 0
Continues r l = ((q : Reading) × (l ≡ GoesOn q) × (q.done ≡ r.done) × (q.sequence ≡ r.sequence)) ⊎ (l ≡ HasEnded r)

continues-said : (zones : ℕ) (r : Reading) (at : ℕ) (w : Said) → (w ≡ Ends → ⊥) → Continues r (by_said zones r at w)
continues-said zones r at (Tags ts) ends = inl (record r { tags = ts; suspect = first_of r.suspect (if list_any (is_outside zones) ts then Some at else None) }, refl, refl, refl)
continues-said zones r at Ends ends = absurd (ends refl)
continues-said zones r at (Revokes blocks) ends = inl (record r { revokes = r.revokes ++ blocks }, refl, refl, refl)
continues-said zones r at BadRevoke ends = inl (record r { suspect = first_of r.suspect (Some at) }, refl, refl, refl)
continues-said zones r at Nothing ends = inr refl

continues : (wide : Bool) (zones : ℕ) (r : Reading) (e : Entry) (ts : List Tag) → (said wide r.sequence e.body ≡ Ends → ⊥) → Continues r (by_tags wide zones r e ts)
continues wide zones r e [] ends = continues-said zones r e.at (said wide r.sequence e.body) ends
continues wide zones r e (t ∷ ts) ends = inl (record r { tags = ts; bodies = r.bodies ++ record { block = t.block; body = restored t.escaped e.body } ∷ [] }, refl, refl, refl)

-- Over blocks of which none reads as the commit block of the sequence that is expected, nothing more is done.
pub done-stays : (wide : Bool) (zones : ℕ) (r : Reading) (es : List Entry) → ((e : Entry) → In e es → said wide r.sequence e.body ≡ Ends → ⊥) → (found (read_log wide zones (GoesOn r) es)).done ≡ r.done
done-stays wide zones r [] none = refl
done-stays wide zones r (e ∷ es) none =
    ⊎_elim
    (λ g. ap (λ (l : Log). (found (read_log wide zones l es)).done) g.1
    ∙ (done-stays wide zones g.0 es (λ f h k. none f (inr h) (subst (λ n. said wide n f.body ≡ Ends) g.3 k)) ∙ g.2))
    (λ stop. ap (λ (l : Log). (found (read_log wide zones l es)).done) stop ∙ ap (λ (l : Log). (found l).done) (stopped-stays wide zones r es))
    (continues wide zones r e r.tags (none e (inl refl)))

-- ---- where bodies lie

abbrev pub LieInside : ℕ → List Logged → Type 0
LieInside zones copies = (p : Logged) → In p copies → (2 ≤ p.block) × (p.block < zones)

-- without a fault so far, tags and bodies lie on blocks of the volume, behind its superblock
pub record IsInside (zones : ℕ) (r : Reading) : Type 0 where
  pub tags : r.suspect ≡ None → (t : Tag) → In t r.tags → (2 ≤ t.block) × (t.block < zones)
  pub bodies : r.suspect ≡ None → LieInside zones r.bodies
  pub done : r.fault ≡ None → (t : Transaction) → In t r.done → LieInside zones t.bodies

first_none : (o p : Option ℕ) → first_of o p ≡ None → (o ≡ None) × (p ≡ None)
first_none None p e = (refl, e)
first_none (Some at) p e = absurd (cc)

some_none : (at : ℕ) → ◌≡◌ {A = Option ℕ} (Some at) None → ⊥
some_none at e = cc

if_none : (bad : Bool) (at : ℕ) → (if bad then Some at else None) ≡ None → bad ≡ false
if_none true at e = absurd (some_none at e)
if_none false at e = refl

inside_tag : (zones : ℕ) (t : Tag) → is_outside zones t ≡ false → (2 ≤ t.block) × (t.block < zones)
inside_tag zones t e = let p = or_parts (nat_lt t.block 2) (nat_le zones t.block) e in (ltb-false t.block 2 p.0, leb-false zones t.block p.1)

inside-said : (zones : ℕ) (r : Reading) (at : ℕ) (w : Said) → r.tags ≡ [] → IsInside zones r → IsInside zones (found (by_said zones r at w))
inside-said zones r at (Tags ts) empty k = record {
  tags = λ e t h. inside_tag zones t (none-list_any (is_outside zones) ts t (if_none (list_any (is_outside zones) ts) at (first_none r.suspect _ e).1) h);
  bodies = λ e. k.bodies (first_none r.suspect _ e).0;
  done = k.done;
}
inside-said zones r at Ends empty k = record {
  tags = λ e t h. absurd h;
  bodies = λ e p h. absurd h;
  done = λ e t h. ⊎_elim (k.done (first_none r.fault r.suspect e).0 t)
      (λ same. subst (λ (u : Transaction). LieInside zones u.bodies) same (k.bodies (first_none r.fault r.suspect e).1)) (In-push_cases r.done _ t h);
}
inside-said zones r at (Revokes blocks) empty k = record { tags = k.tags; bodies = k.bodies; done = k.done }
inside-said zones r at BadRevoke empty k = record {
  tags = λ e t h. k.tags (first_none r.suspect (Some at) e).0 t h;
  bodies = λ e. k.bodies (first_none r.suspect (Some at) e).0;
  done = k.done;
}
inside-said zones r at Nothing empty k = k

inside-entry : (wide : Bool) (zones : ℕ) (r : Reading) (e : Entry) (ts : List Tag) → r.tags ≡ ts → IsInside zones r → IsInside zones (found (by_tags wide zones r e ts))
inside-entry wide zones r e [] same k = inside-said zones r e.at (said wide r.sequence e.body) same k
inside-entry wide zones r e (t ∷ ts) same k = record {
  tags = λ none u h. k.tags none u (subst (In u) (sym same) (inr h));
  bodies = λ none p h. ⊎_elim (k.bodies none p)
      (λ here. subst (λ (q : Logged). (2 ≤ q.block) × (q.block < zones)) here (k.tags none t (subst (In t) (sym same) (inl refl)))) (In-push_cases r.bodies _ p h);
  done = k.done;
}

-- the bodies of a log without a fault lie inside the volume
pub inside-log : (wide : Bool) (zones : ℕ) (l : Log) (es : List Entry) → IsInside zones (found l) → IsInside zones (found (read_log wide zones l es))
inside-log wide zones l [] k = k
inside-log wide zones (HasEnded r) (e ∷ es) k = inside-log wide zones (HasEnded r) es k
inside-log wide zones (GoesOn r) (e ∷ es) k = inside-log wide zones (by_tags wide zones r e r.tags) es (inside-entry wide zones r e r.tags refl k)

-- a body that a mark leaves is one of the log's
pub set-body : (ts : List Transaction) (b : ℕ) (x : List ℕ) → mark_in ts b ≡ Set x → (t : Transaction) × In t ts × In (record { block = b; body = x }) t.bodies
set-body ts b x e =
    let l = mark-last_logged ts b x e in
    let copy : Logged = record { block = b; body = x } in (
      l.transaction,
      subst (In l.transaction) (sym l.here) (In-append_right l.before (l.transaction ∷ l.after) l.transaction (inl refl)),
      subst (In copy) (sym l.last.here) (In-append_right l.last.before (copy ∷ l.last.after) copy (inl refl)),
    )

-- of a log without a fault each such body lies inside the volume
pub mark-inside : (base : ℕ) (j : JournalSuper) (image : List (List ℕ)) (b : ℕ) (x : List ℕ) → (log_of base j image).fault ≡ None → mark_in (log_of base j image).done b ≡ Set x → (2 ≤ b) × (b < base)
unfolding log_of
mark-inside base j image b x none e =
    let begun : IsInside base (beginning j.sequence) = record { tags = λ n t h. absurd h; bodies = λ n p h. absurd h; done = λ n t h. absurd h } in
    let law = inside-log (is_wide j) base (GoesOn (beginning j.sequence)) (map (entry_at base image) (places j)) begun in
    let i = set-body (log_of base j image).done b x e in
    law.done none i.0 i.1 (record { block = b; body = x }) i.2

-- ---- how many transactions there are

one_done : (zones : ℕ) (r : Reading) (at : ℕ) (w : Said) → length (found (by_said zones r at w)).done ≤ length r.done + 1
one_done zones r at (Tags ts) = omega arith
one_done zones r at Ends = let n = length-append r.done (record { bodies = r.bodies; revokes = r.revokes } ∷ []) in omega (arith, n)
one_done zones r at (Revokes blocks) = omega arith
one_done zones r at BadRevoke = omega arith
one_done zones r at Nothing = omega arith

step_done : (wide : Bool) (zones : ℕ) (r : Reading) (e : Entry) (ts : List Tag) → length (found (by_tags wide zones r e ts)).done ≤ length r.done + 1
step_done wide zones r e [] = one_done zones r e.at (said wide r.sequence e.body)
step_done wide zones r e (t ∷ ts) = omega arith

-- at most one for each block
done_grows : (wide : Bool) (zones : ℕ) (l : Log) (es : List Entry) → length (found (read_log wide zones l es)).done ≤ length (found l).done + length es
done_grows wide zones l [] = omega arith
done_grows wide zones (HasEnded r) (e ∷ es) = let n = done_grows wide zones (HasEnded r) es in omega (arith, n)
done_grows wide zones (GoesOn r) (e ∷ es) = let n = done_grows wide zones (by_tags wide zones r e r.tags) es in let one = step_done wide zones r e r.tags in omega (arith, n, one)

pub done_few : (base : ℕ) (s : JournalSuper) (image : List (List ℕ)) → s.first ≤ s.start → s.start < s.maxlen → length (log_of base s image).done ≤ s.maxlen
unfolding log_of
done_few base s image low high =
    let n = done_grows (is_wide s) base (GoesOn (beginning s.sequence)) (map (entry_at base image) (places s)) in
    let m = length-map (places s) (entry_at base image) in
    let p = length-append (range_with_len s.start (s.maxlen - s.start)) (range_with_len s.first (s.start - s.first)) in
    let a = length-range_with_len s.start (s.maxlen - s.start) in
    let b = length-range_with_len s.first (s.start - s.first) in
    omega (arith, n, m, p, a, b)

-- ---- the sequence that is expected behind the log

next_sequence : (first n : ℕ) → ((first + n) % 2 ^ 32 + 1) % 2 ^ 32 ≡ (first + (n + 1)) % 2 ^ 32
next_sequence first n = omega arith

count_said : (zones first : ℕ) (r : Reading) (at : ℕ) (w : Said) → r.sequence ≡ (first + length r.done) % 2 ^ 32 → (found (by_said zones r at w)).sequence ≡ (first + length (found (by_said zones r at w)).done) % 2 ^ 32
count_said zones first r at (Tags ts) e = e
count_said zones first r at Ends e =
    let size : length (committed r).done ≡ length r.done + 1 = length-append r.done (record { bodies = r.bodies; revokes = r.revokes } ∷ []) in
    ap (λ (n : ℕ). (n + 1) % 2 ^ 32) e ∙ (next_sequence first (length r.done) ∙ ap (λ (n : ℕ). (first + n) % 2 ^ 32) (sym size))
count_said zones first r at (Revokes blocks) e = e
count_said zones first r at BadRevoke e = e
count_said zones first r at Nothing e = e

count_entry : (wide : Bool) (zones first : ℕ) (r : Reading) (e : Entry) (ts : List Tag) → r.sequence ≡ (first + length r.done) % 2 ^ 32 → (found (by_tags wide zones r e ts)).sequence ≡ (first + length (found (by_tags wide zones r e ts)).done) % 2 ^ 32
count_entry wide zones first r e [] k = count_said zones first r e.at (said wide r.sequence e.body) k
count_entry wide zones first r e (t ∷ ts) k = k

count_log : (wide : Bool) (zones first : ℕ) (l : Log) (es : List Entry) → (found l).sequence ≡ (first + length (found l).done) % 2 ^ 32 → (found (read_log wide zones l es)).sequence ≡ (first + length (found (read_log wide zones l es)).done) % 2 ^ 32
count_log wide zones first l [] k = k
count_log wide zones first (HasEnded r) (e ∷ es) k = count_log wide zones first (HasEnded r) es k
count_log wide zones first (GoesOn r) (e ∷ es) k = count_log wide zones first (by_tags wide zones r e r.tags) es (count_entry wide zones first r e r.tags k)

below_itself : (n : ℕ) → n < 2 ^ 32 → n ≡ (n + 0) % 2 ^ 32
below_itself n lt = omega arith

-- the sequence that is expected behind the log counts its transactions, and comes round at 2^32
pub log_counts : (base : ℕ) (s : JournalSuper) (image : List (List ℕ)) → s.sequence < 2 ^ 32 → (log_of base s image).sequence ≡ (s.sequence + length (log_of base s image).done) % 2 ^ 32
unfolding log_of
log_counts base s image lt = count_log (is_wide s) base s.sequence (GoesOn (beginning s.sequence)) (map (entry_at base image) (places s)) (below_itself s.sequence lt)

-- ---- where faults lie

none_bad : ◌≡◌ {A = Said} Nothing BadRevoke → ⊥
none_bad e = cc

bad_by : (own : Bool) (w : Result LogBlock JournalFault) → (if own then said_by w else Nothing) ≡ BadRevoke → w ≡ Err BadCount
bad_by false w e = absurd (none_bad e)
bad_by true (Ok (Descriptor n tags)) e = absurd (let k : ⊥ = cc in k)
bad_by true (Ok (Commit n)) e = absurd (let k : ⊥ = cc in k)
bad_by true (Ok (Revoke n blocks)) e = absurd (let k : ⊥ = cc in k)
bad_by true (Err BadCount) e = refl
bad_by true (Err NotMagic) e = absurd (none_bad e)
bad_by true (Err BadKind) e = absurd (none_bad e)
bad_by true (Err (Feature bits)) e = absurd (none_bad e)
bad_by true (Err NoMemory) e = absurd (none_bad e)

said_bad : (wide : Bool) (sequence : ℕ) (b : List ℕ) → said wide sequence b ≡ BadRevoke → log_block_of wide b ≡ Err BadCount
unfolding said
said_bad wide sequence b e = bad_by (sequence_of b == sequence) (log_block_of wide b) e

none_tags : (ts : List Tag) → ◌≡◌ {A = Said} Nothing (Tags ts) → ⊥
none_tags ts e = cc

tags_by : (own : Bool) (w : Result LogBlock JournalFault) (ts : List Tag) → (if own then said_by w else Nothing) ≡ Tags ts → (n : ℕ) × (w ≡ Ok (Descriptor n ts))
tags_by false w ts e = absurd (none_tags ts e)
tags_by true (Ok (Descriptor n tags)) ts e = let same : tags ≡ ts = cc in (n, ap (λ (us : List Tag). Ok (Descriptor n us)) same)
tags_by true (Ok (Commit n)) ts e = absurd (let k : ⊥ = cc in k)
tags_by true (Ok (Revoke n blocks)) ts e = absurd (let k : ⊥ = cc in k)
tags_by true (Err BadCount) ts e = absurd (let k : ⊥ = cc in k)
tags_by true (Err NotMagic) ts e = absurd (none_tags ts e)
tags_by true (Err BadKind) ts e = absurd (none_tags ts e)
tags_by true (Err (Feature bits)) ts e = absurd (none_tags ts e)
tags_by true (Err NoMemory) ts e = absurd (none_tags ts e)

said_tags : (wide : Bool) (sequence : ℕ) (b : List ℕ) (ts : List Tag) → said wide sequence b ≡ Tags ts → (n : ℕ) × (log_block_of wide b ≡ Ok (Descriptor n ts))
unfolding said
said_tags wide sequence b ts e = tags_by (sequence_of b == sequence) (log_block_of wide b) ts e

first_some : (o p : Option ℕ) (at : ℕ) → first_of o p ≡ Some at → (o ≡ Some at) ⊎ (p ≡ Some at)
first_some None p at e = inr e
first_some (Some x) p at e = inl e

if_some : (bad : Bool) (x at : ℕ) → (if bad then Some x else None) ≡ Some at → (bad ≡ true) × (x ≡ at)
if_some true x at e = (refl, cc)
if_some false x at e = absurd (let k : ⊥ = cc in k)

-- one of these entries is at this block and has a fault
pub record IsFaultAt (wide : Bool) (zones : ℕ) (es : List Entry) (at : ℕ) : Type 0 where
  pub entry : Entry
  pub listed : In entry es
  pub there : entry.at ≡ at
  pub faulty : IsFaulty wide zones entry.body

-- what is suspected and what counts is a fault of one of these entries
record AreFaults (wide : Bool) (zones : ℕ) (es : List Entry) (r : Reading) : Type 0 where
  pub suspect : (at : ℕ) → r.suspect ≡ Some at → IsFaultAt wide zones es at
  pub fault : (at : ℕ) → r.fault ≡ Some at → IsFaultAt wide zones es at

faults-said : (wide : Bool) (zones : ℕ) (es : List Entry) (r : Reading) (e : Entry) (w : Said) → In e es → said wide r.sequence e.body ≡ w → AreFaults wide zones es r → AreFaults wide zones es (found (by_said zones r e.at w))
faults-said wide zones es r e (Tags ts) i is k = record {
  suspect = λ at h. ⊎_elim (k.suspect at)
      (λ new. let b = if_some (list_any (is_outside zones) ts) e.at at new in let d = said_tags wide r.sequence e.body ts is in record { entry = e; listed = i; there = b.1; faulty = inr (d.0, ts, d.1, b.0) })
      (first_some r.suspect _ at h);
  fault = k.fault;
}
faults-said wide zones es r e Ends i is k = record {
  suspect = λ at h. absurd (let n : ⊥ = cc in n);
  fault = λ at h. ⊎_elim (k.fault at) (k.suspect at) (first_some r.fault r.suspect at h);
}
faults-said wide zones es r e (Revokes blocks) i is k = record { suspect = k.suspect; fault = k.fault }
faults-said wide zones es r e BadRevoke i is k = record {
  suspect = λ at h. ⊎_elim (k.suspect at)
      (λ new. let same : e.at ≡ at = cc in record { entry = e; listed = i; there = same; faulty = inl (said_bad wide r.sequence e.body is) })
      (first_some r.suspect (Some e.at) at h);
  fault = k.fault;
}
faults-said wide zones es r e Nothing i is k = k

faults-entry : (wide : Bool) (zones : ℕ) (es : List Entry) (r : Reading) (e : Entry) (ts : List Tag) → In e es → AreFaults wide zones es r → AreFaults wide zones es (found (by_tags wide zones r e ts))
faults-entry wide zones es r e [] i k = faults-said wide zones es r e (said wide r.sequence e.body) i refl k
faults-entry wide zones es r e (t ∷ ts) i k = record { suspect = k.suspect; fault = k.fault }

faults-log : (wide : Bool) (zones : ℕ) (all : List Entry) (l : Log) (es : List Entry) → ((e : Entry) → In e es → In e all) → AreFaults wide zones all (found l) → AreFaults wide zones all (found (read_log wide zones l es))
faults-log wide zones all l [] of k = k
faults-log wide zones all (HasEnded r) (e ∷ es) of k = faults-log wide zones all (HasEnded r) es (λ f i. of f (inr i)) k
faults-log wide zones all (GoesOn r) (e ∷ es) of k = faults-log wide zones all (by_tags wide zones r e r.tags) es (λ f i. of f (inr i)) (faults-entry wide zones all r e r.tags (of e (inl refl)) k)

-- the fault of a log is that of one of its blocks
pub fault_there : (base : ℕ) (s : JournalSuper) (image : List (List ℕ)) (at : ℕ) → (log_of base s image).fault ≡ Some at → (place : ℕ) × In place (places s) × (base + place ≡ at) × IsFaulty (is_wide s) base (body_at image at)
unfolding log_of
fault_there base s image at e =
    let all = map (entry_at base image) (places s) in
    let begun : AreFaults (is_wide s) base all (beginning s.sequence) = record { suspect = λ n h. absurd (let k : ⊥ = cc in k); fault = λ n h. absurd (let k : ⊥ = cc in k) } in
    let f = (faults-log (is_wide s) base all (GoesOn (beginning s.sequence)) all (λ f i. i) begun).fault at e in
    let p = In-map (entry_at base image) (places s) f.entry f.listed in
    let there : base + p.0 ≡ at = ap (λ (x : Entry). x.at) p.2 ∙ f.there in
    let body : body_at image (base + p.0) ≡ f.entry.body = ap (λ (x : Entry). x.body) p.2 in
    (p.0, p.1, there, subst (λ (n : ℕ). IsFaulty (is_wide s) base (body_at image n)) there (subst (IsFaulty (is_wide s) base) (sym body) f.faulty))

-- ---- which fault counts

-- a fault counts, or one is suspected in a transaction behind the first n
abbrev IsKnown : ℕ → Reading → Type 0
IsKnown n r = ((at : ℕ) × (r.fault ≡ Some at)) ⊎ ((at : ℕ) × (r.suspect ≡ Some at) × (length r.done ≡ n))

first_or : (o p : Option ℕ) (at : ℕ) → p ≡ Some at → (first : ℕ) × (first_of o p ≡ Some first)
first_or None p at e = (at, e)
first_or (Some x) p at e = (x, refl)

first_stays : (o p : Option ℕ) (at : ℕ) → o ≡ Some at → first_of o p ≡ Some at
first_stays None p at e = absurd (let k : ⊥ = cc in k)
first_stays (Some x) p at e = e

known-said : (zones n : ℕ) (r : Reading) (at : ℕ) (w : Said) → IsKnown n r → IsKnown n (found (by_said zones r at w))
known-said zones n r at (Tags ts) (inl f) = inl f
known-said zones n r at (Tags ts) (inr s) = inr (s.0, first_stays r.suspect _ s.0 s.1, s.2)
known-said zones n r at Ends (inl f) = inl (f.0, first_stays r.fault r.suspect f.0 f.1)
known-said zones n r at Ends (inr s) = inl (first_or r.fault r.suspect s.0 s.1)
known-said zones n r at (Revokes blocks) (inl f) = inl f
known-said zones n r at (Revokes blocks) (inr s) = inr s
known-said zones n r at BadRevoke (inl f) = inl f
known-said zones n r at BadRevoke (inr s) = inr (s.0, first_stays r.suspect (Some at) s.0 s.1, s.2)
known-said zones n r at Nothing k = k

known-entry : (wide : Bool) (zones n : ℕ) (r : Reading) (e : Entry) (ts : List Tag) → IsKnown n r → IsKnown n (found (by_tags wide zones r e ts))
known-entry wide zones n r e [] k = known-said zones n r e.at (said wide r.sequence e.body) k
known-entry wide zones n r e (t ∷ ts) (inl f) = inl f
known-entry wide zones n r e (t ∷ ts) (inr s) = inr s

known-log : (wide : Bool) (zones n : ℕ) (l : Log) (es : List Entry) → IsKnown n (found l) → IsKnown n (found (read_log wide zones l es))
known-log wide zones n l [] k = k
known-log wide zones n (HasEnded r) (e ∷ es) k = known-log wide zones n (HasEnded r) es k
known-log wide zones n (GoesOn r) (e ∷ es) k = known-log wide zones n (by_tags wide zones r e r.tags) es (known-entry wide zones n r e r.tags k)

-- what is suspected in a transaction counts once the transaction is whole
pub suspect_counts : (wide : Bool) (zones : ℕ) (r : Reading) (es : List Entry) (at : ℕ) → r.suspect ≡ Some at → length r.done < length (found (read_log wide zones (GoesOn r) es)).done
    → (first : ℕ) × ((found (read_log wide zones (GoesOn r) es)).fault ≡ Some first)
suspect_counts wide zones r es at e more =
    ⊎_elim (λ f. f) (λ s. let same = s.2 in absurd (omega (arith, more, same))) (known-log wide zones (length r.done) (GoesOn r) es (inr (at, e, refl)))

stays-said : (zones : ℕ) (r : Reading) (at first : ℕ) (w : Said) → r.fault ≡ Some first → (found (by_said zones r at w)).fault ≡ Some first
stays-said zones r at first (Tags ts) e = e
stays-said zones r at first Ends e = first_stays r.fault r.suspect first e
stays-said zones r at first (Revokes blocks) e = e
stays-said zones r at first BadRevoke e = e
stays-said zones r at first Nothing e = e

stays-entry : (wide : Bool) (zones : ℕ) (r : Reading) (e : Entry) (ts : List Tag) (first : ℕ) → r.fault ≡ Some first → (found (by_tags wide zones r e ts)).fault ≡ Some first
stays-entry wide zones r e [] first k = stays-said zones r e.at first (said wide r.sequence e.body) k
stays-entry wide zones r e (t ∷ ts) first k = k

-- the first fault along the log stays
pub fault_stays : (wide : Bool) (zones : ℕ) (l : Log) (es : List Entry) (first : ℕ) → (found l).fault ≡ Some first → (found (read_log wide zones l es)).fault ≡ Some first
fault_stays wide zones l [] first k = k
fault_stays wide zones (HasEnded r) (e ∷ es) first k = fault_stays wide zones (HasEnded r) es first k
fault_stays wide zones (GoesOn r) (e ∷ es) first k = fault_stays wide zones (by_tags wide zones r e r.tags) es first (stays-entry wide zones r e r.tags first k)

own : (wide : Bool) (sequence : ℕ) (b : List ℕ) → sequence_of b ≡ sequence → said wide sequence b ≡ said_by (log_block_of wide b)
unfolding said
own wide sequence b e = ap (λ (t : Bool). if t then said_by (log_block_of wide b) else Nothing) (eq-eqb (sequence_of b) sequence e)

-- where no body is due, the block is what it says
read_header : (wide : Bool) (zones : ℕ) (r : Reading) (e : Entry) (w : Result LogBlock JournalFault) → r.tags ≡ [] → sequence_of e.body ≡ r.sequence → log_block_of wide e.body ≡ w
    → read_log wide zones (GoesOn r) (e ∷ []) ≡ by_said zones r e.at (said_by w)
read_header wide zones r e w none same is =
    ap (λ (ts : List Tag). by_tags wide zones r e ts) none
    ∙ ap (λ (v : Said). by_said zones r e.at v) (own wide r.sequence e.body same ∙ ap said_by is)

pub revoke_suspected : (wide : Bool) (zones : ℕ) (r : Reading) (e : Entry) → r.tags ≡ [] → r.suspect ≡ None → sequence_of e.body ≡ r.sequence → log_block_of wide e.body ≡ Err BadCount
    → (found (read_log wide zones (GoesOn r) (e ∷ []))).suspect ≡ Some e.at
revoke_suspected wide zones r e none clean same is =
    ap (λ (l : Log). (found l).suspect) (read_header wide zones r e (Err BadCount) none same is) ∙ ap (λ (o : Option ℕ). first_of o (Some e.at)) clean

pub descriptor_suspected : (wide : Bool) (zones n : ℕ) (tags : List Tag) (r : Reading) (e : Entry) → r.tags ≡ [] → r.suspect ≡ None → sequence_of e.body ≡ r.sequence
    → log_block_of wide e.body ≡ Ok (Descriptor n tags) → list_any (is_outside zones) tags ≡ true → (found (read_log wide zones (GoesOn r) (e ∷ []))).suspect ≡ Some e.at
descriptor_suspected wide zones n tags r e none clean same is outside =
    ap (λ (l : Log). (found l).suspect) (read_header wide zones r e (Ok (Descriptor n tags)) none same is)
    ∙ (ap (λ (o : Option ℕ). first_of o (if list_any (is_outside zones) tags then Some e.at else None)) clean
    ∙ ap (λ (b : Bool). if b then Some e.at else None) outside)
