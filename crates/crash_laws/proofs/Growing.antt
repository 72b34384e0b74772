-- One request more: what was true of the old places stays true, and what holds of the new list holds of the
-- old one or of the new place.
use Rattle.std.specs.Prelude.{◌≡◌, ℕ, ◌<◌, ◌⊎◌, List, [], ◌∷◌, ◌++◌, length, Option, Some, None, slice_get, IsTrue, IsSomeAnd, ◌||◌, refl}
use Rattle.std.specs.Option.{option_and_then}
use Rattle.std.proofs.Common.{sym, ap, subst, ◌∙◌, inl, inr, ⊎_elim, arith, length-append}
use Rattle.std.proofs.lemmas.Bool.{cases_lt}
use Rattle.std.proofs.lemmas.Option.{none-some}
use Rattle.blk_base.specs.laws.Members.{slice_get-length, slice_get-push, slice_get-push_left, slice_get-push_cases}
use Rattle.order_model.specs.declared.request.Request.{Request}
use Rattle.order_model.specs.declared.note.Note.{Note}
use Rattle.order_model.specs.declared.note.Note.TheVariants.{Commit}
use Rattle.order_model.specs.OrderClosed.{IsPutOf, IsPutWith, IsOrdered, IsFence, is_flush, kind_block, kind_body}
use Rattle.crash_laws.specs.Ordering.{Fenced, IsClosedOff}
use Rattle.crash_laws.specs.Session.{HasNote, log_transaction, IsLog, CommitBefore}
use Rattle.crash_laws.specs.laws.Submitting.{Submitting, after, new_place}

-- ---- requests

pub fact_old : {X : Type 0} (xs : List X) (x : X) (i : ℕ) (P : Option X → Type 0) → i < length xs → P (slice_get xs i) → P (slice_get (xs ++ x ∷ []) i)
fact_old xs x i P lt p = subst P (sym (slice_get-push_left xs x i lt)) p

pub fact_back : {X : Type 0} (xs : List X) (x : X) (i : ℕ) (P : Option X → Type 0) → i < length xs → P (slice_get (xs ++ x ∷ []) i) → P (slice_get xs i)
fact_back xs x i P lt p = subst P (slice_get-push_left xs x i lt) p

some_within : {X Y : Type 0} (xs : List X) (i : ℕ) (f : X → Option Y) (y : Y) → option_and_then f (slice_get xs i) ≡ Some y → i < length xs
some_within {X = X} {Y = Y} xs i f y e = by (slice_get xs i) refl e
  where
    by : (o : Option X) → slice_get xs i ≡ o → option_and_then f o ≡ Some y → i < length xs
    by None q n = absurd (none-some y n)
    by (Some x) q n = slice_get-length xs i x q

holds_within : {X : Type 0} (xs : List X) (i : ℕ) (P : X → Type 0) → IsSomeAnd (slice_get xs i) P → i < length xs
holds_within {X = X} xs i P h = by (slice_get xs i) refl h
  where
    by : (o : Option X) → slice_get xs i ≡ o → IsSomeAnd o P → i < length xs
    by None q n = absurd n
    by (Some x) q n = slice_get-length xs i x q

pub put_within : (rs : List Request) (i b : ℕ) → IsPutOf rs i b → i < length rs
put_within rs i b h = some_within rs i (λ (r : Request). kind_block r.kind) b h

pub put_old : (rs : List Request) (q : Request) (i b : ℕ) → IsPutOf rs i b → IsPutOf (rs ++ q ∷ []) i b
put_old rs q i b h = fact_old rs q i (λ o. option_and_then (λ (r : Request). kind_block r.kind) o ≡ Some b) (put_within rs i b h) h

pub body_old : (rs : List Request) (q : Request) (i : ℕ) (x : List ℕ) → IsPutWith rs i x → IsPutWith (rs ++ q ∷ []) i x
body_old rs q i x h = fact_old rs q i (λ o. option_and_then (λ (r : Request). kind_body r.kind) o ≡ Some x) (some_within rs i (λ (r : Request). kind_body r.kind) x h) h

pub ordered_old : (rs : List Request) (q : Request) (i : ℕ) → IsOrdered rs i → IsOrdered (rs ++ q ∷ []) i
ordered_old rs q i h = fact_old rs q i (λ o. IsSomeAnd o (λ r. IsTrue r.ordered)) (holds_within rs i (λ r. IsTrue r.ordered) h) h

pub fence_old : (rs : List Request) (q : Request) (i : ℕ) → IsFence rs i → IsFence (rs ++ q ∷ []) i
fence_old rs q i h = fact_old rs q i (λ o. IsSomeAnd o (λ r. IsTrue (r.barrier || is_flush r.kind))) (holds_within rs i (λ r. IsTrue (r.barrier || is_flush r.kind)) h) h

pub fenced_old : (rs : List Request) (q : Request) (i j : ℕ) → Fenced rs i j → Fenced (rs ++ q ∷ []) i j
fenced_old rs q i j f = (f.0, f.1, f.2, fence_old rs q f.0 f.3)

-- ---- a session with one request more

module _ (p : Submitting) where
  pub note_old : (i : ℕ) (k : Note) → HasNote p.session i k → HasNote (after p) i k
  note_old i k h = fact_old p.session.notes p.note i (λ o. o ≡ Some k) (slice_get-length p.session.notes i k h) h

  pub note_new : HasNote (after p) (new_place p) p.note
  note_new = slice_get-push p.session.notes p.note

  -- an old note, or the new one
  pub note_cases : (i : ℕ) (k : Note) → HasNote (after p) i k → HasNote p.session i k ⊎ ((i ≡ new_place p) × (p.note ≡ k))
  note_cases i k h = slice_get-push_cases p.session.notes p.note i k h

  pub log_within : (k i : ℕ) → IsLog p.session k i → i < new_place p
  log_within k i h = some_within p.session.notes i log_transaction k h

  pub log_cases : (k i : ℕ) → IsLog (after p) k i → IsLog p.session k i ⊎ ((i ≡ new_place p) × (log_transaction p.note ≡ Some k))
  log_cases k i h =
      let lt = some_within (p.session.notes ++ p.note ∷ []) i log_transaction k h in
      let size = length-append p.session.notes (p.note ∷ []) in
      ⊎_elim
      (λ old. inl (fact_back p.session.notes p.note i (λ o. option_and_then log_transaction o ≡ Some k) old h))
      (λ past.
      let e : i ≡ new_place p = omega arith in
      inr (e, sym (ap (option_and_then log_transaction) (slice_get-push p.session.notes p.note)) ∙ subst (IsLog (after p) k) e h))
      (cases_lt i (new_place p))

  pub commit_before_old : (k i : ℕ) → CommitBefore p.session k i → CommitBefore (after p) k i
  commit_before_old k i c = (c.0, note_old c.0 (Commit k) c.1, c.2)

  -- the new request stands at the new place
  pub request_new : slice_get (p.session.requests ++ p.request ∷ []) (new_place p) ≡ Some p.request
  request_new = ap (slice_get (p.session.requests ++ p.request ∷ [])) p.counted ∙ slice_get-push p.session.requests p.request

  pub request_old : (i : ℕ) → i < new_place p → slice_get (p.session.requests ++ p.request ∷ []) i ≡ slice_get p.session.requests i
  request_old i lt = let same = p.counted in slice_get-push_left p.session.requests p.request i (omega arith)

  pub put_new : (b : ℕ) → kind_block p.request.kind ≡ Some b → IsPutOf (p.session.requests ++ p.request ∷ []) (new_place p) b
  put_new b e = ap (option_and_then (λ (r : Request). kind_block r.kind)) request_new ∙ e

  pub body_new : (x : List ℕ) → kind_body p.request.kind ≡ Some x → IsPutWith (p.session.requests ++ p.request ∷ []) (new_place p) x
  body_new x e = ap (option_and_then (λ (r : Request). kind_body r.kind)) request_new ∙ e

  pub new_put : (b : ℕ) → IsPutOf (p.session.requests ++ p.request ∷ []) (new_place p) b → kind_block p.request.kind ≡ Some b
  new_put b h = sym (ap (option_and_then (λ (r : Request). kind_block r.kind)) request_new) ∙ h

  pub put_back : (i b : ℕ) → i < new_place p → IsPutOf (p.session.requests ++ p.request ∷ []) i b → IsPutOf p.session.requests i b
  put_back i b lt h = sym (ap (option_and_then (λ (r : Request). kind_block r.kind)) (request_old i lt)) ∙ h

  pub ordered_new : IsTrue p.request.ordered → IsOrdered (p.session.requests ++ p.request ∷ []) (new_place p)
  ordered_new t = subst (λ o. IsSomeAnd o (λ r. IsTrue r.ordered)) (sym request_new) t

  pub fence_new : IsTrue (p.request.barrier || is_flush p.request.kind) → IsFence (p.session.requests ++ p.request ∷ []) (new_place p)
  fence_new t = subst (λ o. IsSomeAnd o (λ r. IsTrue (r.barrier || is_flush r.kind))) (sym request_new) t

  pub fence_within : (b : ℕ) → IsFence p.session.requests b → b < new_place p
  fence_within b h =
      let lt = holds_within p.session.requests b (λ r. IsTrue (r.barrier || is_flush r.kind)) h in
      let same = p.counted in
      omega arith

  -- what is closed off stays before the new place with a barrier between
  pub closed_off : (i : ℕ) → IsClosedOff p.session.requests i → Fenced (p.session.requests ++ p.request ∷ []) i (new_place p)
  closed_off i b = (b.0, b.1, fence_within b.0 b.2, fence_old p.session.requests p.request b.0 b.2)
