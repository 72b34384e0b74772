-- What a page and a commit block owe to the pages when they are submitted.
use Rattle.std.specs.Prelude.{◌≡◌, ℕ, ◌+◌, ◌-◌, ◌<◌, ◌≤◌, true, List, Some}
use Rattle.order_model.specs.declared.request.Request.{Request}
use Rattle.order_model.specs.declared.note.Note.TheVariants.{Page, Commit}
use Rattle.order_model.specs.OrderClosed.{IsOrdered, kind_block, kind_body}
use Rattle.volume_ops.specs.Reads.{Reads}
use Rattle.log_model.specs.Marks.{Set, mark_in, transactions_from}
use Rattle.crash_laws.specs.History.{History, IsUnmapped, Calm, last_write}
use Rattle.crash_laws.specs.Ordering.{IsClosedOff}
use Rattle.crash_laws.specs.PageRules.{IsPageTo, place_at}
use Rattle.crash_laws.specs.Session.{Session, HasNote, IsCommit, IsSubmitted}
use Rattle.crash_laws.specs.laws.Submitting.{Submitting, after, IsCommitted}

-- the given-up block, from the end of the list
pub record IsGivenUpNow {A : Type 0} (h : History A) (s : Session) (f i v o : ℕ) : Type 0 where
  pub k : ℕ
  pub commit : ℕ
  pub committed : IsCommit s k commit
  pub behind : o < commit
  pub entry : ℕ
  pub later : v < entry
  pub within : entry ≤ h.cut k
  pub unmapped : IsUnmapped h f i entry

-- the same of a block that the tree which was opened has
pub record IsOpenedGivenUp {A : Type 0} (h : History A) (s : Session) (f i : ℕ) : Type 0 where
  pub k : ℕ
  pub commit : ℕ
  pub committed : IsCommit s k commit
  pub entry : ℕ
  pub later : 1 ≤ entry
  pub within : entry ≤ h.cut k
  pub unmapped : IsUnmapped h f i entry

-- what a Page request owes
pub record NewPageClause {A : Type 0} (program : Reads A) (h : History A) (s : Session) (q : Request) (f i v z : ℕ) : Type 0 where
  pub content : kind_body q.kind ≡ Some (h.content f i v)
  pub there : h.maps v f i ≡ true
  pub place : (k : ℕ) → IsSubmitted s k → h.maps (h.cut k) f i ≡ true → Calm h f i v (h.cut k) → Calm h f i (h.cut k) v → z ≡ place_at program h s k f i
  pub versions : (o w y : ℕ) → IsPageTo s o f i w y → w ≤ v
  pub another : (o g j w : ℕ) → IsPageTo s o g j w z → ((g ≡ f) × (j ≡ i) → ⊥) → IsGivenUpNow h s g j w o
  pub logged : (k : ℕ) (x : List ℕ) → IsCommitted s k → mark_in (transactions_from s.transactions 1 k) z ≡ Set x → IsCommitted s (k + 1)
  pub given_up : (g j : ℕ) → h.maps 0 g j ≡ true → z ≡ place_at program h s 0 g j → ((g ≡ f) × (j ≡ i) → ⊥) → IsOpenedGivenUp h s g j

-- what a commit block owes for the pages before it
pub record CommitPagesClause {A : Type 0} (program : Reads A) (h : History A) (p : Submitting) (k : ℕ) : Type 0 where
  pub place : (o f i v z : ℕ) → IsPageTo p.session o f i v z → h.maps (h.cut k) f i ≡ true → Calm h f i v (h.cut k) → Calm h f i (h.cut k) v → z ≡ place_at program h (after p) k f i
  pub logged : (o f i v z : ℕ) (x : List ℕ) → IsPageTo p.session o f i v z → mark_in (transactions_from p.transactions 1 k) z ≡ Set x → (c : ℕ) × IsCommit p.session (k - 1) c × (o < c) × (v ≤ h.cut (k - 1))
  pub files : (f i : ℕ) (x : List ℕ) → h.maps (h.cut k) f i ≡ true → mark_in (transactions_from p.transactions 1 k) (place_at program h (after p) k f i) ≡ Set x → ⊥
  pub stays : (f i : ℕ) → h.maps 0 f i ≡ true → Calm h f i 0 (h.cut k) → place_at program h p.session 0 f i ≡ place_at program h (after p) k f i
  pub sent : (f i : ℕ) → h.changes k f ≡ true → h.maps (h.cut k) f i ≡ true → 1 ≤ last_write h f i (h.cut k)
      → (o : ℕ) × HasNote p.session o (Page f i (last_write h f i (h.cut k))) × IsOrdered p.session.requests o × IsClosedOff p.session.requests o

pub record PageClause {A : Type 0} (program : Reads A) (h : History A) (p : Submitting) : Type 0 where
  pub page : (f i v z : ℕ) → p.note ≡ Page f i v → kind_block p.request.kind ≡ Some z → NewPageClause program h p.session p.request f i v z
  pub commit : (k : ℕ) → p.note ≡ Commit k → CommitPagesClause program h p k
