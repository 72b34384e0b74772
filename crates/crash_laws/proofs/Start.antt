-- The empty list keeps all rules.
use Rattle.std.specs.Prelude.{◌≡◌, ℕ, ◌+◌, ◌≤◌, ◌⊎◌, [], length, Some, slice_get}
use Rattle.std.specs.Option.{option_and_then}
use Rattle.std.proofs.Common.{sym, ap, subst, ◌∙◌, inl, inr, ⊎_elim}
use Rattle.std.proofs.lemmas.Option.{none-some}
use Rattle.blk_base.specs.Members.{In}
use Rattle.order_model.specs.declared.note.Note.{Note}
use Rattle.order_model.specs.declared.note.Note.TheVariants.{Page, Super, Commit, Home, Flush, Raw}
use Rattle.volume_ops.specs.Volume.{disk_of}
use Rattle.volume_ops.specs.Reads.{Reads, blocks_read}
use Rattle.log_model.specs.Marks.{mark_in, transactions_from}
use Rattle.log_model.specs.Ring.{IsPlace}
use Rattle.log_model.proofs.Marks.{keep≢set}
use Rattle.crash_laws.specs.History.{History}
use Rattle.crash_laws.specs.PageRules.{place_at, HasOpened, PageOrder}
use Rattle.crash_laws.specs.Rules.{BaseImage, OrderRules}
use Rattle.crash_laws.specs.Session.{Session, HasNote, log_transaction, IsLog, IsSubmitted, Before, Submitted, LogBlock, log_blocks_from, image_of}

module _ {A : Type 0} (program : Reads A) (s : Session) (notes : s.notes ≡ []) where
  no_note : (i : ℕ) (n : Note) → HasNote s i n → ⊥
  no_note i n h = none-some n (sym (ap (λ ns. slice_get ns i) notes) ∙ h)

  no_log : (k i : ℕ) → IsLog s k i → ⊥
  no_log k i h = none-some k (ap (λ ns. option_and_then log_transaction (slice_get ns i)) (sym notes) ∙ h)

  pub only_before : (k : ℕ) → IsSubmitted s k → k ≡ 0
  only_before k (Before z) = z
  only_before k (Submitted c h) = absurd (no_note c (Commit k) h)

  none_there : (n : ℕ) (e : LogBlock) → slice_get (log_blocks_from 0 []) n ≡ Some e → ⊥
  none_there n e h = none-some e h

  pub rules_at_start : s.requests ≡ [] → 1 ≤ s.ring.first → IsPlace s.ring s.head → BaseImage s → ((b : ℕ) → In b (blocks_read (disk_of s.base) program) → In b s.reserved ⊎ In b s.freeable) → OrderRules program s
  rules_at_start requests first head base metadata = record {
    fits = record {
      counted = ap length notes ∙ sym (ap length requests);
      journal = first;
      home = λ i b h. absurd (no_note i (Home b) h);
      super = λ i h. absurd (no_note i Super h);
      log = λ k i h. absurd (no_log k i h);
      page = λ i f x v h. absurd (no_note i (Page f x v) h);
      flush = λ i h put. no_note i Flush h;
      raw = λ i h. no_note i Raw h;
      ordered = λ i n h t. absurd (no_note i n h);
    };
    commits = record {
      numbered = λ k i h. absurd (no_log k i h);
      once = λ k i j h g. absurd (no_note i (Commit k) h);
      barrier = λ k i h. absurd (no_note i (Commit k) h);
      behind = λ k i h pos. absurd (no_log (k + 1) i h);
      before = λ k i c h g. absurd (no_log k i h);
    };
    log = record {
      place = λ n e h. absurd (none_there n e (ap (λ ns. slice_get (log_blocks_from 0 ns) n) (sym notes) ∙ h));
      again = λ k l i j b lt h g hp gp. absurd (no_log k i h);
      header = λ i n h. absurd (no_note i n h);
      spells = λ k i h. absurd (no_note i (Commit k) h);
      head = head;
    };
    checkpoints = record {
      tail = λ i h. absurd (no_note i Super h);
      first = λ c h. absurd (no_note c (Commit 1) h);
      before = λ i freed c h g. absurd (no_note i Super h.note);
      behind = λ i freed h pos. absurd (no_note i Super h.note);
      barrier = λ i freed h pos. absurd (no_note i Super h.note);
      homes = λ i freed b x h set. absurd (no_note i Super h.note);
    };
    images = record {
      bodies = λ k b x sub set. absurd (keep≢set x (sym (ap (λ n. mark_in (transactions_from s.transactions 1 n) b) (only_before k sub)) ∙ set));
      revokes = λ k i b h r e. no_note i (Commit k) h;
      logged = λ k b sub read.
          inl (⊎_elim inl (λ old. inr (old, ap (λ n. mark_in (transactions_from s.transactions 1 n) b) (only_before k sub)))
          (metadata b (subst (λ n. In b (blocks_read (image_of s n) program)) (only_before k sub) read)));
      home = λ i b h. absurd (no_note i (Home b) h);
      pages = λ i f x v z k y h put set c. absurd (no_note i (Page f x v) h);
      freed = λ i f x v z h put old. absurd (no_note i (Page f x v) h);
    };
    base = base;
  }

  pub pages_at_start : (h : History A) → HasOpened program h s → PageOrder program h s
  pages_at_start h opened = record {
    content = λ o f i v z t. absurd (no_note o (Page f i v) t.note);
    there = λ o f i v z t. absurd (no_note o (Page f i v) t.note);
    place = λ o f i v z k t sub m c d. absurd (no_note o (Page f i v) t.note);
    versions = λ a o f i v w y z lt t u. absurd (no_note o (Page f i w) u.note);
    another = λ a o f i v g j w z lt t u n. absurd (no_note a (Page f i v) t.note);
    logged = λ o f i v z k x t pos sub set. absurd (no_note o (Page f i v) t.note);
    files = λ k f i x sub m set. absurd (keep≢set x (sym (ap (λ n. mark_in (transactions_from s.transactions 1 n) (place_at program h s k f i)) (only_before k sub)) ∙ set));
    opened = opened;
    stays = λ f i k there sub calm. ap (λ n. place_at program h s n f i) (sym (only_before k sub));
    given_up = λ o f i g j w there t apart. absurd (no_note o (Page g j w) t.note);
  }
