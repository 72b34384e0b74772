-- What sessions over calls with bytes keep is kept by the same sessions over calls as code has them.
use Rattle.std.proofs.Common.{◌≡◌, ℕ, ◌+◌, ◌≤◌, List, [], ◌∷◌, length, map, Option, refl, sym, ap, subst, ◌∙◌}
use Rattle.std.proofs.lemmas.List.{length-map}
use Rattle.log_model.specs.Marks.{Transaction}
use Rattle.tree_model.specs.declared.call.Call.{Call}
use Rattle.tree_model.specs.declared.call.Reply.{Reply}
use Rattle.tree_model.specs.Histories.{tree_after_entries}
use Rattle.volume_ops.specs.Reads.{answer}
use Rattle.volume_steps.specs.Now.{VolumeNow, room_of}
use Rattle.crash_laws.specs.Headline.{HoldsPrefix}
use Rattle.crash_laws.specs.History.{History}
use Rattle.crash_laws.specs.PromiseRules.{Covers, IsLaterKept, IsSettled}
use Rattle.crash_laws.specs.Session.{Medium, Session}
use Rattle.crash_laws.specs.Volumes.{WalkEnd}
use Rattle.flush_actor.specs.Part.{is_flush_note}
use Rattle.host_machine.specs.State.{Begun, Entry, Host}
use Rattle.host_machine.specs.Views.{cut_of, tree_after}
use Rattle.host_machine.specs.laws.Contract.{noted_history, session, IsAlike}
use Rattle.host_machine.specs.laws.Rules.{AllRules}
use Rattle.host_machine.specs.runs.Promises.{call_of, KeepsOk, IsAnswered}
use Rattle.host_machine.specs.runs.Sentences.{kept_number, IsAllSettled, KeepsSentences}
use Rattle.host_machine.specs.runs.Flushes.{one_if, count, is_sync_begin}
use Rattle.minix_host.specs.ByteCalls.{ByteCall}
use Rattle.minix_host.specs.Calls.{kind_of}
use Rattle.minix_host.specs.Runs.{call_of_entry, calls_of, HasTreeLike, tree_after_transactions, KeepsSession}
use Rattle.minix_host.specs.Sessions.{Opening, over, Stands}
use Rattle.call_sessions.specs.CallsAs.{entry_as}
use Rattle.call_sessions.specs.Sessions.{plain_call, plain_host, call_over, acting_call, tree_behind, KeepsCalls}
use Rattle.call_sessions.proofs.RunsAs.{tree_as, history_as}

module _ (s : Opening) (h : Host VolumeNow ByteCall Reply) where
  abbrev told : History WalkEnd
  told = noted_history (call_over s) (Stands s) (plain_host h).history h.cuts

  -- the history that is told of both is one
  same_history : told ≡ noted_history (over s) (Stands s) h.history h.cuts
  same_history = history_as plain_call (call_over s).model h.history (over s).place h.cuts

  abbrev at_history : (History WalkEnd → Type 0) → Type 0
  at_history P = P (noted_history (over s) (Stands s) h.history h.cuts) → P told

  back : (P : History WalkEnd → Type 0) → at_history P
  back P x = subst P (sym same_history) x

  forth : (P : History WalkEnd → Type 0) → P told → P (noted_history (over s) (Stands s) h.history h.cuts)
  forth P x = subst P same_history x

  pub answered_as : (e : ℕ) (b : Begun) → IsAnswered (over s) (Stands s) h e b → IsAnswered (call_over s) (Stands s) (plain_host h) e b
  answered_as e b a = back (λ x. KeepsOk x (session (over s) (Stands s) [] h) h.journal.flush.taken e b) a

  answered_of : (e : ℕ) (b : Begun) → IsAnswered (call_over s) (Stands s) (plain_host h) e b → IsAnswered (over s) (Stands s) h e b
  answered_of e b a = forth (λ x. KeepsOk x (session (over s) (Stands s) [] h) h.journal.flush.taken e b) a

  trees_as : (n : ℕ) → tree_after (call_over s).model (plain_host h).history n ≡ tree_after (over s).model h.history n
  trees_as n = tree_as plain_call (call_over s).model h.history n

  entries : length (plain_host h).history ≡ length h.history
  entries = length-map h.history (entry_as plain_call)

  module _ (txs : List Transaction) where
    abbrev one : Session
    one = session (over s) (Stands s) txs h

    settled_as : (m : Medium) (b : Begun) → IsAllSettled (over s) (Stands s) h txs m b → IsAllSettled (call_over s) (Stands s) (plain_host h) txs m b
    settled_as m b a = record {
      pages = back (λ x. (f i n : ℕ) → Covers x (call_of b) f i n → IsSettled (over s).program x one m (kept_number (over s) (Stands s) h txs m) f i n) a.pages;
      metadata = λ n c. subst (λ k. n ≤ cut_of h.cuts k (kept_number (over s) (Stands s) h txs m)) (sym entries) (a.metadata n c);
    }

    pub sentences_as : KeepsSentences (over s) (Stands s) h txs → KeepsSentences (call_over s) (Stands s) (plain_host h) txs
    sentences_as k = record {
      prefix = λ m disk order recovers. back (λ x. HoldsPrefix (over s).program x one m disk (kept_number (over s) (Stands s) h txs m)) (k.prefix m disk order recovers);
      tree = λ m disk order recovers.
          let F = kept_number (over s) (Stands s) h txs m in
          subst (λ n. IsAlike (over s) (Stands s) (answer disk (over s).program) (tree_after (call_over s).model (plain_host h).history (cut_of h.cuts n F))) (sym entries)
          (subst (IsAlike (over s) (Stands s) (answer disk (over s).program)) (sym (trees_as (cut_of h.cuts (length h.history) F))) (k.tree m disk order recovers));
      barriers = λ m e b order answered not_durable later.
          settled_as m b (k.barriers m e b order (answered_of e b answered) not_durable (forth (λ x. IsLaterKept x one m (kept_number (over s) (Stands s) h txs m) e) later));
      syncs = λ m e b sent order flushed taken answered durable. settled_as m b (k.syncs m e b sent order flushed taken (answered_of e b answered) durable);
    }

    rules_as : AllRules (over s).program (noted_history (over s) (Stands s) h.history h.cuts) one → AllRules (call_over s).program told (session (call_over s) (Stands s) txs (plain_host h))
    rules_as r = back (λ x. AllRules (over s).program x one) r

  -- the calls that act on the tree are the same
  acting_as : (es : List (Entry ByteCall Reply)) → map acting_call (map (entry_as plain_call) es) ≡ calls_of es
  acting_as [] = refl
  acting_as (e ∷ es) = ap (λ (cs : List (Option Call)). call_of_entry e ∷ cs) (acting_as es)

  same_tree : (k : ℕ) → tree_behind s (plain_host h) k ≡ tree_after_transactions s h k
  same_tree k =
      ap (λ cs. tree_after_entries (room_of s.geometry) s.tree.tree s.first cs (cut_of h.cuts (length (plain_host h).history) k)) (acting_as h.history)
      ∙ ap (λ n. tree_after_entries (room_of s.geometry) s.tree.tree s.first (calls_of h.history) (cut_of h.cuts n k)) entries

  pub begins_as : (es : List (Entry ByteCall Reply)) → count (is_sync_begin kind_of) (map (entry_as plain_call) es) ≡ count (is_sync_begin (over s).model.kind) es
  begins_as [] = refl
  begins_as (e ∷ es) = ap (λ n. one_if (is_sync_begin (over s).model.kind e) + n) (begins_as es)

  pub session_as : KeepsSession s h → count is_flush_note h.journal.flush.notes ≤ count (is_sync_begin (over s).model.kind) h.history → KeepsCalls s (plain_host h)
  session_as k flushes = record {
    closed = k.closed;
    rules = rules_as k.closed k.rules;
    sentences = sentences_as k.closed k.sentences;
    trees = λ m recovered order recovers. subst (HasTreeLike s recovered) (sym (same_tree (kept_number (over s) (Stands s) h k.closed m))) (k.trees m recovered order recovers);
    flushes = subst (λ n. count is_flush_note h.journal.flush.notes ≤ n) (sym (begins_as h.history)) flushes;
  }
