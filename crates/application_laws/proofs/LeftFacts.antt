-- What laws of applications ask of a session, from its headline.
use Rattle.std.specs.Prelude.{◌≡◌, ◌⊎◌, ℕ, zero, suc, ◌+◌, ◌<◌, ◌≤◌, ◌&&◌, Bool, true, false, not, List, [], map, Option, Some, None, is_some, unwrap_or, slice_get, refl, if◌then◌else◌}
use Rattle.std.specs.Option.{option_map}
use Rattle.std.proofs.Common.{sym, ap, subst, ◌∙◌, inl, inr, arith}
use Rattle.std.proofs.lemmas.Bool.{false≢true, and_right}
use Rattle.std.proofs.lemmas.Option.{slice_get-map}
use Rattle.tree_model.specs.declared.call.Call.{Call}
use Rattle.tree_model.specs.declared.call.Call.TheVariants as calls
use Rattle.tree_model.specs.declared.call.Reply.{Reply}
use Rattle.tree_model.specs.declared.call.Room.{Room}
use Rattle.tree_model.specs.declared.node.Node.TheVariants as nodes
use Rattle.tree_model.specs.laws.MapsLaws.{at_put_number_apart}
use Rattle.tree_model.specs.Calls.{Tree, row, outcome, tree_after, reply_of}
use Rattle.tree_model.specs.Histories.{block_in, block_at, maps_block, is_ok, writes, touches, tree_after_entry, tree_after_entries}
use Rattle.tree_model.specs.Plain.{IsPlain, AreBornBefore}
use Rattle.tree_model.proofs.Histories.{unwritten_stays}
use Rattle.crash_laws.specs.PromiseRules.{IsOn}
use Rattle.flush_actor.specs.Kinds.{is_data, is_durable}
use Rattle.host_machine.specs.State.{Begun, Answered, Down, ReadOnly, SessionFull, What, Begins, Ends, Entry}
use Rattle.host_machine.specs.Views as views
use Rattle.host_machine.specs.Views.{is_answered}
use Rattle.host_machine.specs.runs.Promises.{call_of}
use Rattle.host_machine.specs.runs.Sentences.{IsAllSettled}
use Rattle.minix_host.specs.Calls.{kind_of}
use Rattle.minix_host.specs.Numbers.{next_birth}
use Rattle.minix_host.specs.Sessions.{Stands}
use Rattle.minix_host.proofs.Numbered.{all_born}
use Rattle.call_sessions.specs.Sessions.{call_over, acting_call}
use Rattle.call_sessions.specs.promises.Answers.{AnsweredAt}
use Rattle.session_grammar.specs.declared.session_script.SessionScript.{SessionScript}
use Rattle.session_core.specs.Core.{EndState, opening_of}
use Rattle.session_core.specs.Headline.{medium_of, told_by, HasLaterKept, IsShownBy, HeadlineOn}
use Rattle.session_core.specs.declared.report.SessionReport.{SessionReport}
use Rattle.session_core.proofs.Headlines.{all_shown}
use Rattle.session_core.proofs.NewestBlocks.{shown_there, shown_as}
use Rattle.session_core.proofs.OpenedTrees.{is_born, told_tree as session_tree}
use Rattle.application_trees.specs.Outcomes.{Outcome, HasHistory, IsShown, IsGone, Holds}
use Rattle.application_trees.specs.Runs.{ArePlain}
use Rattle.application_laws.specs.Left.{room_for, trees_of, left_of, IsBarred}

-- ---- the number of a call does not count for what it writes

none_both : (a b c : Bool) → c ≡ false → (a && c) ≡ (b && c)
none_both a b c e = and_right a c e ∙ sym (and_right b c e)

pub any_number : (room : Room) (tree : Tree) (n m : ℕ) (c : Call) (f i : ℕ) → writes room tree n c f i ≡ writes room tree m c f i
unfolding writes reply_of outcome row
any_number room tree n m (calls.Mkdir p) f i = none_both _ _ false refl
any_number room tree n m (calls.Create p) f i = none_both _ _ false refl
any_number room tree n m (calls.Rmdir p) f i = refl
any_number room tree n m (calls.Unlink p) f i = refl
any_number room tree n m (calls.Link p q) f i = refl
any_number room tree n m (calls.Rename p q) f i = refl
any_number room tree n m (calls.Write p o l v) f i = refl
any_number room tree n m (calls.Bytes p o b) f i = refl
any_number room tree n m (calls.Truncate p k) f i = refl
any_number room tree n m (calls.Read p o l) f i = refl
any_number room tree n m (calls.List p) f i = refl
any_number room tree n m (calls.Stat p) f i = refl
any_number room tree n m (calls.Fsync p) f i = refl
any_number room tree n m (calls.Fdatasync p) f i = refl
any_number room tree n m (calls.Fbarrier p) f i = refl
any_number room tree n m (calls.Fdatabarrier p) f i = refl
any_number room tree n m calls.Sync f i = refl

module _ (s : SessionScript) (end : EndState) (r : SessionReport) (is : HeadlineOn s end r) where
  abbrev T : ℕ → Tree
  T = trees_of s end

  abbrev history : List (Entry Call Reply)
  history = end.host.history

  abbrev machine_tree : ℕ → Tree
  machine_tree n = (views.tree_after (call_over (opening_of s)).model history n).tree

  told_tree : (n : ℕ) → machine_tree n ≡ T n
  told_tree n = session_tree s end.host n

  pub plain : ArePlain T
  plain = record {
    plain = λ n. subst IsPlain (told_tree n) (views.tree_after (call_over (opening_of s)).model history n).plain;
    born = λ n. let next : 0 + suc n ≡ suc n = omega arith in subst (λ t. AreBornBefore (suc n) t) (told_tree n) (subst (λ k. AreBornBefore k (machine_tree n)) next (all_born (λ (c : Call). c) (opening_of s).geometry (opening_of s).tree (opening_of s).first (is_born s) history n));
  }

  -- ---- one entry

  -- what holds before an entry, and after the call of one that was answered, holds after the entry
  pub next_tree : (P : Tree → Type 0) (n : ℕ) → P (T n) → ((t : ℕ) (c : Call) (reply : Reply) → slice_get history n ≡ Some (record { thread = t; call = c; what = Ends (Answered reply) }) → P (tree_after (room_for s) (T n) (0 + suc n) c)) → P (T (suc n))
  unfolding tree_after_entries
  next_tree P n before after = subst (λ o. P (tree_after_entry (room_for s) (T n) (0 + suc n) o)) (sym (slice_get-map acting_call history n)) (by (slice_get history n) refl)
    where
      acts : (x : Entry Call Reply) → slice_get history n ≡ Some x → (w : What Reply) → x.what ≡ w → P (tree_after_entry (room_for s) (T n) (0 + suc n) (Some (if is_answered w then Some x.call else None)))
      acts x at Begins same = before
      acts x at (Ends (Answered reply)) same = after x.thread x.call reply (at ∙ ap Some (λ j. record { thread = x.thread; call = x.call; what = same j }))
      acts x at (Ends Down) same = before
      acts x at (Ends (ReadOnly id)) same = before
      acts x at (Ends SessionFull) same = before

      by : (o : Option (Entry Call Reply)) → slice_get history n ≡ o → P (tree_after_entry (room_for s) (T n) (0 + suc n) (option_map acting_call o))
      by None e = before
      by (Some x) e = acts x e x.what refl

  -- ---- a history

  abbrev o : Outcome
  o = left_of s end r is

  not_written : (n f i t : ℕ) (c : Call) (reply : Reply) → slice_get history n ≡ Some (record { thread = t; call = c; what = Ends (Answered reply) }) → o.writes (suc n) f i ≡ false → writes (room_for s) (T n) (0 + suc n) c f i ≡ false
  not_written n f i t c reply at none =
      any_number (room_for s) (T n) (0 + suc n) (next_birth (T n)) c f i
      ∙ ap (λ tree. writes (room_for s) tree (next_birth tree) c f i) (sym (told_tree n))
      ∙ sym (ap (λ (x : Option (Entry Call Reply)). elim x as (λ _. Bool) [ None ↦ false | Some e ↦ is_answered e.what && (call_over (opening_of s)).model.writes (views.tree_after (call_over (opening_of s)).model history n) e.call f i ]) at)
      ∙ none

  pub has_history : HasHistory o
  unfolding tree_after_entries
  has_history = record {
    empty = empty;
    first = λ f i. refl;
    kept = λ n f i none. next_tree (λ t. (block_at t f i ≡ None) ⊎ (block_at t f i ≡ block_at (T n) f i)) n (inr refl)
        (λ t c reply at. unwritten_stays (room_for s) (T n) (plain.plain n).rooted (0 + suc n) c f i (not_written n f i t c reply at none));
  }
    where
      empty : (f i : ℕ) → block_at (T 0) f i ≡ None
      empty zero i = refl
      empty (suc f) i = ap (λ n. block_in n i) (at_put_number_apart [] 0 (nodes.Directory (record { parent = 0; width = (opening_of s).geometry.width; slots = 2; names = [] })) (suc f) (λ e. let never : suc f ≡ 0 = e in omega (arith, never)))

  -- what is shown is of a tree that has it
  pub left_shown : (f i n : ℕ) → IsShownBy s end (medium_of r) is.prefix.tree is.prefix.alike.to f i n → IsShown o f i n
  left_shown f i n y = record {
    version = y.version;
    later = y.later;
    mapped = shown_there s end (medium_of r) is.prefix.tree is.prefix.alike.to f i n y;
    shown = shown_as s end (medium_of r) is.prefix.tree is.prefix.alike.to f i n y;
  }

  -- ---- what a call holds

  module _ (f b e : ℕ) (x : IsBarred s end r is f b e) where
    abbrev begun : Begun
    begun = (is.answered e x.thread x.call x.ok).begun

    abbrev Settled : Type 0
    Settled = IsAllSettled (call_over (opening_of s)) (Stands (opening_of s)) end.host is.closed (medium_of r) begun

    holds : Settled → Holds o f b
    holds settled i n low wrote =
        let begin = x.begin in
        elim ((all_shown s end r is begun settled).pages f i n (x.on, omega (arith, low, begin), wrote)) [
          | inl y ↦ inl (left_shown f i n y)
          | inr y ↦ inr (record { entry = y.entry; later = y.later; within = y.within; unmapped = ap (λ tree. maps_block tree f i) (sym (told_tree y.entry)) ∙ y.unmapped.after })
        ]

    -- a sync call holds in any case
    pub synced : is_durable (kind_of x.call) ≡ true → Holds o f b
    synced kind = holds (is.syncs e x.thread x.call x.ok kind)

    -- and a barrier call where something later survived
    pub barred : HasLaterKept s end (medium_of r) (e + 1) → Holds o f b
    barred later = holds (by (is_durable (kind_of x.call)) refl)
      where
        by : (d : Bool) → is_durable (kind_of x.call) ≡ d → Settled
        by true kind = is.syncs e x.thread x.call x.ok kind
        by false kind = is.barriers e x.thread x.call x.ok kind later

    -- as where an entry behind it was recovered
    pub barred_by : (p : ℕ) → e < p → p < o.cut → Holds o f b
    barred_by p low past = barred (inr (let count = ap (told_by s end).cut is.counted in omega (arith, low, past, count)))

    -- the metadata of a sync call was recovered
    pub recovered : is_durable (kind_of x.call) ≡ true → is_data (kind_of x.call) ≡ false → b ≤ o.cut
    recovered kind whole =
        let begin = x.begin in
        (all_shown s end r is begun (is.syncs e x.thread x.call x.ok kind)).metadata b (ap not (ap is_data (is.answered e x.thread x.call x.ok).kind ∙ whole), omega (arith, begin))
