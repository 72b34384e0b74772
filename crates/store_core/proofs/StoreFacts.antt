-- What the tree model says of a store's session, from its trees.
use Rattle.std.specs.Prelude.{◌≡◌, ℕ, zero, suc, ◌+◌, ◌-◌, ◌*◌, ◌<◌, ◌≤◌, ◌==◌, ◌⊎◌, ◌&&◌, Bool, true, false, List, [], ◌∷◌, ◌++◌, length, take, Option, Some, None, Ok, slice_get, refl, if◌then◌else◌}
use Rattle.std.specs.List.{list_any}
use Rattle.std.specs.Option.{unwrap_or, option_map}
use Rattle.std.proofs.Common.{sym, ap, subst, ◌∙◌, inl, inr, arith}
use Rattle.std.proofs.lemmas.Bool.{cases_Bool, cases_lt, cases_eq, false≢true, true≢false, eqb-true, eq-eqb, and_from, and_parts}
use Rattle.std.proofs.lemmas.Option.{same_Some, slice_get-map}
use Rattle.blk_base.specs.laws.Members.{slice_get-In, In-slice_get, slice_get-append_left, slice_get-append_right, In-list_any, none-list_any}
use Rattle.tree_model.specs.declared.call.Call.{Call}
use Rattle.tree_model.specs.declared.call.Call.TheVariants as calls
use Rattle.tree_model.specs.declared.call.Reply.{Reply}
use Rattle.tree_model.specs.declared.call.Reply.TheVariants as replies
use Rattle.tree_model.specs.declared.call.Room.{Room}
use Rattle.tree_model.specs.Calls.{Tree, Found, tree_after, reply_of, leaves_tree, walk_path, walk, and_then, refused_walk, found_at, outcome, row, if_room, reply_from, used_zones, answers, refuse_if}
use Rattle.tree_model.specs.Histories.{block_at, maps_block, is_ok, writes, touches, tree_after_entry, tree_after_entries}
use Rattle.tree_model.specs.Rooted.{IsRooted}
use Rattle.volume_steps.specs.Now.{room_of}
use Rattle.crash_laws.specs.History.{History, IsUnmapped}
use Rattle.crash_laws.specs.LegalHistory.{Event, End}
use Rattle.crash_laws.specs.Volumes.{WalkEnd}
use Rattle.host_machine.specs.State.{Ending, Answered, Down, ReadOnly, SessionFull, What, Begins, Ends, Entry}
use Rattle.host_machine.specs.Views as views
use Rattle.host_machine.specs.Views.{is_answered}
use Rattle.call_sessions.specs.Sessions.{acting_call, call_over}
use Rattle.call_sessions.specs.promises.Entries.{BeginsAt, EndsAt}
use Rattle.call_sessions.specs.promises.Legal.{events_in, reply_in, reply_in, program_of}
use Rattle.call_sessions.specs.promises.Trees.{tree_at}
use Rattle.session_grammar.specs.declared.session_script.SessionScript.{SessionScript}
use Rattle.session_core.specs.Core.{EndState, opening_of}
use Rattle.session_core.specs.Headline.{HeadlineOn, told_by}
use Rattle.session_core.specs.declared.report.SessionReport.{SessionReport}
use Rattle.store_core.specs.Store.{Numbering, Decodes, IsPutAt, IsBlank}
use Rattle.store_core.specs.Program.{LogStep, calls_from, IsStore, AreDone, NoneFull, PutEnds, HasStoreTrees}
use Rattle.store_core.proofs.LogSession.{follows, rooted, later-call, first-call, store-call, next-tree, log-tree, mapped-on, zeros-before, stays-behind}
use Rattle.minix_host.specs.Numbers.{next_birth}
use Rattle.call_sessions.specs.promises.Answers.{node_in}
use Rattle.store_core.proofs.LogTrees.{names-are, log_path, log_names, leads-names, IsLogTree, IsStoreCall, quiet, zeros, put, IsPutTo, IsZeroWrite, put-leads, put-there, put-reply, put-touches}
use Rattle.store_core.proofs.Log.{event-at, end-at, begins-no_end, answered-before}
use Rattle.store_core.proofs.Held.{synced-put}
use Rattle.store_core.specs.Order.{StandsBefore}
use Rattle.call_sessions.specs.promises.Answers.{AnsweredAt}
use Rattle.session_core.specs.Report.{tree_behind}
use Rattle.crash_laws.specs.PromiseRules.{Covers, IsOn}
use Rattle.host_machine.specs.runs.Promises.{call_of}
use Rattle.flush_actor.specs.Kinds.{is_whole}
use Rattle.session_core.specs.Headline.{medium_of, kept_in}
use Rattle.session_core.proofs.OpenedTrees.{told_tree}
use Rattle.store_core.proofs.Order.{ends, ended-call, earlier-end, one-thread, IsPutCall, numbers-rise, kinds-of, ends-below}
use Rattle.store_core.proofs.Writes.{IsZeros}
use Rattle.tree_model.specs.declared.node.Node.{Node}
use Rattle.tree_model.specs.Trees.{Refusal, not_directory, name_too_long, not_found, node_of_path}
use Rattle.tree_model.specs.Maps.{at_number}
use Rattle.std.specs.Prelude.{Result, Err, nat_lt}
use Rattle.std.specs.Prelude.{replicate}
use Rattle.std.proofs.lemmas.Bool.{le-ltb}
use Rattle.tree_model.specs.laws.Alike.{path_stands}
use Rattle.tree_model.specs.Histories.{is_found_at}
use Rattle.tree_model.proofs.Outcomes.{quiet_stays}
use Rattle.store_core.proofs.LogTrees.{wrote-log}
use Rattle.store_core.proofs.Writes.{same-paths}

-- ---- kinds of calls, one by one

abbrev is-put-to : ℕ → Call → Bool
is-put-to i (calls.Bytes path off body) = off == 1024 * i
is-put-to i other = false

quiet-no_zeros : (c : Call) → leaves_tree c ≡ true → IsZeroWrite c → ⊥
quiet-no_zeros (calls.Mkdir p) h z = absurd z
quiet-no_zeros (calls.Create p) h z = absurd z
quiet-no_zeros (calls.Rmdir p) h z = absurd z
quiet-no_zeros (calls.Unlink p) h z = absurd z
quiet-no_zeros (calls.Link p q) h z = absurd z
quiet-no_zeros (calls.Rename p q) h z = absurd z
quiet-no_zeros (calls.Write p o l v) h z = absurd (false≢true h)
quiet-no_zeros (calls.Bytes p o b) h z = absurd z
quiet-no_zeros (calls.Truncate p n) h z = absurd z
quiet-no_zeros (calls.Read p o l) h z = absurd z
quiet-no_zeros (calls.List p) h z = absurd z
quiet-no_zeros (calls.Stat p) h z = absurd z
quiet-no_zeros (calls.Fsync p) h z = absurd z
quiet-no_zeros (calls.Fdatasync p) h z = absurd z
quiet-no_zeros (calls.Fbarrier p) h z = absurd z
quiet-no_zeros (calls.Fdatabarrier p) h z = absurd z
quiet-no_zeros calls.Sync h z = absurd z

quiet-no_put : (i : ℕ) (c : Call) → leaves_tree c ≡ true → IsPutTo i c → ⊥
quiet-no_put i (calls.Mkdir p) h z = absurd z
quiet-no_put i (calls.Create p) h z = absurd z
quiet-no_put i (calls.Rmdir p) h z = absurd z
quiet-no_put i (calls.Unlink p) h z = absurd z
quiet-no_put i (calls.Link p q) h z = absurd z
quiet-no_put i (calls.Rename p q) h z = absurd z
quiet-no_put i (calls.Write p o l v) h z = absurd z
quiet-no_put i (calls.Bytes p o b) h z = absurd (false≢true h)
quiet-no_put i (calls.Truncate p n) h z = absurd z
quiet-no_put i (calls.Read p o l) h z = absurd z
quiet-no_put i (calls.List p) h z = absurd z
quiet-no_put i (calls.Stat p) h z = absurd z
quiet-no_put i (calls.Fsync p) h z = absurd z
quiet-no_put i (calls.Fdatasync p) h z = absurd z
quiet-no_put i (calls.Fbarrier p) h z = absurd z
quiet-no_put i (calls.Fdatabarrier p) h z = absurd z
quiet-no_put i calls.Sync h z = absurd z

put-by-test : (i : ℕ) (c : Call) → is-put-to i c ≡ true → IsPutTo i c
put-by-test i (calls.Mkdir p) t = absurd (false≢true t)
put-by-test i (calls.Create p) t = absurd (false≢true t)
put-by-test i (calls.Rmdir p) t = absurd (false≢true t)
put-by-test i (calls.Unlink p) t = absurd (false≢true t)
put-by-test i (calls.Link p q) t = absurd (false≢true t)
put-by-test i (calls.Rename p q) t = absurd (false≢true t)
put-by-test i (calls.Write p o l v) t = absurd (false≢true t)
put-by-test i (calls.Bytes p o b) t = eqb-true o (1024 * i) t
put-by-test i (calls.Truncate p n) t = absurd (false≢true t)
put-by-test i (calls.Read p o l) t = absurd (false≢true t)
put-by-test i (calls.List p) t = absurd (false≢true t)
put-by-test i (calls.Stat p) t = absurd (false≢true t)
put-by-test i (calls.Fsync p) t = absurd (false≢true t)
put-by-test i (calls.Fdatasync p) t = absurd (false≢true t)
put-by-test i (calls.Fbarrier p) t = absurd (false≢true t)
put-by-test i (calls.Fdatabarrier p) t = absurd (false≢true t)
put-by-test i calls.Sync t = absurd (false≢true t)

test-by-put : (i : ℕ) (c : Call) → IsPutTo i c → is-put-to i c ≡ true
test-by-put i (calls.Mkdir p) z = absurd z
test-by-put i (calls.Create p) z = absurd z
test-by-put i (calls.Rmdir p) z = absurd z
test-by-put i (calls.Unlink p) z = absurd z
test-by-put i (calls.Link p q) z = absurd z
test-by-put i (calls.Rename p q) z = absurd z
test-by-put i (calls.Write p o l v) z = absurd z
test-by-put i (calls.Bytes p o b) z = eq-eqb o (1024 * i) z
test-by-put i (calls.Truncate p n) z = absurd z
test-by-put i (calls.Read p o l) z = absurd z
test-by-put i (calls.List p) z = absurd z
test-by-put i (calls.Stat p) z = absurd z
test-by-put i (calls.Fsync p) z = absurd z
test-by-put i (calls.Fdatasync p) z = absurd z
test-by-put i (calls.Fbarrier p) z = absurd z
test-by-put i (calls.Fdatabarrier p) z = absurd z
test-by-put i calls.Sync z = absurd z

abbrev bytes-in : Call → List ℕ
bytes-in (calls.Bytes path off body) = body
bytes-in other = []

-- ---- barrier calls on the file

abbrev birth-found : Result Found Reply → ℕ
birth-found r = elim r as (λ _. ℕ) [ Err reply ↦ 0 | Ok found ↦ found.birth ]

call-leads : (room : Room) (tree : Tree) (n : ℕ) (c : Call) → IsStoreCall c → IsLogTree tree → node_of_path (tree_after room tree n c) log_names ≡ node_of_path tree log_names
call-leads room tree n c (quiet q) t = ap (λ u. node_of_path u log_names) (quiet_stays room tree n c q)
call-leads room tree n _ (zeros off len) t =
    elim (wrote-log room tree n (calls.Write log_path off len 0) t refl refl refl) [
      | inl same ↦ ap (λ u. node_of_path u log_names) same
      | inr w ↦ same-paths tree (tree_after room tree n (calls.Write log_path off len 0)) log_path off (replicate len 0) w.0 log_names 0
    ]
call-leads room tree n _ (put i body full) t =
    elim (wrote-log room tree n (calls.Bytes log_path (1024 * i) body) t refl refl refl) [
      | inl same ↦ ap (λ u. node_of_path u log_names) same
      | inr w ↦ same-paths tree (tree_after room tree n (calls.Bytes log_path (1024 * i) body)) log_path (1024 * i) body w.0 log_names 0
    ]

-- the answer of a barrier call, by where its path leads
barrier-row : (room : Room) (tree : Tree) (n : ℕ) → reply_of room tree n (calls.Fdatabarrier log_path) ≡ reply_from (and_then (and_then (walk_path tree log_path) (λ found. answers tree replies.Ok)) (if_room room tree))
unfolding reply_of outcome row
barrier-row room tree n = refl

no-need : (a b : ℕ) → nat_lt a (b - b) ≡ false
no-need a b = let none : b - b ≡ 0 = omega arith in ap (nat_lt a) none ∙ le-ltb a 0 (omega arith)

barrier-ok : (room : Room) (tree : Tree) (n : ℕ) → ((w : Found) × (walk_path tree log_path ≡ Ok w)) → reply_of room tree n (calls.Fdatabarrier log_path) ≡ replies.Ok
barrier-ok room tree n w =
    barrier-row room tree n
    ∙ ap (λ o. reply_from (and_then (and_then o (λ found. answers tree replies.Ok)) (if_room room tree))) w.1
    ∙ ap (λ b. reply_from (refuse_if b replies.NoSpace (Ok (record { tree = tree; takes_inode = false; reply = replies.Ok })))) (no-need (room.capacity - used_zones tree) (used_zones tree))

refused-not_ok : (x : Refusal) → is_ok (refused_walk x) ≡ false
refused-not_ok not_directory = refl
refused-not_ok name_too_long = refl
refused-not_ok not_found = refl

at-node : (birth : ℕ) (o : Option Node) (r : Result Found Reply) → found_at birth o ≡ r → ((w : Found) × (r ≡ Ok w)) ⊎ ((reply : Reply) × (r ≡ Err reply) × (is_ok reply ≡ false))
at-node birth None r f = inr (replies.NotFound, sym f, refl)
at-node birth (Some there) r f = inl (record { birth = birth; node = there }, sym f)

walked-by : (tree : Tree) (o : Result ℕ Refusal) (r : Result Found Reply)
    → and_then (elim o as (λ _. Result ℕ Reply) [ Err refusal ↦ Err (refused_walk refusal) | Ok birth ↦ Ok birth ]) (λ birth. found_at birth (at_number tree birth)) ≡ r
    → ((w : Found) × (r ≡ Ok w)) ⊎ ((reply : Reply) × (r ≡ Err reply) × (is_ok reply ≡ false))
walked-by tree (Err refusal) r e = inr (refused_walk refusal, sym e, refused-not_ok refusal)
walked-by tree (Ok birth) r e = at-node birth (at_number tree birth) r e

walk-cases : (tree : Tree) → ((w : Found) × (walk_path tree log_path ≡ Ok w)) ⊎ ((reply : Reply) × (walk_path tree log_path ≡ Err reply) × (is_ok reply ≡ false))
walk-cases tree = walked-by tree (node_of_path tree log_names) (walk_path tree log_path) (sym (ap (λ r. and_then r (walk tree)) names-are))

ok-found : (room : Room) (tree : Tree) (n : ℕ) → reply_of room tree n (calls.Fdatabarrier log_path) ≡ replies.Ok → (w : Found) × (walk_path tree log_path ≡ Ok w)
ok-found room tree n ok =
    elim (walk-cases tree) [
      | inl w ↦ w
      | inr e ↦
          let replied : reply_of room tree n (calls.Fdatabarrier log_path) ≡ e.0 = barrier-row room tree n ∙ ap (λ o. reply_from (and_then (and_then o (λ found. answers tree replies.Ok)) (if_room room tree))) e.1 in
          absurd (false≢true (sym e.2 ∙ ap is_ok (sym replied ∙ ok)))
    ]

sync-row : (room : Room) (tree : Tree) (n : ℕ) → reply_of room tree n (calls.Fdatasync log_path) ≡ reply_of room tree n (calls.Fdatabarrier log_path)
unfolding reply_of outcome row
sync-row room tree n = refl

-- where the names lead to a node there is one
is-there : (tree : Tree) → IsRooted tree → node_of_path tree log_names ≡ Ok 1 → (w : Found) × (walk_path tree log_path ≡ Ok w)
is-there tree rooted e =
    let x = path_stands tree rooted log_names 1 e in (
      record { birth = 1; node = x.0 },
      ap (λ r. and_then r (walk tree)) names-are
          ∙ ap (λ (o : Result ℕ Refusal). and_then (elim o as (λ _. Result ℕ Reply) [ Err refusal ↦ Err (refused_walk refusal) | Ok birth ↦ Ok birth ]) (λ birth. found_at birth (at_number tree birth))) e
          ∙ ap (found_at 1) x.1,
    )

abbrev is-create : Call → Bool
is-create (calls.Create path) = true
is-create other = false

module _ (number : Numbering) (fills : List Call) (ops : List LogStep) (s : SessionScript) (end : EndState) (r : SessionReport) (is : HeadlineOn s end r) (store : IsStore number log_path fills ops s) (done : AreDone log_path end) where
  abbrev history : List (Entry Call Reply)
  history = end.host.history

  abbrev events : List Event
  events = events_in history

  abbrev puts : List Call
  puts = calls_from log_path 0 ops

  abbrev rest : List Call
  rest = fills ++ puts

  abbrev room : Room
  room = room_of (opening_of s).geometry

  abbrev T : ℕ → Tree
  T n = tree_at (opening_of s) end.host n

  abbrev B : ℕ → ℕ → Option (List ℕ)
  B n i = block_at (T n) 1 i

  abbrev told : History WalkEnd
  told = told_by s end

  abbrev PutOf : ℕ → List ℕ → Call
  PutOf i body = calls.Bytes log_path (1024 * i) body

  abbrev machine-tree : ℕ → Tree
  machine-tree n = (views.tree_after (call_over (opening_of s)).model history n).tree

  same-tree : (n : ℕ) → machine-tree n ≡ T n
  same-tree n = told_tree s end.host n

  told-maps : (n i : ℕ) → told.maps n 1 i ≡ maps_block (T n) 1 i
  told-maps n i = ap (λ t. maps_block t 1 i) (same-tree n)

  told-content : (v i : ℕ) → told.content 1 i v ≡ unwrap_or (B v i) []
  told-content v i = ap (λ t. unwrap_or (block_at t 1 i) []) (same-tree v)

  -- ---- where puts stand

  pub record IsPutEntry (i n : ℕ) (c : Call) : Type 0 where
    place : ℕ
    body : List ℕ
    at : ends (take n events) ≡ suc (length fills + place)
    stands : IsPutCall log_path puts place i body
    same : c ≡ PutOf i body

  put-entry : (i n t : ℕ) (c : Call) (reply : Reply) → EndsAt history n t c (Answered reply) → IsPutTo i c → IsPutEntry i n c
  put-entry i zero t c reply e to = absurd (subst (IsPutTo i) (sym (first-call number fills ops s end r is store t c reply e)) to)
  put-entry i (suc n) t c reply e to =
      let k = later-call number fills ops s end r is store n t c reply e in
      elim (cases_lt k.0 (length fills)) [
        | inl lt ↦
            elim (store.fills_are c (slice_get-In fills k.0 c (sym (slice_get-append_left fills puts k.0 lt) ∙ k.2))) [
              | inl q ↦ absurd (quiet-no_put i c q to)
              | inr w ↦ absurd (subst (IsPutTo i) w.2 to)
            ]
        | inr le ↦
            let at : slice_get puts (k.0 - length fills) ≡ Some c = sym (slice_get-append_right fills puts k.0 le) ∙ k.2 in
            let n_at = k.1 in
            elim (kinds-of log_path 0 ops (k.0 - length fills) c at) [
              | inl q ↦ absurd (quiet-no_put i c q to)
              | inr w ↦
                  let off : 1024 * w.0 ≡ 1024 * i = subst (IsPutTo i) w.2 to in
                  let one : w.0 ≡ i = omega (arith, off) in
                  let is_call : c ≡ PutOf i w.1 = w.2 ∙ ap (λ j. PutOf j w.1) one in
                  record { place = k.0 - length fills; body = w.1; at = omega (arith, n_at, le); stands = at ∙ ap Some is_call; same = is_call }
            ]
      ]

  -- a block is put once
  put-once : (i n q t u : ℕ) (c d : Call) (x y : Reply) → n < q → EndsAt history n t c (Answered x) → EndsAt history q u d (Answered y) → IsPutTo i c → IsPutTo i d → ⊥
  put-once i n q t u c d x y lt a b to other =
      let p = put-entry i n t c x a to in
      let o = put-entry i q u d y b other in
      let less = ends-below events n q t c x lt (event-at history n t c (Answered x) a) in
      let p_at = p.at in
      let o_at = o.at in
      let up = numbers-rise log_path 0 ops p.place i o.place i p.body o.body p.stands o.stands (omega (arith, less, p_at, o_at)) in
      omega (arith, up)

  -- behind a put no zeros are written
  no-zeros : (i n q t u : ℕ) (c d : Call) (x y : Reply) → q < n → EndsAt history n t c (Answered x) → EndsAt history q u d (Answered y) → IsPutTo i d → IsZeroWrite c → ⊥
  no-zeros i zero q t u c d x y lt a b to z = absurd (omega (arith, lt))
  no-zeros i (suc n) q t u c d x y lt a b to z =
      let p = put-entry i q u d y b to in
      let k = later-call number fills ops s end r is store n t c x a in
      let less = ends-below events q (suc n) u d y lt (event-at history q u d (Answered y) b) in
      let p_at = p.at in
      let k_at = k.1 in
      let le : length fills ≤ k.0 = omega (arith, less, p_at, k_at) in
      elim (kinds-of log_path 0 ops (k.0 - length fills) c (sym (slice_get-append_right fills puts k.0 le) ∙ k.2)) [
        | inl quiet_call ↦ quiet-no_zeros c quiet_call z
        | inr w ↦ subst IsZeroWrite w.2 z
      ]

  -- ---- what spells no put

  spells-none : (o : Option (List ℕ)) → ((x : List ℕ) → o ≡ Some x → IsZeros x) → Decodes number (unwrap_or o []) → ⊥
  spells-none None h d = store.empty d
  spells-none (Some x) h d = let z = h x refl in store.blank x z.0 z.1 d

  unmapped : (i n : ℕ) → IsUnmapped told 1 i n → ⊥
  unmapped i zero h = false≢true (sym h.after ∙ h.before)
  unmapped i (suc n) h =
      let less : suc n - 1 ≡ n = omega arith in
      let before : maps_block (T n) 1 i ≡ true = sym (told-maps n i) ∙ ap (λ k. told.maps k 1 i) (sym less) ∙ h.before in
      let after : maps_block (T (suc n)) 1 i ≡ false = sym (told-maps (suc n) i) ∙ h.after in
      false≢true (sym after ∙ mapped-on number fills ops s end r is store n i before)

  -- ---- a put that was done

  module _ (q t i : ℕ) (body : List ℕ) (e : EndsAt history q t (PutOf i body) (Answered replies.Ok)) where
    entry : IsPutEntry i q (PutOf i body)
    entry = put-entry i q t (PutOf i body) replies.Ok e refl

    same-body : body ≡ entry.body
    same-body = ap bytes-in entry.same

    spelled : (length body ≡ 1024) × (number body ≡ Some (i + 1))
    spelled = store.spelled entry.place i body (entry.stands ∙ ap (λ b. Some (PutOf i b)) (sym same-body))

    answered-ok : (n : ℕ) → is_ok (reply_of room (T q) n (PutOf i body)) ≡ true
    answered-ok n = ap is_ok (put-reply room (T q) n (0 + (q + 1)) i body ∙ sym (is.follows.answers q t (PutOf i body) replies.Ok e (λ kind. absurd (false≢true kind))))

    tree-behind : T (suc q) ≡ tree_after room (T q) (0 + suc q) (PutOf i body)
    unfolding tree_after_entries
    tree-behind = ap (tree_after_entry room (T q) (0 + suc q)) (slice_get-map acting_call history q ∙ ap (option_map acting_call) e)

    file : IsLogTree (T q)
    file = log-tree number fills ops s end r is store q

    roots : IsRooted (T q)
    roots = rooted number fills ops s end r is store q

    here : B (suc q) i ≡ Some body
    here = ap (λ u. block_at u 1 i) tree-behind ∙ put-there room (T q) (0 + suc q) i body roots file spelled.0 (answered-ok (0 + suc q))

    wrote-by : (tree : Tree) → T q ≡ tree → writes room tree (next_birth tree) (PutOf i body) 1 i ≡ true
    unfolding writes
    wrote-by tree same =
        subst (λ u. (is_ok (reply_of room u (next_birth u) (PutOf i body)) && touches u (PutOf i body) 1 i) ≡ true) same
        (and_from (is_ok (reply_of room (T q) (next_birth (T q)) (PutOf i body))) (touches (T q) (PutOf i body) 1 i) (answered-ok (next_birth (T q)))
        (put-touches (T q) i body (put-leads room (T q) (0 + suc q) i body roots file (answered-ok (0 + suc q))) spelled.0))

    pub is-put : IsPutAt number told 1 i (q + 1) body
    is-put = record {
      wrote =
          let at : suc q ≡ q + 1 = omega arith in
          ap (λ n. told.writes n 1 i) (sym at)
          ∙ ap (λ (o : Option (Entry Call Reply)). elim o as (λ _. Bool) [ None ↦ false | Some x ↦ is_answered x.what && (call_over (opening_of s)).model.writes (views.tree_after (call_over (opening_of s)).model history q) x.call 1 i ]) e
          ∙ wrote-by (machine-tree q) (sym (same-tree q));
      stays = λ v le.
          let d = v - (q + 1) in
          let at : suc (q + d) ≡ v = omega (arith, le) in
          told-content v i
          ∙ ap (λ n. unwrap_or (B n i) []) (sym at)
          ∙ ap (λ o. unwrap_or o []) (stays-behind number fills ops s end r is store i q body here
          (λ n u c x lt h. (λ to. put-once i q n t u (PutOf i body) c replies.Ok x lt e h refl to, λ z. no-zeros i n q u t c (PutOf i body) x replies.Ok lt h e refl z)) d);
      blank = λ v lt decodes.
          spells-none (B v i) (λ x f. zeros-before number fills ops s end r is store i q (λ n u c x less h to. put-once i n q u t c (PutOf i body) x replies.Ok less h e to refl) v (omega (arith, lt)) x f)
          (subst (Decodes number) (told-content v i) decodes);
      calm = unmapped i;
      spelled = spelled.1;
    }

  -- ---- each block has one put, or none

  abbrev done-put : ℕ → Entry Call Reply → Bool
  done-put i x = is_answered x.what && is-put-to i x.call

  answered-entry : (x : Entry Call Reply) → is_answered x.what ≡ true → (reply : Reply) × (x ≡ record { thread = x.thread; call = x.call; what = Ends (Answered reply) })
  answered-entry x a = by x.what refl a
    where
      by : (w : What Reply) → x.what ≡ w → is_answered w ≡ true → (reply : Reply) × (x ≡ record { thread = x.thread; call = x.call; what = Ends (Answered reply) })
      by Begins e h = absurd (false≢true h)
      by (Ends (Answered reply)) e h = (reply, λ j. record { thread = x.thread; call = x.call; what = e j })
      by (Ends Down) e h = absurd (false≢true h)
      by (Ends (ReadOnly id)) e h = absurd (false≢true h)
      by (Ends SessionFull) e h = absurd (false≢true h)

  -- where one was done, it is found
  found-put : (i : ℕ) → list_any (done-put i) history ≡ true → (q : ℕ) × (t : ℕ) × (body : List ℕ) × EndsAt history q t (PutOf i body) (Answered replies.Ok)
  found-put i h =
      let x = In-list_any (done-put i) history h in
      let parts = and_parts (is_answered x.0.what) (is-put-to i x.0.call) x.2 in
      let a = answered-entry x.0 parts.0 in
      let at = In-slice_get history x.0 x.1 in
      let to = put-by-test i x.0.call parts.1 in
      let e : EndsAt history at.0 x.0.thread x.0.call (Answered a.0) = at.2 ∙ ap Some a.1 in
      let entry_is = put-entry i at.0 x.0.thread x.0.call a.0 e to in
      let f : EndsAt history at.0 x.0.thread (PutOf i entry_is.body) (Answered a.0) = subst (λ c. EndsAt history at.0 x.0.thread c (Answered a.0)) entry_is.same e in
      (at.0, x.0.thread, entry_is.body, subst (λ y. EndsAt history at.0 x.0.thread (PutOf i entry_is.body) (Answered y)) (done at.0 x.0.thread (1024 * i) entry_is.body a.0 f) f)

  -- where none was done, the block is blank
  no-put : (i : ℕ) → list_any (done-put i) history ≡ false → IsBlank number told 1 i
  no-put i h v decodes =
      spells-none (B v i)
      (λ x f. zeros-before number fills ops s end r is store i v
      (λ n u c y less e to.
      let there = slice_get-In history n (record { thread = u; call = c; what = Ends (Answered y) }) e in
      let none : is-put-to i c ≡ false = none-list_any (done-put i) history (record { thread = u; call = c; what = Ends (Answered y) }) h there in
      false≢true (sym none ∙ test-by-put i c to)) v (omega arith) x f)
      (subst (Decodes number) (told-content v i) decodes)

  pub each : (i : ℕ) → ((p : ℕ) × (body : List ℕ) × IsPutAt number told 1 i p body) ⊎ IsBlank number told 1 i
  each i =
      elim (cases_Bool (list_any (done-put i) history)) [
        | inl yes_it ↦ let x = found-put i yes_it in inl (x.0 + 1, x.2, is-put x.0 x.1 i x.2 x.3)
        | inr no_it ↦ inr (no-put i no_it)
      ]

  pub written-once : (i p : ℕ) (b : List ℕ) → IsPutAt number told 1 i p b → (q : ℕ) × (t : ℕ) × (p ≡ q + 1) × PutEnds log_path end q t i b replies.Ok
  written-once i p b here_is =
      let spells : Decodes number (told.content 1 i p) = (i + 1, ap number (here_is.stays p (omega arith)) ∙ here_is.spelled) in
      elim (cases_Bool (list_any (done-put i) history)) [
        | inl yes_it ↦
            let x = found-put i yes_it in
            let it = is-put x.0 x.1 i x.2 x.3 in
            elim (cases_lt p (x.0 + 1)) [
              | inl lt ↦ absurd (it.blank p lt spells)
              | inr le ↦
                  let same : b ≡ x.2 = sym (here_is.stays p (omega arith)) ∙ it.stays p le in
                  elim (cases_lt (x.0 + 1) p) [
                    | inl lt ↦ absurd (here_is.blank (x.0 + 1) lt (i + 1, ap number (it.stays (x.0 + 1) (omega arith)) ∙ it.spelled))
                    | inr ge ↦ (x.0, x.1, omega (arith, le, ge), subst (λ y. PutEnds log_path end x.0 x.1 i y replies.Ok) (sym same) x.3)
                  ]
            ]
        | inr no_it ↦ absurd (no-put i no_it p spells)
      ]

  -- ---- barrier calls

  abbrev Barrier : Call
  Barrier = calls.Fdatabarrier log_path

  -- behind the first entry the path leads where it leads
  same-leads : (n : ℕ) → node_of_path (T (suc (suc n))) log_names ≡ node_of_path (T (suc n)) log_names
  same-leads n =
      next-tree number fills ops s end r is store (λ t. node_of_path t log_names ≡ node_of_path (T (suc n)) log_names) (suc n) refl
      (λ t c reply e. let k = later-call number fills ops s end r is store n t c reply e in call-leads room (T (suc n)) (0 + suc (suc n)) c (store-call number fills ops s end r is store k.0 c k.2) (log-tree number fills ops s end r is store (suc n)))

  leads-from : (n d : ℕ) → node_of_path (T (suc (n + d))) log_names ≡ node_of_path (T (suc n)) log_names
  leads-from n zero = let at : suc (n + 0) ≡ suc n = omega arith in ap (λ k. node_of_path (T k) log_names) at
  leads-from n (suc d) = let at : suc (n + suc d) ≡ suc (suc (n + d)) = omega arith in ap (λ k. node_of_path (T k) log_names) at ∙ same-leads (n + d) ∙ leads-from n d

  first-no_barrier : (t : ℕ) (x : Ending Reply) → EndsAt history 0 t Barrier x → ⊥
  first-no_barrier t x a =
      let at = ended-call events (calls.Create log_path ∷ rest) 0 t Barrier (reply_in x) (follows number fills ops s end r is store) (event-at history 0 t Barrier x a) in
      true≢false (ap is-create (same_Some (calls.Create log_path) Barrier at))

  pub found : (e q t u i : ℕ) (x : Ending Reply) (body : List ℕ) → e < q → EndsAt history e t Barrier x → PutEnds log_path end q u i body replies.Ok → reply_of room (T e) (e + 1) Barrier ≡ replies.Ok
  found zero q t u i x body lt a b = absurd (first-no_barrier t x a)
  found (suc e) q t u i x body lt a b =
      let leads = put-leads room (T q) (0 + suc q) i body (roots q u i body b) (file q u i body b) (answered-ok q u i body b (0 + suc q)) in
      let names = leads-names (T q) 1 leads in
      let at : suc (e + (q - suc e)) ≡ q = omega (arith, lt) in
      let there : node_of_path (T (suc e)) log_names ≡ Ok 1 = sym (leads-from e (q - suc e)) ∙ ap (λ k. node_of_path (T k) log_names) at ∙ names in
      barrier-ok room (T (suc e)) (suc e + 1) (is-there (T (suc e)) (rooted number fills ops s end r is store (suc e)) there)

  pub node : (e t : ℕ) → BeginsAt history e t Barrier → node_in (T e) Barrier ≡ 1
  node e t b =
      let begins = is.follows.begins e t Barrier b in
      let w = ok-found room (T e) (0 + (e + 1)) begins.1 in
      let file_is = log-tree number fills ops s end r is store e in
      ap birth-found w.1 ∙ file_is.leads (w.0).birth (leads-names (T e) (w.0).birth (ap (λ o. is_found_at o (w.0).birth) w.1 ∙ eq-eqb (w.0).birth (w.0).birth refl))

  pub store-trees : HasStoreTrees number log_path s end 1
  store-trees = record {
    done = λ q t i body reply e. done q t (1024 * i) body reply e;
    put = λ q t i body e. is-put q t i body e;
    each = each;
    written_once = written-once;
    found = found;
    node = node;
  }

  -- ---- a flush

  abbrev Sync : Call
  Sync = calls.Fdatasync log_path

  sync-node : (e t : ℕ) → BeginsAt history e t Sync → node_in (T e) Sync ≡ 1
  sync-node e t b =
      let begins = is.follows.begins e t Sync b in
      let w = ok-found room (T e) (0 + (e + 1)) (sym (sync-row room (T e) (0 + (e + 1))) ∙ begins.1) in
      let file_is = log-tree number fills ops s end r is store e in
      ap birth-found w.1 ∙ file_is.leads (w.0).birth (leads-names (T e) (w.0).birth (ap (λ o. is_found_at o (w.0).birth) w.1 ∙ eq-eqb (w.0).birth (w.0).birth refl))

  -- the entry of a put is not the first
  put-later : (q t i : ℕ) (body : List ℕ) → EndsAt history q t (PutOf i body) (Answered replies.Ok) → 0 < q
  put-later zero t i body e = absurd (subst (IsPutTo i) (sym (first-call number fills ops s end r is store t (PutOf i body) replies.Ok e)) refl)
  put-later (suc q) t i body e = omega arith

  -- once a put was done, the path leads to the file behind each entry
  leads-there : (q t i : ℕ) (body : List ℕ) → EndsAt history q t (PutOf i body) (Answered replies.Ok) → (n : ℕ) → 0 < n → node_of_path (T n) log_names ≡ Ok 1
  leads-there q t i body e n some =
      let names = leads-names (T q) 1 (put-leads room (T q) (0 + suc q) i body (roots q t i body e) (file q t i body e) (answered-ok q t i body e (0 + suc q))) in
      let later = put-later q t i body e in
      let at_q : suc (0 + (q - 1)) ≡ q = omega (arith, later) in
      let at_n : suc (0 + (n - 1)) ≡ n = omega (arith, some) in
      ap (λ k. node_of_path (T k) log_names) (sym at_n) ∙ leads-from 0 (n - 1) ∙ sym (leads-from 0 (q - 1)) ∙ ap (λ k. node_of_path (T k) log_names) at_q ∙ names

  some-entry : (n i : ℕ) → maps_block (T n) 1 i ≡ true → 0 < n
  unfolding tree_after_entries
  some-entry zero i h = absurd (false≢true h)
  some-entry (suc n) i h = omega arith

  module _ (full : NoneFull end) (e t : ℕ) (ok : AnsweredAt end.host e t Sync) (i : ℕ) (stands : StandsBefore log_path puts i (ends (take e events) - suc (length fills))) where
    low : suc (length fills) + stands.place < ends (take e events)
    low = let b = stands.before in omega (arith, b)

    old : (q : ℕ) × (u : ℕ) × (c : Call) × (y : Reply) × (q < e) × (slice_get events q ≡ Some (End u c y)) × (ends (take q events) ≡ suc (length fills) + stands.place)
    old = earlier-end events e (suc (length fills) + stands.place) low

    behind-fills : slice_get (calls.Create log_path ∷ rest) (suc (length fills) + stands.place) ≡ slice_get puts stands.place
    behind-fills =
        let at : suc (length fills) + stands.place ≡ suc (length fills + stands.place) = omega arith in
        let less : length fills + stands.place - length fills ≡ stands.place = omega arith in
        ap (slice_get (calls.Create log_path ∷ rest)) at ∙ slice_get-append_right fills puts (length fills + stands.place) (omega arith) ∙ ap (slice_get puts) less

    old-call : old.2 ≡ PutOf i stands.body
    old-call = same_Some old.2 (PutOf i stands.body) (sym (ended-call events (calls.Create log_path ∷ rest) old.0 old.1 old.2 old.3 (follows number fills ops s end r is store) old.5) ∙ ap (slice_get (calls.Create log_path ∷ rest)) old.6 ∙ behind-fills ∙ stands.put)

    old-end : (y : Ending Reply) × EndsAt history old.0 old.1 (PutOf i stands.body) y
    old-end = end-at history old.0 old.1 (PutOf i stands.body) old.3 (subst (λ c. slice_get events old.0 ≡ Some (End old.1 c old.3)) old-call old.5)

    old-answered : (x : Reply) × EndsAt history old.0 old.1 (PutOf i stands.body) (Answered x)
    old-answered = answered-before s end r is full old.0 e old.1 t (PutOf i stands.body) Sync old-end.0 replies.Ok old.4 old-end.1 ok.0 refl

    done-put-end : EndsAt history old.0 old.1 (PutOf i stands.body) (Answered replies.Ok)
    done-put-end = subst (λ y. EndsAt history old.0 old.1 (PutOf i stands.body) (Answered y)) (done old.0 old.1 (1024 * i) stands.body old-answered.0 old-answered.1) old-answered.1

    put-is : IsPutAt number told 1 i (old.0 + 1) stands.body
    put-is = is-put old.0 old.1 i stands.body done-put-end

    covers : Covers told (call_of (is.answered e t Sync ok).begun) 1 i (old.0 + 1)
    covers =
        let was = is.answered e t Sync ok in
        let alone = one-thread events (program_of s.programs) is.follows.ordered (λ k. ap (λ (ps : List (List Call)). unwrap_or (slice_get ps (suc k)) []) store.programs) in
        let old_thread : old.1 ≡ 0 = alone (End old.1 old.2 old.3) (slice_get-In events old.0 (End old.1 old.2 old.3) old.5) in
        let thread : t ≡ 0 = alone (End t Sync replies.Ok) (slice_get-In events e (End t Sync replies.Ok) (event-at history e t Sync (Answered replies.Ok) ok.0)) in
        let begin = was.number in
        let behind_put : old.0 < was.place =
        elim (cases_lt old.0 was.place) [
          | inl l ↦ l
          | inr le ↦
              elim (cases_eq old.0 was.place) [
                | inl same ↦ absurd (begins-no_end history was.place t old.1 Sync (PutOf i stands.body) old-end.0 was.began.begins (subst (λ k. EndsAt history k old.1 (PutOf i stands.body) old-end.0) same old-end.1))
                | inr ne ↦ absurd (was.began.last old.0 (record { thread = old.1; call = PutOf i stands.body; what = Ends old-end.0 }) (omega (arith, le, ne)) old.4 old-end.1 (old_thread ∙ sym thread))
              ]
        ] in
        let whole : is_whole was.begun.kind ≡ false = ap is_whole was.kind in
        let file_is : was.begun.file ≡ 1 = was.node ∙ sync-node was.place t was.began.begins in
        (subst (λ b. IsOn (if b then None else Some was.begun.file) 1) (sym whole) file_is, omega (arith, behind_put, begin), put-is.wrote)

    -- the put is in `/log` of the recovered tree
    pub acknowledged : (g : ℕ) × (body : List ℕ) × (node_of_path is.prefix.tree log_names ≡ Ok g) × (block_at is.prefix.tree g i ≡ Some body) × (number body ≡ Some (i + 1))
    acknowledged =
        let settled = (is.syncs e t Sync ok refl).pages 1 i (old.0 + 1) covers in
        let shows = synced-put number s end r is 1 i (old.0 + 1) stands.body e t Sync ok refl put-is covers in
        let kept = kept_in s end (medium_of r) in
        elim settled [
          | inl x ↦
              let mapped : maps_block (T (told.cut kept)) 1 i ≡ true = sym (told-maps (told.cut kept) i) ∙ x.0 in
              let some = some-entry (told.cut kept) i mapped in
              let there = leads-there old.0 old.1 i stands.body done-put-end (told.cut kept) some in
              let path : node_of_path (tree_behind (opening_of s) end.host r.found) log_names ≡ Ok 1 = ap (λ k. node_of_path (tree_behind (opening_of s) end.host k) log_names) is.counted ∙ there in
              (is.prefix.alike.to 1, stands.body, is.prefix.alike.same_paths log_names 1 path, shows, put-is.spelled)
          | inr gone ↦ absurd (put-is.calm gone.entry gone.unmapped)
        ]
