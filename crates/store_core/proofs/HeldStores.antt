-- What is held of a store, in words of its script.
use Rattle.std.specs.Prelude.{◌≡◌, ℕ, suc, ◌+◌, ◌-◌, ◌*◌, ◌<◌, ◌≤◌, List, [], length, take, Option, Some, None, Result, Ok, Err, slice_get}
use Rattle.std.proofs.Common.{refl, sym, ap, subst, ◌∙◌, arith, inl, inr}
use Rattle.std.specs.Option.{option_map}
use Rattle.std.proofs.lemmas.Bool.{cases_lt}
use Rattle.std.proofs.lemmas.Option.{none-some, same_Some}
use Rattle.tree_model.specs.declared.call.Call.TheVariants as calls
use Rattle.tree_model.specs.declared.call.Reply.TheVariants as replies
use Rattle.tree_model.specs.Calls.{Tree}
use Rattle.tree_model.specs.Histories.{block_at}
use Rattle.tree_model.specs.Trees.{Refusal, node_of_path}
use Rattle.host_machine.specs.State.{Answered}
use Rattle.call_sessions.specs.promises.Answers.{AnsweredAt}
use Rattle.call_sessions.specs.promises.Entries.{EndsAt}
use Rattle.call_sessions.specs.promises.Legal.{events_in}
use Rattle.session_core.specs.Core.{EndState}
use Rattle.session_core.specs.Headline.{HeadlineOn}
use Rattle.session_core.specs.declared.report.SessionReport.{SessionReport}
use Rattle.wal_store.specs.declared.puts.Put.{Put}
use Rattle.wal_store.specs.Blocks.{encode, decode}
use Rattle.wal_store.specs.Log.{held_puts, AreHeld}
use Rattle.wal_store.proofs.HeldPuts.{are-held}
use Rattle.wal_store.proofs.Spelled.{decode-encode}
use Rattle.wal_store.specs.calls.Calls.{fill_count}
use Rattle.store_grammar.specs.declared.script.StoreScript.{StoreScript}
use Rattle.store_grammar.specs.Made.{volume_script}
use Rattle.store_grammar.specs.WellFormed.{IsWellFormed}
use Rattle.store_core.specs.Store.{Decodes, IsHeldIn}
use Rattle.store_core.specs.Program.{log_path, log_names, calls_from, AreDone, NoneFull}
use Rattle.store_core.specs.Order.{ends, StandsBefore}
use Rattle.store_core.specs.Stores.{number_in, puts_in, IsPutBefore, blocks_from, log_in, held_of, WasPut}
use Rattle.store_core.proofs.DoneStores.{puts-done}
use Rattle.store_core.proofs.LogBlocks.{block-of, block-in, first-puts}
use Rattle.store_core.proofs.LogSession.{call-at}
use Rattle.store_core.proofs.MadeStores.{steps_from, same-calls, front, front-length, made-store, IsPutOf, put-at, number-decoded}
use Rattle.store_core.proofs.StoreLaws.{put-stands, nothing-survives, decoded-answered}
use Rattle.store_core.proofs.StoreFacts.{acknowledged}

decoded-number : (b : List ℕ) (n : ℕ) (p : Put) → decode b ≡ Some (n, p) → number_in b ≡ Some n
decoded-number b n p e = ap (option_map (λ (x : ℕ × Put). x.0)) e

-- ---- a store's session

module _ (x : StoreScript) (well : IsWellFormed x) (end : EndState) (r : SessionReport) (is : HeadlineOn (volume_script x) end r) (full : NoneFull end) where
  done : AreDone log_path end
  done = puts-done x well end r is full

  abbrev tree : Tree
  tree = is.prefix.tree

  -- a put that was answered is the one of its number in the script
  answered-put : (q t j : ℕ) (body : List ℕ) → EndsAt end.host.history q t (calls.Bytes log_path (1024 * j) body) (Answered replies.Ok) → IsPutOf x.ops 0 j body
  answered-put q t j body e =
      let store = made-store x well in
      let a = call-at number_in (front x.room) (steps_from 0 x.ops) (volume_script x) end r is store q t (calls.Bytes log_path (1024 * j) body) replies.Ok e in
      let at = put-stands number_in (front x.room) (steps_from 0 x.ops) (volume_script x) store _ j body a in
      put-at 0 x.ops well.puts at.0 j body (ap (λ cs. slice_get cs at.0) (sym (same-calls 0 x.ops)) ∙ at.1)

  module _ (g : ℕ) (path : node_of_path tree log_names ≡ Ok g) where
    -- a block that spells a put spells that of its place, and that was answered
    spells : (j : ℕ) (b : List ℕ) → block_at tree g j ≡ Some b → Decodes number_in b → IsPutOf x.ops 0 j b × ((q : ℕ) × (t : ℕ) × EndsAt end.host.history q t (calls.Bytes log_path (1024 * j) b) (Answered replies.Ok))
    spells j b at decodes =
        let a = decoded-answered number_in (front x.room) (steps_from 0 x.ops) (volume_script x) end r is (made-store x well) done full g path j b at decodes in
        (answered-put a.0 a.1 j b a.2, a)

    -- as it is decoded
    pub decoded : (j : ℕ) (b : List ℕ) (n : ℕ) (p : Put) → block_at tree g j ≡ Some b → decode b ≡ Some (n, p) → (n ≡ j + 1) × (slice_get (puts_in x.ops) j ≡ Some p) × WasPut end j p
    decoded j b n p at e =
        let s = spells j b at (n, decoded-number b n p e) in
        let put = s.0 in
        let few = put.few in
        let most = well.few_puts in
        let room = well.room in
        let same : ◌≡◌ {A = Option (ℕ × Put)} (Some (n, p)) (Some (j + 1, put.put)) = sym e ∙ ap decode put.whole ∙ decode-encode (j + 1) put.put (omega (arith, few, most, room)) put.good in
        let both = same_Some (n, p) (j + 1, put.put) same in
        let at_first : j ≡ j - 0 = omega arith in
        let one : put.put ≡ p = sym (ap (λ (y : ℕ × Put). y.1) both) in (
          ap (λ (y : ℕ × Put). y.0) both,
          ap (slice_get (puts_in x.ops)) at_first ∙ put.there ∙ ap Some one,
          (s.1.0, s.1.1, subst (λ c. EndsAt end.host.history s.1.0 s.1.1 (calls.Bytes log_path (1024 * j) c) (Answered replies.Ok)) (put.whole ∙ ap (encode (j + 1)) one) s.1.2),
        )

    abbrev blocks : List (List ℕ)
    blocks = blocks_from tree g 0 x.room

    abbrev count : ℕ
    count = length (held_puts blocks)

    at-block : (i : ℕ) (b : List ℕ) → slice_get blocks i ≡ Some b → block_at tree g i ≡ Some b
    at-block i b e = let same : i ≡ 0 + i = omega arith in ap (block_at tree g) same ∙ block-of tree g 0 x.room i b e

    -- so many are held
    pub held-in : IsHeldIn number_in tree g count
    held-in = record { all = all; next = next }
      where
        held : AreHeld blocks count
        held = are-held blocks

        all : (i : ℕ) → i < count → (b : List ℕ) × (block_at tree g i ≡ Some b) × (number_in b ≡ Some (i + 1))
        all i lt = let y = held.all i lt in (y.1.0, at-block i y.1.0 y.1.1, decoded-number y.1.0 (i + 1) y.0 y.1.2)

        next : (b : List ℕ) → block_at tree g count ≡ Some b → number_in b ≡ Some (count + 1) → ⊥
        next b at e =
            elim (cases_lt count x.room) [
              | inl lt ↦
                  let y = spells count b at (count + 1, e) in
                  let put = y.0 in
                  let few = put.few in
                  let most = well.few_puts in
                  let room = well.room in
                  held.next put.put (b, block-in tree g 0 x.room count b lt (λ m less. let z = all m less in let same : 0 + m ≡ m = omega arith in (z.0, ap (block_at tree g) same ∙ z.1)) (let same : 0 + count ≡ count = omega arith in ap (block_at tree g) same ∙ at), ap decode put.whole ∙ decode-encode (count + 1) put.put (omega (arith, few, most, room)) put.good)
              | inr le ↦
                  let put = (spells count b at (count + 1, e)).0 in
                  let few = put.few in
                  let most = well.few_puts in
                  absurd (omega (arith, few, most, le))
            ]

    -- nothing behind them spells a put
    pub none-behind : (j : ℕ) (b : List ℕ) (n : ℕ) (p : Put) → count ≤ j → block_at tree g j ≡ Some b → decode b ≡ Some (n, p) → ⊥
    none-behind j b n p le at e =
        nothing-survives number_in (front x.room) (steps_from 0 x.ops) (volume_script x) end r is (made-store x well) done full g count path held-in j b le at (n, decoded-number b n p e)

    first-held : held_puts blocks ≡ take count (puts_in x.ops)
    first-held = first-puts 0 blocks (puts_in x.ops) (λ k b p there e. (decoded k b (0 + k + 1) p (at-block k b there) e).1)

    was-put : (i : ℕ) (p : Put) → i < count → slice_get (puts_in x.ops) i ≡ Some p → WasPut end i p
    was-put i p lt there =
        let y = (are-held blocks).all i lt in
        let d = decoded i y.1.0 (i + 1) y.0 (at-block i y.1.0 y.1.1) y.1.2 in
        subst (WasPut end i) (same_Some y.0 p (sym d.1 ∙ there)) d.2

  -- ---- the laws, with or without a log

  by-path : (P : List (List ℕ) → Type 0) → P [] → ((g : ℕ) → node_of_path tree log_names ≡ Ok g → P (blocks_from tree g 0 x.room)) → P (log_in x.room tree)
  by-path P none some = by (node_of_path tree log_names) refl
    where
      by : (o : Result ℕ Refusal) → node_of_path tree log_names ≡ o → P (elim o as (λ _. List (List ℕ)) [ Err refusal ↦ [] | Ok file ↦ blocks_from tree file 0 x.room ])
      by (Err refusal) e = none
      by (Ok g) e = some g e

  pub held-first : held_of x tree ≡ take (length (held_of x tree)) (puts_in x.ops)
  held-first = by-path (λ bs. held_puts bs ≡ take (length (held_puts bs)) (puts_in x.ops)) refl first-held

  pub held-answered : (i : ℕ) (p : Put) → i < length (held_of x tree) → slice_get (puts_in x.ops) i ≡ Some p → WasPut end i p
  held-answered =
      by-path (λ bs. (i : ℕ) (p : Put) → i < length (held_puts bs) → slice_get (puts_in x.ops) i ≡ Some p → WasPut end i p)
      (λ i p lt there. absurd (omega (arith, lt))) was-put

  pub nothing-later : (g j : ℕ) (b : List ℕ) → node_of_path tree log_names ≡ Ok g → length (held_of x tree) ≤ j → block_at tree g j ≡ Some b → decode b ≡ None
  nothing-later g j b path le at = by (decode b) refl
    where
      counted : length (held_of x tree) ≡ count g path
      counted = ap (λ o. length (held_puts (elim o as (λ _. List (List ℕ)) [ Err refusal ↦ [] | Ok file ↦ blocks_from tree file 0 x.room ]))) path

      by : (o : Option (ℕ × Put)) → decode b ≡ o → o ≡ None
      by None e = refl
      by (Some (n, p)) e = absurd (none-behind g path j b n p (omega (arith, le, counted)) at e)

  -- each put that stands before a flush which was answered is held
  pub acknowledged-held : (e t : ℕ) → AnsweredAt end.host e t (calls.Fdatasync log_path) → (i : ℕ) → IsPutBefore x end i e → i < length (held_of x tree)
  acknowledged-held e t ok i before =
      let size = front-length x.room in
      let less : fill_count x.room + 2 ≡ suc (length (front x.room)) = omega (arith, size) in
      let n = ends (take e (events_in end.host.history)) in
      let over = subst (λ cs. StandsBefore log_path cs i (n - (fill_count x.room + 2))) (sym (same-calls 0 x.ops)) before in
      let stands = subst (λ m. StandsBefore log_path (calls_from log_path 0 (steps_from 0 x.ops)) i (n - m)) less over in
      let y = acknowledged number_in (front x.room) (steps_from 0 x.ops) (volume_script x) end r is (made-store x well) done full e t ok i stands in
      elim (cases_lt i (length (held_of x tree))) [
        | inl lt ↦ lt
        | inr le ↦
            let n = number-decoded y.1 (i + 1) y.4 in
            let none = nothing-later y.0 i y.1 y.2 le y.3 in
            absurd (none-some (i + 1) (sym (ap (option_map (λ (z : ℕ × Put). z.0)) none) ∙ y.4))
      ]
