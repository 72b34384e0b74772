-- The store's laws, from the fields of the headline.
use Rattle.std.specs.Prelude.{◌≡◌, ℕ, ◌+◌, ◌<◌, ◌≤◌, true, List, Some}
use Rattle.std.proofs.Common.{sym, ap, subst, ◌∙◌, inl, inr, arith}
use Rattle.std.proofs.lemmas.Bool.{cases_lt}
use Rattle.std.proofs.lemmas.Option.{same_Some}
use Rattle.tree_model.specs.declared.call.Call.{Call}
use Rattle.crash_laws.specs.History.{History}
use Rattle.crash_laws.specs.PromiseRules.{Covers}
use Rattle.crash_laws.specs.Volumes.{WalkEnd}
use Rattle.crash_laws.proofs.Histories.{last_change}
use Rattle.flush_actor.specs.Kinds.{is_durable}
use Rattle.host_machine.specs.State.{Begun}
use Rattle.host_machine.specs.runs.Promises.{call_of}
use Rattle.host_machine.specs.runs.Sentences.{IsAllSettled}
use Rattle.minix_host.specs.Calls.{kind_of}
use Rattle.minix_host.specs.Sessions.{Stands}
use Rattle.call_sessions.specs.Sessions.{call_over}
use Rattle.call_sessions.specs.promises.Answers.{AnsweredAt}
use Rattle.session_grammar.specs.declared.session_script.SessionScript.{SessionScript}
use Rattle.call_sessions.proofs.PowerCutsLemmas.CallsLemmas.ShownFiles.{later_kept}
use Rattle.session_core.specs.Core.{EndState, geometry_of, opening_of}
use Rattle.session_core.specs.Headline.{HeadlineOn, told_by, medium_of, kept_in, HasLaterKept, IsShownBy}
use Rattle.session_core.specs.declared.report.SessionReport.{SessionReport}
use Rattle.store_core.specs.Store.{Numbering, Decodes, IsPutAt, IsBlank, IsStoreLog, Shows, HoldsPut, AreHeld}

module _ (number : Numbering) (s : SessionScript) (end : EndState) (r : SessionReport) (is : HeadlineOn s end r) (f : ℕ) where
  abbrev told : History WalkEnd
  told = told_by s end

  abbrev kept : ℕ
  kept = kept_in s end (medium_of r)

  abbrev Mapped : ℕ → Type 0
  Mapped i = told.maps (told.cut kept) f i ≡ true

  -- what is shown of a put's block, in a version that is no older than the put, is the put
  shown-put : (i p : ℕ) (body : List ℕ) → IsPutAt number told f i p body → IsShownBy s end (medium_of r) is.prefix.tree is.prefix.alike.to f i p → Shows s end r is f i body
  shown-put i p body put shown = shown.shown ∙ ap Some (put.stays shown.version shown.later)

  -- ---- a put that a settled call covers is shown

  pub settled-put : (i p : ℕ) (body : List ℕ) (b : Begun) → IsPutAt number told f i p body → Covers told (call_of b) f i p
      → IsAllSettled (call_over (opening_of s)) (Stands (opening_of s)) end.host is.closed (medium_of r) b → Shows s end r is f i body
  settled-put i p body b put covers all =
      elim (is.shown.settled f i p (all.pages f i p covers)) [
        | inl shown ↦ shown-put i p body put shown
        | inr gone ↦ absurd (put.calm gone.entry gone.unmapped)
      ]

  -- a sync call that was answered Ok
  pub synced-put : (i p : ℕ) (body : List ℕ) (e t : ℕ) (c : Call) (ok : AnsweredAt end.host e t c) → is_durable (kind_of c) ≡ true → IsPutAt number told f i p body
      → Covers told (call_of (is.answered e t c ok).begun) f i p → Shows s end r is f i body
  synced-put i p body e t c ok durable put covers = settled-put i p body (is.answered e t c ok).begun put covers (is.syncs e t c ok durable)

  -- ---- what is shown and spells a put survived

  survived : (j q : ℕ) (body b : List ℕ) (e : ℕ) → IsPutAt number told f j q body → Mapped j → Shows s end r is f j b → Decodes number b → e < q → HasLaterKept s end (medium_of r) e
  survived j q body b e put mapped shows decodes before =
      later_kept (geometry_of s) s.journal s.wide is.closed end.host (medium_of r) is.prefix.tree is.prefix.alike.to (opening_of s).image is.order.closed is.shown f j e b mapped shows
      (λ v low same. put.blank v (omega (arith, low, before)) (decodes.0, ap number same ∙ decodes.1))

  -- what is shown is some version of the history
  not-blank : (j : ℕ) (b : List ℕ) → Mapped j → Shows s end r is f j b → Decodes number b → IsBlank number told f j → ⊥
  not-blank j b mapped shows decodes blank =
      let k = last_change {h = told} f kept in
      let v = is.shown.latest f j k.0 mapped k.1 in
      let same : b ≡ told.content f j v.version = same_Some b (told.content f j v.version) (sym shows ∙ v.shown) in
      blank v.version (decodes.0, ap number (sym same) ∙ decodes.1)

  -- ---- nothing that was put later survived a put that was lost

  pub earlier-held : IsStoreLog number s end r is f → (i j : ℕ) (b : List ℕ) → i < j → Mapped j → Shows s end r is f j b → Decodes number b → HoldsPut number s end r is f i
  earlier-held log i j b lt mapped shows decodes =
      elim (log.put j) [
        | inl put ↦
            let x = log.earlier i j put.0 put.1 lt put.2 in
            let barred = x.3 in
            let later = survived j put.0 put.1 b (barred.e + 1) put.2 mapped shows decodes barred.before in
            let all = is.barriers barred.e barred.t barred.c barred.ok barred.barrier later in
            (x.1, settled-put i x.0 x.1 (is.answered barred.e barred.t barred.c barred.ok).begun x.2 barred.covers all, x.2.spelled)
        | inr blank ↦ absurd (not-blank j b mapped shows decodes blank)
      ]

  -- a block that spells a put is that of its place, as it was put
  pub own-put : IsStoreLog number s end r is f → (j : ℕ) (b : List ℕ) → Mapped j → Shows s end r is f j b → Decodes number b → (p : ℕ) × IsPutAt number told f j p b
  own-put log j b mapped shows decodes =
      let k = last_change {h = told} f kept in
      let v = is.shown.latest f j k.0 mapped k.1 in
      let same : b ≡ told.content f j v.version = same_Some b (told.content f j v.version) (sym shows ∙ v.shown) in
      elim (log.put j) [
        | inl put ↦
            elim (cases_lt v.version put.0) [
              | inl lt ↦ absurd (put.2.blank v.version lt (decodes.0, ap number (sym same) ∙ decodes.1))
              | inr le ↦ (put.0, subst (IsPutAt number told f j put.0) (sym (same ∙ put.2.stays v.version le)) put.2)
            ]
        | inr blank ↦ absurd (blank v.version (decodes.0, ap number (sym same) ∙ decodes.1))
      ]

  -- no block from the number that is held on spells a put
  pub none-beyond : IsStoreLog number s end r is f → (h : ℕ) → AreHeld number s end r is f h → (j : ℕ) (b : List ℕ) → h ≤ j → Mapped j → Shows s end r is f j b → Decodes number b → ⊥
  none-beyond log h held j b le mapped shows decodes =
      elim (cases_lt h j) [
        | inl lt ↦ held.next (earlier-held log h j b lt mapped shows decodes)
        | inr ge ↦
            let same : h ≡ j = omega (arith, le, ge) in
            held.next (subst (HoldsPut number s end r is f) (sym same) (b, shows, (own-put log j b mapped shows decodes).1.spelled))
      ]
