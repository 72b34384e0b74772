-- A page of a call's list is sent.
use Rattle.std.proofs.Common.{◌≡◌, ℕ, ◌+◌, ◌-◌, ◌≤◌, ◌&&◌, ◌||◌, not, Bool, true, false, if◌then◌else◌, List, length, drop, Option, Some, None, is_none, option_map, refl, sym, ap, ◌∙◌, arith}
use Rattle.std.proofs.lemmas.Bool.{false≢true}
use Rattle.std.proofs.lemmas.List.{drop-drop}
use Rattle.order_model.specs.declared.turn.Turn.TheVariants as turns
use Rattle.page_cache.specs.Pages.{page_at, put_page, mark_page, marked}
use Rattle.page_cache.specs.declared.cached_page.CachedPage.{CachedPage}
use Rattle.page_cache.specs.declared.cached_page.PageState.TheVariants.{Firm}
use Rattle.flush_actor.specs.Kinds.{is_data}
use Rattle.flush_actor.specs.Outcomes.{is_did}
use Rattle.flush_actor.specs.Part.{FlushPart, at_limit}
use Rattle.flush_actor.specs.Steps.{submit_turn}
use Rattle.flush_actor.specs.declared.wait.Wait.{Wait}
use Rattle.commit_actor.specs.Journal.{JournalPart}
use Rattle.host_machine.specs.Host.{goal_of, unsent_on}
use Rattle.host_machine.specs.State.{Begun}
use Rattle.host_core.specs.begun.Steps.{Gone, Full, Sent, with_pages, pursues, page_out, sends_page, walks}
use Rattle.host_core.specs.begun.code.Told.{gone_by}
use Rattle.host_core.specs.declared.begun.waiting.BegunProgress.TheVariants as told

-- it was submitted, so the limit was not reached
below_limit : (f : FlushPart) → turns.Did ≡ submit_turn false f → at_limit f ≡ false
below_limit f = by (at_limit f) refl
  where
    by : (b : Bool) → at_limit f ≡ b → turns.Did ≡ (if b then turns.SessionFull else turns.Did) → at_limit f ≡ false
    by true e d = absurd (false≢true (sym (ap is_did d)))
    by false e d = e

-- none is left where none was found
pub none_left : {X Y : Type 0} (f : X → Y) (o : Option X) (n : Option Y) → option_map f o ≡ n → is_none o ≡ is_none n
none_left f None n e = ap is_none e
none_left f (Some x) n e = ap is_none e

marks : (ps : List CachedPage) (p : CachedPage) → page_at ps p.birth p.index ≡ Some p → mark_page ps p.birth p.index Firm ≡ put_page ps (marked p Firm)
marks ps p there = ap (λ (o : Option CachedPage). elim o as (λ _. List CachedPage) [ None ↦ ps | Some x ↦ put_page ps (marked x Firm) ]) there

-- the page is sent, and the list goes on behind it
pub sent_is : (j j2 : JournalPart) (ps ps2 : List CachedPage) (b : Begun) (items : List (ℕ × ℕ)) (passed at id : ℕ) (p : CachedPage) (barrier sent : Bool) (t : ℕ) (w : Wait)
    → b.list ≡ drop passed items → Some (p, drop (at + 1) items) ≡ unsent_on ps (drop passed items) → passed ≤ at
    → barrier ≡ (is_data b.kind && is_none (unsent_on ps (drop (at + 1) items))) → sent ≡ (b.sent_barrier || barrier)
    → turns.Did ≡ submit_turn false j.flush → j2 ≡ page_out j p barrier → id ≡ length j.flush.requests
    → ps2 ≡ mark_page ps p.birth p.index Firm → page_at ps p.birth p.index ≡ Some p
    → gone_by b.list j2 ps2 (told.Sent id (at + 1 - passed) sent) ≡ walks false j ps t w b
sent_is j j2 ps ps2 b items passed at id p barrier sent t w list found low barrier_is flag did out id_is pages there =
    let rest = drop (at + 1) items in
    let left : drop (at + 1 - passed) b.list ≡ rest =
    ap (drop (at + 1 - passed)) list ∙ drop-drop (at + 1 - passed) passed items ∙ ap (λ n. drop n items) (let sum : passed + (at + 1 - passed) ≡ at + 1 = omega (arith, low) in sum) in
    let next : unsent_on ps b.list ≡ Some (p, rest) = ap (unsent_on ps) list ∙ sym found in
    let walked : walks false j ps t w b ≡ sends_page false j ps b (p, rest) =
    ap (λ (o : Option (CachedPage × List (ℕ × ℕ))). elim o as (λ _. Gone) [ None ↦ with_pages ps (pursues j t w (goal_of j b)) | Some next ↦ sends_page false j ps b next ]) next in
    let free : sends_page false j ps b (p, rest) ≡ gone page_is_barrier (length j.flush.requests) rest =
    ap (λ (a : Bool). let x : Gone = if a then record { part = j; pages = ps; progress = Full } else gone page_is_barrier (length j.flush.requests) rest in x) (below_limit j.flush did) in
    ap (λ (x : JournalPart). let y : Gone = record { part = x; pages = ps2; progress = Sent id (drop (at + 1 - passed) b.list) sent } in y) out
    ∙ ap (λ (x : List CachedPage). let y : Gone = record { part = page_out j p barrier; pages = x; progress = Sent id (drop (at + 1 - passed) b.list) sent } in y) (pages ∙ marks ps p there)
    ∙ ap (λ n. at_id barrier n (drop (at + 1 - passed) b.list) sent) id_is
    ∙ ap (λ l. at_id barrier (length j.flush.requests) l sent) left
    ∙ ap (λ s. at_id barrier (length j.flush.requests) rest s) flag
    ∙ ap (λ r. gone r (length j.flush.requests) rest) barrier_is
    ∙ sym (walked ∙ free)
  where
    at_id : Bool → ℕ → List (ℕ × ℕ) → Bool → Gone
    at_id r n l s = record { part = page_out j p r; pages = put_page ps (marked p Firm); progress = Sent n l s }

    gone : Bool → ℕ → List (ℕ × ℕ) → Gone
    gone r n l = record { part = page_out j p r; pages = put_page ps (marked p Firm); progress = Sent n l (b.sent_barrier || r) }

    page_is_barrier : Bool
    page_is_barrier = is_data b.kind && is_none (unsent_on ps (drop (at + 1) items))

pub with_flag : (a b c : Bool) → a ≡ b → (if b then c else false) ≡ (a && c)
with_flag a true c e = ap (λ x. x && c) (sym e)
with_flag a false c e = ap (λ x. x && c) (sym e)

pub from_not : (s r : Bool) → s ≡ not r → r ≡ not s
from_not s true e = ap not (sym e)
from_not s false e = ap not (sym e)
