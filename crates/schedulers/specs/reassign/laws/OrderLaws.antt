-- The commands that the plain scheduler sent out carry the requests that it accepted: `Carries` from `IsValid`.
use Rattle.std.specs.Prelude.{◌≡◌, ℕ, ◌+◌, ◌<◌, ◌≤◌, ◌==◌, ◌++◌, ◌⊎◌, true, List, [], ◌∷◌, length, Some, is_some, IsTrue, slice_get, refl, zero, suc, if◌then◌else◌}
use Rattle.std.proofs.Common.{ap, sym, get_or, subst, ◌∙◌, inl, inr, ⊎_elim, arith}
use Rattle.std.proofs.lemmas.List.{length-map}
use Rattle.std.proofs.lemmas.Option.{none-some, same_Some}
use Rattle.blk_base.specs.Members.{In}
use Rattle.blk_base.specs.laws.Members.{In-slice_get, slice_get-length}
use Rattle.order_model.specs.declared.command.Command.{Command}
use Rattle.order_model.specs.declared.command.Priority.TheVariants.{Simple, Ordered}
use Rattle.order_model.specs.declared.request.Kind.TheVariants.{Put, Flush}
use Rattle.order_model.specs.declared.request.Request.{Request}
use Rattle.order_model.specs.OrderClosed.{is_flush, IsFencedBefore}
use Rattle.order_model.specs.Single.{command_of_request}
use Rattle.order_model.specs.declared.part.Part.{Part}
use Rattle.order_model.specs.Received.{ids_of, all_ids, IsBarrier}
use Rattle.order_model.specs.Device.{NoneTwice}
use Rattle.order_model.specs.Carrying.{IsSentIn, IsWaitingAt, WasAccepted, Carries}
use Rattle.order_model.proofs.Direct.{ids_of-command, whole_alone, few_alone}
use Rattle.order_model.proofs.Single.{part_is, flush_is}
use Rattle.schedulers.specs.reassign.Epoch.{Waiting}
use Rattle.schedulers.specs.reassign.Sched.{SchedState, seen_of}
use Rattle.schedulers.specs.reassign.laws.Valid.{Went, IsValid}
use Rattle.schedulers.specs.reassign.laws.WentLaws.{went_sent, sent_went, waiting_place, place_waiting, some_holds}

-- a request was sent before this place
abbrev EarlierSent : SchedState → ℕ → ℕ → Type 0
EarlierSent s i l = (k : ℕ) × IsSentIn (seen_of s) i k × (k < l)

earlier_sent : (s : SchedState) (i l : ℕ) → (k : ℕ) × Went s i k × (k < l) → EarlierSent s i l
earlier_sent s i l h = (h.0, went_sent s i h.0 h.1, h.2)

somewhere : (s : SchedState) → IsValid s → (i : ℕ) → i < length s.accepted → IsWaitingAt (seen_of s) i ⊎ ((k : ℕ) × IsSentIn (seen_of s) i k)
somewhere s v i lt =
    ⊎_elim
    (λ w. inl (place_waiting s w.0 i v w.1 w.2))
    (λ g. inr (g.0, went_sent s i g.0 g.1))
    (v.somewhere i lt)

not_both : (s : SchedState) → IsValid s → (i k : ℕ) → IsWaitingAt (seen_of s) i → IsSentIn (seen_of s) i k → ⊥
not_both s v i k w h =
    let p = waiting_place s i v w in
    v.not_both p.0 k p.1 (subst (λ j. Went s j k) (sym p.2) (sent_went s i k v h))

-- a command that was sent out is that of an accepted request
record IsSentFor (s : SchedState) (k : ℕ) (c : Command) : Type 0 where
  pub place : ℕ
  pub went : Went s place k
  pub same : command_of_request went.request went.flagged ≡ c
  pub ids : ids_of c ≡ went.request.id ∷ []

sent_for : (s : SchedState) (k : ℕ) (c : Command) → IsValid s → slice_get s.sent_out k ≡ Some c → IsSentFor s k c
sent_for s k c v at =
    let m = v.made k (slice_get-length s.sent_out k c at) in
    let same = same_Some (command_of_request m.1.request m.1.flagged) c (sym m.1.sent ∙ at) in
    record { place = m.0; went = m.1; same = same; ids = ap ids_of (sym same) ∙ ids_of-command m.1.request m.1.flagged }

sent_in : (s : SchedState) (c : Command) → IsValid s → In c s.sent_out → (k : ℕ) × IsSentFor s k c
sent_in s c v h =
    let at = In-slice_get s.sent_out c h in
    (at.0, sent_for s at.0 c v at.2)

accepted_part : (s : SchedState) → IsValid s → (c : Command) (p : Part) → In c s.sent_out → In p c.parts → WasAccepted (seen_of s) p.id (Put p.block p.body)
accepted_part s v c p h i =
    let f = (sent_in s c v h).1 in
    let r = f.went.request in
    let at = In-slice_get c.parts p i in
    let part = part_is r.id r.kind at.0 p (ap (λ (d : Command). slice_get d.parts at.0) f.same ∙ at.2) in
    record { place = f.place; request = r; taken = f.went.accepted; named = sym part.1; same = part.0 }

sent_flush : (s : SchedState) (k id : ℕ) (c : Command) → (f : IsSentFor s k c) → c.flush ≡ Some id → (f.went.request.id ≡ id) × (f.went.request.kind ≡ Flush)
sent_flush s k id c f e = flush_is f.went.request.id f.went.request.kind id (ap (λ (d : Command). d.flush) f.same ∙ e)

accepted_flush : (s : SchedState) → IsValid s → (c : Command) (id : ℕ) → In c s.sent_out → c.flush ≡ Some id → WasAccepted (seen_of s) id Flush
accepted_flush s v c id h e =
    let at = sent_in s c v h in
    let f = at.1 in
    let flush = sent_flush s at.0 id c f e in
    record { place = f.place; request = f.went.request; taken = f.went.accepted; named = flush.0; same = flush.1 }

whole : (s : SchedState) → IsValid s → (c : Command) → In c s.sent_out → is_some c.flush ≡ (length c.parts == 0)
whole s v c h =
    let f = (sent_in s c v h).1 in
    subst (λ (d : Command). is_some d.flush ≡ (length d.parts == 0)) f.same (whole_alone f.went.request f.went.flagged)

-- commands of one id each: the id at a place is that of the command there
one_id_at : (cs : List Command) → ((k : ℕ) (c : Command) → slice_get cs k ≡ Some c → (id : ℕ) × (ids_of c ≡ id ∷ [])) → (k id : ℕ) → slice_get (all_ids cs) k ≡ Some id
    → (c : Command) × (slice_get cs k ≡ Some c) × (ids_of c ≡ id ∷ [])
one_id_at [] one k id at = absurd (none-some id at)
one_id_at (c ∷ cs) one zero id at =
    let first = one 0 c refl in
    let same = same_Some first.0 id (ap (λ ids. slice_get (ids ++ all_ids cs) 0) (sym first.1) ∙ at) in
    (c, refl, first.1 ∙ ap (λ i. i ∷ []) same)
one_id_at (c ∷ cs) one (suc k) id at =
    let first = one 0 c refl in
    one_id_at cs (λ j d there. one (suc j) d there) k id (ap (λ ids. slice_get (ids ++ all_ids cs) (suc k)) (sym first.1) ∙ at)

-- and there are as many ids as commands
one_id_each : (cs : List Command) → ((k : ℕ) (c : Command) → slice_get cs k ≡ Some c → (id : ℕ) × (ids_of c ≡ id ∷ [])) → length (all_ids cs) ≡ length cs
one_id_each [] one = refl
one_id_each (c ∷ cs) one =
    ap (λ ids. length (ids ++ all_ids cs)) (one 0 c refl).1 ∙ ap suc (one_id_each cs (λ j d there. one (suc j) d there))

one_number : (x y : ℕ) → x ∷ [] ≡ y ∷ [] → x ≡ y
one_number x y e = ap (λ ids. get_or ids 0 0) e

sent_one : (s : SchedState) → IsValid s → (k : ℕ) (c : Command) → slice_get s.sent_out k ≡ Some c → (id : ℕ) × (ids_of c ≡ id ∷ [])
sent_one s v k c at = let f = sent_for s k c v at in (f.went.request.id, f.ids)

-- no id is sent out twice
none_twice : (s : SchedState) → IsValid s → NoneTwice (all_ids s.sent_out)
none_twice s v i j id at_i at_j =
    let c = one_id_at s.sent_out (sent_one s v) i id at_i in
    let d = one_id_at s.sent_out (sent_one s v) j id at_j in
    let f = sent_for s i c.0 v c.1 in
    let g = sent_for s j d.0 v d.1 in
    let f_id = one_number f.went.request.id id (sym f.ids ∙ c.2) in
    let g_id = one_number g.went.request.id id (sym g.ids ∙ d.2) in
    let same : f.place ≡ g.place = v.ids f.place g.place f.went.request g.went.request f.went.accepted g.went.accepted (f_id ∙ sym g_id) in
    v.once g.place i j (subst (λ p. Went s p i) same f.went) g.went

ordered : (s : SchedState) → IsValid s → (i j l : ℕ) → IsFencedBefore s.accepted i j → IsSentIn (seen_of s) j l → (k : ℕ) × (b : ℕ) × IsSentIn (seen_of s) i k × (k ≤ b) × (b < l) × IsBarrier s.sent_out b
ordered s v i j l o h =
    let g = sent_went s j l v h in
    let near : j < length s.accepted = slice_get-length s.accepted j g.request g.accepted in
    let b = o.fence in
    let passed : b.0 + 1 < length s.accepted = omega (arith, near, b.2) in
    let p = v.fences b.0 b.3 (inl passed) in
    let at = some_holds (λ (r : Request). IsTrue r.ordered) (slice_get s.accepted i) o.ordered in
    let sent : (k : ℕ) × Went s i k =
    ⊎_elim
    (λ w.
    let f = v.waiting w.0 w.1 in
    let r : f.request ≡ at.0 = same_Some f.request at.0 (sym f.taken ∙ ap (λ n. slice_get s.accepted n) w.2 ∙ at.1) in
    let keeps : w.0.request.ordered ≡ true = ap (λ (q : Request). q.ordered) f.same ∙ ap (λ (q : Request). q.ordered) r ∙ at.2 in
    let late = v.behind_fence w.0 b.0 w.1 keeps b.3 (inl passed) in
    absurd (omega (arith, late, w.2, b.1)))
    (λ g. g)
    (v.somewhere i (omega (arith, b.1, passed))) in
    (sent.0, p.0, went_sent s i sent.0 sent.1, p.1.before i sent.0 b.1 o.ordered sent.1, p.1.after j l b.2 g, p.1.barrier)

priority : (s : SchedState) → IsValid s → (c : Command) → In c s.sent_out → c.priority ≡ (if c.barrier then Ordered else Simple)
priority s v c h = subst (λ (d : Command). d.priority ≡ (if d.barrier then Ordered else Simple)) (sent_in s c v h).1.same refl

flush_flag : (s : SchedState) → IsValid s → (c : Command) (id : ℕ) → In c s.sent_out → c.flush ≡ Some id → c.barrier ≡ true
flush_flag s v c id h e =
    let at = sent_in s c v h in
    let f = at.1 in
    sym (ap (λ (d : Command). d.barrier) f.same) ∙ f.went.flag (ap is_flush (sent_flush s at.0 id c f e).1)

small : (s : SchedState) → IsValid s → (c : Command) → In c s.sent_out → length c.parts ≤ 16
small s v c h =
    let f = (sent_in s c v h).1 in
    let one = few_alone f.went.request f.went.flagged in
    subst (λ (d : Command). length d.parts ≤ 16) f.same (omega (arith, one))

pub carries : (s : SchedState) → IsValid s → Carries (seen_of s)
carries s v = record {
  few = v.few;
  somewhere = somewhere s v;
  not_both = not_both s v;
  once = none_twice s v;
  counted = let n = one_id_each s.sent_out (sent_one s v) in let m = length-map s.queue.waiting (λ (w : Waiting). w.request.id) in omega (arith, n, m, v.counted);
  parts = accepted_part s v;
  flushes = accepted_flush s v;
  whole = whole s v;
  ordered = ordered s v;
  blocks = λ i j l block lt p q h. earlier_sent s i l (v.blocks i j l block lt p q (sent_went s j l v h));
  before_flush = λ i f l lt p h. earlier_sent s i l (v.before_flush i f l lt p (sent_went s f l v h));
  after_flush = λ f j l lt p h. earlier_sent s f l (v.after_flush f j l lt p (sent_went s j l v h));
  priority = priority s v;
  flush_flag = flush_flag s v;
  count = v.count;
  small = small s v;
}
