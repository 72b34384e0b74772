-- Why the device keeps order: what is kept are the parts of the first places of the log, and order on the log is the order in
-- which commands were transferred.
use Rattle.std.specs.Prelude.{◌≡◌, ℕ, ◌-◌, ◌<◌, ◌≤◌, ◌++◌, true, List, [], length, map, Some, None, slice_get, refl}
use Rattle.std.proofs.Common.{sym, ap, subst, ◌∙◌, inl, inr, arith}
use Rattle.std.proofs.lemmas.Bool.{cases_lt}
use Rattle.std.proofs.lemmas.Option.{same_Some}
use Rattle.blk_base.specs.Members.{In}
use Rattle.blk_base.specs.laws.Members.{In-append_cases, slice_get-In, slice_get-length, slice_get-in_range, slice_get-append_left, slice_get-append_right, map_some-slice_get, slice_get-map_some}
use Rattle.order_model.specs.declared.part.Part.{Part}
use Rattle.order_model.specs.declared.command.Command.{Command}
use Rattle.order_model.specs.declared.completion.Completion.TheVariants.{Flushed}
use Rattle.order_model.specs.declared.history.Transfer.{Transfer}
use Rattle.order_model.specs.Received.{all_parts, part_at, command_of_part, IsBarrier, IsFlush}
use Rattle.order_model.specs.Device.{Seen, IsMoved, IsPartKept, IsSurface, KeepsEpochOrder, KeepsFlush}
use Rattle.order_model.proofs.Received.{command_of_part-lt, epoch_of-between, barrier-is, flush-is, id_once, In-flush-id}
use Rattle.device_epochs.specs.queue.laws.QueueLaws.{part_at-lt, part_of-waiting}
use Rattle.device_epochs.specs.queue.laws.CompletionLaws.{completions-seen, flushed-seen}
use Rattle.device_epochs.specs.queue.laws.EpochLaws.{barrier-ordered, waiting-taken, done-before_ordered, ordered-done_before, waits-or-done}
use Rattle.device_epochs.specs.queue.laws.QueueLaws.{place-before}
use Rattle.device_epochs.specs.queue.Facts.{IsDone}
use Rattle.flog_device.specs.Log.{Place, prefix, places, body_at}
use Rattle.flog_device.specs.Device.{FlogState, is_off, answers_left, surface, surface_origins, seen}
use Rattle.flog_device.specs.laws.LogFacts.{InOrder, InOrder-across, InOrder-left, Rises, top, top-append, top-In, In-top, body_over, get-laid, get-laid_origins, length-laid, length-laid_origins, over-gone, body-gone}
use Rattle.flog_device.specs.laws.LogSteps.{given-done, done-given, kept-given, In-kept_given}
use Rattle.flog_device.specs.laws.Valid.{part_of, moved_part, epoch_at, NoLater, given, kept_places, with_waiting, IsValid}

-- ---- what the surface holds

abbrev pub kept_of : (s : FlogState) → IsValid s → List Place
kept_of s v = kept_places v.gone s.log

abbrev pub given_of : (s : FlogState) → IsValid s → List Place
given_of s v = given v.gone s.log

-- each block has the last kept place of it
origin_is : (s : FlogState) (v : IsValid s) (b : ℕ) → b < length s.base → slice_get (surface_origins s) b ≡ Some (top (kept_of s v) b)
origin_is s v b lt =
    let pre = places (prefix s.log) in
    get-laid_origins pre s.origins b (let n = v.log.origin_blocks in omega (arith, n, lt))
    ∙ over-gone (top pre b) (slice_get s.origins b) (top v.gone b) (v.log.held b lt)
    ∙ ap Some (sym (top-append v.gone pre b))

body_is : (s : FlogState) (v : IsValid s) (b : ℕ) → b < length s.base → slice_get (surface s) b ≡ body_over s.took (top (kept_of s v) b) (slice_get s.base b)
body_is s v b lt =
    let pre = places (prefix s.log) in
    get-laid s.took pre s.data_area b (let n = v.log.blocks in omega (arith, n, lt))
    ∙ body-gone s.took (top pre b) (slice_get s.data_area b) (slice_get s.base b) (top v.gone b) (v.log.bodies b lt)
    ∙ ap (λ o. body_over s.took o (slice_get s.base b)) (sym (top-append v.gone pre b))

pub surface_blocks : (s : FlogState) → IsValid s → length (surface s) ≡ length s.base
surface_blocks s v = length-laid s.took (places (prefix s.log)) s.data_area ∙ v.log.blocks

origin_blocks : (s : FlogState) → IsValid s → length (surface_origins s) ≡ length s.base
origin_blocks s v = length-laid_origins (places (prefix s.log)) s.origins ∙ v.log.origin_blocks

kept_rise : (s : FlogState) (v : IsValid s) → InOrder Rises (kept_of s v)
kept_rise s v = let r = kept-given v.gone s.log in InOrder-left Rises (kept_of s v) r.0 (subst (InOrder Rises) r.1 v.log.rising)

-- ---- the surface law

from_top : (s : FlogState) (v : IsValid s) (b x : ℕ) → slice_get (surface_origins s) b ≡ Some (Some x) → (b < length s.base) × (top (kept_of s v) b ≡ Some x)
from_top s v b x e =
    let n = origin_blocks s v in
    let l = slice_get-length (surface_origins s) b (Some x) e in
    let lt : b < length s.base = omega (arith, n, l) in
    (lt, same_Some (top (kept_of s v) b) (Some x) (sym (origin_is s v b lt) ∙ e))

-- a kept place was moved
pub moved_from_given : (s : FlogState) (v : IsValid s) (p : Place) → In p (given_of s v) → IsMoved (seen s) p.part
moved_from_given s v p i =
    let q = v.log.taken p i in
    let d = given-done s.base s.took v.pending s.moved v.gone s.log s.data_area s.origins p v.moved v.log i in
    (epoch_at s.took p.part, v.moved.all p.part (part_at-lt s.took p.part q.0 q.1) d)

pub surface_law : (s : FlogState) → IsValid s → IsSurface (seen s)
surface_law s v = record {
  blocks = surface_blocks s v;
  places = origin_blocks s v;
  written = λ b x e.
      let t = from_top s v b x e in
      let p : Place = record { block = b; part = x } in
      let i = In-kept_given v.gone s.log p (top-In (kept_of s v) b x t.1) in
      let q = v.log.taken p i in
      let body : slice_get (surface s) b ≡ Some (body_at s.took x []) = body_is s v b t.0 ∙ ap (λ o. body_over s.took o (slice_get s.base b)) t.1 in
      let is : body_at s.took x [] ≡ (q.0).body = rw q.1 refl in
      (q.0, q.1, q.2, body ∙ ap Some is, moved_from_given s v p i);
  untouched = λ b e.
      let n = origin_blocks s v in
      let l = slice_get-length (surface_origins s) b None e in
      let lt : b < length s.base = omega (arith, n, l) in
      let none : top (kept_of s v) b ≡ None = same_Some (top (kept_of s v) b) None (sym (origin_is s v b lt) ∙ e) in
      body_is s v b lt ∙ ap (λ o. body_over s.took o (slice_get s.base b)) none;
}

-- ---- a part is kept just where its place is

pub place_kept : (s : FlogState) (v : IsValid s) (x : ℕ) (q : Part) → part_at s.took x ≡ Some q → In (record { block = q.block; part = x }) (kept_of s v) → IsPartKept (seen s) x
place_kept s v x q e i =
    let p : Place = record { block = q.block; part = x } in
    let t = In-top (kept_of s v) p (kept_rise s v) i in
    let lt = v.commands.within q (slice_get-In (all_parts s.took) x q e) in
    record { part = q; taken = e; origin = t.0; held = origin_is s v q.block lt ∙ ap Some t.1; later = t.2 }

-- what waits stands behind what is done of its block
done_before_kept : (s : FlogState) (v : IsValid s) (x o : ℕ) (p q : Part) → part_at s.took x ≡ Some p → part_at s.took o ≡ Some q → q.block ≡ p.block → x ≤ o → IsDone s.took v.pending (command_of_part s.took o) → IsDone s.took v.pending (command_of_part s.took x)
done_before_kept s v x o p q e f same le d =
    elim (waits-or-done s.took v.pending (command_of_part s.took x) (command_of_part-lt s.took x (part_at-lt s.took x p e))) [
      | inl w ↦
          let at = part_of-waiting s.took (with_waiting s.queue v.pending) w.0 x p v.queue w.1 e (sym w.2) in
          let lt = place-before s.took (with_waiting s.queue v.pending) w.0 o at.0 q p v.queue w.1 (part_at-lt s.took o q f) d f at.2 (sym same) in
          let n = at.1 in
          absurd (omega (arith, lt, le, n))
      | inr done ↦ done
    ]

-- a place of a kept part is kept
pub kept_place : (s : FlogState) (v : IsValid s) (x : ℕ) (k : IsPartKept (seen s) x) → In (record { block = k.part.block; part = x }) (kept_of s v)
kept_place s v x k =
    let b = k.part.block in
    let t = from_top s v b k.origin k.held in
    let o : Place = record { block = b; part = k.origin } in
    let there = top-In (kept_of s v) b k.origin t.1 in
    let o_given = In-kept_given v.gone s.log o there in
    let q = v.log.taken o o_given in
    let d = given-done s.base s.took v.pending s.moved v.gone s.log s.data_area s.origins o v.moved v.log o_given in
    let done = done_before_kept s v x k.origin k.part q.0 k.taken q.1 q.2 k.later d in
    let p : Place = record { block = b; part = x } in
    let i = done-given s.base s.took v.pending s.moved v.gone s.log s.data_area s.origins x k.part v.moved v.log k.taken done in
    let r = kept-given v.gone s.log in
    elim (In-append_cases (kept_of s v) r.0 p (subst (In p) r.1 i)) [
      | inl j ↦ j
      | inr j ↦
          let lt = InOrder-across Rises (kept_of s v) r.0 o p (subst (InOrder Rises) r.1 v.log.rising) there j refl in
          let le = k.later in
          absurd (omega (arith, lt, le))
    ]

pub kept_is_done : (s : FlogState) (v : IsValid s) (x : ℕ) → IsPartKept (seen s) x → IsDone s.took v.pending (command_of_part s.took x)
kept_is_done s v x k =
    given-done s.base s.took v.pending s.moved v.gone s.log s.data_area s.origins (record { block = k.part.block; part = x }) v.moved v.log (In-kept_given v.gone s.log (record { block = k.part.block; part = x }) (kept_place s v x k))

pub kept_is_moved : (s : FlogState) → IsValid s → (x : ℕ) → IsPartKept (seen s) x → IsMoved (seen s) x
kept_is_moved s v x k = moved_from_given s v (record { block = k.part.block; part = x }) (In-kept_given v.gone s.log (record { block = k.part.block; part = x }) (kept_place s v x k))

-- ---- the order of the log: what was moved before a kept part is kept

abbrev pub KeepsLogOrder : Seen → Type 0
KeepsLogOrder s = (i j x y a b : ℕ) → i < j → slice_get s.moved i ≡ Some (record { epoch = a; part = x }) → slice_get s.moved j ≡ Some (record { epoch = b; part = y }) → IsPartKept s y → IsPartKept s x

-- the place that was given at this number
given_at : (s : FlogState) (v : IsValid s) (i : ℕ) (t : Transfer) → slice_get s.moved i ≡ Some t → (p : Place) × (slice_get (given_of s v) i ≡ Some p) × (p.part ≡ t.part)
given_at s v i t e =
    let at : slice_get (map part_of (given_of s v)) i ≡ Some t.part = ap (λ (l : List ℕ). slice_get l i) v.log.parts ∙ slice_get-map_some moved_part s.moved i t e in
    map_some-slice_get part_of (given_of s v) i t.part at

pub log_order_law : (s : FlogState) → IsValid s → KeepsLogOrder (seen s)
log_order_law s v i j x y a b lt e f k =
    let r = kept-given v.gone s.log in
    let px = given_at s v i (record { epoch = a; part = x }) e in
    let py = given_at s v j (record { epoch = b; part = y }) f in
    let y_at : Place = record { block = k.part.block; part = y } in
    let ky = kept_place s v y k in
    let all = subst (InOrder Rises) r.1 v.log.rising in
    let n = ap length r.1 in
    -- the place of y stands among the kept ones
    let low : j < length (kept_of s v) =
    elim (cases_lt j (length (kept_of s v))) [
      | inl l ↦ l
      | inr le ↦
          let at : slice_get (kept_of s v ++ r.0) j ≡ Some py.0 = ap (λ (l : List Place). slice_get l j) (sym r.1) ∙ py.1 in
          let there = slice_get-In r.0 (j - length (kept_of s v)) py.0 (sym (slice_get-append_right (kept_of s v) r.0 j le) ∙ at) in
          let q = v.log.taken py.0 (slice_get-In (given_of s v) j py.0 py.1) in
          let one : q.0 ≡ k.part = same_Some q.0 k.part (sym q.1 ∙ ap (part_at s.took) py.2 ∙ k.taken) in
          let block : (py.0).block ≡ k.part.block = sym q.2 ∙ ap (λ (z : Part). z.block) one in
          let up = InOrder-across Rises (kept_of s v) r.0 y_at py.0 all ky there block in
          let same = py.2 in
          absurd (omega (arith, up, same))
    ] in
    let at : slice_get (kept_of s v) i ≡ Some px.0 =
    sym (slice_get-append_left (kept_of s v) r.0 i (omega (arith, low, lt))) ∙ ap (λ (l : List Place). slice_get l i) (sym r.1) ∙ px.1 in
    let q = v.log.taken px.0 (slice_get-In (given_of s v) i px.0 px.1) in
    let is : px.0 ≡ record { block = (q.0).block; part = x } = λ z. record { block = sym q.2 z; part = px.2 z } in
    place_kept s v x q.0 (ap (part_at s.took) (sym px.2) ∙ q.1) (subst (λ (p : Place). In p (kept_of s v)) is (slice_get-In (kept_of s v) i px.0 at))

-- ---- the epoch order law

barrier_is_done : (s : FlogState) (v : IsValid s) → (b k : ℕ) (c : Command) → slice_get s.took b ≡ Some c → c.barrier ≡ true → b < k → IsDone s.took v.pending k → IsDone s.took v.pending b
barrier_is_done s v b k c at is lt d =
    elim (waits-or-done s.took v.pending b (slice_get-length s.took b c at)) [
      | inl w ↦
          let n = w.2 in
          let taken = waiting-taken s.took (with_waiting s.queue v.pending) w.0 v.queue w.1 in
          let same : w.0.command ≡ c = same_Some w.0.command c (sym (v.queue.queued w.0 w.1) ∙ ap (slice_get s.took) w.2 ∙ at) in
          let ordered = barrier-ordered (length s.base) s.limit s.took w.0.command v.commands taken (ap (λ (a : Command). a.barrier) same ∙ is) in
          let before = done-before_ordered s.took (with_waiting s.queue v.pending) w.0 k v.queue w.1 ordered d in
          absurd (omega (arith, n, lt, before))
      | inr h ↦ h
    ]

done_before_barrier : (s : FlogState) (v : IsValid s) → (j b k : ℕ) → IsBarrier s.took b → j ≤ b → b < k → IsDone s.took v.pending k → IsDone s.took v.pending j
done_before_barrier s v j b k h le lt d =
    let c = barrier-is s.took b h in
    let here = barrier_is_done s v b k c.0 c.1 c.2 lt d in
    let within = here.taken in
    let ordered = barrier-ordered (length s.base) s.limit s.took c.0 v.commands (slice_get-In s.took b c.0 c.1) c.2 in
    elim (waits-or-done s.took v.pending j (omega arith)) [
      | inl w ↦
          let n = w.2 in
          let before = ordered-done_before s.took (with_waiting s.queue v.pending) w.0 b c.0 v.queue w.1 here c.1 ordered in
          absurd (omega (arith, n, le, before))
      | inr done ↦ done
    ]

pub epoch_order_law : (s : FlogState) → IsValid s → KeepsEpochOrder (seen s)
epoch_order_law s v = record {
  epochs = λ x y b lt h before after k.
      let d = done_before_barrier s v (command_of_part s.took x) b (command_of_part s.took y) h before after (kept_is_done s v y k) in
      let q = slice_get-in_range (all_parts s.took) x lt in
      let p : Place = record { block = (q.0).block; part = x } in
      let i = done-given s.base s.took v.pending s.moved v.gone s.log s.data_area s.origins x q.0 v.moved v.log q.1 d in
      let r = kept-given v.gone s.log in
      elim (In-append_cases (kept_of s v) r.0 p (subst (In p) r.1 i)) [
        | inl j ↦ place_kept s v x q.0 q.1 j
        | inr j ↦
            let le = InOrder-across (NoLater s.took) (kept_of s v) r.0 (record { block = k.part.block; part = y }) p (subst (InOrder (NoLater s.took)) r.1 v.log.epochs) (kept_place s v y k) j in
            let less = epoch_of-between s.took (command_of_part s.took x) b (command_of_part s.took y) h before after in
            absurd (omega (arith, le, less))
      ];
  blocks = λ x y p q le at there same k.
      let part : k.part ≡ q = same_Some k.part q (sym k.taken ∙ there) in
      let block : p.block ≡ k.part.block = same ∙ ap (λ (r : Part). r.block) (sym part) in
      let later = k.later in
      record { part = p; taken = at; origin = k.origin; held = ap (slice_get (surface_origins s)) block ∙ k.held; later = omega (arith, le, later) };
}

-- ---- the flush law

pub flushed_source : (s : FlogState) (v : IsValid s) → (id : ℕ) → In (Flushed id) (s.sent ++ s.waiting) → (k : ℕ) × IsFlush s.took k id × IsDone s.took v.pending k
flushed_source s v id h =
    let r = flushed-seen s.took v.pending v.lost (s.sent ++ s.waiting) (is_off s) s.told id v.completions h in
    (r.0, r.2, r.1)

pub same_flush : (s : FlogState) → IsValid s → (j k id : ℕ) → IsFlush s.took j id → IsFlush s.took k id → j ≡ k
same_flush s v j k id a b =
    let c = flush-is s.took j id a in
    let d = flush-is s.took k id b in
    id_once s.took j k c.0 d.0 id v.commands.fresh c.1 d.1 (In-flush-id c.0 id c.2) (In-flush-id d.0 id d.2)

pub flush_law : (s : FlogState) → IsValid s → KeepsFlush (seen s)
flush_law s v k id x told h lt before =
    let f = completions-seen s.took v.pending v.lost s.sent s.waiting (is_off s) s.told v.completions in
    let r = flushed-seen s.took v.pending v.lost (s.sent ++ answers_left s) (is_off s) f.0 id f.1 told in
    let done = subst (IsDone s.took v.pending) (same_flush s v r.0 k id r.2 h) r.1 in
    let p = slice_get-in_range (all_parts s.took) x lt in
    place_kept s v x p.0 p.1 (v.log.flushed k id x p.0 h done p.1 before)

-- ---- what is kept stays kept, where no place is lost

pub kept_grows : (s new : FlogState) (v : IsValid s) (w : IsValid new) → new.took ≡ s.took → ((p : Place) → In p (kept_of s v) → In p (kept_of new w)) → (x : ℕ) → IsPartKept (seen s) x → IsPartKept (seen new) x
kept_grows s new v w took grows x k =
    place_kept new w x k.part (ap (λ (l : List Command). part_at l x) took ∙ k.taken) (grows (record { block = k.part.block; part = x }) (kept_place s v x k))
