-- The present epoch, and the epochs of what waits, of what goes and of what was moved.
use Rattle.std.specs.Prelude.{◌≡◌, ℕ, zero, suc, ◌+◌, ◌<◌, ◌≤◌, ◌++◌, ◌⊎◌, true, false, List, [], ◌∷◌, length, Some, is_some, slice_get, refl, if◌then◌else◌}
use Rattle.std.proofs.Common.{sym, ap, subst, ◌∙◌, inl, inr, ⊎_elim, arith}
use Rattle.std.proofs.lemmas.Bool.{cases_Bool, cases_lt, cases_eq, or_left, or_right, both_ways, false_from_ne_true}
use Rattle.std.proofs.lemmas.List.{length_push}
use Rattle.std.proofs.lemmas.Option.{same_Some}
use Rattle.blk_base.specs.Members.{In}
use Rattle.blk_base.specs.laws.Members.{In-push, In-push_left, In-push_cases, In-append_left, In-append_right, In-append_cases, slice_get-In, slice_get-length, slice_get-in_range, slice_get-push}
use Rattle.order_model.specs.declared.part.Part.{Part}
use Rattle.order_model.specs.declared.command.Command.{Command}
use Rattle.order_model.specs.declared.history.Transfer.{Transfer}
use Rattle.order_model.specs.Received.{all_parts, first_part, command_of_part, epoch_of, transfers}
use Rattle.order_model.specs.Device.{is_ordered}
use Rattle.order_model.proofs.Received.{length-all_parts-push, command_of_part-lt, command_of_part-push_old, command_of_part-push_new, command_of_part-first, place_of, part-lt, epoch_of-push_old, epoch_of-mono, epoch_of-barrier, epoch_of-plain, epoch_of-flat}
use Rattle.device_epochs.specs.queue.Queue.{QueueState, Waiting, eligible, without}
use Rattle.device_epochs.specs.queue.Facts.{IsDone, CommandFacts, QueueFacts, IsPresent, MovedFacts}
use Rattle.device_epochs.specs.queue.laws.QueueLaws.{number-lt, In-without, without-In, done-received, received-done, done-moved, moved-done, moved-done-now, eligible-waits, eligible_clear, apart, waiting-done_apart}

-- ---- what is ORDERED

pub barrier-ordered : (blocks limit : ℕ) (took : List Command) (c : Command) → CommandFacts blocks limit took → In c took → c.barrier ≡ true → is_ordered c.priority ≡ true
barrier-ordered blocks limit took c f h b = ap is_ordered (f.ordered c h (or_left c.barrier (is_some c.flush) b))

pub flush-ordered : (blocks limit : ℕ) (took : List Command) (c : Command) → CommandFacts blocks limit took → In c took → is_some c.flush ≡ true → is_ordered c.priority ≡ true
flush-ordered blocks limit took c f h b = ap is_ordered (f.ordered c h (or_right c.barrier (is_some c.flush) b))

pub waiting-taken : (took : List Command) (q : QueueState) (w : Waiting) → QueueFacts took q → In w q.waiting → In w.command took
waiting-taken took q w f h = slice_get-In took w.number w.command (f.queued w h)

-- what is done stands before each ORDERED command that waits
pub done-before_ordered : (took : List Command) (q : QueueState) (w : Waiting) (k : ℕ) → QueueFacts took q → In w q.waiting → is_ordered w.command.priority ≡ true → IsDone took q.waiting k → k < w.number
done-before_ordered took q w k f h o d =
    let c = slice_get-in_range took k d.taken in
    ⊎_elim (λ lt. lt)
    (λ le.
    ⊎_elim
    (λ same. absurd (d.gone w h (sym same)))
    (λ ne. absurd (both_ways (is_ordered w.command.priority) (waiting-done_apart took q w k c.0 f h d c.1 (omega arith)).first o))
    (cases_eq k w.number))
    (cases_lt k w.number)

-- an ORDERED command that is done stands before all that waits
pub ordered-done_before : (took : List Command) (q : QueueState) (w : Waiting) (k : ℕ) (c : Command) → QueueFacts took q → In w q.waiting → IsDone took q.waiting k → slice_get took k ≡ Some c → is_ordered c.priority ≡ true → k < w.number
ordered-done_before took q w k c f h d e o =
    ⊎_elim (λ lt. lt)
    (λ le.
    ⊎_elim
    (λ same. absurd (d.gone w h (sym same)))
    (λ ne. absurd (both_ways (is_ordered c.priority) (waiting-done_apart took q w k c f h d e (omega arith)).second o))
    (cases_eq k w.number))
    (cases_lt k w.number)

-- an ORDERED command that may go is the first that waits
pub ordered-first : (ws : List Waiting) (w v : Waiting) → In w (eligible ws) → is_ordered w.command.priority ≡ true → In v ws → w.number ≤ v.number
ordered-first ws w v h o i =
    ⊎_elim
    (λ lt. absurd (both_ways (is_ordered w.command.priority) (apart v w lt (eligible_clear ws w v h i)).second o))
    (λ le. le)
    (cases_lt v.number w.number)

-- no barrier waits before a command that may go
pub eligible-no_barrier : (blocks limit : ℕ) (took : List Command) (q : QueueState) (w v : Waiting) → CommandFacts blocks limit took → QueueFacts took q → In w (eligible q.waiting) → In v q.waiting → v.number < w.number → v.command.barrier ≡ false
eligible-no_barrier blocks limit took q w v g f h i lt =
    false_from_ne_true v.command.barrier
    (λ b. both_ways (is_ordered v.command.priority) (apart v w lt (eligible_clear q.waiting w v h i)).first (barrier-ordered blocks limit took v.command g (waiting-taken took q v f i) b))

-- nor before one that is done
pub done-no_barrier : (blocks limit : ℕ) (took : List Command) (q : QueueState) (v : Waiting) (k : ℕ) → CommandFacts blocks limit took → QueueFacts took q → IsDone took q.waiting k → In v q.waiting → v.number < k → v.command.barrier ≡ false
done-no_barrier blocks limit took q v k g f d i lt =
    false_from_ne_true v.command.barrier
    (λ b. let before = done-before_ordered took q v k f i (barrier-ordered blocks limit took v.command g (waiting-taken took q v f i) b) d in absurd (omega arith))

-- ---- what waits, and the next that waits

pub find_number : (ws : List Waiting) (k : ℕ) → ((w : Waiting) × In w ws × (w.number ≡ k)) ⊎ ((w : Waiting) → In w ws → w.number ≡ k → ⊥)
find_number [] k = inr (λ w h e. h)
find_number (v ∷ vs) k =
    ⊎_elim
    (λ e. inl (v, inl refl, e))
    (λ ne.
    ⊎_elim
    (λ t. inl (t.0, inr t.1, t.2))
    (λ none. inr (λ w h e.
    ⊎_elim
    (λ s. ne (ap (λ (x : Waiting). x.number) s ∙ e))
    (λ i. none w i e)
    h))
    (find_number vs k))
    (cases_eq v.number k)

pub waits-or-done : (took : List Command) (ws : List Waiting) (k : ℕ) → k < length took → ((w : Waiting) × In w ws × (w.number ≡ k)) ⊎ IsDone took ws k
waits-or-done took ws k lt =
    ⊎_elim inl (λ none. inr (record { taken = lt; gone = none })) (find_number ws k)

-- the number of the first command above k that waits, or else n
record IsNext (n k : ℕ) (ws : List Waiting) : Type 0 where
  m : ℕ
  above : k < m
  is : (m ≡ n) ⊎ ((w : Waiting) × In w ws × (w.number ≡ m))
  least : (w : Waiting) → In w ws → k < w.number → m ≤ w.number

next_above : (n k : ℕ) (ws : List Waiting) → k < n → IsNext n k ws
next_above n k [] lt = record { m = n; above = lt; is = inl refl; least = λ w h l. absurd h }
next_above n k (v ∷ vs) lt =
    let rest = next_above n k vs lt in
    let keep : (k < v.number → rest.m ≤ v.number) → IsNext n k (v ∷ vs) =
    λ le. record {
      m = rest.m;
      above = rest.above;
      is = ⊎_elim inl (λ t. inr (t.0, inr t.1, t.2)) rest.is;
      least = λ w h l.
          ⊎_elim
          (λ e. let same = ap (λ (x : Waiting). x.number) e in let b = le (omega arith) in omega arith)
          (λ i. rest.least w i l)
          h;
    } in
    ⊎_elim
    (λ above.
    ⊎_elim
    (λ lower. record {
      m = v.number;
      above = above;
      is = inr (v, inl refl, refl);
      least = λ w h l.
          ⊎_elim
          (λ e. let same = ap (λ (x : Waiting). x.number) e in omega arith)
          (λ i. let b = rest.least w i l in omega arith)
          h;
    })
    (λ le. keep (λ _. le))
    (cases_lt v.number rest.m))
    (λ le. keep (λ l. absurd (omega arith)))
    (cases_lt k v.number)

-- ---- the present epoch

pub epoch_of_eligible : (blocks limit : ℕ) (took : List Command) (q : QueueState) (epoch : ℕ) (w : Waiting) → CommandFacts blocks limit took → QueueFacts took q → IsPresent took q.waiting epoch → In w (eligible q.waiting) → epoch_of took w.number ≡ epoch
epoch_of_eligible blocks limit took q epoch w g f p h =
    p w.number (inr (w, eligible-waits q.waiting w h, refl)) (λ v i lt. eligible-no_barrier blocks limit took q w v g f h i lt)

pub done_epoch-le : (blocks limit : ℕ) (took : List Command) (q : QueueState) (epoch k : ℕ) → CommandFacts blocks limit took → QueueFacts took q → IsPresent took q.waiting epoch → IsDone took q.waiting k → epoch_of took k ≤ epoch
done_epoch-le blocks limit took q epoch k g f p d =
    let next = next_above (length took) k q.waiting d.taken in
    let same = p next.m next.is
    (λ v i lt.
    ⊎_elim
    (λ above. let le = next.least v i above in absurd (omega arith))
    (λ le.
    ⊎_elim
    (λ e. absurd (d.gone v i e))
    (λ ne. done-no_barrier blocks limit took q v k g f d i (omega arith))
    (cases_eq v.number k))
    (cases_lt k v.number)) in
    let above = next.above in
    let mono = epoch_of-mono took k next.m (omega arith) in
    omega arith

pub present-received : (took : List Command) (q : QueueState) (epoch : ℕ) (c : Command) (w : Waiting) → QueueFacts took q → IsPresent took q.waiting epoch → w.number ≡ length took → w.command ≡ c → IsPresent (took ++ c ∷ []) (q.waiting ++ w ∷ []) epoch
present-received took q epoch c w f p at it k ahead clear =
    let n = length_push took c in
    let at_end : (k : ℕ) → k ≡ length took → ((v : Waiting) → In v (q.waiting ++ w ∷ []) → v.number < k → v.command.barrier ≡ false) → epoch_of (took ++ c ∷ []) k ≡ epoch =
    λ k e none.
    epoch_of-push_old took c k (omega arith)
    ∙ p k (inl e) (λ v i lt. none v (In-push_left q.waiting w v i) lt) in
    ⊎_elim
    (λ e.
    let plain : c.barrier ≡ false = ap (λ (d : Command). d.barrier) (sym it) ∙ clear w (In-push q.waiting w) (omega arith) in
    let next : k ≡ suc (length took) = omega arith in
    ap (epoch_of (took ++ c ∷ [])) next
    ∙ epoch_of-plain (took ++ c ∷ []) (length took) c (slice_get-push took c) plain
    ∙ at_end (length took) refl (λ v i lt. clear v i (omega arith)))
    (λ t.
    ⊎_elim
    (λ i.
    let e = t.2 in
    let lt = number-lt q.next q.waiting t.0 f.numbered i in
    let next = f.next in
    epoch_of-push_old took c k (omega arith)
    ∙ p k (inr (t.0, i, t.2)) (λ v j lt. clear v (In-push_left q.waiting w v j) lt))
    (λ same. at_end k (sym t.2 ∙ ap (λ (x : Waiting). x.number) (sym same) ∙ at) clear)
    (In-push_cases q.waiting w t.0 t.1))
    ahead

present-barrier : (blocks limit : ℕ) (took : List Command) (q : QueueState) (epoch : ℕ) (w : Waiting) → CommandFacts blocks limit took → QueueFacts took q → IsPresent took q.waiting epoch → In w (eligible q.waiting) → w.command.barrier ≡ true → IsPresent took (without w.number q.waiting) (epoch + 1)
present-barrier blocks limit took q epoch w g f p h b k ahead clear =
    let there = eligible-waits q.waiting w h in
    let o = barrier-ordered blocks limit took w.command g (waiting-taken took q w f there) b in
    let low = number-lt q.next q.waiting w f.numbered there in
    let next = f.next in
    let bounds : (w.number < k) × (k ≤ length took) =
    ⊎_elim
    (λ e. (omega arith, omega arith))
    (λ t.
    let i = In-without w.number q.waiting t.0 t.1 in
    let le = ordered-first q.waiting w t.0 h o i.0 in
    let high = number-lt q.next q.waiting t.0 f.numbered i.0 in
    let e = t.2 in
    let ne : t.0.number ≡ w.number → ⊥ = i.1 in
    ⊎_elim
    (λ same. absurd (ne same))
    (λ other. (omega arith, omega arith))
    (cases_eq t.0.number w.number))
    ahead in
    let flat = epoch_of-flat took (suc w.number) k bounds.0 bounds.1
    (λ x c from to e.
    ⊎_elim
    (λ v.
    let same = v.2 in
    let i = without-In w.number q.waiting v.0 v.1 (λ s. absurd (omega arith)) in
    let at : slice_get took v.0.number ≡ Some c = ap (slice_get took) v.2 ∙ e in
    ap (λ (d : Command). d.barrier) (same_Some c v.0.command (sym at ∙ f.queued v.0 v.1))
    ∙ clear v.0 i (omega arith))
    (λ d. let before = done-before_ordered took q w x f there o d in absurd (omega arith))
    (waits-or-done took q.waiting x (slice_get-length took x c e))) in
    let up = epoch_of-barrier took w.number w.command (f.queued w there) b in
    let now = epoch_of_eligible blocks limit took q epoch w g f p h in
    omega arith

pub present-moved : (blocks limit : ℕ) (took : List Command) (q : QueueState) (epoch : ℕ) (w : Waiting) → CommandFacts blocks limit took → QueueFacts took q → IsPresent took q.waiting epoch → In w (eligible q.waiting) → IsPresent took (without w.number q.waiting) (if w.command.barrier then epoch + 1 else epoch)
present-moved blocks limit took q epoch w g f p h =
    elim (cases_Bool w.command.barrier) [
      | inl t ↦ rw t (present-barrier blocks limit took q epoch w g f p h t)
      | inr n ↦
          rw n (λ k ahead clear.
          p k
          (⊎_elim inl (λ t. inr (t.0, (In-without w.number q.waiting t.0 t.1).0, t.2)) ahead)
          (λ v i lt.
          ⊎_elim
          (λ same.
          let it : v.command ≡ w.command = same_Some v.command w.command (sym (f.queued v i) ∙ ap (slice_get took) same ∙ f.queued w (eligible-waits q.waiting w h)) in
          ap (λ (d : Command). d.barrier) it ∙ n)
          (λ ne. clear v (without-In w.number q.waiting v i ne) lt)
          (cases_eq v.number w.number)))
    ]

-- ---- what was moved

abbrev transfer : ℕ → ℕ → Transfer
transfer epoch part = record { epoch = epoch; part = part }

pub In-transfers : (epoch place : ℕ) (ps : List Part) (t : Transfer) → In t (transfers epoch place ps) → (i : ℕ) × (i < length ps) × (t.part ≡ place + i) × (t.epoch ≡ epoch)
In-transfers epoch place [] t h = absurd h
In-transfers epoch place (p ∷ ps) t (inl e) =
    let part = ap (λ (x : Transfer). x.part) e in
    (0, omega arith, omega arith, ap (λ (x : Transfer). x.epoch) (sym e))
In-transfers epoch place (p ∷ ps) t (inr h) =
    let r = In-transfers epoch (place + 1) ps t h in
    let lt = r.1 in
    let at = r.2 in
    (suc r.0, omega arith, omega arith, r.3)

pub transfers-In : (epoch place : ℕ) (ps : List Part) (i : ℕ) → i < length ps → In (transfer epoch (place + i)) (transfers epoch place ps)
transfers-In epoch place [] i lt = absurd (omega arith)
transfers-In epoch place (p ∷ ps) zero lt = inl (ap (transfer epoch) (omega arith))
transfers-In epoch place (p ∷ ps) (suc i) lt =
    let at : (place + 1) + i ≡ place + suc i = omega arith in
    inr (subst (λ n. In (transfer epoch n) (transfers epoch (place + 1) ps)) at (transfers-In epoch (place + 1) ps i (omega arith)))

pub length-transfers : (epoch place : ℕ) (ps : List Part) → length (transfers epoch place ps) ≡ length ps
length-transfers epoch place [] = refl
length-transfers epoch place (p ∷ ps) = ap suc (length-transfers epoch (place + 1) ps)

pub moved-received : (took : List Command) (ws : List Waiting) (moved : List Transfer) (c : Command) (w : Waiting) → MovedFacts took ws moved → w.number ≡ length took → w.command ≡ c → MovedFacts (took ++ c ∷ []) (ws ++ w ∷ []) moved
moved-received took ws moved c w f at it =
    let n = length-all_parts-push took c in
    let cs = took ++ c ∷ [] in
    record {
      place = λ t h. let lt = f.place t h in omega arith;
      done = λ t h.
          subst (IsDone cs (ws ++ w ∷ [])) (sym (command_of_part-push_old took c t.part (f.place t h)))
          (received-done took ws c w (command_of_part took t.part) at (f.done t h));
      epoch = λ t h.
          let lt = command_of_part-lt took t.part (f.place t h) in
          f.epoch t h
          ∙ sym (ap (epoch_of cs) (command_of_part-push_old took c t.part (f.place t h)) ∙ epoch_of-push_old took c (command_of_part took t.part) (omega arith));
      all = λ x lt d.
          ⊎_elim
          (λ old.
          let same = command_of_part-push_old took c x old in
          let k = command_of_part-lt took x old in
          let before = done-received took ws c w (command_of_part took x) at (subst (IsDone cs (ws ++ w ∷ [])) same d) in
          subst (λ e. In (transfer e x) moved) (sym (ap (epoch_of cs) same ∙ epoch_of-push_old took c (command_of_part took x) (omega arith)))
          (f.all x old before))
          (λ new. absurd (d.gone w (In-push ws w) (at ∙ sym (command_of_part-push_new took c x new (omega arith)))))
          (cases_lt x (length (all_parts took)));
    }

pub moved-moved : (took : List Command) (q : QueueState) (moved : List Transfer) (epoch : ℕ) (w : Waiting) → QueueFacts took q → MovedFacts took q.waiting moved → In w q.waiting → epoch_of took w.number ≡ epoch → MovedFacts took (without w.number q.waiting) (moved ++ transfers epoch (first_part took w.number) w.command.parts)
moved-moved took q moved epoch w f m h now =
    let ws = without w.number q.waiting in
    let at = f.queued w h in
    let new = transfers epoch (first_part took w.number) w.command.parts in
    let number : (t : Transfer) → In t new → command_of_part took t.part ≡ w.number =
    λ t i.
    let r = In-transfers epoch (first_part took w.number) w.command.parts t i in
    ap (command_of_part took) r.2 ∙ command_of_part-first took w.number w.command r.0 at r.1 in
    let now_done = moved-done-now took q.waiting w.number (slice_get-length took w.number w.command at) in
    record {
      place = λ t i.
          ⊎_elim (m.place t)
          (λ j.
          let r = In-transfers epoch (first_part took w.number) w.command.parts t j in
          let lt = part-lt took w.number w.command r.0 at r.1 in
          let e = r.2 in
          omega arith)
          (In-append_cases moved new t i);
      done = λ t i.
          ⊎_elim
          (λ j. moved-done took q.waiting w.number (command_of_part took t.part) (m.done t j))
          (λ j. subst (IsDone took ws) (sym (number t j)) now_done)
          (In-append_cases moved new t i);
      epoch = λ t i.
          ⊎_elim (m.epoch t)
          (λ j.
          (In-transfers epoch (first_part took w.number) w.command.parts t j).3
          ∙ sym (ap (epoch_of took) (number t j) ∙ now))
          (In-append_cases moved new t i);
      all = λ x lt d.
          ⊎_elim
          (λ old. In-append_left moved new (transfer (epoch_of took (command_of_part took x)) x) (m.all x lt old))
          (λ same.
          let p = place_of took x lt in
          let it : p.command ≡ w.command = same_Some p.command w.command (sym p.taken ∙ ap (slice_get took) same ∙ at) in
          let within : p.inside < length w.command.parts = subst (λ (d : Command). p.inside < length d.parts) it p.within in
          let here : first_part took w.number + p.inside ≡ x = ap (λ k. first_part took k + p.inside) (sym same) ∙ sym p.place in
          let e : epoch ≡ epoch_of took (command_of_part took x) = sym (ap (epoch_of took) same ∙ now) in
          In-append_right moved new (transfer (epoch_of took (command_of_part took x)) x)
          (subst (λ n. In (transfer n x) new) e (subst (λ n. In (transfer epoch n) new) here (transfers-In epoch (first_part took w.number) w.command.parts p.inside within))))
          (done-moved took q.waiting w.number (command_of_part took x) d);
    }
