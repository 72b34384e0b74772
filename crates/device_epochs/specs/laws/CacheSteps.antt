-- What each step of the device keeps of its cache and of its medium.
use Rattle.std.specs.Prelude.{◌≡◌, ◌≢◌, ℕ, ◌+◌, ◌<◌, ◌≤◌, ◌==◌, ◌⊎◌, ◌||◌, true, false, not, List, [], ◌∷◌, ◌++◌, length, Option, Some, None, is_some, slice_get, slice_set, if◌then◌else◌, refl}
use Rattle.std.proofs.Common.{sym, ap, subst, ◌∙◌, inl, inr, arith, length-set}
use Rattle.std.proofs.lemmas.Bool.{cases_Bool, cases_eq, cases_lt, eqb-true, both_ways}
use Rattle.std.proofs.lemmas.List.{nil_from_length}
use Rattle.std.proofs.lemmas.Option.{none-some, same_Some}
use Rattle.blk_base.specs.Members.{In}
use Rattle.blk_base.specs.laws.Members.{slice_get-In, slice_get-length, slice_get-push_left, slice_get-set_same, slice_get-set_other}
use Rattle.order_model.specs.declared.part.Part.{Part}
use Rattle.order_model.specs.declared.command.Command.{Command}
use Rattle.order_model.specs.Received.{all_parts, part_at, command_of_part, first_part, epoch_of}
use Rattle.order_model.proofs.Received.{command_of_part-lt, command_of_part-push_old, command_of_part-push_new, length-all_parts-push, part_at-push_old, epoch_of-push_old, command_of_part-earlier, epoch_of-mono, flush-is, is-flush}
use Rattle.device_epochs.specs.queue.Queue.{QueueState, Waiting, without, eligible}
use Rattle.device_epochs.specs.queue.laws.QueueLaws.{part_at-lt, part_of-waiting, parts_of-waiting}
use Rattle.device_epochs.specs.declared.cache.Entry.{Entry}
use Rattle.device_epochs.specs.Cache.{same_place, entries, put_all, oldest, without_entry}
use Rattle.device_epochs.specs.laws.CacheLaws.{In-put_all, AreUnique-put_all, AreSorted-put_all, put_all-IsCached, put_all-In_new, In-entries, entries-In, IsAscending-entries, In-oldest, In-without_entry, without_entry_cases, AreUnique-filter, AreSorted-filter, same_place_from}
use Rattle.device_epochs.specs.Device.{body_at}
use Rattle.device_epochs.specs.queue.laws.EpochLaws.{flush-ordered, waiting-taken, ordered-first, waits-or-done, epoch_of_eligible, done_epoch-le}
use Rattle.device_epochs.specs.queue.laws.QueueLaws.{done-received, received-done, done-moved, moved-done, moved-done-now, eligible-waits, place-before}
use Rattle.device_epochs.specs.queue.Facts.{IsDone, IsPresent, CommandFacts, QueueFacts}
use Rattle.device_epochs.specs.laws.Valid.{IsEntry, CacheFacts, IsHeld, IsCached, MediumFacts}

-- ---- a command arrives

part_at-pushed : (took : List Command) (c : Command) (x : ℕ) (p : Part) → part_at took x ≡ Some p → part_at (took ++ c ∷ []) x ≡ Some p
part_at-pushed took c x p e = part_at-push_old took c x (part_at-lt took x p e) ∙ e

command_of_part-pushed : (took : List Command) (c : Command) (x : ℕ) (p : Part) → part_at took x ≡ Some p → command_of_part (took ++ c ∷ []) x ≡ command_of_part took x
command_of_part-pushed took c x p e = command_of_part-push_old took c x (part_at-lt took x p e)

-- the epoch of a part that was there
part_epoch-pushed : (took : List Command) (c : Command) (x : ℕ) (p : Part) → part_at took x ≡ Some p → epoch_of (took ++ c ∷ []) (command_of_part (took ++ c ∷ []) x) ≡ epoch_of took (command_of_part took x)
part_epoch-pushed took c x p e =
    let lt = command_of_part-lt took x (part_at-lt took x p e) in
    ap (epoch_of (took ++ c ∷ [])) (command_of_part-pushed took c x p e) ∙ epoch_of-push_old took c (command_of_part took x) (omega arith)

-- what is done now was there before
done_part : (took : List Command) (c : Command) (x k : ℕ) (p : Part) → k < length took → part_at (took ++ c ∷ []) x ≡ Some p → command_of_part (took ++ c ∷ []) x ≤ k → part_at took x ≡ Some p
done_part took c x k p lt e le =
    elim (cases_lt x (length (all_parts took))) [
      | inl l ↦ sym (part_at-push_old took c x l) ∙ e
      | inr g ↦
          let n = length-all_parts-push took c in
          let m = part_at-lt (took ++ c ∷ []) x p e in
          let last = command_of_part-push_new took c x g (omega arith) in
          absurd (omega arith)
    ]

IsEntry-arrived : (took : List Command) (waiting : List Waiting) (epoch : ℕ) (c : Command) (w : Waiting) (e : Entry) → w.number ≡ length took → IsEntry took waiting epoch e → IsEntry (took ++ c ∷ []) (waiting ++ w ∷ []) epoch e
IsEntry-arrived took waiting epoch c w e last h = record {
  part = h.part;
  taken = part_at-pushed took c e.part h.part h.taken;
  block = h.block;
  done =
      subst (IsDone (took ++ c ∷ []) (waiting ++ w ∷ [])) (sym (command_of_part-pushed took c e.part h.part h.taken))
      (received-done took waiting c w (command_of_part took e.part) last h.done);
  in_epoch = h.in_epoch ∙ sym (part_epoch-pushed took c e.part h.part h.taken);
  past = h.past;
}

pub CacheFacts-received : (took : List Command) (waiting : List Waiting) (epoch : ℕ) (cache : List Entry) (c : Command) (w : Waiting) → w.number ≡ length took → CacheFacts took waiting epoch cache
    → CacheFacts (took ++ c ∷ []) (waiting ++ w ∷ []) epoch cache
CacheFacts-received took waiting epoch cache c w last f = record {
  entries = λ e i. IsEntry-arrived took waiting epoch c w e last (f.entries e i);
  unique = f.unique;
  sorted = f.sorted;
}

pub MediumFacts-received : (base : List (List ℕ)) (took : List Command) (waiting : List Waiting) (cache : List Entry) (surface : List (List ℕ)) (origins : List (Option ℕ)) (c : Command) (w : Waiting) → w.number ≡ length took
    → MediumFacts base took waiting cache surface origins
    → MediumFacts base (took ++ c ∷ []) (waiting ++ w ∷ []) cache surface origins
MediumFacts-received base took waiting cache surface origins c w last f =
    let now = took ++ c ∷ [] in
    record {
      blocks = f.blocks;
      places = f.places;
      written = λ b x o.
          let g = f.written b x o in (
            g.0,
            part_at-pushed took c x g.0 g.1,
            g.2,
            g.3,
            subst (IsDone now (waiting ++ w ∷ [])) (sym (command_of_part-pushed took c x g.0 g.1)) (received-done took waiting c w (command_of_part took x) last g.4),
          );
      untouched = f.untouched;
      older = λ b x e o i.
          let g = f.written b x o in
          subst (λ n. n ≤ e.epoch) (sym (part_epoch-pushed took c x g.0 g.1)) (f.older b x e o i);
      newer = f.newer;
      covered = λ x p e d.
          let old = done-received took waiting c w (command_of_part now x) last d in
          let at = done_part took c x (command_of_part now x) p old.taken e (omega arith) in
          let there = subst (IsDone took waiting) (command_of_part-pushed took c x p at) old in
          subst (λ n. IsCached cache n p.block x ⊎ IsHeld origins p.block x) (sym (part_epoch-pushed took c x p at)) (f.covered x p at there);
      flushed = λ k id x p h d e lt.
          let old = done-received took waiting c w k last d in
          let at = done_part took c x k p old.taken e (omega arith) in
          let g = flush-is now k id h in
          let was : slice_get took k ≡ Some g.0 = sym (slice_get-push_left took c k old.taken) ∙ g.1 in
          f.flushed k id x p (is-flush took k id g.0 was g.2) old at (subst (λ n. n < k) (command_of_part-pushed took c x p at) lt);
    }

-- ---- a command goes into the cache

-- the epoch after a command
abbrev pub epoch_after : ℕ → Waiting → ℕ
epoch_after epoch w = if w.command.barrier then epoch + 1 else epoch

epoch_after-le : (epoch : ℕ) (w : Waiting) → epoch ≤ epoch_after epoch w
epoch_after-le epoch w = elim (cases_Bool w.command.barrier) [ inl t ↦ rw t (omega arith) | inr n ↦ rw n (omega arith) ]

-- the entries of the command that goes
abbrev pub new_entries : List Command → ℕ → Waiting → List Entry
new_entries took epoch w = entries epoch (first_part took w.number) w.command.parts

IsEntry-new : (took : List Command) (queue : QueueState) (epoch : ℕ) (w : Waiting) (e : Entry) → QueueFacts took queue → In w queue.waiting → epoch_of took w.number ≡ epoch
    → In e (new_entries took epoch w) → IsEntry took (without w.number queue.waiting) (epoch_after epoch w) e
IsEntry-new took queue epoch w e f h present i =
    let r = In-entries epoch (first_part took w.number) w.command.parts e i in
    let here = parts_of-waiting took queue w r.0 r.1 f h r.2 in
    let number : command_of_part took e.part ≡ w.number = ap (command_of_part took) r.5 ∙ here.1 in
    let within = slice_get-length took w.number w.command (f.queued w h) in
    record {
      part = r.1;
      taken = ap (part_at took) r.5 ∙ here.0;
      block = sym r.4;
      done = subst (IsDone took (without w.number queue.waiting)) (sym number) (moved-done-now took queue.waiting w.number within);
      in_epoch = r.3 ∙ sym present ∙ ap (epoch_of took) (sym number);
      past = subst (λ n. n ≤ epoch_after epoch w) (sym r.3) (epoch_after-le epoch w);
    }

pub CacheFacts-moved : (took : List Command) (queue : QueueState) (epoch : ℕ) (cache : List Entry) (w : Waiting) → QueueFacts took queue → In w queue.waiting → epoch_of took w.number ≡ epoch
    → CacheFacts took queue.waiting epoch cache → CacheFacts took (without w.number queue.waiting) (epoch_after epoch w) (put_all (new_entries took epoch w) cache)
CacheFacts-moved took queue epoch cache w q h present f = record {
  entries = λ e i.
      elim (In-put_all (new_entries took epoch w) cache e i) [
        | inl new ↦ IsEntry-new took queue epoch w e q h present new
        | inr old ↦
            let g = f.entries e old in
            let le = g.past in
            let more = epoch_after-le epoch w in
            record {
              part = g.part;
              taken = g.taken;
              block = g.block;
              done = moved-done took queue.waiting w.number (command_of_part took e.part) g.done;
              in_epoch = g.in_epoch;
              past = omega (arith, le, more);
            }
      ];
  unique = AreUnique-put_all (new_entries took epoch w) cache f.unique;
  sorted =
      AreSorted-put_all epoch (new_entries took epoch w) cache f.sorted
      (λ e i. (In-entries epoch (first_part took w.number) w.command.parts e i).3)
      (λ e i. (f.entries e i).past);
}

-- the command may go: a flush only where the cache is empty
may_go : (cache : List Entry) (w : Waiting) (id : ℕ) → (not (is_some w.command.flush) || (length cache == 0)) ≡ true → w.command.flush ≡ Some id → cache ≡ []
may_go cache w id h e = nil_from_length cache (eqb-true (length cache) 0 (rw e at h))

-- before a flush that may go, all is done
done_before_flush : (blocks limit : ℕ) (took : List Command) (queue : QueueState) (w : Waiting) (id j : ℕ) → CommandFacts blocks limit took → QueueFacts took queue → In w (eligible queue.waiting) → w.command.flush ≡ Some id → j < w.number → IsDone took queue.waiting j
done_before_flush blocks limit took queue w id j c q h e lt =
    let inside = eligible-waits queue.waiting w h in
    let within = slice_get-length took w.number w.command (q.queued w inside) in
    let ordered = flush-ordered blocks limit took w.command c (waiting-taken took queue w q inside) (rw e refl) in
    elim (waits-or-done took queue.waiting j (omega arith)) [
      | inl v ↦
          let n = v.2 in
          let le = ordered-first queue.waiting w v.0 h ordered v.1 in
          absurd (omega (arith, n, lt, le))
      | inr d ↦ d
    ]

pub MediumFacts-moved : (base : List (List ℕ)) (blocks limit : ℕ) (took : List Command) (queue : QueueState) (epoch : ℕ) (cache : List Entry) (surface : List (List ℕ)) (origins : List (Option ℕ)) (w : Waiting)
    → CommandFacts blocks limit took → QueueFacts took queue → IsPresent took queue.waiting epoch → CacheFacts took queue.waiting epoch cache → MediumFacts base took queue.waiting cache surface origins
    → In w (eligible queue.waiting) → (not (is_some w.command.flush) || (length cache == 0)) ≡ true
    → MediumFacts base took (without w.number queue.waiting) (put_all (new_entries took epoch w) cache) surface origins
MediumFacts-moved base blocks limit took queue epoch cache surface origins w c q present cf f h may =
    let inside = eligible-waits queue.waiting w h in
    record {
      blocks = f.blocks;
      places = f.places;
      written = λ b x o. let g = f.written b x o in (g.0, g.1, g.2, g.3, moved-done took queue.waiting w.number (command_of_part took x) g.4);
      untouched = f.untouched;
      older = λ b x e o i.
          elim (In-put_all (new_entries took epoch w) cache e i) [
            | inl new ↦
                let r = In-entries epoch (first_part took w.number) w.command.parts e new in
                let g = f.written b x o in
                subst (λ n. epoch_of took (command_of_part took x) ≤ n) (sym r.3)
                (done_epoch-le blocks limit took queue epoch (command_of_part took x) c q present g.4)
            | inr old ↦ f.older b x e o old
          ];
      newer = λ x e o i.
          elim (In-put_all (new_entries took epoch w) cache e i) [
            | inl new ↦
                let r = In-entries epoch (first_part took w.number) w.command.parts e new in
                let g = f.written e.block x o in
                subst (λ n. x < n) (sym r.5)
                (place-before took queue w x r.0 g.0 r.1 q inside (part_at-lt took x g.0 g.1) g.4 g.1 r.2 (sym (g.2 ∙ r.4)))
            | inr old ↦ f.newer x e o old
          ];
      covered = λ x p e d. covered_after x p e (done-moved took queue.waiting w.number (command_of_part took x) d);
      flushed = λ k id x p g d e lt.
          elim (done-moved took queue.waiting w.number k d) [
            | inl old ↦ f.flushed k id x p g old e lt
            | inr here ↦
                let at = flush-is took k id g in
                let same : at.0 ≡ w.command = same_Some at.0 w.command (sym at.1 ∙ ap (slice_get took) here ∙ q.queued w inside) in
                let flush : w.command.flush ≡ Some id = ap (λ (a : Command). a.flush) (sym same) ∙ at.2 in
                let done = done_before_flush blocks limit took queue w id (command_of_part took x) c q h flush (subst (λ n. command_of_part took x < n) here lt) in
                elim (f.covered x p e done) [
                  | inl cached ↦ absurd (subst (In cached.entry) (may_go cache w id may flush) cached.there)
                  | inr held ↦ held
                ]
          ];
    }
  where
    covered_after : (x : ℕ) (p : Part) → part_at took x ≡ Some p → IsDone took queue.waiting (command_of_part took x) ⊎ (command_of_part took x ≡ w.number)
        → IsCached (put_all (new_entries took epoch w) cache) (epoch_of took (command_of_part took x)) p.block x ⊎ IsHeld origins p.block x
    covered_after x p e (inl done) =
        elim (f.covered x p e done) [
          | inl cached ↦
              inl
              (put_all-IsCached (new_entries took epoch w) cache (epoch_of took (command_of_part took x)) p.block x cached
              (λ g i a b.
              let r = In-entries epoch (first_part took w.number) w.command.parts g i in
              let lt = place-before took queue w x r.0 p r.1 q (eligible-waits queue.waiting w h) (part_at-lt took x p e) done e r.2 (sym (sym b ∙ r.4)) in
              let n = r.5 in
              omega (arith, lt, n)))
          | inr held ↦ inr held
        ]
    covered_after x p e (inr here) =
        let inside = eligible-waits queue.waiting w h in
        let r = part_of-waiting took queue w x p q inside e here in
        let n : epoch_of took (command_of_part took x) ≡ epoch = ap (epoch_of took) here ∙ epoch_of_eligible blocks limit took queue epoch w c q present h in
        let new = put_all-In_new (new_entries took epoch w) cache (record { epoch = epoch; block = p.block; part = first_part took w.number + r.0 })
        (IsAscending-entries epoch (first_part took w.number) w.command.parts)
        (entries-In epoch (first_part took w.number) w.command.parts r.0 p r.2) in
        let at : IsCached (put_all (new_entries took epoch w) cache) epoch p.block x =
        subst (λ m. IsCached (put_all (new_entries took epoch w) cache) epoch p.block m) (sym r.1) new in
        inl (subst (λ m. IsCached (put_all (new_entries took epoch w) cache) m p.block x) (sym n) at)

-- ---- an entry goes to the medium

pub CacheFacts-written : (took : List Command) (waiting : List Waiting) (epoch : ℕ) (cache : List Entry) (e : Entry) → CacheFacts took waiting epoch cache → CacheFacts took waiting epoch (without_entry e cache)
CacheFacts-written took waiting epoch cache e f = record {
  entries = λ g i. f.entries g (In-without_entry e cache g i).0;
  unique = AreUnique-filter (λ g. not (same_place e g)) cache f.unique;
  sorted = AreSorted-filter (λ g. not (same_place e g)) cache f.sorted;
}

-- what the medium holds, it holds after the write of a later part
pub IsHeld-written : (origins : List (Option ℕ)) (e : Entry) (block x : ℕ) → ((o : ℕ) → slice_get origins e.block ≡ Some (Some o) → o < e.part) → IsHeld origins block x → IsHeld (slice_set origins e.block (Some e.part)) block x
IsHeld-written origins e block x newer h =
    elim (cases_eq block e.block) [
      | inl q ↦
          let there : slice_get origins e.block ≡ Some (Some h.0) = ap (slice_get origins) (sym q) ∙ h.1 in
          let lt = newer h.0 there in
          let le = h.2 in
          (e.part, ap (slice_get (slice_set origins e.block (Some e.part))) q ∙ slice_get-set_same origins e.block (Some e.part) (slice_get-length origins e.block (Some h.0) there), omega (arith, lt, le))
      | inr ne ↦ (h.0, slice_get-set_other origins e.block block (Some e.part) ne ∙ h.1, h.2)
    ]

same_origin : (x y : ℕ) → ◌≡◌ {A = Option (Option ℕ)} (Some (Some x)) (Some (Some y)) → x ≡ y
same_origin x y e = same_Some x y (same_Some (Some x) (Some y) e)

no_origin : (x : ℕ) → ◌≡◌ {A = Option (Option ℕ)} (Some (Some x)) (Some None) → ⊥
no_origin x e = none-some x (sym (same_Some (Some x) None e))

pub MediumFacts-written : (base : List (List ℕ)) (limit : ℕ) (took : List Command) (waiting : List Waiting) (epoch : ℕ) (cache : List Entry) (surface : List (List ℕ)) (origins : List (Option ℕ)) (e : Entry)
    → CommandFacts (length base) limit took → CacheFacts took waiting epoch cache → MediumFacts base took waiting cache surface origins → In e (oldest cache)
    → MediumFacts base took waiting (without_entry e cache) (slice_set surface e.block (body_at took e.part [])) (slice_set origins e.block (Some e.part))
MediumFacts-written base limit took waiting epoch cache surface origins e c cf f h =
    let first = In-oldest cache e cf.sorted h in
    let entry = cf.entries e first.0 in
    let block : e.block < length base = subst (λ b. b < length base) entry.block (c.within entry.part (slice_get-In (all_parts took) e.part entry.part entry.taken)) in
    let on_surface : e.block < length surface = subst (λ n. e.block < n) (sym f.blocks) block in
    let on_origins : e.block < length origins = subst (λ n. e.block < n) (sym f.places) block in
    let origin : slice_get (slice_set origins e.block (Some e.part)) e.block ≡ Some (Some e.part) = slice_get-set_same origins e.block (Some e.part) on_origins in
    let body : body_at took e.part [] ≡ entry.part.body = rw entry.taken refl in
    let newer_held = λ (o : ℕ) (q : slice_get origins e.block ≡ Some (Some o)). f.newer o e q first.0 in
    record {
      blocks = length-set surface e.block (body_at took e.part []) ∙ f.blocks;
      places = length-set origins e.block (Some e.part) ∙ f.places;
      written = λ b x o.
          elim (cases_eq b e.block) [
            | inl q ↦
                let at = same_origin e.part x (sym origin ∙ ap (slice_get (slice_set origins e.block (Some e.part))) (sym q) ∙ o) in (
                  entry.part,
                  ap (part_at took) (sym at) ∙ entry.taken,
                  entry.block ∙ sym q,
                  ap (slice_get (slice_set surface e.block (body_at took e.part []))) q ∙ slice_get-set_same surface e.block (body_at took e.part []) on_surface ∙ ap Some body,
                  subst (λ y. IsDone took waiting (command_of_part took y)) at entry.done,
                )
            | inr ne ↦
                let g = f.written b x (sym (slice_get-set_other origins e.block b (Some e.part) ne) ∙ o) in
                (g.0, g.1, g.2, slice_get-set_other surface e.block b (body_at took e.part []) ne ∙ g.3, g.4)
          ];
      untouched = λ b o.
          elim (cases_eq b e.block) [
            | inl q ↦ absurd (no_origin e.part (sym origin ∙ ap (slice_get (slice_set origins e.block (Some e.part))) (sym q) ∙ o))
            | inr ne ↦
                slice_get-set_other surface e.block b (body_at took e.part []) ne
                ∙ f.untouched b (sym (slice_get-set_other origins e.block b (Some e.part) ne) ∙ o)
          ];
      older = λ b x g o i.
          let there = (In-without_entry e cache g i).0 in
          elim (cases_eq b e.block) [
            | inl q ↦
                let at = same_origin e.part x (sym origin ∙ ap (slice_get (slice_set origins e.block (Some e.part))) (sym q) ∙ o) in
                subst (λ n. n ≤ g.epoch) (entry.in_epoch ∙ ap (λ y. epoch_of took (command_of_part took y)) at) (first.1 g there)
            | inr ne ↦ f.older b x g (sym (slice_get-set_other origins e.block b (Some e.part) ne) ∙ o) there
          ];
      newer = λ x g o i.
          let there = In-without_entry e cache g i in
          elim (cases_eq g.block e.block) [
            | inl q ↦
                let at = same_origin e.part x (sym origin ∙ ap (slice_get (slice_set origins e.block (Some e.part))) (sym q) ∙ o) in
                subst (λ y. y < g.part) at (later_entry g there.0 there.1 (sym q))
            | inr ne ↦ f.newer x g (sym (slice_get-set_other origins e.block g.block (Some e.part) ne) ∙ o) there.0
          ];
      covered = λ x p at d.
          elim (f.covered x p at d) [
            | inl cached ↦
                elim (without_entry_cases e cache cached.entry cf.unique first.0 cached.there) [
                  | inl q ↦
                      let same : p.block ≡ e.block = sym cached.same_block ∙ ap (λ (g : Entry). g.block) (sym q) in
                      inr (e.part, ap (slice_get (slice_set origins e.block (Some e.part))) same ∙ origin, subst (λ (g : Entry). x ≤ g.part) (sym q) cached.later)
                  | inr j ↦ inl (record { entry = cached.entry; there = j; same_block = cached.same_block; same_epoch = cached.same_epoch; later = cached.later })
                ]
            | inr held ↦ inr (IsHeld-written origins e p.block x newer_held held)
          ];
      flushed = λ k id x p g d at lt. IsHeld-written origins e p.block x newer_held (f.flushed k id x p g d at lt);
    }
  where
    -- an entry of the block that stays is of a later epoch, and so of a later place
    later_entry : (g : Entry) → In g cache → same_place e g ≡ false → e.block ≡ g.block → e.part < g.part
    later_entry g i n same =
        let first = In-oldest cache e cf.sorted h in
        let a = cf.entries e first.0 in
        let b = cf.entries g i in
        let le = first.1 g i in
        let ne : e.epoch ≢ g.epoch = λ q. both_ways (same_place e g) n (same_place_from e g q same) in
        let lt : epoch_of took (command_of_part took e.part) < epoch_of took (command_of_part took g.part) =
        let p = a.in_epoch in let r = b.in_epoch in omega arith in
        elim (cases_lt (command_of_part took e.part) (command_of_part took g.part)) [
          | inl l ↦ command_of_part-earlier took e.part g.part l
          | inr m ↦ let w = epoch_of-mono took (command_of_part took g.part) (command_of_part took e.part) m in absurd (omega arith)
        ]
