-- How each call keeps what is known of the log.
use Rattle.std.specs.Prelude.{◌≡◌, ◌≢◌, ℕ, suc, ◌+◌, ◌<◌, ◌≤◌, ◌++◌, ◌||◌, not, Bool, true, false, List, [], ◌∷◌, length, map, Option, Some, None, is_some, slice_get, slice_set, refl, if◌then◌else◌}
use Rattle.std.specs.List.{list_all}
use Rattle.std.specs.Option.{option_map_or}
use Rattle.std.proofs.Common.{sym, ap, subst, ◌∙◌, inl, inr, ⊎_elim, arith, append_assoc}
use Rattle.std.proofs.lemmas.Bool.{cases_lt, cases_eq, both_ways}
use Rattle.std.proofs.lemmas.List.{length-set, map-append}
use Rattle.std.proofs.lemmas.Option.{same_Some}
use Rattle.blk_base.specs.Members.{In}
use Rattle.blk_base.specs.laws.Members.{slice_get-push_left, In-append_left, In-append_right, In-append_cases, In-map, map-In, slice_get-length, slice_get-set_same, slice_get-set_other}
use Rattle.order_model.specs.declared.part.Part.{Part}
use Rattle.order_model.specs.declared.command.Command.{Command}
use Rattle.order_model.specs.declared.history.Transfer.{Transfer}
use Rattle.order_model.specs.Received.{all_parts, part_at, first_part, command_of_part, epoch_of, transfers}
use Rattle.order_model.proofs.Received.{length-all_parts-push, command_of_part-push_new, part_at-push_old, command_of_part-push_old, command_of_part-lt, command_of_part-first, epoch_of-push_old, flush-is, is-flush}
use Rattle.device_epochs.specs.queue.Queue.{QueueState, Waiting, eligible, without}
use Rattle.device_epochs.specs.queue.laws.QueueLaws.{part_at-lt, parts_of-waiting}
use Rattle.device_epochs.specs.queue.laws.EpochLaws.{waits-or-done, ordered-first, flush-ordered, waiting-taken, done_epoch-le, epoch_of_eligible}
use Rattle.device_epochs.specs.queue.laws.QueueLaws.{done-received, done-moved, eligible-waits, place-before}
use Rattle.device_epochs.specs.queue.Facts.{IsDone, CommandFacts, QueueFacts, IsPresent, MovedFacts}
use Rattle.flog_device.specs.Log.{Place, Page, pages, prefix, places, programmed_at, is_covered, body_at, laid}
use Rattle.flog_device.specs.laws.LogFacts.{InOrder, InOrder-append, InOrder-as, Rises, top, top-In, body_over, prefix-rest, prefix-yes, prefix-unprogrammed, prefix-programmed_at, prefix-all, places-programmed_at, places-append, uncovered, top-append_none, top-cons_other, top-push_same, top-push_other}
use Rattle.flog_device.specs.laws.Valid.{part_of, moved_part, epoch_at, NoLater, given, kept_places, LogFacts}

-- ---- a command is received

taken-lt : (took : List Command) (p : Place) → ((q : Part) × (part_at took p.part ≡ Some q) × (q.block ≡ p.block)) → p.part < length (all_parts took)
taken-lt took p t = part_at-lt took p.part t.0 t.1

epoch_at-received : (took : List Command) (c : Command) (x : ℕ) → x < length (all_parts took) → epoch_at (took ++ c ∷ []) x ≡ epoch_at took x
epoch_at-received took c x lt =
    let k = command_of_part-lt took x lt in
    ap (epoch_of (took ++ c ∷ [])) (command_of_part-push_old took c x lt) ∙ epoch_of-push_old took c (command_of_part took x) (omega arith)

body_over-received : (took : List Command) (c : Command) (o : Option ℕ) (old : Option (List ℕ)) → ((x : ℕ) → o ≡ Some x → x < length (all_parts took)) → body_over took o old ≡ body_over (took ++ c ∷ []) o old
body_over-received took c None old h = refl
body_over-received took c (Some x) old h =
    let same = part_at-push_old took c x (h x refl) in
    rw same refl

received-number : (took : List Command) (c : Command) (x : ℕ) → length (all_parts took) ≤ x → x < length (all_parts (took ++ c ∷ [])) → command_of_part (took ++ c ∷ []) x ≡ length took
received-number took c x le lt = let n = length-all_parts-push took c in command_of_part-push_new took c x le (omega (arith, n, lt))

-- what was laid stays as it is
pub laid-received : (took : List Command) (c : Command) (ps : List Place) (area : List (List ℕ)) → ((p : Place) → In p ps → p.part < length (all_parts took)) → laid (took ++ c ∷ []) ps area ≡ laid took ps area
laid-received took c [] area low = refl
laid-received took c (p ∷ ps) area low =
    let body : body_at (took ++ c ∷ []) p.part [] ≡ body_at took p.part [] = ap (λ (o : Option Part). option_map_or (λ (q : Part). q.body) o []) (part_at-push_old took c p.part (low p (inl refl))) in
    ap (λ (x : List ℕ). laid (took ++ c ∷ []) ps (slice_set area p.block x)) body
    ∙ laid-received took c ps (slice_set area p.block (body_at took p.part [])) (λ q i. low q (inr i))

pub given-lt : (base : List (List ℕ)) (took : List Command) (pending : List Waiting) (moved : List Transfer) (gone : List Place) (log : List Page) (area : List (List ℕ)) (origins : List (Option ℕ)) (p : Place)
    → LogFacts base took pending moved gone log area origins → In p (given gone log) → p.part < length (all_parts took)
given-lt base took pending moved gone log area origins p f i = taken-lt took p (f.taken p i)

pub LogFacts-received : (base : List (List ℕ)) (took : List Command) (pending : List Waiting) (moved : List Transfer) (gone : List Place) (log : List Page) (area : List (List ℕ)) (origins : List (Option ℕ)) (c : Command) (w : Waiting)
    → w.number ≡ length took → LogFacts base took pending moved gone log area origins → LogFacts base (took ++ c ∷ []) (pending ++ w ∷ []) moved gone log area origins
LogFacts-received base took pending moved gone log area origins c w at f =
    let low : (p : Place) → In p (given gone log) → p.part < length (all_parts took) = λ p i. taken-lt took p (f.taken p i) in
    record {
      blocks = f.blocks;
      origin_blocks = f.origin_blocks;
      parts = f.parts;
      taken = λ p i. let t = f.taken p i in (t.0, part_at-push_old took c p.part (low p i) ∙ t.1, t.2);
      rising = f.rising;
      epochs =
          InOrder-as (NoLater took) (NoLater (took ++ c ∷ [])) (given gone log)
          (λ p q i j le. let a = epoch_at-received took c p.part (low p i) in let b = epoch_at-received took c q.part (low q j) in omega (arith, a, b, le))
          f.epochs;
      held = f.held;
      bodies = λ b lt none.
          f.bodies b lt none
          ∙ body_over-received took c (top gone b) (slice_get base b)
          (λ x e. low (record { block = b; part = x }) (In-append_left gone (places log) (record { block = b; part = x }) (top-In gone b x e)));
      flushed = λ k id x p fl d e before.
          let g = flush-is (took ++ c ∷ []) k id fl in
          let old = done-received took pending c w k at d in
          let k_lt = old.taken in
          let x_lt : x < length (all_parts took) =
          ⊎_elim (λ lt. lt)
          (λ le. let new = received-number took c x le (part_at-lt (took ++ c ∷ []) x p e) in absurd (omega (arith, new, k_lt, before)))
          (cases_lt x (length (all_parts took))) in
          f.flushed k id x p
          (is-flush took k id g.0 (sym (slice_get-push_left took c k k_lt) ∙ g.1) g.2) old
          (sym (part_at-push_old took c x x_lt) ∙ e)
          (subst (λ n. n < k) (command_of_part-push_old took c x x_lt) before);
    }

-- ---- a command gets places

pub pages-unprogrammed : (first : ℕ) (ps : List Part) (p : Page) → In p (pages first ps) → p.programmed ≡ false
pages-unprogrammed first [] p h = absurd h
pages-unprogrammed first (x ∷ ps) p (inl e) = ap (λ (y : Page). y.programmed) (sym e)
pages-unprogrammed first (x ∷ ps) p (inr h) = pages-unprogrammed (first + 1) ps p h

-- a new place is of a part of the command
In-pages : (first : ℕ) (ps : List Part) (p : Place) → In p (places (pages first ps)) → (i : ℕ) × (q : Part) × (slice_get ps i ≡ Some q) × (q.block ≡ p.block) × (p.part ≡ first + i)
In-pages first [] p h = absurd h
In-pages first (x ∷ ps) p (inl e) =
    (0, x, refl, ap (λ (y : Place). y.block) e, let k : first ≡ p.part = ap (λ (y : Place). y.part) e in omega (arith, k))
In-pages first (x ∷ ps) p (inr h) =
    let r = In-pages (first + 1) ps p h in
    (suc r.0, r.1, r.2, r.3, let k = r.4 in omega (arith, k))

parts-pages : (epoch first : ℕ) (ps : List Part) → map part_of (places (pages first ps)) ≡ map moved_part (transfers epoch first ps)
parts-pages epoch first [] = refl
parts-pages epoch first (x ∷ ps) = ap (λ (l : List ℕ). first ∷ l) (parts-pages epoch (first + 1) ps)

-- the parts rise along the new places
pages-order : (R : Place → Place → Type 0) (first : ℕ) (ps : List Part) → ((p q : Place) → In p (places (pages first ps)) → In q (places (pages first ps)) → p.part < q.part → R p q) → InOrder R (places (pages first ps))
pages-order R first [] h = tt
pages-order R first (x ∷ ps) h = (
  λ q i. h (record { block = x.block; part = first }) q (inl refl) (inr i) (let r = In-pages (first + 1) ps q i in let k = r.4 in omega (arith, k)),
  pages-order R (first + 1) ps (λ p q i j lt. h p q (inr i) (inr j) lt),
)

-- what was given a place is done, and what is done was given a place
pub given-done : (base : List (List ℕ)) (took : List Command) (pending : List Waiting) (moved : List Transfer) (gone : List Place) (log : List Page) (area : List (List ℕ)) (origins : List (Option ℕ)) (p : Place)
    → MovedFacts took pending moved → LogFacts base took pending moved gone log area origins → In p (given gone log) → IsDone took pending (command_of_part took p.part)
given-done base took pending moved gone log area origins p m f i =
    let j = In-map moved_part moved p.part (subst (In p.part) f.parts (map-In part_of (given gone log) p i)) in
    subst (λ x. IsDone took pending (command_of_part took x)) j.2 (m.done j.0 j.1)

pub done-given : (base : List (List ℕ)) (took : List Command) (pending : List Waiting) (moved : List Transfer) (gone : List Place) (log : List Page) (area : List (List ℕ)) (origins : List (Option ℕ)) (x : ℕ) (q : Part)
    → MovedFacts took pending moved → LogFacts base took pending moved gone log area origins → part_at took x ≡ Some q → IsDone took pending (command_of_part took x) → In (record { block = q.block; part = x }) (given gone log)
done-given base took pending moved gone log area origins x q m f e d =
    let t = m.all x (part_at-lt took x q e) d in
    let i = In-map part_of (given gone log) x (subst (In x) (sym f.parts) (map-In moved_part moved (record { epoch = epoch_at took x; part = x }) t)) in
    let k = f.taken i.0 i.1 in
    let same : k.0 ≡ q = same_Some k.0 q (sym k.1 ∙ ap (part_at took) i.2 ∙ e) in
    let block : (i.0).block ≡ q.block = sym k.2 ∙ ap (λ (y : Part). y.block) same in
    subst (λ (y : Place). In y (given gone log)) (λ j. record { block = block j; part = i.2 j }) i.1

given-performed : (gone : List Place) (log new : List Page) → given gone (log ++ new) ≡ given gone log ++ places new
given-performed gone log new = ap (λ (l : List Place). gone ++ l) (places-append log new) ∙ sym (append_assoc gone (places log) (places new))

-- a flush goes only where all is programmed
may_go : (log : List Page) (w : Waiting) (id : ℕ) → (not (is_some w.command.flush) || list_all (λ (p : Page). p.programmed) log) ≡ true → w.command.flush ≡ Some id → list_all (λ (p : Page). p.programmed) log ≡ true
may_go log w id may e = rw e at may

pub LogFacts-performed : (base : List (List ℕ)) (blocks limit : ℕ) (took : List Command) (queue : QueueState) (epoch : ℕ) (moved : List Transfer) (gone : List Place) (log : List Page) (area : List (List ℕ)) (origins : List (Option ℕ)) (w : Waiting)
    → CommandFacts blocks limit took → QueueFacts took queue → IsPresent took queue.waiting epoch → MovedFacts took queue.waiting moved → LogFacts base took queue.waiting moved gone log area origins
    → In w (eligible queue.waiting) → (not (is_some w.command.flush) || list_all (λ (p : Page). p.programmed) log) ≡ true
    → LogFacts base took (without w.number queue.waiting) (moved ++ transfers epoch (first_part took w.number) w.command.parts) gone (log ++ pages (first_part took w.number) w.command.parts) area origins
LogFacts-performed base blocks limit took queue epoch moved gone log area origins w g q pr m f free may =
    let first = first_part took w.number in
    let new = pages first w.command.parts in
    let there = eligible-waits queue.waiting w free in
    let at = q.queued w there in
    let same = given-performed gone log new in
    let pre : prefix (log ++ new) ≡ prefix log = prefix-unprogrammed log new (pages-unprogrammed first w.command.parts) in
    let now = epoch_of_eligible blocks limit took queue epoch w g q pr free in
    let new_epoch : (p : Place) → In p (places new) → epoch_at took p.part ≡ epoch =
    λ p i.
    let r = In-pages first w.command.parts p i in
    ap (epoch_at took) r.4 ∙ ap (epoch_of took) (command_of_part-first took w.number w.command r.0 at (slice_get-length w.command.parts r.0 r.1 r.2)) ∙ now in
    let old_epoch : (p : Place) → In p (given gone log) → epoch_at took p.part ≤ epoch =
    λ p i. done_epoch-le blocks limit took queue epoch (command_of_part took p.part) g q pr (given-done base took queue.waiting moved gone log area origins p m f i) in
    record {
      blocks = f.blocks;
      origin_blocks = f.origin_blocks;
      parts =
          ap (map part_of) same
          ∙ map-append part_of (given gone log) (places new)
          ∙ ap (λ (l : List ℕ). l ++ map part_of (places new)) f.parts
          ∙ ap (λ (l : List ℕ). map moved_part moved ++ l) (parts-pages epoch first w.command.parts)
          ∙ sym (map-append moved_part moved (transfers epoch first w.command.parts));
      taken = λ p i.
          elim (In-append_cases (given gone log) (places new) p (subst (In p) same i)) [
            | inl j ↦ f.taken p j
            | inr j ↦
                let r = In-pages first w.command.parts p j in
                let t = parts_of-waiting took queue w r.0 r.1 q there r.2 in
                (r.1, ap (part_at took) r.4 ∙ t.0, r.3)
          ];
      rising =
          subst (InOrder Rises) (sym same)
          (InOrder-append Rises (given gone log) (places new) f.rising (pages-order Rises first w.command.parts (λ p r i j lt e. lt))
          (λ p r i j e.
          let t = f.taken p i in
          let n = In-pages first w.command.parts r j in
          let d = given-done base took queue.waiting moved gone log area origins p m f i in
          let lt = place-before took queue w p.part n.0 t.0 n.1 q there (taken-lt took p t) d t.1 n.2 (n.3 ∙ e ∙ sym t.2) in
          let k = n.4 in
          omega (arith, lt, k)));
      epochs =
          subst (InOrder (NoLater took)) (sym same)
          (InOrder-append (NoLater took) (given gone log) (places new) f.epochs
          (pages-order (NoLater took) first w.command.parts (λ p r i j lt. let a = new_epoch p i in let b = new_epoch r j in omega (arith, a, b)))
          (λ p r i j. let a = old_epoch p i in let b = new_epoch r j in omega (arith, a, b)));
      held = λ b lt none. f.held b lt (ap (λ (l : List Page). top (places l) b) (sym pre) ∙ none);
      bodies = λ b lt none. f.bodies b lt (ap (λ (l : List Page). top (places l) b) (sym pre) ∙ none);
      flushed = λ k id x p fl d e before.
          subst (λ (l : List Page). In (record { block = p.block; part = x }) (gone ++ places l)) (sym pre)
          (elim (done-moved took queue.waiting w.number k d) [
            | inl old ↦ f.flushed k id x p fl old e before
            | inr n ↦
                let c = flush-is took k id fl in
                let it : w.command ≡ c.0 = same_Some w.command c.0 (sym at ∙ ap (slice_get took) (sym n) ∙ c.1) in
                let flush : w.command.flush ≡ Some id = ap (λ (y : Command). y.flush) it ∙ c.2 in
                let all : prefix log ≡ log = prefix-all log (may_go log w id may flush) in
                let ordered = flush-ordered blocks limit took w.command g (waiting-taken took queue w q there) (ap is_some flush) in
                let x_lt = command_of_part-lt took x (part_at-lt took x p e) in
                elim (waits-or-done took queue.waiting (command_of_part took x) x_lt) [
                  | inl v ↦ let le = ordered-first queue.waiting w v.0 free ordered v.1 in let s = v.2 in absurd (omega (arith, le, s, n, before))
                  | inr done ↦
                      subst (λ (l : List Page). In (record { block = p.block; part = x }) (gone ++ places l)) (sym all)
                      (done-given base took queue.waiting moved gone log area origins x p m f e done)
                ]
          ]);
    }

-- ---- a page is programmed

pub LogFacts-programmed : (base : List (List ℕ)) (took : List Command) (pending : List Waiting) (moved : List Transfer) (gone : List Place) (log : List Page) (area : List (List ℕ)) (origins : List (Option ℕ)) (i : ℕ)
    → LogFacts base took pending moved gone log area origins → LogFacts base took pending moved gone (programmed_at i log) area origins
LogFacts-programmed base took pending moved gone log area origins i f =
    let same : given gone (programmed_at i log) ≡ given gone log = ap (λ (l : List Place). gone ++ l) (places-programmed_at i log) in
    let more = prefix-programmed_at i log in
    let longer : places (prefix (programmed_at i log)) ≡ places (prefix log) ++ places more.0 = ap places more.1 ∙ places-append (prefix log) more.0 in
    let uncover : (b : ℕ) → top (places (prefix (programmed_at i log))) b ≡ None → top (places (prefix log)) b ≡ None =
    λ b none. (top-append_none (places (prefix log)) (places more.0) b (ap (λ (l : List Place). top l b) (sym longer) ∙ none)).0 in
    record {
      blocks = f.blocks;
      origin_blocks = f.origin_blocks;
      parts = ap (map part_of) same ∙ f.parts;
      taken = λ p j. f.taken p (subst (In p) same j);
      rising = subst (InOrder Rises) (sym same) f.rising;
      epochs = subst (InOrder (NoLater took)) (sym same) f.epochs;
      held = λ b lt none. f.held b lt (uncover b none);
      bodies = λ b lt none. f.bodies b lt (uncover b none);
      flushed = λ k id x p fl d e before.
          let old = f.flushed k id x p fl d e before in
          let at : Place = record { block = p.block; part = x } in
          elim (In-append_cases gone (places (prefix log)) at old) [
            | inl g ↦ In-append_left gone (places (prefix (programmed_at i log))) at g
            | inr g ↦
                In-append_right gone (places (prefix (programmed_at i log))) at
                (subst (In at) (sym longer) (In-append_left (places (prefix log)) (places more.0) at g))
          ];
    }

-- ---- the oldest page is folded

pub given-folded : (gone : List Place) (p : Page) (ps : List Page) → given (gone ++ p.place ∷ []) ps ≡ given gone (p ∷ ps)
given-folded gone p ps = append_assoc gone (p.place ∷ []) (places ps)

pub kept-folded : (gone : List Place) (p : Page) (ps : List Page) → p.programmed ≡ true → kept_places (gone ++ p.place ∷ []) ps ≡ kept_places gone (p ∷ ps)
kept-folded gone p ps t =
    append_assoc gone (p.place ∷ []) (places (prefix ps)) ∙ ap (λ (l : List Page). gone ++ places l) (sym (prefix-yes p ps t))

set_if : {X : Type 0} (test : Bool) (xs : List X) (i : ℕ) (x : X) → length (if test then xs else slice_set xs i x) ≡ length xs
set_if true xs i x = refl
set_if false xs i x = length-set xs i x

set_if-same : {X : Type 0} (test : Bool) (xs : List X) (i b : ℕ) (x : X) → b ≡ i → test ≡ false → i < length xs → slice_get (if test then xs else slice_set xs i x) b ≡ Some x
set_if-same true xs i b x e t lt = absurd (both_ways true t refl)
set_if-same false xs i b x e t lt = ap (slice_get (slice_set xs i x)) e ∙ slice_get-set_same xs i x lt

set_if-other : {X : Type 0} (test : Bool) (xs : List X) (i b : ℕ) (x : X) → b ≢ i → slice_get (if test then xs else slice_set xs i x) b ≡ slice_get xs b
set_if-other true xs i b x ne = refl
set_if-other false xs i b x ne = slice_get-set_other xs i b x ne

pub LogFacts-folded : (base : List (List ℕ)) (took : List Command) (pending : List Waiting) (moved : List Transfer) (gone : List Place) (p : Page) (ps : List Page) (area : List (List ℕ)) (origins : List (Option ℕ))
    → p.programmed ≡ true → LogFacts base took pending moved gone (p ∷ ps) area origins
    → LogFacts base took pending moved (gone ++ p.place ∷ []) ps
    (if is_covered p.place.block ps then area else slice_set area p.place.block (body_at took p.place.part []))
    (if is_covered p.place.block ps then origins else slice_set origins p.place.block (Some p.place.part))
LogFacts-folded base took pending moved gone p ps area origins t f =
    let test = is_covered p.place.block ps in
    let body = body_at took p.place.part [] in
    let same = given-folded gone p ps in
    let same_kept = kept-folded gone p ps t in
    let before : (b : ℕ) → b ≢ p.place.block → top (places (prefix ps)) b ≡ None → top (places (prefix (p ∷ ps))) b ≡ None =
    λ b ne none. ap (λ (l : List Page). top (places l) b) (prefix-yes p ps t) ∙ top-cons_other p.place (places (prefix ps)) b ne ∙ none in
    let bare : (b : ℕ) → b ≡ p.place.block → top (places (prefix ps)) b ≡ None → test ≡ false =
    λ b e none. uncovered (prefix ps) p.place.block (ap (top (places (prefix ps))) (sym e) ∙ none) in
    record {
      blocks = set_if test area p.place.block body ∙ f.blocks;
      origin_blocks = set_if test origins p.place.block (Some p.place.part) ∙ f.origin_blocks;
      parts = ap (map part_of) same ∙ f.parts;
      taken = λ r j. f.taken r (subst (In r) same j);
      rising = subst (InOrder Rises) (sym same) f.rising;
      epochs = subst (InOrder (NoLater took)) (sym same) f.epochs;
      held = λ b lt none.
          elim (cases_eq b p.place.block) [
            | inl e ↦
                set_if-same test origins p.place.block b (Some p.place.part) e (bare b e none) (let n = f.origin_blocks in omega (arith, n, lt, e))
                ∙ ap Some (sym (top-push_same gone p.place b e))
            | inr ne ↦
                set_if-other test origins p.place.block b (Some p.place.part) ne ∙ f.held b lt (before b ne none) ∙ ap Some (sym (top-push_other gone p.place b ne))
          ];
      bodies = λ b lt none.
          elim (cases_eq b p.place.block) [
            | inl e ↦
                set_if-same test area p.place.block b body e (bare b e none) (let n = f.blocks in omega (arith, n, lt, e))
                ∙ ap (λ o. body_over took o (slice_get base b)) (sym (top-push_same gone p.place b e))
            | inr ne ↦
                set_if-other test area p.place.block b body ne ∙ f.bodies b lt (before b ne none) ∙ ap (λ o. body_over took o (slice_get base b)) (sym (top-push_other gone p.place b ne))
          ];
      flushed = λ k id x q fl d e less. subst (In (record { block = q.block; part = x })) (sym same_kept) (f.flushed k id x q fl d e less);
    }

-- ---- what is kept

pub kept-given : (gone : List Place) (log : List Page) → (rest : List Place) × (given gone log ≡ kept_places gone log ++ rest)
kept-given gone log =
    let r = prefix-rest log in
    (places r.0, ap (λ (l : List Page). gone ++ places l) r.1 ∙ ap (λ (l : List Place). gone ++ l) (places-append (prefix log) r.0) ∙ sym (append_assoc gone (places (prefix log)) (places r.0)))

pub In-kept_given : (gone : List Place) (log : List Page) (p : Place) → In p (kept_places gone log) → In p (given gone log)
In-kept_given gone log p i = let r = kept-given gone log in subst (In p) (sym r.1) (In-append_left (kept_places gone log) r.0 p i)
