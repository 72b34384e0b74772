-- What the methods of a queue do with slots and seats.
use Rattle.std.proofs.Common.{◌≡◌, ℕ, ◌+◌, ◌<◌, List, [], ◌∷◌, ◌++◌, length, get_or, set, All, Some, slice_get, refl, sym, ap, ap₂, ◌∙◌, subst, arith, get_or-set_same}
use Rattle.std.specs.List.{remove}
use Rattle.std.specs.Option.{option_map}
use Rattle.std.proofs.lemmas.List.{map_push, get_or_read}
use Rattle.blk_base.specs.laws.Members.{slice_get-map}
use Rattle.order_model.specs.declared.command.Command.{Command}
use Rattle.order_model.specs.Single.{blank_command}
use Rattle.device_epochs.specs.declared.queue.queue.Seat.{Seat}
use Rattle.device_epochs.specs.queue.Queue.{Waiting, eligible, without, AreNumbered}
use Rattle.device_epochs.specs.queue.code.Seats.{waiting_at, seated, EachOnce, IsPicked}
use Rattle.order_model.specs.laws.ArrivalLaws.{there-is, remove-without, AreNumbered-remove, AreNumbered-push}
use Rattle.device_epochs.proofs.QueueLemmas.Seats.{map-remove, seated-set, seats-within, last-within, last-not_seated, EachOnce-arrive, EachOnce-leave}

pub seats-in_slots : (depth : ℕ) (slots slots' : List Command) (seats seats' : List Seat) (free : List ℕ) → slots' ≡ slots → seats' ≡ seats → length slots ≡ depth → EachOnce depth seats free
    → All (λ (s : Seat). s.slot < length slots') seats'
seats-in_slots depth slots slots' seats seats' free a b len each = rw (a, b, len) (seats-within depth seats free each)

pub seat-within : (depth i : ℕ) (seat : Seat) (seats : List Seat) (free : List ℕ) → EachOnce depth seats free → i < length seats → seat ≡ get_or seats i seat → seat.slot < depth
seat-within depth i seat seats free each lt at = subst (λ (s : Seat). s.slot < depth) (sym at) (seats-within depth seats free each i seat lt)

pub picked-is : (pick i : ℕ) (slots slots' : List Command) (seats seats' : List Seat) (seat : Seat) → IsPicked slots' seats' pick i → slots' ≡ slots → seats' ≡ seats → seat ≡ get_or seats i seat
    → slice_get (eligible (seated slots seats)) pick ≡ Some (waiting_at slots seat)
picked-is pick i slots slots' seats seats' seat h a b at =
    let there = rw (a, b) at (h.there seat) in
    there ∙ ap (λ s. Some (waiting_at slots s)) (sym at)

pub picked-command : (pick i : ℕ) (slots slots' : List Command) (seats seats' : List Seat) (seat : Seat) (c : Command) → IsPicked slots' seats' pick i → slots' ≡ slots → seats' ≡ seats → seat ≡ get_or seats i seat
    → seat.slot < length slots → c ≡ get_or slots seat.slot c
    → Some c ≡ option_map (λ w. w.command) (slice_get (eligible (seated slots seats)) pick)
picked-command pick i slots slots' seats seats' seat c h a b at lt read =
    rw (picked-is pick i slots slots' seats seats' seat h a b at) (ap Some (get_or_read slots seat.slot c lt read blank_command))

-- ---- a command arrives

pub slot-within : (depth slot : ℕ) (seats : List Seat) (free rest : List ℕ) → EachOnce depth seats free → free ≡ rest ++ slot ∷ [] → slot < depth
slot-within depth slot seats free rest each popped = last-within depth slot seats rest (rw popped at each)

pub EachOnce-received : (depth number slot : ℕ) (seats seats' : List Seat) (free rest : List ℕ) → EachOnce depth seats free → free ≡ rest ++ slot ∷ []
    → seats' ≡ seats ++ record { number = number; slot = slot } ∷ [] → EachOnce depth seats' rest
EachOnce-received depth number slot seats seats' free rest each popped pushed =
    rw pushed (EachOnce-arrive depth number slot seats rest (rw popped at each))

pub seated-received : (depth number slot : ℕ) (c : Command) (slots : List Command) (seats seats' : List Seat) (free rest : List ℕ) → EachOnce depth seats free → free ≡ rest ++ slot ∷ []
    → length slots ≡ depth → seats' ≡ seats ++ record { number = number; slot = slot } ∷ []
    → seated (set slots slot c) seats' ≡ seated slots seats ++ record { number = number; command = c } ∷ []
seated-received depth number slot c slots seats seats' free rest each popped len pushed =
    let each' = rw popped at each in
    let new = set slots slot c in
    let none = last-not_seated depth slot seats rest each' in
    let lt = last-within depth slot seats rest each' in
    let within : slot < length slots = omega arith in
    ap (seated new) pushed ∙ map_push (waiting_at new) seats (record { number = number; slot = slot })
    ∙ ap₂ (λ ws d. ws ++ record { number = number; command = d } ∷ []) (seated-set slots seats slot c none) (get_or-set_same slots slot c blank_command within)

pub AreNumbered-received : (next : ℕ) (c : Command) (slots slots' : List Command) (seats seats' : List Seat) → AreNumbered next (seated slots seats)
    → seated slots' seats' ≡ seated slots seats ++ record { number = next; command = c } ∷ [] → AreNumbered (next + 1) (seated slots' seats')
AreNumbered-received next c slots slots' seats seats' h is = subst (AreNumbered (next + 1)) (sym is) (AreNumbered-push (λ (w : Waiting). w.number) next (seated slots seats) (record { number = next; command = c }) h refl)

-- ---- a command leaves

pub EachOnce-taken : (depth i : ℕ) (seat : Seat) (seats seats' : List Seat) (free free' : List ℕ) → EachOnce depth seats free → i < length seats → seat ≡ get_or seats i seat
    → seats' ≡ remove seats i → free' ≡ free ++ seat.slot ∷ [] → EachOnce depth seats' free'
EachOnce-taken depth i seat seats seats' free free' each lt at removed pushed =
    let moved = EachOnce-leave depth i seat seats free each lt in
    let moved' = subst (λ (s : Seat). EachOnce depth (remove seats i) (free ++ s.slot ∷ [])) (sym at) moved in
    rw (removed, pushed) moved'

-- without the seat at place i, those that wait are the others
pub seated-departed : (next i : ℕ) (seat : Seat) (slots : List Command) (seats seats' : List Seat) → AreNumbered next (seated slots seats)
    → i < length seats → seat ≡ get_or seats i seat → seats' ≡ remove seats i
    → seated slots seats' ≡ without seat.number (seated slots seats)
seated-departed next i seat slots seats seats' numbered lt at removed =
    let there = slice_get-map (waiting_at slots) seats i ∙ ap (option_map (waiting_at slots)) (there-is seats i seat lt at) in
    ap (seated slots) removed
    ∙ map-remove (waiting_at slots) seats i
    ∙ remove-without (λ (w : Waiting). w.number) next (seated slots seats) i (waiting_at slots seat) numbered there

pub AreNumbered-departed : (next i : ℕ) (slots : List Command) (seats seats' : List Seat) → AreNumbered next (seated slots seats) → seats' ≡ remove seats i → AreNumbered next (seated slots seats')
AreNumbered-departed next i slots seats seats' numbered removed =
    subst (AreNumbered next) (sym (ap (seated slots) removed ∙ map-remove (waiting_at slots) seats i)) (AreNumbered-remove (λ (w : Waiting). w.number) next (seated slots seats) i numbered)

-- the same, where the command was taken out of its slot
pub seated-taken : (next depth i : ℕ) (c : Command) (seat : Seat) (slots : List Command) (seats seats' : List Seat) (free : List ℕ) → AreNumbered next (seated slots seats)
    → EachOnce depth seats free → i < length seats → seat ≡ get_or seats i seat → seats' ≡ remove seats i
    → seated (set slots seat.slot c) seats' ≡ without seat.number (seated slots seats)
seated-taken next depth i c seat slots seats seats' free numbered each lt at removed =
    let moved = EachOnce-taken depth i seat seats seats' free (free ++ seat.slot ∷ []) each lt at removed refl in
    let none = last-not_seated depth seat.slot seats' free moved in
    seated-set slots seats' seat.slot c none ∙ seated-departed next i seat slots seats seats' numbered lt at removed

pub AreNumbered-taken : (next depth i : ℕ) (c : Command) (seat : Seat) (slots : List Command) (seats seats' : List Seat) (free : List ℕ) → AreNumbered next (seated slots seats)
    → EachOnce depth seats free → i < length seats → seat ≡ get_or seats i seat → seats' ≡ remove seats i
    → AreNumbered next (seated (set slots seat.slot c) seats')
AreNumbered-taken next depth i c seat slots seats seats' free numbered each lt at removed =
    let moved = EachOnce-taken depth i seat seats seats' free (free ++ seat.slot ∷ []) each lt at removed refl in
    let none = last-not_seated depth seat.slot seats' free moved in
    subst (AreNumbered next) (sym (seated-set slots seats' seat.slot c none)) (AreNumbered-departed next i slots seats seats' numbered removed)
