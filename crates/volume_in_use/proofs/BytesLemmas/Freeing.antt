-- Zones go one by one: what holds before each, and what it comes to.
use Rattle.std.specs.Prelude.{◌≡◌, ℕ, suc, ◌+◌, ◌*◌, ◌≤◌, false, List, [], ◌∷◌, ◌++◌, length, map, Some, refl}
use Rattle.std.proofs.Common.{sym, ap, subst, ◌∙◌, inl, inr, arith}
use Rattle.std.proofs.lemmas.List.{append-nil}
use Rattle.blk_base.specs.Members.{In}
use Rattle.minix_layout.specs.Geometry.{IsSound}
use Rattle.minix_layout.specs.declared.division.Geometry.{Geometry}
use Rattle.volume_ops.specs.declared.found.Mapped.{Mapped}
use Rattle.minix_tables.specs.zones.Zones.{Zones, given, state_of}
use Rattle.minix_tables.specs.declared.zones.zone_state.ZoneState.TheVariants as states
use Rattle.minix_tables.specs.zones.laws.States.{state_elsewhere}
use Rattle.volume_model.specs.Edits.{Edit, edited_all, touched_by_all}
use Rattle.volume_model.specs.Moves.{page_of}
use Rattle.volume_model.specs.Touched.{Page, Touched, and_then}
use Rattle.volume_in_use.proofs.NowLemmas.Notes.{and_nothing, and_assoc, edited_both}
use Rattle.volume_steps.specs.Now.{VolumeNow, Change}
use Rattle.volume_steps.specs.Zones.{all_given, zone_bit}
use Rattle.volume_steps.proofs.Taking.{AreApart}
use Rattle.volume_in_use.specs.bytes.code.Cutting.{MayGive, free_zone, free_block, free_number, blocks_freed, numbers_freed, tells_dropped, tells_revoked}

-- ---- one zone

pub zone_keeps : (tx zone : ℕ) (c : Change) → ((free_zone tx zone c).volume.zones ≡ given c.volume.zones zone tx) × ((free_zone tx zone c).volume.geometry ≡ c.volume.geometry)
unfolding free_zone
zone_keeps tx zone c = (refl, refl)

-- ---- turns of a loop

pub record AreTurns {X : Type 0} (tx : ℕ) (zone_of : X → ℕ) (run : List X → Change → Change) (left : List X) (all c : Change) (spare : ℕ) (whole : List X) (start : ℕ) : Type 0 where
  pub sound : IsSound c.volume.geometry
  pub used : MayGive tx c.volume.zones (map zone_of left)
  pub room : 3 * length left ≤ spare
  pub balance : spare + 3 * length whole ≡ start + 3 * length left
  pub work : run left c ≡ all

pub next_turn : {X : Type 0} (tx : ℕ) (zone_of : X → ℕ) (run : List X → Change → Change) (left rest whole : List X) (x : X) (all c next : Change) (spare after start : ℕ) →
    left ≡ x ∷ rest → AreTurns tx zone_of run left all c spare whole start → run (x ∷ rest) c ≡ run rest next → next.volume.zones ≡ given c.volume.zones (zone_of x) tx → next.volume.geometry ≡ c.volume.geometry →
    after + 3 ≡ spare → AreTurns tx zone_of run rest all next after whole start
next_turn tx zone_of run left rest whole x all c next spare after start e h step zones geometry fewer =
    let used = subst (λ xs. MayGive tx c.volume.zones (map zone_of xs)) e h.used in
    let long : length left ≡ suc (length rest) = ap length e in
    let room = h.room in
    let balance = h.balance in
    record {
      sound = subst IsSound (sym geometry) h.sound;
      used = subst (λ (m : Zones). MayGive tx m (map zone_of rest)) (sym zones) used.1;
      room = (omega arith);
      balance = (omega arith);
      work = sym step ∙ (sym (ap (λ xs. run xs c) e) ∙ h.work);
    }

-- ---- zones that are in use and differ may go one by one

pub may_give : (tx : ℕ) (zones : List ℕ) (m : Zones) → AreApart zones → ((z : ℕ) → In z zones → state_of m z ≡ Some states.Used) → MayGive tx m zones
may_give tx [] m apart used = tt
may_give tx (z ∷ zones) m apart used =
    let here = used z (inl refl) in
    (here, may_give tx zones (given m z tx) apart.1 (λ y i. state_elsewhere m z y (states.Quarantined tx) states.Used here (λ e. apart.0 (subst (λ y. In y zones) e i)) ∙ used y (inr i)))

pub give_first : (tx : ℕ) (xs ys : List ℕ) (m : Zones) → MayGive tx m (xs ++ ys) → MayGive tx m xs
give_first tx [] ys m h = tt
give_first tx (x ∷ xs) ys m h = (h.0, give_first tx xs ys (given m x tx) h.1)

pub give_rest : (tx : ℕ) (xs ys : List ℕ) (m : Zones) → MayGive tx m (xs ++ ys) → MayGive tx (all_given tx xs m) ys
give_rest tx [] ys m h = h
give_rest tx (x ∷ xs) ys m h = give_rest tx xs ys (given m x tx) h.1

given_both : (tx : ℕ) (xs ys : List ℕ) (m : Zones) → all_given tx ys (all_given tx xs m) ≡ all_given tx (xs ++ ys) m
given_both tx [] ys m = refl
given_both tx (x ∷ xs) ys m = given_both tx xs ys (given m x tx)

-- ---- what they come to

-- the volume after these zones went
abbrev pub volume_freed : VolumeNow → ℕ → List ℕ → VolumeNow
volume_freed v tx zones = record {
  geometry = v.geometry;
  contents = record { blocks = edited_all v.geometry v.contents.blocks (map (zone_bit v.geometry false) zones); nodes = v.contents.nodes };
  zones = all_given tx zones v.zones;
}

abbrev pub bits_told : Geometry → List ℕ → List ℕ
bits_told g zones = touched_by_all g (map (zone_bit g false) zones)

abbrev pub tells_gone : List ℕ → List ℕ → List ℕ → List Page → Touched
tells_gone blocks freed revoked dropped = record { blocks = blocks; freed = freed; revoked = revoked; pages = []; dropped = dropped; nodes = [] }

abbrev pub zones_of : List Mapped → List ℕ
zones_of ms = map (λ (m : Mapped). m.zone) ms

pub blocks_come_to : (tx birth : ℕ) (ms : List Mapped) (c : Change) →
    blocks_freed tx birth ms c ≡ record { volume = volume_freed c.volume tx (zones_of ms); touched = and_then c.touched (tells_gone (bits_told c.volume.geometry (zones_of ms)) (zones_of ms) [] (map (page_of birth) ms)) }
unfolding free_zone
blocks_come_to tx birth [] c = ap (λ (t : Touched). record { volume = c.volume; touched = t }) (sym (and_nothing c.touched))
blocks_come_to tx birth (m ∷ ms) c =
    let g = c.volume.geometry in
    let one = tells_gone (bits_told g (m.zone ∷ [])) (m.zone ∷ []) [] [] in
    let rest = tells_gone (bits_told g (zones_of ms)) (zones_of ms) [] (map (page_of birth) ms) in
    blocks_come_to tx birth ms (free_block tx birth m c)
    ∙ ap (λ (t : Touched). record { volume = volume_freed c.volume tx (zones_of (m ∷ ms)); touched = t })
    (and_assoc (and_then c.touched one) (tells_dropped birth m) rest ∙ and_assoc c.touched one (and_then (tells_dropped birth m) rest))

pub numbers_come_to : (tx : ℕ) (zones : List ℕ) (c : Change) →
    numbers_freed tx zones c ≡ record { volume = volume_freed c.volume tx zones; touched = and_then c.touched (tells_gone (bits_told c.volume.geometry zones) zones zones []) }
unfolding free_zone
numbers_come_to tx [] c = ap (λ (t : Touched). record { volume = c.volume; touched = t }) (sym (and_nothing c.touched))
numbers_come_to tx (z ∷ zones) c =
    let g = c.volume.geometry in
    let one = tells_gone (bits_told g (z ∷ [])) (z ∷ []) [] [] in
    let rest = tells_gone (bits_told g zones) zones zones [] in
    numbers_come_to tx zones (free_number tx z c)
    ∙ ap (λ (t : Touched). record { volume = volume_freed c.volume tx (z ∷ zones); touched = t })
    (and_assoc (and_then c.touched one) (tells_revoked z) rest ∙ and_assoc c.touched one (and_then (tells_revoked z) rest))

map_both : (g : Geometry) (xs ys : List ℕ) → map (zone_bit g false) xs ++ map (zone_bit g false) ys ≡ map (zone_bit g false) (xs ++ ys)
map_both g [] ys = refl
map_both g (x ∷ xs) ys = ap (λ (es : List Edit). zone_bit g false x ∷ es) (map_both g xs ys)

told_both : (g : Geometry) (xs ys : List ℕ) → bits_told g xs ++ bits_told g ys ≡ bits_told g (xs ++ ys)
told_both g [] ys = refl
told_both g (x ∷ xs) ys = ap (λ (bs : List ℕ). touched_by_all g (zone_bit g false x ∷ []) ++ bs) (told_both g xs ys)

freed_both : (v : VolumeNow) (tx : ℕ) (xs ys : List ℕ) → volume_freed (volume_freed v tx xs) tx ys ≡ volume_freed v tx (xs ++ ys)
freed_both v tx xs ys =
    let g = v.geometry in
    let blocks : edited_all g (edited_all g v.contents.blocks (map (zone_bit g false) xs)) (map (zone_bit g false) ys) ≡ edited_all g v.contents.blocks (map (zone_bit g false) (xs ++ ys)) =
    edited_both g (map (zone_bit g false) xs) (map (zone_bit g false) ys) v.contents.blocks ∙ ap (edited_all g v.contents.blocks) (map_both g xs ys) in
    let zones = given_both tx xs ys v.zones in
    λ k. record { geometry = g; contents = record { blocks = blocks k; nodes = v.contents.nodes }; zones = zones k }

-- blocks of the file, and then zones of numbers
pub all_come_to : (tx birth : ℕ) (ms : List Mapped) (numbers : List ℕ) (c : Change) →
    numbers_freed tx numbers (blocks_freed tx birth ms c) ≡
    record { volume = volume_freed c.volume tx (zones_of ms ++ numbers); touched = and_then c.touched (tells_gone (bits_told c.volume.geometry (zones_of ms ++ numbers)) (zones_of ms ++ numbers) numbers (map (page_of birth) ms)) }
all_come_to tx birth ms numbers c =
    let g = c.volume.geometry in
    let xs = zones_of ms in
    let first = tells_gone (bits_told g xs) xs [] (map (page_of birth) ms) in
    let last = tells_gone (bits_told g numbers) numbers numbers [] in
    let both : and_then first last ≡ tells_gone (bits_told g (xs ++ numbers)) (xs ++ numbers) numbers (map (page_of birth) ms) =
    ap (λ (bs : List ℕ). tells_gone bs (xs ++ numbers) numbers (map (page_of birth) ms ++ [])) (told_both g xs numbers)
    ∙ ap (λ (ds : List Page). tells_gone (bits_told g (xs ++ numbers)) (xs ++ numbers) numbers ds) (append-nil (map (page_of birth) ms)) in
    ap (numbers_freed tx numbers) (blocks_come_to tx birth ms c)
    ∙ (numbers_come_to tx numbers (record { volume = volume_freed c.volume tx xs; touched = and_then c.touched first })
    ∙ (λ k. record { volume = freed_both c.volume tx xs numbers k; touched = (and_assoc c.touched first last ∙ ap (and_then c.touched) both) k }))

-- ---- what the calls on lists of zones ask and leave

pub map_self : (xs : List ℕ) → map (λ (x : ℕ). x) xs ≡ xs
map_self [] = refl
map_self (x ∷ xs) = ap (λ (ys : List ℕ). x ∷ ys) (map_self xs)

pub blocks_leave : (tx birth : ℕ) (ms gone : List Mapped) (c d : Change) → d ≡ blocks_freed tx birth gone c → gone ≡ ms →
    (d.volume.geometry ≡ c.volume.geometry) × (d.volume.zones ≡ all_given tx (zones_of ms) c.volume.zones)
blocks_leave tx birth ms gone c d e same =
    let all = e ∙ (ap (λ (ms : List Mapped). blocks_freed tx birth ms c) same ∙ blocks_come_to tx birth ms c) in
    (ap (λ (c : Change). c.volume.geometry) all, ap (λ (c : Change). c.volume.zones) all)
