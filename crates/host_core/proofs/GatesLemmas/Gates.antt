-- What a volume says of a call is what the host asks.
use Rattle.std.specs.List.{count_by}
use Rattle.std.proofs.Common.{◌≡◌, ℕ, ◌+◌, cond, List, [], ◌∷◌, length, Option, Some, None, Ok, Err, refl, ap, arith}
use Rattle.std.proofs.lemmas.List.Sums.{sum_by-cons}
use Rattle.tree_model.specs.declared.call.Call.{Call}
use Rattle.tree_model.specs.declared.call.Reply.{Reply}
use Rattle.tree_model.specs.Calls.{Row, outcome, needs}
use Rattle.tree_model.specs.Plain.{AreBornBefore}
use Rattle.minix_tables.specs.declared.zones.zone_state.ZoneState.{ZoneState}
use Rattle.minix_tables.specs.declared.zones.zone_state.ZoneState.TheVariants as states
use Rattle.minix_tables.specs.zones.Zones.{is_free}
use Rattle.volume_steps.specs.Now.{VolumeNow, tree_of_now, room_of}
use Rattle.volume_calls.specs.Asked.{Answers}
use Rattle.volume_calls.specs.declared.answer.Answer.{Answer}
use Rattle.volume_calls.specs.declared.answer.Answer.TheVariants.{Refused, Change}
use Rattle.minix_host.specs.Calls.{refused_by, refusal, needed}
use Rattle.minix_host.specs.Numbers.{next_birth}
use Rattle.minix_host.specs.Volumes.{free_from, zones_of}
use Rattle.minix_host.specs.laws.Numbers.{born_before_next}

-- ---- what refuses it

abbrev pub told : Answer → Option Reply
told (Refused reply) = Some reply
told Change = None

told_as : (a : Answer) (r : Row) → Answers a r → told a ≡ refused_by r
told_as (Refused reply) (Err why) e = ap Some e
told_as (Refused reply) (Ok d) e = absurd e
told_as Change (Err why) e = absurd e
told_as Change (Ok d) e = refl

pub refused_as : (v : VolumeNow) (c : Call) (a : Answer) → ((n : ℕ) → AreBornBefore n (tree_of_now v) → Answers a (outcome (room_of v.geometry) (tree_of_now v) n c)) → told a ≡ refusal v c
unfolding refusal
refused_as v c a h =
    let tree = tree_of_now v in
    told_as a (outcome (room_of v.geometry) tree (next_birth tree) c) (h (next_birth tree) (born_before_next tree))

pub needed_as : (v : VolumeNow) (c : Call) (n : ℕ) → ((m : ℕ) → AreBornBefore m (tree_of_now v) → n ≡ needs (tree_of_now v) m c) → n ≡ needed v c
unfolding needed
needed_as v c n h = h (next_birth (tree_of_now v)) (born_before_next (tree_of_now v))

-- ---- free zones

one_more : (z : ZoneState) (zs : List ZoneState) → count_by is_free (z ∷ zs) ≡ cond (is_free z) 1 0 + count_by is_free zs
one_more z zs = sum_by-cons (λ (x : ZoneState). cond (is_free x) 1 0) z zs

pub free_are : (zone : ℕ) (zs : List ZoneState) → count_by is_free zs ≡ length (free_from zone zs)
free_are zone [] = refl
free_are zone (states.Free ∷ zs) = (let one = one_more states.Free zs in let rest = free_are (zone + 1) zs in omega (arith, one, rest))
free_are zone (states.Used ∷ zs) = (let one = one_more states.Used zs in let rest = free_are (zone + 1) zs in omega (arith, one, rest))
free_are zone (states.Quarantined tx ∷ zs) = (let one = one_more (states.Quarantined tx) zs in let rest = free_are (zone + 1) zs in omega (arith, one, rest))

pub free_is : (v : VolumeNow) → count_by is_free v.zones.states ≡ length (zones_of v).free
unfolding zones_of
free_is v = free_are v.zones.first v.zones.states
