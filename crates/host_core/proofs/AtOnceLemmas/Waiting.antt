-- How many zones wait for transactions below one.
use Rattle.std.specs.List.{count_by}
use Rattle.std.proofs.Common.{◌≡◌, ℕ, ◌+◌, Bool, true, false, cond, if◌then◌else◌, List, [], ◌∷◌, length, filter, nat_lt, nat_le, refl, sym, ap, ◌∙◌, arith}
use Rattle.std.proofs.lemmas.List.Sums.{sum_by-cons}
use Rattle.minix_tables.specs.declared.zones.zone_state.ZoneState.{ZoneState}
use Rattle.minix_tables.specs.declared.zones.zone_state.ZoneState.TheVariants as states
use Rattle.minix_tables.specs.zones.Zones.{is_quarantined_to}
use Rattle.volume_steps.specs.Now.{VolumeNow}
use Rattle.host_machine.specs.Model.{Freed}
use Rattle.minix_host.specs.Volumes.{waiting_from, zones_of}
use Rattle.host_core.specs.at_once.code.Waiting.{waits_below}

below_is : (transaction number last : ℕ) → number ≡ last + 1 → nat_lt transaction number ≡ nat_le transaction last
below_is transaction number last e = grind arith

one_more : (last : ℕ) (z : ZoneState) (zs : List ZoneState) → count_by (is_quarantined_to last) (z ∷ zs) ≡ cond (is_quarantined_to last z) 1 0 + count_by (is_quarantined_to last) zs
one_more last z zs = sum_by-cons (λ (x : ZoneState). cond (is_quarantined_to last x) 1 0) z zs

here : (number last : ℕ) (z : Freed) (rest : List Freed) (zs : List ZoneState) (a b : Bool) → b ≡ a → count_by (is_quarantined_to last) zs ≡ length (filter (λ (z : Freed). nat_lt z.transaction number) rest)
    → cond a 1 0 + count_by (is_quarantined_to last) zs
    ≡ length (if b then z ∷ filter (λ (z : Freed). nat_lt z.transaction number) rest else filter (λ (z : Freed). nat_lt z.transaction number) rest)
here number last z rest zs true true same e = omega (arith, e)
here number last z rest zs false false same e = omega (arith, e)
here number last z rest zs true false same e = absurd (cc same)
here number last z rest zs false true same e = absurd (cc same)

counted : (number last zone : ℕ) (zs : List ZoneState) → number ≡ last + 1
    → count_by (is_quarantined_to last) zs ≡ length (filter (λ (z : Freed). nat_lt z.transaction number) (waiting_from zone zs))
counted number last zone [] e = refl
counted number last zone (states.Free ∷ zs) e = (let one = one_more last states.Free zs in let rest = counted number last (zone + 1) zs e in omega (arith, one, rest))
counted number last zone (states.Used ∷ zs) e = (let one = one_more last states.Used zs in let rest = counted number last (zone + 1) zs e in omega (arith, one, rest))
counted number last zone (states.Quarantined transaction ∷ zs) e =
    one_more last (states.Quarantined transaction) zs
    ∙ here number last (record { zone = zone; transaction = transaction }) (waiting_from (zone + 1) zs) zs (nat_le transaction last) (nat_lt transaction number)
    (below_is transaction number last e) (counted number last (zone + 1) zs e)

none_below : (zs : List Freed) → length (filter (λ (z : Freed). nat_lt z.transaction 0) zs) ≡ 0
none_below [] = refl
none_below (z ∷ zs) = (let past : nat_lt z.transaction 0 ≡ false = grind arith in rw past (none_below zs))

pub waits_counted : (v : VolumeNow) (number last : ℕ) → number ≡ last + 1 → count_by (is_quarantined_to last) v.zones.states ≡ waits_below v number
unfolding zones_of
waits_counted v number last e = counted number last v.zones.first v.zones.states e

pub none_waits : (v : VolumeNow) (number : ℕ) → number ≡ 0 → 0 ≡ waits_below v number
none_waits v number e = sym (ap (waits_below v) e ∙ none_below (zones_of v).waiting)
