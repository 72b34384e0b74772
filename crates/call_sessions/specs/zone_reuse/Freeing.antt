-- Which zones the entries of a history freed: by what the steps did to the volume.
use Rattle.std.specs.Prelude.{◌≡◌, ℕ, ◌+◌, ◌⊎◌, true, List, [], ◌∷◌, length, Some, None}
use Rattle.host_machine.specs.State.{Host}
use Rattle.host_machine.specs.Views.{waits_for}
use Rattle.host_machine.specs.laws.Contract.{Over}
use Rattle.host_machine.specs.runs.Runs.{Event, stepped}

module _ {A T V C R : Type 0} (o : Over A T V C R) where
  -- the zone holds metadata, or a block of a file
  abbrev pub IsInUse : V → ℕ → Type 0
  IsInUse v z = (o.model.metadata v z ≡ true) ⊎ ((f i : ℕ) × (o.model.zone v f i ≡ Some z))

  -- between these two volumes the zone goes out of use, or begins to wait for a transaction
  abbrev pub IsGivenUp : V → V → ℕ → Type 0
  IsGivenUp before after z =
      (IsInUse before z × (IsInUse after z → ⊥)) ⊎
      ((waits_for (o.model.zones before).waiting z ≡ None) × ((k : ℕ) × (waits_for (o.model.zones after).waiting z ≡ Some k)))

  -- this step makes entry e, which gives up the zone
  pub record FreesNow (s : Host V C R) (step : Event) (e z : ℕ) : Type 0 where
    pub next : e ≡ length s.history + 1
    pub made : length (stepped o s step).history ≡ e
    pub given_up : IsGivenUp s.volume (stepped o s step).volume z

  -- one of these steps does: entry e freed zone z
  abbrev pub Frees : Host V C R → List Event → ℕ → ℕ → Type 0
  Frees s [] e z = ⊥
  Frees s (step ∷ steps) e z = FreesNow s step e z ⊎ Frees (stepped o s step) steps e z
