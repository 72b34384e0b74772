-- Origins by id and by place.
use Rattle.std.proofs.Common.{◌≡◌, ℕ, List, Option, Some, None, slice_get, refl, sym, ap, ◌∙◌}
use Rattle.std.specs.Option.{option_map, option_and_then}
use Rattle.std.proofs.lemmas.Option.{none-some, same_Some}
use Rattle.blk_base.specs.laws.Members.{map_some-slice_get, slice_get-map_some}
use Rattle.order_model.specs.declared.part.Part.{Part}
use Rattle.order_model.specs.declared.command.Command.{Command}
use Rattle.order_model.specs.Received.{part_at}
use Rattle.order_model.specs.OrderClosed.{HasOrigin}
use Rattle.order_model.specs.Device.{origin_ids}

-- the id at the place of an origin
abbrev pub id_at : List Command → Option ℕ → Option ℕ
id_at took o = option_and_then (λ place. option_map (λ (p : Part). p.id) (part_at took place)) o

-- an origin by id stands for a part
pub record IsPlaced (took : List Command) (origins : List (Option ℕ)) (block id : ℕ) : Type 0 where
  pub place : ℕ
  pub held : slice_get origins block ≡ Some (Some place)
  pub part : Part
  pub there : part_at took place ≡ Some part
  pub named : part.id ≡ id

part_named : (id : ℕ) (o : Option Part) → option_map (λ (p : Part). p.id) o ≡ Some id → (p : Part) × (o ≡ Some p) × (p.id ≡ id)
part_named id None e = absurd (none-some id e)
part_named id (Some p) e = (p, refl, same_Some p.id id e)

origin_named : (took : List Command) (id : ℕ) (o : Option ℕ) → id_at took o ≡ Some id → (place : ℕ) × (o ≡ Some place) × (option_map (λ (p : Part). p.id) (part_at took place) ≡ Some id)
origin_named took id None e = absurd (none-some id e)
origin_named took id (Some place) e = (place, refl, e)

pub placed : (took : List Command) (origins : List (Option ℕ)) (block id : ℕ) → HasOrigin (origin_ids took origins) block id → IsPlaced took origins block id
placed took origins block id has =
    let o = map_some-slice_get (id_at took) origins block (Some id) has in
    let x = origin_named took id o.0 o.2 in
    let p = part_named id (part_at took x.0) x.2 in
    record { place = x.0; held = o.1 ∙ ap Some x.1; part = p.0; there = p.1; named = p.2 }

pub origin_of : (took : List Command) (origins : List (Option ℕ)) (block place : ℕ) (p : Part) → slice_get origins block ≡ Some (Some place) → part_at took place ≡ Some p → HasOrigin (origin_ids took origins) block p.id
origin_of took origins block place p held there =
    slice_get-map_some (id_at took) origins block (Some place) held
    ∙ ap (λ o. Some (option_map (λ (q : Part). q.id) o)) there

-- an origin whose place has a part has an id
none_named : (took : List Command) (o : Option ℕ) → ((x : ℕ) → o ≡ Some x → (p : Part) × (part_at took x ≡ Some p)) → id_at took o ≡ None → o ≡ None
none_named took None parts e = refl
none_named took (Some x) parts e =
    let p = parts x refl in
    absurd (none-some p.0.id (sym e ∙ ap (option_map (λ (q : Part). q.id)) p.1))

pub no_origin : (took : List Command) (origins : List (Option ℕ)) (block : ℕ) → ((x : ℕ) → slice_get origins block ≡ Some (Some x) → (p : Part) × (part_at took x ≡ Some p)) → slice_get (origin_ids took origins) block ≡ Some None → slice_get origins block ≡ Some None
no_origin took origins block parts none =
    let o = map_some-slice_get (id_at took) origins block None none in
    o.1 ∙ ap Some (none_named took o.0 (λ x e. parts x (o.1 ∙ ap Some e)) o.2)
