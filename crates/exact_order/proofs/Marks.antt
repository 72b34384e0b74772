-- The origins by id of a device that takes one more command.
use Rattle.std.proofs.Common.{◌≡◌, ℕ, ◌<◌, ◌++◌, Bool, List, [], ◌∷◌, length, map, set, Option, Some, None, slice_get, slice_set, refl, ap, ap₂, ◌∙◌, inl, inr}
use Rattle.std.specs.Option.{option_map}
use Rattle.std.proofs.lemmas.List.{map-set}
use Rattle.blk_base.specs.Members.{In}
use Rattle.blk_base.specs.laws.Members.{In-slice_get, slice_get-push}
use Rattle.order_model.specs.declared.part.Part.{Part}
use Rattle.order_model.specs.declared.command.Command.{Command}
use Rattle.order_model.specs.declared.command.Priority.{Priority}
use Rattle.order_model.specs.Received.{all_parts, part_at}
use Rattle.order_model.specs.Device.{origin_ids}
use Rattle.order_model.proofs.Received.{all_parts-push, part_at-push_old}
use Rattle.order_model.proofs.OriginIds.{id_at}

-- each origin is the place of a part that was taken
abbrev pub AreTaken : List Command → List (Option ℕ) → Type 0
AreTaken took origins = (b place : ℕ) → slice_get origins b ≡ Some (Some place) → place < length (all_parts took)

map-same : {X Y : Type 0} (f g : X → Y) (xs : List X) → ((x : X) → In x xs → f x ≡ g x) → map f xs ≡ map g xs
map-same f g [] h = refl
map-same f g (x ∷ xs) h = ap₂ (λ y ys. y ∷ ys) (h x (inl refl)) (map-same f g xs (λ y i. h y (inr i)))

-- a place that was taken has the id that it had
id-more : (took : List Command) (c : Command) (o : Option ℕ) → ((place : ℕ) → o ≡ Some place → place < length (all_parts took)) → id_at (took ++ c ∷ []) o ≡ id_at took o
id-more took c None within = refl
id-more took c (Some place) within = ap (option_map (λ (p : Part). p.id)) (part_at-push_old took c place (within place refl))

pub ids-more : (took : List Command) (c : Command) (origins : List (Option ℕ)) → AreTaken took origins → origin_ids (took ++ c ∷ []) origins ≡ origin_ids took origins
ids-more took c origins taken =
    map-same (id_at (took ++ c ∷ [])) (id_at took) origins
    (λ o h.
    let i = In-slice_get origins o h in
    id-more took c o (λ place e. taken i.0 place (i.2 ∙ ap Some e)))

-- a block whose origin is the part of that command has its id
pub ids-set : (took : List Command) (p : Part) (priority : Priority) (barrier : Bool) (origins : List (Option ℕ)) (block : ℕ) → AreTaken took origins
    → let c : Command = record { parts = p ∷ []; priority = priority; barrier = barrier; flush = None } in
    origin_ids (took ++ c ∷ []) (slice_set origins block (Some (length (all_parts took)))) ≡ slice_set (origin_ids took origins) block (Some p.id)
ids-set took p priority barrier origins block taken =
    let c : Command = record { parts = p ∷ []; priority = priority; barrier = barrier; flush = None } in
    let there : part_at (took ++ c ∷ []) (length (all_parts took)) ≡ Some p = ap (λ l. slice_get l (length (all_parts took))) (all_parts-push took c) ∙ slice_get-push (all_parts took) p in
    map-set (id_at (took ++ c ∷ [])) origins block (Some (length (all_parts took)))
    ∙ ap₂ (λ l o. set l block o) (ids-more took c origins taken) (ap (option_map (λ (q : Part). q.id)) there)
