-- The rows of commands.
use Rattle.std.proofs.Common.{◌≡◌, ℕ, ◌≤◌, List, [], ◌∷◌, ◌++◌, length, All, Some, sym, ap, subst, ◌∙◌, slice_get}
use Rattle.std.specs.Option.{option_map}
use Rattle.std.proofs.lemmas.List.{length-map}
use Rattle.std.proofs.lemmas.List.Elements.{All-get_or}
use Rattle.std.proofs.lemmas.Option.{slice_get-map, get_or_from_slice_get}
use Rattle.blk_base.specs.laws.Members.{slice_get-length}
use Rattle.order_model.specs.declared.part.Part.{Part}
use Rattle.order_model.specs.declared.request.Kind.TheVariants as kinds
use Rattle.order_model.specs.declared.history.CommandEnd.{CommandEnd}
use Rattle.order_model.specs.declared.history.PartRow.{PartRow}
use Rattle.order_model.specs.History.{commands_of, EndAt}
use Rattle.order_model.specs.Received.{all_parts, part_at}
use Rattle.order_model.specs.code.Bodies.{IsThere}
use Rattle.order_model.specs.code.Rows.{part_of, parts_kept, IsPartThere, AreThere}
use Rattle.order_model.proofs.Histories.{all_parts-kept}
use Rattle.order_model.proofs.KeptRows as kept_rows

-- ---- parts

part-still : (stored more : List (List ℕ)) (r : PartRow) → IsPartThere (length stored) r → part_of (stored ++ more) r ≡ part_of stored r
part-still stored more r there = ap (λ (b : List ℕ). let p : Part = record { id = r.id; block = r.block; body = b } in p) (kept_rows.body-still stored more r.body there)

part_there-still : (n m : ℕ) (r : PartRow) → n ≤ m → IsPartThere n r → IsPartThere m r
part_there-still n m r le there = kept_rows.there-still n m r.body le there

pub rows_pushed : (stored more new : List (List ℕ)) (rs : List PartRow) (r : PartRow) → new ≡ stored ++ more → AreThere (length stored) rs → IsThere (length new) r.body → AreThere (length new) (rs ++ r ∷ [])
rows_pushed = kept_rows.there_pushed part_of IsPartThere part-still part_there-still

pub parts_pushed : (stored more new : List (List ℕ)) (rs : List PartRow) (r : PartRow) → new ≡ stored ++ more → AreThere (length stored) rs
    → (p : Part) → part_of new r ≡ p → parts_kept new (rs ++ r ∷ []) ≡ parts_kept stored rs ++ p ∷ []
parts_pushed = kept_rows.says_pushed part_of IsPartThere part-still part_there-still

pub all_kept : (n : ℕ) (es : List CommandEnd) (stored : List (List ℕ)) (rows : List PartRow) → EndAt 0 es n → n ≡ length rows → all_parts (commands_of 0 es (parts_kept stored rows)) ≡ parts_kept stored rows
all_kept n es stored rows h eq = all_parts-kept n es (parts_kept stored rows) h (eq ∙ sym (length-map rows (part_of stored)))

pub part_found : (n : ℕ) (es : List CommandEnd) (stored : List (List ℕ)) (rows : List PartRow) (place : ℕ) → EndAt 0 es n → n ≡ length rows
    → part_at (commands_of 0 es (parts_kept stored rows)) place ≡ option_map (part_of stored) (slice_get rows place)
part_found n es stored rows place h eq = ap (λ (ps : List Part). slice_get ps place) (all_kept n es stored rows h eq) ∙ slice_get-map (part_of stored) rows place

-- what is so of all is so of one that is found
pub one_there : {X : Type 0} (There : X → Type 0) (xs : List X) (place : ℕ) (x : X) → All There xs → slice_get xs place ≡ Some x → There x
one_there There xs place x there at = subst There (get_or_from_slice_get xs place x x at) (All-get_or There xs place x (slice_get-length xs place x at) there)
