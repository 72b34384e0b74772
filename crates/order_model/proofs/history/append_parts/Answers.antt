use Rattle.std.proofs.Common.{◌≡◌, ℕ, suc, ◌+◌, ◌++◌, ◌∷◌, [], List, length, take, sym, ap, subst, ◌∙◌, arith}
use Rattle.std.proofs.lemmas.List.{append_assoc}
use Rattle.std.proofs.Math.Seq.{take-suc}
use Rattle.order_model.specs.declared.part.Part.{Part}
use Rattle.order_model.specs.declared.history.PartRow.{PartRow}
use Rattle.order_model.specs.code.Rows.{parts_kept, AreThere}
use Rattle.order_model.proofs.Rows.{rows_pushed, parts_pushed}
use Rattle.order_model.proofs.history.append_parts.Goals as goal

pub loop-part-preserved : goal.loop-part-preserved
loop-part-preserved c =
    let inv = c.loop-part.invariant in
    let stored = c.loop-part.stored.items in
    let more = c.keep-body.ensures.behind in
    let p = c.part-item.result in
    let row : PartRow = record { id = p.id; block = p.block; body = c.keep-body.result } in
    let i = c.loop-part.part-index in
    let one : i + 1 ≡ suc i = omega arith in
    let next = ap (λ (n : ℕ). take n c.args.parts.now) one ∙ take-suc c.args.parts.now i p c.loop-part-test.true ∙ ap (λ (q : Part). take i c.args.parts.now ++ q ∷ []) (sym c.part-item.is) in
    record {
      items =
          ap (λ (rows : List PartRow). parts_kept c.keep-body.new.stored.items rows) c.push_reserved.ensures.items
          ∙ parts_pushed stored more.0 c.keep-body.new.stored.items c.loop-part.rows.items row more.1 inv.there p (ap (λ (b : List ℕ). let q : Part = record { id = p.id; block = p.block; body = b } in q) c.keep-body.ensures.body)
          ∙ ap (λ (ps : List Part). ps ++ p ∷ []) inv.items
          ∙ append_assoc (parts_kept c.args.stored.now.items c.args.rows.now.items) (take i c.args.parts.now) (p ∷ [])
          ∙ ap (λ (ps : List Part). parts_kept c.args.stored.now.items c.args.rows.now.items ++ ps) (sym next);
      there = subst (λ (rows : List PartRow). AreThere (length c.keep-body.new.stored.items) rows) (sym c.push_reserved.ensures.items)
          (rows_pushed stored more.0 c.keep-body.new.stored.items c.loop-part.rows.items row more.1 inv.there c.keep-body.ensures.there);
      len = omega (arith, inv.len);
      few = omega (arith, inv.few);
      capacity = c.push_reserved.ensures.capacity ∙ inv.capacity;
      bodies = c.keep-body.ensures.capacity ∙ inv.bodies;
    }
