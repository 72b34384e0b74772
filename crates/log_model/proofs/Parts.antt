-- A transaction that was written is read back.
use Rattle.std.specs.Prelude.{◌≡◌, ℕ, ◌+◌, ◌==◌, List, [], ◌∷◌, ◌++◌, length, if◌then◌else◌, refl}
use Rattle.std.proofs.Common.{sym, ap, ◌∙◌, arith, append_assoc, append-nil, eq-eqb}
use Rattle.std.proofs.lemmas.Bool.{cond-true}
use Rattle.log_model.specs.Marks.{Logged, Transaction}
use Rattle.log_model.specs.Log.{Tag, Commits, Format, Reader, Reading, Stopped, take_header, take_blocks, Spells}
use Rattle.log_model.proofs.Log.{take_blocks-append}
use Rattle.log_model.specs.Parts.{Part, Describing, Revoking, blocks_of_part, restored, bodies_of_part, revokes_of_part, IsPart, blocks_of_parts, bodies_of_parts, revokes_of_parts, AreParts}

-- ---- reading

bodies_read : (f : Format) (seq : ℕ) (tags : List Tag) (bodies : List (List ℕ)) (bs : List Logged) (rs : List ℕ) (txs : List Transaction) → length tags ≡ length bodies
    → take_blocks f (Reading seq tags bs rs txs) bodies ≡ Reading seq [] (bs ++ restored f tags bodies) rs txs
bodies_read f seq [] [] bs rs txs e = ap (λ x. Reading seq [] x rs txs) (sym (append-nil bs))
bodies_read f seq [] (b ∷ bodies) bs rs txs e = absurd (omega arith)
bodies_read f seq (t ∷ tags) [] bs rs txs e = absurd (omega arith)
bodies_read f seq (t ∷ tags) (b ∷ bodies) bs rs txs e =
    bodies_read f seq tags bodies (bs ++ record { block = t.block; body = f.restore t b } ∷ []) rs txs (omega arith)
    ∙ ap (λ x. Reading seq [] x rs txs) (append_assoc bs (record { block = t.block; body = f.restore t b } ∷ []) (restored f tags bodies))

same_sequence : (seq : ℕ) (r other : Reader) → (if seq == seq then r else other) ≡ r
same_sequence seq r other = cond-true (seq == seq) r other (eq-eqb seq seq refl)

part_read : (f : Format) (seq : ℕ) (p : Part) (bs : List Logged) (rs : List ℕ) (txs : List Transaction) → IsPart f seq p
    → take_blocks f (Reading seq [] bs rs txs) (blocks_of_part p) ≡ Reading seq [] (bs ++ bodies_of_part f p) (rs ++ revokes_of_part p) txs
part_read f seq (Describing block tags bodies) bs rs txs h =
    ap (λ r. take_blocks f r bodies) (ap (take_header seq bs rs txs) h.0 ∙ same_sequence seq (Reading seq tags bs rs txs) (Stopped txs))
    ∙ bodies_read f seq tags bodies bs rs txs h.1
    ∙ ap (λ x. Reading seq [] (bs ++ restored f tags bodies) x txs) (sym (append-nil rs))
part_read f seq (Revoking block numbers) bs rs txs h =
    ap (take_header seq bs rs txs) h
    ∙ same_sequence seq (Reading seq [] bs (rs ++ numbers) txs) (Stopped txs)
    ∙ ap (λ x. Reading seq [] x (rs ++ numbers) txs) (sym (append-nil bs))

parts_read : (f : Format) (seq : ℕ) (ps : List Part) (bs : List Logged) (rs : List ℕ) (txs : List Transaction) → AreParts f seq ps
    → take_blocks f (Reading seq [] bs rs txs) (blocks_of_parts ps) ≡ Reading seq [] (bs ++ bodies_of_parts f ps) (rs ++ revokes_of_parts ps) txs
parts_read f seq [] bs rs txs h = ap (λ x. Reading seq [] x rs txs) (sym (append-nil bs)) ∙ ap (λ x. Reading seq [] (bs ++ []) x txs) (sym (append-nil rs))
parts_read f seq (p ∷ ps) bs rs txs h =
    take_blocks-append f (Reading seq [] bs rs txs) (blocks_of_part p) (blocks_of_parts ps)
    ∙ ap (λ r. take_blocks f r (blocks_of_parts ps)) (part_read f seq p bs rs txs h.0)
    ∙ parts_read f seq ps (bs ++ bodies_of_part f p) (rs ++ revokes_of_part p) txs h.1
    ∙ ap (λ x. Reading seq [] x ((rs ++ revokes_of_part p) ++ revokes_of_parts ps) txs) (append_assoc bs (bodies_of_part f p) (bodies_of_parts f ps))
    ∙ ap (λ x. Reading seq [] (bs ++ (bodies_of_part f p ++ bodies_of_parts f ps)) x txs) (append_assoc rs (revokes_of_part p) (revokes_of_parts ps))

-- Parts with a commit block behind them spell the transaction of all their bodies and revokes.
pub parts_spell : (f : Format) (seq : ℕ) (ps : List Part) (commit : List ℕ) → AreParts f seq ps → f.header commit ≡ Commits seq
    → Spells f seq (blocks_of_parts ps ++ commit ∷ []) (record { bodies = bodies_of_parts f ps; revokes = revokes_of_parts ps })
parts_spell f seq ps commit h c txs =
    take_blocks-append f (Reading seq [] [] [] txs) (blocks_of_parts ps) (commit ∷ [])
    ∙ ap (λ r. take_blocks f r (commit ∷ [])) (parts_read f seq ps [] [] txs h)
    ∙ ap (take_header seq (bodies_of_parts f ps) (revokes_of_parts ps) txs) c
    ∙ same_sequence seq (Reading (seq + 1) [] [] [] (txs ++ record { bodies = bodies_of_parts f ps; revokes = revokes_of_parts ps } ∷ [])) (Stopped txs)
