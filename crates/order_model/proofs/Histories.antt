-- The commands that are kept as one list of parts and one list of ends.
use Rattle.std.proofs.Common.{◌≡◌, ℕ, ◌+◌, ◌-◌, ◌<◌, ◌≤◌, List, [], ◌∷◌, ◌++◌, length, take, drop, refl, sym, ap, ap₂, ◌∙◌, subst, arith, length-append, length-drop, zero, suc, get_or}
use Rattle.std.proofs.lemmas.List.{take-append-le, drop-append-le, take-append-drop, take_all, nil_from_length, length-take-le}
use Rattle.order_model.specs.declared.part.Part.{Part}
use Rattle.order_model.specs.declared.command.Command.{Command}
use Rattle.order_model.specs.declared.history.CommandEnd.{CommandEnd}
use Rattle.order_model.specs.Received.{all_parts, first_part}
use Rattle.order_model.specs.History.{commands_of, EndAt}

abbrev command : List Part → CommandEnd → Command
command parts e = record { parts = parts; priority = e.priority; barrier = e.barrier; flush = e.flush }

pub length-commands_of : (start : ℕ) (es : List CommandEnd) (ps : List Part) → length (commands_of start es ps) ≡ length es
length-commands_of start [] ps = refl
length-commands_of start (e ∷ es) ps = ap suc (length-commands_of e.end es (drop (e.end - start) ps))

EndAt-le : (start n : ℕ) (es : List CommandEnd) → EndAt start es n → start ≤ n
EndAt-le start n [] h = omega arith
EndAt-le start n (e ∷ es) h = let later = EndAt-le e.end n es h.1 in let first = h.0 in omega arith

pub EndAt-push : (start n : ℕ) (es : List CommandEnd) (e : CommandEnd) → EndAt start es n → n ≤ e.end → EndAt start (es ++ e ∷ []) e.end
EndAt-push start n [] e h le = (subst (λ m. m ≤ e.end) (sym h) le, refl)
EndAt-push start n (f ∷ es) e h le = (h.0, EndAt-push f.end n es e h.1 le)

rest_length : (start end n : ℕ) (ps : List Part) → start ≤ end → end ≤ n → n ≡ start + length ps → n ≡ end + length (drop (end - start) ps)
rest_length start end n ps a b h = let d = length-drop (end - start) ps in omega arith

pub all_parts-commands_of : (start n : ℕ) (es : List CommandEnd) (ps : List Part) → EndAt start es n → n ≡ start + length ps → all_parts (commands_of start es ps) ≡ ps
all_parts-commands_of start n [] ps h eq = sym (nil_from_length ps (omega arith))
all_parts-commands_of start n (e ∷ es) ps h eq =
    let le = EndAt-le e.end n es h.1 in
    let first = h.0 in
    ap (λ l. take (e.end - start) ps ++ l) (all_parts-commands_of e.end n es (drop (e.end - start) ps) h.1 (rest_length start e.end n ps first le eq))
    ∙ take-append-drop (e.end - start) ps

pub commands_of-push : (start n : ℕ) (es : List CommandEnd) (e : CommandEnd) (ps new : List Part) → EndAt start es n → n ≡ start + length ps → e.end ≡ n + length new
    → commands_of start (es ++ e ∷ []) (ps ++ new) ≡ commands_of start es ps ++ command new e ∷ []
commands_of-push start n [] e ps new h eq end =
    let none = nil_from_length ps (omega arith) in
    let all = take_all (e.end - start) new (omega arith) in
    ap (λ l. command (take (e.end - start) (l ++ new)) e ∷ []) none ∙ ap (λ l. command l e ∷ []) all
commands_of-push start n (f ∷ es) e ps new h eq end =
    let le = EndAt-le f.end n es h.1 in
    let first = h.0 in
    let k = f.end - start in
    let within : f.end - start ≤ length ps = omega arith in
    ap₂ (λ a b. command a f ∷ b) (take-append-le k ps new within)
    (ap (commands_of f.end (es ++ e ∷ [])) (drop-append-le k ps new within) ∙ commands_of-push f.end n es e (drop k ps) new h.1 (rest_length start f.end n ps first le eq) end)

-- the parts of the commands up to one end
pub first_part-commands_of : (start n k : ℕ) (es : List CommandEnd) (ps : List Part) (e : CommandEnd) → EndAt start es n → n ≡ start + length ps → k < length es → e ≡ get_or es k e
    → start + first_part (commands_of start es ps) (suc k) ≡ e.end
first_part-commands_of start n k [] ps e h eq lt at = absurd (omega arith)
first_part-commands_of start n zero (f ∷ es) ps e h eq lt at =
    let le = EndAt-le f.end n es h.1 in
    let first = h.0 in
    let len = length-take-le (f.end - start) ps (omega arith) in
    let more = length-append (take (f.end - start) ps) [] in
    let same = ap (λ (c : CommandEnd). c.end) at in
    omega arith
first_part-commands_of start n (suc k) (f ∷ es) ps e h eq lt at =
    let le = EndAt-le f.end n es h.1 in
    let first = h.0 in
    let len = length-take-le (f.end - start) ps (omega arith) in
    let rest = first_part-commands_of f.end n k es (drop (f.end - start) ps) e h.1 (rest_length start f.end n ps first le eq) (omega arith) at in
    let more = length-append (take (f.end - start) ps) (all_parts (take (suc k) (commands_of f.end es (drop (f.end - start) ps)))) in
    omega arith

-- ---- the same, of a whole history

pub all_parts-kept : (n : ℕ) (es : List CommandEnd) (ps : List Part) → EndAt 0 es n → n ≡ length ps → all_parts (commands_of 0 es ps) ≡ ps
all_parts-kept n es ps h eq = all_parts-commands_of 0 n es ps h (omega arith)

pub first_part-kept : (n k : ℕ) (es : List CommandEnd) (ps : List Part) (e : CommandEnd) → EndAt 0 es n → n ≡ length ps → k < length es → e ≡ get_or es k e
    → first_part (commands_of 0 es ps) (suc k) ≡ e.end
first_part-kept n k es ps e h eq lt at = let f = first_part-commands_of 0 n k es ps e h (omega arith) lt at in omega arith

pub commands-pushed : (n : ℕ) (es : List CommandEnd) (ps new : List Part) (e : CommandEnd) (c : Command) → EndAt 0 es n → n ≡ length ps → e.end ≡ n + length new
    → c.parts ≡ new → e.priority ≡ c.priority → e.barrier ≡ c.barrier → e.flush ≡ c.flush
    → commands_of 0 (es ++ e ∷ []) (ps ++ new) ≡ commands_of 0 es ps ++ c ∷ []
commands-pushed n es ps new e c h eq end parts priority barrier flush =
    commands_of-push 0 n es e ps new h (omega arith) end
    ∙ ap (λ l. commands_of 0 es ps ++ l ∷ []) (λ i. record { parts = sym parts i; priority = priority i; barrier = barrier i; flush = flush i })
