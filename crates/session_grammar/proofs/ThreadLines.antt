-- The lines of threads, when a thread or a call comes behind them.
use Rattle.std.proofs.Common.{◌≡◌, ℕ, suc, zero, ◌+◌, ◌<◌, ◌≤◌, List, [], ◌∷◌, ◌++◌, length, take, drop, map, refl, sym, ap, ap₂, ◌∙◌, arith, append_assoc, append-nil, length-append}
use Rattle.std.proofs.lemmas.List.{map-append, take_all}
use Rattle.tree_model.specs.declared.call.Call.{Call}
use Rattle.script_words.specs.Spelling.{words_of}
use Rattle.line_grammar.specs.calls.Programs.{pushed_last}
use Rattle.session_grammar.specs.WellFormed.{all_calls, AreLinesOf}
use Rattle.session_grammar.specs.laws.Speller.{thread_words, thread_lines}
use Rattle.session_grammar.proofs.BodyRead.{AreLinesOf-front}

AreLinesOf-length : (ls : List (List ℕ)) (cs : List Call) → AreLinesOf ls cs → length ls ≡ length cs
AreLinesOf-length [] [] are = refl
AreLinesOf-length [] (c ∷ cs) are = absurd are
AreLinesOf-length (l ∷ ls) [] are = absurd are
AreLinesOf-length (l ∷ ls) (c ∷ cs) are = ap suc (AreLinesOf-length ls cs are.1)

take-front : {A : Type 0} (n : ℕ) (xs ys : List A) → n ≤ length xs → take n (xs ++ ys) ≡ take n xs
take-front zero xs ys le = refl
take-front (suc n) [] ys le = absurd (omega (arith, le))
take-front (suc n) (x ∷ xs) ys le = ap (λ l. x ∷ l) (take-front n xs ys (omega (arith, le)))

drop-front : {A : Type 0} (n : ℕ) (xs ys : List A) → n ≤ length xs → drop n (xs ++ ys) ≡ drop n xs ++ ys
drop-front zero xs ys le = refl
drop-front (suc n) [] ys le = absurd (omega (arith, le))
drop-front (suc n) (x ∷ xs) ys le = drop-front n xs ys (omega (arith, le))

-- so many calls at least as the first thread has
front_fits : (p : List Call) (ps : List (List Call)) (ls : List (List ℕ)) → AreLinesOf ls (p ++ all_calls ps) → length p ≤ length ls
front_fits p ps ls are = omega (arith, AreLinesOf-length ls (p ++ all_calls ps) are, length-append p (all_calls ps))

pub thread_lines-thread : (ps : List (List Call)) (t : ℕ) (ls : List (List ℕ)) → thread_lines t (ps ++ [] ∷ []) ls ≡ thread_lines t ps ls ++ thread_words (t + length ps) ∷ []
unfolding thread_lines
thread_lines-thread [] t ls = let e : t ≡ t + 0 = omega arith in ap (λ n. thread_words n ∷ []) e
thread_lines-thread (p ∷ ps) t ls =
    let front = map words_of (take (length p) ls) in
    let back = drop (length p) ls in
    let e : t + 1 + length ps ≡ t + suc (length ps) = omega arith in
    ap (λ x. thread_words t ∷ front ++ x) (thread_lines-thread ps (t + 1) back ∙ ap (λ n. thread_lines (t + 1) ps back ++ thread_words n ∷ []) e)
    ∙ ap (λ x. thread_words t ∷ x) (sym (append_assoc front (thread_lines (t + 1) ps back) (thread_words (t + suc (length ps)) ∷ [])))

pub thread_lines-call : (ps : List (List Call)) (t : ℕ) (ls : List (List ℕ)) (l : List ℕ) (c : Call) → 0 < length ps → AreLinesOf ls (all_calls ps) → thread_lines t (pushed_last ps c) (ls ++ l ∷ []) ≡ thread_lines t ps ls ++ words_of l ∷ []
unfolding thread_lines
thread_lines-call [] t ls l c some are = absurd (omega (arith, some))
thread_lines-call (p ∷ []) t ls l c some are =
    let size : length ls ≡ length p = AreLinesOf-length ls (p ++ []) are ∙ ap length (append-nil p) in
    let more : length (p ++ c ∷ []) ≡ length (ls ++ l ∷ []) = omega (arith, size, length-append p (c ∷ []), length-append ls (l ∷ [])) in
    ap (λ x. thread_words t ∷ map words_of x ++ []) (take_all (length (p ++ c ∷ [])) (ls ++ l ∷ []) (omega (arith, more)))
    ∙ ap (λ x. thread_words t ∷ x) (append-nil (map words_of (ls ++ l ∷ [])) ∙ map-append words_of ls (l ∷ []))
    ∙ ap (λ x. thread_words t ∷ map words_of x ++ words_of l ∷ []) (sym (take_all (length p) ls (omega (arith, size))))
    ∙ ap (λ x. thread_words t ∷ x ++ words_of l ∷ []) (sym (append-nil (map words_of (take (length p) ls))))
thread_lines-call (p ∷ q ∷ ps) t ls l c some are =
    let fits = front_fits p (q ∷ ps) ls are in
    let both = AreLinesOf-front p (all_calls (q ∷ ps)) ls are in
    let front = map words_of (take (length p) ls) in
    let back = drop (length p) ls in
    ap₂ (λ (x y : List (List ℕ)). thread_words t ∷ map words_of x ++ thread_lines (t + 1) (pushed_last (q ∷ ps) c) y) (take-front (length p) ls (l ∷ []) fits) (drop-front (length p) ls (l ∷ []) fits)
    ∙ ap (λ x. thread_words t ∷ front ++ x) (thread_lines-call (q ∷ ps) (t + 1) back l c (omega arith) both.1)
    ∙ ap (λ x. thread_words t ∷ x) (sym (append_assoc front (thread_lines (t + 1) (q ∷ ps) back) (words_of l ∷ [])))
