-- What is read of a text is what is read of its lines that are not skipped.
use Rattle.std.proofs.Common.{◌≡◌, ℕ, ◌+◌, ◌++◌, List, [], ◌∷◌, Bool, true, false, Option, Some, Result, Ok, Err, refl, sym, ap, ◌∙◌, subst, if◌then◌else◌}
use Rattle.std.proofs.lemmas.List.{append_assoc, append-nil}
use Rattle.script_words.specs.Spelling.{words_of, is_skipped}
use Rattle.script_words.specs.LineByLine.{at_line, line_read, lines_read}
use Rattle.script_words.specs.laws.Texts.{kept_lines}
use Rattle.script_words.proofs.LineByLine.{read_step}

-- the lines behind these, of which this one is skipped or not
abbrev kept_behind : Bool → List ℕ → List (List ℕ) → List (List (List ℕ))
kept_behind true l ls = kept_lines ls
kept_behind false l ls = words_of l ∷ kept_lines ls

pub kept_lines-one : (l : List ℕ) (ls : List (List ℕ)) (skipped : Bool) → is_skipped l ≡ skipped → kept_lines (l ∷ ls) ≡ kept_behind skipped l ls
kept_lines-one l ls true e = rw e refl
kept_lines-one l ls false e = rw e refl

-- ---- what the lines say of what is read

abbrev read_then : {A B E : Type 0} → Result A E → (A → Result B E) → Result B E
read_then (Ok x) f = f x
read_then (Err e) f = Err e

after_ok : {A B E : Type 0} (P : Type 0) (read : Result A E) (f : A → Result B E) (s : B) → read_then read f ≡ Ok s → ((next : A) → read ≡ Ok next → f next ≡ Ok s → P) → P
after_ok P (Ok next) f s h is = is next refl h
after_ok P (Err e) f s h is = cc

at_line-ok : {R K : Type 0} (n : ℕ) (read : Result R K) (next : Option R) (P : Option R → Type 0) → at_line n read ≡ Ok next → ((r : R) → read ≡ Ok r → P (Some r)) → P next
at_line-ok n (Ok r) next P h is = let e : Some r ≡ next = cc in subst P e (is r refl)
at_line-ok n (Err kind) next P h is = cc

-- What one line keeps, and the end hands on, holds of what is read of all lines.
module _ {R K S : Type 0} (read : Option R → List ℕ → Result R K) (ended : ℕ → Option R → Result S (ℕ × K)) (Says : Option R → List (List (List ℕ)) → Type 0) (SaysAll : S → List (List (List ℕ)) → Type 0) (line : (reading : Option R) (done : List (List (List ℕ))) (l : List ℕ) (r : R) → read reading l ≡ Ok r → Says reading done → Says (Some r) (done ++ words_of l ∷ [])) (end : (n : ℕ) (reading : Option R) (done : List (List (List ℕ))) (s : S) → ended n reading ≡ Ok s → Says reading done → SaysAll s done) where
  said_behind : (skipped : Bool) (n : ℕ) (reading next : Option R) (l : List ℕ) (ls : List (List ℕ)) (done : List (List (List ℕ))) (s : S)
      → (if skipped then Ok reading else at_line n (read reading l)) ≡ Ok next → Says reading done
      → ((more : List (List (List ℕ))) → Says next more → SaysAll s (more ++ kept_lines ls)) → SaysAll s (done ++ kept_behind skipped l ls)
  said_behind true n reading next l ls done s h is rest =
      let e : reading ≡ next = cc in
      rest done (subst (λ o. Says o done) e is)
  said_behind false n reading next l ls done s h is rest =
      let said = at_line-ok n (read reading l) next (λ o. Says o (done ++ words_of l ∷ [])) h (λ r e. line reading done l r e is) in
      subst (SaysAll s) (append_assoc done (words_of l ∷ []) (kept_lines ls)) (rest (done ++ words_of l ∷ []) said)

  pub said : (ls : List (List ℕ)) (n : ℕ) (reading : Option R) (done : List (List (List ℕ))) (s : S) → lines_read read ended n reading ls ≡ Ok s → Says reading done → SaysAll s (done ++ kept_lines ls)
  unfolding lines_read
  said [] n reading done s h is = subst (SaysAll s) (sym (append-nil done)) (end n reading done s h is)
  said (l ∷ ls) n reading done s h is =
      after_ok (SaysAll s (done ++ kept_lines (l ∷ ls))) (line_read read n reading l) (λ next. lines_read read ended (n + 1) next ls) s h
      (λ next e g. subst (λ k. SaysAll s (done ++ k)) (sym (kept_lines-one l ls (is_skipped l) refl))
      (said_behind (is_skipped l) n reading next l ls done s e is (λ more says. said ls (n + 1) next more s g says)))

-- ---- lines as words that are read

-- they are read one after the other, and end as this
abbrev pub ReadsTo : {R K S : Type 0} → (Option R → List (List ℕ) → R → Type 0) → (ℕ → Option R → Result S (ℕ × K)) → Option R → List (List (List ℕ)) → S → Type 0
ReadsTo IsRead ended reading [] s = (n : ℕ) → ended n reading ≡ Ok s
ReadsTo {R = R} IsRead ended reading (ws ∷ ls) s = (next : R) × IsRead reading ws next × ReadsTo IsRead ended (Some next) ls s

module _ {R K S : Type 0} (read : Option R → List ℕ → Result R K) (ended : ℕ → Option R → Result S (ℕ × K)) (IsRead : Option R → List (List ℕ) → R → Type 0) (line : (reading : Option R) (l : List ℕ) (next : R) → IsRead reading (words_of l) next → read reading l ≡ Ok next) where
  ends_behind : (skipped : Bool) (reading : Option R) (l : List ℕ) (ls : List (List ℕ)) (s : S) (n : ℕ) → is_skipped l ≡ skipped
      → ((r : Option R) → ReadsTo IsRead ended r (kept_lines ls) s → lines_read read ended (n + 1) r ls ≡ Ok s) → ReadsTo IsRead ended reading (kept_behind skipped l ls) s → lines_read read ended n reading (l ∷ ls) ≡ Ok s
  ends_behind true reading l ls s n e rest reads =
      read_step read ended n reading reading l ls (ap (λ t. if t then Ok reading else at_line n (read reading l)) e) ∙ rest reading reads
  ends_behind false reading l ls s n e rest (next, is, reads) =
      read_step read ended n reading (Some next) l ls (ap (λ t. if t then Ok reading else at_line n (read reading l)) e ∙ ap (at_line n) (line reading l next is)) ∙ rest (Some next) reads

  pub ends_reads : (ls : List (List ℕ)) (reading : Option R) (s : S) (n : ℕ) → ReadsTo IsRead ended reading (kept_lines ls) s → lines_read read ended n reading ls ≡ Ok s
  unfolding lines_read
  ends_reads [] reading s n reads = reads n
  ends_reads (l ∷ ls) reading s n reads =
      ends_behind (is_skipped l) reading l ls s n refl (λ r more. ends_reads ls r s (n + 1) more)
      (subst (λ ks. ReadsTo IsRead ended reading ks s) (kept_lines-one l ls (is_skipped l) refl) reads)
