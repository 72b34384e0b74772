-- Words that are read as a call are how it is spelled.
use Rattle.std.proofs.Common.{◌≡◌, ℕ, Bool, true, false, nat_lt, nat_le, if◌then◌else◌, List, [], ◌∷◌, codes, decimal, map, Option, Some, None, Ok, Err, refl, sym, ap, ap₂, ◌∙◌, subst, arith}
use Rattle.std.proofs.lemmas.Bool.{and_parts, leb-true}
use borrow.Author.Tests.{ltb-true}
use Rattle.std.proofs.lemmas.Option.{same_Some, none-some}
use Rattle.tree_model.specs.declared.call.Call.{Call}
use Rattle.tree_model.specs.declared.call.Call.TheVariants as calls
use Rattle.script_words.specs.declared.line_error.LineFault.TheVariants as faults
use Rattle.line_grammar.specs.declared.calls.limits.TheConstants.{MOST_LENGTH, OFFSETS}
use Rattle.line_grammar.specs.declared.calls.words.PathWord.{PathWord}
use Rattle.line_grammar.specs.declared.calls.words.PathWord.TheVariants as paths
use Rattle.line_grammar.specs.declared.calls.words.PairWord.{PairWord}
use Rattle.line_grammar.specs.declared.calls.words.PairWord.TheVariants as pairs
use Rattle.line_grammar.specs.declared.calls.words.PlaceWord.{PlaceWord}
use Rattle.line_grammar.specs.declared.calls.words.PlaceWord.TheVariants as places
use Rattle.line_grammar.specs.declared.calls.words.CallWord.{CallWord}
use Rattle.line_grammar.specs.declared.calls.words.CallWord.TheVariants as word
use Rattle.line_grammar.specs.calls.CallLines.{is_path_text, path_text, hex_text, path_call, pair_call, path_spelled, pair_spelled, truncate_spelled, write_at, bytes_at, read_at, call_at, place_spelled, sync_spelled, call_spelled, length_fits, call_fits, call_taken, call_word}
use Rattle.line_grammar.specs.calls.WellFormed.{IsPathText, IsRange, IsWellFormed}
use Rattle.line_grammar.specs.calls.laws.Speller.{call_words, with_lower_digits, lowered, line_after, line_of}
use Rattle.line_grammar.proofs.CallsLemmas.Hexadecimal.{IsHex-hex_text}
use Rattle.line_grammar.proofs.CallsLemmas.Names.{path_name, pair_name, place_name, call_name, call_named}
use Rattle.script_words.specs.Spelling.{numeral, hex_byte}
use Rattle.script_words.proofs.Chosen.{mapped, chained}
use Rattle.script_words.proofs.SaidNumbers.{decimal-numeral, hex_text-byte, hex_byte-small}

-- the words are those of the call, whose numbers are within their limits
abbrev Says : List (List ℕ) → Call → Type 0
Says ws c = call_fits c ≡ true → IsWellFormed c × (with_lower_digits ws ≡ call_words c)

-- ---- paths and numbers

path_chosen : (w p : List ℕ) (is : Bool) → is_path_text w ≡ is → (if is then Some w else None) ≡ Some p → (w ≡ p) × IsPathText p
path_chosen w p true e h = let same = same_Some w p h in (same, subst IsPathText same e)
path_chosen w p false e h = absurd (none-some p h)

path_said : (w p : List ℕ) → path_text w ≡ Some p → (w ≡ p) × IsPathText p
path_said w p h = path_chosen w p (is_path_text w) refl h

range_fits : (off len : ℕ) → nat_lt off OFFSETS ≡ true → length_fits len ≡ true → IsRange off len
range_fits off len o l =
    let p = and_parts (nat_le 1 len) (nat_le len MOST_LENGTH) l in
    record { below = ltb-true off OFFSETS o; some = leb-true 1 len p.0; most = leb-true len MOST_LENGTH p.1 }

-- ---- each form of call

path_call-says : (w : PathWord) (p : List ℕ) → IsPathText p → Says (path_name w ∷ p ∷ []) (path_call w p)
path_call-says paths.Mkdir p is f = (is, refl)
path_call-says paths.Rmdir p is f = (is, refl)
path_call-says paths.Create p is f = (is, refl)
path_call-says paths.Unlink p is f = (is, refl)
path_call-says paths.List p is f = (is, refl)
path_call-says paths.Stat p is f = (is, refl)
path_call-says paths.Fsync p is f = (is, refl)
path_call-says paths.Fdatasync p is f = (is, refl)
path_call-says paths.Fbarrier p is f = (is, refl)
path_call-says paths.Fdatabarrier p is f = (is, refl)

pair_call-says : (w : PairWord) (p q : List ℕ) → IsPathText p → IsPathText q → Says (pair_name w ∷ p ∷ q ∷ []) (pair_call w p q)
pair_call-says pairs.Link p q is other f = ((is, other), refl)
pair_call-says pairs.Rename p q is other f = ((is, other), refl)

path_spelled-says : (w : PathWord) (ws : List (List ℕ)) (c : Call) → path_spelled w ws ≡ Some c → Says (path_name w ∷ ws) c
path_spelled-says w [] c h = absurd (none-some c h)
path_spelled-says w (v ∷ []) c h =
    mapped (Says (path_name w ∷ v ∷ [])) (path_call w) (path_text v) c h
    (λ p e. let t = path_said v p e in subst (λ u. Says (path_name w ∷ u ∷ []) (path_call w p)) (sym t.0) (path_call-says w p t.1))
path_spelled-says w (v ∷ u ∷ ws) c h = absurd (none-some c h)

pair_spelled-says : (w : PairWord) (ws : List (List ℕ)) (c : Call) → pair_spelled w ws ≡ Some c → Says (pair_name w ∷ ws) c
pair_spelled-says w [] c h = absurd (none-some c h)
pair_spelled-says w (v ∷ []) c h = absurd (none-some c h)
pair_spelled-says w (v ∷ u ∷ []) c h =
    chained (Says (pair_name w ∷ v ∷ u ∷ [])) _ (path_text v) c h
    (λ p e g. mapped (Says (pair_name w ∷ v ∷ u ∷ [])) (pair_call w p) (path_text u) c g
    (λ q d.
    let t = path_said v p e in
    let s = path_said u q d in
    subst (λ x. Says (pair_name w ∷ x ∷ u ∷ []) (pair_call w p q)) (sym t.0)
    (subst (λ x. Says (pair_name w ∷ p ∷ x ∷ []) (pair_call w p q)) (sym s.0) (pair_call-says w p q t.1 s.1))))
pair_spelled-says w (v ∷ u ∷ x ∷ ws) c h = absurd (none-some c h)

truncate-says : (w s p : List ℕ) (size : ℕ) → w ≡ p → IsPathText p → numeral s ≡ Some size → Says (codes "truncate" ∷ w ∷ s ∷ []) (calls.Truncate p size)
truncate-says w s p size same is h f =
    let below = ltb-true size OFFSETS f in
    ((is, below), ap₂ (λ (x y : List ℕ). codes "truncate" ∷ x ∷ y ∷ []) same (decimal-numeral s size h (omega (arith, below))))

truncate_spelled-says : (ws : List (List ℕ)) (c : Call) → truncate_spelled ws ≡ Some c → Says (codes "truncate" ∷ ws) c
truncate_spelled-says [] c h = absurd (none-some c h)
truncate_spelled-says (v ∷ []) c h = absurd (none-some c h)
truncate_spelled-says (v ∷ s ∷ []) c h =
    chained (Says (codes "truncate" ∷ v ∷ s ∷ [])) _ (path_text v) c h
    (λ p e g. mapped (Says (codes "truncate" ∷ v ∷ s ∷ [])) (calls.Truncate p) (numeral s) c g
    (λ size d. let t = path_said v p e in truncate-says v s p size t.0 t.1 d))
truncate_spelled-says (v ∷ s ∷ x ∷ ws) c h = absurd (none-some c h)

-- ---- calls on a place

-- the words behind a first word, a path and an offset
abbrev SaysAt : PlaceWord → List ℕ → List ℕ → List ℕ → List (List ℕ) → Call → Type 0
SaysAt w v o p ws c = v ≡ p → IsPathText p → Says (place_name w ∷ v ∷ o ∷ ws) c

write-says : (v o n h p : List ℕ) (off len value : ℕ) → numeral o ≡ Some off → numeral n ≡ Some len → hex_byte h ≡ Some value → SaysAt places.Write v o p (n ∷ h ∷ []) (calls.Write p off len value)
write-says v o n h p off len value eo en eh same is f =
    let t = and_parts (nat_lt off OFFSETS) (length_fits len) f in
    let range = range_fits off len t.0 t.1 in
    let below = range.below in
    let most = range.most in (
      (is, range, hex_byte-small h value eh),
      ap₂ (λ (x y : List ℕ). codes "write" ∷ x ∷ y ∷ n ∷ h ∷ []) same (decimal-numeral o off eo (omega (arith, below)))
          ∙ ap₂ (λ (x y : List ℕ). codes "write" ∷ p ∷ decimal off ∷ x ∷ y ∷ []) (decimal-numeral n len en (omega (arith, most))) (hex_text-byte h value eh),
    )

bytes-says : (v o h p bytes : List ℕ) (off : ℕ) → numeral o ≡ Some off → hex_text h ≡ Some bytes → SaysAt places.Bytes v o p (h ∷ []) (calls.Bytes p off bytes)
bytes-says v o h p bytes off eo eh same is f =
    let below = ltb-true off OFFSETS f in
    let hex = IsHex-hex_text h bytes eh in (
      (is, below, hex.are),
      ap₂ (λ (x y : List ℕ). codes "bytes" ∷ x ∷ y ∷ map lowered h ∷ []) same (decimal-numeral o off eo (omega (arith, below)))
          ∙ ap (λ (x : List ℕ). codes "bytes" ∷ p ∷ decimal off ∷ x ∷ []) hex.lower,
    )

read-says : (v o n p : List ℕ) (off len : ℕ) → numeral o ≡ Some off → numeral n ≡ Some len → SaysAt places.Read v o p (n ∷ []) (calls.Read p off len)
read-says v o n p off len eo en same is f =
    let t = and_parts (nat_lt off OFFSETS) (length_fits len) f in
    let range = range_fits off len t.0 t.1 in
    let below = range.below in
    let most = range.most in (
      (is, range),
      ap₂ (λ (x y : List ℕ). codes "read" ∷ x ∷ y ∷ n ∷ []) same (decimal-numeral o off eo (omega (arith, below)))
          ∙ ap (λ (x : List ℕ). codes "read" ∷ p ∷ decimal off ∷ x ∷ []) (decimal-numeral n len en (omega (arith, most))),
    )

write_at-says : (v o p : List ℕ) (off : ℕ) (ws : List (List ℕ)) (c : Call) → numeral o ≡ Some off → write_at p off ws ≡ Some c → SaysAt places.Write v o p ws c
write_at-says v o p off [] c eo h = absurd (none-some c h)
write_at-says v o p off (n ∷ []) c eo h = absurd (none-some c h)
write_at-says v o p off (n ∷ b ∷ []) c eo h =
    chained (SaysAt places.Write v o p (n ∷ b ∷ [])) _ (numeral n) c h
    (λ len en g. mapped (SaysAt places.Write v o p (n ∷ b ∷ [])) (calls.Write p off len) (hex_byte b) c g
    (λ value eh. write-says v o n b p off len value eo en eh))
write_at-says v o p off (n ∷ b ∷ x ∷ ws) c eo h = absurd (none-some c h)

bytes_at-says : (v o p : List ℕ) (off : ℕ) (ws : List (List ℕ)) (c : Call) → numeral o ≡ Some off → bytes_at p off ws ≡ Some c → SaysAt places.Bytes v o p ws c
bytes_at-says v o p off [] c eo h = absurd (none-some c h)
bytes_at-says v o p off (d ∷ []) c eo h = mapped (SaysAt places.Bytes v o p (d ∷ [])) (calls.Bytes p off) (hex_text d) c h (λ bytes eh. bytes-says v o d p bytes off eo eh)
bytes_at-says v o p off (d ∷ x ∷ ws) c eo h = absurd (none-some c h)

read_at-says : (v o p : List ℕ) (off : ℕ) (ws : List (List ℕ)) (c : Call) → numeral o ≡ Some off → read_at p off ws ≡ Some c → SaysAt places.Read v o p ws c
read_at-says v o p off [] c eo h = absurd (none-some c h)
read_at-says v o p off (n ∷ []) c eo h = mapped (SaysAt places.Read v o p (n ∷ [])) (calls.Read p off) (numeral n) c h (λ len en. read-says v o n p off len eo en)
read_at-says v o p off (n ∷ x ∷ ws) c eo h = absurd (none-some c h)

call_at-says : (w : PlaceWord) (v o p : List ℕ) (off : ℕ) (ws : List (List ℕ)) (c : Call) → numeral o ≡ Some off → call_at w p off ws ≡ Some c → SaysAt w v o p ws c
call_at-says places.Write v o p off ws c eo h = write_at-says v o p off ws c eo h
call_at-says places.Bytes v o p off ws c eo h = bytes_at-says v o p off ws c eo h
call_at-says places.Read v o p off ws c eo h = read_at-says v o p off ws c eo h

place_spelled-says : (w : PlaceWord) (ws : List (List ℕ)) (c : Call) → place_spelled w ws ≡ Some c → Says (place_name w ∷ ws) c
place_spelled-says w [] c h = absurd (none-some c h)
place_spelled-says w (v ∷ []) c h = absurd (none-some c h)
place_spelled-says w (v ∷ o ∷ ws) c h =
    chained (Says (place_name w ∷ v ∷ o ∷ ws)) _ (path_text v) c h
    (λ p e g. chained (Says (place_name w ∷ v ∷ o ∷ ws)) _ (numeral o) c g
    (λ off eo d. let t = path_said v p e in call_at-says w v o p off ws c eo d t.0 t.1))

-- ---- all calls

sync_spelled-says : (ws : List (List ℕ)) (c : Call) → sync_spelled ws ≡ Some c → Says (codes "sync" ∷ ws) c
sync_spelled-says [] c h = subst (Says (codes "sync" ∷ [])) (same_Some calls.Sync c h) (λ f. (tt, refl))
sync_spelled-says (v ∷ ws) c h = absurd (none-some c h)

call_spelled-says : (w : CallWord) (ws : List (List ℕ)) (c : Call) → call_spelled w ws ≡ Some c → Says (call_name w ∷ ws) c
call_spelled-says (word.OfPath w) ws c h = path_spelled-says w ws c h
call_spelled-says (word.OfPair w) ws c h = pair_spelled-says w ws c h
call_spelled-says (word.OfPlace w) ws c h = place_spelled-says w ws c h
call_spelled-says word.Truncate ws c h = truncate_spelled-says ws c h
call_spelled-says word.Sync ws c h = sync_spelled-says ws c h

taken_within : (c d : Call) (fits : Bool) → call_fits c ≡ fits → (if fits then Ok c else Err faults.Number) ≡ Ok d → (c ≡ d) × (call_fits c ≡ true)
taken_within c d true e h = let same : c ≡ d = cc in (same, e)
taken_within c d false e h = cc

taken-says : (ws : List (List ℕ)) (o : Option Call) (c : Call) → call_taken o ≡ Ok c → ((d : Call) → o ≡ Some d → Says ws d) → IsWellFormed c × (with_lower_digits ws ≡ call_words c)
taken-says ws None c h says = cc
taken-says ws (Some d) c h says =
    let t = taken_within d c (call_fits d) refl h in
    subst (λ x. IsWellFormed x × (with_lower_digits ws ≡ call_words x)) t.0 (says d refl t.1)

line_after-says : (w : List ℕ) (ws : List (List ℕ)) (o : Option CallWord) (c : Call) → call_word w ≡ o → line_after o ws ≡ Ok c → IsWellFormed c × (with_lower_digits (w ∷ ws) ≡ call_words c)
line_after-says w ws None c e h = cc
line_after-says w ws (Some v) c e h =
    subst (λ x. IsWellFormed c × (with_lower_digits (x ∷ ws) ≡ call_words c)) (sym (call_named w v e))
    (taken-says (call_name v ∷ ws) (call_spelled v ws) c h (call_spelled-says v ws))

pub line_of-says : (ws : List (List ℕ)) (c : Call) → line_of ws ≡ Ok c → IsWellFormed c × (with_lower_digits ws ≡ call_words c)
line_of-says [] c h = cc
line_of-says (w ∷ ws) c h = line_after-says w ws (call_word w) c refl h
