-- A call is read as it was spelled.
use Rattle.std.proofs.Common.{◌≡◌, ℕ, ◌<◌, Bool, true, false, nat_lt, nat_le, ◌==◌, if◌then◌else◌, List, [], ◌∷◌, length, codes, decimal, map, Some, None, Ok, Err, refl, sym, ap, ◌∙◌, arith}
use Rattle.std.specs.Option.{option_and_then, option_map}
use Rattle.std.specs.Str.{bytes_eq}
use Rattle.std.proofs.lemmas.Bool.{and_from, le-leb, lt-ltb}
use Rattle.byte_text.specs.Hex as byte
use Rattle.hex.specs.Hex.{encode_lower}
use Rattle.tree_model.specs.declared.call.Call.{Call}
use Rattle.tree_model.specs.declared.call.Call.TheVariants as calls
use Rattle.script_words.specs.declared.line_error.LineFault.TheVariants as faults
use Rattle.line_grammar.specs.declared.calls.limits.TheConstants.{MOST_LENGTH, OFFSETS}
use Rattle.line_grammar.specs.declared.calls.words.PathWord.{PathWord}
use Rattle.line_grammar.specs.declared.calls.words.PathWord.TheVariants as paths
use Rattle.line_grammar.specs.declared.calls.words.PairWord.{PairWord}
use Rattle.line_grammar.specs.declared.calls.words.PairWord.TheVariants as pairs
use Rattle.line_grammar.specs.declared.calls.words.PlaceWord.{PlaceWord}
use Rattle.line_grammar.specs.declared.calls.words.PlaceWord.TheVariants as places
use Rattle.line_grammar.specs.declared.calls.words.CallWord.TheVariants as word
use Rattle.line_grammar.specs.calls.CallLines.{path_text, path_call, pair_call, call_at, length_fits, call_fits, call_taken, call_of}
use Rattle.line_grammar.specs.calls.WellFormed.{IsPathText, IsRange, AreBytes, IsWellFormed}
use Rattle.line_grammar.specs.calls.laws.Speller.{call_words, with_lower_digits, lowered, line_of}
use Rattle.line_grammar.proofs.CallsLemmas.Hexadecimal.{hex_text-read, lowered-written}
use Rattle.script_words.specs.Spelling.{numeral, hex_byte}
use Rattle.script_words.proofs.SpelledNumbers.{numeral-decimal, hex_byte-text}

-- ---- paths, and numbers within their limits

path_read : (p : List ℕ) → IsPathText p → path_text p ≡ Some p
path_read p is = ap (λ t. if t then Some p else None) is

taken_read : (c : Call) → call_fits c ≡ true → call_taken (Some c) ≡ Ok c
taken_read c f = ap (λ t. if t then Ok c else Err faults.Number) f

range_fits : (off len : ℕ) → IsRange off len → (nat_lt off OFFSETS ≡ true) × (length_fits len ≡ true)
range_fits off len is = (
  lt-ltb off OFFSETS is.below,
  and_from (nat_le 1 len) (nat_le len MOST_LENGTH) (le-leb 1 len is.some) (le-leb len MOST_LENGTH is.most),
)

-- ---- each form of call

path_call-fits : (w : PathWord) (p : List ℕ) → call_fits (path_call w p) ≡ true
path_call-fits paths.Mkdir p = refl
path_call-fits paths.Rmdir p = refl
path_call-fits paths.Create p = refl
path_call-fits paths.Unlink p = refl
path_call-fits paths.List p = refl
path_call-fits paths.Stat p = refl
path_call-fits paths.Fsync p = refl
path_call-fits paths.Fdatasync p = refl
path_call-fits paths.Fbarrier p = refl
path_call-fits paths.Fdatabarrier p = refl

pair_call-fits : (w : PairWord) (p q : List ℕ) → call_fits (pair_call w p q) ≡ true
pair_call-fits pairs.Link p q = refl
pair_call-fits pairs.Rename p q = refl

path_call-read : (w : PathWord) (p : List ℕ) → IsPathText p → call_of (word.OfPath w) (p ∷ []) ≡ Ok (path_call w p)
path_call-read w p is = ap (λ o. call_taken (option_map (path_call w) o)) (path_read p is) ∙ taken_read (path_call w p) (path_call-fits w p)

pair_call-read : (w : PairWord) (p q : List ℕ) → IsPathText p → IsPathText q → call_of (word.OfPair w) (p ∷ q ∷ []) ≡ Ok (pair_call w p q)
pair_call-read w p q is other =
    ap (λ o. call_taken (option_and_then (λ path. option_map (pair_call w path) (path_text q)) o)) (path_read p is)
    ∙ ap (λ o. call_taken (option_map (pair_call w p) o)) (path_read q other)
    ∙ taken_read (pair_call w p q) (pair_call-fits w p q)

truncate-read : (p : List ℕ) (size : ℕ) → IsPathText p → size < OFFSETS → call_of word.Truncate (p ∷ decimal size ∷ []) ≡ Ok (calls.Truncate p size)
truncate-read p size is below =
    ap (λ o. call_taken (option_and_then (λ path. option_map (calls.Truncate path) (numeral (decimal size))) o)) (path_read p is)
    ∙ ap (λ o. call_taken (option_map (calls.Truncate p) o)) (numeral-decimal size (omega (arith, below)))
    ∙ taken_read (calls.Truncate p size) (lt-ltb size OFFSETS below)

-- ---- calls on a place

place-read : (w : PlaceWord) (p : List ℕ) (off : ℕ) (ws : List (List ℕ)) → IsPathText p → off < OFFSETS → call_of (word.OfPlace w) (p ∷ decimal off ∷ ws) ≡ call_taken (call_at w p off ws)
place-read w p off ws is below =
    ap (λ o. call_taken (option_and_then (λ path. option_and_then (λ n. call_at w path n ws) (numeral (decimal off))) o)) (path_read p is)
    ∙ ap (λ o. call_taken (option_and_then (λ n. call_at w p n ws) o)) (numeral-decimal off (omega (arith, below)))

write-read : (p : List ℕ) (off len value : ℕ) → IsPathText p → IsRange off len → value < 256 → call_of (word.OfPlace places.Write) (p ∷ decimal off ∷ decimal len ∷ byte.hex_text value ∷ []) ≡ Ok (calls.Write p off len value)
write-read p off len value is range small =
    let f = range_fits off len range in
    let most = range.most in
    place-read places.Write p off (decimal len ∷ byte.hex_text value ∷ []) is range.below
    ∙ ap (λ o. call_taken (option_and_then (λ n. option_map (calls.Write p off n) (hex_byte (byte.hex_text value))) o)) (numeral-decimal len (omega (arith, most)))
    ∙ ap (λ o. call_taken (option_map (calls.Write p off len) o)) (hex_byte-text value small)
    ∙ taken_read (calls.Write p off len value) (and_from (nat_lt off OFFSETS) (length_fits len) f.0 f.1)

bytes-read : (p h bytes : List ℕ) (off : ℕ) → IsPathText p → off < OFFSETS → AreBytes bytes → map lowered h ≡ encode_lower bytes → call_of (word.OfPlace places.Bytes) (p ∷ decimal off ∷ h ∷ []) ≡ Ok (calls.Bytes p off bytes)
bytes-read p h bytes off is below are same =
    place-read places.Bytes p off (h ∷ []) is below
    ∙ ap (λ o. call_taken (option_map (calls.Bytes p off) o)) (hex_text-read h bytes are same)
    ∙ taken_read (calls.Bytes p off bytes) (lt-ltb off OFFSETS below)

read-read : (p : List ℕ) (off len : ℕ) → IsPathText p → IsRange off len → call_of (word.OfPlace places.Read) (p ∷ decimal off ∷ decimal len ∷ []) ≡ Ok (calls.Read p off len)
read-read p off len is range =
    let f = range_fits off len range in
    let most = range.most in
    place-read places.Read p off (decimal len ∷ []) is range.below
    ∙ ap (λ o. call_taken (option_map (calls.Read p off) o)) (numeral-decimal len (omega (arith, most)))
    ∙ taken_read (calls.Read p off len) (and_from (nat_lt off OFFSETS) (length_fits len) f.0 f.1)

-- ---- digits in upper case

four_else : (w p o h : List ℕ) (bytes : Bool) (vs : List (List ℕ)) → (if bytes then w ∷ p ∷ o ∷ map lowered h ∷ [] else w ∷ p ∷ o ∷ h ∷ []) ≡ vs → (length vs == 4) ≡ true
four_else w p o h true vs e = ap (λ l. length l == 4) (sym e)
four_else w p o h false vs e = ap (λ l. length l == 4) (sym e)

-- no line but one of four words is changed
pub unchanged : (ws vs : List (List ℕ)) → (length vs == 4) ≡ false → with_lower_digits ws ≡ vs → ws ≡ vs
unchanged [] vs n h = h
unchanged (w ∷ []) vs n h = h
unchanged (w ∷ p ∷ []) vs n h = h
unchanged (w ∷ p ∷ o ∷ []) vs n h = h
unchanged (w ∷ p ∷ o ∷ x ∷ []) vs n h = let e = four_else w p o x (bytes_eq w (codes "bytes")) vs h in cc
unchanged (w ∷ p ∷ o ∷ x ∷ y ∷ ws) vs n h = h

abbrev pub lower_if : Bool → List ℕ → List ℕ
lower_if true h = map lowered h
lower_if false h = h

pub record IsFour (ws : List (List ℕ)) (w p o h : List ℕ) : Type 0 where
  pub digits : List ℕ
  pub whole : ws ≡ w ∷ p ∷ o ∷ digits ∷ []
  pub lower : lower_if (bytes_eq w (codes "bytes")) digits ≡ h

four_chosen : (a b c d w p o h : List ℕ) (bytes : Bool) → bytes_eq a (codes "bytes") ≡ bytes → (if bytes then a ∷ b ∷ c ∷ map lowered d ∷ [] else a ∷ b ∷ c ∷ d ∷ []) ≡ w ∷ p ∷ o ∷ h ∷ [] → IsFour (a ∷ b ∷ c ∷ d ∷ []) w p o h
four_chosen a b c d w p o h true t e =
    let first : a ≡ w = cc in
    let second : b ≡ p = cc in
    let third : c ≡ o = cc in
    let last : map lowered d ≡ h = cc in
    record {
      digits = d;
      whole = rw (first, second, third) refl;
      lower = ap (λ x. lower_if (bytes_eq x (codes "bytes")) d) (sym first) ∙ ap (λ x. lower_if x d) t ∙ last;
    }
four_chosen a b c d w p o h false t e =
    let first : a ≡ w = cc in
    let second : b ≡ p = cc in
    let third : c ≡ o = cc in
    let last : d ≡ h = cc in
    record {
      digits = d;
      whole = rw (first, second, third) refl;
      lower = ap (λ x. lower_if (bytes_eq x (codes "bytes")) d) (sym first) ∙ ap (λ x. lower_if x d) t ∙ last;
    }

pub IsFour-lowered : (ws : List (List ℕ)) (w p o h : List ℕ) → with_lower_digits ws ≡ w ∷ p ∷ o ∷ h ∷ [] → IsFour ws w p o h
IsFour-lowered [] w p o h e = cc
IsFour-lowered (a ∷ []) w p o h e = cc
IsFour-lowered (a ∷ b ∷ []) w p o h e = cc
IsFour-lowered (a ∷ b ∷ c ∷ []) w p o h e = cc
IsFour-lowered (a ∷ b ∷ c ∷ d ∷ []) w p o h e = four_chosen a b c d w p o h (bytes_eq a (codes "bytes")) refl e
IsFour-lowered (a ∷ b ∷ c ∷ d ∷ x ∷ ws) w p o h e = cc

-- ---- all calls

unchanged_read : (ws vs : List (List ℕ)) (c : Call) → (length vs == 4) ≡ false → with_lower_digits ws ≡ vs → line_of vs ≡ Ok c → line_of ws ≡ Ok c
unchanged_read ws vs c n h read = ap line_of (unchanged ws vs n h) ∙ read

pub line_of-read : (ws : List (List ℕ)) (c : Call) → IsWellFormed c → with_lower_digits ws ≡ call_words c → line_of ws ≡ Ok c
line_of-read ws (calls.Mkdir p) is h = unchanged_read ws _ (calls.Mkdir p) refl h (path_call-read paths.Mkdir p is)
line_of-read ws (calls.Rmdir p) is h = unchanged_read ws _ (calls.Rmdir p) refl h (path_call-read paths.Rmdir p is)
line_of-read ws (calls.Create p) is h = unchanged_read ws _ (calls.Create p) refl h (path_call-read paths.Create p is)
line_of-read ws (calls.Unlink p) is h = unchanged_read ws _ (calls.Unlink p) refl h (path_call-read paths.Unlink p is)
line_of-read ws (calls.Link p q) is h = unchanged_read ws _ (calls.Link p q) refl h (pair_call-read pairs.Link p q is.0 is.1)
line_of-read ws (calls.Rename p q) is h = unchanged_read ws _ (calls.Rename p q) refl h (pair_call-read pairs.Rename p q is.0 is.1)
line_of-read ws (calls.Truncate p size) is h = unchanged_read ws _ (calls.Truncate p size) refl h (truncate-read p size is.0 is.1)
line_of-read ws (calls.Write p off len value) is h = unchanged_read ws _ (calls.Write p off len value) refl h (write-read p off len value is.0 is.1 is.2)
line_of-read ws (calls.Bytes p off bytes) is h =
    let four = IsFour-lowered ws (codes "bytes") p (decimal off) (encode_lower bytes) h in
    ap line_of four.whole ∙ bytes-read p four.digits bytes off is.0 is.1 is.2 four.lower
line_of-read ws (calls.Read p off len) is h =
    let four = IsFour-lowered ws (codes "read") p (decimal off) (decimal len) h in
    ap line_of four.whole ∙ ap (λ (x : List ℕ). line_of (codes "read" ∷ p ∷ decimal off ∷ x ∷ [])) four.lower ∙ read-read p off len is.0 is.1
line_of-read ws (calls.List p) is h = unchanged_read ws _ (calls.List p) refl h (path_call-read paths.List p is)
line_of-read ws (calls.Stat p) is h = unchanged_read ws _ (calls.Stat p) refl h (path_call-read paths.Stat p is)
line_of-read ws (calls.Fsync p) is h = unchanged_read ws _ (calls.Fsync p) refl h (path_call-read paths.Fsync p is)
line_of-read ws (calls.Fdatasync p) is h = unchanged_read ws _ (calls.Fdatasync p) refl h (path_call-read paths.Fdatasync p is)
line_of-read ws (calls.Fbarrier p) is h = unchanged_read ws _ (calls.Fbarrier p) refl h (path_call-read paths.Fbarrier p is)
line_of-read ws (calls.Fdatabarrier p) is h = unchanged_read ws _ (calls.Fdatabarrier p) refl h (path_call-read paths.Fdatabarrier p is)
line_of-read ws calls.Sync is h = unchanged_read ws _ calls.Sync refl h refl

-- what the speller writes is in lower case
pub call_words-lower : (c : Call) → IsWellFormed c → with_lower_digits (call_words c) ≡ call_words c
call_words-lower (calls.Mkdir p) is = refl
call_words-lower (calls.Rmdir p) is = refl
call_words-lower (calls.Create p) is = refl
call_words-lower (calls.Unlink p) is = refl
call_words-lower (calls.Link p q) is = refl
call_words-lower (calls.Rename p q) is = refl
call_words-lower (calls.Truncate p size) is = refl
call_words-lower (calls.Write p off len value) is = refl
call_words-lower (calls.Bytes p off bytes) is = ap (λ (x : List ℕ). codes "bytes" ∷ p ∷ decimal off ∷ x ∷ []) (lowered-written bytes is.2.each)
call_words-lower (calls.Read p off len) is = refl
call_words-lower (calls.List p) is = refl
call_words-lower (calls.Stat p) is = refl
call_words-lower (calls.Fsync p) is = refl
call_words-lower (calls.Fdatasync p) is = refl
call_words-lower (calls.Fbarrier p) is = refl
call_words-lower (calls.Fdatabarrier p) is = refl
call_words-lower calls.Sync is = refl
