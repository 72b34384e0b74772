-- Words with one byte between each two, and lines with a line feed behind each, are cut where they were joined.
use Rattle.std.proofs.Common.{◌≡◌, ℕ, ◌-◌, Bool, true, false, not, ◌&&◌, ◌==◌, List, [], ◌∷◌, ◌++◌, length, take, map, All, refl, sym, ap, append-nil, ◌∙◌, arith, length-append, take_at, append_assoc, if◌then◌else◌, slice_get, Some}
use Rattle.std.specs.List.{slice_split, join_with_byte, list_all}
use Rattle.std.specs.Option.{option_map_or}
use Rattle.std.proofs.lemmas.Bool.{and_parts, and_from, not-true, eq-eqb, ne_eqb}
use Rattle.std.proofs.lemmas.List.Elements.{All-nil, All-cons}
use Rattle.std.proofs.lemmas.List.Splits.{slice_split_none, slice_split_at}
use Rattle.script_words.specs.Spelling.{lines_of, words_of, ends_in_feed, without_last_feed}
use Rattle.script_words.specs.laws.Texts.{lines_text}

-- ---- words without a byte

-- the byte c does not stand in the word
abbrev pub lacks : ℕ → List ℕ → Bool
lacks c w = list_all (λ b. not (b == c)) w

-- it stands in none of the words
abbrev all_lack : ℕ → List (List ℕ) → Bool
all_lack c [] = true
all_lack c (w ∷ ws) = lacks c w && all_lack c ws

lacks-append : (c : ℕ) (v w : List ℕ) → lacks c v ≡ true → lacks c w ≡ true → lacks c (v ++ w) ≡ true
lacks-append c [] w hv hw = hw
lacks-append c (b ∷ bs) w hv hw =
    let p = and_parts (not (b == c)) (lacks c bs) hv in
    and_from _ _ p.0 (lacks-append c bs w p.1 hw)

All-from_lacks : (c : ℕ) (w : List ℕ) → lacks c w ≡ true → All (λ b. (b == c) ≡ false) w
All-from_lacks c [] h = All-nil (λ b. (b == c) ≡ false)
All-from_lacks c (b ∷ bs) h =
    let p = and_parts (not (b == c)) (lacks c bs) h in
    All-cons (λ x. (x == c) ≡ false) b bs (not-true (b == c) p.0) (All-from_lacks c bs p.1)

-- words joined by a byte lack another one
lacks-join : (c d : ℕ) (ws : List (List ℕ)) → (c == d) ≡ false → all_lack d ws ≡ true → lacks d (join_with_byte c ws) ≡ true
lacks-join c d [] ne h = refl
lacks-join c d (w ∷ []) ne h = (and_parts (lacks d w) _ h).0
lacks-join c d (w ∷ v ∷ vs) ne h =
    let p = and_parts (lacks d w) _ h in
    lacks-append d w (c ∷ join_with_byte c (v ∷ vs)) p.0 (rw ne (lacks-join c d (v ∷ vs) ne p.1))

-- neither a line feed nor a space stands in the word
pub record IsClear (w : List ℕ) : Type 0 where
  pub feed : lacks 10 w ≡ true
  pub space : lacks 32 w ≡ true

abbrev pub AreClear : List (List ℕ) → Type 0
AreClear [] = Unit {0}
AreClear (w ∷ ws) = IsClear w × AreClear ws

abbrev pub AreClearLines : List (List (List ℕ)) → Type 0
AreClearLines [] = Unit {0}
AreClearLines (l ∷ ls) = AreClear l × AreClearLines ls

feeds : (ws : List (List ℕ)) → AreClear ws → all_lack 10 ws ≡ true
feeds [] h = refl
feeds (w ∷ ws) h = and_from _ _ h.0.feed (feeds ws h.1)

spaces : (ws : List (List ℕ)) → AreClear ws → all_lack 32 ws ≡ true
spaces [] h = refl
spaces (w ∷ ws) h = and_from _ _ h.0.space (spaces ws h.1)

-- ---- cut where they were joined

split_joined : (c : ℕ) (w : List ℕ) (ws : List (List ℕ)) → all_lack c (w ∷ ws) ≡ true → slice_split (λ b. b == c) (join_with_byte c (w ∷ ws)) ≡ w ∷ ws
split_joined c w [] h = slice_split_none (λ b. b == c) w (All-from_lacks c w (and_parts (lacks c w) _ h).0)
split_joined c w (v ∷ vs) h =
    let p = and_parts (lacks c w) _ h in
    slice_split_at (λ b. b == c) w c (join_with_byte c (v ∷ vs)) (All-from_lacks c w p.0) (eq-eqb c c refl) ∙ ap (λ x. w ∷ x) (split_joined c v vs p.1)

-- the words of a line
pub words_of-joined : (w : List ℕ) (ws : List (List ℕ)) → AreClear (w ∷ ws) → words_of (join_with_byte 32 (w ∷ ws)) ≡ w ∷ ws
words_of-joined w ws h = split_joined 32 w ws (spaces (w ∷ ws) h)

-- ---- lines

-- the text is the lines, joined by line feeds, and one more
lines_text-joined : (l : List (List ℕ)) (ls : List (List (List ℕ))) → lines_text (l ∷ ls) ≡ join_with_byte 10 (map (join_with_byte 32) (l ∷ ls)) ++ 10 ∷ []
unfolding lines_text
lines_text-joined l [] = append-nil (join_with_byte 32 l ++ 10 ∷ [])
lines_text-joined l (m ∷ ms) =
    append_assoc (join_with_byte 32 l) (10 ∷ []) (lines_text (m ∷ ms)) ∙ ap (λ x. join_with_byte 32 l ++ 10 ∷ x) (lines_text-joined m ms) ∙ sym (append_assoc (join_with_byte 32 l) (10 ∷ join_with_byte 10 (map (join_with_byte 32) (m ∷ ms))) (10 ∷ []))

-- the last of a list
slice_get-last : (xs : List ℕ) (y : ℕ) → slice_get (xs ++ y ∷ []) (length xs) ≡ Some y
slice_get-last [] y = refl
slice_get-last (x ∷ xs) y = slice_get-last xs y

length-last : (xs : List ℕ) (y : ℕ) → length (xs ++ y ∷ []) - 1 ≡ length xs
length-last xs y = omega (arith, length-append xs (y ∷ []))

ends_in_feed-last : (xs : List ℕ) → ends_in_feed (xs ++ 10 ∷ []) ≡ true
ends_in_feed-last xs =
    ap (λ n. option_map_or (λ b. b == 10) (slice_get (xs ++ 10 ∷ []) n) false) (length-last xs 10)
    ∙ ap (λ o. option_map_or (λ b. b == 10) o false) (slice_get-last xs 10)

without_last_feed-last : (xs : List ℕ) → without_last_feed (xs ++ 10 ∷ []) ≡ xs
without_last_feed-last xs =
    ap (λ t. if t then take (length (xs ++ 10 ∷ []) - 1) (xs ++ 10 ∷ []) else (xs ++ 10 ∷ [])) (ends_in_feed-last xs)
    ∙ ap (λ n. take n (xs ++ 10 ∷ [])) (length-last xs 10)
    ∙ take_at xs (10 ∷ []) (length xs) refl

some_length : (xs : List ℕ) (y : ℕ) → (length (xs ++ y ∷ []) == 0) ≡ false
some_length xs y = ne_eqb (length (xs ++ y ∷ [])) 0 (λ e. omega (arith, length-append xs (y ∷ [])))

lines_of-fed : (xs : List ℕ) → lines_of (xs ++ 10 ∷ []) ≡ slice_split (λ b. b == 10) xs
lines_of-fed xs =
    ap (λ t. if t then [] else slice_split (λ b. b == 10) (without_last_feed (xs ++ 10 ∷ []))) (some_length xs 10)
    ∙ ap (slice_split (λ b. b == 10)) (without_last_feed-last xs)

all_lack-lines : (ls : List (List (List ℕ))) → AreClearLines ls → all_lack 10 (map (join_with_byte 32) ls) ≡ true
all_lack-lines [] h = refl
all_lack-lines (l ∷ ls) h = and_from _ _ (lacks-join 32 10 l refl (feeds l h.0)) (all_lack-lines ls h.1)

-- the lines of a text are what was written
pub lines_of-text : (l : List (List ℕ)) (ls : List (List (List ℕ))) → AreClearLines (l ∷ ls) → lines_of (lines_text (l ∷ ls)) ≡ map (join_with_byte 32) (l ∷ ls)
lines_of-text l ls h =
    ap lines_of (lines_text-joined l ls)
    ∙ lines_of-fed (join_with_byte 10 (map (join_with_byte 32) (l ∷ ls)))
    ∙ split_joined 10 (join_with_byte 32 l) (map (join_with_byte 32) ls) (all_lack-lines (l ∷ ls) h)
