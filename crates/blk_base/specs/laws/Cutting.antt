-- Bytes are their whole blocks, one after the other, and a last part that is shorter than a block; and no other blocks and
-- part are such.
use Rattle.std.specs.Prelude.{◌≡◌, ℕ, zero, suc, ◌+◌, ◌*◌, ◌/◌, ◌<◌, ◌≤◌, List, [], ◌∷◌, ◌++◌, length, take, drop, map}
use Rattle.std.specs.List.{All, concat, range_with_len}
use Rattle.std.proofs.Common.{refl, sym, ap, ◌∙◌, arith, append_assoc, append-nil, get_or, take-append-drop, drop-drop, length-append, length-drop}
use Rattle.std.proofs.lemmas.List.{take-append-le, take_all, drop_at, length-take-le}
use Rattle.std.proofs.lemmas.List.FromFn.{length-map-range_with_len, get_or-map-range_with_len, map-range_with_len_more, fill_by_all}
use Rattle.std.proofs.lemmas.List.Elements.{All-head, All-tail, All-append}
use Rattle.std.proofs.lemmas.Nat.{div-mul-add}
use Rattle.blk_base.specs.Image.{bytes_at, whole_blocks, last_part}

-- the bytes are these blocks and this part behind them
pub record IsCut (bytes : List ℕ) (blocks : List (List ℕ)) (part : List ℕ) : Type 0 where
  pub all : bytes ≡ concat blocks ++ part
  pub whole : All (λ b. length b ≡ 1024) blocks
  pub under : length part < 1024

length-concat : (blocks : List (List ℕ)) → All (λ b. length b ≡ 1024) blocks → length (concat blocks) ≡ length blocks * 1024
length-concat [] whole = refl
length-concat (b ∷ bs) whole =
    let one = All-head (λ (x : List ℕ). length x ≡ 1024) b bs whole in
    let rest = length-concat bs (All-tail (λ (x : List ℕ). length x ≡ 1024) b bs whole) in
    let both = length-append b (concat bs) in
    omega (arith, one, rest, both)

concat-append : (xs ys : List (List ℕ)) → concat (xs ++ ys) ≡ concat xs ++ concat ys
concat-append [] ys = refl
concat-append (x ∷ xs) ys = ap (λ l. x ++ l) (concat-append xs ys) ∙ sym (append_assoc x (concat xs) (concat ys))

-- a part that is cut further
pub cut_more : (bytes more : List ℕ) (blocks on : List (List ℕ)) (part rest : List ℕ) → IsCut bytes blocks part → IsCut (part ++ more) on rest → IsCut (bytes ++ more) (blocks ++ on) rest
cut_more bytes more blocks on part rest first then = record {
  all =
      ap (λ l. l ++ more) first.all ∙ append_assoc (concat blocks) part more ∙ ap (λ l. concat blocks ++ l) then.all
      ∙ sym (append_assoc (concat blocks) (concat on) rest) ∙ ap (λ l. l ++ rest) (sym (concat-append blocks on));
  whole = All-append (λ b. length b ≡ 1024) blocks on first.whole then.whole;
  under = then.under;
}

take_front : (xs ys : List ℕ) (n : ℕ) → length xs ≡ n → take n (xs ++ ys) ≡ xs
take_front xs ys n long = take-append-le n xs ys (omega (arith, long)) ∙ take_all n xs (omega (arith, long))

drop_front : (xs ys : List ℕ) (n k : ℕ) → length xs ≡ n → drop (n + k) (xs ++ ys) ≡ drop k ys
drop_front xs ys n k long =
    sym (drop-drop k n (xs ++ ys)) ∙ ap (drop k) (drop_at xs ys n long)

-- a block stands where its number says
stands_at : (blocks : List (List ℕ)) (part : List ℕ) (k : ℕ) → All (λ b. length b ≡ 1024) blocks → k < length blocks → bytes_at (concat blocks ++ part) k ≡ get_or blocks k []
stands_at [] part k whole lt = absurd (omega (arith, lt))
stands_at (b ∷ bs) part zero whole lt =
    let one = All-head (λ (x : List ℕ). length x ≡ 1024) b bs whole in
    ap (take 1024) (append_assoc b (concat bs) part) ∙ take_front b (concat bs ++ part) 1024 one
stands_at (b ∷ bs) part (suc k) whole lt =
    let one = All-head (λ (x : List ℕ). length x ≡ 1024) b bs whole in
    let on : 1024 * suc k ≡ 1024 + 1024 * k = omega arith in
    ap (λ (n : ℕ). take 1024 (drop n ((b ++ concat bs) ++ part))) on
    ∙ ap (λ l. take 1024 (drop (1024 + 1024 * k) l)) (append_assoc b (concat bs) part)
    ∙ ap (take 1024) (drop_front b (concat bs ++ part) 1024 (1024 * k) one)
    ∙ stands_at bs part k (All-tail (λ (x : List ℕ). length x ≡ 1024) b bs whole) (omega (arith, lt))

-- no other blocks are such
pub cut_is_whole_blocks : (bytes : List ℕ) (blocks : List (List ℕ)) (part : List ℕ) → IsCut bytes blocks part → blocks ≡ whole_blocks bytes
cut_is_whole_blocks bytes blocks part cut =
    let long : length bytes ≡ length blocks * 1024 + length part =
    ap length cut.all ∙ length-append (concat blocks) part ∙ ap (λ (n : ℕ). n + length part) (length-concat blocks cut.whole) in
    let count : length bytes / 1024 ≡ length blocks = ap (λ (n : ℕ). n / 1024) long ∙ div-mul-add (length blocks) 1024 (length part) cut.under in
    fill_by_all (bytes_at bytes) blocks (length bytes / 1024) [] (sym count)
    (λ k lt. sym (ap (λ l. bytes_at l k) cut.all ∙ stands_at blocks part k cut.whole (omega (arith, count, lt))))

first_blocks : (bytes : List ℕ) (n : ℕ) → 1024 * n ≤ length bytes → bytes ≡ concat (map (bytes_at bytes) (range_with_len 0 n)) ++ drop (1024 * n) bytes
first_blocks bytes zero fits = refl
first_blocks bytes (suc n) fits =
    let before = first_blocks bytes n (omega (arith, fits)) in
    let blocks = map (bytes_at bytes) (range_with_len 0 n) in
    let rest = drop (1024 * n) bytes in
    let on : suc n ≡ n + 1 = omega arith in
    let next : 1024 * n + 1024 ≡ 1024 * suc n = omega arith in
    before
    ∙ ap (λ l. concat blocks ++ l) (sym (take-append-drop 1024 rest))
    ∙ sym (append_assoc (concat blocks) (take 1024 rest) (drop 1024 rest))
    ∙ ap (λ l. (concat blocks ++ l) ++ drop 1024 rest) (sym (append-nil (take 1024 rest)))
    ∙ ap (λ l. l ++ drop 1024 rest) (sym (concat-append blocks (bytes_at bytes n ∷ [])))
    ∙ ap (λ bs. concat bs ++ drop 1024 rest) (sym (ap (λ k. map (bytes_at bytes) (range_with_len 0 k)) on ∙ map-range_with_len_more (bytes_at bytes) 0 n n (omega arith)))
    ∙ ap (λ l. concat (map (bytes_at bytes) (range_with_len 0 (suc n))) ++ l) (drop-drop 1024 (1024 * n) bytes ∙ ap (λ (k : ℕ). drop k bytes) next)

-- the whole blocks and the last part are such
pub whole_blocks_are_cut : (bytes : List ℕ) → IsCut bytes (whole_blocks bytes) (last_part bytes)
whole_blocks_are_cut bytes =
    let n = length bytes / 1024 in
    let fits : 1024 * n ≤ length bytes = omega arith in
    record {
      all = first_blocks bytes n fits;
      whole = λ k d lt.
          let len = length-map-range_with_len (bytes_at bytes) 0 n in
          let here : k < n = omega (arith, len, lt) in
          let long = length-drop (1024 * k) bytes in
          ap length (get_or-map-range_with_len (bytes_at bytes) 0 n k k d here (omega arith))
          ∙ length-take-le 1024 (drop (1024 * k) bytes) (omega (arith, long, here, fits));
      under = let long = length-drop (1024 * n) bytes in omega (arith, long);
    }
