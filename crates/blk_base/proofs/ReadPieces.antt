-- An image that is read piece by piece.
use Rattle.std.proofs.Common.{◌≡◌, ℕ, ◌+◌, ◌-◌, ◌*◌, ◌/◌, ◌<◌, ◌≤◌, List, [], ◌++◌, length, take, drop, Option, Some, None, sym, ap, ap₂, take-add, ◌∙◌, arith, append-nil, length-append}
use Rattle.std.proofs.lemmas.List.{drop-take, length-take-le, take-append-le, take_all, take_at, drop_at, length-drop}
use Rattle.std.specs.Io.KnownBytes.{Consumes, IsAtEnd}
use Rattle.std.specs.List.{copy_within}
use Rattle.std.proofs.KnownBytes.{Consumes-trans}
use Rattle.blk_base.specs.Image.{whole_blocks, last_part, IsImageRead}
use Rattle.blk_base.specs.Streams.{Drained}
use Rattle.blk_base.specs.laws.Cutting.{IsCut, cut_more, cut_is_whole_blocks, whole_blocks_are_cut}

-- the bytes behind the whole blocks go to the front
pub moved : (xs : List ℕ) (held : ℕ) → held ≤ length xs → take (held - 1024 * (held / 1024)) (copy_within xs (1024 * (held / 1024)) held 0) ≡ last_part (take held xs)
moved xs held within =
    let whole = 1024 * (held / 1024) in
    let n = held - whole in
    let long : length (take held xs) ≡ held = length-take-le held xs within in
    let parts : held ≡ whole + n = omega arith in
    let rest : length (take n (drop whole xs)) ≡ n = let l = length-drop whole xs in length-take-le n (drop whole xs) (omega (arith, l, within, parts)) in
    take-append-le n (take n (drop whole xs)) (drop (0 + n) xs) (omega (arith, rest))
    ∙ take_all n (take n (drop whole xs)) (omega (arith, rest))
    ∙ sym (drop-take whole n xs)
    ∙ ap (λ (j : ℕ). drop whole (take j xs)) (sym parts)
    ∙ ap (λ (j : ℕ). drop (1024 * (j / 1024)) (take held xs)) (sym long)

-- what a read gives stands behind what is held
pub held_more : (xs ys post : List ℕ) (held n : ℕ) → held ≤ length xs → n ≤ length ys → take (held + n) (take held xs ++ (ys ++ post)) ≡ take held xs ++ take n ys
held_more xs ys post held n within fits =
    let front = take held xs in
    let len : length front ≡ held = length-take-le held xs within in
    take-add held n (front ++ (ys ++ post))
    ∙ ap₂ (λ (k l : List ℕ). k ++ take n l) (take_at front (ys ++ post) held len) (drop_at front (ys ++ post) held len)
    ∙ ap (λ l. front ++ l) (take-append-le n ys post fits)

-- So many bytes were read, and room is for so many more: the blocks are the whole ones of them, and the part is behind these.
pub record IsReadOn (most room : ℕ) (old now : Option (List ℕ)) (blocks : List (List ℕ)) (part : List ℕ) : Type 0 where
  pub bytes : List ℕ
  pub consumed : Consumes old now bytes
  pub counted : length bytes + room ≡ most
  pub cut : IsCut bytes blocks part

pub read_more : (most room n : ℕ) (old now new : Option (List ℕ)) (blocks on : List (List ℕ)) (part more rest : List ℕ) → IsReadOn most room old now blocks part
    → Consumes now new more → length more ≡ n → n ≤ room → on ≡ blocks ++ whole_blocks (part ++ more) → rest ≡ last_part (part ++ more)
    → IsReadOn most (room - n) old new on rest
read_more most room n old now new blocks on part more rest read takes long fits cut left = record {
  bytes = read.bytes ++ more;
  consumed = Consumes-trans old now new read.bytes more read.consumed takes;
  counted = let both = length-append read.bytes more in let before = read.counted in omega (arith, both, before, long, fits);
  cut = rw (cut, left) (cut_more read.bytes more blocks (whole_blocks (part ++ more)) part (last_part (part ++ more)) read.cut (whole_blocks_are_cut (part ++ more)));
}

drained : (old now new : Option (List ℕ)) (bytes : List ℕ) → Consumes old now bytes → Consumes now new [] → IsAtEnd new → Drained old new bytes
drained None now new bytes first then end = tt
drained (Some left) None new bytes first then end = absurd first
drained (Some left) (Some rest) None bytes first then end = absurd then
drained (Some left) (Some rest) (Some none) bytes first then end =
    (sym (first ∙ ap (λ l. bytes ++ l) (then ∙ end) ∙ append-nil bytes), end)

pub read_all_of : (most room : ℕ) (old now new : Option (List ℕ)) (blocks : List (List ℕ)) (part : List ℕ) → IsReadOn most room old now blocks part
    → Consumes now new [] → IsAtEnd new → IsImageRead most old new blocks
read_all_of most room old now new blocks part read none end = record {
  bytes = read.bytes;
  drained = drained old now new read.bytes read.consumed none end;
  short = let c = read.counted in omega (arith, c);
  whole = cut_is_whole_blocks read.bytes blocks part read.cut;
}

pub read_too_much : (most room : ℕ) (old now new : Option (List ℕ)) (blocks : List (List ℕ)) (part more : List ℕ) → IsReadOn most room old now blocks part
    → Consumes now new more → room < length more → (bytes : List ℕ) × (most < length bytes) × Consumes old new bytes
read_too_much most room old now new blocks part more read takes over = (
  read.bytes ++ more,
  (let both = length-append read.bytes more in let c = read.counted in omega (arith, both, c, over)),
  Consumes-trans old now new read.bytes more read.consumed takes,
)
