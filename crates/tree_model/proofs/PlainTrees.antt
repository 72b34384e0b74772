-- Each call keeps a tree plain and its births in order, and so does a history.
use Rattle.std.specs.Prelude.{◌≡◌, ◌<◌, ℕ, zero, suc, ◌+◌, ◌-◌, ◌⊎◌, Bool, true, false, if◌then◌else◌, nat_le, List, Option, Some, None, Result, Ok, Err, is_some, refl}
use Rattle.std.proofs.Common.{sym, ap, subst, ◌∙◌, inl, inr, ⊎_elim, arith}
use Rattle.std.specs.List.{slice_get}
use Rattle.std.specs.Map.{keys_of}
use Rattle.tree_model.proofs.Blocks.{target_stands}
use Rattle.std.specs.List.Sorted.{IsStrictlySortedBy}
use Rattle.std.proofs.lemmas.Bool.{false≢true}
use Rattle.std.proofs.lemmas.Option.{none-some}
use Rattle.tree_model.specs.declared.call.Call.{Call}
use Rattle.tree_model.specs.declared.call.Reply.{Reply}
use Rattle.tree_model.specs.declared.call.Room.{Room}
use Rattle.tree_model.specs.declared.node.Node.{Node}
use Rattle.tree_model.specs.declared.node.Node.TheVariants as nodes
use Rattle.tree_model.specs.declared.node.File.{File}
use Rattle.tree_model.specs.Maps.{at_number, at_name, name_cmp, put_number, without_number}
use Rattle.tree_model.specs.laws.Listing.{names_of}
use Rattle.tree_model.specs.Rooted.{IsRooted}
use Rattle.tree_model.specs.Calls.{Tree, Done, Row, Found, a_file, take_name, put_file, with_links, lose_link, without_target, stays, place_after, moved_node, tree_moved, outcome, tree_from, tree_after}
use Rattle.tree_model.specs.Plain.{IsPlain, AreBornBefore, names_to}
use Rattle.tree_model.specs.laws.Examples.{new_tree}
use Rattle.tree_model.specs.Histories.{Entry, tree_after_entry, tree_after_entries}
use Rattle.tree_model.specs.laws.MapOrder.{InOrder, at_put_cases, at_without_cases, in_order_put}
use Rattle.tree_model.proofs.Changes.{Change, stayed, made_directory, made_file, removed, unlinked, linked, renamed, written, written_bytes, truncated, outcome_change}
use Rattle.tree_model.proofs.Hanging.{IsReached, top}
use Rattle.tree_model.proofs.Plain.{IsOfWidth, edge_of, links_of, is_other, IsWhole, plain_whole, whole_plain}
use Rattle.tree_model.proofs.PlainCalls.{directory_is_new, file_is_new, made_whole}
use Rattle.tree_model.proofs.PlainNames.{put_whole, removed_whole, unlinked_whole, linked_whole}
use Rattle.tree_model.proofs.PlainMoves.{renamed_whole}

-- ---- one call

pub not_born : (tree : Tree) (n : ℕ) → AreBornBefore n tree → (o : Option Node) → at_number tree n ≡ o → o ≡ None
not_born tree n born None e = refl
not_born tree n born (Some node) e = absurd (let lt = born n node e in omega arith)

pub change_whole : (tree : Tree) (n : ℕ) (c : Call) (d : Done) → IsWhole tree → AreBornBefore n tree → Change tree n d c → IsWhole d.tree
change_whole tree n c d w born (stayed quiet same) = subst IsWhole (sym same) w
change_whole tree n _ d w born (made_directory parent h e g) =
    made_whole tree w n _ d h (not_born tree n born (at_number tree n) refl) (directory_is_new _ parent h.place.directory.width h.place.parent g.0 g.1)
change_whole tree n _ d w born (made_file h) = made_whole tree w n _ d h (not_born tree n born (at_number tree n) refl) (file_is_new h.place.directory.width h.place.parent)
change_whole tree n _ d w born (removed h) = removed_whole tree w d h
change_whole tree n _ d w born (unlinked h) = unlinked_whole tree w d h
change_whole tree n _ d w born (linked h) = linked_whole tree w d h
change_whole tree n _ d w born (renamed h) = renamed_whole tree w d h
change_whole tree n _ d w born (written h) = subst IsWhole (sym h.tree_is) (put_whole tree w h.found.birth h.file _ (h.is_found.stands ∙ ap Some h.node_is) refl)
change_whole tree n _ d w born (written_bytes h) = subst IsWhole (sym h.tree_is) (put_whole tree w h.found.birth h.file _ (h.is_found.stands ∙ ap Some h.node_is) refl)
change_whole tree n _ d w born (truncated h) = subst IsWhole (sym h.tree_is) (put_whole tree w h.found.birth h.file _ (h.is_found.stands ∙ ap Some h.node_is) refl)

outcome_whole : (room : Room) (tree : Tree) (n : ℕ) (c : Call) → IsWhole tree → AreBornBefore n tree → (r : Row) → outcome room tree n c ≡ r → IsWhole (tree_from tree r)
outcome_whole room tree n c w born (Err reply) e = w
outcome_whole room tree n c w born (Ok d) e = change_whole tree n c d w born (outcome_change room tree n c d e)

-- a call keeps a tree plain
pub call_plain : (room : Room) (tree : Tree) (n : ℕ) (c : Call) → IsPlain tree → AreBornBefore n tree → IsPlain (tree_after room tree n c)
unfolding tree_after
call_plain room tree n c plain born = whole_plain (tree_after room tree n c) (outcome_whole room tree n c (plain_whole tree plain) born (outcome room tree n c) refl)

-- ---- births

-- a node that stands was there, or is the one that this call made
abbrev IsOldOrNew : Tree → ℕ → ℕ → Option Node → Type 0
IsOldOrNew tree n b node = is_some node ≡ true → (is_some (at_number tree b) ≡ true) ⊎ (b ≡ n)

module _ (tree : Tree) (n : ℕ) where
  old : (b : ℕ) → IsOldOrNew tree n b (at_number tree b)
  old b t = inl t

  put_old : (t : Tree) (p : ℕ) (node x : Node) → at_number tree p ≡ Some x → ((b : ℕ) → IsOldOrNew tree n b (at_number t b)) → (b : ℕ) → IsOldOrNew tree n b (at_number (put_number t p node) b)
  put_old t p node x stands all b =
      at_put_cases (IsOldOrNew tree n b) t p node b (λ e there. inl (ap (λ j. is_some (at_number tree j)) e ∙ ap is_some stands)) (λ apart. all b)

  put_new : (t : Tree) (node : Node) → ((b : ℕ) → IsOldOrNew tree n b (at_number t b)) → (b : ℕ) → IsOldOrNew tree n b (at_number (put_number t n node) b)
  put_new t node all b = at_put_cases (IsOldOrNew tree n b) t n node b (λ e there. inr e) (λ apart. all b)

  without_old : (t : Tree) (p : ℕ) → InOrder t → ((b : ℕ) → IsOldOrNew tree n b (at_number t b)) → (b : ℕ) → IsOldOrNew tree n b (at_number (without_number t p) b)
  without_old t p order all b = at_without_cases (IsOldOrNew tree n b) t p b order (λ e there. absurd (false≢true there)) (λ apart. all b)

  lose_old : (t : Tree) (p : ℕ) (f : File) (x : Node) → at_number tree p ≡ Some x → InOrder t → ((b : ℕ) → IsOldOrNew tree n b (at_number t b)) → (b : ℕ) → IsOldOrNew tree n b (at_number (lose_link t p f) b)
  lose_old t p f x stands order all b = by (nat_le f.links 1)
    where
      by : (few : Bool) → IsOldOrNew tree n b (at_number (if few then without_number t p else put_file t p (with_links f (f.links - 1))) b)
      by true = without_old t p order all b
      by false = put_old t p (nodes.File (with_links f (f.links - 1))) x stands all b

  target_old : (t : Tree) → InOrder t → ((b : ℕ) → IsOldOrNew tree n b (at_number t b)) → (target : Option Found) → ((x : Found) → target ≡ Some x → at_number tree x.birth ≡ Some x.node) →
      (b : ℕ) → IsOldOrNew tree n b (at_number (without_target t target) b)
  target_old t order all None stands b = all b
  target_old t order all (Some x) stands b = by (a_file x.node)
    where
      by : (r : Result File Reply) → IsOldOrNew tree n b (at_number (elim r as (λ _. Tree) [ Err reply ↦ t | Ok f ↦ lose_link t x.birth f ]) b)
      by (Err reply) = all b
      by (Ok f) = lose_old t x.birth f x.node (stands x refl) order all b

change_births : (tree : Tree) (n : ℕ) (c : Call) (d : Done) → IsWhole tree → Change tree n d c → (b : ℕ) → IsOldOrNew tree n b (at_number d.tree b)
change_births tree n c d w (stayed quiet same) b = subst (λ t. IsOldOrNew tree n b (at_number t b)) (sym same) (old tree n b)
change_births tree n _ d w (made_directory parent h e g) b =
    subst (λ t. IsOldOrNew tree n b (at_number t b)) (sym h.tree_is) (put_old tree n _ h.place.parent _ _ h.is_place.stands (put_new tree n tree _ (old tree n)) b)
change_births tree n _ d w (made_file h) b =
    subst (λ t. IsOldOrNew tree n b (at_number t b)) (sym h.tree_is) (put_old tree n _ h.place.parent _ _ h.is_place.stands (put_new tree n tree _ (old tree n)) b)
change_births tree n _ d w (removed h) b =
    subst (λ t. IsOldOrNew tree n b (at_number t b)) (sym h.tree_is)
    (without_old tree n (take_name tree h.place) h.found.birth (in_order_put tree h.place.parent _ w.in_order) (put_old tree n tree h.place.parent _ _ h.is_place.stands (old tree n)) b)
change_births tree n _ d w (unlinked h) b =
    subst (λ t. IsOldOrNew tree n b (at_number t b)) (sym h.tree_is)
    (lose_old tree n (take_name tree h.place) h.found.birth h.file _ h.is_found.stands (in_order_put tree h.place.parent _ w.in_order) (put_old tree n tree h.place.parent _ _ h.is_place.stands (old tree n)) b)
change_births tree n _ d w (linked h) b =
    subst (λ t. IsOldOrNew tree n b (at_number t b)) (sym h.tree_is)
    (put_old tree n (put_file tree h.found.birth (with_links h.file (h.file.links + 1))) h.place.parent _ _ h.is_place.stands (put_old tree n tree h.found.birth _ _ h.is_found.stands (old tree n)) b)
change_births tree n _ d w (renamed h) b = subst (λ t. IsOldOrNew tree n b (at_number t b)) (sym h.tree_is) (by (stays h.move))
  where
    whole : (b : ℕ) → IsOldOrNew tree n b (at_number (tree_moved tree h.move) b)
    whole =
        let left : Tree = without_target (take_name tree h.move.from) h.move.target in
        put_old tree n (put_number left h.move.moved.birth (moved_node h.move.to.parent h.move.moved.node)) (place_after h.move).parent _ _ h.is_to.stands
        (put_old tree n left h.move.moved.birth _ _ h.is_found.stands
        (target_old tree n (take_name tree h.move.from) (in_order_put tree h.move.from.parent _ w.in_order) (put_old tree n tree h.move.from.parent _ _ h.is_from.stands (old tree n))
        h.move.target (λ x e. target_stands tree h.move.to x (sym h.target_is ∙ e))))

    by : (same : Bool) → IsOldOrNew tree n b (at_number (if same then tree else tree_moved tree h.move) b)
    by true = old tree n b
    by false = whole b
change_births tree n _ d w (written h) b = subst (λ t. IsOldOrNew tree n b (at_number t b)) (sym h.tree_is) (put_old tree n tree h.found.birth _ _ h.is_found.stands (old tree n) b)
change_births tree n _ d w (written_bytes h) b = subst (λ t. IsOldOrNew tree n b (at_number t b)) (sym h.tree_is) (put_old tree n tree h.found.birth _ _ h.is_found.stands (old tree n) b)
change_births tree n _ d w (truncated h) b = subst (λ t. IsOldOrNew tree n b (at_number t b)) (sym h.tree_is) (put_old tree n tree h.found.birth _ _ h.is_found.stands (old tree n) b)

outcome_births : (room : Room) (tree : Tree) (n : ℕ) (c : Call) → IsWhole tree → (r : Row) → outcome room tree n c ≡ r → (b : ℕ) → IsOldOrNew tree n b (at_number (tree_from tree r) b)
outcome_births room tree n c w (Err reply) e b = old tree n b
outcome_births room tree n c w (Ok d) e b = change_births tree n c d w (outcome_change room tree n c d e) b

-- a node that stands after a call was there, or has the call's number as its birth
pub call_births : (room : Room) (tree : Tree) (n : ℕ) (c : Call) → IsPlain tree → (b : ℕ) → is_some (at_number (tree_after room tree n c) b) ≡ true → (is_some (at_number tree b) ≡ true) ⊎ (b ≡ n)
unfolding tree_after
call_births room tree n c plain b t = outcome_births room tree n c (plain_whole tree plain) (outcome room tree n c) refl b t

born_there : (n : ℕ) (tree : Tree) → AreBornBefore n tree → (b : ℕ) (o : Option Node) → at_number tree b ≡ o → is_some o ≡ true → b < n
born_there n tree born b (Some node) e t = born b node e
born_there n tree born b None e t = absurd (false≢true t)

pub call_born : (room : Room) (tree : Tree) (n : ℕ) (c : Call) → IsPlain tree → AreBornBefore n tree → AreBornBefore (n + 1) (tree_after room tree n c)
call_born room tree n c plain born b node e =
    ⊎_elim
    (λ was. let lt = born_there n tree born b (at_number tree b) refl was in omega arith)
    (λ new. omega arith)
    (call_births room tree n c plain b (ap is_some e))

-- ---- histories

module _ (room : Room) (opened : Tree) (first : ℕ) (entries : List Entry) (plain : IsPlain opened) (born : AreBornBefore (first + 1) opened) where
  abbrev At : ℕ → Tree
  At k = tree_after_entries room opened first entries k

  entry_plain : (tree : Tree) (n : ℕ) (o : Option Entry) → IsPlain tree → AreBornBefore n tree → IsPlain (tree_after_entry room tree n o)
  entry_plain tree n (Some (Some c)) p b = call_plain room tree n c p b
  entry_plain tree n (Some None) p b = p
  entry_plain tree n None p b = p

  entry_born : (tree : Tree) (n : ℕ) (o : Option Entry) → IsPlain tree → AreBornBefore n tree → AreBornBefore (n + 1) (tree_after_entry room tree n o)
  entry_born tree n (Some (Some c)) p b x node e = call_born room tree n c p b x node e
  entry_born tree n (Some None) p b x node e = (let lt = b x node e in omega arith)
  entry_born tree n None p b x node e = (let lt = b x node e in omega arith)

  -- each tree of a history is plain, and its nodes were born up to its entry
  history_both : (k : ℕ) → IsPlain (At k) × AreBornBefore (first + suc k) (At k)
  unfolding tree_after_entries
  history_both zero = (plain, λ b node e. let lt = born b node e in omega arith)
  history_both (suc k) =
      let before = history_both k in (
        entry_plain (At k) (first + suc k) (slice_get entries k) before.0 before.1,
        λ b node e. let lt = entry_born (At k) (first + suc k) (slice_get entries k) before.0 before.1 b node e in omega arith,
      )

  pub history_plain : (k : ℕ) → IsPlain (At k)
  history_plain k = (history_both k).0

  pub history_rooted : (k : ℕ) → IsRooted (At k)
  history_rooted k = (history_plain k).rooted

-- ---- the tree of a new volume

module _ (width : ℕ) where
  new_at : (o : ℕ) → (o ≡ 0) ⊎ (at_number (new_tree width) o ≡ None)
  new_at zero = inl refl
  new_at (suc n) = inr (apart (suc n) (omega arith))
    where
      apart : (k : ℕ) → 0 < k → at_number (new_tree width) k ≡ None
      apart k h = grind arith

  no_edge : (p : ℕ) (m : List ℕ) (b : ℕ) → edge_of (new_tree width) p m ≡ Some b → ⊥
  no_edge p m b e =
      ⊎_elim
      (λ z. none-some b (ap (λ j. edge_of (new_tree width) j m) (sym z) ∙ e))
      (λ n. none-some b (sym (ap (λ o. at_name (names_of o) m) n) ∙ e))
      (new_at p)

  new_each : (P : Option Node → Type 0) → P (at_number (new_tree width) 0) → P None → (c : ℕ) → P (at_number (new_tree width) c)
  new_each P here none c = ⊎_elim (λ z. subst (λ j. P (at_number (new_tree width) j)) (sym z) here) (λ n. subst P (sym n) none) (new_at c)

  pub new_plain : IsPlain (new_tree width)
  unfolding IsStrictlySortedBy
  new_plain = whole_plain (new_tree width) (record {
    width = width;
    of_width = new_each (IsOfWidth width) (refl, λ m b named. absurd (none-some b named)) tt;
    in_order = (tt, tt);
    sorted = new_each (λ o. IsStrictlySortedBy name_cmp (keys_of (names_of o))) tt tt;
    joined = record {
      root = refl;
      root_up = refl;
      good = λ p m b e. absurd (no_edge p m b e);
      leads = λ p m b e. absurd (no_edge p m b e);
      no_root = λ p m b e. absurd (no_edge p m b e);
      one_name = λ p q m k b e f t. absurd (no_edge p m b e);
      parent = λ p m b e t. absurd (no_edge p m b e);
    };
    reached = λ b t.
        ⊎_elim
        (λ z. subst (IsReached (edge_of (new_tree width))) (sym z) top)
        (λ n. absurd (false≢true (sym (ap is_some n) ∙ t)))
        (new_at b);
    links = λ b l. new_each (λ o. links_of o ≡ Some l → l ≡ names_to (new_tree width) b) (λ e. absurd (none-some l e)) (λ e. absurd (none-some l e)) b;
    known = new_each (λ o. is_other o ≡ false) refl refl;
  })

  pub new_born : AreBornBefore 1 (new_tree width)
  new_born b node e = ⊎_elim (λ z. omega arith) (λ n. absurd (none-some node (sym n ∙ e))) (new_at b)
