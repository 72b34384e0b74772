-- What the store's laws are in the user's words: of the file to which a path leads in the recovered tree.
use Rattle.std.specs.Prelude.{◌≡◌, ℕ, ◌≤◌, true, List, Option, Some, None, is_some, Result, Ok, Err, IsOk, refl}
use Rattle.std.specs.BTreeMap.{is_at}
use Rattle.std.specs.Ordering.{nat_cmp}
use Rattle.std.specs.List.{list_any}
use Rattle.std.proofs.Common.{sym, ap, subst, ◌∙◌}
use Rattle.std.proofs.lemmas.Bool.{false≢true}
use Rattle.std.proofs.lemmas.Map.Made.{is_some-lookup}
use Rattle.volume_ops.specs.laws.ReadsLaws.{same_Ok}
use Rattle.tree_model.specs.declared.node.Node.{Node}
use Rattle.tree_model.specs.declared.node.Node.TheVariants as nodes
use Rattle.tree_model.specs.Histories.{block_at, block_in, maps_block}
use Rattle.tree_model.specs.Maps.{at_number}
use Rattle.tree_model.specs.Trees.{Refusal, node_of_path, SameMetadataAt}
use Rattle.host_machine.specs.Views.{tree_after}
use Rattle.call_sessions.specs.Sessions.{call_over}
use Rattle.session_core.specs.Report.{tree_behind}
use Rattle.session_grammar.specs.declared.session_script.SessionScript.{SessionScript}
use Rattle.session_core.specs.Core.{EndState, opening_of}
use Rattle.session_core.specs.Headline.{HeadlineOn, told_by, medium_of, kept_in}
use Rattle.session_core.specs.declared.report.SessionReport.{SessionReport}
use Rattle.session_core.proofs.OpenedTrees.{told_tree}
pub use Rattle.store_core.specs.Store.{IsHeldIn}
use Rattle.store_core.specs.Store.{Numbering, Decodes, IsPutAt, IsStoreLog, AreHeld}
use Rattle.store_core.proofs.Held.{none-beyond, own-put}

-- the other way of what call_images has: a block of the recovered tree is mapped before
mapped-back : (i : ℕ) (n m : Option Node) → SameMetadataAt n m → is_some (block_in m i) ≡ true → is_some (block_in n i) ≡ true
mapped-back i None m same t = absurd same
mapped-back i (Some n) None same t = absurd same
mapped-back i (Some (nodes.Directory d)) (Some (nodes.Directory e)) same t = absurd (false≢true t)
mapped-back i (Some (nodes.Directory d)) (Some (nodes.File h)) same t = absurd same
mapped-back i (Some (nodes.Directory d)) (Some (nodes.Other mode)) same t = absurd (false≢true t)
mapped-back i (Some (nodes.Other mode)) (Some (nodes.Other other)) same t = absurd (false≢true t)
mapped-back i (Some (nodes.Other mode)) (Some (nodes.File h)) same t = absurd same
mapped-back i (Some (nodes.Other mode)) (Some (nodes.Directory e)) same t = absurd (false≢true t)
mapped-back i (Some (nodes.File f)) (Some (nodes.Directory d)) same t = absurd same
mapped-back i (Some (nodes.File f)) (Some (nodes.Other mode)) same t = absurd same
mapped-back i (Some (nodes.File f)) (Some (nodes.File h)) same t =
    is_some-lookup (is_at (nat_cmp i)) f.blocks
    ∙ (ap (list_any (is_at (nat_cmp i))) same.2
    ∙ (sym (is_some-lookup (is_at (nat_cmp i)) h.blocks) ∙ t))

module _ (s : SessionScript) (end : EndState) (r : SessionReport) (is : HeadlineOn s end r) where
  -- the history that is told is read over the trees of the tree model
  behind-history : (tree_after (call_over (opening_of s)).model end.host.history ((told_by s end).cut (kept_in s end (medium_of r)))).tree ≡ tree_behind (opening_of s) end.host r.found
  behind-history =
      told_tree s end.host ((told_by s end).cut (kept_in s end (medium_of r)))
      ∙ ap (tree_behind (opening_of s) end.host) (sym is.counted)

  mapped-there : (f i : ℕ) (names : List (List ℕ)) (b : List ℕ) → node_of_path (tree_behind (opening_of s) end.host r.found) names ≡ Ok f → block_at is.prefix.tree (is.prefix.alike.to f) i ≡ Some b
      → (told_by s end).maps ((told_by s end).cut (kept_in s end (medium_of r))) f i ≡ true
  mapped-there f i names b path at =
      let same = is.prefix.alike.same_metadata names f path in
      let there = mapped-back i (at_number (tree_behind (opening_of s) end.host r.found) f) (at_number is.prefix.tree (is.prefix.alike.to f)) same (ap is_some at) in
      ap (λ tree. maps_block tree f i) behind-history ∙ there

  -- the path leads to the file before, where it does in the recovered tree
  path-back : (names : List (List ℕ)) (g : ℕ) → node_of_path is.prefix.tree names ≡ Ok g → (f : ℕ) × (node_of_path (tree_behind (opening_of s) end.host r.found) names ≡ Ok f) × (is.prefix.alike.to f ≡ g)
  path-back names g e = at (node_of_path (tree_behind (opening_of s) end.host r.found) names) refl (is.prefix.alike.no_more_paths names (subst IsOk (sym e) refl))
    where
      at : (o : Result ℕ Refusal) → node_of_path (tree_behind (opening_of s) end.host r.found) names ≡ o → IsOk o → (f : ℕ) × (node_of_path (tree_behind (opening_of s) end.host r.found) names ≡ Ok f) × (is.prefix.alike.to f ≡ g)
      at (Ok f) same ok = (f, same, same_Ok (is.prefix.alike.to f) g (sym (is.prefix.alike.same_paths names f same) ∙ e))
      at (Err refusal) same ok = absurd (false≢true ok)

-- ---- the laws, of the file to which the path leads in the recovered tree

module _ (number : Numbering) (s : SessionScript) (end : EndState) (r : SessionReport) (is : HeadlineOn s end r) (f : ℕ) (names : List (List ℕ))
    (leads : (other : ℕ) → node_of_path (tree_behind (opening_of s) end.host r.found) names ≡ Ok other → other ≡ f) (log : IsStoreLog number s end r is f) where
  pub nothing-behind : (g h : ℕ) → node_of_path is.prefix.tree names ≡ Ok g → IsHeldIn number is.prefix.tree g h → (j : ℕ) (b : List ℕ) → h ≤ j → block_at is.prefix.tree g j ≡ Some b → Decodes number b → ⊥
  nothing-behind g h path held j b le at decodes =
      let back = path-back s end r is names g path in
      let one : back.0 ≡ f = leads back.0 back.1 in
      let to : is.prefix.alike.to f ≡ g = ap is.prefix.alike.to (sym one) ∙ back.2 in
      let there : node_of_path (tree_behind (opening_of s) end.host r.found) names ≡ Ok f = back.1 ∙ ap Ok one in
      let same : (i : ℕ) (c : List ℕ) → block_at is.prefix.tree g i ≡ Some c → block_at is.prefix.tree (is.prefix.alike.to f) i ≡ Some c = λ i c e. ap (λ k. block_at is.prefix.tree k i) to ∙ e in
      let all : AreHeld number s end r is f h =
      record {
        all = λ i lt. let x = held.all i lt in (x.0, same i x.0 x.1, x.2);
        next = λ x. held.next x.0 (ap (λ k. block_at is.prefix.tree k h) (sym to) ∙ x.1) x.2;
      } in
      none-beyond number s end r is f log h all j b le (mapped-there s end r is f j names b there (same j b at)) (same j b at) decodes

  -- and each block that spells a put was put so
  pub decoded-put : (g : ℕ) → node_of_path is.prefix.tree names ≡ Ok g → (j : ℕ) (b : List ℕ) → block_at is.prefix.tree g j ≡ Some b → Decodes number b → (p : ℕ) × IsPutAt number (told_by s end) f j p b
  decoded-put g path j b at decodes =
      let back = path-back s end r is names g path in
      let one : back.0 ≡ f = leads back.0 back.1 in
      let to : is.prefix.alike.to f ≡ g = ap is.prefix.alike.to (sym one) ∙ back.2 in
      let there : node_of_path (tree_behind (opening_of s) end.host r.found) names ≡ Ok f = back.1 ∙ ap Ok one in
      let shows : block_at is.prefix.tree (is.prefix.alike.to f) j ≡ Some b = ap (λ k. block_at is.prefix.tree k j) to ∙ at in
      own-put number s end r is f log j b (mapped-there s end r is f j names b there shows) shows decodes
