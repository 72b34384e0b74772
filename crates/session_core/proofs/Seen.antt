-- What a reader sees in the recovered tree of later entries has survived.
use Rattle.std.proofs.Common.{◌≡◌, ℕ, ◌<◌, ◌≤◌, true, [], length, Option, Some, None, is_some, unwrap_or, sym, ap, subst, ◌∙◌, inr, ⊎_elim}
use Rattle.std.specs.List.{list_any}
use Rattle.std.specs.BTreeMap.{is_at}
use Rattle.std.specs.Ordering.{nat_cmp}
use Rattle.std.proofs.lemmas.Bool.{cases_lt, false≢true}
use Rattle.std.proofs.lemmas.Map.Made.{is_some-lookup}
use Rattle.tree_model.specs.Calls.{Tree}
use Rattle.tree_model.specs.Histories.{block_in, block_at, maps_block}
use Rattle.tree_model.specs.Maps.{at_number}
use Rattle.tree_model.specs.Trees.{SameMetadataAt, AreAlike}
use Rattle.tree_model.specs.declared.node.Node.{Node}
use Rattle.tree_model.specs.declared.node.Node.TheVariants as nodes
use Rattle.volume_ops.specs.laws.ReadsLaws.{same_Ok}
use Rattle.host_machine.specs.Views.{cut_of, tree_after}
use Rattle.session_core.specs.run.Beginning.{call_over}
use Rattle.session_core.specs.run.End.{tree_behind}
use Rattle.call_sessions.proofs.PowerCutsLemmas.CallsLemmas.ShownFiles.{later_kept}
use Rattle.call_sessions.specs.promises.Trees.{tree_at}
use Rattle.session_grammar.specs.declared.session_script.SessionScript.{SessionScript}
use Rattle.session_core.specs.Core.{EndState, geometry_of, opening_of}
use Rattle.session_core.specs.Headline.{medium_of, told_by, kept_in, HasLaterKept, HasNewerBytes, ShowsLater, ByBytes, ByMetadata, HeadlineOn}
use Rattle.session_core.specs.declared.report.SessionReport.{SessionReport}
use Rattle.session_core.proofs.OpenedTrees.{told_tree}

-- a block that the one of two like nodes maps, the other maps
mapped_back : (i : ℕ) (n m : Option Node) → SameMetadataAt n m → is_some (block_in m i) ≡ true → is_some (block_in n i) ≡ true
mapped_back i None m same t = absurd same
mapped_back i (Some n) None same t = absurd same
mapped_back i (Some (nodes.Directory d)) (Some (nodes.Directory e)) same t = absurd (false≢true t)
mapped_back i (Some (nodes.Directory d)) (Some (nodes.File h)) same t = absurd same
mapped_back i (Some (nodes.Directory d)) (Some (nodes.Other mode)) same t = absurd (false≢true t)
mapped_back i (Some (nodes.Other mode)) (Some (nodes.Other other)) same t = absurd (false≢true t)
mapped_back i (Some (nodes.Other mode)) (Some (nodes.File h)) same t = absurd same
mapped_back i (Some (nodes.Other mode)) (Some (nodes.Directory e)) same t = absurd (false≢true t)
mapped_back i (Some (nodes.File f)) (Some (nodes.Directory d)) same t = absurd same
mapped_back i (Some (nodes.File f)) (Some (nodes.Other mode)) same t = absurd same
mapped_back i (Some (nodes.File f)) (Some (nodes.File h)) same t =
    is_some-lookup (is_at (nat_cmp i)) f.blocks
    ∙ (ap (list_any (is_at (nat_cmp i))) same.2
    ∙ (sym (is_some-lookup (is_at (nat_cmp i)) h.blocks) ∙ t))

module _ (s : SessionScript) (end : EndState) (r : SessionReport) (is : HeadlineOn s end r) where
  abbrev behind : Tree
  behind = tree_behind (opening_of s) end.host r.found

  -- the history is read over the tree after so many transactions as were found
  is_behind : (tree_after (call_over (opening_of s)).model end.host.history ((told_by s end).cut (kept_in s end (medium_of r)))).tree ≡ behind
  is_behind = told_tree s end.host ((told_by s end).cut (kept_in s end (medium_of r))) ∙ ap (tree_behind (opening_of s) end.host) (sym is.counted)

  by_bytes : (e : ℕ) → HasNewerBytes s end r.found is.prefix.tree e → HasLaterKept s end (medium_of r) e
  by_bytes e x =
      let alike = is.prefix.alike in
      let to : x.node ≡ alike.to x.file = same_Ok x.node (alike.to x.file) (sym x.leads ∙ alike.same_paths x.path x.file x.led) in
      let has : block_at is.prefix.tree (alike.to x.file) x.index ≡ Some x.bytes = ap (λ n. block_at is.prefix.tree n x.index) (sym to) ∙ x.has in
      let there : maps_block behind x.file x.index ≡ true =
      mapped_back x.index (at_number behind x.file) (at_number is.prefix.tree (alike.to x.file)) (alike.same_metadata x.path x.file x.led) (ap is_some has) in
      later_kept (geometry_of s) s.journal s.wide is.closed end.host (medium_of r) is.prefix.tree alike.to (opening_of s).image is.order.closed is.shown x.file x.index e x.bytes (ap (λ tree. maps_block tree x.file x.index) is_behind ∙ there) has
      (λ v low same. x.newer v low (ap (λ tree. unwrap_or (block_at tree x.file x.index) []) (sym (told_tree s end.host v)) ∙ same))

  by_metadata : (e : ℕ) → ((v : ℕ) → v ≤ e → AreAlike (tree_at (opening_of s) end.host v) is.prefix.tree → ⊥) → HasLaterKept s end (medium_of r) e
  by_metadata e none =
      let last = cut_of end.host.cuts (length end.host.history) in
      let alike : AreAlike (tree_at (opening_of s) end.host (last r.found)) is.prefix.tree = is.prefix.alike in
      inr (⊎_elim (λ lt. subst (λ n. e < last n) is.counted lt) (λ low. absurd (none (last r.found) low alike)) (cases_lt e (last r.found)))

  pub later_survived : (e : ℕ) → ShowsLater s end r.found is.prefix.tree e → HasLaterKept s end (medium_of r) e
  later_survived e (ByBytes x) = by_bytes e x
  later_survived e (ByMetadata none) = by_metadata e none
