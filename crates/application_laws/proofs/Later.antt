-- What the recovered tree tells of what survived.
use Rattle.std.specs.Prelude.{◌≡◌, ◌⊎◌, ℕ, ◌+◌, ◌<◌, ◌≤◌, List, [], Option, Some, None, Ok, unwrap_or}
use Rattle.std.proofs.Common.{sym, ap, ◌∙◌, inl, inr, arith}
use Rattle.tree_model.specs.Histories.{block_at}
use Rattle.tree_model.specs.Trees.{node_of_path}
use Rattle.session_grammar.specs.declared.session_script.SessionScript.{SessionScript}
use Rattle.session_core.specs.Core.{EndState}
use Rattle.session_core.specs.Headline.{medium_of, told_by, HasLaterKept, ByBytes, HeadlineOn}
use Rattle.session_core.specs.declared.report.SessionReport.{SessionReport}
use Rattle.session_core.proofs.Seen.{later_survived}
use Rattle.application_trees.specs.Pairs.{TellsLater}
use Rattle.application_laws.specs.Left.{trees_of, left_of}

module _ (s : SessionScript) (end : EndState) (r : SessionReport) (is : HeadlineOn s end r) where
  abbrev pub Later : ℕ → Type 0
  Later e = HasLaterKept s end (medium_of r) e

  earlier : (d e : ℕ) → d ≤ e → Later e → Later d
  earlier d e le (inl x) = let low = x.5 in inl (x.0, x.1, x.2, x.3, x.4, omega (arith, le, low), x.6)
  earlier d e le (inr x) = inr (omega (arith, le, x))

  differs : (o : Option (List ℕ)) (bytes : List ℕ) → (bytes ≡ [] → ⊥) → (o ≡ Some bytes → ⊥) → unwrap_or o [] ≡ bytes → ⊥
  differs None bytes some other same = some (sym same)
  differs (Some x) bytes some other same = other (ap Some same)

  pub tells : (names : List (List ℕ)) (file : ℕ) → node_of_path (trees_of s end ((told_by s end).cut r.found)) names ≡ Ok file → TellsLater (left_of s end r is) Later file
  tells names file led = record {
    earlier = earlier;
    shown = λ i e bytes has some newer. later_survived s end r is e (ByBytes (record {
      path = names;
      node = is.prefix.alike.to file;
      leads = is.prefix.alike.same_paths names file led;
      index = i;
      bytes = bytes;
      has = has;
      file = file;
      led = led;
      newer = λ v low same. differs (block_at (trees_of s end v) file i) bytes some (newer v low) same;
    }));
  }
