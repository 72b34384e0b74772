-- A file that is moved to its place, and one that is replaced.
use Rattle.std.specs.Prelude.{◌≡◌, ◌≢◌, ◌⊎◌, ℕ, zero, suc, ◌+◌, ◌-◌, ◌<◌, ◌≤◌, Bool, true, false, List, [], ◌++◌, Option, Some, None, Result, Ok, refl}
use Rattle.std.proofs.Common.{sym, ap, subst, ◌∙◌, inl, inr, arith}
use Rattle.std.proofs.lemmas.Bool.{cases_lt}
use Rattle.std.proofs.lemmas.List.{append-nil}
use Rattle.tree_model.specs.declared.call.Call.TheVariants as calls
use Rattle.tree_model.specs.declared.call.Room.{Room}
use Rattle.tree_model.specs.declared.node.File.{File}
use Rattle.tree_model.specs.declared.node.Node.{Node}
use Rattle.tree_model.specs.declared.node.Node.TheVariants as nodes
use Rattle.tree_model.specs.laws.Alike.{same_ok}
use Rattle.tree_model.specs.Calls.{Tree, Done, outcome, tree_after}
use Rattle.tree_model.specs.CallWords.{HasLinkLess}
use Rattle.tree_model.specs.Causes.{LeadsTo}
use Rattle.tree_model.specs.Histories.{block_in, block_at}
use Rattle.tree_model.specs.Maps.{at_number}
use Rattle.tree_model.specs.Paths.{path_of}
use Rattle.tree_model.specs.Trees.{node_of_path}
use Rattle.tree_model.proofs.MovedNodes.{rename_file, rename_replaced}
use Rattle.tree_model.proofs.NamesMove.{rename_moves}
use Rattle.application_trees.specs.Outcomes.{Outcome, HasHistory, Holds, Stays, Shows, IsReplaced}
use Rattle.application_trees.specs.Runs.{LeavesAlone, ArePlain, IsPrepared, aside, creates, writes, IsRenamed, IsMoved, IsReplacing}
use Rattle.application_trees.proofs.Frames.{after_call, ok_done, create_leaves, create_keeps_path, create_apart, write_keeps_path, write_leaves}
use Rattle.application_trees.proofs.Kept.{kept_file, old_or_new}

-- a fact that a step keeps holds from where it begins on
along : (P : ℕ → Type 0) (a p : ℕ) → P a → ((n : ℕ) → a ≤ n → n < p → P n → P (suc n)) → (n : ℕ) → a ≤ n → n ≤ p → P n
along P a p first step n from to = by (n - a) n (omega (arith, from)) to
  where
    by : (d : ℕ) (n : ℕ) → n ≡ a + d → n ≤ p → P n
    by zero n at to = let same : a ≡ n = omega (arith, at) in subst P same first
    by (suc d) n at to = let same : suc (a + d) ≡ n = omega (arith, at) in subst P same (step (a + d) (omega arith) (omega (arith, at, to)) (by d (a + d) refl (omega (arith, at, to))))

leads_on : (tree after : Tree) (names : List (List ℕ)) (birth : ℕ) (node : Node) → LeavesAlone tree after names birth → LeadsTo tree names birth node → LeadsTo after names birth node
leads_on tree after names birth node x l = record { path = (x.path birth).1 l.path; stands = x.node ∙ l.stands }

module _ (room : Room) (T : ℕ → Tree) (trees : ArePlain T) where
  module _ (path other : List ℕ) (fresh names : List (List ℕ)) (new b p : ℕ) (g : File) (x : IsMoved room T path other fresh names new b p g) where
    pub fresh_leads : (v : ℕ) → b ≤ v → v ≤ p → LeadsTo (T v) fresh new (nodes.File g)
    fresh_leads = along (λ v. LeadsTo (T v) fresh new (nodes.File g)) b p x.there (λ n from to l. leads_on (T n) (T (suc n)) fresh new (nodes.File g) (x.quiet n from to) l)

    at_rename : LeadsTo (T p) fresh new (nodes.File g)
    at_rename = fresh_leads p x.order (omega arith)

    done : (d : Done) × (outcome room (T p) (suc p) (calls.Rename path other) ≡ Ok d) × (tree_after room (T p) (suc p) (calls.Rename path other) ≡ d.tree)
    done = ok_done room (T p) (trees.plain p) (suc p) (calls.Rename path other) x.renamed.ok

    next : T (suc p) ≡ done.0.tree
    next = x.renamed.next ∙ done.2

    apart : (birth : ℕ) → node_of_path (T p) fresh ≡ Ok birth → node_of_path (T p) names ≡ Ok birth → ⊥
    apart birth first last = x.apart (last ∙ ap Ok (same_ok birth new (sym first ∙ at_rename.path)))

    behind : LeadsTo (T (suc p)) names new (nodes.File g)
    behind = record {
      path =
          ap (λ t. node_of_path t names) next ∙ ap (node_of_path done.0.tree) (sym (append-nil names))
          ∙ (rename_moves room (T p) (trees.plain p) (suc p) path other fresh names done.0 x.fresh_is x.names_are done.1 apart [] new).1 (ap (node_of_path (T p)) (append-nil fresh) ∙ at_rename.path);
      stands = ap (λ t. at_number t new) next ∙ rename_file room (T p) (trees.plain p) (suc p) path other fresh names done.0 x.fresh_is x.names_are done.1 apart new g at_rename;
    }

    pub names_lead : (v : ℕ) → p < v → LeadsTo (T v) names new (nodes.File g)
    names_lead v past = along (λ n. LeadsTo (T n) names new (nodes.File g)) (suc p) v behind (λ n from to l. leads_on (T n) (T (suc n)) names new (nodes.File g) (x.behind n (omega (arith, from))) l) v (omega (arith, past)) (omega arith)

    pub new_blocks : (v i : ℕ) → b ≤ v → block_at (T v) new i ≡ at_number g.blocks i
    new_blocks v i from =
        elim (cases_lt p v) [
          | inl past ↦ ap (λ n. block_in n i) (names_lead v past).stands
          | inr up ↦ ap (λ n. block_in n i) (fresh_leads v from up).stands
        ]

    -- what the file that is replaced is behind the rename
    pub replaced : (old : ℕ) (f : File) → LeadsTo (T p) names old (nodes.File f) → (at_number (T (suc p)) old ≡ None) ⊎ ((k : File) × (at_number (T (suc p)) old ≡ Some (nodes.File k)) × (k.blocks ≡ f.blocks))
    replaced old f l =
        let y = rename_replaced room (T p) (trees.plain p) (suc p) path other fresh names done.0 x.fresh_is x.names_are done.1 apart old f l in
        elim (cases_lt 1 f.links) [
          | inl many ↦ (let z = y.less (omega (arith, many)) in inr (z.0, ap (λ t. at_number t old) next ∙ z.1, z.4))
          | inr few ↦ inl (ap (λ t. at_number t old) next ∙ y.gone few)
        ]

  -- ---- the old file

  module _ (path : List ℕ) (fresh names : List (List ℕ)) (fresh_is : path_of path ≡ Some fresh) (old a : ℕ) (f : File) where
    abbrev Led : ℕ → Type 0
    Led v = LeadsTo (T v) names old (nodes.File f) × (node_of_path (T v) fresh ≡ Ok old → ⊥)

    prepared_keeps : (n : ℕ) → IsPrepared room T path names fresh old n → Led n → Led (suc n)
    prepared_keeps n (aside x back) l = (leads_on (T n) (T (suc n)) names old (nodes.File f) x l.0, λ e. l.1 (back e))
    prepared_keeps n (creates step) l =
        subst (λ t. LeadsTo t names old (nodes.File f) × (node_of_path t fresh ≡ Ok old → ⊥)) (sym step)
        (after_call (λ t. LeadsTo t names old (nodes.File f) × (node_of_path t fresh ≡ Ok old → ⊥)) room (T n) (suc n) (calls.Create path) l
        (λ d e. (
          record {
            path = create_keeps_path room (T n) (trees.plain n) (suc n) (trees.born n) path fresh fresh_is old f l.0.stands d e names l.0.path;
            stands = create_leaves room (T n) (trees.plain n) (suc n) (trees.born n) path fresh fresh_is old f l.0.stands d e ∙ l.0.stands;
          },
          create_apart room (T n) (trees.plain n) (suc n) (trees.born n) path fresh fresh_is old f l.0.stands d e fresh l.1,
        )))
    prepared_keeps n (writes off bytes step) l =
        subst (λ t. LeadsTo t names old (nodes.File f) × (node_of_path t fresh ≡ Ok old → ⊥)) (sym step)
        (after_call (λ t. LeadsTo t names old (nodes.File f) × (node_of_path t fresh ≡ Ok old → ⊥)) room (T n) (suc n) (calls.Bytes path off bytes) l
        (λ d e. (
          record {
            path = write_keeps_path room (T n) (suc n) path fresh fresh_is off bytes d e names ∙ l.0.path;
            stands = write_leaves room (T n) (suc n) path fresh fresh_is off bytes d e old l.1 ∙ l.0.stands;
          },
          λ led. l.1 (sym (write_keeps_path room (T n) (suc n) path fresh fresh_is off bytes d e fresh) ∙ led),
        )))

    pub old_led : (p : ℕ) → Led a → ((n : ℕ) → a ≤ n → n < p → IsPrepared room T path names fresh old n) → (v : ℕ) → a ≤ v → v ≤ p → Led v
    old_led p first steps = along Led a p first (λ n from to l. prepared_keeps n (steps n from to) l)

  module _ (path other : List ℕ) (fresh names : List (List ℕ)) (old a : ℕ) (f : File) (new b p : ℕ) (g : File) (x : IsReplacing room T path other fresh names old a f new b p g) where
    led_old : (v : ℕ) → a ≤ v → v ≤ p → Led path fresh names x.moved.fresh_is old a f v
    led_old = old_led path fresh names x.moved.fresh_is old a f p (x.led, x.elsewhere) x.prepared

    abbrev Left : ℕ → Type 0
    Left v = (at_number (T v) old ≡ None) ⊎ ((k : File) × (at_number (T v) old ≡ Some (nodes.File k)) × (k.blocks ≡ f.blocks))

    left : (v : ℕ) → p < v → Left v
    left v past =
        let first = x.start in
        let second = x.moved.order in
        along Left (suc p) v (replaced path other fresh names new b p g x.moved old f (led_old p (omega (arith, first, second)) (omega arith)).0)
        (λ n from to l. elim l [
          | inl none ↦ inl (x.left n (omega (arith, from)) ∙ none)
          | inr k ↦ inr (k.0, x.left n (omega (arith, from)) ∙ k.1, k.2)
        ]) v (omega (arith, past)) (omega arith)

    old_blocks : (v i : ℕ) → a ≤ v → (block_at (T v) old i ≡ at_number f.blocks i) ⊎ (block_at (T v) old i ≡ None)
    old_blocks v i from =
        elim (cases_lt p v) [
          | inl past ↦ elim (left v past) [
            | inl none ↦ inr (ap (λ n. block_in n i) none)
            | inr k ↦ inl (ap (λ n. block_in n i) k.1 ∙ ap (λ bs. at_number bs i) k.2)
          ]
          | inr up ↦ inl (ap (λ n. block_in n i) (led_old v from up).0.stands)
        ]

    pub replacing : (o : Outcome) (same : (n : ℕ) → o.tree_at n ≡ T n) → a ≤ o.cut → IsReplaced o names p old a f new b g
    replacing o same made = record {
      made = made;
      behind = x.moved.order;
      leads_old = λ up. subst (λ t. LeadsTo t names old (nodes.File f)) (sym (same o.cut)) (led_old o.cut made up).0;
      leads_new = λ past. subst (λ t. LeadsTo t names new (nodes.File g)) (sym (same o.cut)) (names_lead path other fresh names new b p g x.moved o.cut past);
      old_stays = λ up. record {
        after = λ v i from. subst (λ t. (block_at t old i ≡ at_number f.blocks i) ⊎ (block_at t old i ≡ None)) (sym (same v)) (old_blocks v i from);
        within = λ v i from to. ap (λ t. block_at t old i) (same v) ∙ ap (λ n. block_in n i) (led_old v from (omega (arith, to, up))).0.stands;
      };
      new_stays = λ past. record {
        after = λ v i from. inl (ap (λ t. block_at t new i) (same v) ∙ new_blocks path other fresh names new b p g x.moved v i from);
        within = λ v i from to. ap (λ t. block_at t new i) (same v) ∙ new_blocks path other fresh names new b p g x.moved v i from;
      };
    }

  -- ---- as long as it is not renamed

  pub not_replaced : (path : List ℕ) (fresh names : List (List ℕ)) → path_of path ≡ Some fresh → (old a : ℕ) (f : File) → LeadsTo (T a) names old (nodes.File f) → (node_of_path (T a) fresh ≡ Ok old → ⊥) →
      ((n : ℕ) → a ≤ n → IsPrepared room T path names fresh old n) → (o : Outcome) → ((n : ℕ) → o.tree_at n ≡ T n) → HasHistory o → a ≤ o.cut → Holds o old a → Shows o.tree names f
  not_replaced path fresh names fresh_is old a f led elsewhere steps o same h made holds =
      let at = λ (v : ℕ) (from : a ≤ v). (old_led path fresh names fresh_is old a f v (led, elsewhere) (λ n low high. steps n low) v from (omega arith)).0 in
      kept_file o h old a f made holds
      (record {
        after = λ v i from. inl (ap (λ t. block_at t old i) (same v) ∙ ap (λ n. block_in n i) (at v from).stands);
        within = λ v i from to. ap (λ t. block_at t old i) (same v) ∙ ap (λ n. block_in n i) (at v from).stands;
      })
      names (subst (λ t. LeadsTo t names old (nodes.File f)) (sym (same o.cut)) (at o.cut made))
