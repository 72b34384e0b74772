-- How many blocks a rename tells.
use Rattle.std.specs.Prelude.{◌≡◌, ◌≢◌, ℕ, ◌+◌, ◌-◌, ◌≤◌, ◌&&◌, ◌==◌, not, Bool, true, false, if◌then◌else◌, List, Option, Some, None, Ok, refl}
use Rattle.std.proofs.Common.{sym, ap, subst, ◌∙◌, inl, inr, arith, eq-eqb}
use Rattle.std.proofs.lemmas.Bool.{cases_Bool, cases_eq}
use Rattle.tree_model.specs.declared.call.Call.TheVariants as calls
use Rattle.tree_model.specs.declared.node.Directory.{Directory}
use Rattle.tree_model.specs.declared.node.File.{File}
use Rattle.tree_model.specs.declared.node.Node.TheVariants as nodes
use Rattle.tree_model.specs.Calls.{Done, Place, Found, Move, outcome, used_zones, stays, moves_directory, changes_parent}
use Rattle.tree_model.specs.Maps.{at_name}
use Rattle.tree_model.specs.Trees.{is_directory}
use Rattle.tree_model.specs.Plain.{IsPlain}
use Rattle.volume_steps.specs.Called.{FindsRoom}
use Rattle.volume_steps.specs.Calls.{lose_link, move_in, move_below, replace_in, rename, called, changed}
use Rattle.volume_steps.specs.Now.{VolumeNow, Change, tree_of_now, room_of, unchanged, followed_by}
use Rattle.volume_steps.specs.Steps.{add_name, take_name, lead_name}
use Rattle.volume_steps.proofs.CallPaths.{done_row}
use Rattle.volume_steps.proofs.FileCalls.{called_is, needs_is}
use Rattle.volume_steps.proofs.NameGoes.{name_goes_is}
use Rattle.volume_steps.proofs.QuietSteps.{set_links_is}
use Rattle.volume_steps.proofs.RenameCall as call
use Rattle.volume_steps.proofs.RenameTree.{Renames, What, what, Met, met}
use Rattle.volume_steps.proofs.RenameTree.What.{a_dir, a_fil}
use Rattle.volume_steps.proofs.RenameTree.Met.{none_met, file_met, itself}
use Rattle.volume_steps.proofs.SlotChanges.{set_parent_is, lead_name_is}
use Rattle.volume_steps.proofs.StepsTo.{joined}
use Rattle.volume_steps.proofs.Taking.{frees}
use Rattle.system_laws.proofs.TransactionSizeLemmas.Counted.{Counted, counted_none, counted_more, counted_joined, counted_then}
use Rattle.system_laws.proofs.TransactionSizeLemmas.CountedSteps.{links_counted, taken_counted, parent_counted, lead_counted}
use Rattle.system_laws.proofs.TransactionSizeLemmas.CountedCalls.{lose_counted, name_comes}

module _ (tx : ℕ) (v : VolumeNow) (n : ℕ) (path other : List ℕ) (h : FindsRoom v n (calls.Rename path other)) (d : Done) (done : outcome (room_of v.geometry) (tree_of_now v) n (calls.Rename path other) ≡ Ok d) where
  spare : used_zones d.tree - used_zones (tree_of_now v) ≤ frees v.zones
  spare =
      let needed = needs_is tx v n (calls.Rename path other) d (done_row (room_of v.geometry) (tree_of_now v) n (calls.Rename path other) d done).0 in
      let found = h.enough in
      omega (arith, needed, found)

  abbrev plain : IsPlain (tree_of_now v)
  plain = call.plain tx v h.plain n h.born path other d done spare

  abbrev r : Renames (tree_of_now v) path other d
  r = call.r tx v h.plain n h.born path other d done spare

  abbrev from : Place
  from = call.from tx v h.plain n h.born path other d done spare

  abbrev to : Place
  to = call.to tx v h.plain n h.born path other d done spare

  abbrev birth : ℕ
  birth = call.birth tx v h.plain n h.born path other d done spare

  abbrev m : Move
  m = call.m tx v h.plain n h.born path other d done spare

  abbrev less : Change
  less = call.less tx v h.plain n h.born path other d done spare

  abbrev v1 : VolumeNow
  v1 = call.v1 tx v h.plain n h.born path other d done spare

  less_is : take_name v from.parent from.name ≡ less
  less_is = name_goes_is tx v h.plain from birth (call.from_stands tx v h.plain n h.born path other d done spare) (call.gives tx v h.plain n h.born path other d done spare)

  less_counted : Counted v less 2 0
  less_counted = subst (λ c. Counted v c 2 0) less_is (taken_counted v from.parent from.name)

  -- where no node has the new name: a file, or a directory that keeps its parent
  module _ (not_same : stays m ≡ false) (none : m.target ≡ None) (unnamed : at_name to.directory.names to.name ≡ None) (within : (moves_directory m && changes_parent m) ≡ false) where
    moved_counted : Counted v (move_in v from.parent from.name to.parent to.name birth) 12 520
    moved_counted =
        let first = call.first tx v h.plain n h.born path other d done spare in
        let x = call.x1 tx v h.plain n h.born path other d done spare not_same none unnamed within in
        subst (λ c. Counted v c 12 520) (sym (ap (λ c. followed_by c (λ w. add_name w to.parent to.name birth)) less_is))
        (counted_more v _ 8 12 0 520 (omega arith) (omega arith)
        (counted_then v less (λ w. add_name w to.parent to.name birth) 2 6 0 0 less_counted
        (name_comes v1 v1 first.steady.in_use refl to.parent to.name birth x.placed x.part x.stands x.is
        (call.free1 tx v h.plain n h.born path other d done spare not_same none unnamed within) (call.left1 tx v h.plain n h.born path other d done spare not_same none unnamed within) x.stands)))

  -- a directory goes below another parent
  module _ (not_same : stays m ≡ false) (none : m.target ≡ None) (unnamed : at_name to.directory.names to.name ≡ None) (e : Directory) (is : r.found.node ≡ nodes.Directory e) (away : to.parent ≢ from.parent) where
    abbrev fewer : Change
    fewer = call.fewer tx v h.plain n h.born path other d done spare not_same none unnamed e is away

    abbrev turned : Change
    turned = call.turned tx v h.plain n h.born path other d done spare not_same none unnamed e is away

    abbrev grown : Change
    grown = call.grown tx v h.plain n h.born path other d done spare not_same none unnamed e is away

    abbrev v4 : VolumeNow
    v4 = call.v4 tx v h.plain n h.born path other d done spare not_same none unnamed e is away

    abbrev named : Change
    named = call.named_below tx v h.plain n h.born path other d done spare not_same none unnamed e is away

    fewer_counted : Counted v1 fewer 1 0
    fewer_counted =
        let first = call.first tx v h.plain n h.born path other d done spare in
        let y = call.y1 tx v h.plain n h.born path other d done spare not_same none unnamed e is away in
        subst (λ c. Counted v1 c 1 0)
        (set_links_is tx v1 first.steady.in_use from.parent y.placed y.stands (y.placed.inode.links - 1) (call.few1 tx v h.plain n h.born path other d done spare not_same none unnamed e is away) (λ links. links - 1) refl)
        (links_counted v1 from.parent (λ links. links - 1))

    turned_counted : Counted fewer.volume turned 2 0
    turned_counted =
        let below = call.below2 tx v h.plain n h.born path other d done spare not_same none unnamed e is away in
        let z = call.z2 tx v h.plain n h.born path other d done spare not_same none unnamed e is away in
        let q = call.q2 tx v h.plain n h.born path other d done spare not_same none unnamed e is away in
        subst (λ c. Counted fewer.volume c 2 0)
        (set_parent_is tx fewer.volume below.steady.in_use below.settled below.slotted birth z.placed z.stands z.part z.is to.parent q.placed q.stands)
        (parent_counted fewer.volume birth to.parent)

    grown_counted : Counted turned.volume grown 1 0
    grown_counted =
        let below = call.below3 tx v h.plain n h.born path other d done spare not_same none unnamed e is away in
        let x = call.x3 tx v h.plain n h.born path other d done spare not_same none unnamed e is away in
        subst (λ c. Counted turned.volume c 1 0)
        (set_links_is tx turned.volume below.steady.in_use to.parent x.placed x.stands (x.placed.inode.links + 1) (call.few3 tx v h.plain n h.born path other d done spare not_same none unnamed e is away) (λ links. links + 1) refl)
        (links_counted turned.volume to.parent (λ links. links + 1))

    below_counted : Counted v (move_below v from.parent from.name to.parent to.name birth) 12 520
    below_counted =
        let below = call.below4 tx v h.plain n h.born path other d done spare not_same none unnamed e is away in
        let x = call.x4 tx v h.plain n h.born path other d done spare not_same none unnamed e is away in
        subst (λ c. Counted v c 12 520) (sym (call.below_is tx v h.plain n h.born path other d done spare not_same none unnamed e is away))
        (counted_more v _ 12 12 0 520 (omega arith) (omega arith)
        (counted_joined v less (joined fewer (joined turned (joined grown named))) 2 10 0 0 less_counted
        (counted_joined v1 fewer (joined turned (joined grown named)) 1 9 0 0 fewer_counted
        (counted_joined fewer.volume turned (joined grown named) 2 7 0 0 turned_counted
        (counted_joined turned.volume grown named 1 6 0 0 grown_counted
        (name_comes v4 v4 below.steady.in_use refl to.parent to.name birth x.placed x.part x.stands x.is
        (call.free4 tx v h.plain n h.born path other d done spare not_same none unnamed e is away) (call.left4 tx v h.plain n h.born path other d done spare not_same none unnamed e is away) x.stands))))))

  -- a file gets the name of another one
  module _ (not_same : stays m ≡ false) (t : Found) (f : File) (target : m.target ≡ Some t) (is : t.node ≡ nodes.File f) (led_to : at_name to.directory.names to.name ≡ Some t.birth) (apart : t.birth ≢ birth) (g : File) (file : r.found.node ≡ nodes.File g) where
    abbrev led : Change
    led = call.led tx v h.plain n h.born path other d done spare not_same t f target is led_to apart g file

    led_is : lead_name v1 to.parent to.name birth ≡ led
    led_is =
        let first = call.first tx v h.plain n h.born path other d done spare in
        let x = call.m1 tx v h.plain n h.born path other d done spare not_same t f target is led_to apart g file in
        let c = call.moved1 tx v h.plain n h.born path other d done spare not_same t f target is led_to apart g file in
        lead_name_is tx v1 first.steady.in_use first.settled first.slotted to.parent x.placed x.stands x.part x.is to.name t.birth (call.found1 tx v h.plain n h.born path other d done spare not_same t f target is led_to apart g file)
        (call.sorted1 tx v h.plain n h.born path other d done spare not_same t f target is led_to apart g file) birth c.0 c.1
        (call.entry tx v h.plain n h.born path other d done spare v1 first.steady.in_use (call.to_short tx v h.plain n h.born path other d done spare) c.0 c.1)

    replace_counted : Counted v (replace_in v tx from.parent from.name to.parent to.name birth t.birth) 12 520
    replace_counted =
        let y = call.y2 tx v h.plain n h.born path other d done spare not_same t f target is led_to apart g file in
        subst (λ c. Counted v c 12 520)
        (sym (ap (λ c. followed_by c (λ u. followed_by (lead_name u to.parent to.name birth) (λ w. lose_link w tx t.birth))) less_is ∙ ap (λ c. joined less (followed_by c (λ w. lose_link w tx t.birth))) led_is))
        (counted_more v _ 6 12 520 520 (omega arith) (omega arith)
        (counted_joined v less (followed_by led (λ w. lose_link w tx t.birth)) 2 4 0 520 less_counted
        (counted_then v1 led (λ w. lose_link w tx t.birth) 2 2 0 520 (subst (λ c. Counted v1 c 2 0) led_is (lead_counted v1 to.parent to.name birth))
        (lose_counted led.volume tx t.birth y.placed y.zones y.stands y.is))))

  -- ---- all of it

  abbrev by_move : Bool → Change
  by_move below = if below then move_below v from.parent from.name to.parent to.name birth else move_in v from.parent from.name to.parent to.name birth

  abbrev by_target : Option Found → Change
  by_target None = by_move (moves_directory m && changes_parent m)
  by_target (Some t) = replace_in v tx from.parent from.name to.parent to.name birth t.birth

  by_stays : stays m ≡ false → rename v tx path other ≡ by_target m.target
  by_stays not_same = call.rename_by tx v h.plain n h.born path other d done spare ∙ ap (λ (b : Bool). if b then unchanged v else by_target m.target) not_same

  same_counted : stays m ≡ true → Counted v (rename v tx path other) 12 520
  same_counted e = subst (λ c. Counted v c 12 520) (sym (call.rename_by tx v h.plain n h.born path other d done spare ∙ ap (λ (b : Bool). if b then unchanged v else by_target m.target) e)) (counted_none v 12 520)

  moved_as_found : Counted v (rename v tx path other) 12 520
  moved_as_found = elim (cases_Bool (stays m)) [
    | inl e ↦ same_counted e
    | inr not_same ↦ by not_same (met (tree_of_now v) plain path other d r)
  ]
    where
      within_one : stays m ≡ false → m.target ≡ None → at_name to.directory.names to.name ≡ None → (moves_directory m && changes_parent m) ≡ false → Counted v (rename v tx path other) 12 520
      within_one not_same none unnamed within =
          subst (λ c. Counted v c 12 520) (sym (by_stays not_same ∙ (ap by_target none ∙ ap by_move within))) (moved_counted not_same none unnamed within)

      free : stays m ≡ false → m.target ≡ None → at_name to.directory.names to.name ≡ None → What (tree_of_now v) plain path other d r → Counted v (rename v tx path other) 12 520
      free not_same none unnamed (a_fil f is) = within_one not_same none unnamed (ap (λ x. is_directory (Some x) && changes_parent m) is)
      free not_same none unnamed (a_dir e is up) = elim (cases_eq to.parent from.parent) [
        | inl inside ↦ within_one not_same none unnamed (ap (λ x. is_directory (Some x) && not (to.parent == from.parent)) is ∙ ap not (eq-eqb to.parent from.parent inside))
        | inr away ↦ subst (λ c. Counted v c 12 520)
            (sym (by_stays not_same ∙ (ap by_target none ∙ ap by_move (call.goes_below tx v h.plain n h.born path other d done spare not_same none unnamed e is away)))) (below_counted not_same none unnamed e is away)
      ]

      by : stays m ≡ false → Met (tree_of_now v) plain path other d r → Counted v (rename v tx path other) 12 520
      by not_same (itself e) = same_counted e
      by not_same (none_met none unnamed) = free not_same none unnamed (what (tree_of_now v) plain path other d r)
      by not_same (file_met t f target is led_to apart) =
          let w = call.file_moves tx v h.plain n h.born path other d done spare t f target is in
          subst (λ c. Counted v c 12 520) (sym (by_stays not_same ∙ ap by_target target)) (replace_counted not_same t f target is led_to apart w.0 w.1)

  pub rename_counted : Counted v (called v n tx (calls.Rename path other)).change 12 520
  unfolding changed
  rename_counted = subst (λ c. Counted v c 12 520) (sym (called_is tx v n (calls.Rename path other) d done)) moved_as_found
