-- Directories one after the other, and all of them: where there is room, and what is written.
use Rattle.std.specs.Prelude.{◌≡◌, ◌≢◌, ℕ, ◌+◌, ◌-◌, ◌||◌, nat_lt, Bool, true, false, if◌then◌else◌, List, [], ◌∷◌, ◌++◌, length, Result, Ok, Err, OnOk, IfOk, IfErr, refl}
use Rattle.std.proofs.Common.{sym, ap, ◌∙◌, inl, inr, arith}
use Rattle.std.proofs.lemmas.Bool.{cases_Bool, eq-eqb, ne_eqb, lt-ltb, le-ltb, ltb-true, ltb-false}
use Rattle.std.proofs.lemmas.List.{length-drop}
use Rattle.minix_layout.specs.declared.division.Geometry.{Geometry}
use Rattle.minix_layout.specs.declared.inode.Inode.{Inode}
use Rattle.tree_model.specs.declared.node.Node.{Node}
use Rattle.tree_model.specs.declared.node.Node.TheVariants as nodes
use Rattle.tree_model.specs.declared.node.Directory.{Directory}
use Rattle.volume_ops.specs.Places.{inode_of_birth}
use Rattle.volume_ops.specs.VolumeFields.{inode_at}
use Rattle.volume_ops.specs.Volume.{VolumeState, put_nodes, walked, tree_found, tree_of}
use Rattle.volume_ops.specs.Walk.{Walked}
use Rattle.volume_ops.specs.Zones.{Fault}
use Rattle.volume_ops.specs.laws.ReadsLaws.{err-ok, same_Ok}
use Rattle.volume_model.specs.Edits.{Edit, edited, edited_all}
use Rattle.widening.specs.declared.fault.WidenFault.{WidenFault}
use Rattle.widening.specs.declared.fault.WidenFault.TheVariants as faults
use Rattle.widening.specs.Directories.{zones_needed, directories, edits_of, left_by, all_edits, beyond, all_beyond, has_too_many, has_no_room, free_zones}
use Rattle.widening.specs.Widened.{wide, magic_edit, with_directories, by_walk, widened}
use Rattle.widening.specs.code.Faults.{IsToldBy}
use Rattle.widening.proofs.Needs.{same_need}
use Rattle.widening.specs.code.Steps.{Widening, taken_by, after_one, node_written, nodes_written}

-- ---- all directories

pub edited_append : (g : Geometry) (blocks : List (List ℕ)) (es fs : List Edit) → edited_all g blocks (es ++ fs) ≡ edited_all g (edited_all g blocks es) fs
edited_append g blocks [] fs = refl
edited_append g blocks (e ∷ es) fs = edited_append g (edited g blocks e) es fs

-- the image alone
abbrev pub image_of : Result Widening WidenFault → Result (List (List ℕ)) WidenFault
image_of (Ok w) = Ok w.image
image_of (Err fault) = Err fault

-- one that has room, or has none, before others
one_has_none : (many more : Bool) (free own rest : ℕ) → (many || nat_lt free own) ≡ true → ((many || more) || nat_lt free (own + rest)) ≡ true
one_has_none true more free own rest e = refl
one_has_none false true free own rest e = refl
one_has_none false false free own rest e = lt-ltb free (own + rest) (let less = ltb-true free own e in omega (arith, less))

one_has_room : (many more : Bool) (free own rest : ℕ) → (many || nat_lt free own) ≡ false → ((many || more) || nat_lt free (own + rest)) ≡ (more || nat_lt (free - own) rest)
one_has_room true more free own rest e = absurd (cc)
one_has_room false true free own rest e = refl
one_has_room false false free own rest e =
    let enough = ltb-false free own e in
    elim (cases_Bool (nat_lt (free - own) rest)) [
      | inl less ↦ lt-ltb free (own + rest) (let low = ltb-true (free - own) rest less in omega (arith, low, enough)) ∙ sym less
      | inr fine ↦ le-ltb free (own + rest) (let high = ltb-false (free - own) rest fine in omega (arith, high, enough)) ∙ sym fine
    ]

module _ (g : Geometry) (blocks : List (List ℕ)) where
  abbrev outcome : List (ℕ × Directory) → Widening → Result (List (List ℕ)) WidenFault
  outcome ds w = if has_no_room g blocks ds w.free then Err faults.NoRoom else Ok (edited_all g w.image (all_edits g blocks ds w.free))

  module _ (birth : ℕ) (d : Directory) (es : List (ℕ × Node)) (w : Widening) where
    abbrev number : ℕ
    number = inode_of_birth birth

    abbrev inode : Inode
    inode = inode_at g blocks number

    abbrev needed : ℕ
    needed = zones_needed (length d.names)

    abbrev next : Widening
    next = record { image = edited_all g w.image (edits_of g blocks number d w.free); free = left_by g blocks number d w.free }

    own_is : taken_by inode blocks needed ≡ beyond inode blocks needed
    own_is = same_need inode blocks needed

    left_is : length next.free ≡ length w.free - beyond inode blocks needed
    left_is = length-drop (taken_by inode blocks needed) w.free ∙ ap (λ n. length w.free - n) own_is

    one_first : image_of (nodes_written g blocks es next) ≡ outcome (directories es) next → (test : Bool) → (nat_lt 519 needed || nat_lt (length w.free) (taken_by inode blocks needed)) ≡ test →
        image_of (after_one (nodes_written g blocks es) (if test then Err faults.NoRoom else Ok next)) ≡ outcome ((number, d) ∷ directories es) w
    one_first others true e =
        sym (ap (λ b. if b then Err faults.NoRoom else Ok (edited_all g w.image (all_edits g blocks ((number, d) ∷ directories es) w.free)))
        (one_has_none (nat_lt 519 needed) (has_too_many (directories es)) (length w.free) (beyond inode blocks needed) (all_beyond g blocks (directories es))
        (ap (λ n. nat_lt 519 needed || nat_lt (length w.free) n) (sym own_is) ∙ e)))
    one_first others false e =
        let room : has_no_room g blocks ((number, d) ∷ directories es) w.free ≡ has_no_room g blocks (directories es) next.free =
        one_has_room (nat_lt 519 needed) (has_too_many (directories es)) (length w.free) (beyond inode blocks needed) (all_beyond g blocks (directories es))
        (ap (λ n. nat_lt 519 needed || nat_lt (length w.free) n) (sym own_is) ∙ e)
        ∙ ap (λ n. has_too_many (directories es) || nat_lt n (all_beyond g blocks (directories es))) (sym left_is) in
        others
        ∙ (ap (λ b. if b then Err faults.NoRoom else Ok (edited_all g next.image (all_edits g blocks (directories es) next.free))) (sym room)
        ∙ ap (λ image. if has_no_room g blocks ((number, d) ∷ directories es) w.free then Err faults.NoRoom else Ok image)
        (sym (edited_append g w.image (edits_of g blocks number d w.free) (all_edits g blocks (directories es) next.free))))

  pub all_written : (es : List (ℕ × Node)) (w : Widening) → image_of (nodes_written g blocks es w) ≡ outcome (directories es) w
  all_written [] w = ap (λ b. if b then Err faults.NoRoom else Ok w.image) (sym (le-ltb (length w.free) 0 (omega arith)))
  all_written ((birth, nodes.File f) ∷ es) w = all_written es w
  all_written ((birth, nodes.Other mode) ∷ es) w = all_written es w
  all_written ((birth, nodes.Directory d) ∷ es) w = one_first birth d es w (all_written es (next birth d es w)) _ refl

-- ---- nodes one after the other

pub nodes_next : (g : Geometry) (blocks : List (List ℕ)) (es next : List (ℕ × Node)) (birth : ℕ) (node : Node) (w u : Widening) (total : Result Widening WidenFault) → es ≡ (birth, node) ∷ next →
    node_written g blocks birth node w ≡ Ok u → nodes_written g blocks es w ≡ total → nodes_written g blocks next u ≡ total
nodes_next g blocks es next birth node w u total steps written so_far =
    sym (ap (after_one (nodes_written g blocks next)) written) ∙ (sym (ap (λ fs. nodes_written g blocks fs w) steps) ∙ so_far)

-- ---- the image

has_walk : (g : Geometry) (blocks : List (List ℕ)) (tree : List (ℕ × Node)) (r : Result Walked Fault) → walked g blocks ≡ r → tree_found blocks r ≡ Ok tree → (all : Walked) × (walked g blocks ≡ Ok all) × (put_nodes blocks all.nodes [] ≡ tree)
has_walk g blocks tree (Ok all) is e = (all, is, same_Ok (put_nodes blocks all.nodes []) tree e)
has_walk g blocks tree (Err fault) is e = absurd (err-ok fault tree e)

pub wide_already : (v : VolumeState) (image : List (List ℕ)) → v.geometry.width ≡ 30 → widened v image ≡ Ok image
unfolding widened
wide_already v image e = ap (λ b. if b then Ok image else by_walk v.geometry v.blocks image (walked v.geometry v.blocks)) (eq-eqb v.geometry.width 30 e)

pub by_nodes : (v : VolumeState) (image first : List (List ℕ)) (tree : List (ℕ × Node)) (free : List ℕ) → v.geometry.width ≢ 30 → tree_of v.geometry v.blocks ≡ Ok tree →
    ((all : Walked) → walked v.geometry v.blocks ≡ Ok all → free ≡ free_zones v.geometry v.blocks all.zones) → first ≡ edited (wide v.geometry) image magic_edit →
    image_of (nodes_written (wide v.geometry) v.blocks tree (record { image = first; free = free })) ≡ widened v image
unfolding widened
by_nodes v image first tree free narrow read are_free magic =
    let x = has_walk v.geometry v.blocks tree (walked v.geometry v.blocks) refl read in
    all_written (wide v.geometry) v.blocks tree (record { image = first; free = free })
    ∙ (ap (λ i. if has_no_room (wide v.geometry) v.blocks (directories tree) free then Err faults.NoRoom else Ok (edited_all (wide v.geometry) i (all_edits (wide v.geometry) v.blocks (directories tree) free))) magic
    ∙ (ap (λ zs. with_directories (wide v.geometry) v.blocks image (directories tree) zs) (are_free x.0 x.1)
    ∙ (ap (λ t. with_directories (wide v.geometry) v.blocks image (directories t) (free_zones v.geometry v.blocks x.0.zones)) (sym x.2)
    ∙ (sym (ap (by_walk v.geometry v.blocks image) x.1)
    ∙ sym (ap (λ b. if b then Ok image else by_walk v.geometry v.blocks image (walked v.geometry v.blocks)) (ne_eqb v.geometry.width 30 narrow))))))

pub ok_after : (r : Result (Unit {0}) WidenFault) (w : Result Widening WidenFault) (s : Result (List (List ℕ)) WidenFault) (u : Widening) → image_of w ≡ s → OnOk r (w ≡ Ok u) → OnOk r (s ≡ Ok u.image)
ok_after (Ok x) w s u e h = sym e ∙ ap image_of h
ok_after (Err fault) w s u e h = tt

pub told_after : (r : Result (Unit {0}) WidenFault) (w : Result Widening WidenFault) (s : Result (List (List ℕ)) WidenFault) → image_of w ≡ s → IfErr r (IsToldBy w) → IfErr r (IsToldBy s)
told_after (Ok x) w s e h = tt
told_after (Err faults.NoRoom) w s e h = sym e ∙ ap image_of h
told_after (Err faults.NoMemory) w s e h = tt
told_after (Err faults.ReadFault) w s e h = h
told_after (Err (faults.DeviceFailed id)) w s e h = h
told_after (Err (faults.Image fault block)) w s e h = h

pub ok_always : {A E : Type 0} (r : Result A E) (P : Type 0) → P → IfOk r (λ _. P)
ok_always (Ok a) P p = p
ok_always (Err e) P p = tt
