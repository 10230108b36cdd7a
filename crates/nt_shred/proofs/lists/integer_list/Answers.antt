use Rattle.std.proofs.Common.{◌+◌, ◌∷◌, [], arith}
use Rattle.nt_types.specs.TreeData.{trees_of}
use Rattle.nt_event.specs.Standing.{StandsFrom}
use Rattle.nt_plans.specs.Plan.{number}
use Rattle.nt_trees.specs.Columns.{last_end}
use Rattle.nt_trees.specs.Put.{how_many_trees}
use Rattle.nt_trees.specs.Sound.{Sound}
use Rattle.nt_trees.specs.Views.{cols_of}
use Rattle.nt_shred.specs.Walk.{PutsAll}
use Rattle.nt_shred.proofs.Arms.{list-sound}
use Rattle.nt_shred.proofs.LineArms.{list-ready, list-put}
use Rattle.nt_shred.proofs.lists.integer_list.Goals as goal

pub returns : goal.returns
returns c =
    let ends = c.args.ends in
    let p = number c.args.of.column c.args.of.bits c.args.of.signed in
    let line = c.args.line.now in
    let at = c.args.at in
    let first = c.in_ok-first.first in
    let end = c.in_ok-end.end in
    let old = c.args.out.now in
    let now = c.integer_items.new.out in
    let begin : StandsFrom (91 ∷ []) line at first = c.in_ok-first.ensures in
    let h : PutsAll p line first end old now = c.in_ok-end.ensures in
    let size = last_end (cols_of old ends) + how_many_trees (trees_of h.found) in
    let sound : Sound p (cols_of now) size =
    list-sound ends p (trees_of h.found) old now (list-ready ends p line at first end old now begin c.requires.can h) h.gains in
    list-put ends p line at first end old now begin c.requires.can h c.push_end.new.out c.len-last.result c.push_end.ensures
    (omega (arith, c.len-last.ensures, sound))
