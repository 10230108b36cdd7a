-- Groups and their clusters can be counted: what was read of them says so.
use Rattle.std.proofs.Common.{◌≡◌, ℕ, zero, suc, ◌+◌, ◌<◌, ◌^◌, cond, ltb, List, [], ◌∷◌, ◌++◌, Result, Ok, Err, sym, ap, subst, ◌∙◌}
use Rattle.std.specs.Int.{w32, w64}
use Rattle.std.proofs.lemmas.Bool.{ltb-true}
use Rattle.std.proofs.lemmas.List.{append_assoc, append-nil}
use Rattle.nt_num.specs.Place.{At}
use Rattle.nt_num.specs.Cursor.{little}
use Rattle.nt_num.specs.Codes.{bad_group}
use Rattle.nt_num.specs.Faults.{fault}
use Rattle.nt_num.specs.declared.fault.ReadError.{ReadError}
use Rattle.nt_lists.proofs.Chaining.{bind_ok, guard_passed}
use Rattle.nt_lists.proofs.Variants.{ok_is}
use Rattle.nt_format.specs.Reading.{placed}
use Rattle.nt_format.specs.Frames.{record_at, list_at}
use Rattle.nt_pagelists.specs.declared.group.Group.{Group}
use Rattle.nt_grammar.specs.Table.{Table}
use Rattle.nt_pagelists.specs.ClusterGroups.{minimum_entry_at, entry_span_at, cluster_count_at, group_link_at, group_at, groups_on}
use Rattle.nt_pagelists.specs.ClusterGroups.{groups_at}
use Rattle.nt_pagelists.specs.Footers.{feature_flags_at, extension_at, footer_at}
use Rattle.nt_pagelists.specs.PageLists.{header_sum_at}
use Rattle.nt_reader.specs.Steps.{CanBeCounted, AreCounted}

-- the number of entries of a group fits
span-fits : (entries frame : ℕ) (here : At) (w : ℕ × At) → entry_span_at entries frame here ≡ Ok w → entries + w.0 < 2 ^ 64
unfolding entry_span_at
span-fits entries frame here w e =
    let test : ℕ × At → Result (ℕ × At) ReadError = λ word. cond (ltb (entries + word.0) (2 ^ 64)) (Ok word) (Err (fault bad_group frame))
    in
    let word = bind_ok (placed (little w64 here)) test w e in
    let passed = guard_passed (ltb (entries + word.0.0) (2 ^ 64)) (fault bad_group frame) (Ok word.0) w word.2 in
    subst (λ (x : ℕ × At). entries + x.0 < 2 ^ 64) (ok_is {E = ReadError} word.0 w passed.1) (ltb-true _ _ passed.0)

-- so does that of its clusters
count-fits : (clusters frame : ℕ) (here : At) (w : ℕ × At) → cluster_count_at clusters frame here ≡ Ok w → clusters + w.0 < 2 ^ 32
unfolding cluster_count_at
count-fits clusters frame here w e =
    let test : ℕ × At → Result (ℕ × At) ReadError = λ word. cond (ltb (clusters + word.0) (2 ^ 32)) (Ok word)
    (Err (fault bad_group frame)) in
    let word = bind_ok (placed (little w32 here)) test w e in
    let passed = guard_passed (ltb (clusters + word.0.0) (2 ^ 32)) (fault bad_group frame) (Ok word.0) w word.2 in
    subst (λ (x : ℕ × At). clusters + x.0 < 2 ^ 32) (ok_is {E = ReadError} word.0 w passed.1) (ltb-true _ _ passed.0)

group-fits : (entries clusters : ℕ) (here : At) (g : Group × At) → group_at entries clusters here ≡ Ok g → CanBeCounted entries clusters g.0
unfolding group_at
group-fits entries clusters here g e =
    let frame = bind_ok (placed (record_at here)) _ g e in
    let first = bind_ok (minimum_entry_at entries here.place frame.0.0) _ g frame.2 in
    let span = bind_ok (entry_span_at entries here.place first.0.1) _ g first.2 in
    let count = bind_ok (cluster_count_at clusters here.place span.0.1) _ g span.2 in
    let link = bind_ok (group_link_at here.place count.0.1) _ g count.2 in
    let made : Group × At = (record { first = first.0.0; span = span.0.0; clusters = count.0.0; link = link.0.0 }, frame.0.1) in
    subst (λ (x : Group × At). CanBeCounted entries clusters x.0) (ok_is {E = ReadError} made g link.2)
    (record { low = span-fits entries here.place first.0.1 span.0 span.1; few = count-fits clusters here.place span.0.1 count.0 count.1 })

-- groups that were read behind others can be counted
groups_on-fit : (n entries clusters : ℕ) (gs : List Group) (here : At) (all : List Group × At)
    → groups_on n entries clusters gs here ≡ Ok all
    → (rest : List Group) × (all.0 ≡ gs ++ rest) × AreCounted entries clusters rest
groups_on-fit zero entries clusters gs here all e =
    ([], ap (λ (x : List Group × At). x.0) (sym (ok_is {E = ReadError} (gs, here) all e)) ∙ sym (append-nil gs), tt)
groups_on-fit (suc n) entries clusters gs here all e =
    let g = bind_ok (group_at entries clusters here) (λ g. groups_on n (entries + g.0.span) (clusters + g.0.clusters) (gs ++ g.0 ∷ [])
    g.1) all e in
    let r = groups_on-fit n (entries + g.0.0.span) (clusters + g.0.0.clusters) (gs ++ g.0.0 ∷ []) g.0.1 all g.2 in
    (g.0.0 ∷ r.0, r.1 ∙ append_assoc gs (g.0.0 ∷ []) r.0, (group-fits entries clusters here g.0 g.1, r.2))

groups-fit : (here : At) (all : List Group × At) → groups_at here ≡ Ok all → AreCounted 0 0 all.0
unfolding groups_at
groups-fit here all e =
    let list = bind_ok (placed (list_at here)) _ all e in
    let gs = bind_ok (groups_on list.0.0.0 0 0 [] list.0.0.1) _ all list.2 in
    let r = groups_on-fit list.0.0.0 0 0 [] list.0.0.1 gs.0 gs.1 in
    let made : List Group × At = (gs.0.0, list.0.1) in
    subst (λ (x : List Group × At). AreCounted 0 0 x.0) (ok_is {E = ReadError} made all gs.2) (subst (AreCounted 0 0) (sym r.1) r.2)

-- the groups of a footer can be counted
pub footer-fits : (sum : ℕ) (t : Table) (here : At) (whole : Table × List Group) → footer_at sum t here ≡ Ok whole
    → AreCounted 0 0 whole.1
unfolding footer_at
footer-fits sum t here whole e =
    let flags = bind_ok (feature_flags_at here) _ whole e in
    let word = bind_ok (header_sum_at sum flags.0.1) _ whole flags.2 in
    let more = bind_ok (extension_at t word.0.1) _ whole word.2 in
    let gs = bind_ok (groups_at more.0.1) _ whole more.2 in
    let made : Table × List Group = (more.0.0, gs.0.0) in
    subst (λ (x : Table × List Group). AreCounted 0 0 x.1) (ok_is {E = ReadError} made whole gs.2) (groups-fit more.0.1 gs.0 gs.1)
