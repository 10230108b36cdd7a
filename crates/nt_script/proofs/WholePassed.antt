-- A limit that a script passes where it is written line by line is passed by its whole file.
use Rattle.std.proofs.Common.{◌≡◌, ◌∙◌, ap, sym, refl, subst, ℕ, zero, suc, ◌+◌, ◌<◌, ◌≤◌, ◌==◌, Bool, true, false, List, []}
use Rattle.std.proofs.Common.{◌∷◌, ◌++◌, length, get_or, Some, None, if◌then◌else◌, append_assoc, sum_by, arith}
use Rattle.std.specs.Prelude.{nat_lt}
use Rattle.std.specs.List.{AllByRecursion, Contains}
use Rattle.std.proofs.lemmas.Bool.Decides.{nat_tests}
use Rattle.std.proofs.lemmas.List.{length-append}
use Rattle.std.proofs.lemmas.List.Elements.{Contains-push, Contains-append_left, Contains-append_right}
use Rattle.std.proofs.lemmas.List.Sums.{sum_by-append, sum_by-cons}
use Rattle.nt_lists.proofs.Variants.{some_is}
use Rattle.nt_types.specs.ShapeData.{MemberData}
use Rattle.nt_grammar.specs.Rows.{Rows}
use Rattle.nt_grammar.specs.Table.{Table}
use Rattle.nt_grammar.proofs.Listing.{Rows-one}
use Rattle.nt_book.specs.declared.limits.LimitError.{LimitError}
use Rattle.nt_book.specs.declared.limits.LimitError.TheVariants as limit
use Rattle.nt_book.specs.declared.meta.ClusterMeta.{ClusterMeta}
use Rattle.nt_book.specs.declared.params.Params.{Params}
use Rattle.nt_layout.specs.Headers.{clusters_place}
use Rattle.nt_close.specs.Passing.{passed_by_begin}
use Rattle.nt_dealing.specs.Lengths.{group_count, whole_len}
use Rattle.nt_script.specs.Script.{Script, last_entries}
use Rattle.nt_script.specs.Clusters.{GrowsByScript}
use Rattle.nt_script.specs.Reading.{segment_metas, behind_segments}
use Rattle.nt_script.specs.Limits.{TellsLimit, next_list_len, clusters_end, due_list_len, PassesHere, IsOverEnd, list_passed}
use Rattle.nt_script.specs.Limits.{footer_passed, end_passed}
use Rattle.nt_script.specs.Taking.{GrowsBySegments}
use Rattle.nt_script.specs.Passing.{PassesWriting, PassesClosing, PassesLimit, passes_begun, passes_writing}
use Rattle.nt_script.specs.Passing.{passes_closing}
use Rattle.nt_script.specs.Fitting.{CountsScript, FitsWhole, WholePasses, whole_begun, whole_cluster, whole_file, whole_count, whole_end}
use Rattle.nt_merge_limits.proofs.Lists.{AreFullLists, times-suc, groups-enough}
use Rattle.nt_merge_limits.proofs.Fronts.{front-within}
use Rattle.nt_script.proofs.Between.{next-stays, due-list, with-due}
use Rattle.nt_script.proofs.Segments.{grows-script}
use Rattle.nt_script.proofs.Headers.{header-described, place-grown}
use Rattle.nt_script.proofs.WouldBe.{types-described}
use Rattle.nt_script.proofs.HeaderPassed.{begun_passed, header_fits}
use Rattle.nt_script.proofs.Counted.{grows-one, counts-from, counts-written}
use Rattle.nt_script.proofs.Fronts.{all_full, split, counted}

module _ (fields : List MemberData) (p : Params) (s : Script) (reached most : ℕ) (first table : Table) (rows : Rows fields p.plain first)
    (grows : GrowsByScript p.plain first 0 s table) where
  -- ---- a cluster that passes a limit

  module _ (error : LimitError) (w : PassesWriting fields p s error) (tells : TellsLimit p error reached most) where
    abbrev here : PassesHere w.table p w.segments w.entries w.next error
    here = w.passes

    abbrev before : List ClusterMeta
    before = segment_metas w.segments ++ here.own

    grown : GrowsBySegments p first 0 w.segments w.table
    grown = subst (λ (t : Table). GrowsBySegments p t 0 w.segments w.table) (Rows-one fields p.plain w.first first w.rows rows) w.grows

    all : (more : List ClusterMeta)
        × CountsScript p first 0 s (segment_metas w.segments ++ ((here.own ++ here.meta ∷ []) ++ more))
    all =
        let counts = counts-from p first 0 w.segments w.table table w.entries
        (all_full w.table p w.segments w.entries w.next error here) (here.own ++ here.meta ∷ []) w.behind
        (types-described fields p.plain first rows) grown
        (subst (λ (x : Script). GrowsByScript p.plain first 0 x table) w.script_is grows)
        (split w.table p w.segments w.entries w.next error here w.behind w.written_next)
        (counted w.table p w.segments w.entries w.next error here) in (
          counts.0,
          subst (λ (x : Script). CountsScript p first 0 x (segment_metas w.segments ++ ((here.own ++ here.meta ∷ []) ++ counts.0)))
              (sym w.script_is) counts.1,
        )

    abbrev metas : List ClusterMeta
    metas = segment_metas w.segments ++ ((here.own ++ here.meta ∷ []) ++ all.0)

    abbrev g : ℕ
    g = p.group

    abbrev lists : ℕ
    lists = here.within.lists

    abbrev due : ℕ
    due = due_list_len g before lists

    metas-are : metas ≡ before ++ (here.meta ∷ all.0)
    metas-are =
        ap (λ (l : List ClusterMeta). segment_metas w.segments ++ l) (append_assoc here.own (here.meta ∷ []) all.0)
        ∙ sym (append_assoc (segment_metas w.segments) here.own (here.meta ∷ all.0))

    among : Contains metas here.meta
    among =
        Contains-append_right (segment_metas w.segments) ((here.own ++ here.meta ∷ []) ++ all.0) here.meta
        (Contains-append_left (here.own ++ here.meta ∷ []) all.0 here.meta (Contains-push here.own here.meta))

    abbrev len : ClusterMeta → ℕ
    len m = m.len

    places : clusters_place w.table ≡ clusters_place table
    places =
        place-grown p.plain first 0 (behind_segments w.segments [] (last_entries [] None)) w.table
        (header-described fields p.plain first rows)
        (grows-script p first 0 w.segments w.table [] None grown)
        ∙ sym (place-grown p.plain first 0 s table (header-described fields p.plain first rows) grows)

    sums : sum_by len metas ≡ sum_by len before + here.meta.len + sum_by len all.0
    sums =
        let one = sum_by-append len before (here.meta ∷ all.0) in
        let two = sum_by-cons len here.meta all.0 in
        omega (arith, one, two, ap (λ (l : List ClusterMeta). sum_by len l) metas-are)

    no_shorter : clusters_end w.table g before lists + due + here.meta.len ≤ whole_len table g metas
    no_shorter =
        let lens = with-due g before (here.meta ∷ all.0) lists here.within.between.full in
        let within = front-within table g metas lens.0 (omega (arith, p.group_range.0))
        (subst (λ (l : List ClusterMeta). AreFullLists g l lens.0) (sym metas-are) lens.2) in
        omega (arith, places, sums, within, lens.1)

    counts-are : length before < length metas
    counts-are =
        let one = length-append before (here.meta ∷ all.0) in
        omega (arith, one, ap (λ (l : List ClusterMeta). length l) metas-are)

    writing_passed : WholePasses first table p s reached most
    writing_passed =
        at (nat_lt p.limits.range here.meta.len) (nat_lt p.limits.range due)
        (nat_lt p.limits.file (clusters_end w.table g before lists + due + here.meta.len)) (length before == p.limits.clusters) error refl
        refl refl refl here.passed tells
      where
        at : (a b c d : Bool) (e : LimitError) → nat_lt p.limits.range here.meta.len ≡ a → nat_lt p.limits.range due ≡ b
            → nat_lt p.limits.file (clusters_end w.table g before lists + due + here.meta.len) ≡ c
            → (length before == p.limits.clusters) ≡ d
            → (if a then Some (limit.RangeTooLarge here.meta.len p.limits.range) else (if b then Some (limit.RangeTooLarge due
            p.limits.range) else (if c then Some (limit.FileTooLarge (clusters_end w.table g before lists + due + here.meta.len)
            p.limits.file) else (if d then Some limit.TooManyClusters else None)))) ≡ Some e
            → TellsLimit p e reached most → WholePasses first table p s reached most
        at true b c d e x y z u named told =
            let is = subst (λ (f : LimitError). TellsLimit p f reached most) (sym (some_is _ _ named)) told in
            whole_cluster metas here.meta all.1 among is.0 is.1 (grind (arith, nat_tests, x, is.0, is.1))
        at false true c d e x y z u named told =
            let is = subst (λ (f : LimitError). TellsLimit p f reached most) (sym (some_is _ _ named)) told in
            let above : p.limits.range < due = grind (arith, nat_tests, y) in
            let list = due-list g before lists (omega (arith, above)) in
            let some : 0 < g = omega (arith, p.group_range.0) in
            let low : suc lists ≤ group_count g (length metas) =
            groups-enough g (suc lists) (length metas) some (omega (arith, times-suc lists g, list.0, counts-are)) in
            whole_end metas all.1 (list_passed lists (omega (arith, low))
            (is.0 ∙ (list.1 ∙ sym (ap (λ (l : List ClusterMeta). next_list_len g l lists) metas-are
            ∙ next-stays g before (here.meta ∷ all.0) lists (omega (arith, list.0))))) is.1 (omega (arith, above, is.0, is.1)))
        at false false true d e x y z u named told =
            let is = subst (λ (f : LimitError). TellsLimit p f reached most) (sym (some_is _ _ named)) told in
            whole_file metas all.1 (omega (arith, is.0, no_shorter)) is.1 (grind (arith, nat_tests, z, is.0, is.1))
        at false false false true e x y z u named told =
            let is = subst (λ (f : LimitError). TellsLimit p f reached most) (sym (some_is _ _ named)) told in
            let full : length before ≡ p.limits.clusters = grind (arith, nat_tests, u) in
            whole_count metas all.1 is.1 (omega (arith, is.0, is.1)) (omega (arith, is.1, full, counts-are))
        at false false false false e x y z u named told = absurd (cc named)

  -- ---- what closes the file

  closing_passed : PassesClosing fields p s reached most → WholePasses first table p s reached most
  closing_passed c =
      let w = c.written in
      let grown = subst (λ (t : Table). GrowsBySegments p t 0 c.segments w.table) (Rows-one fields p.plain w.first first w.rows rows)
      w.grows in
      let same = grows-one p.plain first 0 s w.table table
      (subst (λ (x : Script). GrowsByScript p.plain first 0 x w.table) (sym c.script_is)
      (grows-script p first 0 c.segments w.table c.entries None grown)) grows in
      whole_end (segment_metas c.segments ++ w.own)
      (subst (λ (x : Script). CountsScript p first 0 x (segment_metas c.segments ++ w.own)) (sym c.script_is)
      (counts-written p first 0 c.segments w.table c.entries w.own None grown w.kept))
      (subst (λ (t : Table). IsOverEnd t p (segment_metas c.segments ++ w.own) reached most) same c.over)

  pub whole_passed : PassesLimit fields p s reached most → WholePasses first table p s reached most
  whole_passed (passes_begun t error described passed tells) =
      begun_passed fields p s reached most first table rows grows error
      (subst (λ (u : Table). passed_by_begin p.limits u ≡ Some error) (Rows-one fields p.plain t first described rows) passed) tells
  whole_passed (passes_writing error w tells) = writing_passed error w tells
  whole_passed (passes_closing c) = closing_passed c

-- a script that passes a limit has the rows of its fields
pub passed_rows : (fields : List MemberData) (p : Params) (s : Script) (reached most : ℕ) → PassesLimit fields p s reached most
    → (t : Table) × Rows fields p.plain t
passed_rows fields p s reached most (passes_begun t error described passed tells) = (t, described)
passed_rows fields p s reached most (passes_writing error w tells) = (w.first, w.rows)
passed_rows fields p s reached most (passes_closing c) = (c.written.first, c.written.rows)

-- ---- a whole that fits

short_at : (most : ℕ) (ms : List ClusterMeta) (i : ℕ) (m : ClusterMeta) → AllByRecursion (λ (x : ClusterMeta). x.len ≤ most) ms
    → i < length ms → get_or ms i m ≡ m → m.len ≤ most
short_at most [] i m all less is = absurd (omega (arith, less))
short_at most (x ∷ ms) zero m all less is = subst (λ (y : ClusterMeta). y.len ≤ most) is all.0
short_at most (x ∷ ms) (suc i) m all less is = short_at most ms i m all.1 (omega (arith, less)) is

short_one : (most : ℕ) (ms : List ClusterMeta) (m : ClusterMeta) → AllByRecursion (λ (x : ClusterMeta). x.len ≤ most) ms → Contains ms m
    → m.len ≤ most
short_one most ms m all has = short_at most ms has.0 m all has.1 has.2

-- passes none
pub fits_none : (fields : List MemberData) (p : Params) (s : Script) (reached most : ℕ) → FitsWhole fields p s
    → PassesLimit fields p s reached most → ⊥
fits_none fields p s reached most fits passes =
    at (whole_passed fields p s reached most fits.first fits.table fits.rows fits.grows passes)
  where
    at_end : (metas : List ClusterMeta) → CountsScript p fits.first 0 s metas → IsOverEnd fits.table p metas reached most → ⊥
    at_end metas counts (list_passed k less is limit_is above) =
        let within = (fits.whole metas counts).lists k less in omega (arith, within, is, limit_is, above)
    at_end metas counts (footer_passed is limit_is above) =
        let within = (fits.whole metas counts).footer in omega (arith, within, is, limit_is, above)
    at_end metas counts (end_passed is limit_is above) =
        let within = (fits.whole metas counts).file in omega (arith, within, is, limit_is, above)

    at : WholePasses fits.first fits.table p s reached most → ⊥
    at (whole_begun is limit_is above) =
        let within = header_fits p.limits fits.first fits.header in omega (arith, within, is, limit_is, above)
    at (whole_cluster metas m counts has is limit_is above) =
        let within = short_one p.limits.range metas m (fits.whole metas counts).clusters has in omega (arith, within, is, limit_is, above)
    at (whole_file metas counts le limit_is above) =
        let within = (fits.whole metas counts).file in omega (arith, within, le, limit_is, above)
    at (whole_count metas counts limit_is is above) =
        let within = (fits.whole metas counts).few in omega (arith, within, limit_is, above)
    at (whole_end metas counts over) = at_end metas counts over
