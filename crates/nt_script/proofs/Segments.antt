-- The clusters of segments, and the tables that their fields make.
use Rattle.std.proofs.Common.{◌≡◌, ℕ, ◌+◌, ◌<◌, List, [], ◌∷◌, ◌++◌, length, map, Option, refl, sym, ap, ◌∙◌}
use Rattle.std.proofs.Common.{subst, append_assoc, append-nil, arith}
use Rattle.std.specs.List.{flat_map}
use Rattle.std.proofs.lemmas.List.{length-append, length-map, map-append}
use Rattle.std.proofs.lemmas.List.Sums.{sum_by-append, sum_by-cons}
use Rattle.nt_lists.specs.Chunks.{chunks}
use Rattle.nt_lists.proofs.Groups.{chunks-joined}
use Rattle.nt_types.specs.ShapeData.{MemberData, parts_of}
use Rattle.nt_types.specs.TreeData.{TreesData, tree}
use Rattle.nt_grammar.specs.Added.{Added}
use Rattle.nt_grammar.specs.Table.{Table}
use Rattle.nt_book.specs.declared.meta.ClusterMeta.{ClusterMeta}
use Rattle.nt_book.specs.declared.params.Params.{Params}
use Rattle.nt_dealing.specs.Limits.{AreKeptOf}
use Rattle.nt_finished.specs.LeftOut.{and_trees, filled}
use Rattle.nt_finished.specs.Zeros.{zero_tree, zero_parts}
use Rattle.nt_seq.specs.Written.{entries_of_clusters, zero_behind}
use Rattle.nt_seq.proofs.Grown.{filled-filled}
use Rattle.nt_script.specs.Script.{BadScriptLine, last_entries}
use Rattle.nt_script.specs.Clusters.{bad_line, fields_of_script, clusters_before, script_clusters, GrowsByScript}
use Rattle.nt_script.specs.Reading.{Segment, segment_fields, segment_metas, behind_segments}
use Rattle.nt_script.specs.Taking.{clusters_of_segments, GrowsBySegments}

-- zeros behind entries

zero_parts-next : (later : List MemberData) (m : MemberData)
    → zero_parts (parts_of (later ++ m ∷ [])) ≡ and_trees (zero_parts (parts_of later)) (zero_behind m)
zero_parts-next [] m = refl
zero_parts-next (p ∷ later) m = ap (λ (x : TreesData). tree (zero_tree p.of) x) (zero_parts-next later m)

chunks_filled : (us vs : TreesData) (cs : List (List TreesData)) → map (filled vs) (map (filled us) cs) ≡ map (filled (and_trees us vs)) cs
chunks_filled us vs [] = refl
chunks_filled us vs (c ∷ cs) =
    ap (λ (x : List TreesData). x ∷ map (filled vs) (map (filled us) cs)) (filled-filled us vs c)
    ∙ ap (λ (l : List (List TreesData)). filled (and_trees us vs) c ∷ l) (chunks_filled us vs cs)

before-next : (most : ℕ) (later : List MemberData) (m : MemberData) (es : List TreesData)
    → clusters_before most (later ++ m ∷ []) es ≡ map (filled (zero_behind m)) (clusters_before most later es)
before-next most later m es =
    ap (λ (z : TreesData). map (filled z) (chunks most es)) (zero_parts-next later m)
    ∙ sym (chunks_filled (zero_parts (parts_of later)) (zero_behind m) (chunks most es))

fields-next : (segments : List Segment) (s : Segment) → segment_fields (segments ++ s ∷ []) ≡ segment_fields segments ++ s.field ∷ []
fields-next segments s = map-append (λ (x : Segment). x.field) segments (s ∷ [])

-- with one segment more, all clusters have the zero of its field
pub segments-next : (most : ℕ) (segments : List Segment) (s : Segment)
    → clusters_of_segments most (segments ++ s ∷ [])
    ≡ map (filled (zero_behind s.field)) (clusters_of_segments most segments ++ chunks most s.entries)
segments-next most [] s = append-nil (clusters_before most (s.field ∷ []) s.entries)
segments-next most (q ∷ segments) s =
    let own = clusters_before most (q.field ∷ segment_fields segments) q.entries in
    let rest = clusters_of_segments most segments in
    let f : List TreesData → List TreesData = filled (zero_behind s.field) in
    ap (λ (l : List MemberData). clusters_before most (q.field ∷ l) q.entries ++ clusters_of_segments most (segments ++ s ∷ []))
    (fields-next segments s)
    ∙ (ap (λ (l : List (List TreesData)). l ++ clusters_of_segments most (segments ++ s ∷ []))
    (before-next most (q.field ∷ segment_fields segments) s.field q.entries)
    ∙ (ap (λ (l : List (List TreesData)). map f own ++ l) (segments-next most segments s)
    ∙ (sym (map-append f own (rest ++ chunks most s.entries))
    ∙ ap (λ (l : List (List TreesData)). map f l) (sym (append_assoc own rest (chunks most s.entries))))))

fields-script : (segments : List Segment) (es : List TreesData) (bad : Option BadScriptLine)
    → fields_of_script (behind_segments segments [] (last_entries es bad)) ≡ segment_fields segments
fields-script [] es bad = refl
fields-script (s ∷ segments) es bad = ap (λ (l : List MemberData). s.field ∷ l) (fields-script segments es bad)

-- the clusters of a script are those of its segments, and of the entries behind the last of them
pub script-segments : (most : ℕ) (segments : List Segment) (es : List TreesData) (bad : Option BadScriptLine)
    → script_clusters most (behind_segments segments [] (last_entries es bad)) ≡ clusters_of_segments most segments ++ chunks most es
script-segments most [] es bad = refl
script-segments most (s ∷ segments) es bad =
    ap (λ (l : List MemberData). clusters_before most (s.field ∷ l) s.entries
    ++ script_clusters most (behind_segments segments [] (last_entries es bad))) (fields-script segments es bad)
    ∙ (ap (λ (l : List (List TreesData)). clusters_before most (s.field ∷ segment_fields segments) s.entries ++ l)
    (script-segments most segments es bad)
    ∙ sym (append_assoc (clusters_before most (s.field ∷ segment_fields segments) s.entries) (clusters_of_segments most segments)
    (chunks most es)))

pub bad-segments : (segments : List Segment) (es : List TreesData) (bad : Option BadScriptLine)
    → bad_line (behind_segments segments [] (last_entries es bad)) ≡ bad
bad-segments [] es bad = refl
bad-segments (s ∷ segments) es bad = bad-segments segments es bad

-- how many entries segments have
abbrev pub entries_of_segments : List Segment → ℕ
entries_of_segments [] = 0
entries_of_segments (s ∷ segments) = length s.entries + entries_of_segments segments

entries-filled : (zeros : TreesData) (cs : List (List TreesData)) → entries_of_clusters (map (filled zeros) cs) ≡ entries_of_clusters cs
entries-filled zeros [] = refl
entries-filled zeros (c ∷ cs) =
    let size : length (filled zeros c) ≡ length c = length-map c (λ ts. and_trees ts zeros) in
    omega (
      arith,
      size,
      sum_by-cons (λ (es : List TreesData). length es) (filled zeros c) (map (filled zeros) cs),
      sum_by-cons (λ (es : List TreesData). length es) c cs,
      entries-filled zeros cs,
    )

entries-joined : (cs : List (List TreesData)) → length (flat_map (λ (c : List TreesData). c) cs) ≡ entries_of_clusters cs
entries-joined [] = refl
entries-joined (c ∷ cs) =
    omega (
      arith,
      length-append c (flat_map (λ (d : List TreesData). d) cs),
      sum_by-cons (λ (es : List TreesData). length es) c cs,
      entries-joined cs,
    )

pub entries-chunks : (most : ℕ) (es : List TreesData) → 0 < most → entries_of_clusters (chunks most es) ≡ length es
entries-chunks most es some =
    sym (entries-joined (chunks most es)) ∙ ap (λ (l : List TreesData). length l) (chunks-joined most es some)

pub entries-segments : (most : ℕ) (segments : List Segment) → 0 < most
    → entries_of_clusters (clusters_of_segments most segments) ≡ entries_of_segments segments
entries-segments most [] some = refl
entries-segments most (s ∷ segments) some =
    let zeros = zero_parts (parts_of (s.field ∷ segment_fields segments)) in
    omega (
      arith,
      sum_by-append (λ (es : List TreesData). length es) (clusters_before most (s.field ∷ segment_fields segments) s.entries)
          (clusters_of_segments most segments),
      entries-filled zeros (chunks most s.entries),
      entries-chunks most s.entries some,
      entries-segments most segments some,
    )

-- a table that grew by segments grew by their script
pub grows-script : (p : Params) (t : Table) (before : ℕ) (segments : List Segment) (new : Table) (es : List TreesData)
    (bad : Option BadScriptLine) → GrowsBySegments p t before segments new
    → GrowsByScript p.plain t before (behind_segments segments [] (last_entries es bad)) new
grows-script p t before [] new es bad grows = grows
grows-script p t before (s ∷ segments) new es bad grows =
    (grows.0, grows.1, grows-script p grows.0 (before + length s.entries) segments new es bad grows.3)

-- and by one segment more
pub grows-next : (p : Params) (t : Table) (before : ℕ) (segments : List Segment) (u : Table) (s : Segment) (new : Table)
    → GrowsBySegments p t before segments u
    → Added u s.field p.plain (before + entries_of_segments segments + length s.entries) new
    → AreKeptOf u p.page (chunks p.cluster s.entries) s.metas → GrowsBySegments p t before (segments ++ s ∷ []) new
grows-next p t before [] u s new grows added kept =
    let none : before + 0 + length s.entries ≡ before + length s.entries = omega arith in (
      new,
      subst (λ (v : Table). Added v s.field p.plain (before + length s.entries) new) grows
          (subst (λ (n : ℕ). Added u s.field p.plain n new) none added),
      subst (λ (v : Table). AreKeptOf v p.page (chunks p.cluster s.entries) s.metas) grows kept,
      refl,
    )
grows-next p t before (q ∷ segments) u s new grows added kept =
    let count : before + (length q.entries + entries_of_segments segments) + length s.entries
    ≡ before + length q.entries + entries_of_segments segments + length s.entries = omega arith in (
      grows.0,
      grows.1,
      grows.2,
      grows-next p grows.0 (before + length q.entries) segments u s new grows.3
          (subst (λ (n : ℕ). Added u s.field p.plain n new) count added) kept,
    )

-- what is kept of segments, and of one more
pub metas-next : (segments : List Segment) (s : Segment) → segment_metas (segments ++ s ∷ []) ≡ segment_metas segments ++ s.metas
metas-next [] s = append-nil s.metas
metas-next (q ∷ segments) s =
    ap (λ (l : List ClusterMeta). q.metas ++ l) (metas-next segments s)
    ∙ sym (append_assoc q.metas (segment_metas segments) s.metas)
