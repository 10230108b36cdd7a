-- What is kept of all clusters of a script, of which the first ones are written.
use Rattle.std.proofs.Common.{◌≡◌, ◌∙◌, sym, refl, subst, inl, ℕ, ◌+◌, Bool, List, [], ◌∷◌, ◌++◌, length, map, Option, append_assoc}
use Rattle.std.specs.List.{AllZip}
use Rattle.nt_lists.specs.Chunks.{chunks}
use Rattle.nt_types.specs.TreeData.{TreesData}
use Rattle.nt_grammar.specs.Table.{Table}
use Rattle.nt_grammar.proofs.Added.{Added-one}
use Rattle.nt_book.specs.declared.meta.ClusterMeta.{ClusterMeta}
use Rattle.nt_book.specs.declared.params.Params.{Params}
use Rattle.nt_dealing.specs.Limits.{AreKeptOf, IsCountedOf}
use Rattle.nt_script.specs.Script.{BadScriptLine, Script, last_entries, and_field, with_entries}
use Rattle.nt_script.specs.Clusters.{GrowsByScript}
use Rattle.nt_script.specs.Reading.{Segment, segment_metas, behind_segments}
use Rattle.nt_script.specs.Taking.{GrowsBySegments}
use Rattle.nt_script.specs.Fitting.{CountsScript}
use Rattle.nt_script.proofs.WouldBe.{HasTypes, types-added, would_be, all-would-be}

-- what is kept counts
pub kept-counts : (t : Table) (page : ℕ) (cs : List (List TreesData)) (ms : List ClusterMeta) → AreKeptOf t page cs ms
    → AllZip (IsCountedOf t page) cs ms
kept-counts t page [] [] kept = tt
kept-counts t page [] (m ∷ ms) kept = absurd kept
kept-counts t page (c ∷ cs) [] kept = absurd kept
kept-counts t page (c ∷ cs) (m ∷ ms) kept = (inl kept.0, kept-counts t page cs ms kept.1)

pub zip_more : {A B : Type 0} (R : A → B → Type 0) (xs more : List A) (ys others : List B) → AllZip R xs ys → AllZip R more others
    → AllZip R (xs ++ more) (ys ++ others)
zip_more R [] more [] others all rest = rest
zip_more R [] more (y ∷ ys) others all rest = absurd all
zip_more R (x ∷ xs) more [] others all rest = absurd all
zip_more R (x ∷ xs) more (y ∷ ys) others all rest = (all.0, zip_more R xs more ys others all.1 rest)

-- a table grows by a script in one way
pub grows-one : (plain : Bool) (t : Table) (before : ℕ) (s : Script) (one other : Table) → GrowsByScript plain t before s one
    → GrowsByScript plain t before s other → one ≡ other
grows-one plain t before (last_entries es bad) one other first second = first ∙ sym second
grows-one plain t before (and_field es m rest) one other first second =
    let same = Added-one t m plain (before + length es) first.0 second.0 first.1 second.1 in
    grows-one plain second.0 (before + length es) rest one other
    (subst (λ (u : Table). GrowsByScript plain u (before + length es) rest one) same first.2) second.2

-- of a script none of whose clusters is written
pub counts-all : (p : Params) (t : Table) (before : ℕ) (s : Script) (new : Table) → HasTypes t → GrowsByScript p.plain t before s new
    → (metas : List ClusterMeta) × CountsScript p t before s metas
counts-all p t before (last_entries es bad) new has grows =
    (map (would_be t p.page has) (chunks p.cluster es), all-would-be t p.page has (chunks p.cluster es))
counts-all p t before (and_field es m rest) new has grows =
    let n = before + length es in
    let others = counts-all p grows.0 n rest new (types-added t m p.plain n grows.0 grows.1 has) grows.2 in
    let own = map (would_be t p.page has) (chunks p.cluster es) in
    (own ++ others.0, (grows.0, grows.1, (own, others.0, refl, all-would-be t p.page has (chunks p.cluster es), others.1)))

-- the entries with which a script begins
abbrev pub first_entries : Script → List TreesData
first_entries (last_entries es bad) = es
first_entries (and_field es m rest) = es

-- of one whose first clusters are written, of these entries
module _ (p : Params) (t : Table) (before : ℕ) (es : List TreesData) (cs : List (List TreesData)) (ms : List ClusterMeta)
    (has : HasTypes t) (counted : AllZip (IsCountedOf t p.page) cs ms) where
  with-more : (fs : List TreesData) → chunks p.cluster (es ++ fs) ≡ cs ++ chunks p.cluster fs
      → AllZip (IsCountedOf t p.page) (chunks p.cluster (es ++ fs)) (ms ++ map (would_be t p.page has) (chunks p.cluster fs))
  with-more fs split =
      subst (λ (l : List (List TreesData)). AllZip (IsCountedOf t p.page) l (ms ++ map (would_be t p.page has) (chunks p.cluster fs)))
      (sym split)
      (zip_more (IsCountedOf t p.page) cs (chunks p.cluster fs) ms (map (would_be t p.page has) (chunks p.cluster fs)) counted
      (all-would-be t p.page has (chunks p.cluster fs)))

  counts-with : (behind : Script) (new : Table)
      → chunks p.cluster (es ++ first_entries behind) ≡ cs ++ chunks p.cluster (first_entries behind)
      → GrowsByScript p.plain t before (with_entries es behind) new
      → (more : List ClusterMeta) × CountsScript p t before (with_entries es behind) (ms ++ more)
  counts-with (last_entries fs bad) new split grows = (map (would_be t p.page has) (chunks p.cluster fs), with-more fs split)
  counts-with (and_field fs m rest) new split grows =
      let n = before + length (es ++ fs) in
      let others = counts-all p grows.0 n rest new (types-added t m p.plain n grows.0 grows.1 has) grows.2 in
      let own = map (would_be t p.page has) (chunks p.cluster fs) in (
        own ++ others.0,
        (grows.0, grows.1, (ms ++ own, others.0, sym (append_assoc ms own others.0), with-more fs split, others.1)),
      )

-- of one whose first segments are written, and clusters of the next
pub counts-from : (p : Params) (t : Table) (before : ℕ) (segments : List Segment) (now new : Table) (es : List TreesData)
    (cs : List (List TreesData)) (ms : List ClusterMeta) (behind : Script) → HasTypes t → GrowsBySegments p t before segments now
    → GrowsByScript p.plain t before (behind_segments segments es behind) new
    → chunks p.cluster (es ++ first_entries behind) ≡ cs ++ chunks p.cluster (first_entries behind)
    → AllZip (IsCountedOf now p.page) cs ms
    → (more : List ClusterMeta) × CountsScript p t before (behind_segments segments es behind) (segment_metas segments ++ (ms ++ more))
counts-from p t before [] now new es cs ms behind has grown grows split counted =
    counts-with p t before es cs ms has (subst (λ (u : Table). AllZip (IsCountedOf u p.page) cs ms) grown counted) behind new split grows
counts-from p t before (s ∷ segments) now new es cs ms behind has grown grows split counted =
    let n = before + length s.entries in
    let same = Added-one t s.field p.plain n grows.0 grown.0 grows.1 grown.1 in
    let rest = counts-from p grown.0 n segments now new es cs ms behind (types-added t s.field p.plain n grown.0 grown.1 has) grown.3
    (subst (λ (u : Table). GrowsByScript p.plain u n (behind_segments segments es behind) new) same grows.2) split counted in (
      rest.0,
      (
        grown.0,
        grown.1,
        (
          s.metas,
          segment_metas segments ++ (ms ++ rest.0),
          append_assoc s.metas (segment_metas segments) (ms ++ rest.0),
          kept-counts t p.page (chunks p.cluster s.entries) s.metas grown.2,
          rest.1,
        ),
      ),
    )

-- and of one that is written
pub counts-written : (p : Params) (t : Table) (before : ℕ) (segments : List Segment) (now : Table) (es : List TreesData)
    (ms : List ClusterMeta) (bad : Option BadScriptLine) → GrowsBySegments p t before segments now
    → AreKeptOf now p.page (chunks p.cluster es) ms
    → CountsScript p t before (behind_segments segments [] (last_entries es bad)) (segment_metas segments ++ ms)
counts-written p t before [] now es ms bad grown kept =
    kept-counts t p.page (chunks p.cluster es) ms (subst (λ (u : Table). AreKeptOf u p.page (chunks p.cluster es) ms) grown kept)
counts-written p t before (s ∷ segments) now es ms bad grown kept = (
  grown.0,
  grown.1,
  (
    s.metas,
    segment_metas segments ++ ms,
    append_assoc s.metas (segment_metas segments) ms,
    kept-counts t p.page (chunks p.cluster s.entries) s.metas grown.2,
    counts-written p grown.0 (before + length s.entries) segments now es ms bad grown.3 kept,
  ),
)
