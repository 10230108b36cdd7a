-- The blobs of clusters, and one more behind them.
use Rattle.std.proofs.Common.{◌≡◌, ◌∙◌, ap, sym, refl, subst, ℕ, ◌+◌, ◌≤◌, List, [], ◌∷◌, ◌++◌, length, arith}
use Rattle.std.proofs.lemmas.List.{length-map}
use Rattle.std.proofs.lemmas.List.Sums.{sum_by-cons}
use Rattle.std.specs.List.{AllByRecursion}
use Rattle.nt_types.specs.TreeData.{TreesData, no_trees, tree}
use Rattle.nt_grammar.specs.declared.rows.ColumnRow.{ColumnRow}
use Rattle.nt_grammar.specs.Table.{Table}
use Rattle.nt_machine.specs.History.{Cluster}
use Rattle.nt_book.specs.declared.meta.ClusterMeta.{ClusterMeta}
use Rattle.nt_book.specs.Books.{entry_count}
use Rattle.nt_layout.specs.Laid.{IsBlobOfEntries, AreBlobsOf, none_left, and_blob}
use Rattle.nt_finished.specs.LateFiles.{IsLateBlob, AreLateBlobs, no_blob, late_blob}
use Rattle.nt_finished.specs.LeftOut.{and_trees, filled, lacks_none}
use Rattle.nt_seq.specs.Written.{entries_of_clusters}

and_trees-none : (ts : TreesData) → and_trees ts no_trees ≡ ts
and_trees-none no_trees = refl
and_trees-none (tree t ts) = ap (tree t) (and_trees-none ts)

-- entries that lack no field are as they are
pub filled-none : (es : List TreesData) → filled no_trees es ≡ es
filled-none [] = refl
filled-none (e ∷ es) =
    ap (λ (x : TreesData). x ∷ filled no_trees es) (and_trees-none e) ∙ ap (λ (l : List TreesData). e ∷ l) (filled-none es)

entries-cons : (c : Cluster ClusterMeta) (cs : List (Cluster ClusterMeta)) → entry_count (c ∷ cs) ≡ c.meta.entries + entry_count cs
entries-cons c cs = sum_by-cons (λ (x : Cluster ClusterMeta). x.meta.entries) c cs

-- one more late blob
pub late-push : (t : Table) (page first : ℕ) (clusters : List (List TreesData)) (ranges : List (List ℕ)) (cs : List (Cluster ClusterMeta))
    (all : List TreesData) (range : List ℕ) (c : Cluster ClusterMeta) → AreLateBlobs t page first clusters ranges cs
    → IsLateBlob t page (first + entry_count cs) c range all
    → AreLateBlobs t page first (clusters ++ all ∷ []) (ranges ++ range ∷ []) (cs ++ c ∷ [])
late-push t page first clusters ranges cs all range c no_blob one =
    let same : first + 0 ≡ first = omega arith in
    late_blob (subst (λ (n : ℕ). IsLateBlob t page n c range all) same one) no_blob
late-push t page first clusters ranges cs all range c (late_blob {others = others} {ranges = left} {c = d} {cs = ds} head more) one =
    let same : first + entry_count (d ∷ ds) ≡ first + d.meta.entries + entry_count ds = omega (arith, entries-cons d ds) in
    late_blob head (late-push t page (first + d.meta.entries) others left ds all range c more
    (subst (λ (n : ℕ). IsLateBlob t page n c range all) same one))

-- one more blob
pub blobs-push : (t : Table) (page : ℕ) (clusters : List (List TreesData)) (ranges : List (List ℕ)) (cs : List (Cluster ClusterMeta))
    (all : List TreesData) (range : List ℕ) (c : Cluster ClusterMeta) → AreBlobsOf t page clusters ranges cs
    → IsBlobOfEntries t page all c.start range c.meta
    → AreBlobsOf t page (clusters ++ all ∷ []) (ranges ++ range ∷ []) (cs ++ c ∷ [])
blobs-push t page clusters ranges cs all range c none_left one = and_blob one none_left
blobs-push t page clusters ranges cs all range c (and_blob {others = others} {ranges = left} {cs = ds} head more) one =
    and_blob head (blobs-push t page others left ds all range c more one)

-- the blob of entries under the schema as it is
pub late-blob-now : (t : Table) (page first : ℕ) (c : Cluster ClusterMeta) (range : List ℕ) (entries : List TreesData)
    → IsBlobOfEntries t page entries c.start range c.meta → AllByRecursion (λ (r : ColumnRow). r.first ≤ first) t.columns
    → IsLateBlob t page first c range entries
late-blob-now t page first c range entries blob begun = record {
  table = t;
  entries = entries;
  zeros = no_trees;
  blob = blob;
  begun = begun;
  lacks = lacks_none;
  all_are = sym (filled-none entries);
}

blob-entries : (t : Table) (page first : ℕ) (c : Cluster ClusterMeta) (range : List ℕ) (all : List TreesData)
    → IsLateBlob t page first c range all → c.meta.entries ≡ length all
blob-entries t page first c range all is =
    ap (λ (m : ClusterMeta). m.entries) is.blob.meta_is
    ∙ (sym (length-map is.entries _) ∙ sym (ap length is.all_are))

-- there are as many clusters as blobs, and as many entries
pub late-length : (t : Table) (page first : ℕ) (clusters : List (List TreesData)) (ranges : List (List ℕ)) (cs : List (Cluster ClusterMeta))
    → AreLateBlobs t page first clusters ranges cs → length cs ≡ length clusters
late-length t page first clusters ranges cs no_blob = refl
late-length t page first clusters ranges cs (late_blob {others = others} {ranges = left} {c = d} {cs = ds} head more) =
    let rest = late-length t page (first + d.meta.entries) others left ds more in omega (arith, rest)

-- and as many ranges
pub late-ranges : (t : Table) (page first : ℕ) (clusters : List (List TreesData)) (ranges : List (List ℕ)) (cs : List (Cluster ClusterMeta))
    → AreLateBlobs t page first clusters ranges cs → length ranges ≡ length cs
late-ranges t page first clusters ranges cs no_blob = refl
late-ranges t page first clusters ranges cs (late_blob {others = others} {ranges = left} {c = d} {cs = ds} head more) =
    let rest = late-ranges t page (first + d.meta.entries) others left ds more in omega (arith, rest)

pub late-entries : (t : Table) (page first : ℕ) (clusters : List (List TreesData)) (ranges : List (List ℕ))
    (cs : List (Cluster ClusterMeta)) → AreLateBlobs t page first clusters ranges cs → entry_count cs ≡ entries_of_clusters clusters
late-entries t page first clusters ranges cs no_blob = refl
late-entries t page first clusters ranges cs
    (late_blob {all = es} {others = others} {range = r} {ranges = left} {c = d} {cs = ds} head more) =
    omega (
      arith,
      entries-cons d ds,
      blob-entries t page first d r es head,
      late-entries t page (first + d.meta.entries) others left ds more,
      sum_by-cons (λ (l : List TreesData). length l) es others,
    )
