-- A finished file is read as its outline.
use Rattle.std.proofs.Common.{◌≡◌, ℕ, ◌+◌, ◌≤◌, List, map, length, Ok, refl, sym, ap, ◌∙◌, arith}
use Rattle.std.proofs.lemmas.List.{length-map}
use Rattle.nt_container.specs.declared.anchor.Anchor.{Anchor}
use Rattle.nt_container.specs.Anchors.{anchor_of}
use Rattle.nt_grammar.specs.declared.rows.ColumnRow.{ColumnRow}
use Rattle.nt_grammar.specs.Table.{Table}
use Rattle.nt_grammar.specs.ReadingBack.{IsDescribed}
use Rattle.nt_types.specs.TreeData.{TreesData}
use Rattle.nt_book.specs.Books.{BookData, book_clusters}
use Rattle.nt_pagelists.specs.declared.group.Group.{Group}
use Rattle.nt_pagelists.specs.declared.cluster.ClusterList.{ClusterList}
use Rattle.nt_pagelists.specs.PageLists.{ProgressCounts}
use Rattle.nt_pagelists.specs.Books.{progress_before}
use Rattle.nt_file_meaning.specs.Outlines.{known_columns, no_progress, groups_clusters, described_of, outline_of}
use Rattle.nt_layout.specs.Headers.{header_sum}
use Rattle.nt_layout.specs.Groups.{list_groups}
use Rattle.nt_layout.specs.Finished.{list_places, anchor_of_file, finished}
use Rattle.nt_layout.specs.Laid.{Measures, AreMeasures, IsWithin, IsLaid, range_of}
use Rattle.nt_finished.specs.Listed.{AreListsOf}
use Rattle.nt_finished.specs.Ranged.{IsRangedBook}
use Rattle.nt_pagelists.specs.SoundBooks.{HasSoundClusters}
use Rattle.nt_finished.proofs.Headers.{header_sum-below, lists-in_order, lists-short, lists-stand, anchor-reads, described}
use Rattle.nt_finished.proofs.Sound.{sound_clusters}
use Rattle.nt_finished.proofs.Lists.{AreRead, groups_read, progress-none}

outline-chain : (file : List ℕ) (a : Anchor) (t : Table) (gs : List Group) (sum : ℕ) (ks : List ClusterList) → anchor_of file ≡ Ok a
    → described_of file a ≡ Ok (t, gs, sum)
    → groups_clusters file sum (known_columns t) gs (no_progress (length t.columns)) ≡ Ok ks
    → outline_of file ≡ Ok (record { table = t; clusters = ks })
unfolding outline_of
outline-chain file a t gs sum ks p q r = rw (p, q, r) refl

pub ranged-outlined : (t : Table) (m : Measures) (ranges : List (List ℕ)) (book : BookData) → IsDescribed t → AreMeasures m
    → IsRangedBook m.staged t m.group book ranges → IsWithin t m book
    → ((from count : ℕ) → from + count ≤ length (book_clusters book) → HasSoundClusters (known_columns t) book from count)
    → (lists : List ClusterList) × (outline_of (finished m.staged t book m.group ranges) ≡ Ok (record { table = t; clusters = lists }))
    × AreListsOf book 0 (length (book_clusters book)) lists
ranged-outlined t m ranges book is measures of within sound =
    let file = finished m.staged t book m.group ranges in
    let ls = list_places m.staged t book m.group in
    let gs = list_groups (header_sum t) book ls in
    let read : AreRead file (header_sum t) (known_columns t) book (header_sum-below t) sound gs 0 (length (book_clusters book)) =
    groups_read file (header_sum t) (known_columns t) book (header_sum-below t)
    sound (length (book_clusters book)) 0 ls (omega arith)
    (lists-in_order t m ranges book is measures of within)
    (lists-short t m ranges book is measures of within) (lists-stand t m ranges book is measures of within) in
    let long : length t.columns ≡ length book.firsts = sym (length-map t.columns (λ (c : ColumnRow). c.first)) ∙ ap length of.firsts in
    let begins : no_progress (length t.columns) ≡ progress_before book 0 = progress-none book (length t.columns) long in (
      read.lists,
      outline-chain file (anchor_of_file t book ls) t gs (header_sum t) read.lists
          (anchor-reads t m ranges book is measures of within) (described t m ranges book is measures of within)
          (ap (λ (p : ProgressCounts). groups_clusters file (header_sum t) (known_columns t) gs p) begins ∙ read.reads),
      read.are,
    )

-- what is laid out has a book whose ranges stand in the file
pub laid-ranged : (file : List ℕ) (t : Table) (clusters : List (List TreesData)) (m : Measures) → (laid : IsLaid file t clusters m)
    → IsRangedBook m.staged t m.group laid.book laid.ranges
laid-ranged file t clusters m laid = record {
  kept = laid.is_of.kept;
  begin = laid.is_of.begin;
  firsts = laid.is_of.firsts;
  lens = laid.lens;
  behind = laid.behind;
}

pub outlined : (file : List ℕ) (t : Table) (clusters : List (List TreesData)) (m : Measures) → IsDescribed t
    → AreMeasures m → (laid : IsLaid file t clusters m)
    → (lists : List ClusterList) × (outline_of file ≡ Ok (record { table = t; clusters = lists }))
    × AreListsOf laid.book 0 (length (book_clusters laid.book)) lists
outlined file t clusters m is measures laid =
    let read = ranged-outlined t m laid.ranges laid.book is measures (laid-ranged file t clusters m laid) laid.within
    (sound_clusters t m.page measures.page laid.is_of.none_deferred laid.book clusters
    (map (range_of laid.ranges) (book_clusters laid.book)) laid.is_of laid.blobs_are) in
    (read.0, ap (λ (f : List ℕ). outline_of f) laid.is ∙ read.1, read.2)
