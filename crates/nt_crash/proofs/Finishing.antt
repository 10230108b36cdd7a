-- What a crash leaves of a file that is closed: the finished file, as it is read.
use Rattle.std.proofs.Common.{◌≡◌, ◌∙◌, ap, sym, subst, ℕ, List, ◌++◌, map, length, take, arith}
use Rattle.std.proofs.Common.{Bool, inl, inr}
use Rattle.std.specs.Prelude.{◌⊎◌}
use Rattle.std.specs.List.{concat}
use Rattle.std.proofs.lemmas.List.{length-append, map-append}
use Rattle.nt_lists.specs.Parts.{Part, part_bytes}
use Rattle.nt_num.specs.Codes.{unfinished}
use Rattle.nt_num.specs.Faults.{fault}
use Rattle.nt_outside.specs.Log.{Step}
use Rattle.nt_outside.specs.Held.{Held}
use Rattle.nt_outside.specs.Reads.{exactly, known_of, IsKnown}
use Rattle.nt_container.specs.Spelling.{begun}
use Rattle.nt_container.proofs.Gate.{begin-len}
use Rattle.nt_types.specs.TreeData.{TreesData}
use Rattle.nt_grammar.specs.Table.{Table}
use Rattle.nt_grammar.specs.ReadingBack.{IsDescribed}
use Rattle.nt_machine.specs.declared.entry.Entry.{Entry}
use Rattle.nt_machine.specs.History.{Cluster, ranges_of}
use Rattle.nt_machine.specs.Legal.{IsLegal}
use Rattle.nt_logged.specs.Logs.{IsLogOf}
use Rattle.nt_book.specs.declared.meta.ClusterMeta.{ClusterMeta}
use Rattle.nt_book.specs.Books.{BookData, book_ranges, book_clusters}
use Rattle.nt_file_meaning.specs.Files.{HasDefect, Means}
use Rattle.nt_layout.specs.Headers.{header_object, header_blob, clusters_place, file_begun}
use Rattle.nt_layout.specs.Finished.{finished}
use Rattle.nt_layout.specs.Arranged.{HasLists, parts_filled}
use Rattle.nt_finished.specs.Filled.{IsArrangedBook, FillsBook}
use Rattle.nt_finished.proofs.Standing.{length-blob}
use Rattle.nt_layout.specs.Laid.{AreBlobsOf, Measures, AreMeasures, IsWithin, IsBookOf, IsLaid, range_of}
use Rattle.nt_close.specs.Steps.{IsClosedSoFar, closed_on}
use Rattle.nt_close.specs.Filled.{filled_file, closing_tail, closing_front}
use Rattle.nt_close.proofs.Crashes.{begun-leaves, closing-leaves as filled-leaves, closed-leaves as filled-only}
use Rattle.nt_cuts.specs.Cuts.{WritesFirst, LeavesUnfinished, LeavesUnfinishedOr, LeavesOnly}
use Rattle.nt_cuts.proofs.Keeping.{StepsStand}
use Rattle.nt_cuts.proofs.Reading.{read-shut}
use Rattle.nt_crash.specs.Fillings.{begun_file, IsFilled, IsFilledWith, IsWrittenSoFar}
use Rattle.nt_crash.specs.Fillings.IsWrittenSoFar.{in_beginning, in_filling, in_closing}
use Rattle.nt_crash.proofs.Filling.{filling-shut}

-- a log that fills a book is known: its front, the bytes of its ranges, and the page lists between them
abbrev pub FilledKnown : Type 0
FilledKnown =
    (staged : Bool) (t : Table) (most : ℕ) (book : BookData) (ranges : List (List ℕ)) (log steps : List Step) (front : List ℕ) (end : ℕ)
    (history : List (Entry ClusterMeta)) (lists : List Part) (torn : List ℕ) → IsArrangedBook staged t most book ranges
    → IsKnown log front → length front ≡ clusters_place t → IsLegal (length front) history
    → IsLogOf (length front) end history lists torn steps → FillsBook staged t most book ranges history end lists
    → IsKnown (log ++ steps) (front ++ concat (part_bytes (parts_filled staged t book most ranges)))

begun-known : (t : Table) → IsKnown (begun_file t).log (file_begun t)
begun-known t = sym (map-append exactly (begun 0 0 0) (header_blob t))

begun-length : (t : Table) → length (file_begun t) ≡ clusters_place t
begun-length t = omega (arith, length-append (begun 0 0 0) (header_blob t), begin-len 0 0 0, length-blob 226 (header_object t))

-- a file that was filled is known byte by byte
pub filled-known : FilledKnown → (staged : Bool) (t : Table) (most : ℕ) (book : BookData) (ranges : List (List ℕ)) (log : List Step)
    → IsArrangedBook staged t most book ranges → IsFilled staged t most book ranges log
    → IsKnown log (filled_file staged t book most ranges)
filled-known all_told staged t most book ranges log arranged filled =
    let f = filled.filling in
    let place = sym (begun-length t) in
    ap (λ (l : List Step). known_of l) f.is
    ∙ all_told staged t most book ranges (begun_file t).log f.steps (file_begun t) f.end f.history f.lists f.torn arranged (begun-known t)
    (begun-length t) (subst (λ (n : ℕ). IsLegal n f.history) place f.legal)
    (subst (λ (n : ℕ). IsLogOf n f.end f.history f.lists f.torn f.steps) place f.is_log) filled.fills

module _ (stand : StepsStand ClusterMeta) (told : FilledKnown) (staged : Bool) (t : Table) (book : BookData) (most : ℕ)
    (ranges : List (List ℕ)) (arranged : IsArrangedBook staged t most book ranges) (h : Held)
    (filled : IsFilled staged t most book ranges h.log) where
  pub closing-leaves : (left : Held) → IsClosedSoFar (closing_tail staged t book most) (closing_front staged t book most) h left
      → LeavesUnfinishedOr (λ (bytes : List ℕ). bytes ≡ finished staged t book most ranges) left.log
  closing-leaves left closed =
      filled-leaves staged t book most ranges arranged h (filled-known told staged t most book ranges h.log arranged filled)
      (filling-shut stand t h.log filled.filling) left closed

  pub closed-leaves : LeavesOnly (λ (bytes : List ℕ). bytes ≡ finished staged t book most ranges)
      (closed_on (closing_tail staged t book most) (closing_front staged t book most) h).log
  closed-leaves =
      filled-only staged t book most ranges arranged h (filled-known told staged t most book ranges h.log arranged filled)

-- the finished file, as it is read
abbrev pub FilesMean : Type 0
FilesMean =
    (file : List ℕ) (t : Table) (clusters : List (List TreesData)) (m : Measures) → IsDescribed t → AreMeasures m
    → IsLaid file t clusters m → Means file t clusters

-- a finished file with page lists where its book has them is laid out
abbrev pub LaidArranged : Type 0
LaidArranged =
    (file : List ℕ) (t : Table) (clusters : List (List TreesData)) (m : Measures) (ranges : List (List ℕ)) (book : BookData)
    → IsBookOf t book → HasLists m.staged t m.group book → IsWithin t m book
    → length (book_clusters book) ≡ length (book_ranges book)
    → map length ranges ≡ map (λ (c : Cluster ClusterMeta). c.len) (ranges_of book.history)
    → AreBlobsOf t m.page clusters (map (range_of ranges) (book_clusters book)) (book_clusters book)
    → file ≡ finished m.staged t book m.group ranges → IsLaid file t clusters m

module _ (stand : StepsStand ClusterMeta) (told : FilledKnown) (laid : LaidArranged) (mean : FilesMean) (t : Table)
    (clusters : List (List TreesData)) (m : Measures) (book : BookData) (is : IsDescribed t) (measures : AreMeasures m) where
  arranged-book : (h : Held) (filled : IsFilledWith t clusters m book h.log) → IsArrangedBook m.staged t m.group book filled.ranges
  arranged-book h filled = record {
    kept = filled.is_of.kept;
    lists = filled.listed;
    begin = filled.is_of.begin;
    lens = filled.lens;
  }

  finished-means : (h : Held) (filled : IsFilledWith t clusters m book h.log) (bytes : List ℕ)
      → bytes ≡ finished m.staged t book m.group filled.ranges → Means bytes t clusters
  finished-means h filled bytes same =
      mean bytes t clusters m is measures
      (laid bytes t clusters m filled.ranges book filled.is_of filled.listed filled.within filled.all filled.lens filled.blobs_are same)

  pub entries-kept : (h : Held) → IsFilledWith t clusters m book h.log
      → LeavesOnly (λ (bytes : List ℕ). Means bytes t clusters)
      (closed_on (closing_tail m.staged t book m.group) (closing_front m.staged t book m.group) h).log
  entries-kept h filled bytes may =
      finished-means h filled bytes
      (closed-leaves stand told m.staged t book m.group filled.ranges (arranged-book h filled) h filled.filled bytes may)

  -- what the file means, if anything
  abbrev MeansAll : List ℕ → Type 0
  MeansAll bytes = Means bytes t clusters

  unless-first : (log : List Step) → LeavesUnfinished log → LeavesUnfinishedOr MeansAll log
  unless-first log leaves k bytes has may = inl (leaves k bytes has may)

  closing-means : (h left : Held) → IsFilledWith t clusters m book h.log
      → IsClosedSoFar (closing_tail m.staged t book m.group) (closing_front m.staged t book m.group) h left
      → LeavesUnfinishedOr MeansAll left.log
  closing-means h left filled closed k bytes has may =
      at (closing-leaves stand told m.staged t book m.group filled.ranges (arranged-book h filled) h filled.filled left closed
      k bytes has may)
    where
      at : HasDefect bytes (fault unfinished 0) ⊎ (WritesFirst (take k left.log)
          × (bytes ≡ finished m.staged t book m.group filled.ranges))
          → HasDefect bytes (fault unfinished 0) ⊎ (WritesFirst (take k left.log) × MeansAll bytes)
      at (inl none) = inl none
      at (inr whole) = inr (whole.0, finished-means h filled bytes whole.1)

  pub entries-left : (left : Held) → IsWrittenSoFar t clusters m book left → LeavesUnfinishedOr MeansAll left.log
  entries-left left (in_beginning begun) = unless-first left.log (begun-leaves t left begun)
  entries-left left (in_filling filling) = unless-first left.log (read-shut left.log (filling-shut stand t left.log filling))
  entries-left left (in_closing {h = h} filled closed) = closing-means h left filled closed
