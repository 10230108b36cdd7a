-- The next cluster of a file, copied behind those before it.
use Rattle.std.proofs.Common.{◌≡◌, ◌∙◌, ap, sym, subst, ℕ, ◌+◌, ◌<◌, List, [], ◌∷◌, ◌++◌, length, take, drop, Option, Some}
use Rattle.std.proofs.Common.{None, Ok, Err, arith}
use Rattle.nt_num.specs.declared.fault.ReadError.{ReadError}
use Rattle.nt_types.specs.TreeData.{TreesData}
use Rattle.std.proofs.lemmas.List.{length-map}
use Rattle.nt_outside.specs.Disk.{DiskState}
use Rattle.nt_grammar.specs.Table.{Table}
use Rattle.nt_grammar.specs.declared.rows.ColumnRow.{ColumnRow}
use Rattle.nt_book.specs.declared.limits.LimitError.{LimitError}
use Rattle.nt_book.specs.declared.limits.LimitError.TheVariants as limit
use Rattle.nt_book.specs.declared.meta.ClusterMeta.{ClusterMeta}
use Rattle.nt_book.specs.declared.params.Params.{Params}
use Rattle.nt_book.specs.Books.{BookData, book_ranges, book_end}
use Rattle.nt_book.specs.Kept.{IsBookKept}
use Rattle.nt_book.specs.Limiting.{limit_error_with}
use Rattle.nt_commit.specs.declared.error.CommitError.TheVariants as commit
use Rattle.nt_commit.specs.Appending.{due_bytes}
use Rattle.nt_tfile.specs.declared.failure.ReadFailure.TheVariants as failure
use Rattle.nt_file_meaning.specs.Clusters.{cluster_of}
use Rattle.nt_file_meaning.specs.Outlines.{Outline}
use Rattle.nt_reader.specs.Outlines.{numbered_cluster}
use Rattle.nt_merge_limits.specs.Limits.{kept_metas, IsBookBeside, MergeOverBy}
use Rattle.nt_seq.proofs.Flat.{listed-flat}
use Rattle.nt_merge.specs.declared.copy_error.CopyError.{CopyError}
use Rattle.nt_merge.specs.declared.copy_error.CopyError.TheVariants.{Read, Commit}
use Rattle.nt_merge.specs.Copying.{AreOfFile, IsJoinable, HasMerged, CopiesCluster, IsReadOver, LeavesCluster, ToldUpTo, source_at}
use Rattle.nt_merge.specs.Fronts.{passed_by_copy}
use Rattle.nt_merge.specs.Merging.{Numbered, reading_of, readings, sound_numbered, copied_meta, copied_metas, refused_behind, first_refusal}
use Rattle.nt_merge.specs.Merging.{IsFirstMergeFault, IsFirstMergeLimit, IsMerging, HasCopies}
use Rattle.nt_merge.specs.Planning.{of_file}
use Rattle.nt_merge.proofs.First.{fault-first, copy-first, copy-fits}
use Rattle.nt_merge.proofs.Fronts.{copy-front, listed-next}
use Rattle.nt_merge.proofs.GoingOn.{copies-more, metas-more}
use Rattle.nt_merge.proofs.Numbering.{read-more, read-fault, sound-next}
use Rattle.nt_merge.proofs.Positions.{here, behind, next-here, take-next, drop-more, metas-append}

-- what a file passes where a cluster is put behind others, the whole file passes
abbrev pub AppendedPass : Type 0
AppendedPass =
    (t : Table) (p : Params) (book : BookData) → IsBookBeside t p book → (meta : ClusterMeta) (more : List ClusterMeta)
    (error : LimitError)
    → limit_error_with book.limits (book_end book) (length (book_ranges book)) meta.len (length (due_bytes book)) ≡ Some error
    → MergeOverBy t p (kept_metas book ++ meta ∷ more) error

module _ (t : Table) (p : Params) (given old : DiskState) (book : BookData) (is : IsMerging t p given old book) (file : ℕ) (b : List ℕ)
    (o : Outline) (ns : List Numbered) (at : ℕ) (is_of : AreOfFile file b o ns at) (k : ℕ) (less : k < length o.clusters) where
  abbrev n : Numbered
  n = here file b o ns at is_of k less

  abbrev rest : List Numbered
  rest = behind file b o ns at is_of k less

  next : drop (at + k) ns ≡ n ∷ rest
  next = next-here file b o ns at is_of k less

  read-as : (entries : List TreesData) → cluster_of b o.table k (numbered_cluster o k) ≡ Ok entries → reading_of n ≡ Ok entries
  read-as entries read = ap (of_file file) read

  module _ (columns : ℕ) (columns_are : columns ≡ length book.firsts) (able : IsJoinable t o.table) where
    pub as-many : columns ≡ length o.table.columns
    as-many =
        let firsts = ap length is.firsts in
        let long = length-map t.columns (λ (c : ColumnRow). c.first) in
        columns_are ∙ (sym firsts ∙ (long ∙ sym able.as_many))

    module _ (bytes : Option (List ℕ)) (told : bytes ≡ Some b) (new : DiskState) (book' : BookData)
        (has : HasMerged t p given old book ns (at + k)) (kept : IsBookKept book) where
      beside : IsBookBeside t p book
      beside = record {
        kept = kept;
        begin = is.closable.begin;
        limits = is.limits;
        beside = listed-flat t p book is.closable.noted is.not_staged is.untorn;
      }

      -- what is kept of the clusters so far
      abbrev metas : List ClusterMeta
      metas = copied_metas (take (at + k) ns)

      -- nothing is refused before the next one
      so-far : first_refusal t p ns ≡ refused_behind t p metas (n ∷ rest)
      so-far = has.reach ∙ ap (λ (l : List Numbered). refused_behind t p metas l) next

      -- the limit that a copy passes
      passed-here : (len : ℕ)
          → passed_by_copy t p metas len
          ≡ limit_error_with book.limits (book_end book) (length (book_ranges book)) len (length (due_bytes book))
      passed-here len =
          sym (copy-front t p book beside has.listed len
          ∙ ap (λ (ms : List ClusterMeta). passed_by_copy t p ms len) has.copies.metas)

      pub copied-on : CopiesCluster bytes o k columns old new book book' → HasMerged t p given new book' ns (at + (k + 1))
      copied-on copies =
          let one = copies.told b told as-many in
          let sum : at + k + 1 ≡ at + (k + 1) = omega arith in
          let all : metas ++ copied_meta n.source ∷ [] ≡ copied_metas (take (at + (k + 1)) ns) =
          sym (metas-append (take (at + k) ns) (n ∷ []))
          ∙ ap copied_metas (take-next ns (at + k) n rest next ∙ ap (λ (m : ℕ). take m ns) sum) in
          let left : rest ≡ drop (at + (k + 1)) ns =
          sym (ap (λ (l : List Numbered). drop 1 l) next)
          ∙ (sym (drop-more ns (at + k) 1) ∙ ap (λ (m : ℕ). drop m ns) sum) in
          let none : passed_by_copy t p metas (copied_meta n.source).len ≡ None =
          passed-here (copied_meta n.source).len
          ∙ (ap (λ (m : ClusterMeta). limit_error_with book.limits (book_end book) (length (book_ranges book)) m.len
          (length (due_bytes book))) (sym one.meta_is) ∙ copies.fits) in
          let more : take (at + k) ns ++ n ∷ [] ≡ take (at + (k + 1)) ns =
          take-next ns (at + k) n rest next ∙ ap (λ (m : ℕ). take m ns) sum in
          let lists : List (List TreesData) = has.lists ++ one.entries ∷ [] in
          record {
            lists = lists;
            read = subst (λ (l : List Numbered). readings l ≡ Ok lists) more
                (read-more ns (at + k) has.lists has.read n rest next one.entries (read-as one.entries one.read));
            copies = subst (λ (l : List Numbered). HasCopies t p given new book' l lists) more
                (copies-more t p given old new book book' copies.image copies.fits copies.next is n one.entries
                (one.copy t able.alike able.none_deferred) one.meta_is (take (at + k) ns) has.lists has.copies);
            listed = listed-next t p book beside book' copies.image.meta
                (ap (λ (c : BookData). c.lists) copies.next.appends.gains.same)
                (metas-more t p given old new book book' copies.image copies.fits copies.next is);
            reach = so-far
                ∙ (copy-fits t p rest metas n one.entries (read-as one.entries one.read) none
                ∙ (ap (λ (ms : List ClusterMeta). refused_behind t p ms rest) all
                ∙ ap (λ (l : List Numbered). refused_behind t p (copied_metas (take (at + (k + 1)) ns)) l) left));
          }

      fault-told : (e : ReadError) → cluster_of b o.table k (numbered_cluster o k) ≡ Err e → IsFirstMergeFault t p ns file e
      fault-told e read = record {
        fault = read-fault ns (at + k) has.lists has.read n rest next (file, e) (ap (of_file file) read);
        first = so-far ∙ fault-first t p rest metas n (file, e) (ap (of_file file) read);
      }

      module _ (pass : AppendedPass) where
        over-told : (error : LimitError) → IsReadOver (source_at b o k) k book (Some error) → IsFirstMergeLimit t p ns error
        over-told error over =
            let more = copied_metas (sound_numbered rest) in
            let sound : sound_numbered ns ≡ take (at + k) ns ++ n ∷ sound_numbered rest =
            sound-next ns (at + k) has.lists has.read n rest next over.entries (read-as over.entries over.read) in
            let same : kept_metas book ++ copied_meta n.source ∷ more ≡ copied_metas (sound_numbered ns) =
            ap (λ (ms : List ClusterMeta). ms ++ copied_meta n.source ∷ more) has.copies.metas
            ∙ sym (ap copied_metas sound ∙ metas-append (take (at + k) ns) (n ∷ sound_numbered rest)) in
            record {
              over = subst (λ (ms : List ClusterMeta). MergeOverBy t p ms error) same
                  (pass t p book beside (copied_meta n.source) more error over.passes);
              first = so-far
                  ∙ copy-first t p rest metas n over.entries error (read-as over.entries over.read)
                  (passed-here (copied_meta n.source).len ∙ over.passes);
            }

        -- what is told where it wasn't copied
        pub refusal-told : (all : ℕ) (e : CopyError) → LeavesCluster bytes o k columns old new book book' (Err e)
            → ToldUpTo file t p given new book' ns all (Err e)
        refusal-told all (Read (failure.Defect e)) left = fault-told e (left.read b told)
        refusal-told all (Read failure.Fault) left = tt
        refusal-told all (Read failure.Memory) left = tt
        refusal-told all (Commit commit.Memory) left = tt
        refusal-told all (Commit commit.Fault) left = tt
        refusal-told all (Commit (commit.RangeTooLarge len most)) left =
            over-told (limit.RangeTooLarge len most) (left.told b told as-many)
        refusal-told all (Commit (commit.FileTooLarge end most)) left =
            over-told (limit.FileTooLarge end most) (left.told b told as-many)
        refusal-told all (Commit commit.TooManyClusters) left = over-told limit.TooManyClusters (left.told b told as-many)
