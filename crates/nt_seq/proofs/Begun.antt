-- A writer whose file is begun.
use Rattle.std.proofs.Common.{◌≡◌, ◌∙◌, ap, sym, refl, subst, ℕ, ◌≤◌, List, [], ◌∷◌, map, length, replicate, Bool, true, false, Some}
use Rattle.std.proofs.Common.{None, if◌then◌else◌, arith}
use Rattle.std.specs.Prelude.{nat_lt}
use Rattle.std.proofs.lemmas.Bool.{ltb-false}
use Rattle.std.specs.List.{AllByRecursion}
use Rattle.nt_types.specs.ShapeData.{MemberData}
use Rattle.nt_outside.specs.Held.{Held, Becomes, WhereHeld, nothing_held}
use Rattle.nt_outside.specs.Disk.{DiskState}
use Rattle.nt_container.specs.Spelling.{begun}
use Rattle.nt_grammar.specs.declared.rows.ColumnRow.{ColumnRow}
use Rattle.nt_grammar.specs.Table.{Table}
use Rattle.nt_machine.specs.History.{Cluster}
use Rattle.nt_book.specs.declared.limits.Limits.{Limits}
use Rattle.nt_book.specs.declared.limits.LimitError.TheVariants.{RangeTooLarge, FileTooLarge}
use Rattle.nt_book.specs.declared.meta.ClusterMeta.{ClusterMeta}
use Rattle.nt_book.specs.declared.params.Params.{Params}
use Rattle.nt_book.specs.Books.{BookData, book_ranges, book_clusters, book_end, entry_count}
use Rattle.nt_schema.specs.Whole.{AreWhole}
use Rattle.nt_pagelists.specs.Blobs.{blob_len}
use Rattle.nt_pagelists.proofs.Named.{clusters-unstaged}
use Rattle.nt_lists.specs.Parts.{part_bytes}
use Rattle.nt_layout.specs.Beside.{parts_so_far}
use Rattle.nt_layout.specs.Headers.{header_blob, header_object, clusters_place}
use Rattle.nt_layout.specs.Laid.{AreBlobsOf, none_left}
use Rattle.nt_close.proofs.NewBooks.{new-noted, new-untorn}
use Rattle.nt_close.specs.Beginning.{IsBegun}
use Rattle.nt_close.specs.Closing.{IsClosable}
use Rattle.nt_close.specs.Passing.{passed_by_begin}
use Rattle.nt_close.specs.Steps.{begun_on}
use Rattle.nt_finished.specs.LateFiles.{AreLateBlobs, no_blob}
use Rattle.nt_column.specs.Column.{Column}
use Rattle.nt_grammar.specs.ReadingBack.{IsDescribed}
use Rattle.nt_seq.specs.Standing.{IsSettledCluster, IsShortCluster, IsFitToBegin, IsWriting}
use Rattle.nt_seq.specs.Written.{file_so_far, HasClusters}
use Rattle.nt_seq.proofs.AddedRows.{described-first}

firsts-none : (rows : List ColumnRow) → AllByRecursion (λ (c : ColumnRow). c.first ≡ 0) rows
    → map (λ (c : ColumnRow). c.first) rows ≡ replicate (length rows) 0
firsts-none [] none = refl
firsts-none (c ∷ rows) none =
    ap (λ (n : ℕ). n ∷ map (λ (r : ColumnRow). r.first) rows) none.0 ∙ ap (λ (l : List ℕ). 0 ∷ l) (firsts-none rows none.1)

begun-none : (entries : ℕ) (rows : List ColumnRow) → AllByRecursion (λ (c : ColumnRow). c.first ≡ 0) rows
    → AllByRecursion (λ (c : ColumnRow). c.first ≤ entries) rows
begun-none entries [] none = tt
begun-none entries (c ∷ rows) none = let first = none.0 in (omega (arith, first), begun-none entries rows none.1)

-- a file that is begun ends within the limit
header-ends : (limits : Limits) (t : Table) → passed_by_begin limits t ≡ None → clusters_place t ≤ limits.file
header-ends limits t none =
    at (nat_lt limits.range (blob_len (length (header_object t)))) (nat_lt limits.file (clusters_place t)) refl none
  where
    at : (a b : Bool) → nat_lt limits.file (clusters_place t) ≡ b
        → (if a then Some (RangeTooLarge (blob_len (length (header_object t))) limits.range)
        else if b then Some (FileTooLarge (clusters_place t) limits.file) else None) ≡ None
        → clusters_place t ≤ limits.file
    at true b above is = absurd (cc is)
    at false true above is = absurd (cc is)
    at false false above is = ltb-false limits.file (clusters_place t) above

module _ (fields : List MemberData) (p : Params) (given new : DiskState) (book : BookData) (t : Table)
    (flat : p.staged ≡ false) (is : IsBegun fields p given new book t) (empty : WhereHeld given.held (λ (h : Held). h ≡ nothing_held)) where
  pub held-begun : Becomes given.held new.held (λ h. file_so_far t [])
  held-begun h told = is.held h told ∙ ap (λ (k : Held). Some (begun_on (begun 0 0 0) (header_blob t) k)) (empty h told)

  -- no cluster is staged
  pub unstaged-begun : book.staged ≡ false
  unstaged-begun = ap (λ (b : BookData). b.staged) is.book_is ∙ flat

  none-yet : book_clusters book ≡ []
  none-yet = clusters-unstaged book unstaged-begun ∙ ap book_ranges is.book_is

  -- no cluster is written
  pub clusters-none : HasClusters given new t p book []
  clusters-none = record {
    ranges = [];
    late = subst (λ (cs : List (Cluster ClusterMeta)). AreLateBlobs t p.page 0 [] [] cs) (sym none-yet) no_blob;
    first = λ first. subst (λ (cs : List (Cluster ClusterMeta)). AreBlobsOf t p.page [] [] cs) (sym none-yet) none_left;
    held = subst (λ (b : BookData). Becomes given.held new.held (λ h. file_so_far t (part_bytes (parts_so_far t b p.group []))))
        (sym is.book_is) held-begun;
  }

  pub closable-begun : given.out ≡ [] → AreWhole t → IsClosable new book t p
  closable-begun out whole = record {
    begin = ap (λ (b : BookData). b.begin) is.book_is;
    noted = new-noted t p book is.book_is;
    end = let ends = ap book_end is.book_is in omega (arith, is.end, ends);
    out = is.out ∙ out;
    whole = whole;
  }

  pub firsts-begun : map (λ (c : ColumnRow). c.first) t.columns ≡ book.firsts
  firsts-begun =
      firsts-none t.columns (described-first fields p.plain t is.rows) ∙ sym (ap (λ (b : BookData). b.firsts) is.book_is)

  pub columns-begun : AllByRecursion (λ (c : ColumnRow). c.first ≤ entry_count (book_clusters book)) t.columns
  columns-begun = begun-none (entry_count (book_clusters book)) t.columns (described-first fields p.plain t is.rows)

  pub settled-begun : AllByRecursion IsSettledCluster (book_clusters book)
  settled-begun = subst (λ (cs : List (Cluster ClusterMeta)). AllByRecursion IsSettledCluster cs) (sym none-yet) tt

  -- the header ends within the limit
  pub ends-begun : book_end book ≤ p.limits.file
  ends-begun = omega (arith, ap book_end is.book_is, header-ends p.limits t is.within)

  pub count-begun : (most : ℕ) → length (book_clusters book) ≤ most
  count-begun most = subst (λ (cs : List (Cluster ClusterMeta)). length cs ≤ most) (sym none-yet) (omega arith)

  pub short-begun : (limits : Limits) → AllByRecursion (IsShortCluster limits) (book_clusters book)
  short-begun limits = subst (λ (cs : List (Cluster ClusterMeta)). AllByRecursion (IsShortCluster limits) cs) (sym none-yet) tt

-- the writer can go on
pub writing-begun : {D : Type 0} (state : D → DiskState) (fields : List MemberData) (p : Params) (disk new : D) (book : BookData)
    (t : Table) (columns : List Column) → p.staged ≡ false → IsBegun fields p (state disk) (state new) book t
    → WhereHeld (state disk).held (λ (h : Held). h ≡ nothing_held) → (state disk).out ≡ [] → IsDescribed t → IsFitToBegin t columns
    → IsWriting state (record {
      given = disk;
      disk = new;
      book = book;
      begun = t;
      table = t;
      params = p;
      columns = columns;
      entries = 0;
      alive = true;
    })
writing-begun state fields p disk new book t columns flat is empty out described ready = record {
  blobs = [];
  held = held-begun fields p (state disk) (state new) book t flat is empty;
  header = refl;
  closable = closable-begun fields p (state disk) (state new) book t flat is empty out ready.whole;
  not_staged = unstaged-begun fields p (state disk) (state new) book t flat is empty;
  untorn = new-untorn t p book is.book_is;
  within = is.within;
  limits = ap (λ (b : BookData). b.limits) is.book_is;
  firsts = firsts-begun fields p (state disk) (state new) book t flat is empty;
  begun = columns-begun fields p (state disk) (state new) book t flat is empty;
  settled = settled-begun fields p (state disk) (state new) book t flat is empty;
  short = short-begun fields p (state disk) (state new) book t flat is empty p.limits;
  ends = ends-begun fields p (state disk) (state new) book t flat is empty;
  count = count-begun fields p (state disk) (state new) book t flat is empty p.limits.clusters;
  described = described;
  few = ready.few;
  some = ready.some;
  gives = ready.gives;
  full = omega arith;
}
