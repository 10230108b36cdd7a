-- A file that is begun, into which nothing was copied yet.
use Rattle.std.proofs.Common.{◌≡◌, ◌∙◌, ap, sym, refl, subst, ℕ, ◌≤◌, false, List, [], ◌∷◌, map, length, replicate, Some, arith}
use Rattle.std.specs.List.{AllByRecursion}
use Rattle.nt_lists.specs.Parts.{part_bytes}
use Rattle.nt_outside.specs.Held.{Held, Becomes, WhereHeld, nothing_held}
use Rattle.nt_outside.specs.Disk.{DiskState}
use Rattle.nt_container.specs.Spelling.{begun}
use Rattle.nt_grammar.specs.declared.rows.ColumnRow.{ColumnRow}
use Rattle.nt_grammar.specs.Table.{Table}
use Rattle.nt_machine.specs.History.{Cluster}
use Rattle.nt_book.specs.declared.meta.ClusterMeta.{ClusterMeta}
use Rattle.nt_book.specs.declared.params.Params.{Params}
use Rattle.nt_book.specs.Books.{BookData, book_ranges, book_clusters, book_end}
use Rattle.nt_schema.specs.Whole.{AreWhole}
use Rattle.nt_pagelists.proofs.Named.{clusters-unstaged}
use Rattle.nt_layout.specs.Headers.{header_blob}
use Rattle.nt_layout.specs.Beside.{parts_so_far}
use Rattle.nt_close.specs.Beginning.{IsBegunFor}
use Rattle.nt_close.specs.Closing.{IsClosable}
use Rattle.nt_close.specs.Filled.{AreListsNoted}
use Rattle.nt_close.specs.Steps.{begun_on}
use Rattle.nt_copied.specs.Copies.{AreCopies, NoneDeferred, no_copy}
use Rattle.nt_seq.specs.Standing.{IsSettledCluster}
use Rattle.nt_seq.specs.Written.{file_so_far}
use Rattle.nt_merge_limits.specs.Limits.{kept_metas}
use Rattle.nt_merge.specs.Copying.{HasMerged}
use Rattle.nt_merge.specs.Fronts.{lists_in_front}
use Rattle.nt_merge.specs.Merging.{Numbered, IsMerging}
use Rattle.nt_merge.proofs.First.{header-fits}
use Rattle.nt_merge.proofs.Fronts.{none-listed}

firsts_none : (rows : List ColumnRow) → AllByRecursion (λ (c : ColumnRow). c.first ≡ 0) rows
    → map (λ (c : ColumnRow). c.first) rows ≡ replicate (length rows) 0
firsts_none [] none = refl
firsts_none (c ∷ rows) none =
    ap (λ (n : ℕ). n ∷ map (λ (r : ColumnRow). r.first) rows) none.0 ∙ ap (λ (l : List ℕ). 0 ∷ l) (firsts_none rows none.1)

module _ (t : Table) (p : Params) (given new : DiskState) (book : BookData) (flat : p.staged ≡ false)
    (is : IsBegunFor t p given new book) (empty : WhereHeld given.held (λ (h : Held). h ≡ nothing_held)) where
  held-begun : Becomes given.held new.held (λ h. file_so_far t [])
  held-begun h told = is.held h told ∙ ap (λ (k : Held). Some (begun_on (begun 0 0 0) (header_blob t) k)) (empty h told)

  unstaged-begun : book.staged ≡ false
  unstaged-begun = ap (λ (b : BookData). b.staged) is.book_is ∙ flat

  none-yet : book_clusters book ≡ []
  none-yet = clusters-unstaged book unstaged-begun ∙ ap book_ranges is.book_is

  noted-begun : AreListsNoted t p book
  noted-begun = subst (AreListsNoted t p) (sym is.book_is)
      (record { staged = refl; group = refl; noted = λ k less. absurd (omega (arith, less)); short = tt })

  closable-begun : given.out ≡ [] → AreWhole t → IsClosable new book t p
  closable-begun out whole = record {
    begin = ap (λ (b : BookData). b.begin) is.book_is;
    noted = noted-begun;
    end = let ends = ap book_end is.book_is in omega (arith, is.end, ends);
    out = is.out ∙ out;
    whole = whole;
  }

  -- clusters can be copied into it
  pub merging-begun : given.out ≡ [] → AreWhole t → NoneDeferred t.columns → IsMerging t p given new book
  merging-begun out whole none = record {
    blobs = [];
    held = held-begun;
    closable = closable-begun out whole;
    limits = ap (λ (b : BookData). b.limits) is.book_is;
    not_staged = unstaged-begun;
    firsts = firsts_none t.columns none ∙ sym (ap (λ (b : BookData). b.firsts) is.book_is);
    none_deferred = none;
    settled = subst (λ (cs : List (Cluster ClusterMeta)). AllByRecursion IsSettledCluster cs) (sym none-yet) tt;
    untorn = ap (λ (b : BookData). b.torn) is.book_is;
    within = is.within;
    short = subst (λ (cs : List (Cluster ClusterMeta)). AllByRecursion (λ (m : ClusterMeta). m.len ≤ p.limits.range) (map (λ (c : Cluster
        ClusterMeta). c.meta) cs)) (sym none-yet) tt;
    few = omega (arith, ap length none-yet);
  }

  none-kept : kept_metas book ≡ []
  none-kept = ap (map (λ (c : Cluster ClusterMeta). c.meta)) none-yet

  -- none was yet
  pub merged-none : (ns : List Numbered) → HasMerged t p given new book ns 0
  merged-none ns = record {
    lists = [];
    read = refl;
    copies = record {
      ranges = [];
      copies = subst (λ (cs : List (Cluster ClusterMeta)). AreCopies t [] [] [] cs) (sym none-yet) no_copy;
      metas = none-kept;
      held = subst (λ (b : BookData). Becomes given.held new.held (λ h. file_so_far t (part_bytes (parts_so_far t b p.group []))))
          (sym is.book_is) held-begun;
    };
    listed = ap (λ (b : BookData). length b.lists) is.book_is
        ∙ (sym (none-listed p.group) ∙ ap (λ (ms : List ClusterMeta). lists_in_front p.group (length ms)) (sym none-kept));
    reach = header-fits t p ns is.within;
  }
