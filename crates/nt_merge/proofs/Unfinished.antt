-- A file that copies went to, and isn't finished.
use Rattle.std.proofs.Common.{◌≡◌, ◌∙◌, refl, subst, ◌⊎◌, inl, inr, ℕ, List, ◌++◌, Option, Err}
use Rattle.nt_outside.specs.Held.{Held, BecomesSome, IsTornAppend, nothing_held}
use Rattle.nt_outside.specs.Disk.{DiskState}
use Rattle.nt_container.specs.Spelling.{begun}
use Rattle.nt_grammar.specs.Table.{Table}
use Rattle.nt_book.specs.declared.params.Params.{Params}
use Rattle.nt_book.specs.Books.{BookData}
use Rattle.nt_commit.specs.declared.error.CommitError.TheVariants as commit
use Rattle.nt_pages.specs.declared.image.ClusterImage.{ClusterImage}
use Rattle.nt_pagelists.specs.Due.{due_len}
use Rattle.nt_layout.specs.Headers.{header_blob}
use Rattle.nt_tfile.specs.declared.failure.ReadFailure.TheVariants as failure
use Rattle.nt_file_meaning.specs.Outlines.{Outline}
use Rattle.nt_append.specs.Appending.{CutsImage, FailsOnDisk, TearsList, due_blobs}
use Rattle.nt_append.proofs.Images.{appended-behind}
use Rattle.nt_close.specs.Steps.{begun_on}
use Rattle.nt_seq.specs.Crashes.{AppendsLeave}
use Rattle.nt_seq.specs.Written.{file_so_far, IsUnclosedOf}
use Rattle.nt_seq.proofs.Files.{order-unclosed, shut-unclosed}
use Rattle.nt_merge.specs.declared.copy_error.CopyError.{CopyError}
use Rattle.nt_merge.specs.declared.copy_error.CopyError.TheVariants.{Read, Commit}
use Rattle.nt_merge.specs.Copying.{LeavesCluster}
use Rattle.nt_merge.specs.Merging.{IsMerging, IsUnfinished, IsLeftUnfinished, shut}

module _ (leave : AppendsLeave) where
  pub unfinished : (t : Table) (h left : Held) → IsUnclosedOf t left → IsUnfinished h left
  unfinished t h left unclosed = record {
    unclosed = shut (shut-unclosed t left unclosed);
    order = order-unclosed t left unclosed;
    crash = leave.unclosed t left unclosed;
  }

  module _ (t : Table) (p : Params) (given old new : DiskState) (book : BookData) (is : IsMerging t p given old book) where
    -- nothing was written
    pub stays-unfinished : new.held ≡ old.held → IsLeftUnfinished given new
    stays-unfinished same h told =
        let left = file_so_far t is.blobs in
        (left, same ∙ is.held h told, unfinished t h left (record { blobs = is.blobs; steps = inl refl }))

    -- a blob failed
    cut-unfinished : (len : ℕ) → BecomesSome old.held new.held (IsTornAppend len) → IsLeftUnfinished given new
    cut-unfinished len cut h told =
        let left = cut (file_so_far t is.blobs) (is.held h told) in
        (left.0, left.1, unfinished t h left.0 (record { blobs = is.blobs; steps = inr (len, left.2) }))

    -- or one behind the page list that was due
    behind-unfinished : (i : ClusterImage) (next : BookData) → CutsImage i old new book next → IsLeftUnfinished given new
    behind-unfinished i next cut h told =
        let left = cut.held (file_so_far t is.blobs) (is.held h told) in
        let same = appended-behind is.blobs (due_blobs book) (begun_on (begun 0 0 0) (header_blob t) nothing_held) in (
          left.0,
          left.1,
          unfinished t h left.0 (record {
            blobs = is.blobs ++ due_blobs book;
            steps = inr (i.meta.len, subst (λ (k : Held). IsTornAppend i.meta.len k left.0) same left.2);
          }),
        )

    -- either
    pub failed-unfinished : (i : ClusterImage) (next : BookData) → FailsOnDisk i old new book next → IsLeftUnfinished given new
    failed-unfinished i next fails = at fails.how
      where
        at : TearsList i.meta.context old new book next ⊎ CutsImage i old new book next → IsLeftUnfinished given new
        at (inl torn) = cut-unfinished (due_len book) torn.held
        at (inr cut) = behind-unfinished i next cut

    -- a cluster that wasn't copied
    pub left-unfinished : (file : Option (List ℕ)) (o : Outline) (k columns : ℕ) (next : BookData) (e : CopyError)
        → LeavesCluster file o k columns old new book next (Err e) → IsLeftUnfinished given new
    left-unfinished file o k columns next (Read (failure.Defect e)) left = stays-unfinished left.kept.held
    left-unfinished file o k columns next (Read failure.Fault) left = stays-unfinished left.held
    left-unfinished file o k columns next (Read failure.Memory) left = stays-unfinished left.held
    left-unfinished file o k columns next (Commit commit.Memory) left = stays-unfinished left.held
    left-unfinished file o k columns next (Commit commit.Fault) left = failed-unfinished left.image next left.fails
    left-unfinished file o k columns next (Commit (commit.RangeTooLarge len most)) left = stays-unfinished left.kept.held
    left-unfinished file o k columns next (Commit (commit.FileTooLarge end most)) left = stays-unfinished left.kept.held
    left-unfinished file o k columns next (Commit commit.TooManyClusters) left = stays-unfinished left.kept.held
