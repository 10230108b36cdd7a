-- A file that was closed is within the limits.
use Rattle.std.proofs.Common.{◌≡◌, ◌∙◌, sym, subst, refl, List, [], ◌++◌, length, None}
use Rattle.nt_lists.specs.Chunks.{chunks}
use Rattle.nt_types.specs.ShapeData.{MemberData}
use Rattle.nt_types.specs.TreeData.{TreesData}
use Rattle.nt_outside.specs.Disk.{DiskState}
use Rattle.nt_grammar.specs.Rows.{Rows}
use Rattle.nt_grammar.specs.Table.{Table}
use Rattle.nt_book.specs.declared.params.Params.{Params}
use Rattle.nt_book.specs.Kept.{IsBookKept}
use Rattle.nt_close.specs.Passing.{passed_by_close}
use Rattle.nt_close.proofs.Within.{within}
use Rattle.nt_dealing.specs.Lengths.{group_count, footer_len}
use Rattle.nt_merge_limits.specs.Limits.{MergeFits, of_list, of_footer}
use Rattle.nt_merge_limits.proofs.Closing.{closed-fits}
use Rattle.nt_seq.specs.Standing.{IsWriting}
use Rattle.nt_seq.specs.Writer.{SeqState}
use Rattle.nt_script.specs.Script.{Script, last_entries}
use Rattle.nt_script.specs.Limits.{next_list_len}
use Rattle.nt_script.specs.Reading.{Segment, segment_metas, behind_segments}
use Rattle.nt_script.specs.Taking.{GrowsBySegments, KeepsClusters, metas_of}
use Rattle.nt_script.specs.Fitting.{IsInLimits, FitsWhole, MayFit}
use Rattle.nt_script.proofs.Passed.{beside-writing, stands_within}
use Rattle.nt_script.proofs.Segments.{grows-script}
use Rattle.nt_script.proofs.Headers.{header-described, passed-grown}
use Rattle.nt_script.proofs.HeaderPassed.{header_fits}
use Rattle.nt_script.proofs.WouldBe.{types-described}
use Rattle.nt_script.proofs.Counted.{counts-all, counts-written}

-- what fits may fit
pub fits_may : (fields : List MemberData) (p : Params) (s : Script) → FitsWhole fields p s → MayFit fields p s
fits_may fields p s fits =
    let all = counts-all p fits.first 0 s fits.table (types-described fields p.plain fits.first fits.rows) fits.grows in
    record {
      first = fits.first;
      rows = fits.rows;
      header = fits.header;
      table = fits.table;
      grows = fits.grows;
      metas = all.0;
      counts = all.1;
      within = fits.whole all.0 all.1;
    }

module _ {D : Type 0} (state : D → DiskState) (w : SeqState D) (is : IsWriting state w) (kept : IsBookKept w.book)
    (none : passed_by_close w.params w.table w.book ≡ None) where
  fits : MergeFits w.table w.params (metas_of w.book)
  fits =
      closed-fits w.table w.params w.book (beside-writing state w is kept)
      (within w.table w.params w.book kept is.closable.noted is.untorn none (header_fits w.params.limits w.table is.within))
      (stands_within state w is kept).short is.count

  -- what is kept of the clusters of a writer whose closing passes no limit is within them
  in-limits : IsInLimits w.table w.params (metas_of w.book)
  in-limits = record {
    clusters = (stands_within state w is kept).short;
    lists = λ k less. fits.blobs (next_list_len w.params.group (metas_of w.book) k) (of_list k less refl);
    footer = fits.blobs (footer_len w.table (group_count w.params.group (length (metas_of w.book)))) (of_footer refl);
    file = fits.file;
    few = fits.few;
  }

  -- so may be the file of the script that it has written
  pub closed_fits : (F : List MemberData) (first : Table) (segments : List Segment) (entries : List TreesData)
      → Rows F w.params.plain first → GrowsBySegments w.params first 0 segments w.table
      → KeepsClusters segments (chunks w.params.cluster entries) w
      → MayFit F w.params (behind_segments segments [] (last_entries entries None))
  closed_fits F first segments entries rows grown keeps =
      let script = behind_segments segments [] (last_entries entries None) in
      let grows = grows-script w.params first 0 segments w.table entries None grown in
      record {
        first = first;
        rows = rows;
        header = sym (passed-grown w.params.limits w.params.plain first 0 script w.table
            (header-described F w.params.plain first rows) grows) ∙ is.within;
        table = w.table;
        grows = grows;
        metas = segment_metas segments ++ keeps.own;
        counts = counts-written w.params first 0 segments w.table entries keeps.own None grown keeps.kept;
        within = subst (IsInLimits w.table w.params) keeps.metas in-limits;
      }
