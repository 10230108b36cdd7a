use Rattle.std.proofs.Common.{arith}
use Rattle.nt_book.specs.declared.params.Params.{Params}
use Rattle.nt_layout.specs.Laid.{AreMeasures}
use Rattle.nt_close.specs.Passing.{measures_of}
use Rattle.nt_crash.proofs.closed.closed_files_mean_their_entries.Goals as goal

-- parameters keep the largest limits
measures : (p : Params) → AreMeasures (measures_of p)
measures p = record {
  page = omega (arith, p.page_range.0);
  group = omega (arith, p.group_range.0);
  range = p.limits.range_bound;
  file = p.limits.file_bound;
}

pub returns : goal.returns
returns c = λ t p book clusters ranges old new h described of lists low all lens blobs held image ends.
    let left = ends.file ranges lens h held image in
    let laid = c.arranged_files_are_laid.ensures.laid left.0.image t clusters (measures_of p) ranges book of lists
    (ends.within low) all lens blobs left.2 in (
      left.0,
      left.1,
      laid,
      c.finished_files_mean_their_entries.ensures left.0.image t clusters (measures_of p) described (measures p) laid,
    )
