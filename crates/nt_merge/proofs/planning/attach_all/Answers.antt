use Rattle.std.proofs.Common.{◌≡◌, ◌∙◌, ◌++◌, ◌+◌, ◌<◌, List, [], Ok, Err, drop, length, ap, subst, sym, arith}
use Rattle.std.specs.Prelude.{slice_index_or}
use Rattle.nt_lists.specs.Chaining.{◌>>=◌}
use Rattle.nt_file_meaning.specs.Outlines.{Outline}
use Rattle.nt_lists.proofs.Variants.{err_is}
use Rattle.nt_merge.specs.declared.error.MergeError.TheVariants.{ReadFault}
use Rattle.nt_merge.specs.Files.{TellBytes}
use Rattle.nt_merge.specs.Planning.{outlines_from, AreAttached, error_of_read}
use Rattle.nt_merge.proofs.Kept.{keep-more, rose-more, tell-kept, tell-long, tell-at, file-at, keep-long, outlined-next, attached-err}
use Rattle.nt_merge.proofs.Kept.{fault-read, none-disk}
use Rattle.nt_merge.proofs.planning.attach_all.Goals as goal

pub returns-in_err-push-in-Ok-clause-kept : goal.returns-in_err-push-in-Ok-clause-kept
returns-in_err-push-in-Ok-clause-kept g c =
    keep-more g.F.ReadAt.state _ _ _ c.loop-at.invariant.kept c.attach_at.ensures.kept

pub returns-in-Err-clause-told : goal.returns-in-Err-clause-told
returns-in-Err-clause-told g c = λ bytes tells.
    let inside : c.loop-at.at < length c.loop-at.files.items =
    omega (arith, c.loop-at-test.true, c.len-at-end.ensures, c.loop-at.invariant.all) in
    let now : TellBytes g.F.ReadAt.state c.loop-at.files.items bytes =
    tell-kept g.F.ReadAt.state _ _ bytes c.loop-at.invariant.kept tells in
    let less : c.loop-at.at < length bytes = omega (arith, inside, tell-long g.F.ReadAt.state c.loop-at.files.items bytes now) in
    let file = file-at c.loop-at.files.items c.loop-at.at inside in
    subst (λ e. AreAttached bytes (Err e)) (sym c.merge_error.ensures)
    (attached-err bytes c.loop-at.at c.loop-at.readers.items less (c.loop-at.invariant.told bytes tells) c.in-Err.failure
    (c.in-Err.ensures.told file.0 file.1 (slice_index_or bytes c.loop-at.at [])
    (tell-at g.F.ReadAt.state c.loop-at.files.items bytes c.loop-at.at file.0 now file.1)))

pub returns-in-Err-clause-kept : goal.returns-in-Err-clause-kept
returns-in-Err-clause-kept g c = keep-more g.F.ReadAt.state _ _ _ c.loop-at.invariant.kept c.attach_at.ensures.kept

pub returns-in-Err-clause-blamed : goal.returns-in-Err-clause-blamed
returns-in-Err-clause-blamed g c = record {
  rose = λ is.
      let read : error_of_read c.loop-at.at c.in-Err.failure ≡ ReadFault = sym c.merge_error.ensures ∙ err_is _ _ is in
      rose-more g.F.ReadAt.state _ _ _ c.loop-at.invariant.kept
      (c.in-Err.ensures.rose (ap (λ e. Err e) (fault-read c.loop-at.at c.in-Err.failure read)));
  no_disk = λ is. none-disk c.loop-at.at c.in-Err.failure (sym c.merge_error.ensures ∙ err_is _ _ is);
}

pub loop-at-preserved : goal.loop-at-preserved
loop-at-preserved g c =
    let kept = keep-more g.F.ReadAt.state _ _ _ c.loop-at.invariant.kept c.attach_at.ensures.kept in
    let inside : c.loop-at.at < length c.loop-at.files.items =
    omega (arith, c.loop-at-test.true, c.len-at-end.ensures, c.loop-at.invariant.all) in
    let file = file-at c.loop-at.files.items c.loop-at.at inside in
    record {
      kept = kept;
      all = keep-long g.F.ReadAt.state _ _ kept;
      count = grind (arith, c.loop-at.invariant.count, c.in_ok-push-in-Ok.ensures.len, c.in_ok-push-in-Ok.ensures.items);
      told = λ bytes tells.
          let now : TellBytes g.F.ReadAt.state c.loop-at.files.items bytes =
          tell-kept g.F.ReadAt.state _ _ bytes c.loop-at.invariant.kept tells in
          let less : c.loop-at.at < length bytes = omega (arith, inside, tell-long g.F.ReadAt.state c.loop-at.files.items bytes now) in
          subst (λ (l : List Outline). outlines_from 0 bytes
          ≡ (outlines_from (c.loop-at.at + 1) (drop (c.loop-at.at + 1) bytes) >>= λ others. Ok (l ++ others)))
          (sym c.in_ok-push-in-Ok.ensures.items)
          (outlined-next bytes c.loop-at.at c.loop-at.readers.items less (c.loop-at.invariant.told bytes tells) c.in-Ok.reader
          (c.in-Ok.ensures.told file.0 file.1 (slice_index_or bytes c.loop-at.at [])
          (tell-at g.F.ReadAt.state c.loop-at.files.items bytes c.loop-at.at file.0 now file.1)));
    }
