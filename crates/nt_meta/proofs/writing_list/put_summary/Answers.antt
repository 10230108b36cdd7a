use Rattle.std.proofs.Common.{ℕ, ◌++◌, ap, ◌∙◌}
use Rattle.std.specs.Int.{w64, to_le_bytes}
use Rattle.nt_format.specs.Frames.{record_frame}
use Rattle.nt_frame.specs.Writing.{bytes_added}
use Rattle.nt_book.specs.declared.meta.ClusterMeta.{ClusterMeta}
use Rattle.nt_book.specs.Books.{first_entry}
use Rattle.nt_meta.proofs.Appended.{record_of}
use Rattle.nt_meta.proofs.writing_list.put_summary.Goals as goal

pub returns : goal.returns
returns c =
    record_of (to_le_bytes w64 c.first.result) (to_le_bytes w64 c.meta.result.now.entries) c.args.out.now c.begin_record.new.self
    c.put_u64le.new.self c.put_u64le-2.new.self c.finish.new.self
    c.in_ok-begin_record.ensures.ok c.in_ok-put_u64le.ensures.ok c.in_ok-put_u64le-2.ensures.ok c.finish.ensures
    ∙ (ap (λ (n : ℕ). bytes_added (record_frame (to_le_bytes w64 n ++ to_le_bytes w64 c.meta.result.now.entries)) c.args.out.now)
    c.first.ensures
    ∙ ap (λ (m : ClusterMeta). bytes_added (record_frame (to_le_bytes w64 (first_entry c.args.book.now c.args.cluster)
    ++ to_le_bytes w64 m.entries)) c.args.out.now) c.meta.ensures.meta)
