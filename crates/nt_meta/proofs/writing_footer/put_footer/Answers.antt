use Rattle.std.proofs.Common.{length}
use Rattle.std.specs.Int.{w64, to_le_bytes}
use Rattle.nt_format.specs.Frames.{record_frame, list_frame}
use Rattle.nt_pagelists.specs.FooterWriting.{group_texts, extension_text, footer_text}
use Rattle.nt_meta.proofs.Appended.{four}
use Rattle.nt_meta.proofs.writing_footer.put_footer.Goals as goal

pub returns : goal.returns
unfolding footer_text
returns c =
    let gs = c.args.groups.now in
    four (to_le_bytes w64 0) (to_le_bytes w64 c.args.header_sum) (record_frame (extension_text c.args.schema.now))
    (list_frame (length gs) (group_texts gs)) c.args.out.now
    c.put_u64le.new.self c.put_u64le-2.new.self c.put_extension.new.out c.put_group_list.new.out
    c.in_ok-put_u64le.ensures.ok c.in_ok-put_u64le-2.ensures.ok c.in_ok-put_extension.ensures c.in_ok-put_group_list.ensures
