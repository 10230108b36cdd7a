use Rattle.std.proofs.Common.{◌≡◌, ◌++◌, List, ℕ, ap, append_assoc, ◌∙◌}
use Rattle.std.specs.Int.{w32, w64, to_le_bytes}
use Rattle.nt_format.specs.Frames.{record_frame}
use Rattle.nt_format.specs.Locators.{link}
use Rattle.nt_frame.specs.Writing.{bytes_added}
use Rattle.nt_meta.proofs.Appended.{record_of}
use Rattle.nt_meta.proofs.writing_footer.put_group.Goals as goal

pub returns : goal.returns
returns c =
    let g = c.args.group.now in
    let counts = to_le_bytes w64 g.first ++ (to_le_bytes w64 g.span ++ to_le_bytes w32 g.clusters) in
    let grouped : counts ++ link g.link ≡ to_le_bytes w64 g.first
    ++ (to_le_bytes w64 g.span ++ (to_le_bytes w32 g.clusters ++ link g.link)) = simp append_assoc in
    record_of counts (link g.link) c.args.out.now c.begin_record.new.self c.put_counts.new.out c.put_link.new.out c.finish.new.self
    c.in_ok-begin_record.ensures.ok c.in_ok-put_counts.ensures c.in_ok-put_link.ensures c.finish.ensures
    ∙ ap (λ (l : List ℕ). bytes_added (record_frame l) c.args.out.now) grouped
