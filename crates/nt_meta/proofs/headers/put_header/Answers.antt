use Rattle.nt_file_meaning.specs.Headers.{header_text}
use Rattle.nt_meta.proofs.Appended.{five}
use Rattle.nt_meta.proofs.headers.put_header.Goals as goal

pub returns : goal.returns
unfolding header_text
returns c = five _ _ _ _ _ _ _ _ _ _ _ c.in_ok-put_u64le.ensures.ok c.in_ok-text.ensures.ok c.in_ok-text-2.ensures.ok
    c.in_ok-text-3.ensures.ok c.in_ok-write_description.ensures
