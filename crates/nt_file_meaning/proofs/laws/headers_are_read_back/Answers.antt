use Rattle.nt_file_meaning.proofs.HeadersBack.{header-reads}
use Rattle.nt_file_meaning.proofs.laws.headers_are_read_back.Goals as goal

pub returns : goal.returns
returns c = header-reads
