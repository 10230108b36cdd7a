use Rattle.nt_payloads.proofs.Files.{payload_bytes, header_words, footer_words, page_list_words}
use Rattle.nt_payloads.proofs.laws.payloads_of_files_are_described.Goals as goal

pub returns-clause-bytes : goal.returns-clause-bytes
returns-clause-bytes c = payload_bytes

pub returns-clause-headers : goal.returns-clause-headers
returns-clause-headers c = header_words

pub returns-clause-footers : goal.returns-clause-footers
returns-clause-footers c = footer_words

pub returns-clause-page_lists : goal.returns-clause-page_lists
returns-clause-page_lists c = page_list_words
