use Rattle.nt_container.proofs.Lengths.{key_header-len, blob_key-len, header-len, file_record-len, anchor-len, key_list-len, free_list-len}
use Rattle.nt_container.proofs.Gate.{begin-len}
use Rattle.nt_container.proofs.FinishedBack.{finished-len}
use Rattle.nt_container.proofs.laws.parts_have_lengths.Goals as goal

pub returns : goal.returns
returns c = record {
  key_header = key_header-len;
  blob_key = blob_key-len;
  header = header-len;
  file_record = file_record-len;
  begin = begin-len;
  anchor = anchor-len;
  key_list = key_list-len;
  free_list = free_list-len;
  finished = finished-len;
}
