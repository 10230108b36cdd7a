use Rattle.nt_open.proofs.TypeNames.{cpp_name-tuple}
use Rattle.nt_open.proofs.type_names.+name.Goals as goal

pub put_name-returns-in_ok-put_all-in-Tuple : goal.put_name-returns-in_ok-put_all-in-Tuple
put_name-returns-in_ok-put_all-in-Tuple t c = rw c.in-Tuple.is (rw cpp_name-tuple c.in_ok-put_all-in-Tuple.ensures)
