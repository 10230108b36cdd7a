use Rattle.nt_format.proofs.Frames.{record_again, record_takes, record_place}
use Rattle.nt_format.proofs.OneReading.{one_record, record_refused}
use Rattle.nt_format.proofs.laws.records_are_spelled.Goals as goal

pub returns-clause-read : goal.returns-clause-read
returns-clause-read c = record_again

pub returns-clause-found : goal.returns-clause-found
returns-clause-found c = record_takes

pub returns-clause-place : goal.returns-clause-place
returns-clause-place c = record_place

pub returns-clause-refused : goal.returns-clause-refused
returns-clause-refused c = record_refused

pub returns-clause-one : goal.returns-clause-one
returns-clause-one c = one_record
