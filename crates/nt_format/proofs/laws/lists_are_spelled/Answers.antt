use Rattle.nt_format.proofs.Frames.{list_again, list_takes, list_place}
use Rattle.nt_format.proofs.OneReading.{one_list, list_refused}
use Rattle.nt_format.proofs.laws.lists_are_spelled.Goals as goal

pub returns-clause-read : goal.returns-clause-read
returns-clause-read c = list_again

pub returns-clause-found : goal.returns-clause-found
returns-clause-found c = list_takes

pub returns-clause-place : goal.returns-clause-place
returns-clause-place c = list_place

pub returns-clause-refused : goal.returns-clause-refused
returns-clause-refused c = list_refused

pub returns-clause-one : goal.returns-clause-one
returns-clause-one c = one_list
