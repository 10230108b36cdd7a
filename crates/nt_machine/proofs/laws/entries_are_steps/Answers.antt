use Rattle.nt_machine.proofs.Entered.{entered, written}
use Rattle.nt_machine.proofs.laws.entries_are_steps.Goals as goal

pub returns-clause-steps : goal.returns-clause-steps
returns-clause-steps g c staged chunks blob place past s e ok h is allowed = entered staged chunks blob place past ok s h e is allowed

pub returns-clause-written : goal.returns-clause-written
returns-clause-written g c staged chunks blob place past s step i n ok h = written staged chunks blob place past ok s h i n step
