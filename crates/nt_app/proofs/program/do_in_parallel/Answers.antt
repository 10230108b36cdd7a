use Rattle.std.proofs.Common.{◌∙◌, ap, subst, arith, Some}
use Rattle.nt_command_line.specs.declared.command.Parallel.{Parallel}
use Rattle.nt_command_line.specs.declared.command.Parallel.TheVariants.{Write}
use Rattle.nt_command_line.specs.CommandLine.{texts}
use Rattle.nt_command_line.specs.Commands.{names_of, SaysParallel}
use Rattle.nt_app.proofs.Running.{no_memory, wrong_words}
use Rattle.nt_app.proofs.Obeying.{written_words, made_words, scanned_words}
use Rattle.nt_app.proofs.program.do_in_parallel.Goals as goal

pub returns-in_default : goal.returns-in_default
returns-in_default g c = no_memory _ _

pub returns-in_default-command : goal.returns-in_default-command
returns-in_default-command g c = wrong_words _ _ (subst (SaysParallel (texts c.args.words.now)) c.in_default-command.is c.in-Ok.ensures)

pub write-requires-clause-inputs : goal.write-requires-clause-inputs
write-requires-clause-inputs g c κs within =
    let is = c.in-Some.is ∙ ap (λ (a : Parallel). Some a) c.in-Write.is in
    let says : SaysParallel (texts c.args.words.now) (Some (Write c.in-Write.said)) =
    subst (SaysParallel (texts c.args.words.now)) is c.in-Ok.ensures in
    (says.0.apart.some, says.0.apart.few)

pub write-requires-clause-contexts : goal.write-requires-clause-contexts
write-requires-clause-contexts g c κs within =
    let is = c.in-Some.is ∙ ap (λ (a : Parallel). Some a) c.in-Write.is in
    let says : SaysParallel (texts c.args.words.now) (Some (Write c.in-Write.said)) =
    subst (SaysParallel (texts c.args.words.now)) is c.in-Ok.ensures in
    let some = says.1.some in
    (omega (arith, some), says.1.few)

pub returns-in-Write : goal.returns-in-Write
returns-in-Write g c =
    let said = c.in-Write.said in
    let is = c.in-Some.is ∙ ap (λ (a : Parallel). Some a) c.in-Write.is in
    written_words _ said.out.now said.schema.now (names_of said.inputs.items) said.params _ _ _
    (subst (SaysParallel (texts c.args.words.now)) is c.in-Ok.ensures).0 c.write.ensures

pub returns-in-Gen : goal.returns-in-Gen
returns-in-Gen g c =
    let said = c.in-Gen.said in
    let is = c.in-Some.is ∙ ap (λ (a : Parallel). Some a) c.in-Gen.is in
    made_words _ said.out.now said.making _ _ _
    (subst (SaysParallel (texts c.args.words.now)) is c.in-Ok.ensures) c.make.ensures

pub returns-in-Scan : goal.returns-in-Scan
returns-in-Scan g c =
    let is = c.in-Some.is ∙ ap (λ (a : Parallel). Some a) c.in-Scan.is in
    scanned_words _ c.in-Scan.file.now _ _ _ (subst (SaysParallel (texts c.args.words.now)) is c.in-Ok.ensures) c.scan.ensures
