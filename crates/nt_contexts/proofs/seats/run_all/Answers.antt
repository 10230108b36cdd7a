use mir.Syntax.{named}
use denote.Exit.{no}
use denote.Param.{param}
use denote.Param.Send.{param_send, arg_send}
use Rattle.std.proofs.lemmas.List.{length-map}
use Rattle.std.proofs.Common.{ap, length, arith, rules}
use Rattle.nt_types.specs.Views.{members_view}
use Rattle.nt_contexts.specs.declared.seats.Context.{Context}
use Rattle.nt_contexts.specs.Seats.{IsSchemaFor, IsFreshSeat, Ran}
use Rattle.nt_contexts.proofs.Jobs.{all-ready, all-done}
use Rattle.nt_contexts.proofs.Sending.{disk-context-send}
use Rattle.nt_contexts.proofs.seats.run_all.Goals as goal

pub run_pool-requires-clause-ready : goal.run_pool-requires-clause-ready
run_pool-requires-clause-ready g c κs within =
    all-ready c.args.committer.now c.args.shared.now
    (λ m s seat. IsSchemaFor m (members_view s.fields.now) s.params.now s.schema.now × IsFreshSeat g.S.Source.state m seat)
    c.contexts_of-contexts.result.items c.args.seats.items c.contexts_of-contexts.ensures.seats c.contexts_of-contexts.ensures.all
    (λ k d less. (c.requires.schema, c.requires.fresh k d less))

pub returns-in-Ok-run_pool-clause-ok : goal.returns-in-Ok-run_pool-clause-ok
returns-in-Ok-run_pool-clause-ok g c =
    let done = all-done c.args.committer.now c.args.shared.now
    (λ m s old new. Ran g.D.Disk.state g.S.Source.state (members_view s.fields.now) s.schema.now s.params.now m old new)
    c.contexts_of-contexts.result.items c.args.seats.items c.in-Ok-run_pool.done.items c.contexts_of-contexts.ensures.seats
    c.contexts_of-contexts.ensures.all c.in-Ok-run_pool.ensures.ok in
    let count = done.0 in (
      omega (arith, count, c.in-Ok-run_pool.done.ok.0, c.args.seats.ok.0),
      λ i d less. done.1 i d d (omega (arith, less, c.args.seats.ok.0)),
    )

pub run_pool-requires-send-J : goal.run_pool-requires-send-J
run_pool-requires-send-J g c κs within =
    param_send 1 _ (arg_send _ no _ (disk-context-send (param 1 g.row.D) (param 4 g.row.D-Ext) (param 5 g.row.D-Pen) g.D.Disk g.D.Ext.Ext
    g.D.Pen.Pen (record { mir = named 4; lft = κs.1.1.1.1.0 }) (param 2 g.row.S) (param 3 g.row.G)
    (search rules) (search rules) (search rules) (search rules) (search rules)))

pub seats_back-requires : goal.seats_back-requires
seats_back-requires g c =
    let count = ap length c.contexts_of-contexts.ensures.seats in
    let same = length-map c.contexts_of-contexts.result.items (λ (j : Context _ _ _). j.seat) in
    let back = ap length c.in-Err-run_pool.ensures.err in
    record {
      room = (
        c.in-Ok.ensures.second.0,
        omega (arith, count, same, back, c.in-Ok.ensures.second.1, c.len.ensures, c.args.seats.ok.0, c.in-Err-run_pool.contexts.ok.0),
      );
    }
