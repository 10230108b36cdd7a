use Rattle.std.proofs.Common.{List, ℕ, length, map, Bor, sym, arith}
use Rattle.std.proofs.lemmas.List.{length-map}
use Rattle.nt_merge_files.proofs.Files.{files-counted}
use Rattle.nt_merge_files.proofs.Named.{named, unopened}
use Rattle.nt_merge_files.proofs.hosting.merge_named.Goals as goal

abbrev names-of : List (Bor (List ℕ)) → List (List ℕ)
names-of names = map (λ (name : Bor (List ℕ)). name.now) names

pub merge_open-merged-requires-clause-count : goal.merge_open-merged-requires-clause-count
merge_open-merged-requires-clause-count g c =
    let names = c.args.names.files.now in
    let long = files-counted g.H.File.ReadAt.state (g.H.Host.state c.args.host.now).world (names-of names) c.in-Ok.files.items
    c.in-Ok.ensures.files in
    let all = length-map names (λ (name : Bor (List ℕ)). name.now) in
    (omega (arith, long, all, c.requires.count.0), omega (arith, long, all, c.requires.count.1))

pub returns-in-Ok : goal.returns-in-Ok
returns-in-Ok g c =
    named c.args.names.out.now (names-of c.args.names.files.now) c.args.params.now g.H.File.ReadAt.state _ _ _ _ c.in-Ok.files
    c.in-Ok.files.items c.merge_open-merged.new.files.items c.merge_open-merged.result c.in-Ok.ensures.asks c.in-Ok.ensures.cause.later
    (length c.args.names.files.now) (sym (length-map c.args.names.files.now (λ (name : Bor (List ℕ)). name.now)))
    c.in-Ok.ensures.rest.0 c.in-Ok.ensures.files c.merge_open-merged.ensures c.return_files.ensures

pub returns-in-Err : goal.returns-in-Err
returns-in-Err g c =
    unopened c.args.names.out.now (names-of c.args.names.files.now) c.args.params.now _ _ c.in-Err.error c.in-Err.ensures.asks
    c.in-Err.ensures.cause c.in-Err.ensures.refused c.in-Err.ensures.rest.1
