use Rattle.std.proofs.Common.{rules, ◌∙◌}
use Rattle.nt_tfile.proofs.Chains.{directory-fails, key-fails, anchor-done}
use Rattle.nt_tfile.proofs.reading.read_tfile.Goals as goal

pub returns-in_err-directory-clause-read : goal.returns-in_err-directory-clause-read
returns-in_err-directory-clause-read g c told is =
    let sized = c.size.ensures.same ∙ is in
    let headed = c.in_ok-header.ensures.file.same ∙ sized in
    let failed = directory-fails told _ _ (c.in_ok-header.ensures.read told sized) (c.in_err-directory.ensures.read told headed) in
    search (rules, failed)

pub returns-in_err-key-clause-read : goal.returns-in_err-key-clause-read
returns-in_err-key-clause-read g c told is =
    let sized = c.size.ensures.same ∙ is in
    let headed = c.in_ok-header.ensures.file.same ∙ sized in
    let found = c.in_ok-directory.ensures.file.same ∙ headed in
    let failed = key-fails told _ _ _ (c.in_ok-header.ensures.read told sized) (c.in_ok-directory.ensures.read told headed)
    (c.in_err-key.ensures.read told found) in
    search (rules, failed)

pub returns-clause-read : goal.returns-clause-read
returns-clause-read g c told is =
    let sized = c.size.ensures.same ∙ is in
    let headed = c.in_ok-header.ensures.file.same ∙ sized in
    let found = c.in_ok-directory.ensures.file.same ∙ headed in
    let keyed = c.in_ok-key.ensures.file.same ∙ found in
    anchor-done told _ _ _ _ (c.in_ok-header.ensures.read told sized) (c.in_ok-directory.ensures.read told headed)
    (c.in_ok-key.ensures.read told found) (c.read_anchor.ensures.read told keyed)
