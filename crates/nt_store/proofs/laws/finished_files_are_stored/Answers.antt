use Rattle.nt_store.proofs.Whole.{as_long, stored_whole}
use Rattle.nt_store.proofs.laws.finished_files_are_stored.Goals as goal

pub returns-clause-lengths : goal.returns-clause-lengths
returns-clause-lengths c = as_long

pub returns-clause-stored : goal.returns-clause-stored
returns-clause-stored c =
    stored_whole c.books_of_fields_are_of_their_schema.ensures c.arranged_files_are_laid.ensures.ranged
    c.files_of_fields_mean_their_entries.ensures
