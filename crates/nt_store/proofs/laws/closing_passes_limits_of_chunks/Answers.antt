use Rattle.nt_store.proofs.Counted.{closing_over}
use Rattle.nt_store.proofs.laws.closing_passes_limits_of_chunks.Goals as goal

pub returns : goal.returns
returns c =
    closing_over c.files_are_as_long_as_their_clusters_say.ensures.lists c.files_are_as_long_as_their_clusters_say.ensures.footer
    c.files_are_as_long_as_their_clusters_say.ensures.file c.dealt_chunks_are_all_chunks.ensures
    c.books_of_fields_are_of_their_schema.ensures
