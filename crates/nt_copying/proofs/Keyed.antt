-- Images of loaded pages, with a key, are copies of their cluster.
use Rattle.std.proofs.Common.{◌≡◌, ◌∙◌, ap, sym, subst, ℕ, ◌-◌, ◌+◌, List, ◌++◌, length, drop, replicate, Some, arith}
use Rattle.std.proofs.lemmas.List.{length-append, length-replicate, drop_at}
use Rattle.nt_types.specs.TreeData.{TreesData}
use Rattle.nt_container.specs.Spelling.{blob_key}
use Rattle.nt_grammar.specs.Table.{Table}
use Rattle.nt_machine.specs.History.{Cluster}
use Rattle.nt_book.specs.declared.meta.ClusterMeta.{ClusterMeta}
use Rattle.nt_pagelists.specs.Blobs.{blob}
use Rattle.nt_file_meaning.specs.Holds.{HoldsCluster}
use Rattle.nt_view.specs.Loaded.{Loaded}
use Rattle.nt_listing.specs.Loading.{IsLoadedFrom}
use Rattle.nt_copied.specs.Stored.{StoredPage, stored_payload, stored_meta}
use Rattle.nt_copied.specs.Copies.{Source, ReadAlike, NoneDeferred, IsCopyOf, stored_columns}
use Rattle.nt_copying.specs.Copied.{copied_columns, IsImageOf}
use Rattle.nt_copying.proofs.FoundPages.{loaded-columns, loaded-sums}

-- the payload behind the room for its key, once the key is there
keyed-blob : (bytes payload : List ℕ) (start : ℕ) → bytes ≡ replicate 42 0 ++ payload
    → blob_key (length bytes - 42) start ++ drop 42 bytes ≡ blob start payload
keyed-blob bytes payload start is =
    let zeros : List ℕ = replicate 42 0 in
    let room : length zeros ≡ 42 = length-replicate {A = ℕ} 42 0 in
    let len : length bytes - 42 ≡ length payload =
    omega (arith, ap (λ (l : List ℕ). length l) is, length-append zeros payload, room) in
    ap (λ (n : ℕ). blob_key n start ++ drop 42 bytes) len
    ∙ ap (λ (l : List ℕ). blob_key (length payload) start ++ l)
    (ap (λ (l : List ℕ). drop 42 l) is ∙ drop_at zeros payload 42 room)

pub keyed-copy : (t : Table) (s : Source) (entries : List TreesData) (number : ℕ) (l : Loaded) (c : Cluster ClusterMeta) (bytes : List ℕ)
    → ReadAlike t s.table → NoneDeferred s.table.columns → HoldsCluster s.file s.table s.list entries
    → IsLoadedFrom (Some s.file) number s.list s.table l → IsImageOf s.table s.list.entries l bytes c.meta
    → IsCopyOf t s entries c (blob_key (length bytes - 42) c.start ++ drop 42 bytes)
keyed-copy t s entries number l c bytes alike begin holds loaded image =
    let columns : copied_columns l 0 (length s.table.columns) ≡ stored_columns s = loaded-columns s.file number s.list s.table l loaded in
    let meta : c.meta ≡ stored_meta 0 s.list.entries (stored_columns s) =
    image.meta_is ∙ ap (λ (cs : List (List StoredPage)). stored_meta 0 s.list.entries cs) columns in
    record {
      alike = alike;
      none_deferred = begin;
      holds = holds;
      bytes_are = keyed-blob bytes (stored_payload (copied_columns l 0 (length s.table.columns))) c.start
          (image.bytes_are (loaded-sums s.file number s.list s.table l loaded))
          ∙ ap (λ (cs : List (List StoredPage)). blob c.start (stored_payload cs)) columns;
      meta_is = meta ∙ ap (λ (n : ℕ). stored_meta n s.list.entries (stored_columns s))
          (sym (ap (λ (m : ClusterMeta). m.context) meta));
    }
