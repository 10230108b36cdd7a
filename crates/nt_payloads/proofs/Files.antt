-- What is said of the payloads of a file by readings is their grammar.
use Rattle.std.proofs.Common.{ℕ, ◌+◌, ◌*◌, ◌^◌, List, length, append_assoc}
use Rattle.std.specs.Int.{w64, to_le_bytes}
use Rattle.nt_xxh3.specs.Sum.{xxh3}
use Rattle.nt_format.specs.Reading.{IsBytes}
use Rattle.nt_format.specs.Envelopes.{unsealed, envelope}
use Rattle.nt_format.proofs.Relations.{piece_bytes}
use Rattle.nt_grammar.specs.Table.{Table}
use Rattle.nt_pagelists.specs.declared.column.KnownColumn.{KnownColumn}
use Rattle.nt_pagelists.specs.declared.cluster.ClusterList.{ClusterList}
use Rattle.nt_pagelists.specs.declared.group.Group.{Group}
use Rattle.nt_pagelists.specs.PageLists.{ProgressCounts}
use Rattle.nt_file_meaning.specs.Envelopes.{Sealed, Block, IsEnvelope}
use Rattle.nt_file_meaning.specs.Describes.{DescribesHeader, DescribesFooter, DescribesClusters}
use Rattle.nt_payloads.specs.Descriptions.{IsHeaderPayload}
use Rattle.nt_payloads.specs.Footers.{IsFooter}
use Rattle.nt_payloads.specs.Conditions.{IsPageList}
use Rattle.nt_payloads.proofs.Texts.{part_bytes}
use Rattle.nt_payloads.proofs.Headers.{header}
use Rattle.nt_payloads.proofs.Footers.{footer}
use Rattle.nt_payloads.proofs.PageLists.{listed}

pub payload_bytes : (file : List ℕ) (kind : ℕ) (block : Block) (is : Sealed) → IsBytes file → IsEnvelope file kind block is
    → IsBytes is.payload
payload_bytes file kind block is bytes e =
    let word = to_le_bytes w64 ((length is.payload + 16) * 2 ^ 16 + kind) in
    part_bytes word is.payload (to_le_bytes w64 (xxh3 (unsealed kind is.payload))) (envelope kind is.payload)
    (piece_bytes file (envelope kind is.payload) block.place block.size bytes e.there)
    (append_assoc word is.payload (to_le_bytes w64 (xxh3 (unsealed kind is.payload))))

pub header_words : (payload : List ℕ) (t : Table) → IsBytes payload → (DescribesHeader payload t → IsHeaderPayload 0 payload t)
    × (IsHeaderPayload 0 payload t → DescribesHeader payload t)
header_words payload t bytes = ((header 0 payload bytes).finds t, (header 0 payload bytes).reads t)

pub footer_words : (payload : List ℕ) (sum : ℕ) (first t : Table) (gs : List Group) → IsBytes payload
    → (DescribesFooter payload sum first t gs → IsFooter sum first 0 payload (t, gs))
    × (IsFooter sum first 0 payload (t, gs) → DescribesFooter payload sum first t gs)
footer_words payload sum first t gs bytes =
    ((footer sum first 0 payload bytes).finds (t, gs), (footer sum first 0 payload bytes).reads (t, gs))

pub page_list_words : (payload : List ℕ) (sum : ℕ) (columns : List KnownColumn) (g : Group) (before after : ProgressCounts)
    (ks : List ClusterList) → IsBytes payload
    → (DescribesClusters payload sum columns g before ks after → IsPageList sum g columns before 0 payload (ks, after))
    × (IsPageList sum g columns before 0 payload (ks, after) → DescribesClusters payload sum columns g before ks after)
page_list_words payload sum columns g before after ks bytes =
    ((listed sum g columns before 0 payload bytes).finds (ks, after), (listed sum g columns before 0 payload bytes).reads (ks, after))
