-- The payload of a footer, as a grammar with its conditions (RNTuple Binary Format Specification 1.0.0.0, sections Footer Envelope, Schema
-- Extension Record Frame and Cluster Group Record Frame).
use Rattle.std.specs.Prelude.{ℕ, ◌≡◌, ◌+◌, ◌^◌, ◌<◌, List, [], ◌++◌, length}
use Rattle.std.specs.Int.{w32, w64, to_le_bytes}
use Rattle.nt_format.specs.Frames.{record_frame}
use Rattle.nt_format.specs.Locators.{link}
use Rattle.nt_grammar.specs.Table.{Table}
use Rattle.nt_grammar.specs.declared.part.Part.TheVariants.{Extension}
use Rattle.nt_pagelists.specs.declared.group.Group.{Group}
use Rattle.nt_pagelists.specs.ReadingBack.{AreGroups}
use Rattle.nt_payloads.specs.Framed.{InRecord, InList, Items}
use Rattle.nt_payloads.specs.Descriptions.{AddsDescription}

-- the first entry of a cluster group, the number of its entries, that of its clusters, and the link to its page list; their ranges are
-- those of `IsGroup`
pub record GroupText (place : ℕ) (text : List ℕ) (g : Group) : Type 0 where
  pub parts : text ≡ to_le_bytes w64 g.first ++ (to_le_bytes w64 g.span ++ (to_le_bytes w32 g.clusters ++ link g.link))

-- the record frame of a schema's extension: it is empty, or a description stands in it, whose rows come behind those of the header
pub data ExtensionText (header : Table) (place : ℕ) : List ℕ → Table → Type 0 where
  no_extension : ExtensionText header place (record_frame []) header
  extended_by : {text : List ℕ} {t : Table} → InRecord (AddsDescription Extension header) place text t → ExtensionText header place text t

-- the payload of a footer: no feature flag, the checksum of the header, the extension, the list frame of the cluster groups, each a record
-- frame, and then any bytes; each group begins with the entries behind those before it
pub record IsFooter (sum : ℕ) (header : Table) (place : ℕ) (payload : List ℕ) (read : Table × List Group) : Type 0 where
  pub extension : List ℕ
  pub groups : List ℕ
  pub more : List ℕ
  pub parts : payload ≡ to_le_bytes w64 0 ++ (to_le_bytes w64 sum ++ (extension ++ (groups ++ more)))
  pub fits : sum < 2 ^ 64
  pub extends : ExtensionText header (place + 16) extension read.0
  pub are_groups : InList (Items (InRecord GroupText)) (place + 16 + length extension) groups read.1
  pub behind : AreGroups 0 0 read.1
