-- Groups that are read one behind the other.
use Rattle.std.proofs.Common.{◌≡◌, ℕ, ◌+◌, ◌<◌, ◌≤◌, ◌^◌, List, [], ◌++◌, map, length, drop, get_or, Result, Ok, Err, sym, ap, subst, ◌∙◌}
use Rattle.std.proofs.Common.{arith}
use Rattle.std.proofs.lemmas.List.{append-nil, drop_more, drop_all, length-append, length-map}
use Rattle.nt_num.specs.declared.fault.ReadError.{ReadError}
use Rattle.nt_format.specs.Reading.{standing}
use Rattle.nt_pagelists.specs.declared.group.Group.{Group}
use Rattle.nt_pagelists.specs.declared.column.KnownColumn.{KnownColumn}
use Rattle.nt_pagelists.specs.declared.cluster.ClusterList.{ClusterList}
use Rattle.nt_pagelists.specs.PageLists.{ProgressCounts, page_list_at}
use Rattle.nt_file_meaning.specs.Envelopes.{Sealed, Block, payload_start, envelope_of}
use Rattle.nt_pagelists.specs.Objects.{page_list_kind}
use Rattle.nt_file_meaning.specs.Outlines.{list_block, moved_cluster, clusters_of_block}
use Rattle.nt_meta.specs.Defects.{defect_of}
use Rattle.nt_meta.specs.declared.error.MetaError.{MetaError}
use Rattle.nt_lists.specs.Answering.{Refuses}
use Rattle.nt_tfile.specs.declared.failure.ReadFailure.{ReadFailure}
use Rattle.nt_tfile.specs.Calls.{IsReadOrFails}
use Rattle.nt_reader.specs.Failures.{IsInPayload}
use Rattle.nt_reader.specs.Steps.{clusters_with, clusters_behind, CanBeCounted, AreCounted, IsGroupCounted}
use Rattle.nt_listing.proofs.Chains.{fails-as}
use Rattle.nt_reader.proofs.Chains.{opened-read, opened-fails, payload-fails, group-read, clusters-more, clusters-fail}
use Rattle.nt_reader.proofs.Listing.{page_list-counted}

-- what is read, as it is
abbrev pub same : List ClusterList × ProgressCounts → List ClusterList × ProgressCounts
same read = read

module _ (told : List ℕ) (sum : ℕ) (columns : List KnownColumn) (g : Group) (p : ProgressCounts) (before : List ClusterList) where
  read_list : List ℕ → Result (List ClusterList × ProgressCounts) ReadError
  read_list text = page_list_at sum g columns p (standing 0 text)

  read_next : Sealed → List ClusterList × ProgressCounts → Result (List ClusterList × ProgressCounts) ReadError
  read_next list read = Ok (before ++ clusters_of_block (list_block g.link) read.0, read.1)

  -- a page list that isn't there
  pub list-fails : (block : Block) (e : ReadFailure) → block ≡ list_block g.link
      → IsReadOrFails {V = Sealed} (λ s. s) (Err e) (envelope_of told page_list_kind block)
      → IsReadOrFails same (Err e) (clusters_with sum columns g p before told)
  unfolding read_list read_next
  list-fails block e named h =
      fails-as same same e _ _ (group-read told sum columns g p before)
      (opened-fails same told page_list_kind (list_block g.link) block read_list read_next e named h)

  -- a page list that is none of this group
  pub list-refused : (block : Block) (is : Sealed) (text : List ℕ) (e : MetaError) (failure : ReadFailure) → block ≡ list_block g.link
      → envelope_of told page_list_kind block ≡ Ok is → text ≡ is.payload
      → Refuses (defect_of e) (page_list_at sum g columns p (standing 0 text)) → IsInPayload block.place e failure
      → IsReadOrFails same (Err failure) (clusters_with sum columns g p before told)
  unfolding read_list read_next
  list-refused block is text e failure named done there h inside =
      fails-as same same failure _ _ (group-read told sum columns g p before)
      (payload-fails same told page_list_kind (list_block g.link) block is text read_list read_next e failure named done there h
      (subst (λ (n : ℕ). IsInPayload n e failure) (ap (λ (b : Block). b.place) named) inside))

  -- its clusters, behind those before
  pub list-done : (block : Block) (is : Sealed) (text : List ℕ) (ks given all : List ClusterList) (q : ProgressCounts)
      → block ≡ list_block g.link
      → envelope_of told page_list_kind block ≡ Ok is → text ≡ is.payload → page_list_at sum g columns p (standing 0 text) ≡ Ok (ks, q)
      → given ≡ ks
      → all ≡ before ++ map (moved_cluster (block.place + payload_start)) given → clusters_with sum columns g p before told ≡ Ok (all, q)
  unfolding read_list read_next
  list-done block is text ks given all q named done there h kept new =
      group-read told sum columns g p before ∙ opened-read told page_list_kind (list_block g.link) block is text read_list read_next
      (ks, q) named done there h
      ∙ ap (λ (b : Block). Ok (before ++ map (moved_cluster (b.place + payload_start)) ks, q)) (sym named)
      ∙ ap (λ (l : List ClusterList). Ok (before ++ map (moved_cluster (block.place + payload_start)) l, q)) (sym kept)
      ∙ ap (λ (l : List ClusterList). Ok (l, q)) (sym new)

  pub list-counted : (text : List ℕ) (place : ℕ) (ks given all : List ClusterList) (q : ProgressCounts)
      → page_list_at sum g columns p (standing 0 text) ≡ Ok (ks, q) → given ≡ ks
      → all ≡ before ++ map (moved_cluster place) given → IsGroupCounted g p before q all
  list-counted text place ks given all q h kept new =
      let r = page_list-counted sum g columns p (standing 0 text) (ks, q) h in
      let long : length all ≡ length (before ++ map (moved_cluster place) given) = ap (λ (l : List ClusterList). length l) new in
      let few : length given ≡ length ks = ap (λ (l : List ClusterList). length l) kept in
      record {
        clusters = r.clusters;
        entries = r.entries;
        columns = r.columns;
        listed = omega (
          arith,
          long,
          few,
          r.listed,
          length-append before (map (moved_cluster place) given),
          length-map given
              (moved_cluster place),
        );
      }

-- the group that is read next has room
pub counted-first : (i : ℕ) (gs : List Group) (any : Group) (p : ProgressCounts) → i < length gs
    → AreCounted p.entries p.clusters (drop i gs)
    → CanBeCounted p.entries p.clusters (get_or gs i any) × AreCounted (p.entries + (get_or gs i any).span)
    (p.clusters + (get_or gs i any).clusters) (drop (i + 1) gs)
counted-first i gs any p lt h = subst (λ (l : List Group). AreCounted p.entries p.clusters l) (drop_more gs i any lt) h

pub counted-next : (i : ℕ) (gs : List Group) (any : Group) (p q : ProgressCounts) (ks all : List ClusterList) → i < length gs
    → AreCounted p.entries p.clusters (drop i gs)
    → IsGroupCounted (get_or gs i any) p ks q all → AreCounted q.entries q.clusters (drop (i + 1) gs)
counted-next i gs any p q ks all lt h c =
    subst (λ (n : ℕ). AreCounted n q.clusters (drop (i + 1) gs)) (sym c.entries)
    (subst (λ (n : ℕ). AreCounted (p.entries + (get_or gs i any).span) n (drop (i + 1) gs)) (sym c.clusters)
    (counted-first i gs any p lt h).1)

pub few-next : (i : ℕ) (gs : List Group) (any : Group) (p q : ProgressCounts) (ks all : List ClusterList) → i < length gs
    → AreCounted p.entries p.clusters (drop i gs)
    → IsGroupCounted (get_or gs i any) p ks q all → q.clusters < 2 ^ 32
few-next i gs any p q ks all lt h c = omega (arith, c.clusters, (counted-first i gs any p lt h).0.few)

pub listed-next : (g : Group) (p q : ProgressCounts) (ks all : List ClusterList) → length ks ≡ p.clusters → IsGroupCounted g p ks q all
    → length all ≡ q.clusters
listed-next g p q ks all listed c = omega (arith, listed, c.listed, c.clusters)

pub groups-more : (told : List ℕ) (sum : ℕ) (columns : List KnownColumn) (i : ℕ) (gs : List Group) (any : Group) (p q : ProgressCounts)
    (before all : List ClusterList) → i < length gs
    → clusters_with sum columns (get_or gs i any) p before told ≡ Ok (all, q)
    → clusters_behind sum columns (drop i gs) p before told ≡ clusters_behind sum columns (drop (i + 1) gs) q all told
groups-more told sum columns i gs any p q before all lt h =
    ap (λ (l : List Group). clusters_behind sum columns l p before told) (drop_more gs i any lt)
    ∙ clusters-more told sum columns (get_or gs i any) (drop (i + 1) gs) p q before all h

pub groups-fail : (told : List ℕ) (sum : ℕ) (columns : List KnownColumn) (i : ℕ) (gs : List Group) (any : Group) (p : ProgressCounts)
    (before : List ClusterList) (e : ReadFailure) → i < length gs
    → IsReadOrFails (λ (r : List ClusterList × ProgressCounts). r) (Err e) (clusters_with sum columns (get_or gs i any) p before told)
    → IsReadOrFails (λ (ks : List ClusterList). ks) (Err e) (clusters_behind sum columns (drop i gs) p before told)
groups-fail told sum columns i gs any p before e lt h =
    fails-as (λ (ks : List ClusterList). ks) (λ (ks : List ClusterList). ks) e _ _
    (ap (λ (l : List Group). clusters_behind sum columns l p before told) (drop_more gs i any lt))
    (clusters-fail (λ (r : List ClusterList × ProgressCounts). r) (λ (ks : List ClusterList). ks) told sum columns (get_or gs i any)
    (drop (i + 1) gs) p before e h)

pub groups-done : (told : List ℕ) (sum : ℕ) (columns : List KnownColumn) (i : ℕ) (gs : List Group) (p : ProgressCounts)
    (before : List ClusterList) → length gs ≤ i
    → clusters_behind sum columns (drop i gs) p before told ≡ Ok before
groups-done told sum columns i gs p before le = grown (drop_all i gs le)
  where
    grown : drop i gs ≡ [] → clusters_behind sum columns (drop i gs) p before told ≡ Ok before
    grown e = ap (λ (l : List Group). clusters_behind sum columns l p before told) e
        ∙ ap (λ (l : List ClusterList). Ok l) (append-nil before)
