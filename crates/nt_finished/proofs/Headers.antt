-- The anchor of a finished file leads to its header and its footer.
use Rattle.std.proofs.Common.{◌≡◌, ℕ, ◌+◌, ◌<◌, ◌≤◌, ◌^◌, List, [], ◌∷◌, map, length, Ok, refl, sym, ap, subst, ◌∙◌, append-nil}
use Rattle.std.proofs.Common.{arith}
use Rattle.std.specs.List.{concat, AllByRecursion}
use Rattle.std.proofs.lemmas.List.{length-map}
use Rattle.nt_xxh3.specs.Sum.{xxh3}
use Rattle.nt_format.specs.Reading.{standing}
use Rattle.nt_format.specs.Envelopes.{unsealed, envelope}
use Rattle.nt_format.proofs.Sum.{xxh3_below}
use Rattle.nt_container.specs.declared.anchor.Anchor.{Anchor}
use Rattle.nt_container.specs.Lengths.{begun_len}
use Rattle.nt_container.specs.Anchors.{anchor_of}
use Rattle.nt_container.specs.Finished.{IsAnchor}
use Rattle.nt_container.proofs.FinishedBack.{finished_back}
use Rattle.nt_grammar.specs.declared.rows.ColumnRow.{ColumnRow}
use Rattle.nt_grammar.specs.Table.{Table}
use Rattle.nt_grammar.specs.ReadingBack.{IsDescribed, header_of}
use Rattle.nt_machine.specs.History.{Cluster, ranges_of}
use Rattle.nt_book.specs.declared.meta.ClusterMeta.{ClusterMeta}
use Rattle.nt_book.specs.Books.{BookData, book_clusters}
use Rattle.nt_pagelists.specs.declared.group.Group.{Group}
use Rattle.nt_pagelists.specs.ReadingBack.{AreGroups}
use Rattle.nt_pagelists.specs.Footers.{footer_at}
use Rattle.nt_pagelists.specs.FooterWriting.{footer_text}
use Rattle.nt_pagelists.proofs.FootersBack.{footers-read}
use Rattle.nt_file_meaning.specs.Envelopes.{Sealed, header_kind, footer_kind, sealed, envelope_of}
use Rattle.nt_file_meaning.specs.Headers.{header_text, header_payload_at}
use Rattle.nt_file_meaning.specs.Outlines.{header_block, footer_block, described_of}
use Rattle.nt_file_meaning.proofs.HeadersBack.{header-reads}
use Rattle.nt_pagelists.specs.Blobs.{blob, object_place}
use Rattle.nt_lists.specs.Parts.{Part, part_bytes}
use Rattle.nt_layout.specs.Headers.{header_object, header_sum, clusters_place}
use Rattle.nt_pagelists.specs.Objects.{ClusterSpan, list_object, list_len}
use Rattle.nt_layout.specs.Groups.{PlacedList, list_parts, list_group, list_groups}
use Rattle.nt_layout.specs.Finished.{spans, list_places, range_parts, middle, footer_object, footer_place, anchor_of_file}
use Rattle.nt_layout.specs.Finished.{blobs}
use Rattle.nt_layout.specs.Finished.{finished}
use Rattle.nt_layout.specs.Laid.{Measures, AreMeasures, IsWithin, range_of}
use Rattle.nt_finished.specs.Ranged.{IsRangedBook}
use Rattle.nt_finished.proofs.Standing.{StandsThere, low_parts, object_stands}
use Rattle.nt_finished.proofs.Standing.{length-blob, length-envelope, opened}
use Rattle.nt_finished.proofs.Lengths.{anchor_start-is, length-finished}
use Rattle.nt_finished.proofs.PartsThere.{AreStanding, parts_stand}
use Rattle.nt_finished.proofs.Arranged.{all_among, all_from, ranges-named, list_spans, spans-are, all_spans, lists_in, ranges_in}
use Rattle.nt_finished.proofs.Arranged.{middle-end}
use Rattle.nt_finished.proofs.Spans.{AreInOrder, spans_in_order, order-le, groups_told}
use Rattle.nt_finished.proofs.Counts.{few_fields}

pub header_object-is : (t : Table) → header_object t ≡ envelope header_kind (header_text t)
unfolding header_object
header_object-is t = refl

pub header_sum-is : (t : Table) → header_sum t ≡ xxh3 (unsealed header_kind (header_text t))
unfolding header_sum
header_sum-is t = refl

pub footer_object-is : (t : Table) (book : BookData) (ls : List PlacedList)
    → footer_object t book ls ≡ envelope footer_kind (footer_text (header_sum t) t (list_groups (header_sum t) book ls))
unfolding footer_object
footer_object-is t book ls = refl

pub header_sum-below : (t : Table) → header_sum t < 2 ^ 64
header_sum-below t = subst (λ (n : ℕ). n < 2 ^ 64) (sym (header_sum-is t)) (xxh3_below (unsealed header_kind (header_text t)))

described-chain : (file : List ℕ) (a : Anchor) (h f : Sealed) (first t : Table) (gs : List Group)
    → envelope_of file header_kind (header_block a) ≡ Ok h
    → header_payload_at (standing 0 h.payload) ≡ Ok first → envelope_of file footer_kind (footer_block a) ≡ Ok f
    → footer_at h.sum first (standing 0 f.payload) ≡ Ok (t, gs) → described_of file a ≡ Ok (t, gs, h.sum)
unfolding described_of
described-chain file a h f first t gs p q r s = rw (p, q, r, s) refl

-- an envelope whose payload is read
sealed-sum : (kind sum : ℕ) (payload : List ℕ) → sum ≡ xxh3 (unsealed kind payload)
    → sealed kind payload ≡ record { payload = payload; sum = sum }
sealed-sum kind sum payload is = ap (λ (n : ℕ). record { payload = payload; sum = n }) (sym is)

module _ (t : Table) (m : Measures) (ranges : List (List ℕ)) (book : BookData)
    (is : IsDescribed t) (measures : AreMeasures m) (of : IsRangedBook m.staged t m.group book ranges) (within : IsWithin t m book) where
  abbrev ls : List PlacedList
  ls = list_places m.staged t book m.group

  abbrev parts : List Part
  parts = middle m.staged t book m.group ranges

  abbrev file : List ℕ
  file = finished m.staged t book m.group ranges

  abbrev anchor : Anchor
  anchor = anchor_of_file t book ls

  abbrev sum : ℕ
  sum = header_sum t

  ends : clusters_place t + length (concat (part_bytes parts)) ≡ footer_place t book ls
  ends = middle-end t book m.group ranges m.staged of.begin of.lens

  -- what stands there is short, and lies low
  header-short : length (header_object t) ≤ 2 ^ 30
  header-short = let a = within.header in let b = measures.range in omega (arith, a, b)

  footer-short : length (footer_object t book ls) ≤ 2 ^ 30
  footer-short = let a = within.footer in let b = measures.range in omega (arith, a, b)

  header-long : length (header_object t) ≡ length (header_text t) + 16
  header-long = ap length (header_object-is t) ∙ length-envelope header_kind (header_text t)

  footer-long : length (footer_object t book ls) ≡ length (footer_text sum t (list_groups sum book ls)) + 16
  footer-long = ap length (footer_object-is t book ls) ∙ length-envelope footer_kind (footer_text sum t (list_groups sum book ls))

  footer-low : footer_place t book ls + length (footer_object t book ls) + 300 ≤ 2 ^ 56
  footer-low = let a = within.file in let b = measures.file in omega (arith, a, b, anchor_start-is t book ls)

  -- the groups list the clusters in order
  pub lists-in_order : AreInOrder 0 (length (book_clusters book)) (list_spans ls)
  lists-in_order =
      subst (λ (ss : List ClusterSpan). AreInOrder 0 (length (book_clusters book)) ss) (sym (spans-are m.staged t book m.group))
      (spans_in_order m.group (length (book_clusters book)) measures.group)

  pub lists-short : AllByRecursion (λ (l : PlacedList). list_len sum book l.span ≤ 2 ^ 30) ls
  lists-short =
      all_spans (λ (s : ClusterSpan). list_len sum book s ≤ 2 ^ 30) ls
      (subst (λ (ss : List ClusterSpan). AllByRecursion (λ (s : ClusterSpan). list_len sum book s ≤ 2 ^ 30) ss)
      (sym (spans-are m.staged t book m.group)) (all-le (spans book m.group) within.lists))
    where
      all-le : (ss : List ClusterSpan) → AllByRecursion (λ (s : ClusterSpan). list_len sum book s ≤ m.range) ss
          → AllByRecursion (λ (s : ClusterSpan). list_len sum book s ≤ 2 ^ 30) ss
      all-le [] h = tt
      all-le (s ∷ ss) h = (let a = h.0 in let b = measures.range in omega (arith, a, b), all-le ss h.1)

  lists-low : AllByRecursion (λ (l : PlacedList). l.place + list_len sum book l.span ≤ 2 ^ 56) ls
  lists-low =
      all-low ls (all_from (λ (p : Part). p.place + length p.bytes ≤ 2 ^ 56) (list_parts sum book ls) (λ p in_lists.
      let low = all_among (λ (q : Part). q.place + length q.bytes ≤ clusters_place t + length (concat (part_bytes parts))) parts p
      (low_parts (clusters_place t) parts of.behind) (lists_in t book m.group ranges m.staged p in_lists) in
      omega (arith, low, ends, footer-low)))
    where
      all-low : (ks : List PlacedList) → AllByRecursion (λ (p : Part). p.place + length p.bytes ≤ 2 ^ 56) (list_parts sum book ks)
          → AllByRecursion (λ (l : PlacedList). l.place + list_len sum book l.span ≤ 2 ^ 56) ks
      all-low [] h = tt
      all-low (k ∷ ks) h = (let a = h.0 in omega (arith, a, length-blob k.place (list_object sum book k.span)), all-low ks h.1)

  pub few_columns : length t.columns < 2 ^ 32
  few_columns =
      let long : length t.columns ≡ length book.firsts = sym (length-map t.columns (λ (c : ColumnRow). c.first)) ∙ ap length of.firsts in
      let few = of.kept.columns in
      omega (arith, long, few)

  rows-few : length t.fields < 2 ^ 32
  rows-few =
      few_fields sum t (list_groups sum book ls) (omega (arith, header-long, header-short)) (omega (arith, footer-long, footer-short))

  standing_parts : AreStanding t book ls parts file
  standing_parts = parts_stand t book ls parts ends of.behind

  -- each page list stands at its place
  pub lists-stand : AllByRecursion (λ (l : PlacedList). StandsThere file l.place (blob l.place (list_object sum book l.span))) ls
  lists-stand =
      all-stand ls (all_from (λ (p : Part). StandsThere file p.place p.bytes) (list_parts sum book ls) (λ p in_lists.
      all_among (λ (q : Part). StandsThere file q.place q.bytes) parts p standing_parts.parts_are
      (lists_in t book m.group ranges m.staged p in_lists)))
    where
      all-stand : (ks : List PlacedList) → AllByRecursion (λ (p : Part). StandsThere file p.place p.bytes) (list_parts sum book ks)
          → AllByRecursion (λ (l : PlacedList). StandsThere file l.place (blob l.place (list_object sum book l.span))) ks
      all-stand [] h = tt
      all-stand (k ∷ ks) h = (h.0, all-stand ks h.1)

  -- and the range of each cluster
  pub ranges-stand : AllByRecursion (λ (p : Part). StandsThere file p.place p.bytes)
      (range_parts (book_clusters book) (map (range_of ranges) (book_clusters book)))
  ranges-stand =
      let rs = ranges_of book.history in
      let same : length ranges ≡ length rs =
      sym (length-map ranges length) ∙ (ap length of.lens ∙ length-map rs (λ (c : Cluster ClusterMeta). c.len)) in
      all_from (λ (p : Part). StandsThere file p.place p.bytes)
      (range_parts (book_clusters book) (map (range_of ranges) (book_clusters book))) (λ p in_ranges.
      all_among (λ (q : Part). StandsThere file q.place q.bytes) parts p standing_parts.parts_are
      (ranges_in t book m.group ranges m.staged p (ranges-named rs ranges (book_clusters book) p same of.kept.named in_ranges)))

  anchor-is : IsAnchor anchor
  anchor-is = record {
    header = omega arith;
    header_size = omega (arith, header-short);
    header_len = omega (arith, header-short);
    footer = omega (arith, footer-low);
    footer_size = omega (arith, footer-short);
    footer_len = omega (arith, footer-short);
  }

  pub anchor-reads : anchor_of file ≡ Ok anchor
  anchor-reads =
      let long = length-finished t book ls parts ends in
      let a = within.file in
      let b = measures.file in
      finished_back anchor (blobs t book ls parts) anchor-is (omega (arith, long, a, b))

  header-opened : envelope_of file header_kind (header_block anchor) ≡ Ok (record { payload = header_text t; sum = sum })
  header-opened =
      opened file header_kind (header_text t) (header_object t) (object_place begun_len) (omega arith) (header_object-is t) header-short
      (object_stands file (header_object t) begun_len standing_parts.header)
      ∙ ap (λ (s : Sealed). Ok s) (sealed-sum header_kind sum (header_text t) (header_sum-is t))

  footer-opened : envelope_of file footer_kind (footer_block anchor)
      ≡ Ok (sealed footer_kind (footer_text sum t (list_groups sum book ls)))
  footer-opened =
      opened file footer_kind (footer_text sum t (list_groups sum book ls)) (footer_object t book ls)
      (object_place (footer_place t book ls)) (omega arith)
      (footer_object-is t book ls) footer-short
      (object_stands file (footer_object t book ls) (footer_place t book ls) standing_parts.footer)

  groups-told : AreGroups 0 0 (list_groups sum book ls)
  groups-told =
      groups_told sum book (length (book_clusters book)) of.kept (omega arith) 0 ls lists-in_order lists-short lists-low

  groups-few : length (list_groups sum book ls) < 2 ^ 32
  groups-few =
      let few = of.kept.few in
      omega (
        arith,
        few,
        length-map ls (list_group sum book),
        length-map ls (λ (l : PlacedList). l.span),
        order-le 0 (length (book_clusters book)) (list_spans ls) lists-in_order,
      )

  header-read : header_payload_at (standing 0 (header_text t)) ≡ Ok (header_of t)
  header-read =
      ap (λ (l : List ℕ). header_payload_at (standing 0 l)) (sym (append-nil (header_text t)))
      ∙ header-reads t 0 [] is rows-few few_columns (omega (arith, header-long, header-short))

  footer-read : footer_at sum (header_of t) (standing 0 (footer_text sum t (list_groups sum book ls))) ≡ Ok (t, list_groups sum book ls)
  footer-read =
      ap (λ (l : List ℕ). footer_at sum (header_of t) (standing 0 l)) (sym (append-nil (footer_text sum t (list_groups sum book ls))))
      ∙ footers-read sum t (list_groups sum book ls) 0 [] (header_sum-below t) groups-told groups-few
      (omega (arith, footer-long, footer-short)) is rows-few few_columns

  -- header and footer describe the schema and the groups
  pub described : described_of file anchor ≡ Ok (t, list_groups sum book ls, sum)
  described =
      described-chain file anchor (record { payload = header_text t; sum = sum })
      (sealed footer_kind (footer_text sum t (list_groups sum book ls))) (header_of t) t (list_groups sum book ls)
      header-opened header-read footer-opened footer-read
