-- The clusters of a file before its first fault.
use Rattle.std.proofs.Common.{◌≡◌, ◌∙◌, ap, sym, refl, subst, ℕ, ◌+◌, ◌<◌, ◌≤◌, true, false, List, [], ◌∷◌, ◌++◌, length, drop, Option}
use Rattle.std.proofs.Common.{Some, None, Result, Ok, Err, append_assoc, length-append}
use Rattle.std.specs.Prelude.{is_some}
use Rattle.std.proofs.lemmas.List.{append-nil, drop_more, drop_all}
use Rattle.std.proofs.lemmas.List.Concat.{flat_map-append}
use Rattle.nt_lists.specs.Chaining.{◌>>=◌}
use Rattle.nt_num.specs.declared.fault.ReadError.{ReadError}
use Rattle.nt_types.specs.TreeData.{TreesData}
use Rattle.nt_pagelists.specs.declared.cluster.ClusterList.{ClusterList}
use Rattle.nt_file_meaning.specs.Outlines.{Outline}
use Rattle.nt_file_meaning.specs.Files.{entries_from}
use Rattle.nt_reader.specs.Outlines.{unlisted_cluster, numbered_cluster, entries_in}
use Rattle.nt_outside.specs.World.{World}
use Rattle.nt_show.specs.declared.entry_range.EntryRange.{EntryRange}
use Rattle.nt_show.specs.Ranges.{entry_lines, in_range, all_entries, range_lines, past_entries}
use Rattle.nt_show.specs.Gathering.{PrintsSome, GathersPart}
use Rattle.nt_show.specs.Listing.{before_others, sound_from, cluster_lines, ClusterTold, ClustersTold}
use Rattle.nt_show.proofs.Ranges.{range_lines-append, range_lines-one, range_lines-cons, range_lines-nil, past_entries-past_entries}
use Rattle.nt_show.proofs.Ranges.{past_entries-nothing}
use Rattle.nt_show.proofs.Gathering.{gathers_then, gathers_nothing, part_then, part_more}

-- what was read, and what is read of others behind it
abbrev pub behind : List (List TreesData) → Result (List (List TreesData)) ReadError → Result (List (List TreesData)) ReadError
behind before (Ok others) = Ok (before ++ others)
behind before (Err e) = Err e

behind-nothing : (r : Result (List (List TreesData)) ReadError) → behind [] r ≡ r
behind-nothing (Ok others) = refl
behind-nothing (Err e) = refl

behind-behind : (before after : List (List TreesData)) (r : Result (List (List TreesData)) ReadError)
    → behind before (behind after r) ≡ behind (before ++ after) r
behind-behind before after (Ok others) = ap (λ (l : List (List TreesData)). Ok l) (sym (append_assoc before after others))
behind-behind before after (Err e) = refl

first_read : (r : Result (List TreesData) ReadError) (others : Result (List (List TreesData)) ReadError) (entries : List TreesData)
    → r ≡ Ok entries
    → (r >>= λ first. others >>= λ rest. Ok (first ∷ rest)) ≡ behind (entries ∷ []) others
first_read r (Ok rest) entries is = rw is refl
first_read r (Err e) entries is = rw is refl

first_faulty : (r : Result (List TreesData) ReadError) (others : Result (List (List TreesData)) ReadError) (e : ReadError) → r ≡ Err e
    → (r >>= λ first. others >>= λ rest. Ok (first ∷ rest)) ≡ Err e
first_faulty r others e is = rw is refl

next_cluster : (o : Outline) (k : ℕ) → k < length o.clusters → drop k o.clusters ≡ numbered_cluster o k ∷ drop (k + 1) o.clusters
next_cluster o k low = drop_more o.clusters k unlisted_cluster low

-- a listing that has come as far as this cluster
pub record IsListing (file : List ℕ) (o : Outline) (range : EntryRange) (k : ℕ) (left : EntryRange) (old : Option World)
    (waiting : List ℕ) (new : Option World) (behind-it : List ℕ) : Type 0 where
  pub before : List (List TreesData)
  pub reads : entries_from file o.table 0 o.clusters ≡ behind before (entries_from file o.table k (drop k o.clusters))
  pub sound : sound_from file o.table 0 o.clusters ≡ before ++ sound_from file o.table k (drop k o.clusters)
  pub left_is : left ≡ past_entries (length (all_entries before)) range
  pub gathers : PrintsSome (range_lines range before) old waiting new behind-it

-- before the first
pub begins : (file : List ℕ) (o : Outline) (range : EntryRange) (world : Option World) (waiting : List ℕ)
    → IsListing file o range 0 range world waiting world waiting
begins file o range world waiting = record {
  before = [];
  reads = sym (behind-nothing (entries_from file o.table 0 o.clusters));
  sound = refl;
  left_is = sym (past_entries-nothing range);
  gathers = subst (λ (l : List ℕ). PrintsSome l world waiting world waiting) (sym (range_lines-nil range)) (gathers_nothing world waiting);
}

reads_more : (file : List ℕ) (o : Outline) (k : ℕ) (before : List (List TreesData)) (entries : List TreesData) → k < length o.clusters
    → entries_in o k file ≡ Ok entries
    → entries_from file o.table 0 o.clusters ≡ behind before (entries_from file o.table k (drop k o.clusters))
    → entries_from file o.table 0 o.clusters ≡ behind (before ++ entries ∷ []) (entries_from file o.table (k + 1) (drop (k + 1) o.clusters))
reads_more file o k before entries low is reads =
    reads
    ∙ ap (λ (l : List ClusterList). behind before (entries_from file o.table k l)) (next_cluster o k low)
    ∙ ap (behind before) (first_read (entries_in o k file) (entries_from file o.table (k + 1) (drop (k + 1) o.clusters)) entries is)
    ∙ behind-behind before (entries ∷ []) (entries_from file o.table (k + 1) (drop (k + 1) o.clusters))

sound_more : (file : List ℕ) (o : Outline) (k : ℕ) (before : List (List TreesData)) (entries : List TreesData) → k < length o.clusters
    → entries_in o k file ≡ Ok entries
    → sound_from file o.table 0 o.clusters ≡ before ++ sound_from file o.table k (drop k o.clusters)
    → sound_from file o.table 0 o.clusters ≡ (before ++ entries ∷ []) ++ sound_from file o.table (k + 1) (drop (k + 1) o.clusters)
sound_more file o k before entries low is sound =
    sound
    ∙ ap (λ (l : List ClusterList). before ++ sound_from file o.table k l) (next_cluster o k low)
    ∙ ap (λ (r : Result (List TreesData) ReadError). before ++ before_others r
    (sound_from file o.table (k + 1) (drop (k + 1) o.clusters))) is
    ∙ sym (append_assoc before (entries ∷ []) (sound_from file o.table (k + 1) (drop (k + 1) o.clusters)))

length-all_entries : (before : List (List TreesData)) (entries : List TreesData)
    → length (all_entries (before ++ entries ∷ [])) ≡ length (all_entries before) + length entries
length-all_entries before entries =
    ap length (flat_map-append (λ (l : List TreesData). l) before (entries ∷ []))
    ∙ length-append (all_entries before) (entries ++ [])
    ∙ ap (λ (l : List TreesData). length (all_entries before) + length l) (append-nil entries)

-- and behind one more
pub goes_on : (file : List ℕ) (o : Outline) (range left left' : EntryRange) (k : ℕ) (old mid new : Option World)
    (waiting one two : List ℕ) (entries : List TreesData)
    → k < length o.clusters
    → IsListing file o range k left old waiting mid one → entries_in o k file ≡ Ok entries → left' ≡ past_entries (length entries) left
    → PrintsSome (entry_lines (in_range left entries)) mid one new two
    → IsListing file o range (k + 1) left' old waiting new two
goes_on file o range left left' k old mid new waiting one two entries low so-far is past-is more = record {
  before = so-far.before ++ entries ∷ [];
  reads = reads_more file o k so-far.before entries low is so-far.reads;
  sound = sound_more file o k so-far.before entries low is so-far.sound;
  left_is =
      past-is ∙ ap (past_entries (length entries)) so-far.left_is
      ∙ past_entries-past_entries (length (all_entries so-far.before)) (length entries) range
      ∙ ap (λ (n : ℕ). past_entries n range) (sym (length-all_entries so-far.before entries));
  gathers =
      let lines : range_lines range so-far.before ++ entry_lines (in_range left entries) ≡ range_lines range
      (so-far.before ++ entries ∷ []) =
      ap (λ (r : EntryRange). range_lines range so-far.before ++ entry_lines (in_range r entries)) so-far.left_is
      ∙ ap (λ (l : List ℕ). range_lines range so-far.before ++ l)
      (sym (range_lines-one (past_entries (length (all_entries so-far.before)) range) entries))
      ∙ sym (range_lines-append range so-far.before (entries ∷ [])) in
      subst (λ (l : List ℕ). PrintsSome l old waiting new two) lines
      (gathers_then (range_lines range so-far.before) (entry_lines (in_range left entries)) old mid new waiting one two so-far.gathers
      more);
}

-- a cluster with a fault ends it
pub ends_at_fault : (file : List ℕ) (o : Outline) (range left : EntryRange) (k : ℕ) (old new : Option World) (waiting one : List ℕ)
    (e : ReadError)
    → k < length o.clusters
    → IsListing file o range k left old waiting new one → entries_in o k file ≡ Err e
    → (entries_from file o.table 0 o.clusters ≡ Err e) × PrintsSome (range_lines range (sound_from file o.table 0 o.clusters)) old waiting
    new one
ends_at_fault file o range left k old new waiting one e low so-far is =
    let none : sound_from file o.table 0 o.clusters ≡ so-far.before =
    so-far.sound
    ∙ ap (λ (l : List ClusterList). so-far.before ++ sound_from file o.table k l) (next_cluster o k low)
    ∙ ap (λ (r : Result (List TreesData) ReadError). so-far.before ++ before_others r
    (sound_from file o.table (k + 1) (drop (k + 1) o.clusters))) is
    ∙ append-nil so-far.before in (
      so-far.reads
          ∙ ap (λ (l : List ClusterList). behind so-far.before (entries_from file o.table k l)) (next_cluster o k low)
          ∙ ap (behind so-far.before) (first_faulty (entries_in o k file) (entries_from file o.table (k + 1) (drop (k + 1) o.clusters)) e
          is),
      subst (λ (l : List (List TreesData)). PrintsSome (range_lines range l) old waiting new one) (sym none) so-far.gathers,
    )

-- the lines of a cluster are the first of those of it and of others
cluster_first : (left : EntryRange) (r : Result (List TreesData) ReadError) (others : List (List TreesData))
    → (more : List ℕ) × (range_lines left (before_others r others) ≡ cluster_lines left r ++ more)
cluster_first left (Ok entries) others = (range_lines (past_entries (length entries) left) others, range_lines-cons left entries others)
cluster_first left (Err e) others = ([], range_lines-nil left)

-- what came of a cluster where the outside refused is part of what would have come
pub ends_early : (file : List ℕ) (o : Outline) (range left : EntryRange) (k : ℕ) (old mid new : Option World) (waiting one : List ℕ)
    → k < length o.clusters
    → IsListing file o range k left old waiting mid one → GathersPart (cluster_lines left (entries_in o k file)) mid one new
    → GathersPart (range_lines range (sound_from file o.table 0 o.clusters)) old waiting new
ends_early file o range left k old mid new waiting one low so-far part =
    let others = sound_from file o.table (k + 1) (drop (k + 1) o.clusters) in
    let first = cluster_first left (entries_in o k file) others in
    let lines : (range_lines range so-far.before ++ cluster_lines left (entries_in o k file)) ++ first.0 ≡ range_lines range
    (sound_from file o.table 0 o.clusters) =
    append_assoc (range_lines range so-far.before) (cluster_lines left (entries_in o k file)) first.0
    ∙ ap (λ (l : List ℕ). range_lines range so-far.before ++ l) (sym first.1)
    ∙ ap (λ (r : EntryRange). range_lines range so-far.before ++ range_lines r (before_others (entries_in o k file) others)) so-far.left_is
    ∙ sym (range_lines-append range so-far.before (before_others (entries_in o k file) others))
    ∙ ap (range_lines range) (ap (λ (l : List ClusterList). so-far.before ++ sound_from file o.table k l) (sym (next_cluster o k low))
    ∙ sym so-far.sound) in
    subst (λ (l : List ℕ). GathersPart l old waiting new) lines
    (part_more (range_lines range so-far.before ++ cluster_lines left (entries_in o k file)) first.0 old new waiting
    (part_then (range_lines range so-far.before) (cluster_lines left (entries_in o k file)) old mid new waiting one so-far.gathers part))

-- all clusters are listed
pub ends_whole : (file : List ℕ) (o : Outline) (range left : EntryRange) (k : ℕ) (old new : Option World) (waiting one : List ℕ)
    → length o.clusters ≤ k
    → IsListing file o range k left old waiting new one
    → (clusters : List (List TreesData)) × (entries_from file o.table 0 o.clusters ≡ Ok clusters) × PrintsSome (range_lines range clusters)
    old waiting new one
ends_whole file o range left k old new waiting one past-all so-far = (
  so-far.before,
  so-far.reads
      ∙ ap (λ (l : List ClusterList). behind so-far.before (entries_from file o.table k l)) (drop_all k o.clusters past-all)
      ∙ ap (λ (l : List (List TreesData)). Ok l) (append-nil so-far.before),
  so-far.gathers,
)

-- a cluster had a fault
pub fault_told : (file : List ℕ) (o : Outline) (range left left' : EntryRange) (k : ℕ) (old mid new : Option World)
    (waiting one two : List ℕ) (fault : Option ReadError)
    → k < length o.clusters → is_some fault ≡ true
    → IsListing file o range k left old waiting mid one → ClusterTold file o k left left' mid one new two (Ok fault)
    → ClustersTold file o range old waiting new two (Ok fault)
fault_told file o range left left' k old mid new waiting one two None low some so-far told = absurd (cc)
fault_told file o range left left' k old mid new waiting one two (Some e) low some so-far (is, same, kept) =
    let ends = ends_at_fault file o range left k old mid waiting one e low so-far is in
    let lines = range_lines range (sound_from file o.table 0 o.clusters) in (
      ends.0,
      subst (λ (v : Option World). PrintsSome lines old waiting v two) (sym same)
          (subst (λ (l : List ℕ). PrintsSome lines old waiting mid l) (sym kept) ends.1),
    )

-- a cluster had none
pub entries_told : (file : List ℕ) (o : Outline) (range left left' : EntryRange) (k : ℕ) (old mid new : Option World)
    (waiting one two : List ℕ) (fault : Option ReadError)
    → k < length o.clusters → is_some fault ≡ false
    → IsListing file o range k left old waiting mid one → ClusterTold file o k left left' mid one new two (Ok fault)
    → IsListing file o range (k + 1) left' old waiting new two
entries_told file o range left left' k old mid new waiting one two None low none so-far (entries, is, past-is, more) =
    goes_on file o range left left' k old mid new waiting one two entries low so-far is past-is more
entries_told file o range left left' k old mid new waiting one two (Some e) low none so-far told = absurd (cc)
