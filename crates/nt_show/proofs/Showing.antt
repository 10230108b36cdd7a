-- What the showing of a file leaves, by what was read of it.
use Rattle.std.proofs.Common.{◌≡◌, ◌∙◌, ap, sym, refl, subst, ℕ, ◌≤◌, List, [], Option, Some, None, Result, Ok, Err, arith}
use Rattle.std.specs.Prelude.{IsErrOf}
use Rattle.nt_lists.specs.Chaining.{◌>>=◌}
use Rattle.nt_num.specs.declared.fault.ReadError.{ReadError}
use Rattle.nt_types.specs.TreeData.{TreesData}
use Rattle.nt_grammar.specs.Table.{Table}
use Rattle.nt_file_meaning.specs.Outlines.{Outline, outline_of}
use Rattle.nt_file_meaning.specs.Files.{entries_from, read_file}
use Rattle.nt_tfile.specs.Calls.{IsReadOrFails}
use Rattle.nt_tfile.specs.declared.failure.ReadFailure.{ReadFailure}
use Rattle.nt_tfile.specs.declared.failure.ReadFailure.TheVariants.{Defect, Fault, Memory}
use Rattle.nt_outside.specs.declared.fault.Refused.{Refused}
use Rattle.nt_outside.specs.declared.fault.Refused.TheVariants as refused
use Rattle.nt_outside.specs.declared.stream.Stream.TheVariants.{ToOut}
use Rattle.nt_outside.specs.World.{World, Turns, PrintsFront, prints}
use Rattle.nt_tfile.specs.Failures.{failure_of}
use Rattle.nt_show.specs.declared.entry_range.EntryRange.{EntryRange}
use Rattle.nt_show.specs.Ranges.{entry_lines, range_lines}
use Rattle.nt_show.specs.Gathering.{PrintsSome, GathersPart}
use Rattle.nt_outside.specs.Faults.{Rose}
use Rattle.nt_show.specs.Listing.{sound_from, sound_clusters, ClustersTold}
use Rattle.nt_show.specs.Fields.{fields_told}
use Rattle.nt_show.specs.Shown.{Shown, entries_shown, fields_shown, text_by, shown_text, PrintsFrontOf, Printed}
use Rattle.nt_show.proofs.Ranges.{range_lines-nil}
use Rattle.nt_show.proofs.Gathering.{prints-nothing, waiting_printed, part_printed, part_is_front, no_front}
use Rattle.nt_show.proofs.SoundClusters.{read_of, no_outline_read, no_outline_sound, sound_of_outline, sound_whole, sound_whole_from}

-- what is printed of the entries of a file is that of its sound clusters
pub entries-text : (range : EntryRange) (file : List ℕ) → shown_text (entries_shown range) file ≡ range_lines range (sound_clusters file)
entries-text range file = go (read_file file) refl
  where
    go : (r : Result (Table × List (List TreesData)) ReadError) → read_file file ≡ r
        → text_by (entries_shown range) file r ≡ range_lines range (sound_clusters file)
    go (Ok read) is = ap (range_lines range) (sym (sound_whole file read.0 read.1 is))
    go (Err e) is = refl

-- the outside refused before anything was printed
pub refused_first : {V : Type 0} (s : Shown V) (file : List ℕ) (w : World) (new : Option World) (f : ReadFailure)
    → ((e : ReadError) → f ≡ Defect e → ⊥) → new ≡ Some w → Printed s file w new (Err f)
refused_first s file w new (Defect e) none same = absurd (none e refl)
refused_first s file w new Fault none same = no_front (shown_text s file) w new same
refused_first s file w new Memory none same = no_front (shown_text s file) w new same

-- the file has no outline, or the outside refused
pub entries_unattached : (range : EntryRange) (file : List ℕ) (w : World) (new : Option World) (f : ReadFailure)
    → IsReadOrFails {V = Outline} (λ o. o) (Err f) (outline_of file) → new ≡ Some w
    → Printed (entries_shown range) file w new (Err f)
entries_unattached range file w new (Defect e) is same = (
  no_outline_read file e is,
  same ∙ ap (λ (v : World). Some v) (sym (prints-nothing w))
      ∙ ap (λ (l : List ℕ). Some (prints ToOut l w)) (sym (ap (range_lines range) (no_outline_sound file e is) ∙ range_lines-nil range)),
)
entries_unattached range file w new Fault is same = no_front (shown_text (entries_shown range) file) w new same
entries_unattached range file w new Memory is same = no_front (shown_text (entries_shown range) file) w new same

pub fields_unattached : (file : List ℕ) (w : World) (new : Option World) (f : ReadFailure)
    → IsReadOrFails {V = Outline} (λ o. o) (Err f) (outline_of file) → new ≡ Some w → Printed fields_shown file w new (Err f)
fields_unattached file w new (Defect e) is same = (is, same ∙ ap (λ (v : World). Some v) (sym (prints-nothing w)))
fields_unattached file w new Fault is same = no_front (shown_text fields_shown file) w new same
fields_unattached file w new Memory is same = no_front (shown_text fields_shown file) w new same

-- all clusters were read, and their lines printed
pub entries_whole : (range : EntryRange) (file left : List ℕ) (o : Outline) (clusters : List (List TreesData))
    (old mid new : Option World) (w : World)
    → old ≡ Some w → outline_of file ≡ Ok o
    → entries_from file o.table 0 o.clusters ≡ Ok clusters → PrintsSome (range_lines range clusters) old [] mid left
    → Turns mid new (prints ToOut left) → Printed (entries_shown range) file w new (Ok tt)
entries_whole range file left o clusters old mid new w told outlined is lines turns = (
  (o.table, clusters),
  read_of file o outlined ∙ ap (λ (r : Result (List (List TreesData)) ReadError). r >>= λ ks. Ok (o.table, ks)) is,
  waiting_printed (range_lines range clusters) old mid new [] left lines turns w told,
)

-- a cluster has a fault, and the lines of those before it were printed
pub entries_faulty : (range : EntryRange) (file left : List ℕ) (o : Outline) (e : ReadError) (old mid new : Option World) (w : World)
    → old ≡ Some w → outline_of file ≡ Ok o
    → entries_from file o.table 0 o.clusters ≡ Err e → PrintsSome (range_lines range (sound_from file o.table 0 o.clusters)) old [] mid left
    → Turns mid new (prints ToOut left) → Printed (entries_shown range) file w new (Err (Defect e))
entries_faulty range file left o e old mid new w told outlined is lines turns = (
  read_of file o outlined ∙ ap (λ (r : Result (List (List TreesData)) ReadError). r >>= λ ks. Ok (o.table, ks)) is,
  waiting_printed (range_lines range (sound_from file o.table 0 o.clusters)) old mid new [] left lines turns w told
      ∙ ap (λ (l : List (List TreesData)). Some (prints ToOut (range_lines range l) w)) (sym (sound_of_outline file o outlined)),
)

-- part of the lines was printed
entries_part : (range : EntryRange) (file : List ℕ) (o : Outline) (old new : Option World) (w : World) → old ≡ Some w
    → outline_of file ≡ Ok o → GathersPart (range_lines range (sound_from file o.table 0 o.clusters)) old [] new
    → PrintsFrontOf (shown_text (entries_shown range) file) w new
entries_part range file o old new w told outlined part =
    subst (λ (l : List ℕ). PrintsFrontOf l w new)
    (sym (entries-text range file ∙ ap (range_lines range) (sound_of_outline file o outlined)))
    (part_is_front (range_lines range (sound_from file o.table 0 o.clusters)) old new w told part)

pub entries_refused : (range : EntryRange) (file : List ℕ) (o : Outline) (r : Refused) (old new : Option World) (w : World) → old ≡ Some w
    → outline_of file ≡ Ok o
    → GathersPart (range_lines range (sound_from file o.table 0 o.clusters)) old [] new
    → Printed (entries_shown range) file w new (Err (failure_of r))
entries_refused range file o refused.Failed old new w told outlined part = entries_part range file o old new w told outlined part
entries_refused range file o refused.Memory old new w told outlined part = entries_part range file o old new w told outlined part

fields_part : (file : List ℕ) (o : Outline) (old new : Option World) (w : World) → old ≡ Some w → outline_of file ≡ Ok o
    → GathersPart (entry_lines (fields_told o.table)) old [] new
    → PrintsFrontOf (shown_text fields_shown file) w new
fields_part file o old new w told outlined part =
    subst (λ (l : List ℕ). PrintsFrontOf l w new) (sym (ap (text_by fields_shown file) outlined))
    (part_is_front (entry_lines (fields_told o.table)) old new w told part)

pub fields_refused : (file : List ℕ) (o : Outline) (r : Refused) (old new : Option World) (w : World) → old ≡ Some w
    → outline_of file ≡ Ok o → GathersPart (entry_lines (fields_told o.table)) old [] new
    → Printed fields_shown file w new (Err (failure_of r))
fields_refused file o refused.Failed old new w told outlined part = fields_part file o old new w told outlined part
fields_refused file o refused.Memory old new w told outlined part = fields_part file o old new w told outlined part

pub fields_whole : (file left : List ℕ) (o : Outline) (old mid new : Option World) (w : World) → old ≡ Some w → outline_of file ≡ Ok o
    → PrintsSome (entry_lines (fields_told o.table)) old [] mid left → Turns mid new (prints ToOut left)
    → Printed fields_shown file w new (Ok tt)
fields_whole file left o old mid new w told outlined lines turns =
    (o, outlined, waiting_printed (entry_lines (fields_told o.table)) old mid new [] left lines turns w told)

-- a print failed on the way
pub fields_unprinted : (file left : List ℕ) (o : Outline) (old mid new : Option World) (w : World) → old ≡ Some w → outline_of file ≡ Ok o
    → PrintsSome (entry_lines (fields_told o.table)) old [] mid left → PrintsFront ToOut left mid new
    → PrintsFrontOf (shown_text fields_shown file) w new
fields_unprinted file left o old mid new w told outlined lines front =
    fields_part file o old new w told outlined (part_printed (entry_lines (fields_told o.table)) old mid new [] left lines front)

pub entries_unprinted : (range : EntryRange) (file left : List ℕ) (o : Outline) (clusters : List (List TreesData))
    (old mid new : Option World) (w : World)
    → old ≡ Some w → outline_of file ≡ Ok o
    → sound_from file o.table 0 o.clusters ≡ clusters → PrintsSome (range_lines range clusters) old [] mid left
    → PrintsFront ToOut left mid new → PrintsFrontOf (shown_text (entries_shown range) file) w new
entries_unprinted range file left o clusters old mid new w told outlined is lines front =
    entries_part range file o old new w told outlined
    (subst (λ (l : List (List TreesData)). GathersPart (range_lines range l) old [] new) (sym is)
    (part_printed (range_lines range clusters) old mid new [] left lines front))

-- what was gathered behind nothing
pub told_from : (file : List ℕ) (o : Outline) (range : EntryRange) (old mid : Option World) (start left : List ℕ)
    (r : Result (Option ReadError) Refused)
    → start ≡ [] → ClustersTold file o range old start mid left r → ClustersTold file o range old [] mid left r
told_from file o range old mid start left r none told = subst (λ (l : List ℕ). ClustersTold file o range old l mid left r) none told

-- all clusters were listed, and a print failed
pub listed_unprinted : (range : EntryRange) (file left : List ℕ) (o : Outline) (fault : Option ReadError) (old mid new : Option World)
    (w : World)
    → old ≡ Some w → outline_of file ≡ Ok o → ClustersTold file o range old [] mid left (Ok fault) → PrintsFront ToOut left mid new
    → PrintsFrontOf (shown_text (entries_shown range) file) w new
listed_unprinted range file left o None old mid new w told outlined (clusters, is, lines) front =
    entries_unprinted range file left o clusters old mid new w told outlined (sound_whole_from file o.table 0 o.clusters clusters is)
    lines front
listed_unprinted range file left o (Some e) old mid new w told outlined (is, lines) front =
    entries_unprinted range file left o (sound_from file o.table 0 o.clusters) old mid new w told outlined refl lines front

-- all clusters were listed, and their lines printed
pub listed_whole : (range : EntryRange) (file left : List ℕ) (o : Outline) (fault : Option ReadError) (old mid new : Option World)
    (w : World)
    → fault ≡ None → old ≡ Some w → outline_of file ≡ Ok o → ClustersTold file o range old [] mid left (Ok fault)
    → Turns mid new (prints ToOut left) → Printed (entries_shown range) file w new (Ok tt)
listed_whole range file left o None old mid new w none told outlined (clusters, is, lines) turns =
    entries_whole range file left o clusters old mid new w told outlined is lines turns
listed_whole range file left o (Some e) old mid new w none told outlined listed turns = absurd (cc)

-- or those before a fault
pub listed_faulty : (range : EntryRange) (file left : List ℕ) (o : Outline) (fault : Option ReadError) (e : ReadError)
    (old mid new : Option World) (w : World)
    → fault ≡ Some e → old ≡ Some w → outline_of file ≡ Ok o
    → ClustersTold file o range old [] mid left (Ok fault) → Turns mid new (prints ToOut left)
    → Printed (entries_shown range) file w new (Err (Defect e))
listed_faulty range file left o None e old mid new w some told outlined listed turns = absurd (cc)
listed_faulty range file left o (Some d) e old mid new w some told outlined (is, lines) turns =
    entries_faulty range file left o e old mid new w told outlined (is ∙ ap (λ (f : ReadError). Err f) (cc)) lines turns

-- a refusal that failed is a fault
pub failed_of : {S T : Type 0} (r : Refused) → IsErrOf {T = S} (Err (failure_of r)) Fault → IsErrOf {T = T} (Err r) refused.Failed
failed_of refused.Failed is = refl
failed_of refused.Memory is = absurd (cc)

-- a count that rose at any step rose
pub rose_first : (before mid now : ℕ) → mid ≤ now → Rose before mid → Rose before now
rose_first before mid now later rose = omega (arith, rose, later)

pub rose_later : (before mid now : ℕ) → before ≤ mid → Rose mid now → Rose before now
rose_later before mid now later rose = omega (arith, rose, later)

-- a fault of one call is one of another
pub fault_again : {S T : Type 0} (f : ReadFailure) → IsErrOf {T = S} (Err f) Fault → IsErrOf {T = T} (Err f) Fault
fault_again (Defect e) is = absurd (cc)
fault_again Fault is = refl
fault_again Memory is = absurd (cc)

-- nothing was a fault of it
pub no_fault : {T : Type 0} (value : T) (P : Type 0) → IsErrOf {T = T} {E = ReadFailure} (Ok value) Fault → P
no_fault value P is = absurd (cc)

pub defect_is_no_fault : {T : Type 0} (e : ReadError) (P : Type 0) → IsErrOf {T = T} (Err (Defect e)) Fault → P
defect_is_no_fault e P is = absurd (cc)
