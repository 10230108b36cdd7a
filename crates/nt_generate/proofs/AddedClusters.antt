-- The clusters of a file, read one after the other, and their totals.
use Rattle.std.proofs.Common.{◌≡◌, ◌∙◌, ap, sym, refl, ℕ, ◌+◌, ◌<◌, ◌≤◌, List, [], ◌∷◌, ◌++◌, length, drop}
use Rattle.std.proofs.Common.{take, replicate, Result, Ok, Err, append_assoc, append-nil, length-append, arith}
use Rattle.std.specs.Prelude.{slice_get}
use Rattle.std.proofs.lemmas.List.{drop_more, drop_all, length-replicate, take_all}
use Rattle.nt_lists.specs.Chaining.{◌>>=◌}
use Rattle.nt_num.specs.declared.fault.ReadError.{ReadError}
use Rattle.nt_types.specs.TreeData.{TreesData}
use Rattle.nt_pagelists.specs.declared.cluster.ClusterList.{ClusterList}
use Rattle.nt_grammar.specs.Table.{Table}
use Rattle.nt_file_meaning.specs.Outlines.{Outline, outline_of}
use Rattle.nt_file_meaning.specs.Files.{entries_from, read_file}
use Rattle.nt_reader.specs.Outlines.{unlisted_cluster, numbered_cluster, entries_in}
use Rattle.nt_generate.specs.declared.total.Total.{Total}
use Rattle.nt_generate.specs.Totals.{totals_of}
use Rattle.nt_generate.specs.Adding.{empty_total, with_named}
use Rattle.nt_tfile.specs.declared.failure.ReadFailure.{ReadFailure}
use Rattle.nt_tfile.specs.declared.failure.ReadFailure.TheVariants.{Defect, Fault, Memory}
use Rattle.nt_tfile.specs.Calls.{IsReadOrFails}
use Rattle.nt_generate.specs.ReadTotals.{totals_in, outline_totals}
use Rattle.nt_lists.proofs.Chaining.{bind_ok}
use Rattle.nt_lists.proofs.Variants.{ok_is}
use Rattle.nt_generate.proofs.Adding.{length-totals_of, totals_of-nil, totals_of-push}

-- what was read, and what is read of others behind it
abbrev behind : List (List TreesData) → Result (List (List TreesData)) ReadError → Result (List (List TreesData)) ReadError
behind before (Ok others) = Ok (before ++ others)
behind before (Err e) = Err e

behind-nothing : (r : Result (List (List TreesData)) ReadError) → behind [] r ≡ r
behind-nothing (Ok others) = refl
behind-nothing (Err e) = refl

behind-behind : (before after : List (List TreesData)) (r : Result (List (List TreesData)) ReadError)
    → behind before (behind after r) ≡ behind (before ++ after) r
behind-behind before after (Ok others) = ap (λ (l : List (List TreesData)). Ok l) (sym (append_assoc before after others))
behind-behind before after (Err e) = refl

first_read : (r : Result (List TreesData) ReadError) (others : Result (List (List TreesData)) ReadError) (entries : List TreesData)
    → r ≡ Ok entries
    → (r >>= λ first. others >>= λ rest. Ok (first ∷ rest)) ≡ behind (entries ∷ []) others
first_read r (Ok rest) entries is = rw is refl
first_read r (Err e) entries is = rw is refl

first_faulty : (r : Result (List TreesData) ReadError) (others : Result (List (List TreesData)) ReadError) (e : ReadError) → r ≡ Err e
    → (r >>= λ first. others >>= λ rest. Ok (first ∷ rest)) ≡ Err e
first_faulty r others e is = rw is refl

next_cluster : (o : Outline) (k : ℕ) → k < length o.clusters → drop k o.clusters ≡ numbered_cluster o k ∷ drop (k + 1) o.clusters
next_cluster o k low = drop_more o.clusters k unlisted_cluster low

-- the clusters before this one were read and added
pub record IsAdding (file : List ℕ) (o : Outline) (order : List ℕ) (contexts k : ℕ) (totals : List Total) : Type 0 where
  pub before : List (List TreesData)
  pub long : length before ≡ k
  pub reads : entries_from file o.table 0 o.clusters ≡ behind before (entries_from file o.table k (drop k o.clusters))
  pub are : totals ≡ totals_of contexts order before

pub begins : (file : List ℕ) (o : Outline) (order : List ℕ) (contexts : ℕ) (totals : List Total) → totals ≡ replicate contexts empty_total
    → IsAdding file o order contexts 0 totals
begins file o order contexts totals empty = record {
  before = [];
  long = refl;
  reads = sym (behind-nothing (entries_from file o.table 0 o.clusters));
  are = empty ∙ totals_of-nil contexts order;
}

module _ (file : List ℕ) (o : Outline) (order : List ℕ) (contexts k : ℕ) (totals : List Total)
    (so-far : IsAdding file o order contexts k totals) where
  pub goes_on : (entries : List TreesData) (totals' : List Total) → k < length o.clusters → entries_in o k file ≡ Ok entries
      → totals' ≡ with_named (slice_get order k) entries totals → IsAdding file o order contexts (k + 1) totals'
  goes_on entries totals' low is more = record {
    before = so-far.before ++ entries ∷ [];
    long = length-append so-far.before (entries ∷ []) ∙ ap (λ (n : ℕ). n + 1) so-far.long;
    reads =
        so-far.reads
        ∙ ap (λ (l : List ClusterList). behind so-far.before (entries_from file o.table k l)) (next_cluster o k low)
        ∙ ap (behind so-far.before)
        (first_read (entries_in o k file) (entries_from file o.table (k + 1) (drop (k + 1) o.clusters)) entries is)
        ∙ behind-behind so-far.before (entries ∷ []) (entries_from file o.table (k + 1) (drop (k + 1) o.clusters));
    are =
        more ∙ ap (with_named (slice_get order k) entries) so-far.are
        ∙ ap (λ (n : ℕ). with_named (slice_get order n) entries (totals_of contexts order so-far.before)) (sym so-far.long)
        ∙ totals_of-push contexts order so-far.before entries;
  }

  pub ends_at_fault : (e : ReadError) → k < length o.clusters → entries_in o k file ≡ Err e → outline_totals contexts order o file ≡ Err e
  ends_at_fault e low is =
      let faulty : entries_from file o.table 0 o.clusters ≡ Err e =
      so-far.reads
      ∙ ap (λ (l : List ClusterList). behind so-far.before (entries_from file o.table k l)) (next_cluster o k low)
      ∙ ap (behind so-far.before) (first_faulty (entries_in o k file) (entries_from file o.table (k + 1) (drop (k + 1) o.clusters)) e is) in
      rw faulty refl

  pub ends_whole : length o.clusters ≤ k → outline_totals contexts order o file ≡ Ok totals
  ends_whole past =
      let whole : entries_from file o.table 0 o.clusters ≡ Ok so-far.before =
      so-far.reads
      ∙ ap (λ (l : List ClusterList). behind so-far.before (entries_from file o.table k l)) (drop_all k o.clusters past)
      ∙ ap (λ (l : List (List TreesData)). Ok l) (append-nil so-far.before) in
      rw (whole, so-far.are) refl

  refused : {U V : Type 0} (seen : U → List TreesData) (view : V → List Total) (f : ReadFailure) → k < length o.clusters
      → IsReadOrFails seen (Err f) (entries_in o k file) → IsReadOrFails view (Err f) (outline_totals contexts order o file)
  refused seen view (Defect e) low is = ends_at_fault e low is
  refused seen view Fault low is = tt
  refused seen view Memory low is = tt

  pub ends_refused : {U V : Type 0} (seen : U → List TreesData) (result : Result V ReadFailure) (view : V → List Total) (f : ReadFailure)
      → result ≡ Err f → k < length o.clusters → IsReadOrFails seen (Err f) (entries_in o k file)
      → IsReadOrFails view result (outline_totals contexts order o file)
  ends_refused seen result view f same low is = rw same (refused seen view f low is)

-- the totals of a file with an outline are those of its clusters
totals_of_outline : (contexts : ℕ) (order file : List ℕ) (o : Outline) → outline_of file ≡ Ok o
    → totals_in contexts order file ≡ outline_totals contexts order o file
unfolding read_file
totals_of_outline contexts order file o is =
    let read : read_file file ≡ (entries_from file o.table 0 o.clusters >>= λ clusters. Ok (o.table, clusters)) = rw is refl in
    ap (λ (r : Result (Table × List (List TreesData)) ReadError). r >>= λ (p : Table × List (List TreesData)).
    Ok (totals_of contexts order p.1)) read
    ∙ chained (entries_from file o.table 0 o.clusters)
  where
    chained : (r : Result (List (List TreesData)) ReadError)
        → ((r >>= λ clusters. Ok (o.table, clusters)) >>= λ (p : Table × List (List TreesData)). Ok (totals_of contexts order p.1))
        ≡ (r >>= λ (clusters : List (List TreesData)). Ok (totals_of contexts order clusters))
    chained (Ok clusters) = refl
    chained (Err e) = refl

-- a file without an outline has its fault
no_outline : {V : Type 0} (view : V → List Total) (contexts : ℕ) (order file : List ℕ) (f : ReadFailure)
    → IsReadOrFails {V = Outline} (λ o. o) (Err f) (outline_of file) → IsReadOrFails view (Err f) (totals_in contexts order file)
unfolding read_file
no_outline view contexts order file (Defect e) is = rw is refl
no_outline view contexts order file Fault is = tt
no_outline view contexts order file Memory is = tt

pub unattached : {V : Type 0} (result : Result V ReadFailure) (view : V → List Total) (contexts : ℕ) (order file : List ℕ) (f : ReadFailure)
    → result ≡ Err f → IsReadOrFails {V = Outline} (λ o. o) (Err f) (outline_of file)
    → IsReadOrFails view result (totals_in contexts order file)
unattached result view contexts order file f same is = rw same (no_outline view contexts order file f is)

-- one whose clusters were not all read has theirs
not_all : {V : Type 0} (view : V → List Total) (totals : List Total) (contexts count : ℕ) (order file : List ℕ) (o : Outline)
    (f : ReadFailure) → outline_of file ≡ Ok o → count ≡ contexts
    → IsReadOrFails {V = Unit {0}} (λ _. totals) (Err f) (outline_totals count order o file)
    → IsReadOrFails view (Err f) (totals_in contexts order file)
not_all view totals contexts count order file o (Defect e) outlined same is =
    totals_of_outline contexts order file o outlined ∙ ap (λ (n : ℕ). outline_totals n order o file) (sym same) ∙ is
not_all view totals contexts count order file o Fault outlined same is = tt
not_all view totals contexts count order file o Memory outlined same is = tt

pub unread : {V : Type 0} (result : Result V ReadFailure) (view : V → List Total) (totals : List Total) (contexts count : ℕ)
    (order file : List ℕ) (o : Outline) (f : ReadFailure) → result ≡ Err f → outline_of file ≡ Ok o → count ≡ contexts
    → IsReadOrFails {V = Unit {0}} (λ _. totals) (Err f) (outline_totals count order o file)
    → IsReadOrFails view result (totals_in contexts order file)
unread result view totals contexts count order file o f fails outlined same is =
    rw fails (not_all view totals contexts count order file o f outlined same is)

-- so many totals of nothing are so many
pub counted_empty : (n : ℕ) (totals : List Total) → totals ≡ replicate n empty_total → length totals ≡ n
counted_empty n totals is = ap length is ∙ length-replicate n empty_total

-- one whose clusters were read has their totals
all_read : (totals : List Total) (contexts count : ℕ) (order file : List ℕ) (o : Outline) → outline_of file ≡ Ok o → count ≡ contexts
    → outline_totals count order o file ≡ Ok totals → totals_in contexts order file ≡ Ok totals
all_read totals contexts count order file o outlined same is =
    totals_of_outline contexts order file o outlined ∙ ap (λ (n : ℕ). outline_totals n order o file) (sym same) ∙ is

-- they are as many as there are contexts
totals-counted : (totals : List Total) (count : ℕ) (order file : List ℕ) (o : Outline) → outline_totals count order o file ≡ Ok totals
    → length totals ≡ count
totals-counted totals count order file o is =
    let read = bind_ok (entries_from file o.table 0 o.clusters) _ totals is in
    ap length (sym (ok_is (totals_of count order read.0) totals read.2)) ∙ length-totals_of count order read.0

-- totals that were told are those that stand in the place of others, as many as these
pub all_back : (len contexts : ℕ) (old items new : List Total) (order file : List ℕ) (o : Outline) → outline_of file ≡ Ok o
    → old ≡ items → items ≡ replicate contexts empty_total → len ≡ length old
    → outline_totals (length old) order o file ≡ Ok new
    → totals_in contexts order file ≡ Ok (take len (new ++ drop (length new) items))
all_back len contexts old items new order file o outlined value empty many is =
    let long = totals-counted new (length old) order file o is in
    let same = ap length value in
    let back : take len (new ++ drop (length new) items) ≡ new =
    ap (λ (l : List Total). take len (new ++ l)) (drop_all (length new) items (omega (arith, long, same)))
    ∙ ap (take len) (append-nil new) ∙ take_all len new (omega (arith, long, many)) in
    all_read new contexts (length old) order file o outlined (counted_empty contexts old (value ∙ empty)) is
    ∙ ap (λ (l : List Total). Ok l) (sym back)
